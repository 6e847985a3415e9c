use Rattle.std.proofs.Common.{◌≡◌, ℕ, Some, None, [], false, sym, ◌∙◌, ap, refl, arith, take}
use Rattle.std.proofs.Common.{if◌then◌else◌}
use Rattle.std.specs.Prelude.{is_some, slice_index_or, ◌==◌}
use Rattle.std.specs.Option.{option_map, option_map_or}
use Rattle.std.proofs.lemmas.List.{at_drop_all, take_all}
use Rattle.enc_front.specs.Cells.{cell_places}
use Rattle.enc_front.specs.Indexes.{row_error}
use Rattle.enc_front.specs.Keys.{key_of}
use Rattle.enc_front.specs.Tables.{fault_behind, pair_places, row_fault}
use Rattle.enc_front.proofs.KeyLemmas.{keys_find}
use Rattle.enc_front.proofs.RowLemmas.{PassesFlat, flat_goes, flat_stops, no_pairs, pair_step}
use Rattle.enc_front.proofs.RowLemmas.{passes_flat, same_places}
use Rattle.enc_front.proofs.rows.flat_index.Goals as goal
use Rattle.enc_front.proofs.rows.flat_index.Goals.{After-is_some-taken, After-sorted_keys}

pub loop-row-init : goal.loop-row-init
loop-row-init c = record {
  len = c.in_ok-cells.ensures.len ∙ c.place_count.ensures;
  places = λ place. c.in_ok-cells.ensures.none place ∙ sym (no_pairs place);
  fault = refl;
}

taken : (c : After-is_some-taken)
    → c.is_some-taken.result
    ≡ is_some (pair_places (take c.loop-row.row c.args.pairs.now)
    (slice_index_or c.args.pairs.now c.loop-row.row (0, 0)).0)
taken c = c.is_some-taken.ensures
    ∙ ap (λ o. is_some o) (c.at.ensures
    ∙ c.loop-row.invariant.places (slice_index_or c.args.pairs.now c.loop-row.row (0, 0)).0)

pub returns-in-Some-clause-fault : goal.returns-in-Some-clause-fault
returns-in-Some-clause-fault c =
    ap (λ o. option_map row_error o) (sym c.loop-row.invariant.fault
    ∙ flat_stops c.args.kind c.args.pairs.now c.loop-row.row
    (0, 0) c.is_some-taken.result c.in-Some.why c.requires (omega arith)
    (taken (goal.at.returns-in-Some-clause-fault c).After-is_some-taken)
    (sym c.in-Some.ensures))

pub loop-row-preserved : goal.loop-row-preserved
loop-row-preserved c =
    let pairs = c.args.pairs.now in
    let i = c.loop-row.row in
    let row = slice_index_or pairs i (0, 0) in
    let t = taken (goal.at.loop-row-preserved c).After-is_some-taken in
    let passes : PassesFlat c.args.kind c.is_some-taken.result row =
    passes_flat c.args.kind c.is_some-taken.result row (sym c.in-None.ensures) in
    record {
      len = c.put.ensures.len ∙ c.loop-row.invariant.len;
      places = λ place. c.put.ensures.put place
          ∙ ap (λ o. if row.0 == place then Some row.1 else o) (c.loop-row.invariant.places place)
          ∙ sym (pair_step pairs i (0, 0) c.is_some-taken.result place (omega arith) t passes.new);
      fault = flat_goes c.args.kind pairs i (0, 0) c.is_some-taken.result c.requires (omega arith) t
          (sym c.in-None.ensures) ∙ c.loop-row.invariant.fault;
    }

places_are : (c : After-sorted_keys) (place : ℕ)
    → cell_places c.loop-row.cells.cells.items place ≡ pair_places c.args.pairs.now place
places_are c place = c.loop-row.invariant.places place
    ∙ ap (λ front. pair_places front place) (take_all c.loop-row.row c.args.pairs.now (omega arith))

pub of-requires-clause-finds : goal.of-requires-clause-finds
of-requires-clause-finds c scalar place small =
    let pairs = c.args.pairs.now in
    let i = c.loop-row.row in
    let none : row_fault c.args.kind pairs ≡ None =
    sym c.loop-row.invariant.fault
    ∙ at_drop_all (λ rest. fault_behind c.args.kind (take i pairs) rest) pairs i
    (omega arith) in
    c.in_ok-keys.ensures.keys (key_of scalar place)
    ∙ keys_find c.args.kind [] pairs c.requires none scalar place small
    ∙ ap (λ o. option_map_or (λ s. s == scalar) o false)
    (sym (places_are (goal.at.of-requires-clause-finds c).After-sorted_keys place))

pub returns-clause-places : goal.returns-clause-places
returns-clause-places c = c.of.ensures
    ∙ same_places _ _ (places_are (goal.at.returns-clause-places c).After-sorted_keys)
