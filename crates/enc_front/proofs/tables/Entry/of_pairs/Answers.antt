use Rattle.std.proofs.Common.{◌≡◌, Bool, None, IfOk, IfErr, sym, subst, if◌then◌else◌}
use Rattle.std.specs.Option.{option_map}
use Rattle.enc_front.specs.declared.tables.IndexKind.{IndexKind}
use Rattle.enc_front.specs.Indexes.{IsMemoryOr, of_entry, row_error}
use Rattle.enc_front.specs.Ranges.{range_places}
use Rattle.enc_front.specs.Tables.{pair_places, places_of, row_fault}
use Rattle.enc_front.proofs.RowLemmas.{kind_of_ranges}
use Rattle.enc_front.proofs.tables.Entry.of_pairs.Goals as goal

pub returns-then-is_ranges-clause-entry : goal.returns-then-is_ranges-clause-entry
returns-then-is_ranges-clause-entry c =
    let P : IndexKind → Type 0 =
    λ kind. IfOk c.of_rows.result
    (λ entry. of_entry entry ≡ (kind, places_of kind c.args.pairs.now)) in
    subst P (sym (kind_of_ranges c.args.kind (sym c.if-is_ranges.ensures))) c.of_rows.ensures.entry

pub returns-then-is_ranges-clause-sound : goal.returns-then-is_ranges-clause-sound
returns-then-is_ranges-clause-sound c =
    let P : IndexKind → Type 0 =
    λ kind. IfOk c.of_rows.result (λ entry. row_fault kind c.args.pairs.now ≡ None) in
    subst P (sym (kind_of_ranges c.args.kind (sym c.if-is_ranges.ensures))) c.of_rows.ensures.sound

pub returns-then-is_ranges-clause-fault : goal.returns-then-is_ranges-clause-fault
returns-then-is_ranges-clause-fault c =
    let P : IndexKind → Type 0 =
    λ kind. IfErr c.of_rows.result
    (IsMemoryOr (option_map row_error (row_fault kind c.args.pairs.now))) in
    subst P (sym (kind_of_ranges c.args.kind (sym c.if-is_ranges.ensures))) c.of_rows.ensures.fault

pub returns-clause-entry : goal.returns-clause-entry
returns-clause-entry c =
    let P : Bool → Type 0 =
    λ ranges. IfOk c.of_flat.result
    (λ entry. of_entry entry
    ≡ (
      c.args.kind,
      if ranges then range_places c.args.pairs.now
          else pair_places c.args.pairs.now,
    )) in
    subst P c.if-is_ranges.ensures c.of_flat.ensures.entry
