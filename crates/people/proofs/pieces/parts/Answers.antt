use Rattle.std.proofs.Common.{◌++◌, ℕ, List, false, map, ap, ◌∙◌}
use Rattle.std.proofs.lemmas.List.{map-append}
use Rattle.enc_front.specs.Indexes.{Indexes, indexes_of}
use Rattle.people.specs.Parts.{people_syntax}
use Rattle.people.specs.Slices.{seen_part, given_part}
use Rattle.people.proofs.FirstWords.{parts_after, parts_after-start}
use Rattle.people.proofs.PartLemmas.{turn, end, shorter}
use Rattle.people.proofs.pieces.parts.Goals as goal

pub loop-octets-init : goal.loop-octets-init
loop-octets-init c =
    let T : Indexes = indexes_of c.args.tables.now in
    let s : List ℕ = c.args.bytes.now in
    ap (λ z. map given_part z ++ map seen_part (parts_after (people_syntax T) false s)) c.new-parts.ensures.items ∙ ap (map seen_part) (parts_after-start (people_syntax T) s)

pub loop-octets-smaller : goal.loop-octets-smaller
loop-octets-smaller c =
    let f = rw c.in-Some.is at c.in_ok-first.ensures.found in
    shorter (indexes_of c.args.tables.now) _ _ _ _ _ _ f

pub loop-octets-preserved : goal.loop-octets-preserved
loop-octets-preserved c =
    let f = rw c.in-Some.is at c.in_ok-first.ensures.found in
    turn (indexes_of c.args.tables.now) c.loop-octets.after_word _ _ _ _ _ _ (map given_part c.loop-octets.parts.items) (map given_part c.push_text.new.parts.items) _ _ f
    c.in_ok-push_text.ensures (ap (map given_part) c.in_ok-push.ensures.items ∙ map-append given_part c.push_text.new.parts.items _) c.loop-octets.invariant

pub returns : goal.returns
returns c =
    let none = rw c.in_default.is at c.in_ok-first.ensures.none in
    end (indexes_of c.args.tables.now) c.loop-octets.after_word c.loop-octets.rest.now (map given_part c.loop-octets.parts.items) _ _ none.0 c.in_ok-push_text-2.ensures c.loop-octets.invariant
