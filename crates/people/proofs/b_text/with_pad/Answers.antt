use Rattle.std.proofs.Common.{◌++◌, ◌∷◌, [], length, nat_le, sym, ap}
use Rattle.people.specs.BText.{group_octets, b_octets_behind}
use Rattle.people.specs.Groups.{values}
use Rattle.people.proofs.BLemmas.{pad-closes, pad-ignored, pushed}
use Rattle.people.proofs.b_text.with_pad.Goals as goal

pub returns-in-NoLetter : goal.returns-in-NoLetter
returns-in-NoLetter c rest = ap (λ z. c.args.octets.now.items ++ z) (sym (pad-ignored (values c.args.group) rest (ap (λ g. nat_le 2 (length (values g))) c.in-NoLetter.is)))

pub returns-in-OneLetter : goal.returns-in-OneLetter
returns-in-OneLetter c rest = ap (λ z. c.args.octets.now.items ++ z) (sym (pad-ignored (values c.args.group) rest (ap (λ g. nat_le 2 (length (values g))) c.in-OneLetter.is)))

pub returns-in_ok-push_group-in-TwoLetters : goal.returns-in_ok-push_group-in-TwoLetters
returns-in_ok-push_group-in-TwoLetters c rest =
    pushed c.args.octets.now.items (group_octets (values c.args.group)) c.push_group.new.octets.items (b_octets_behind (values c.args.group) (61 ∷ rest)) (b_octets_behind [] rest)
    c.in_ok-push_group-in-TwoLetters.ensures (pad-closes (values c.args.group) rest (ap (λ g. nat_le 2 (length (values g))) c.in-TwoLetters.is))

pub returns-in_ok-push_group-in-ThreeLetters : goal.returns-in_ok-push_group-in-ThreeLetters
returns-in_ok-push_group-in-ThreeLetters c rest =
    pushed c.args.octets.now.items (group_octets (values c.args.group)) c.push_group-in-ThreeLetters.new.octets.items (b_octets_behind (values c.args.group) (61 ∷ rest)) (b_octets_behind [] rest)
    c.in_ok-push_group-in-ThreeLetters.ensures (pad-closes (values c.args.group) rest (ap (λ g. nat_le 2 (length (values g))) c.in-ThreeLetters.is))
