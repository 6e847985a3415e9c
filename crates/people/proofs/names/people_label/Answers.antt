use Rattle.std.proofs.Common.{refl, ◌∙◌, ap}
use Rattle.std.specs.Option.{option_or}
use Rattle.std.proofs.lemmas.Str.Ascii.{trim_ascii_is}
use Rattle.enc_front.specs.Encoding.{find_label, trimmed_label}
use Rattle.people.specs.Names.{people_label, other_names}
use Rattle.people.proofs.names.people_label.Goals as goal

pub returns-in-Some : goal.returns-in-Some
unfolding people_label
returns-in-Some c = ap (λ o. option_or o (find_label other_names (trimmed_label c.args.label.now))) c.in-Some.ensures

pub returns-in-None : goal.returns-in-None
unfolding people_label other_names
returns-in-None c =
    let bytes = c.args.label.now in
    let is = trim_ascii_is bytes c.trim_ascii.result.now _ refl c.trim_ascii.ensures.value in
    c.find_name.ensures ∙ (ap (λ t. find_label other_names t) is ∙ ap (λ o. option_or o (find_label other_names (trimmed_label bytes))) c.in-None.ensures)
