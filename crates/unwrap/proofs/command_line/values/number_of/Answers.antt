use Rattle.std.proofs.Common.{rules, refl, ◌≡◌, ◌∙◌, false}
use Rattle.unwrap.specs.Numbers.{is_number_text, number_of}
use Rattle.unwrap.proofs.Reading.{number_parsed}
use Rattle.unwrap.proofs.command_line.values.number_of.Goals as goal

pub returns-then-is_number : goal.returns-then-is_number
returns-then-is_number c = c.ok.ensures.value ∙ number_parsed c.args.text.now c.parse.result (search rules) c.parse.ensures.value.0

pub returns-else-is_number : goal.returns-else-is_number
unfolding number_of
returns-else-is_number c = let no : is_number_text c.args.text.now ≡ false = search rules in rw no refl
