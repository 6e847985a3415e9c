-- Values that are read by their forms.
use Rattle.std.proofs.Common.{◌≡◌, ◌<◌, ℕ, true, List, length, Result, refl, arith}
use Rattle.std.specs.Prelude.{◌^◌}
use Rattle.std.specs.Char.{is_ascii_digit}
use Rattle.std.specs.List.{list_all}
use Rattle.std.specs.Result.{result_ok}
use Rattle.std.specs.Str.Parse.{ParsesUnsigned, digits_value}
use Rattle.std.proofs.lemmas.Grind.{common_steps}
use Rattle.std.proofs.lemmas.Str.Parse.{IsDigitsTest, digits_value_short, numerals_by_value, parse_gives}
use Rattle.unwrap.specs.Numbers.{is_number_text, number_of}

tells_list_all : IsDigitsTest (λ ds. list_all is_ascii_digit ds ≡ true)
tells_list_all = record {
  empty = refl;
  parts = λ c cs h. grind (arith, common_steps);
  more = λ c cs k h. grind (arith, common_steps);
}

-- what `parse` gives of such a text
pub number_parsed : {E : Type 0} (text : List ℕ) (r : Result ℕ E) → is_number_text text ≡ true → ParsesUnsigned 32 10 text r → result_ok r ≡ number_of text
unfolding number_of
number_parsed text r form h =
    let own = numerals_by_value (λ ds. list_all is_ascii_digit ds ≡ true) tells_list_all in
    let some : 0 < length text = grind (arith, common_steps) in
    let few : length text < 10 = grind (arith, common_steps) in
    let digits : list_all is_ascii_digit text ≡ true = grind (arith, common_steps) in
    let small : digits_value 10 text < 10 ^ 9 = digits_value_short own text 9 digits (omega arith) in
    rw (parse_gives own 32 text r h digits some (omega arith), form) refl
