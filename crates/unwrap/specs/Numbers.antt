-- Numbers of a command line.
use Rattle.std.specs.Prelude.{ℕ, Bool, List, Option, Some, None, ◌&&◌, length, if◌then◌else◌}
use Rattle.std.specs.Prelude.{nat_lt, option_and_then}
use Rattle.std.specs.Char.{is_ascii_digit}
use Rattle.std.specs.List.{list_all}
use Rattle.std.specs.Str.Parse.{digits_value}

-- one to nine decimal digits
abbrev pub is_number_text : List ℕ → Bool
is_number_text text =
    nat_lt 0 (length text) && (nat_lt (length text) 10 && list_all is_ascii_digit text)

-- the number that a text of this form writes
unfoldable pub number_of : List ℕ → Option ℕ
number_of text = if is_number_text text then Some (digits_value 10 text) else None

-- a number from `least` to `most`
abbrev pub within : ℕ → ℕ → ℕ → Option ℕ
within least most n = if nat_lt n least then None else (if nat_lt most n then None else Some n)

-- the number from `least` to `most` that a text writes
abbrev pub number_in : ℕ → ℕ → List ℕ → Option ℕ
number_in least most text = option_and_then (within least most) (number_of text)

-- the number of an option from `least` to `most`, or what stands for it where it isn't given; none
-- where its text isn't such a number
abbrev pub number_read : ℕ → ℕ → ℕ → Option (List ℕ) → Option ℕ
number_read least most default None = Some default
number_read least most default (Some text) = number_in least most text
