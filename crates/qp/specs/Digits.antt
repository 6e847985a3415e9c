-- Hexadecimal digits of either case, and soft line breaks, as a decoder looks for them (RFC 2045
-- section 6.7, rules 1 and 5).
use Rattle.std.specs.Prelude.{ℕ, Bool, false, ◌==◌, ◌&&◌, if◌then◌else◌, List, [], ◌∷◌}
use Rattle.std.specs.Char.{digit_value, is_digit}

-- the number that a hexadecimal digit says, or 255
unfoldable pub digit_or_none : ℕ → ℕ
digit_or_none b = if is_digit b 16 then digit_value b else 255

-- `=` and a CR LF pair stand here
abbrev pub begins_soft_break : List ℕ → Bool
begins_soft_break [] = false
begins_soft_break (b ∷ []) = false
begins_soft_break (b ∷ c ∷ []) = false
begins_soft_break (b ∷ c ∷ d ∷ rest) = (b == 61) && ((c == 13) && (d == 10))
