-- The decoder's table of digits.
use Rattle.std.proofs.Common.{◌≡◌, ℕ, ◌+◌, ◌*◌, ◌<◌, ◌≤◌, [], ◌∷◌, Bool, true, false, cond, nat_lt, get_or, map, refl, ap, sym, ◌∙◌, arith}
use Rattle.std.specs.List.{range_with_len}
use Rattle.std.specs.Char.{is_digit, digit_value}
use Rattle.std.proofs.lemmas.List.FromFn.{get_or-map-range_with_len}
use Rattle.std.proofs.lemmas.Bool.{agree_below_at, le-ltb}
use Rattle.qp.specs.Digits.{digit_or_none}
use Rattle.qp.specs.Line.{escape_value}
use Rattle.qp.specs.declared.robust.TheConstants.{DIGITS}

all_digits : DIGITS ≡ map digit_or_none (range_with_len 0 256)
unfolding digit_or_none
all_digits = refl

pub digit_at : (b : ℕ) → b < 256 → get_or DIGITS b 0 ≡ digit_or_none b
digit_at b below = ap (λ t. get_or t b 0) all_digits ∙ get_or-map-range_with_len digit_or_none 0 256 b b 0 below (omega arith)

-- a number below 16 comes of a digit alone
pub is-digit : (b n : ℕ) → n ≡ digit_or_none b → n < 16 → (is_digit b 16 ≡ true) × (n ≡ digit_value b)
unfolding digit_or_none
is-digit b n e small = by_digit (is_digit b 16) refl
  where
    by_digit : (t : Bool) → is_digit b 16 ≡ t → (is_digit b 16 ≡ true) × (n ≡ digit_value b)
    by_digit true h = (h, e ∙ ap (λ t. cond t (digit_value b) 255) h)
    by_digit false h = let large : n ≡ 255 = e ∙ ap (λ t. cond t (digit_value b) 255) h in absurd (omega (arith, large, small))

pub digits-say : (u v tens ones : ℕ) → is_digit u 16 ≡ true → is_digit v 16 ≡ true → tens ≡ digit_value u → ones ≡ digit_value v → escape_value u v ≡ (tens * 16 + ones) ∷ []
digits-say u v tens ones h i e f = rw (h, i, e, f) refl

pub digit-test : (b : ℕ) → b < 256 → nat_lt (digit_or_none b) 16 ≡ is_digit b 16
unfolding digit_or_none
digit-test b below = agree_below_at (λ d. nat_lt (digit_or_none d) 16) (λ d. is_digit d 16) 256 b refl below

-- a number from 16 on comes of no digit
pub no-digit : (b n : ℕ) → b < 256 → n ≡ digit_or_none b → 16 ≤ n → is_digit b 16 ≡ false
no-digit b n below e large = sym (digit-test b below) ∙ ap (λ m. nat_lt m 16) (sym e) ∙ le-ltb n 16 large

pub keeps-high : (u v : ℕ) → is_digit u 16 ≡ false → escape_value u v ≡ 61 ∷ u ∷ v ∷ []
keeps-high u v h = rw h refl

pub keeps-low : (u v : ℕ) → is_digit v 16 ≡ false → escape_value u v ≡ 61 ∷ u ∷ v ∷ []
keeps-low u v h = by_high (is_digit u 16) refl
  where
    by_high : (t : Bool) → is_digit u 16 ≡ t → escape_value u v ≡ 61 ∷ u ∷ v ∷ []
    by_high true e = rw (e, h) refl
    by_high false e = rw e refl
