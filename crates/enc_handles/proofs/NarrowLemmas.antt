-- Code units that are ASCII, as bytes.
use Rattle.std.proofs.Common.{◌≡◌, ℕ, ◌+◌, add-one, true, cond, not, nat_lt, nat_le, None, Some, List, [], ◌∷◌, ◌++◌, length, map, refl, sym, ap, ◌∙◌, arith}
use Rattle.std.proofs.lemmas.Bool.{and_parts, and_from, cond_above}
use Rattle.std.proofs.lemmas.Bool.Decides.{nat_tests}
use Rattle.std.specs.List.{position}
use Rattle.enc_strides.specs.Lanes.{all_below, low_byte, is_past_ascii}
use Rattle.enc_strides.specs.Runs.{run_len}
use Rattle.enc_strides.proofs.UnitLemmas.{ascii_low}
use Rattle.enc_strides.proofs.RunLemmas.{two_chunks}
use lib.Lanes.{chunk}

both_below : (xs ys : List ℕ) → all_below 0x80 xs ≡ true → all_below 0x80 ys ≡ true → all_below 0x80 (xs ++ ys) ≡ true
both_below [] ys first second = second
both_below (x ∷ xs) ys first second =
    let parts = and_parts _ _ first in
    and_from _ _ parts.0 (both_below xs ys parts.1 second)

run_on : (x n m : ℕ) → nat_lt x 0x80 ≡ true → n ≡ m → cond (not (nat_le 0x80 x)) (1 + n) 0 ≡ m + 1
run_on x n m low e = grind (arith, nat_tests)

all_run : (xs : List ℕ) → all_below 0x80 xs ≡ true → run_len xs ≡ length xs
all_run [] low = refl
all_run (x ∷ xs) low =
    let parts = and_parts _ _ low in
    run_on x (run_len xs) (length xs) parts.0 (all_run xs parts.1) ∙ add-one (length xs)

pub none_past : (xs : List ℕ) → all_below 0x80 xs ≡ true → None ≡ position is_past_ascii xs
none_past xs low =
    let e = all_run xs low in
    cond_above (run_len xs) (length xs) (Some (run_len xs)) None None (omega arith) refl

-- two halves of a stride
pub packed : (xs : List ℕ) (at : ℕ) → all_below 0x80 (chunk at 8 xs) ≡ true → all_below 0x80 (chunk (at + 8) 8 xs) ≡ true
    → (map low_byte (chunk at 8 xs ++ chunk (at + 8) 8 xs) ≡ chunk at 16 xs) × (None ≡ position is_past_ascii (chunk at 16 xs))
packed xs at first second =
    let both = both_below (chunk at 8 xs) (chunk (at + 8) 8 xs) first second in
    let whole = two_chunks at 8 8 xs in
    (ascii_low (chunk at 8 xs ++ chunk (at + 8) 8 xs) both ∙ whole, none_past (chunk at 16 xs) (ap (all_below 0x80) (sym whole) ∙ both))
