-- Units and their bytes, lane by lane.
use Rattle.std.proofs.Common.{◌≡◌, ◌<◌, Bool, true, false, ◌&&◌, nat_lt, ℕ, zero, suc, ◌+◌, ◌*◌, ◌/◌, ◌%◌, ◌^◌, List, [], ◌∷◌, ◌++◌, slice_index_or, map, length, replicate, Fits, w8, w16, bit_and, refl, ap, ap₂, ◌∙◌, arith}
use Rattle.std.proofs.lemmas.List.{map-id}
use Rattle.std.proofs.lemmas.Bool.Decides.{nat_tests}
use Rattle.std.proofs.lemmas.Nat.{and_mask}
use Rattle.std.proofs.lemmas.Simd.{zip2_splat}
use lib.Lanes.{Each1, zip2, digits_l, number_l}
use Rattle.enc_strides.specs.Lanes.{all_below, low_byte, swapped, units_of}

masked : (xs : List ℕ) → map (λ x. bit_and x 255) xs ≡ map low_byte xs
masked [] = refl
masked (x ∷ xs) = ap₂ (λ y ys. y ∷ ys) (and_mask x 8) (masked xs)

pub low_lanes : (xs : List ℕ) (n : ℕ) → length xs ≡ n → zip2 bit_and xs (replicate n 255) ≡ map low_byte xs
low_lanes xs n long = zip2_splat bit_and xs n 255 long ∙ masked xs

pub low_fit : (xs : List ℕ) → Each1 (Fits w8) (map low_byte xs)
low_fit [] = tt
low_fit (x ∷ xs) = (record { fits = omega arith }, low_fit xs)

pair_step : (a b n : ℕ) → a < 256 → b < 256 → (a + 256 * (b + 256 * n)) % 65536 ≡ a + 256 * b
pair_step a b n low high = omega arith

pair_rest : (a b n : ℕ) → a < 256 → b < 256 → (a + 256 * (b + 256 * n)) / 65536 ≡ n
pair_rest a b n low high = omega arith

-- bytes in twos are the digits of their number
pub paired : (n : ℕ) (xs : List ℕ) → length xs ≡ 2 * n → Each1 (Fits w8) xs → digits_l 65536 n (number_l 256 xs) ≡ units_of xs
paired zero [] e fits = refl
paired zero (x ∷ xs) e fits = absurd (omega arith)
paired (suc n) [] e fits = absurd (omega arith)
paired (suc n) (a ∷ []) e fits = absurd (omega arith)
paired (suc n) (a ∷ b ∷ xs) e fits =
    let rest = number_l 256 xs in
    ap₂ (λ y ys. y ∷ ys) (pair_step a b rest fits.0.fits fits.1.0.fits)
    (ap (digits_l 65536 n) (pair_rest a b rest fits.0.fits fits.1.0.fits) ∙ paired n xs (omega arith) fits.1.1)

swap_step : (x : ℕ) → x < 65536 → (x * 256 % 65536 + x / 256) % 65536 ≡ x % 256 * 256 + x / 256
swap_step x fits = omega arith

pub swapped_lanes : (n : ℕ) (xs : List ℕ) → length xs ≡ n → Each1 (Fits w16) xs →
    zip2 (λ a b. (a + b) % 65536) (zip2 (λ x k. x * 2 ^ k % 65536) xs (replicate n 8)) (zip2 (λ x k. x / 2 ^ k) xs (replicate n 8)) ≡ map swapped xs
swapped_lanes zero [] e fits = refl
swapped_lanes zero (x ∷ xs) e fits = absurd (omega arith)
swapped_lanes (suc n) [] e fits = absurd (omega arith)
swapped_lanes (suc n) (x ∷ xs) e fits = ap₂ (λ y ys. y ∷ ys) (swap_step x fits.0.fits) (swapped_lanes n xs (omega arith) fits.1)

pub low_of_two : (a b : List ℕ) → map low_byte a ++ map low_byte b ≡ map low_byte (a ++ b)
low_of_two [] b = refl
low_of_two (x ∷ a) b = ap (λ ys. low_byte x ∷ ys) (low_of_two a b)

-- a list of two
pub both_of : (xs : List (List ℕ)) → length xs ≡ 2 → map (λ x. x) (slice_index_or xs 0 []) ∷ map (λ x. x) (slice_index_or xs 1 []) ∷ [] ≡ xs
both_of [] e = absurd (omega arith)
both_of (x ∷ []) e = absurd (omega arith)
both_of (x ∷ y ∷ []) e = ap₂ (λ a b. a ∷ b ∷ []) (map-id x) (map-id y)
both_of (x ∷ y ∷ z ∷ xs) e = absurd (omega arith)

-- below 256 a unit is its low byte
low_step : (x : ℕ) → x < 128 → x % 256 ≡ x
low_step x small = omega arith

below_head : (x : ℕ) (all : Bool) → (nat_lt x 128 && all) ≡ true → (x < 128) × (all ≡ true)
below_head x true e = (grind (arith, nat_tests), refl)
below_head x false e = absurd (grind (arith, nat_tests))

pub ascii_low : (xs : List ℕ) → all_below 128 xs ≡ true → map low_byte xs ≡ xs
ascii_low [] e = refl
ascii_low (x ∷ xs) e =
    let both = below_head x (all_below 128 xs) e in
    ap₂ (λ y ys. y ∷ ys) (low_step x both.0) (ascii_low xs both.1)
