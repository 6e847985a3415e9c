-- What masks of lanes say of the lanes.
use Rattle.std.proofs.Common.{◌≡◌, ℕ, ◌+◌, ◌*◌, ◌-◌, Bool, true, false, None, Some, ◌<◌, ◌≤◌, List, [], ◌∷◌, map, length, cond, not, ◌&&◌, ◌||◌, nat_le, nat_lt, nat_eq, ◌++◌, ◌^◌, refl, sym, subst, ap, ap₂, inl, inr, ◌∙◌, arith}
use Rattle.std.proofs.Math.Nat.{pow-succ'}
use Rattle.std.proofs.lemmas.Bool.{cases_lt, cond_below, cond_above}
use Rattle.std.proofs.lemmas.Bool.Decides.{nat_tests}
use Rattle.std.proofs.lemmas.List.Sums.{prefix_len-le-length}
use Rattle.std.proofs.lemmas.Simd.{leading_from_mask_l, trailing_mask_l, mask_l-lt}
use Rattle.std.specs.List.{position, list_any, prefix_len}
use lib.Count.{count_trailing_zeros}
use lib.Lanes.{mask_l}
use Rattle.enc_strides.specs.Lanes.{is_from, is_in, all_below}

bit_step : (b : Bool) (n l m : ℕ) → cond (not b) (1 + n) 0 ≡ 1 + l → (n ≡ l → m ≡ 0) → cond b 1 0 + 2 * m ≡ 0
bit_step true n l m e rest = omega arith
bit_step false n l m e rest = let zero : m ≡ 0 = rest (omega arith) in omega arith

none_set : (p : ℕ → Bool) (xs : List ℕ) → prefix_len (λ x. not (p x)) xs ≡ length xs → mask_l (map p xs) ≡ 0
none_set p [] e = refl
none_set p (x ∷ xs) e = bit_step (p x) (prefix_len (λ x. not (p x)) xs) (length xs) (mask_l (map p xs)) (omega arith) (none_set p xs)

-- the lowest bit of a mask, or none, is the first lane that passes
pub no_lane : (p : ℕ → Bool) (xs : List ℕ) (mask : ℕ) → mask ≡ mask_l (map p xs) → mask ≡ 0 → None ≡ position p xs
no_lane p xs mask e zero =
    let all = leading_from_mask_l p xs (sym e ∙ zero) in
    let k = prefix_len (λ x. not (p x)) xs in
    cond_above k (length xs) (Some k) None None (omega arith) refl

pub first_lane : (p : ℕ → Bool) (xs : List ℕ) (mask : ℕ) → length xs ≤ 64 → mask ≡ mask_l (map p xs) → 0 < mask → Some (count_trailing_zeros 64 mask) ≡ position p xs
first_lane p xs mask few e some =
    let k = prefix_len (λ x. not (p x)) xs in
    let bound = prefix_len-le-length (λ x. not (p x)) xs in
    let lowest : count_trailing_zeros 64 mask ≡ k = ap (count_trailing_zeros 64) e ∙ trailing_mask_l p 64 xs few (omega arith) in
    elim (cases_lt k (length xs)) [
      | inl inside ↦ ap Some lowest ∙ cond_below k (length xs) (Some k) None inside
      | inr past ↦ let none = none_set p xs (omega arith) in absurd (omega arith)
    ]

below_step : (n x m : ℕ) (all : Bool) → nat_eq m 0 ≡ all → nat_eq (cond (nat_le n x) 1 0 + 2 * m) 0 ≡ (nat_lt x n && all)
below_step n x m all e = grind (arith, nat_tests)

-- a mask is empty where all lanes are below
pub none_from : (n : ℕ) (xs : List ℕ) → nat_eq (mask_l (map (is_from n) xs)) 0 ≡ all_below n xs
none_from n [] = refl
none_from n (x ∷ xs) = below_step n x (mask_l (map (is_from n) xs)) (all_below n xs) (none_from n xs)

any_step : (b : Bool) (m : ℕ) (any : Bool) → not (nat_eq m 0) ≡ any → not (nat_eq (cond b 1 0 + 2 * m) 0) ≡ (b || any)
any_step true m any e = grind (arith, nat_tests)
any_step false m any e = grind (arith, nat_tests)

-- a mask isn't empty where some lane passes
pub some_set : (p : ℕ → Bool) (xs : List ℕ) → not (nat_eq (mask_l (map p xs)) 0) ≡ list_any p xs
some_set p [] = refl
some_set p (x ∷ xs) = any_step (p x) (mask_l (map p xs)) (list_any p xs) (some_set p xs)

part_step : (a b x l m n : ℕ) → a ≤ b → l + m ≡ n → (cond (is_in a b x) 1 0 + 2 * l) + (cond (is_from b x) 1 0 + 2 * m) ≡ cond (is_from a x) 1 0 + 2 * n
part_step a b x l m n le e = grind (arith, nat_tests)

-- the lanes of a range and those behind it
pub in_parts : (a b : ℕ) → a ≤ b → (xs : List ℕ) → mask_l (map (is_in a b) xs) + mask_l (map (is_from b) xs) ≡ mask_l (map (is_from a) xs)
in_parts a b le [] = refl
in_parts a b le (x ∷ xs) = part_step a b x (mask_l (map (is_in a b) xs)) (mask_l (map (is_from b) xs)) (mask_l (map (is_from a) xs)) le (in_parts a b le xs)

or_of : (a b c d : Bool) → ((a || b) || (c || d)) ≡ ((a || c) || (b || d))
or_of true b c d = refl
or_of false true true d = refl
or_of false true false d = refl
or_of false false c d = refl

-- some lane passes one of two tests
pub any_or : (p q : ℕ → Bool) (xs : List ℕ) → (list_any p xs || list_any q xs) ≡ list_any (λ x. p x || q x) xs
any_or p q [] = refl
any_or p q (x ∷ xs) = or_of (p x) (list_any p xs) (q x) (list_any q xs) ∙ ap (λ b. (p x || q x) || b) (any_or p q xs)

pub also : (p q : ℕ → Bool) (xs : List ℕ) (b r : Bool) → b ≡ list_any p xs → r ≡ list_any q xs → (b || r) ≡ list_any (λ x. p x || q x) xs
also p q xs b r e f = ap₂ (λ y z. y || z) e f ∙ any_or p q xs

-- sixteen lanes have a mask of sixteen bits
pub few_of : (mask : ℕ) (ms : List Bool) → length ms ≡ 16 → mask ≡ mask_l ms → mask < 65536
few_of mask ms long e = omega (arith, subst (λ n. mask_l ms < 2 ^ n) long (mask_l-lt ms))

more_lanes : (b m k kk n r : ℕ) → kk ≡ 2 * k → m + k * n ≡ r → (b + 2 * m) + kk * n ≡ b + 2 * r
more_lanes b m k kk n r double e = grind (arith, double)

pub masks_in_a_row : (p : ℕ → Bool) (xs ys : List ℕ) → mask_l (map p xs) + 2 ^ length xs * mask_l (map p ys) ≡ mask_l (map p (xs ++ ys))
masks_in_a_row p [] ys = omega arith
masks_in_a_row p (x ∷ xs) ys =
    let double : 2 ^ length (x ∷ xs) ≡ 2 * 2 ^ length xs = pow-succ' 2 (length xs) in
    more_lanes (cond (p x) 1 0) (mask_l (map p xs)) (2 ^ length xs) (2 ^ length (x ∷ xs)) (mask_l (map p ys)) (mask_l (map p (xs ++ ys))) double (masks_in_a_row p xs ys)

pub two_strides : (p : ℕ → Bool) (xs ys : List ℕ) (first second : ℕ) → length xs ≡ 16 → first ≡ mask_l (map p xs) → second ≡ mask_l (map p ys) → first + second * 65536 ≡ mask_l (map p (xs ++ ys))
two_strides p xs ys first second long e f =
    let row = subst (λ n. mask_l (map p xs) + 2 ^ n * mask_l (map p ys) ≡ mask_l (map p (xs ++ ys))) long (masks_in_a_row p xs ys) in
    omega (arith, e, f, row)
