-- The code units of a list of bytes, one at a time and from a place on.
use Rattle.std.proofs.Common.{◌≡◌, ℕ, zero, suc, ◌+◌, ◌*◌, ◌-◌, ◌/◌, ◌<◌, ◌≤◌, Bool, true, false, cond, List, [], ◌∷◌, map, length, take, drop, get_or, Fits, w8, refl, sym, ap, ap₂, ◌∙◌, arith, length-take-le, length-drop, take-take, get_or-take}
use Rattle.std.proofs.lemmas.List.{drop-take, at_drop_more}
use Rattle.std.proofs.lemmas.Simd.{chunk-fits}
use lib.Lanes.{Each1}
use Rattle.enc_strides.specs.Lanes.{swapped, units_of}
use Rattle.enc_handles.specs.Utf16.{code_unit, code_units, is_surrogate, bmp_len}

pub code_units-len : (big : Bool) (bytes : List ℕ) (n : ℕ) → 2 * n ≤ length bytes → n ≤ length (code_units big bytes)
code_units-len big bytes zero h = omega arith
code_units-len big [] (suc n) h = absurd (omega arith)
code_units-len big (a ∷ []) (suc n) h = absurd (omega arith)
code_units-len big (a ∷ b ∷ bytes) (suc n) h = let rest = code_units-len big bytes n (omega arith) in omega arith

pub code_units-at : (big : Bool) (bytes : List ℕ) (i : ℕ) → 2 * i + 1 < length bytes
    → get_or (code_units big bytes) i 0 ≡ code_unit big (get_or bytes (2 * i) 0) (get_or bytes (2 * i + 1) 0)
code_units-at big [] i h = absurd (omega arith)
code_units-at big (a ∷ []) i h = absurd (omega arith)
code_units-at big (a ∷ b ∷ bytes) zero h = refl
code_units-at big (a ∷ b ∷ bytes) (suc i) h =
    let first : 2 * suc i ≡ suc (suc (2 * i)) = omega arith in
    let second : 2 * suc i + 1 ≡ suc (suc (2 * i + 1)) = omega arith in
    rw (second, first) (code_units-at big bytes i (omega arith))

pub drop-code_units : (big : Bool) (bytes : List ℕ) (n : ℕ) → 2 * n ≤ length bytes → drop n (code_units big bytes) ≡ code_units big (drop (2 * n) bytes)
drop-code_units big bytes zero h = refl
drop-code_units big [] (suc n) h = absurd (omega arith)
drop-code_units big (a ∷ []) (suc n) h = absurd (omega arith)
drop-code_units big (a ∷ b ∷ bytes) (suc n) h =
    let twice : 2 * suc n ≡ suc (suc (2 * n)) = omega arith in
    rw twice (drop-code_units big bytes n (omega arith))

-- a window of n code units: its length, its elements, what it is from a place on
pub length-window : (big : Bool) (bytes : List ℕ) (n : ℕ) → 2 * n ≤ length bytes → length (take n (code_units big bytes)) ≡ n
length-window big bytes n h = length-take-le n (code_units big bytes) (code_units-len big bytes n h)

pub window-at : (big : Bool) (bytes : List ℕ) (n i : ℕ) → 2 * n ≤ length bytes → i < n
    → get_or (take n (code_units big bytes)) i 0 ≡ code_unit big (get_or bytes (2 * i) 0) (get_or bytes (2 * i + 1) 0)
window-at big bytes n i h below = get_or-take n (code_units big bytes) i 0 below ∙ code_units-at big bytes i (omega arith)

pub drop-window : (big : Bool) (bytes : List ℕ) (n m : ℕ) → 2 * n ≤ length bytes → m ≤ n
    → take (n - m) (code_units big (drop (2 * m) bytes)) ≡ drop m (take n (code_units big bytes))
drop-window big bytes n m h below =
    let whole : m + (n - m) ≡ n = omega arith in
    ap (take (n - m)) (sym (drop-code_units big bytes m (omega arith)))
    ∙ (sym (drop-take m (n - m) (code_units big bytes)) ∙ ap (λ k. drop m (take k (code_units big bytes))) whole)

pub window-big : (big : Bool) (bytes : List ℕ) (n i : ℕ) → big ≡ true → 2 * n ≤ length bytes → i < n
    → get_or (take n (code_units big bytes)) i 0 ≡ get_or bytes (2 * i) 0 * 0x100 + get_or bytes (2 * i + 1) 0
window-big big bytes n i is h below =
    window-at big bytes n i h below ∙ ap (λ (b : Bool). code_unit b (get_or bytes (2 * i) 0) (get_or bytes (2 * i + 1) 0)) is

pub window-little : (big : Bool) (bytes : List ℕ) (n i : ℕ) → big ≡ false → 2 * n ≤ length bytes → i < n
    → get_or (take n (code_units big bytes)) i 0 ≡ get_or bytes (2 * i + 1) 0 * 0x100 + get_or bytes (2 * i) 0
window-little big bytes n i is h below =
    window-at big bytes n i h below ∙ ap (λ (b : Bool). code_unit b (get_or bytes (2 * i) 0) (get_or bytes (2 * i + 1) 0)) is

-- where the unit at i is a surrogate and none stands before it
pub bmp_len-here : (units : List ℕ) (i unit : ℕ) → i < length units → unit ≡ get_or units i 0 → is_surrogate unit ≡ true
    → i + bmp_len (drop i units) ≡ bmp_len units → bmp_len units ≡ i
bmp_len-here units i unit within here met so_far =
    let none : bmp_len (drop i units) ≡ 0 =
    at_drop_more bmp_len units i 0 within
    ∙ ap (λ (b : Bool). cond b 0 (bmp_len (drop (i + 1) units) + 1)) (ap (λ (u : ℕ). is_surrogate u) (sym here) ∙ met) in
    omega arith

pub twice_length-code_units : (big : Bool) (bytes : List ℕ) → (2 * length (code_units big bytes) ≤ length bytes) × (length bytes < 2 * length (code_units big bytes) + 2)
twice_length-code_units big [] = (omega arith, omega arith)
twice_length-code_units big (a ∷ []) = (omega arith, omega arith)
twice_length-code_units big (a ∷ b ∷ bytes) = let rest = twice_length-code_units big bytes in (omega (arith, rest.0), omega (arith, rest.1))

pub length-code_units : (big : Bool) (bytes : List ℕ) → length (code_units big bytes) ≡ length bytes / 2
length-code_units big bytes = let h = twice_length-code_units big bytes in omega (arith, h.0, h.1)

-- bytes in twos, the low one first, are code units
pub units_of-code_units : (bytes : List ℕ) → units_of bytes ≡ code_units false bytes
units_of-code_units [] = refl
units_of-code_units (a ∷ []) = refl
units_of-code_units (a ∷ b ∷ bytes) = ap₂ (λ u us. u ∷ us) (omega arith) (units_of-code_units bytes)

pub take-code_units : (big : Bool) (bytes : List ℕ) (n : ℕ) → 2 * n ≤ length bytes → code_units big (take (2 * n) bytes) ≡ take n (code_units big bytes)
take-code_units big bytes zero h = refl
take-code_units big [] (suc n) h = absurd (omega arith)
take-code_units big (a ∷ []) (suc n) h = absurd (omega arith)
take-code_units big (a ∷ b ∷ bytes) (suc n) h =
    let twice : 2 * suc n ≡ suc (suc (2 * n)) = omega arith in
    rw twice (ap (λ us. code_unit big a b ∷ us) (take-code_units big bytes n (omega arith)))

-- eight of them
pub block-is : (bytes us : List ℕ) (n i k : ℕ) → 2 * n ≤ length bytes → i + 8 ≤ n → 16 ≤ k → us ≡ units_of (take 16 (take k (drop (2 * i) bytes)))
    → us ≡ take 8 (drop i (take n (code_units false bytes)))
block-is bytes us n i k h below long e =
    let behind = drop (2 * i) bytes in
    let room : 2 * 8 ≤ length behind = omega (arith, length-drop (2 * i) bytes) in
    e ∙ (ap (λ (l : List ℕ). units_of l) (take-take 16 k behind long) ∙ (units_of-code_units (take 16 behind) ∙ (take-code_units false behind 8 room
    ∙ (sym (take-take 8 (n - i) (code_units false behind) (omega arith)) ∙ ap (take 8) (drop-window false bytes n i h (omega arith))))))

swap-is : (a b : ℕ) → a < 256 → b < 256 → swapped (code_unit false a b) ≡ code_unit true a b
swap-is a b low high = omega arith

-- with their bytes exchanged they are those in the other order
pub swapped-code_units : (bytes : List ℕ) → Each1 (Fits w8) bytes → map swapped (code_units false bytes) ≡ code_units true bytes
swapped-code_units [] fits = refl
swapped-code_units (a ∷ []) fits = refl
swapped-code_units (a ∷ b ∷ bytes) fits = ap₂ (λ u us. u ∷ us) (swap-is a b fits.0.fits fits.1.0.fits) (swapped-code_units bytes fits.1.1)

pub block-swapped : (bytes us vs : List ℕ) (i : ℕ) → 2 * i + 16 ≤ length bytes → ((j : ℕ) → Fits w8 (get_or bytes j 0))
    → us ≡ units_of (take 16 (drop (2 * i) bytes)) → vs ≡ map swapped us → vs ≡ take 8 (drop i (code_units true bytes))
block-swapped bytes us vs i h fits e f =
    let behind = drop (2 * i) bytes in
    let room : 2 * 8 ≤ length behind = omega (arith, length-drop (2 * i) bytes) in
    let whole : us ≡ code_units false (take 16 behind) = e ∙ units_of-code_units (take 16 behind) in
    f ∙ (ap (map swapped) whole ∙ (swapped-code_units (take 16 behind) (chunk-fits w8 (2 * i) 16 bytes fits)
    ∙ (take-code_units true behind 8 room ∙ ap (take 8) (sym (drop-code_units true bytes i (omega arith))))))

pub block-within : (us vs : List ℕ) (n i : ℕ) → i + 8 ≤ n → vs ≡ take 8 (drop i us) → vs ≡ take 8 (drop i (take n us))
block-within us vs n i within e =
    let whole : i + (n - i) ≡ n = omega arith in
    e ∙ (sym (take-take 8 (n - i) (drop i us) (omega arith)) ∙ ap (take 8) (sym (drop-take i (n - i) us) ∙ ap (λ k. drop i (take k us)) whole))
