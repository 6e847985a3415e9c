-- Sixteen octets at once: their masks, their digits, and four of them at a time.
use Rattle.std.proofs.Common.{◌≡◌, ℕ, zero, suc, ◌+◌, ◌-◌, ◌*◌, ◌/◌, ◌%◌, ◌^◌, ◌<◌, ◌≤◌, Fits, w8, Bool, true, false, cond, not, eqb, leb, ltb, nat_lt, List, [], ◌∷◌, ◌++◌, map, length, take, drop, get_or, refl, ap, ap₂, sym, ◌∙◌, subst, arith}
use Rattle.std.specs.List.{range_with_len}
use Rattle.std.specs.Prelude.{count_ones, replicate}
use Rattle.std.specs.Simd.Lanes.{Each1, all_below}
use Rattle.std.proofs.Math.Nat.{pow-succ', mod-eq_of_lt, add-mul-mod_self_left}
use Rattle.std.proofs.lemmas.Bool.{agree_below, agree_below_at, and_parts, eqb-true, leb-true}
use Rattle.std.proofs.lemmas.Bool.Decides.{nat_tests}
use Rattle.std.proofs.lemmas.List.{append-nil, nil_from_length, length-append, length-map, take-append-drop, length-take-le, append_assoc, drop-map, take-map, take-take, get_or_append_left, get_or-append_right, get_or-drop}
use Rattle.std.proofs.lemmas.List.FromFn.{get_or-map-range_with_len}
use Rattle.std.proofs.lemmas.Simd.{map-map, mask_l-mod, mask_l-lt, ones-mask_l_cons, swz_l, SwzOk, SwzOk-from_below, Each1-chunk, get_or-replicate}
use lib.Lanes.{mask_l, top, put_chunk}
use Rattle.qp.specs.Items.{plain, escaped, item_text, hex_digit, may_stand_within}
use Rattle.qp.specs.Blocks.{needs_escape, within_item, spread, group_of}
use Rattle.qp.specs.declared.spread.TheConstants.{DIGITS, PLACES}
use Rattle.qp.proofs.BlockLemmas.{spread-more, spread-append, length_drop, drop_more}
use Rattle.qp.proofs.LaneLemmas.{stored}

-- Functions of bytes that agree, over a list.
same_tests : (p q : ℕ → Bool) → agree_below p q 256 ≡ true → (xs : List ℕ) → Each1 (Fits w8) xs → map p xs ≡ map q xs
same_tests p q h [] f = refl
same_tests p q h (x ∷ xs) f = ap₂ (λ a b. a ∷ b) (agree_below_at p q 256 x h f.0.fits) (same_tests p q h xs f.1)

pub same_numbers : (f g : ℕ → ℕ) → map f (range_with_len 0 256) ≡ map g (range_with_len 0 256) → (xs : List ℕ) → Each1 (Fits w8) xs → map f xs ≡ map g xs
same_numbers f g h [] e = refl
same_numbers f g h (x ∷ xs) e =
    let left = get_or-map-range_with_len f 0 256 x x 0 e.0.fits (omega arith) in
    let right = get_or-map-range_with_len g 0 256 x x 0 e.0.fits (omega arith) in
    ap₂ (λ a b. a ∷ b) (sym left ∙ ap (λ t. get_or t x 0) h ∙ right) (same_numbers f g h xs e.1)

pub small_lanes : (g : ℕ → ℕ) → agree_below (λ x. nat_lt (g x) 16) (λ _. true) 256 ≡ true → (xs : List ℕ) → Each1 (Fits w8) xs → Each1 (λ j. j < 16) (map g xs)
small_lanes g h [] e = e
small_lanes g h (x ∷ xs) e =
    let small : nat_lt (g x) 16 ≡ true = agree_below_at (λ x. nat_lt (g x) 16) (λ _. true) 256 x h e.0.fits in
    (grind (arith, nat_tests), small_lanes g h xs e.1)

-- the mask of lanes that pass the test q
pub mask_is : (f : ℕ → ℕ) (q : ℕ → Bool) (v z : List ℕ) → length v ≤ 64 → Each1 (Fits w8) v → z ≡ map f v → agree_below (λ x. top 7 (f x)) q 256 ≡ true → mask_l (map (top 7) z) % 2 ^ 64 ≡ mask_l (map q v)
mask_is f q v z few fits e h =
    ap (λ l. mask_l l % 2 ^ 64) (ap (map (top 7)) e ∙ map-map (top 7) f v ∙ same_tests (λ x. top 7 (f x)) q h v fits)
    ∙ mask_l-mod (map q v) 64 (omega (arith, length-map v q, few))

-- Masks of lists in a row.
more_lanes : (b m k kk n r : ℕ) → kk ≡ 2 * k → m + k * n ≡ r → (b + 2 * m) + kk * n ≡ b + 2 * r
more_lanes b m k kk n r double e = grind (arith, double)

masks_in_a_row : (xs ys : List Bool) → mask_l xs + 2 ^ length xs * mask_l ys ≡ mask_l (xs ++ ys)
masks_in_a_row [] ys = omega arith
masks_in_a_row (x ∷ xs) ys =
    let double : 2 ^ length (x ∷ xs) ≡ 2 * 2 ^ length xs = pow-succ' 2 (length xs) in
    more_lanes (cond x 1 0) (mask_l xs) (2 ^ length xs) (2 ^ length (x ∷ xs)) (mask_l ys) (mask_l (xs ++ ys)) double (masks_in_a_row xs ys)

mask_front : (xs ys : List Bool) → mask_l (xs ++ ys) % 2 ^ length xs ≡ mask_l xs
mask_front xs ys =
    ap (λ m. m % 2 ^ length xs) (sym (masks_in_a_row xs ys)) ∙ add-mul-mod_self_left (mask_l xs) (2 ^ length xs) (mask_l ys) ∙ mod-eq_of_lt (mask_l-lt xs)

pub mask_take : (ms : List Bool) (n : ℕ) → n ≤ length ms → mask_l ms % 2 ^ n ≡ mask_l (take n ms)
mask_take ms n le =
    let long : length (take n ms) ≡ n = length-take-le n ms le in
    subst (λ k. mask_l ms % 2 ^ k ≡ mask_l (take n ms)) long (ap (λ m. mask_l m % 2 ^ length (take n ms)) (sym (take-append-drop n ms)) ∙ mask_front (take n ms) (drop n ms))

-- what is written for octets has two more for each that needs an escape
pub spread-ones : (xs : List ℕ) → length (spread xs) ≡ length xs + 2 * count_ones (mask_l (map needs_escape xs))
unfolding spread lib.Count.ones
spread-ones [] = refl
spread-ones (b ∷ xs) =
    let rest = spread-ones xs in
    let ones = ones-mask_l_cons (needs_escape b) (map needs_escape xs) in
    let here = one (may_stand_within b) in
    omega (arith, spread-more b xs, rest, ones, here)
  where
    one : (t : Bool) → length (item_text (cond t (plain b) (escaped b))) ≡ 1 + 2 * cond (not t) 1 0
    one true = refl
    one false = refl

pub front_ones : (text : List ℕ) (len : ℕ) → len ≤ length text → len ≤ 16 → len + 2 * count_ones (mask_l (map needs_escape (take 16 text)) % 2 ^ len) ≡ length (spread (take len text))
front_ones text len le few =
    let front = take-take len 16 text few in
    let long : len ≤ length (map needs_escape (take 16 text)) = omega (arith, length-map (take 16 text) needs_escape, ap length front, length-take-le len text le, length-take_few text) in
    let part : mask_l (map needs_escape (take 16 text)) % 2 ^ len ≡ mask_l (map needs_escape (take len text)) =
    mask_take (map needs_escape (take 16 text)) len long ∙ ap mask_l (take-map needs_escape len (take 16 text) ∙ ap (map needs_escape) front) in
    omega (arith, spread-ones (take len text), ap count_ones part, length-take-le len text le)
  where
    length-take_few : (text : List ℕ) → length (take len (take 16 text)) ≤ length (take 16 text)
    length-take_few text = shorter len (take 16 text)
      where
        shorter : (n : ℕ) (xs : List ℕ) → length (take n xs) ≤ length xs
        shorter zero xs = omega arith
        shorter (suc n) [] = omega arith
        shorter (suc n) (x ∷ xs) = omega (arith, shorter n xs)

-- Lanes at places below sixteen.
pub swz_is : (xs : List ℕ) (i : ℕ) (js : List ℕ) → i + length js ≤ 16 → Each1 (λ j. j < 16) js → swz_l w8 16 xs i js ≡ map (λ j. get_or xs j 0) js
swz_is xs i [] h e = refl
swz_is xs i (j ∷ js) h e =
    let small : leb 128 j ≡ false = le-ltb' j e.0 in
    let block : 16 * (i / 16) + j ≡ j = omega (arith, h) in
    rw (small, block) (ap (λ r. get_or xs j 0 ∷ r) (swz_is xs (suc i) js (omega (arith, h)) e.1))
  where
    le-ltb' : (j : ℕ) → j < 16 → leb 128 j ≡ false
    le-ltb' j below = grind (arith, nat_tests)

each_below : (n : ℕ) (xs : List ℕ) → all_below n xs ≡ true → Each1 (λ j. j < n) xs
each_below n [] h = tt
each_below n (k ∷ ks) h =
    let parts = and_parts (ltb k n) (all_below n ks) h in
    let here : nat_lt k n ≡ true = parts.0 in
    (grind (arith, nat_tests), each_below n ks parts.1)

pub row_below : (set : ℕ) → Each1 (λ j. j < 16) (take 16 (drop (16 * set) PLACES))
row_below set = Each1-chunk (λ j. j < 16) (16 * set) 16 PLACES (each_below 16 PLACES refl)

pub length-row : (set : ℕ) → set < 16 → length (take 16 (drop (16 * set) PLACES)) ≡ 16
length-row set small = long_at (agree_below_at (λ s. eqb (length (take 16 (drop (16 * s) PLACES))) 16) (λ _. true) 16 set refl small)
  where
    long_at : eqb (length (take 16 (drop (16 * set) PLACES))) 16 ≡ true → length (take 16 (drop (16 * set) PLACES)) ≡ 16
    long_at h = eqb-true _ 16 h

pub row_ok : (set : ℕ) (row : List ℕ) → set < 16 → row ≡ take 16 (drop (16 * set) PLACES) → SwzOk w8 16 16 0 row
row_ok set row small e = SwzOk-from_below w8 16 1 16 0 row refl (omega (arith, ap length e, length-row set small)) (subst (Each1 (λ j. j < 16)) (sym e) (row_below set))

pub few_ones : (set : ℕ) → set < 16 → count_ones set ≤ 4
unfolding lib.Count.ones
few_ones set small = leb-true (count_ones set) 4 (agree_below_at (λ s. leb (count_ones s) 4) (λ _. true) 16 set refl small)

-- Four octets, told by the set of those that need an escape.
abbrev one : Bool → ℕ → ℕ → ℕ → List ℕ
one t x h l = cond t (x ∷ []) (61 ∷ h ∷ l ∷ [])

abbrev set_of : Bool → Bool → Bool → Bool → ℕ
set_of b0 b1 b2 b3 = mask_l (not b0 ∷ not b1 ∷ not b2 ∷ not b3 ∷ [])

rows : (b0 b1 b2 b3 : Bool) (x0 x1 x2 x3 h0 h1 h2 h3 l0 l1 l2 l3 : ℕ)
    → take (4 + 2 * count_ones (set_of b0 b1 b2 b3)) (map (λ j. get_or (x0 ∷ x1 ∷ x2 ∷ x3 ∷ h0 ∷ h1 ∷ h2 ∷ h3 ∷ l0 ∷ l1 ∷ l2 ∷ l3 ∷ 61 ∷ 61 ∷ 61 ∷ 61 ∷ []) j 0) (take 16 (drop (16 * set_of b0 b1 b2 b3) PLACES)))
    ≡ one b0 x0 h0 l0 ++ (one b1 x1 h1 l1 ++ (one b2 x2 h2 l2 ++ (one b3 x3 h3 l3 ++ [])))
unfolding lib.Count.ones
rows true true true true x0 x1 x2 x3 h0 h1 h2 h3 l0 l1 l2 l3 = refl
rows true true true false x0 x1 x2 x3 h0 h1 h2 h3 l0 l1 l2 l3 = refl
rows true true false true x0 x1 x2 x3 h0 h1 h2 h3 l0 l1 l2 l3 = refl
rows true true false false x0 x1 x2 x3 h0 h1 h2 h3 l0 l1 l2 l3 = refl
rows true false true true x0 x1 x2 x3 h0 h1 h2 h3 l0 l1 l2 l3 = refl
rows true false true false x0 x1 x2 x3 h0 h1 h2 h3 l0 l1 l2 l3 = refl
rows true false false true x0 x1 x2 x3 h0 h1 h2 h3 l0 l1 l2 l3 = refl
rows true false false false x0 x1 x2 x3 h0 h1 h2 h3 l0 l1 l2 l3 = refl
rows false true true true x0 x1 x2 x3 h0 h1 h2 h3 l0 l1 l2 l3 = refl
rows false true true false x0 x1 x2 x3 h0 h1 h2 h3 l0 l1 l2 l3 = refl
rows false true false true x0 x1 x2 x3 h0 h1 h2 h3 l0 l1 l2 l3 = refl
rows false true false false x0 x1 x2 x3 h0 h1 h2 h3 l0 l1 l2 l3 = refl
rows false false true true x0 x1 x2 x3 h0 h1 h2 h3 l0 l1 l2 l3 = refl
rows false false true false x0 x1 x2 x3 h0 h1 h2 h3 l0 l1 l2 l3 = refl
rows false false false true x0 x1 x2 x3 h0 h1 h2 h3 l0 l1 l2 l3 = refl
rows false false false false x0 x1 x2 x3 h0 h1 h2 h3 l0 l1 l2 l3 = refl

item_is : (b : ℕ) → one (may_stand_within b) b (hex_digit (b / 16)) (hex_digit (b % 16)) ≡ item_text (within_item b)
item_is b = by_stands (may_stand_within b)
  where
    by_stands : (t : Bool) → one t b (hex_digit (b / 16)) (hex_digit (b % 16)) ≡ item_text (cond t (plain b) (escaped b))
    by_stands true = refl
    by_stands false = refl

abbrev pub high_of : ℕ → ℕ
high_of b = hex_digit (b / 16)

abbrev pub low_of : ℕ → ℕ
low_of b = hex_digit (b % 16)

abbrev four_of : List ℕ → List ℕ
four_of ys = take 4 ys ++ take 4 (map high_of ys) ++ take 4 (map low_of ys) ++ 61 ∷ 61 ∷ 61 ∷ 61 ∷ []

four_spread : (a b c d : ℕ) → item_text (within_item a) ++ (item_text (within_item b) ++ (item_text (within_item c) ++ (item_text (within_item d) ++ []))) ≡ spread (a ∷ b ∷ c ∷ d ∷ [])
unfolding spread
four_spread a b c d = refl

pub four_is : (ys : List ℕ) → 4 ≤ length ys
    → take (4 + 2 * count_ones (mask_l (map needs_escape (take 4 ys)))) (map (λ j. get_or (four_of ys) j 0) (take 16 (drop (16 * mask_l (map needs_escape (take 4 ys))) PLACES))) ≡ spread (take 4 ys)
four_is [] h = absurd (omega (arith, h))
four_is (a ∷ []) h = absurd (omega (arith, h))
four_is (a ∷ b ∷ []) h = absurd (omega (arith, h))
four_is (a ∷ b ∷ c ∷ []) h = absurd (omega (arith, h))
four_is (a ∷ b ∷ c ∷ d ∷ ys) h =
    let set : mask_l (map needs_escape (a ∷ b ∷ c ∷ d ∷ [])) ≡ set_of (may_stand_within a) (may_stand_within b) (may_stand_within c) (may_stand_within d) = refl in
    ap (λ m. take (4 + 2 * count_ones m) (map (λ j. get_or (four_of (a ∷ b ∷ c ∷ d ∷ ys)) j 0) (take 16 (drop (16 * m) PLACES)))) set
    ∙ rows (may_stand_within a) (may_stand_within b) (may_stand_within c) (may_stand_within d) a b c d (high_of a) (high_of b) (high_of c) (high_of d) (low_of a) (low_of b) (low_of c) (low_of d)
    ∙ (λ i. item_is a i ++ (item_is b i ++ (item_is c i ++ (item_is d i ++ []))))
    ∙ four_spread a b c d

-- `group` is written by its row
pub four_written : (room group row : List ℕ) (at set k : ℕ) (v : List ℕ) → at + 16 ≤ length room → set < 16 → row ≡ take 16 (drop (16 * set) PLACES) → k + 4 ≤ length v
    → set ≡ mask_l (map needs_escape (take 4 (drop k v))) → group ≡ group_of k v (map high_of v) (map low_of v)
    → take (at + 4 + 2 * count_ones set) (put_chunk at room (swz_l w8 16 group 0 row)) ≡ take at room ++ spread (take 4 (drop k v))
four_written room group row at set k v wide small is long told same =
    let sixteen : length row ≡ 16 = ap length is ∙ length-row set small in
    let lanes : swz_l w8 16 group 0 row ≡ map (λ j. get_or group j 0) row = swz_is group 0 row (omega (arith, sixteen)) (subst (Each1 (λ j. j < 16)) (sym is) (row_below set)) in
    let all : length (map (λ j. get_or group j 0) row) ≡ 16 = length-map row (λ j. get_or group j 0) ∙ sixteen in
    let few = few_ones set small in
    let place : at + 4 + 2 * count_ones set ≡ at + (4 + 2 * count_ones set) = omega arith in
    let rest : 4 ≤ length (drop k v) = omega (arith, long, length_drop k v (omega (arith, long))) in
    let fours : group ≡ four_of (drop k v) = same ∙ ap₂ (λ a b. take 4 (drop k v) ++ take 4 a ++ take 4 b ++ 61 ∷ 61 ∷ 61 ∷ 61 ∷ []) (drop-map high_of k v) (drop-map low_of k v) in
    ap₂ (λ n bytes. take n (put_chunk at room bytes)) place lanes
    ∙ stored room (map (λ j. get_or group j 0) row) at (4 + 2 * count_ones set) (omega (arith, wide, all)) (omega (arith, all, few))
    ∙ ap (λ t. take at room ++ t) (ap₂ (λ g r. take (4 + 2 * count_ones set) (map (λ j. get_or g j 0) r)) fours is
    ∙ ap (λ m. take (4 + 2 * count_ones m) (map (λ j. get_or (four_of (drop k v)) j 0) (take 16 (drop (16 * m) PLACES)))) told
    ∙ four_is (drop k v) rest)

-- Groups of four lanes.
module _ (v high low : List ℕ) (k : ℕ) (first : length v ≡ 16) (second : length high ≡ 16) (third : length low ≡ 16) (inside : k + 4 ≤ 16) where
  abbrev equals : List ℕ
  equals = replicate 16 61

  lane : (xs ys : List ℕ) (i : ℕ) → length xs ≡ 16 → i < 16 → get_or (xs ++ ys) i 0 ≡ get_or xs i 0
  lane xs ys i long small = get_or_append_left xs ys 0 i (omega (arith, long, small))

  next : (xs ys : List ℕ) (i j : ℕ) → length xs ≡ 16 → j ≡ i + 16 → get_or (xs ++ ys) j 0 ≡ get_or ys i 0
  next xs ys i j long e = get_or-append_right xs ys 16 j 0 long (omega (arith, e)) ∙ ap (λ n. get_or ys n 0) (let f : j - 16 ≡ i = omega (arith, e) in f)

  fours : (ys : List ℕ) → 4 ≤ length ys → get_or ys 0 0 ∷ get_or ys 1 0 ∷ get_or ys 2 0 ∷ get_or ys 3 0 ∷ [] ≡ take 4 ys
  fours [] h = absurd (omega (arith, h))
  fours (a ∷ []) h = absurd (omega (arith, h))
  fours (a ∷ b ∷ []) h = absurd (omega (arith, h))
  fours (a ∷ b ∷ c ∷ []) h = absurd (omega (arith, h))
  fours (a ∷ b ∷ c ∷ d ∷ ys) h = refl

  at_four : (xs : List ℕ) → length xs ≡ 16 → get_or xs k 0 ∷ get_or xs (k + 1) 0 ∷ get_or xs (k + 2) 0 ∷ get_or xs (k + 3) 0 ∷ [] ≡ take 4 (drop k xs)
  at_four xs long =
      let d : ℕ → ℕ = λ i. get_or (drop k xs) i 0 in
      let zeroth : get_or xs k 0 ≡ get_or (drop k xs) 0 0 = ap (λ n. get_or xs n 0) (let f : k ≡ k + 0 = omega arith in f) ∙ sym (get_or-drop k xs 0 0) in
      (λ i. zeroth i ∷ sym (get_or-drop k xs 1 0) i ∷ sym (get_or-drop k xs 2 0) i ∷ sym (get_or-drop k xs 3 0) i ∷ [])
      ∙ fours (drop k xs) (omega (arith, inside, long, length_drop k xs (omega (arith, inside, long))))

  sign : (i : ℕ) → i < 16 → get_or equals i 0 ≡ 61
  sign i small = get_or-replicate 16 i 61 0 small

  pub group_is : get_or (v ++ high) k 0 ∷ get_or (v ++ high) (k + 1) 0 ∷ get_or (v ++ high) (k + 2) 0 ∷ get_or (v ++ high) (k + 3) 0
      ∷ get_or (v ++ high) (k + 16) 0 ∷ get_or (v ++ high) (k + 17) 0 ∷ get_or (v ++ high) (k + 18) 0 ∷ get_or (v ++ high) (k + 19) 0
      ∷ get_or (low ++ equals) k 0 ∷ get_or (low ++ equals) (k + 1) 0 ∷ get_or (low ++ equals) (k + 2) 0 ∷ get_or (low ++ equals) (k + 3) 0
      ∷ get_or (low ++ equals) (k + 16) 0 ∷ get_or (low ++ equals) (k + 17) 0 ∷ get_or (low ++ equals) (k + 18) 0 ∷ get_or (low ++ equals) (k + 19) 0 ∷ []
      ≡ group_of k v high low
  group_is =
      let here : (xs ys : List ℕ) → length xs ≡ 16 → get_or (xs ++ ys) k 0 ∷ get_or (xs ++ ys) (k + 1) 0 ∷ get_or (xs ++ ys) (k + 2) 0 ∷ get_or (xs ++ ys) (k + 3) 0 ∷ [] ≡ take 4 (drop k xs) =
      λ xs ys long.
      let e0 = lane xs ys k long (omega (arith, inside)) in
      let e1 = lane xs ys (k + 1) long (omega (arith, inside)) in
      let e2 = lane xs ys (k + 2) long (omega (arith, inside)) in
      let e3 = lane xs ys (k + 3) long (omega (arith, inside)) in
      (λ i. e0 i ∷ e1 i ∷ e2 i ∷ e3 i ∷ []) ∙ at_four xs long in
      let there : (xs ys : List ℕ) → length xs ≡ 16 → length ys ≡ 16 → get_or (xs ++ ys) (k + 16) 0 ∷ get_or (xs ++ ys) (k + 17) 0 ∷ get_or (xs ++ ys) (k + 18) 0 ∷ get_or (xs ++ ys) (k + 19) 0 ∷ [] ≡ take 4 (drop k ys) =
      λ xs ys long too.
      let e0 = next xs ys k (k + 16) long (omega arith) in
      let e1 = next xs ys (k + 1) (k + 17) long (omega arith) in
      let e2 = next xs ys (k + 2) (k + 18) long (omega arith) in
      let e3 = next xs ys (k + 3) (k + 19) long (omega arith) in
      (λ i. e0 i ∷ e1 i ∷ e2 i ∷ e3 i ∷ []) ∙ at_four ys too in
      let signs : get_or equals k 0 ∷ get_or equals (k + 1) 0 ∷ get_or equals (k + 2) 0 ∷ get_or equals (k + 3) 0 ∷ [] ≡ 61 ∷ 61 ∷ 61 ∷ 61 ∷ [] =
      (let e0 = sign k (omega (arith, inside)) in
      let e1 = sign (k + 1) (omega (arith, inside)) in
      let e2 = sign (k + 2) (omega (arith, inside)) in
      let e3 = sign (k + 3) (omega (arith, inside)) in
      λ i. e0 i ∷ e1 i ∷ e2 i ∷ e3 i ∷ []) in
      let last = there low equals third refl ∙ sym (at_four equals refl) ∙ signs in
      (λ i. here v high first i ++ there v high first second i ++ here low equals third i ++ last i)

-- digits, looked up at lanes below sixteen
pub digits_ok : (v js : List ℕ) (g : ℕ → ℕ) → length v ≡ 16 → js ≡ map g v → Each1 (λ j. j < 16) (map g v) → SwzOk w8 16 16 0 js
digits_ok v js g long is small =
    SwzOk-from_below w8 16 1 16 0 js refl (omega (arith, ap length is, length-map v g, long)) (subst (Each1 (λ j. j < 16)) (sym is) small)

pub digits_are : (f : ℕ → ℕ) (v js : List ℕ) (g : ℕ → ℕ) → length v ≡ 16 → Each1 (Fits w8) v → js ≡ map g v → Each1 (λ j. j < 16) (map g v)
    → map (λ b. get_or DIGITS (g b) 0) (range_with_len 0 256) ≡ map f (range_with_len 0 256) → swz_l w8 16 DIGITS 0 js ≡ map f v
digits_are f v js g long fits is small all =
    ap (swz_l w8 16 DIGITS 0) is
    ∙ swz_is DIGITS 0 (map g v) (omega (arith, length-map v g, long)) small
    ∙ map-map (λ j. get_or DIGITS j 0) g v
    ∙ same_numbers (λ b. get_or DIGITS (g b) 0) f all v fits

-- Four times four.
bit : (b : Bool) → cond b 1 0 ≤ 1
bit true = omega arith
bit false = omega arith

fours_mask : (xs : List ℕ) → 4 ≤ length xs → (mask_l (map needs_escape xs) % 16 ≡ mask_l (map needs_escape (take 4 xs))) × (mask_l (map needs_escape xs) / 16 ≡ mask_l (map needs_escape (drop 4 xs)))
fours_mask [] h = absurd (omega (arith, h))
fours_mask (a ∷ []) h = absurd (omega (arith, h))
fours_mask (a ∷ b ∷ []) h = absurd (omega (arith, h))
fours_mask (a ∷ b ∷ c ∷ []) h = absurd (omega (arith, h))
fours_mask (a ∷ b ∷ c ∷ d ∷ xs) h = by_bits (needs_escape a) (needs_escape b) (needs_escape c) (needs_escape d) (map needs_escape xs)
  where
    by_bits : (p q r s : Bool) (ms : List Bool) → (mask_l (p ∷ q ∷ r ∷ s ∷ ms) % 16 ≡ mask_l (p ∷ q ∷ r ∷ s ∷ [])) × (mask_l (p ∷ q ∷ r ∷ s ∷ ms) / 16 ≡ mask_l ms)
    by_bits p q r s ms = (omega (arith, bit p, bit q, bit r, bit s), omega (arith, bit p, bit q, bit r, bit s))

module _ (v : List ℕ) (long : length v ≡ 16) where
  abbrev pub part : ℕ → List ℕ
  part k = spread (take 4 (drop k v))

  abbrev pub set_at : ℕ → ℕ
  set_at k = mask_l (map needs_escape (take 4 (drop k v)))

  left_at : (k : ℕ) → k + 4 ≤ 16 → 4 ≤ length (drop k v)
  left_at k inside = omega (arith, inside, long, length_drop k v (omega (arith, inside, long)))

  further : (k : ℕ) → mask_l (map needs_escape (drop 4 (drop k v))) ≡ mask_l (map needs_escape (drop (k + 4) v))
  further k = ap (λ t. mask_l (map needs_escape t)) (drop_more k 4 v)

  pub sets : (m : ℕ) → m ≡ mask_l (map needs_escape v) → (m % 16 ≡ set_at 0) × (m / 16 % 16 ≡ set_at 4) × (m / 256 % 16 ≡ set_at 8) × (m / 4096 % 16 ≡ set_at 12)
  sets m is =
      let zeroth = fours_mask v (omega (arith, long)) in
      let first = fours_mask (drop 4 v) (left_at 4 (omega arith)) in
      let second = fours_mask (drop 8 v) (left_at 8 (omega arith)) in
      let third = fours_mask (drop 12 v) (left_at 12 (omega arith)) in
      let one : m / 16 ≡ mask_l (map needs_escape (drop 4 v)) = ap (λ n. n / 16) is ∙ zeroth.1 in
      let two : m / 256 ≡ mask_l (map needs_escape (drop 8 v)) = (let e : m / 256 ≡ m / 16 / 16 = omega arith in e) ∙ ap (λ n. n / 16) one ∙ first.1 ∙ further 4 in
      let three : m / 4096 ≡ mask_l (map needs_escape (drop 12 v)) = (let e : m / 4096 ≡ m / 256 / 16 = omega arith in e) ∙ ap (λ n. n / 16) two ∙ second.1 ∙ further 8 in
      (ap (λ n. n % 16) is ∙ zeroth.0, ap (λ n. n % 16) one ∙ first.0, ap (λ n. n % 16) two ∙ second.0, ap (λ n. n % 16) three ∙ third.0)

  split_at : (k : ℕ) → spread (drop k v) ≡ part k ++ spread (drop (k + 4) v)
  split_at k = ap spread (sym (take-append-drop 4 (drop k v))) ∙ spread-append (take 4 (drop k v)) (drop 4 (drop k v)) ∙ ap (λ t. part k ++ spread t) (drop_more k 4 v)

  none_left : spread (drop 16 v) ≡ []
  unfolding spread
  none_left = ap spread (nil_from_length (drop 16 v) (omega (arith, long, length_drop 16 v (omega (arith, long)))))

  all_parts : spread v ≡ part 0 ++ (part 4 ++ (part 8 ++ part 12))
  all_parts = split_at 0 ∙ ap (λ t. part 0 ++ t) (split_at 4 ∙ ap (λ t. part 4 ++ t) (split_at 8 ∙ ap (λ t. part 8 ++ t) (split_at 12 ∙ ap (λ t. part 12 ++ t) none_left ∙ append-nil (part 12))))

  pub parts_sum : length (spread v) ≡ length (part 0) + length (part 4) + length (part 8) + length (part 12)
  parts_sum =
      let a = length-append (part 0) (part 4 ++ (part 8 ++ part 12)) in
      let b = length-append (part 4) (part 8 ++ part 12) in
      let c = length-append (part 8) (part 12) in
      omega (arith, ap length all_parts, a, b, c)

  pub parts_written : (out : List ℕ) → (((out ++ part 0) ++ part 4) ++ part 8) ++ part 12 ≡ out ++ spread v
  parts_written out =
      append_assoc ((out ++ part 0) ++ part 4) (part 8) (part 12)
      ∙ append_assoc (out ++ part 0) (part 4) (part 8 ++ part 12)
      ∙ append_assoc out (part 0) (part 4 ++ (part 8 ++ part 12))
      ∙ ap (λ t. out ++ t) (sym all_parts)
