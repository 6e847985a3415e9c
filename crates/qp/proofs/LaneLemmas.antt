-- From the mask of one load to a run of bytes that pass a test.
use Rattle.std.proofs.Common.{◌≡◌, ℕ, ◌+◌, ◌-◌, ◌%◌, ◌^◌, ◌<◌, ◌≤◌, eqb, Bool, true, false, cond, not, ◌||◌, ◌&&◌, List, [], ◌∷◌, ◌++◌, map, length, take, drop, get_or, Fits, w8, refl, sym, ap, ap₂, ◌∙◌, arith}
use Rattle.std.proofs.Math.Seq.{take-add, take-append-add}
use Rattle.std.proofs.lemmas.List.Folds.{list_all-append}
use Rattle.std.proofs.lemmas.Bool.{agree_below, agree_below_at, and_parts, not-true}
use Rattle.std.proofs.lemmas.Simd.{map-map, mask_l-mod, length-chunk, get_or-chunk, first_set_mask_l, put_chunk_is}
use Rattle.std.proofs.lemmas.List.{length-map, take-take, length-take-le, get_or-take, take_at, drop_at, take-append-le}
use Rattle.std.proofs.lemmas.List.Sums.{list_all-from_AllPass, prefix_len-le-length, prefix_len_passes}
use Rattle.std.proofs.lemmas.List.Elements.{All-from_get_or}
use Rattle.std.specs.List.{prefix_len, list_all}
use Rattle.qp.specs.Items.{entry_text}
use lib.Count.{count_trailing_zeros}
use lib.Lanes.{chunk, put_chunk, zip2, mask_l, top}

zip2-map : (h : ℕ → ℕ → ℕ) (f g : ℕ → ℕ) (xs : List ℕ) → zip2 h (map f xs) (map g xs) ≡ map (λ x. h (f x) (g x)) xs
zip2-map h f g [] = refl
zip2-map h f g (x ∷ xs) = ap (λ r. h (f x) (g x) ∷ r) (zip2-map h f g xs)

-- two vectors that were computed lane by lane from one, joined lane by lane
pub joined : (h : ℕ → ℕ → ℕ) (f g : ℕ → ℕ) (v : List ℕ) {a b : List ℕ} → a ≡ map f v → b ≡ map g v → zip2 h a b ≡ map (λ x. h (f x) (g x)) v
joined h f g v p q = ap₂ (zip2 h) p q ∙ zip2-map h f g v

-- the lanes before the first that stops pass the test q
module _ (q : ℕ → Bool) (f : ℕ → ℕ) (n : ℕ) (narrow : n ≤ 64) (text : List ℕ) (at r : ℕ) (z : List ℕ) (room : at + n ≤ length text) (fits : (k : ℕ) → Fits w8 (get_or text k 0))
    (lanes : z ≡ map f (chunk at n text))
    (found : r ≡ cond (eqb (mask_l (map (top 7) z) % 2 ^ 64) 0) n (count_trailing_zeros 64 (mask_l (map (top 7) z) % 2 ^ 64))) where
  abbrev stops : ℕ → Bool
  stops x = top 7 (f x)

  abbrev v : List ℕ
  v = chunk at n text

  long : length v ≡ n
  long = length-chunk at n text room

  counted : r ≡ prefix_len (λ x. not (stops x)) v
  counted =
      let mask = ap (λ l. mask_l l % 2 ^ 64) (ap (map (top 7)) lanes ∙ map-map (top 7) f v) ∙ mask_l-mod (map stops v) 64 (omega (arith, length-map v stops, long, narrow)) in
      found ∙ ap (λ m. cond (eqb m 0) n (count_trailing_zeros 64 m)) mask ∙ first_set_mask_l stops v n long narrow

  pub lanes_few : r ≤ n
  lanes_few = omega (arith, counted, long, prefix_len-le-length (λ x. not (stops x)) v)

  passes : agree_below (λ x. stops x || q x) (λ _. true) 256 ≡ true → (k : ℕ) → k < r → q (get_or text (at + k) 0) ≡ true
  passes all k below =
      let same = get_or-chunk at n text k 0 (omega (arith, lanes_few)) in
      let goes = prefix_len_passes (λ x. not (stops x)) v k 0 (omega (arith, counted)) in
      let on : stops (get_or text (at + k) 0) ≡ false = not-true _ (ap (λ x. not (stops x)) (sym same) ∙ goes) in
      sym (ap (λ b. b || q (get_or text (at + k) 0)) on) ∙ agree_below_at (λ x. stops x || q x) (λ _. true) 256 (get_or text (at + k) 0) all (fits (at + k)).fits

  pub lanes_pass : agree_below (λ x. stops x || q x) (λ _. true) 256 ≡ true → list_all q (take r (drop at text)) ≡ true
  lanes_pass all =
      let front = take-take r n (drop at text) lanes_few in
      let few : length (take r v) ≡ r = length-take-le r v (omega (arith, long, lanes_few)) in
      ap (list_all q) (sym front) ∙ list_all-from_AllPass q (take r v) (All-from_get_or (λ x. q x ≡ true) (take r v) 0 (λ k inside.
      let below : k < r = omega (arith, few) in
      ap q (get_or-take r v k 0 below ∙ get_or-chunk at n text k 0 (omega (arith, lanes_few))) ∙ passes all k below))

-- a shorter front
pub fewer_pass : (q : ℕ → Bool) (m n : ℕ) (text : List ℕ) → m ≤ n → list_all q (take n text) ≡ true → list_all q (take m text) ≡ true
fewer_pass q m n text le all =
    let whole : m + (n - m) ≡ n = omega arith in
    let parts = ap (λ k. take k text) (sym whole) ∙ take-add m (n - m) text in
    (and_parts (list_all q (take m text)) (list_all q (take (n - m) (drop m text))) (sym (ap (list_all q) parts ∙ list_all-append q (take m text) (take (n - m) (drop m text))) ∙ all)).0

-- a front, and a run behind it
pub more_pass : (q : ℕ → Bool) (at run : ℕ) (text : List ℕ) → list_all q (take at text) ≡ true → list_all q (take run (drop at text)) ≡ true → list_all q (take (at + run) text) ≡ true
more_pass q at run text front behind =
    ap (list_all q) (take-add at run text) ∙ list_all-append q (take at text) (take run (drop at text)) ∙ ap₂ (λ a b. a && b) front behind

-- sixteen bytes are appended, of which `len` stay
pub cut_back : (old text : List ℕ) (len k : ℕ) → len ≤ 16 → k ≡ length old + len → take k (old ++ take 16 text) ≡ old ++ take len text
cut_back old text len k few e =
    ap (λ n. take n (old ++ take 16 text)) e ∙ take-append-add old (take 16 text) len ∙ ap (λ t. old ++ t) (take-take len 16 text few)

-- bytes are written, of which `run` count
pub stored : (room bytes : List ℕ) (at run : ℕ) → at + length bytes ≤ length room → run ≤ length bytes → take (at + run) (put_chunk at room bytes) ≡ take at room ++ take run bytes
stored room bytes at run wide few =
    let front = length-take-le at room (omega arith) in
    let rest = bytes ++ drop (length bytes) (drop at room) in
    ap (take (at + run)) (put_chunk_is at room bytes wide)
    ∙ take-add at run (take at room ++ rest)
    ∙ ap₂ (λ xs ys. xs ++ take run ys) (take_at (take at room) rest at front) (drop_at (take at room) rest at front)
    ∙ ap (λ ys. take at room ++ ys) (take-append-le run bytes (drop (length bytes) (drop at room)) few)

-- three bytes are written, of which `wide` count
pub three_stored : (old new entry : List ℕ) (at wide end n : ℕ) → at ≤ length old → wide ≤ 3 → n ≡ get_or entry 3 0 → wide ≡ n → end ≡ at + 3 → take end new ≡ take at old ++ take 3 entry
    → take (at + n) new ≡ take at old ++ entry_text entry
three_stored old new entry at wide end n room few is same e h =
    let front : at + n ≡ length (take at old) + n = omega (arith, length-take-le at old room) in
    sym (take-take (at + n) end new (omega arith))
    ∙ ap (take (at + n)) h
    ∙ ap (λ k. take k (take at old ++ take 3 entry)) front
    ∙ take-append-add (take at old) (take 3 entry) n
    ∙ ap (λ ys. take at old ++ ys) (take-take n 3 entry (omega arith) ∙ ap (λ k. take k entry) is)

pub stored_run : (n : ℕ) (room text : List ℕ) (at run : ℕ) → at + n ≤ length room → n ≤ length text → run ≤ n → take (at + run) (put_chunk at room (take n text)) ≡ take at room ++ take run text
stored_run n room text at run wide long few =
    let whole : length (take n text) ≡ n = length-take-le n text long in
    stored room (take n text) at run (omega (arith, whole)) (omega (arith, whole)) ∙ ap (λ ys. take at room ++ ys) (take-take run n text few)

pub first_of : (text : List ℕ) → ¬ (length text ≡ 0) → take 1 text ≡ get_or text 0 0 ∷ []
first_of [] some = absurd (some refl)
first_of (b ∷ text) some = refl
