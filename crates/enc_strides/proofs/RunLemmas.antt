-- The first byte past ASCII in lists that are cut or joined, and copies of what stands before it.
use Rattle.std.proofs.Common.{◌≡◌, ℕ, ◌+◌, ◌<◌, ◌≤◌, Option, None, Some, false, List, [], ◌∷◌, ◌++◌, length, take, drop, set, get_or, not, refl, sym, subst, ap, inl, inr, ◌∙◌, arith}
use Rattle.std.proofs.Math.Seq.{take-add}
use Rattle.std.proofs.lemmas.Bool.{cases_lt, cond_below, cond_above}
use Rattle.std.proofs.lemmas.Bool.Decides.{nat_tests}
use Rattle.std.proofs.lemmas.List.Sums.{prefix_len-le-length, fails_before_first, passes_at_first, position_or_len_is}
use Rattle.std.proofs.lemmas.List.{take-take, drop-drop, take_more, take_more_set, length-set}
use Rattle.std.proofs.lemmas.Simd.{take_more_put_chunk, length-chunk, run_in_chunk_le, run_in_chunk_fails, run_in_chunk_stops}
use Rattle.std.specs.List.{position}
use lib.Lanes.{chunk, put_chunk}
use Rattle.enc_strides.specs.Lanes.{is_past_ascii}
use Rattle.enc_strides.specs.Runs.{run_len, Copied, CopiedOn}

pub run_len_le : (xs : List ℕ) → run_len xs ≤ length xs
run_len_le xs = prefix_len-le-length (λ x. not (is_past_ascii x)) xs

no_place : (xs : List ℕ) → run_len xs ≡ length xs → None ≡ position is_past_ascii xs
no_place xs e = cond_above (run_len xs) (length xs) (Some (run_len xs)) None None (omega arith) refl

place_is : (xs : List ℕ) (k : ℕ) → k ≡ run_len xs → k < length xs → Some k ≡ position is_past_ascii xs
place_is xs k e inside = ap Some e ∙ cond_below (run_len xs) (length xs) (Some (run_len xs)) None (omega arith)

at_least : (xs : List ℕ) (m : ℕ) → m ≤ length xs → ((k : ℕ) → k < m → is_past_ascii (get_or xs k 0) ≡ false) → m ≤ run_len xs
at_least xs m room clear =
    elim (cases_lt (run_len xs) m) [
      | inl short ↦
          let set = passes_at_first is_past_ascii xs 0 (omega arith) in
          let unset = clear _ short in
          cc
      | inr enough ↦ enough
    ]

one_more : (xs : List ℕ) (i : ℕ) → i ≤ run_len xs → i < length xs → get_or xs i 0 < 128 → i + 1 ≤ run_len xs
one_more xs i before inside small =
    let stop = passes_at_first is_past_ascii xs 0 in
    grind (arith, nat_tests)

pub ends_at : (xs : List ℕ) (i : ℕ) → i ≤ run_len xs → i < length xs → 128 ≤ get_or xs i 0 → run_len xs ≡ i
ends_at xs i before inside large =
    let clear = fails_before_first is_past_ascii xs i 0 in
    grind (arith, nat_tests)

-- one load further
module _ (xs : List ℕ) (i n : ℕ) (before : i ≤ run_len xs) (room : i + n ≤ length xs) where
  clear : (k : ℕ) → k < i + run_len (chunk i n xs) → is_past_ascii (get_or xs k 0) ≡ false
  clear k under =
      elim (cases_lt k i) [
        | inl early ↦ fails_before_first is_past_ascii xs k 0 (omega arith)
        | inr late ↦ run_in_chunk_fails is_past_ascii xs i n _ 0 room refl k late under
      ]

  in_chunk_le : run_len (chunk i n xs) ≤ n
  in_chunk_le = run_in_chunk_le is_past_ascii xs i n _ 0 room refl

  goes_on : i + run_len (chunk i n xs) ≤ run_len xs
  goes_on = at_least xs _ (omega (arith, in_chunk_le)) clear

  stops_in : run_len (chunk i n xs) < n → run_len xs ≡ i + run_len (chunk i n xs)
  stops_in short = position_or_len_is is_past_ascii xs _ 0 (omega (arith, in_chunk_le)) clear (λ inside. run_in_chunk_stops is_past_ascii xs i n _ 0 room refl short)

pub two_chunks : (i a b : ℕ) (xs : List ℕ) → chunk i a xs ++ chunk (i + a) b xs ≡ chunk i (a + b) xs
two_chunks i a b xs = ap (λ ys. chunk i a xs ++ take b ys) (sym (drop-drop a i xs)) ∙ sym (take-add a b (drop i xs))

pub take_stored : (src dst : List ℕ) (i n : ℕ) → i + n ≤ length src → i + n ≤ length dst → take i dst ≡ take i src → take (i + n) (put_chunk i dst (chunk i n src)) ≡ take (i + n) src
take_stored src dst i n in_src in_dst same =
    let long = length-chunk i n src in_src in
    take_more_put_chunk i dst (chunk i n src) (i + n) (omega arith) in_dst ∙ (ap (λ xs. xs ++ chunk i n src) same ∙ sym (take-add i n src))

-- the same of other lanes that are those bytes
pub stored_as : (src dst ys : List ℕ) (i n : ℕ) → ys ≡ chunk i n src → i + n ≤ length src → i + n ≤ length dst → take i dst ≡ take i src → take (i + n) (put_chunk i dst ys) ≡ take (i + n) src
stored_as src dst ys i n e in_src in_dst same = subst (λ zs. take (i + n) (put_chunk i dst zs) ≡ take (i + n) src) (sym e) (take_stored src dst i n in_src in_dst same)

cut : (xs ys : List ℕ) (m n : ℕ) → m ≤ n → take n xs ≡ take n ys → take m xs ≡ take m ys
cut xs ys m n le same = sym (take-take m n xs le) ∙ (ap (take m) same ∙ take-take m n ys le)

copied_to : (src dst : List ℕ) (m k : ℕ) → m ≤ length src → m ≤ length dst → take m dst ≡ take m src → k ≤ m → k ≤ run_len src → Copied src dst k
copied_to src dst m k in_src in_dst same le ascii = record { src_has = omega arith; dst_has = omega arith; ascii = ascii; same = cut dst src k m le same }

-- dst was written up to m, and the n bytes at i were searched
pub copied_on : (src dst : List ℕ) (i n m : ℕ) (r : Option ℕ) → i ≤ run_len src → m ≡ i + n → m ≤ length src → m ≤ length dst → take m dst ≡ take m src
    → r ≡ position is_past_ascii (chunk i n src) → CopiedOn src dst i n r
copied_on src dst i n m r before e in_src in_dst same found =
    let bytes = chunk i n src in
    let room : i + n ≤ length src = omega arith in
    let long = length-chunk i n src room in
    let on = goes_on src i n before room in
    elim (cases_lt (run_len bytes) n) [
      | inl short ↦
          subst (CopiedOn src dst i n) (place_is bytes _ refl (omega arith) ∙ sym found)
          (copied_to src dst m _ in_src in_dst same (omega arith) on, stops_in src i n before room short)
      | inr all ↦
          subst (CopiedOn src dst i n) (no_place bytes (omega (arith, in_chunk_le src i n before room)) ∙ sym found)
          (copied_to src dst m _ in_src in_dst same (omega arith) (omega arith))
    ]

-- the byte at i is copied, and is ASCII
pub copied_byte : (src dst : List ℕ) (i : ℕ) → Copied src dst i → i < length src → i < length dst → get_or src i 0 < 128 → Copied src (set dst i (get_or src i 0)) (i + 1)
copied_byte src dst i c in_src in_dst small = record {
  src_has = omega arith;
  dst_has = omega (arith, length-set dst i (get_or src i 0));
  ascii = one_more src i c.ascii in_src small;
  same = take_more_set dst i _ in_dst ∙ (ap (λ xs. xs ++ get_or src i 0 ∷ []) c.same ∙ sym (take_more src i 0 in_src));
}
