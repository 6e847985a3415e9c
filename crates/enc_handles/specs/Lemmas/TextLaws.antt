-- Where no scalar stands across a place, the scalars are those before it and those behind it.
use Rattle.std.proofs.Common.{◌≡◌, ℕ, zero, suc, add-zero, ◌+◌, ◌-◌, ◌<◌, ◌≤◌, Bool, true, false}
use Rattle.std.proofs.Common.{cond, not, List, [], ◌∷◌, ◌++◌, length, get_or, take, drop, refl}
use Rattle.std.proofs.Common.{lit<, sym, ap, ◌∙◌, arith, length-take, length-append, length-drop}
use Rattle.std.specs.Prelude.{◌&&◌}
use Rattle.std.proofs.Math.Seq.{take-add, take-append_seam}
use Rattle.std.proofs.lemmas.List.{take-append-drop, take-append-le, drop-take, drop-drop}
use Rattle.std.proofs.lemmas.List.{get_or-drop, get_or-take, drop_more, append-nil}
use Rattle.std.proofs.Math.Seq.{take-length}
use Rattle.std.proofs.lemmas.List.{length-take-le}
use Rattle.std.proofs.lemmas.Bool.{and_parts}
use Rattle.std.proofs.lemmas.Bool.Decides.{nat_tests}
use Rattle.std.proofs.lemmas.Str.{chars-append, chars-IsAscii, chars_past_char, cons_from_encodes}
use Rattle.std.proofs.lemmas.Str.{chars-nil, IsUtf8-append, IsUtf8-from_ascii, IsUtf8-encode}
use Rattle.std.proofs.lemmas.Str.{IsUtf8-from_is_utf8, is_utf8-from_IsUtf8, IsUtf8-nil, IsUtf8-drop}
use Rattle.std.proofs.lemmas.Str.{IsCharBoundary-from_take}
use Rattle.std.specs.Char.{IsScalar, encode_utf8}
use Rattle.std.specs.Str.{chars, IsUtf8, IsAscii, IsCharBoundary}
use Rattle.enc_handles.specs.Ascii.{ascii_len}
use Rattle.enc_handles.specs.Scalars.{lone_scalar, scalars16, is_seam16, is_seam8, ReadsBetween}
use Rattle.enc_handles.specs.Utf16.{is_lead, is_trail, pair_scalar}

-- ASCII

-- an element of the ASCII at the front is below 0x80
pub ascii_at : (units : List ℕ) (k : ℕ) → k < ascii_len units → get_or units k 0 < 0x80
ascii_at [] k within = absurd (omega arith)
ascii_at (u ∷ units) zero within = grind (arith, nat_tests)
ascii_at (u ∷ units) (suc k) within = let h = ascii_at units k in grind (arith, nat_tests)

pub shorter : (u : ℕ) (units : List ℕ) (k : ℕ) → suc k ≤ ascii_len (u ∷ units) → k ≤ ascii_len units
shorter u units k within = grind (arith, nat_tests)

pub take_front : (xs : List ℕ) (n m : ℕ) → n + m ≤ length xs → take n (take (n + m) xs) ≡ take n xs
take_front xs n m within =
    rw (take-add n m xs) (take-append-le n (take n xs) (take m (drop n xs)) (omega (arith, length-take n xs))
    ∙ (ap (λ k. take k (take n xs)) (sym (length-take-le n xs (omega arith))) ∙ take-length (take n xs)))

-- UTF-8

pub at_start8 : (bytes : List ℕ) → is_seam8 bytes 0 ≡ true
at_start8 bytes = is_utf8-from_IsUtf8 [] IsUtf8-nil

pub whole8 : (bytes : List ℕ) (n : ℕ) → is_seam8 bytes n ≡ true → chars bytes ≡ chars (take n bytes) ++ chars (drop n bytes)
whole8 bytes n seam =
    ap chars (sym (take-append-drop n bytes)) ∙ chars-append (take n bytes) (drop n bytes) (IsUtf8-from_is_utf8 (take n bytes) seam)

-- what is between two seams is UTF-8
between8 : (bytes : List ℕ) (n m : ℕ) → n + m ≤ length bytes → is_seam8 bytes n ≡ true → is_seam8 bytes (n + m) ≡ true → IsUtf8 (take m (drop n bytes))
between8 bytes n m within seam seam' =
    let whole = IsUtf8-from_is_utf8 (take (n + m) bytes) seam' in
    let front : take n (take (n + m) bytes) ≡ take n bytes = take_front bytes n m within in
    let u : IsUtf8 (take n (take (n + m) bytes)) = rw front (IsUtf8-from_is_utf8 (take n bytes) seam) in
    let bound = IsCharBoundary-from_take (take (n + m) bytes) n whole (omega (arith, length-take (n + m) bytes)) u in
    rw drop-take at (IsUtf8-drop (take (n + m) bytes) n whole bound)

-- from one seam to another
pub reads8 : (bytes : List ℕ) (n m : ℕ) → n + m ≤ length bytes → is_seam8 bytes n ≡ true → is_seam8 bytes (n + m) ≡ true
    → ReadsBetween chars bytes n (n + m) (chars (take m (drop n bytes)))
reads8 bytes n m within seam seam' = record {
  same_items = refl;
  read = ap chars (take-add n m bytes) ∙ chars-append (take n bytes) (take m (drop n bytes)) (IsUtf8-from_is_utf8 (take n bytes) seam);
  rest = ap chars (sym (take-append-drop m (drop n bytes)))
      ∙ (chars-append (take m (drop n bytes)) (drop m (drop n bytes)) (between8 bytes n m within seam seam')
      ∙ ap (λ l. chars (take m (drop n bytes)) ++ chars l) (drop-drop m n bytes));
}

-- a seam behind text
pub seam_more8 : (bytes : List ℕ) (n m : ℕ) → is_seam8 bytes n ≡ true → IsUtf8 (take m (drop n bytes)) → is_seam8 bytes (n + m) ≡ true
seam_more8 bytes n m seam more =
    is_utf8-from_IsUtf8 (take (n + m) bytes)
    (rw (take-add n m bytes) (IsUtf8-append (take n bytes) (take m (drop n bytes)) (IsUtf8-from_is_utf8 (take n bytes) seam) more))

ascii_front : (bytes : List ℕ) (k : ℕ) → k ≤ ascii_len bytes → IsAscii (take k bytes)
ascii_front bytes zero within i = lit< tt
ascii_front [] (suc k) within i = absurd (omega arith)
ascii_front (b ∷ bs) (suc k) within zero = ascii_at (b ∷ bs) 0 (omega arith)
ascii_front (b ∷ bs) (suc k) within (suc i) = ascii_front bs k (shorter b bs k within) i

pub seam_ascii8 : (bytes : List ℕ) (n k : ℕ) → is_seam8 bytes n ≡ true → k ≤ ascii_len (drop n bytes) → is_seam8 bytes (n + k) ≡ true
seam_ascii8 bytes n k seam within =
    seam_more8 bytes n k seam (IsUtf8-from_ascii (take k (drop n bytes)) (ascii_front (drop n bytes) k within))

pub chars-ascii : (bytes : List ℕ) (k : ℕ) → k ≤ ascii_len bytes → chars (take k bytes) ≡ take k bytes
chars-ascii bytes k within = chars-IsAscii (take k bytes) (ascii_front bytes k within)

pub ascii_reads8 : (bytes : List ℕ) (n k : ℕ) → n + k ≤ length bytes → is_seam8 bytes n ≡ true → k ≤ ascii_len (drop n bytes)
    → ReadsBetween chars bytes n (n + k) (take k (drop n bytes))
ascii_reads8 bytes n k long seam within =
    rw (chars-ascii (drop n bytes) k within) at (reads8 bytes n k long seam (seam_ascii8 bytes n k seam within))

-- a text may be cut at a seam
pub boundary8 : (bytes : List ℕ) (n : ℕ) → IsUtf8 bytes → n ≤ length bytes → is_seam8 bytes n ≡ true → IsCharBoundary bytes n
boundary8 bytes n utf8 within seam = IsCharBoundary-from_take bytes n utf8 within (IsUtf8-from_is_utf8 (take n bytes) seam)

-- the scalar behind a seam
pub record FirstAt (bytes : List ℕ) (n c m : ℕ) : Type 0 where
  pub within : n + m ≤ length bytes
  pub seam : is_seam8 bytes (n + m) ≡ true
  pub reads : ReadsBetween chars bytes n (n + m) (c ∷ [])

pub first_at : (bytes rest : List ℕ) (n c m : ℕ) → IsUtf8 bytes → is_seam8 bytes n ≡ true → n ≤ length bytes → m ≡ length (encode_utf8 c)
    → drop n bytes ≡ encode_utf8 c ++ rest → FirstAt bytes n c m
first_at bytes rest n c m utf8 seam start count front =
    let behind = IsUtf8-drop bytes n utf8 (boundary8 bytes n utf8 start seam) in
    let first = cons_from_encodes behind.0 rest c (behind.1.1 ∙ front) in
    let scalar : IsScalar c = (and_parts _ _ (rw first.1 at behind.1.0)).0 in
    let here : take m (drop n bytes) ≡ encode_utf8 c = rw (front, count) (take-append_seam (encode_utf8 c) rest) in
    let within : n + m ≤ length bytes = omega (arith, ap length front, length-append (encode_utf8 c) rest, length-drop n bytes) in
    let seam' = seam_more8 bytes n m seam (rw here (IsUtf8-encode c scalar)) in
    let one : chars (encode_utf8 c) ≡ c ∷ [] =
    chars_past_char (encode_utf8 c) [] c (IsUtf8-encode c scalar) (sym (append-nil (encode_utf8 c))) ∙ ap (λ (l : List ℕ). c ∷ l) chars-nil in
    record { within = within; seam = seam'; reads = rw (here, one) at (reads8 bytes n m within seam seam') }

-- UTF-16

pub scalars16-lone : (unit : ℕ) (units : List ℕ) → (is_lead unit && is_trail (get_or units 0 0)) ≡ false
    → scalars16 (unit ∷ units) ≡ lone_scalar unit ∷ scalars16 units
unfolding scalars16
scalars16-lone unit [] apart = refl
scalars16-lone unit (next ∷ units) apart =
    ap (λ t. cond t (pair_scalar unit next ∷ scalars16 units) (lone_scalar unit ∷ scalars16 (next ∷ units))) apart

pub scalars16-pair : (lead trail : ℕ) (units : List ℕ) → (is_lead lead && is_trail trail) ≡ true
    → scalars16 (lead ∷ trail ∷ units) ≡ pair_scalar lead trail ∷ scalars16 units
unfolding scalars16
scalars16-pair lead trail units pair =
    ap (λ t. cond t (pair_scalar lead trail ∷ scalars16 units) (lone_scalar lead ∷ scalars16 (trail ∷ units))) pair

pub scalars16-nil : scalars16 [] ≡ []
unfolding scalars16
scalars16-nil = refl

-- the last unit is a lead
abbrev pub ends_in_lead : List ℕ → Bool
ends_in_lead [] = false
ends_in_lead (unit ∷ []) = is_lead unit
ends_in_lead (unit ∷ next ∷ units) = ends_in_lead (next ∷ units)

pub not_true : (t : Bool) → not t ≡ true → t ≡ false
not_true true e = sym e
not_true false e = refl

no_trail : (unit : ℕ) → (is_lead unit && is_trail 0) ≡ false
no_trail unit = elim (is_lead unit) as (λ t. (t && is_trail 0) ≡ false) [ true ↦ refl | false ↦ refl ]

behind : (y : ℕ) (xs ys : List ℕ) → (ends_in_lead (y ∷ xs) && is_trail (get_or ys 0 0)) ≡ false → (ends_in_lead xs && is_trail (get_or ys 0 0)) ≡ false
behind y [] ys seam = refl
behind y (x ∷ xs) ys seam = seam

either : (x y : ℕ) (xs ys : List ℕ) (t : Bool) → (is_lead x && is_trail y) ≡ t
    → scalars16 (xs ++ ys) ≡ scalars16 xs ++ scalars16 ys
    → scalars16 (y ∷ (xs ++ ys)) ≡ scalars16 (y ∷ xs) ++ scalars16 ys
    → scalars16 (x ∷ y ∷ (xs ++ ys)) ≡ scalars16 (x ∷ y ∷ xs) ++ scalars16 ys
either x y xs ys true pair far near =
    scalars16-pair x y (xs ++ ys) pair
    ∙ (ap (λ (l : List ℕ). pair_scalar x y ∷ l) far ∙ ap (λ (l : List ℕ). l ++ scalars16 ys) (sym (scalars16-pair x y xs pair)))
either x y xs ys false apart far near =
    scalars16-lone x (y ∷ (xs ++ ys)) apart
    ∙ (ap (λ (l : List ℕ). lone_scalar x ∷ l) near ∙ ap (λ (l : List ℕ). l ++ scalars16 ys) (sym (scalars16-lone x (y ∷ xs) apart)))

-- two lists one after the other, where no pair stands across the seam
pub scalars16-append : (xs ys : List ℕ) → (ends_in_lead xs && is_trail (get_or ys 0 0)) ≡ false
    → scalars16 (xs ++ ys) ≡ scalars16 xs ++ scalars16 ys
scalars16-append [] ys seam = ap (λ (l : List ℕ). l ++ scalars16 ys) (sym scalars16-nil)
scalars16-append (x ∷ []) ys seam =
    scalars16-lone x ys seam ∙ ap (λ (l : List ℕ). l ++ scalars16 ys) (sym (scalars16-lone x [] (no_trail x) ∙ ap (λ (l : List ℕ). lone_scalar x ∷ l) scalars16-nil))
scalars16-append (x ∷ y ∷ xs) ys seam =
    either x y xs ys (is_lead x && is_trail y) refl (scalars16-append xs ys (behind y xs ys seam)) (scalars16-append (y ∷ xs) ys seam)

-- no unit is both
both_at : (unit : ℕ) → (is_lead unit && is_trail unit) ≡ false
both_at unit = grind (arith, nat_tests)

-- the last of the first units, where a trail follows
last_lead : (n : ℕ) (units : List ℕ)
    → (ends_in_lead (take (suc n) units) && is_trail (get_or units (suc n) 0)) ≡ (is_lead (get_or units n 0) && is_trail (get_or units (suc n) 0))
last_lead n [] = refl
last_lead zero (u ∷ units) = refl
last_lead (suc n) (u ∷ []) = no_trail u
last_lead (suc n) (u ∷ v ∷ units) = last_lead n (v ∷ units)

front_seam : (units : List ℕ) (n : ℕ) → is_seam16 units n ≡ true → (ends_in_lead (take n units) && is_trail (get_or units n 0)) ≡ false
front_seam units zero seam = refl
front_seam units (suc n) seam =
    let back : suc n - 1 ≡ n = omega arith in
    last_lead n units ∙ not_true _ (rw back at seam)

-- two parts of a text, one after the other
pub parts16 : (units : List ℕ) (n m : ℕ) → is_seam16 units n ≡ true
    → scalars16 (take (n + m) units) ≡ scalars16 (take n units) ++ scalars16 (take m (drop n units))
parts16 units n zero seam =
    ap (λ k. scalars16 (take k units)) (add-zero n) ∙ (sym (append-nil (scalars16 (take n units))) ∙ ap (λ (l : List ℕ). scalars16 (take n units) ++ l) (sym scalars16-nil))
parts16 units n (suc m) seam =
    let head : get_or (take (suc m) (drop n units)) 0 0 ≡ get_or units n 0 =
    get_or-take (suc m) (drop n units) 0 0 (omega arith) ∙ (get_or-drop n units 0 0 ∙ ap (λ k. get_or units k 0) (add-zero n)) in
    ap scalars16 (take-add n (suc m) units)
    ∙ scalars16-append (take n units) (take (suc m) (drop n units)) (rw head (front_seam units n seam))

pub at_start16 : (units : List ℕ) → is_seam16 units 0 ≡ true
at_start16 units = ap not (both_at (get_or units 0 0))

pub whole16 : (units : List ℕ) (n : ℕ) → is_seam16 units n ≡ true → scalars16 units ≡ scalars16 (take n units) ++ scalars16 (drop n units)
whole16 units n seam =
    let head : get_or (drop n units) 0 0 ≡ get_or units n 0 = get_or-drop n units 0 0 ∙ ap (λ k. get_or units k 0) (add-zero n) in
    ap scalars16 (sym (take-append-drop n units)) ∙ scalars16-append (take n units) (drop n units) (rw head (front_seam units n seam))

-- a seam of what is behind a place
seam_behind : (units : List ℕ) (n m : ℕ) → is_seam16 units (n + m) ≡ true → is_seam16 (drop n units) m ≡ true
seam_behind units n zero seam = at_start16 (drop n units)
seam_behind units n (suc m) seam =
    let back : suc m - 1 ≡ m = omega arith in
    let whole : (n + suc m) - 1 ≡ n + m = omega arith in
    rw (back, get_or-drop n units m 0, get_or-drop n units (suc m) 0) (rw whole at seam)

-- from one seam to another
pub reads16 : (units : List ℕ) (n m : ℕ) → is_seam16 units n ≡ true → is_seam16 units (n + m) ≡ true
    → ReadsBetween scalars16 units n (n + m) (scalars16 (take m (drop n units)))
reads16 units n m seam seam' = record {
  same_items = refl;
  read = parts16 units n m seam;
  rest = whole16 (drop n units) m (seam_behind units n m seam') ∙ ap (λ l. scalars16 (take m (drop n units)) ++ scalars16 l) (drop-drop m n units);
}

-- behind a unit that begins no pair, and behind a pair
pub seam_lone : (units : List ℕ) (n : ℕ) → (is_lead (get_or units n 0) && is_trail (get_or units (n + 1) 0)) ≡ false → is_seam16 units (n + 1) ≡ true
seam_lone units n apart =
    let back : (n + 1) - 1 ≡ n = omega arith in
    rw back (ap not apart)

no_lead : (unit : ℕ) → is_trail unit ≡ true → is_lead unit ≡ false
no_lead unit trail = grind (arith, nat_tests)

pub seam_pair : (units : List ℕ) (n : ℕ) → is_trail (get_or units (n + 1) 0) ≡ true → is_seam16 units (n + 2) ≡ true
seam_pair units n trail =
    let back : (n + 2) - 1 ≡ n + 1 = omega arith in
    rw back (ap (λ t. not (t && is_trail (get_or units (n + 2) 0))) (no_lead (get_or units (n + 1) 0) trail))

ascii_lead : (unit : ℕ) → unit < 0x80 → is_lead unit ≡ false
ascii_lead unit low = grind (arith, nat_tests)

pub seam_ascii16 : (units : List ℕ) (n k : ℕ) → is_seam16 units n ≡ true → k ≤ ascii_len (drop n units) → is_seam16 units (n + k) ≡ true
seam_ascii16 units n zero seam within = rw (add-zero n) seam
seam_ascii16 units n (suc k) seam within =
    let low = ascii_at (drop n units) k (omega arith) in
    let here : get_or (drop n units) k 0 ≡ get_or units ((n + suc k) - 1) 0 =
    get_or-drop n units k 0 ∙ ap (λ j. get_or units j 0) {x = n + k} {y = (n + suc k) - 1} (omega arith) in
    ap (λ t. not (t && is_trail (get_or units (n + suc k) 0))) (ascii_lead (get_or units ((n + suc k) - 1) 0) (rw here at low))

lone_ascii : (unit : ℕ) → unit < 0x80 → lone_scalar unit ≡ unit
lone_ascii unit low = grind (arith, nat_tests)

ascii_apart : (unit next : ℕ) → unit < 0x80 → (is_lead unit && is_trail next) ≡ false
ascii_apart unit next low = ap (λ t. t && is_trail next) (ascii_lead unit low)

-- ASCII is its scalars
pub scalars16-ascii : (units : List ℕ) (k : ℕ) → k ≤ ascii_len units → scalars16 (take k units) ≡ take k units
scalars16-ascii units zero within = scalars16-nil
scalars16-ascii [] (suc k) within = scalars16-nil
scalars16-ascii (u ∷ units) (suc k) within =
    let low = ascii_at (u ∷ units) 0 (omega arith) in
    let rest = scalars16-ascii units k (shorter u units k within) in
    scalars16-lone u (take k units) (ascii_apart u (get_or (take k units) 0 0) low) ∙ (ap (λ c. c ∷ scalars16 (take k units)) (lone_ascii u low) ∙ ap (λ (l : List ℕ). u ∷ l) rest)

-- the scalar behind a seam
pub lone_at : (units : List ℕ) (n : ℕ) → n < length units → is_seam16 units n ≡ true
    → (is_lead (get_or units n 0) && is_trail (get_or units (n + 1) 0)) ≡ false
    → ReadsBetween scalars16 units n (n + 1) (lone_scalar (get_or units n 0) ∷ [])
lone_at units n within seam apart =
    let u = get_or units n 0 in
    let here : take 1 (drop n units) ≡ u ∷ [] = ap (take 1) (drop_more units n 0 within) in
    let one : scalars16 (u ∷ []) ≡ lone_scalar u ∷ [] = scalars16-lone u [] (no_trail u) ∙ ap (λ (l : List ℕ). lone_scalar u ∷ l) scalars16-nil in
    rw (here, one) at (reads16 units n 1 seam (seam_lone units n apart))

trail_within : (units : List ℕ) (k : ℕ) → is_trail (get_or units k 0) ≡ true → k < length units
trail_within [] k trail = cc
trail_within (u ∷ units) zero trail = omega arith
trail_within (u ∷ units) (suc k) trail = let h = trail_within units k trail in omega arith

pub pair_at : (units : List ℕ) (n : ℕ) → is_seam16 units n ≡ true
    → (is_lead (get_or units n 0) && is_trail (get_or units (n + 1) 0)) ≡ true
    → ReadsBetween scalars16 units n (n + 2) (pair_scalar (get_or units n 0) (get_or units (n + 1) 0) ∷ [])
pair_at units n seam pair =
    let within : n + 1 < length units = trail_within units (n + 1) (and_parts _ _ pair).1 in
    let u = get_or units n 0 in
    let v = get_or units (n + 1) 0 in
    let here : take 2 (drop n units) ≡ u ∷ v ∷ [] =
    ap (take 2) (drop_more units n 0 (omega arith) ∙ ap (λ (l : List ℕ). u ∷ l) (drop_more units (n + 1) 0 within)) in
    let one : scalars16 (u ∷ v ∷ []) ≡ pair_scalar u v ∷ [] = scalars16-pair u v [] pair ∙ ap (λ (l : List ℕ). pair_scalar u v ∷ l) scalars16-nil in
    rw (here, one) at (reads16 units n 2 seam (seam_pair units n (and_parts _ _ pair).1))

-- between two seams with ASCII between them
pub ascii_reads16 : (units : List ℕ) (n k : ℕ) → is_seam16 units n ≡ true → k ≤ ascii_len (drop n units)
    → ReadsBetween scalars16 units n (n + k) (take k (drop n units))
ascii_reads16 units n k seam within =
    rw (scalars16-ascii (drop n units) k within) at (reads16 units n k seam (seam_ascii16 units n k seam within))
