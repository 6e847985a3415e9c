-- The longest front that is UTF-8: what joins onto a front, and how little of the bytes decides it.
use Rattle.std.proofs.Common.{◌≡◌, ℕ, zero, suc, ◌+◌, ◌-◌, ◌<◌, ◌≤◌, ◌⊎◌, Bool, true, false, cond, List, [], ◌∷◌, length, take, drop, refl, sym, ap, subst, ◌∙◌, arith, inl, inr, ⊎_elim, ltb, get_or, take-add, take-take, length-take, length-drop, length-append}
use Rattle.std.proofs.lemmas.Bool.{and_parts, cases_lt}
use Rattle.std.proofs.lemmas.Bool.Decides.{nat_tests}
use Rattle.std.proofs.lemmas.List.{drop-take, take_all, take_at}
use Rattle.std.proofs.lemmas.Str.{IsUtf8-nil, IsUtf8-append, IsUtf8-drop, IsUtf8-encode, IsUtf8-from_is_utf8, IsUtf8-from_ascii, is_utf8-from_IsUtf8, IsCharBoundary-from_take, utf8_valid_len_le, length-encode, len_utf8_bounds}
use Rattle.std.specs.Str.{IsUtf8, is_utf8, all_scalars}
use Rattle.std.specs.Str.Lossy.{valid_len_up_to, utf8_valid_len}
use lib.Utf8.{encode, encodes}
use Rattle.enc_handles.specs.Ascii.{ascii_len}

-- what `utf8_valid_len` says: a front of that length is UTF-8, and no longer one is
front-cond : (bs : List ℕ) (b : Bool) (n k : ℕ) → is_utf8 (take n bs) ≡ b → IsUtf8 (take k bs) → IsUtf8 (take (cond b n k) bs)
front-cond bs true n k e u = IsUtf8-from_is_utf8 (take n bs) e
front-cond bs false n k e u = u

front-up_to : (bs : List ℕ) (n : ℕ) → IsUtf8 (take (valid_len_up_to bs n) bs)
front-up_to bs zero = IsUtf8-nil
front-up_to bs (suc n) = front-cond bs _ (suc n) (valid_len_up_to bs n) refl (front-up_to bs n)

pub front-utf8 : (bs : List ℕ) → IsUtf8 (take (utf8_valid_len bs) bs)
unfolding utf8_valid_len
front-utf8 bs = front-up_to bs (length bs)

longest-cond : (bs : List ℕ) (b : Bool) (n k m : ℕ) → is_utf8 (take n bs) ≡ b → m ≤ n → IsUtf8 (take m bs) → (m < n → m ≤ k) → m ≤ cond b n k
longest-cond bs true n k m e below u less = below
longest-cond bs false n k m e below u less =
    ⊎_elim less (λ above.
    let same : m ≡ n = omega arith in
    let yes : is_utf8 (take n bs) ≡ true = is_utf8-from_IsUtf8 (take n bs) (subst (λ j. IsUtf8 (take j bs)) same u) in
    absurd (grind (arith, yes, e)))
    (cases_lt m n)

longest-up_to : (bs : List ℕ) (n m : ℕ) → m ≤ n → IsUtf8 (take m bs) → m ≤ valid_len_up_to bs n
longest-up_to bs zero m below u = below
longest-up_to bs (suc n) m below u = longest-cond bs _ (suc n) (valid_len_up_to bs n) m refl below u (λ less. longest-up_to bs n m (omega arith) u)

pub longest-utf8 : (bs : List ℕ) (m : ℕ) → m ≤ length bs → IsUtf8 (take m bs) → m ≤ utf8_valid_len bs
unfolding utf8_valid_len
longest-utf8 bs m below u = longest-up_to bs (length bs) m below u

-- what is UTF-8 behind a front that is, and the other way round
module _ (bs : List ℕ) (at : ℕ) (within : at ≤ length bs) (front : IsUtf8 (take at bs)) where
  pub utf8-join : (n : ℕ) → IsUtf8 (take n (drop at bs)) → IsUtf8 (take (at + n) bs)
  utf8-join n part = rw take-add (IsUtf8-append _ _ front part)

  pub utf8-behind : (n : ℕ) → at + n ≤ length bs → IsUtf8 (take (at + n) bs) → IsUtf8 (take n (drop at bs))
  utf8-behind n fits whole =
      let shorter = IsUtf8-drop (take (at + n) bs) at whole
      (IsCharBoundary-from_take (take (at + n) bs) at whole (omega (arith, length-take (at + n) bs)) (rw (take-take at (at + n) bs (omega arith)) front)) in
      rw (← drop-take at n bs) shorter

  -- composition
  pub valid_len-behind : utf8_valid_len bs ≡ at + utf8_valid_len (drop at bs)
  valid_len-behind =
      let n = utf8_valid_len (drop at bs) in
      let m = utf8_valid_len bs in
      let rest = length-drop at bs in
      let low = utf8_valid_len_le (drop at bs) in
      let high = utf8_valid_len_le bs in
      let least = longest-utf8 bs (at + n) (omega arith) (utf8-join n (front-utf8 (drop at bs))) in
      let e : at + (m - at) ≡ m = omega arith in
      let most = longest-utf8 (drop at bs) (m - at) (omega arith) (utf8-behind (m - at) (omega arith) (subst (λ j. IsUtf8 (take j bs)) (sym e) (front-utf8 bs))) in
      omega arith

  -- all of it
  pub valid_len-all : length bs ≤ at → at ≡ utf8_valid_len bs
  valid_len-all all = let up = utf8_valid_len_le bs in let down = longest-utf8 bs at within front in omega arith

-- a text that isn't empty begins with at most four bytes that are a text
pub record FirstOf (bs : List ℕ) : Type 0 where
  pub len : ℕ
  pub some : 0 < len
  pub four : len ≤ 4
  pub within : len ≤ length bs
  pub text : IsUtf8 (take len bs)

first-encodes : (cs bs : List ℕ) → all_scalars cs ≡ true → encodes cs ≡ bs → 0 < length bs → FirstOf bs
first-encodes [] bs h e some = let none = ap length e in absurd (omega arith)
first-encodes (c ∷ cs) bs h e some =
    let parts = and_parts _ _ h in
    let count = length-encode c in
    let bounds = len_utf8_bounds c in
    let whole = ap length e in
    record {
      len = length (encode c);
      some = omega (arith, bounds.0);
      four = omega (arith, bounds.1);
      within = omega (arith, length-append (encode c) (encodes cs));
      text = subst (λ l. IsUtf8 (take (length (encode c)) l)) e (rw (take_at (encode c) (encodes cs) (length (encode c)) refl) (IsUtf8-encode c parts.0));
    }

pub first_of : (bs : List ℕ) → IsUtf8 bs → 0 < length bs → FirstOf bs
first_of bs u some = first-encodes u.0 bs u.1.0 u.1.1 some

-- the first m bytes decide it where four of them are left behind their longest front, or where they are all
pub valid_len-near : (bs : List ℕ) (m : ℕ) → m ≤ length bs → (utf8_valid_len (take m bs) + 4 ≤ m) ⊎ (length bs ≤ m) → utf8_valid_len (take m bs) ≡ utf8_valid_len bs
valid_len-near bs m within (inr all) = ap utf8_valid_len (take_all m bs all)
valid_len-near bs m within (inl near) =
    let k = utf8_valid_len (take m bs) in
    let j = utf8_valid_len bs in
    let high = utf8_valid_len_le bs in
    let count : length (take m bs) ≡ m = length-take m bs ∙ omega arith in
    let front : IsUtf8 (take k bs) = subst IsUtf8 (take-take k m bs (omega arith)) (front-utf8 (take m bs)) in
    let least = longest-utf8 bs k (omega arith) front in
    ⊎_elim (λ more.
    let e : k + (j - k) ≡ j = omega arith in
    let part = utf8-behind bs k (omega arith) front (j - k) (omega arith) (subst (λ i. IsUtf8 (take i bs)) (sym e) (front-utf8 bs)) in
    let long : length (take (j - k) (drop k bs)) ≡ j - k = length-take (j - k) (drop k bs) ∙ omega (arith, length-drop k bs) in
    let first = first_of (take (j - k) (drop k bs)) part (omega arith) in
    let fits = first.within in
    let four = first.four in
    let some = first.some in
    let next : IsUtf8 (take first.len (drop k bs)) = subst IsUtf8 (take-take first.len (j - k) (drop k bs) (omega arith)) first.text in
    let longer : IsUtf8 (take (k + first.len) bs) = utf8-join bs k (omega arith) front first.len next in
    let inside = longest-utf8 (take m bs) (k + first.len) (omega arith) (subst IsUtf8 (sym (take-take (k + first.len) m bs (omega arith))) longer) in
    absurd (omega arith))
    (λ less. omega arith)
    (cases_lt k j)

-- the longest front of the bytes that could fit a room
pub front-window : (src : List ℕ) (room n : ℕ) → n ≡ utf8_valid_len (take room src) → IsUtf8 (take n src)
front-window src room n e =
    let window = take room src in
    let few = utf8_valid_len_le window in
    let whole = subst IsUtf8 (take-take (utf8_valid_len window) room src (omega (arith, length-take room src))) (front-utf8 window) in
    subst (λ m. IsUtf8 (take m src)) (sym e) whole

small_at : (b : ℕ) (bs : List ℕ) (n : ℕ) → (n ≤ ascii_len bs → (i : ℕ) → get_or (take n bs) i 0 < 0x80)
    → (t : Bool) → ltb b 0x80 ≡ t → suc n ≤ cond t (ascii_len bs + 1) 0 → (i : ℕ) → get_or (b ∷ take n bs) i 0 < 0x80
small_at b bs n rest true e h zero = grind (arith, nat_tests)
small_at b bs n rest true e h (suc i) = rest (omega arith) i
small_at b bs n rest false e h i = absurd (omega arith)

small : (xs : List ℕ) (n : ℕ) → n ≤ ascii_len xs → (i : ℕ) → get_or (take n xs) i 0 < 0x80
small xs zero h i = omega arith
small [] (suc n) h i = omega arith
small (b ∷ bs) (suc n) h i = small_at b bs n (small bs n) (ltb b 0x80) refl h i

-- ASCII is UTF-8
pub ascii-utf8 : (xs : List ℕ) (n : ℕ) → n ≤ ascii_len xs → IsUtf8 (take n xs)
ascii-utf8 xs n few = IsUtf8-from_ascii (take n xs) (small xs n few)
