-- ASCII that was copied, and the scalar past it.
use Rattle.std.proofs.Common.{◌≡◌, ℕ, zero, suc, ◌+◌, ◌<◌, ◌≤◌, Bool, true, false, List, [], ◌∷◌, ◌++◌, length, take, refl, ap, sym, ◌∙◌, arith}
use Rattle.std.specs.Prelude.{Option, Some, None, IsSome, unwrap_or, nat_lt}
use Rattle.std.specs.List.{All}
use Rattle.std.proofs.lemmas.Bool.{ltb-true}
use Rattle.std.proofs.lemmas.Grind.{flat_map-append}
use Rattle.std.proofs.lemmas.List.{append-nil}
use Rattle.std.proofs.lemmas.List.Elements.{All-nil, All-cons, All-head, All-tail, All-append}
use Rattle.enc_handles.specs.Ascii.{ascii_len}
use Rattle.enc_handles.specs.Reading.{Reading}
use Rattle.enc_handles.specs.Writing.{Writing, after_writing}
use Rattle.enc_handles.proofs.LoopLemmas.{after_writing-append}
use Rattle.enc_drivers.specs.Encode.{BytesOf, IsAsciiCompatible, HaveBytes, encoded}
use Rattle.enc_drivers.specs.Encoding.{Encodes, CopiesAscii, Writes}

-- what stands before the first element past ASCII
pub ascii_front : (l : List ℕ) (n : ℕ) → n ≤ ascii_len l → All (λ c. c < 0x80) (take n l)
ascii_front l zero h = All-nil (λ c. c < 0x80)
ascii_front [] (suc n) h = All-nil (λ c. c < 0x80)
ascii_front (x ∷ xs) (suc n) h = by_test (nat_lt x 0x80) refl (ascii_front xs n)
  where
    by_test : (t : Bool) → nat_lt x 0x80 ≡ t → (n ≤ ascii_len xs → All (λ c. c < 0x80) (take n xs)) → All (λ c. c < 0x80) (x ∷ take n xs)
    by_test true e later =
        let k : suc n ≤ ascii_len xs + 1 = rw e at h in
        All-cons (λ c. c < 0x80) x (take n xs) (ltb-true x 0x80 e) (later (omega arith))
    by_test false e later = absurd (let k : suc n ≤ 0 = rw e at h in omega arith)

module _ (bytes_of : BytesOf) (ascii : IsAsciiCompatible bytes_of) where
  abbrev has_bytes : ℕ → Type 0
  has_bytes scalar = IsSome (bytes_of scalar)

  -- ASCII is its own bytes
  ascii_encoded : (l : List ℕ) → All (λ c. c < 0x80) l → encoded bytes_of l ≡ l
  ascii_encoded [] h = refl
  ascii_encoded (x ∷ xs) h =
      let here : bytes_of x ≡ Some (x ∷ []) = ascii x (All-head (λ c. c < 0x80) x xs h) in
      ap (λ (o : Option (List ℕ)). unwrap_or o [] ++ encoded bytes_of xs) here ∙ ap (λ (l : List ℕ). x ∷ l) (ascii_encoded xs (All-tail (λ c. c < 0x80) x xs h))

  ascii_has_bytes : (l : List ℕ) → All (λ c. c < 0x80) l → HaveBytes bytes_of l
  ascii_has_bytes [] h = All-nil has_bytes
  ascii_has_bytes (x ∷ xs) h =
      let some : IsSome (bytes_of x) = rw (ascii x (All-head (λ c. c < 0x80) x xs h)) refl in
      All-cons has_bytes x xs some (ascii_has_bytes xs (All-tail (λ c. c < 0x80) x xs h))

  -- nothing was read past it
  pub encodes_ascii : (scalars_of : List ℕ → List ℕ) (old new : Reading) (before after : Writing) → CopiesAscii scalars_of old new before after None
      → Encodes scalars_of bytes_of old new before after []
  encodes_ascii scalars_of old new before after copied = record {
    scalars = copied.ascii;
    reads = copied.reads;
    have_bytes = ascii_has_bytes copied.ascii copied.each;
    writes = copied.writes ∙ ap (after_writing before) (sym (ascii_encoded copied.ascii copied.each));
  }

  -- a scalar that has no bytes
  pub encodes_unmappable : (scalars_of : List ℕ → List ℕ) (old new : Reading) (before after : Writing) (scalar : ℕ) → CopiesAscii scalars_of old new before after (Some scalar)
      → Encodes scalars_of bytes_of old new before after (scalar ∷ [])
  encodes_unmappable scalars_of old new before after scalar copied = record {
    scalars = copied.ascii;
    reads = copied.reads;
    have_bytes = ascii_has_bytes copied.ascii copied.each;
    writes = copied.writes ∙ ap (after_writing before) (sym (ascii_encoded copied.ascii copied.each));
  }

  -- a scalar whose bytes were written
  pub encodes_past : (scalars_of : List ℕ → List ℕ) (old new : Reading) (before middle after : Writing) (scalar : ℕ) (bytes : List ℕ)
      → CopiesAscii scalars_of old new before middle (Some scalar) → Some bytes ≡ bytes_of scalar → after ≡ after_writing middle bytes
      → Encodes scalars_of bytes_of old new before after []
  encodes_past scalars_of old new before middle after scalar bytes copied has writes = record {
    scalars = copied.ascii ++ scalar ∷ [];
    reads = rw (append-nil (copied.ascii ++ scalar ∷ [])) copied.reads;
    have_bytes =
        let some : IsSome (bytes_of scalar) = rw (← has) refl in
        All-append has_bytes copied.ascii (scalar ∷ []) (ascii_has_bytes copied.ascii copied.each) (All-cons has_bytes scalar [] some (All-nil has_bytes));
    writes =
        let one : encoded bytes_of (scalar ∷ []) ≡ bytes = append-nil (unwrap_or (bytes_of scalar) []) ∙ ap (λ (o : Option (List ℕ)). unwrap_or o []) (sym has) in
        let all : encoded bytes_of (copied.ascii ++ scalar ∷ []) ≡ copied.ascii ++ bytes =
        flat_map-append (λ c. unwrap_or (bytes_of c) []) copied.ascii (scalar ∷ [])
        ∙ ap (λ (l : List ℕ). l ++ encoded bytes_of (scalar ∷ [])) (ascii_encoded copied.ascii copied.each) ∙ ap (λ (l : List ℕ). copied.ascii ++ l) one in
        writes
        ∙ ap (λ (w : Writing). after_writing w bytes) copied.writes ∙ after_writing-append before copied.ascii bytes
        ∙ ap (after_writing before) (sym all);
  }

-- where there is room, bytes are written
pub written_with_room : (before after : Writing) (bytes : List ℕ) (written : Bool) → Writes before after bytes written → length bytes ≤ before.free → after ≡ after_writing before bytes
written_with_room before after bytes true w room = w
written_with_room before after bytes false w room = absurd (omega (arith, w.1))
