-- Scalars that were read and encoded, one after another.
use Rattle.std.proofs.Common.{◌≡◌, ℕ, ◌+◌, ◌<◌, ◌≤◌, List, [], ◌∷◌, ◌++◌, length, refl, ap, sym, ◌∙◌, arith, append_assoc, length-append}
use Rattle.std.specs.Prelude.{Option, Some, IsSome, unwrap_or}
use Rattle.std.proofs.lemmas.Grind.{flat_map-append}
use Rattle.std.proofs.lemmas.List.{append-nil}
use Rattle.std.proofs.lemmas.List.Elements.{All-nil, All-cons, All-append}
use Rattle.enc_handles.specs.Reading.{Reading, left}
use Rattle.enc_handles.specs.Scalars.{ReadsScalars}
use Rattle.enc_handles.specs.Writing.{Writing, after_writing}
use Rattle.enc_handles.proofs.LoopLemmas.{after_writing-append}
use Rattle.enc_handles.specs.declared.results.EncoderResult.TheVariants.{OutputFull}
use Rattle.enc_drivers.specs.Encode.{BytesOf, IsEncoder, encoded}
use Rattle.enc_drivers.specs.Encoding.{Encodes, EndsEncoding, scalars_left}
use Rattle.enc_drivers.proofs.Turns.{writing_none}

-- no scalar was read; some were, and then others
reads_none : (scalars_of : List ℕ → List ℕ) (r : Reading) → ReadsScalars scalars_of r r []
reads_none scalars_of r = record { same_items = refl; read = sym (append-nil _); rest = refl }

reads_more : (scalars_of : List ℕ → List ℕ) (a b c : Reading) (xs ys : List ℕ)
    → ReadsScalars scalars_of a b xs → ReadsScalars scalars_of b c ys → ReadsScalars scalars_of a c (xs ++ ys)
reads_more scalars_of a b c xs ys first second = record {
  same_items = second.same_items ∙ first.same_items;
  read = second.read ∙ ap (λ (l : List ℕ). l ++ ys) first.read ∙ append_assoc _ xs ys;
  rest = first.rest ∙ ap (λ (l : List ℕ). xs ++ l) second.rest ∙ sym (append_assoc xs ys _);
}

module _ (scalars_of : List ℕ → List ℕ) (bytes_of : BytesOf) where
  abbrev has_bytes : ℕ → Type 0
  has_bytes scalar = IsSome (bytes_of scalar)

  -- nothing yet
  pub encodes_none : (r : Reading) (w : Writing) → Encodes scalars_of bytes_of r r w w []
  encodes_none r w = record { scalars = []; reads = reads_none scalars_of r; have_bytes = All-nil has_bytes; writes = writing_none w }

  -- one scalar
  pub encodes_one : (old new : Reading) (before after : Writing) (scalar : ℕ) (bytes : List ℕ) → ReadsScalars scalars_of old new (scalar ∷ [])
      → bytes_of scalar ≡ Some bytes → after ≡ after_writing before bytes → Encodes scalars_of bytes_of old new before after []
  encodes_one old new before after scalar bytes reads is writes = record {
    scalars = scalar ∷ [];
    reads = reads;
    have_bytes = let some : IsSome (bytes_of scalar) = rw is refl in All-cons has_bytes scalar [] some (All-nil has_bytes);
    writes =
        let same : encoded bytes_of (scalar ∷ []) ≡ bytes = append-nil (unwrap_or (bytes_of scalar) []) ∙ ap (λ (o : Option (List ℕ)). unwrap_or o []) is in
        writes ∙ ap (after_writing before) (sym same);
  }

  -- some, and then others
  pub encodes_more : (a b c : Reading) (u v w : Writing) (unmappable : List ℕ) → Encodes scalars_of bytes_of a b u v [] → Encodes scalars_of bytes_of b c v w unmappable
      → Encodes scalars_of bytes_of a c u w unmappable
  encodes_more a b c u v w unmappable first second =
      let xs = first.scalars in
      let ys = second.scalars in
      record {
        scalars = first.scalars ++ second.scalars;
        reads =
            let all : first.scalars ++ [] ++ (second.scalars ++ unmappable) ≡ first.scalars ++ second.scalars ++ unmappable =
            ap (λ (l : List ℕ). l ++ (second.scalars ++ unmappable)) (append-nil first.scalars) ∙ sym (append_assoc first.scalars second.scalars unmappable) in
            rw (← all) (reads_more scalars_of a b c (first.scalars ++ []) (second.scalars ++ unmappable) first.reads second.reads);
        have_bytes = All-append has_bytes first.scalars second.scalars first.have_bytes second.have_bytes;
        writes =
            second.writes
            ∙ (ap (λ (z : Writing). after_writing z (encoded bytes_of second.scalars)) first.writes
            ∙ (after_writing-append u (encoded bytes_of first.scalars) (encoded bytes_of second.scalars)
            ∙ ap (after_writing u) (sym (flat_map-append (λ c. unwrap_or (bytes_of c) []) first.scalars second.scalars))));
      }

  -- then no more scalars are left
  pub encodes_left : (a b : Reading) (u v : Writing) (unmappable : List ℕ) → Encodes scalars_of bytes_of a b u v unmappable
      → scalars_left scalars_of b ≤ scalars_left scalars_of a
  encodes_left a b u v unmappable e =
      let count : length (scalars_of (left a)) ≡ length (e.scalars ++ unmappable) + length (scalars_of (left b)) =
      ap length e.reads.rest ∙ length-append (e.scalars ++ unmappable) (scalars_of (left b)) in
      omega arith

-- the scalar was put back, since fewer bytes are free than it has
pub ends_full : (max : ℕ) (bytes_of : BytesOf) → IsEncoder max bytes_of → (old read back : Reading) (before after : Writing) (scalar : ℕ) (bytes given : List ℕ)
    → read.items ≡ old.items → back ≡ record read { place = old.place } → old.place < length old.items
    → after ≡ before → given ≡ bytes → before.free < length given → Some bytes ≡ bytes_of scalar → EndsEncoding bytes_of max back after OutputFull
ends_full max bytes_of law old read back before after scalar bytes given same_items is some same given_is full has =
    let as_long : length given ≡ length bytes = ap length given_is in
    let few : length bytes ≤ max = (law.each scalar bytes (sym has)).few in
    let free : after.free ≡ before.free = ap (λ (w : Writing). w.free) same in
    let place : back.place ≡ old.place = ap (λ (r : Reading). r.place) is in
    let items : back.items ≡ old.items = ap (λ (r : Reading). r.items) is ∙ same_items in
    let count : length back.items ≡ length old.items = ap length items in
    (omega arith, omega arith)
