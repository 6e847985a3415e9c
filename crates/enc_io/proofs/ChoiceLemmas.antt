-- The encoding that a stream is read by, and its text from then on.
use Rattle.std.proofs.Common.{◌≡◌, ℕ, Bool, true, false, nat_lt, if◌then◌else◌, List, [], ◌∷◌, ◌++◌, length, None, Some, IsTrue, option_and_then, sym, ap, refl, ◌∙◌, arith, append-nil, length-append}
use Rattle.std.specs.declared.option.Option.{Option}
use Rattle.std.specs.Option.{option_map, option_map_or, ForSome}
use Rattle.std.proofs.lemmas.Bool.{le-ltb}
use Rattle.enc_drivers.proofs.UnitLemmas.{units_nil, text_nil}
use Rattle.enc_drivers.specs.Units.{units, text}
use Rattle.enc_front.specs.declared.encoding.Encoding.{Encoding}
use Rattle.enc_front.specs.declared.encoding.Encoding.TheVariants.{Utf8, Utf16Be, Utf16Le}
use Rattle.enc_front.specs.Indexes.{Indexes, known}
use Rattle.enc_front.specs.DecoderView.{fresh}
use Rattle.enc_front.specs.Marks.{mark, own}
use Rattle.enc_front.specs.Decoder.{Marks, any_mark, own_mark, no_mark, DecoderStanding, past_mark, text_to_come}
use Rattle.enc_front.specs.Units.{unit, decoded}
use Rattle.enc_io.specs.Marks.{peeked_encoding}
use Rattle.enc_io.specs.Options.{Options}
use Rattle.enc_io.specs.Peeker.{stream_bytes}
use Rattle.enc_io.specs.Reader.{still_behind, decoder_number}
use Rattle.enc_io.specs.Text.{chosen, is_settled, marked_encoding, stream_text}
use Rattle.enc_io.proofs.PeekerLemmas.{mark_of_three}

-- three bytes decide the encoding of a mark
peeked_three : (bytes rest : List ℕ) → length bytes ≡ 3 → peeked_encoding (bytes ++ rest) ≡ peeked_encoding bytes
peeked_three bytes rest three =
    ap (λ b. if b then None else option_map (λ found. found.0) (mark (bytes ++ rest))) (le-ltb (length (bytes ++ rest)) 3 (omega (arith, length-append bytes rest)))
    ∙ ap (λ m. option_map (λ found. found.0) m) (mark_of_three bytes rest three)
    ∙ ap (λ b. if b then None else option_map (λ found. found.0) (mark bytes)) (sym (le-ltb (length bytes) 3 (omega arith)))

peeked_front : (ended : Bool) (bytes rest : List ℕ) → (ended ≡ false → length bytes ≡ 3) → (ended ≡ true → rest ≡ []) → peeked_encoding (bytes ++ rest) ≡ peeked_encoding bytes
peeked_front false bytes rest whole none = peeked_three bytes rest (whole refl)
peeked_front true bytes rest whole none = ap peeked_encoding (ap (λ l. bytes ++ l) (none refl) ∙ append-nil bytes)

-- the first bytes of a stream choose its encoding
pub chosen_front : (options : Options) (ended : Bool) (bytes rest : List ℕ) → (ended ≡ false → length bytes ≡ 3) → (ended ≡ true → rest ≡ [])
    → chosen options (bytes ++ rest) ≡ chosen options bytes
unfolding chosen
chosen_front options ended bytes rest whole none =
    ap (λ m. if is_settled options then options.encoding else option_map_or (marked_encoding options) m options.encoding) (peeked_front ended bytes rest whole none)

-- the decoder of an encoding that was chosen
abbrev pub decoder_for : Indexes → Option Encoding → Option DecoderStanding
decoder_for indexes found = option_map (λ encoding. fresh own_mark encoding indexes) found

text_of_choice : (indexes : Indexes) (found : Option Encoding) (body : List ℕ)
    → option_map_or (λ encoding. decoded encoding indexes (own encoding body)) found body ≡ still_behind (decoder_for indexes found) body
unfolding still_behind decoded past_mark
text_of_choice indexes None body = refl
text_of_choice indexes (Some encoding) body = refl

-- the text of a stream whose first bytes chose its encoding
pub chosen_text : (options : Options) (indexes : Indexes) (ended : Bool) (bytes waiting rest : List ℕ) → (ended ≡ false → length bytes ≡ 3) → (ended ≡ true → rest ≡ [])
    → stream_bytes options.strip_bom (bytes ++ rest) ≡ waiting ++ rest
    → stream_text options indexes (bytes ++ rest) ≡ still_behind (decoder_for indexes (chosen options bytes)) (waiting ++ rest)
unfolding stream_text
chosen_text options indexes ended bytes waiting rest whole none body =
    ap (λ found. option_map_or (λ encoding. decoded encoding indexes (own encoding (stream_bytes options.strip_bom (bytes ++ rest)))) found (stream_bytes options.strip_bom (bytes ++ rest)))
    (chosen_front options ended bytes rest whole none)
    ∙ ap (λ body. option_map_or (λ encoding. decoded encoding indexes (own encoding body)) (chosen options bytes) body) body
    ∙ text_of_choice indexes (chosen options bytes) (waiting ++ rest)

pub number_for : (indexes : Indexes) (found : Option Encoding) → decoder_number (decoder_for indexes found) ≡ 0
unfolding decoder_number
number_for indexes None = refl
number_for indexes (Some encoding) = refl

-- an encoding that is chosen is the named one, or one with a mark
abbrev pub IsKnown : Indexes → Option Encoding → Type 0
IsKnown indexes found = ForSome found (λ encoding. IsTrue (known encoding indexes))

-- of nothing, no mark is removed
own_nothing : (encoding : Encoding) → own encoding [] ≡ []
own_nothing Utf8 = refl
own_nothing Utf16Be = refl
own_nothing Utf16Le = refl
own_nothing other = refl

past_nothing : (marks : Marks) (encoding : Encoding) → (past_mark marks encoding []).1 ≡ []
unfolding past_mark
past_nothing any_mark encoding = refl
past_nothing own_mark encoding = own_nothing encoding
past_nothing no_mark encoding = refl

-- a decoder that holds and owes nothing has nothing to give
pub nothing_to_come : (at : DecoderStanding) → at.owes ≡ false → at.place.held ≡ [] → text_to_come at [] ≡ []
nothing_to_come at owes held =
    let past = past_mark at.place.marks at.place.encoding in
    ap (λ b. (if b then 0xEF ∷ 0xBF ∷ 0xBD ∷ [] else []) ++ text (units (unit (past (at.place.held ++ [])).0 at.place.indexes) at.place.mode (past (at.place.held ++ [])).1)) owes
    ∙ ap (λ l. text (units (unit (past (l ++ [])).0 at.place.indexes) at.place.mode (past (l ++ [])).1)) held
    ∙ ap (λ l. text (units (unit (past []).0 at.place.indexes) at.place.mode l)) (past_nothing at.place.marks at.place.encoding)
    ∙ ap text (units_nil (unit (past []).0 at.place.indexes) at.place.mode)
    ∙ text_nil

true_if : {A : Type 0} (b : Bool) (x : A) → (if b then None else Some x) ≡ None → b ≡ true
true_if true x e = refl
true_if false x e = absurd (cc)

-- the named encoding is known where none is unknown
pub named_known : (found : Option Encoding) (indexes : Indexes) → option_and_then (λ encoding. if known encoding indexes then None else Some encoding) found ≡ None
    → IsKnown indexes found
named_known found indexes none encoding is =
    true_if (known encoding indexes) encoding (ap (λ f. option_and_then (λ encoding. if known encoding indexes then None else Some encoding) f) (sym is) ∙ none)

mark_known : (indexes : Indexes) (a b c : Bool) (found : Encoding × ℕ)
    → (if a then Some (Utf8, 3) else (if b then Some (Utf16Be, 2) else (if c then Some (Utf16Le, 2) else None))) ≡ Some found → known found.0 indexes ≡ true
mark_known indexes true b c found is = let e : found ≡ (Utf8, 3) = cc in rw e refl
mark_known indexes false true c found is = let e : found ≡ (Utf16Be, 2) = cc in rw e refl
mark_known indexes false false true found is = let e : found ≡ (Utf16Le, 2) = cc in rw e refl
mark_known indexes false false false found is = absurd (cc)

peeked_known : (indexes : Indexes) (few : Bool) (found : Option (Encoding × ℕ)) → ((m : Encoding × ℕ) → found ≡ Some m → known m.0 indexes ≡ true)
    → (encoding : Encoding) → (if few then None else option_map (λ m. m.0) found) ≡ Some encoding → known encoding indexes ≡ true
peeked_known indexes true found each encoding is = absurd (cc)
peeked_known indexes false None each encoding is = absurd (cc)
peeked_known indexes false (Some m) each encoding is = let e : encoding ≡ m.0 = cc in rw e (each m refl)

marked_known : (options : Options) (indexes : Indexes) (found encoding : Encoding) → IsKnown indexes options.encoding → known found indexes ≡ true
    → marked_encoding options found ≡ Some encoding → known encoding indexes ≡ true
marked_known options indexes Utf8 encoding named here is = by_passing options.utf8_passthru is
  where
    by_passing : (passes : Bool) → (if passes then options.encoding else Some Utf8) ≡ Some encoding → known encoding indexes ≡ true
    by_passing true is = named encoding is
    by_passing false is = let e : encoding ≡ Utf8 = cc in rw e here
marked_known options indexes found encoding named here is = let e : encoding ≡ found = cc in rw e here

-- an encoding that is chosen is known: it is the named one, or needs no index
pub chosen_known : (options : Options) (indexes : Indexes) (bytes : List ℕ) (encoding : Encoding) → IsKnown indexes options.encoding
    → chosen options bytes ≡ Some encoding → known encoding indexes ≡ true
unfolding chosen
chosen_known options indexes bytes encoding named is =
    by_case (is_settled options) (peeked_encoding bytes) (peeked_known indexes (nat_lt (length bytes) 3) (mark bytes) (λ m. mark_known indexes _ _ _ m)) is
  where
    by_case : (settled : Bool) (peeked : Option Encoding) → ((found : Encoding) → peeked ≡ Some found → known found indexes ≡ true)
        → (if settled then options.encoding else option_map_or (marked_encoding options) peeked options.encoding) ≡ Some encoding → known encoding indexes ≡ true
    by_case true peeked each is = named encoding is
    by_case false None each is = named encoding is
    by_case false (Some found) each is = marked_known options indexes found encoding named (each found refl) is
