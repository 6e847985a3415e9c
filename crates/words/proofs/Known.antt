-- The charsets of parsed words, where these own their bytes and where they don't.
use Rattle.std.proofs.Common.{◌≡◌, Option, Some, None, List, [], ◌∷◌, All, IfSome, IsTrue, map, subst, sym}
use Rattle.std.specs.Option.{option_map}
use Rattle.std.proofs.lemmas.List.Elements.{All-nil, All-cons, All-head, All-tail}
use Rattle.enc_front.specs.declared.charset.Charset.{Charset}
use Rattle.enc_front.specs.Charset as charsets
use Rattle.enc_front.specs.Indexes.{Indexes, known}
use Rattle.words.specs.declared.parser.ParsedEncodedWord.{ParsedEncodedWord}
use Rattle.words.specs.declared.parser.ParsedEncodedWord.TheVariants as variant
use Rattle.words.specs.declared.parser.ParsedSlice.{ParsedSlice}
use Rattle.words.specs.declared.parser.ParsedSlice.TheVariants as slice
use Rattle.words.specs.Parsed.{parsed_of, sliced_of, IsKnown, IsKnownSlice}

same_charset : (indexes : Indexes) (a b : Option Charset) → option_map charsets.encoding_of a ≡ option_map charsets.encoding_of b
    → IfSome b (λ charset. IsTrue (known (charsets.encoding_of charset) indexes)) → IfSome a (λ charset. IsTrue (known (charsets.encoding_of charset) indexes))
same_charset indexes None b e h = tt
same_charset indexes (Some x) None e h = absurd cc
same_charset indexes (Some x) (Some y) e h =
    let same : charsets.encoding_of x ≡ charsets.encoding_of y = cc in
    subst (λ z. IsTrue (known z indexes)) (sym same) h

one_known : (indexes : Indexes) (a : ParsedSlice) (b : ParsedEncodedWord) → sliced_of a ≡ parsed_of b → IsKnown indexes b → IsKnownSlice indexes a
one_known indexes (slice.ClearText text) b e h = tt
one_known indexes (slice.EncodedWord found encoding text) (variant.ClearText bytes) e h = absurd cc
one_known indexes (slice.EncodedWord found encoding text) (variant.EncodedWord other named bytes) e h =
    let same : option_map charsets.encoding_of found ≡ option_map charsets.encoding_of other = cc in
    same_charset indexes found other same h

-- the same words, the charsets of which the indexes have
pub all_known : (indexes : Indexes) (slices : List ParsedSlice) (parsed : List ParsedEncodedWord) → map sliced_of slices ≡ map parsed_of parsed
    → All (IsKnown indexes) parsed → All (IsKnownSlice indexes) slices
all_known indexes [] parsed e h = All-nil (IsKnownSlice indexes)
all_known indexes (a ∷ slices) [] e h = absurd cc
all_known indexes (a ∷ slices) (b ∷ parsed) e h =
    let first : sliced_of a ≡ parsed_of b = cc in
    let rest : map sliced_of slices ≡ map parsed_of parsed = cc in
    All-cons (IsKnownSlice indexes) a slices
    (one_known indexes a b first (All-head (IsKnown indexes) b parsed h))
    (all_known indexes slices parsed rest (All-tail (IsKnown indexes) b parsed h))
