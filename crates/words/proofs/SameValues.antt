-- Where `==` of words, tokens and parsed words is true.
use Rattle.std.proofs.Common.{◌≡◌, ℕ, false, ◌&&◌, nat_eq, List, [], refl, sym, ap, ◌∙◌, Decides, Option, Some, None, rules}
use Rattle.std.specs.Option.{option_map, option_eq}
use Rattle.std.specs.Cmp.Lexicographic.{pointwise}
use Rattle.std.proofs.lemmas.Bool.{true≢false, eq-eqb}
use Rattle.std.proofs.lemmas.Bool.Decides.{Decides-and, Decides-like}
use Rattle.std.proofs.lemmas.Slice.Eq.{bytes_eq-Decides}
use Rattle.words.specs.declared.lexer.encoded_word.EncodedWord.{EncodedWord}
use Rattle.words.specs.declared.lexer.Token.{Token}
use Rattle.words.specs.declared.lexer.Token.TheVariants as token
use Rattle.words.specs.declared.lexer.WordSlices.{WordSlices}
use Rattle.words.specs.contracts.lexer.encoded_word.EncodedWordPartialEq.TheImpl as word_impl
use Rattle.words.specs.contracts.lexer.TokenPartialEq.TheImpl as token_impl
use Rattle.words.specs.contracts.lexer.WordSlicesPartialEq.TheImpl as slices_impl
use Rattle.words.specs.contracts.parser.EncodingPartialEq.TheImpl as encoding_impl
use Rattle.words.specs.contracts.parser.ParsedEncodedWordPartialEq.TheImpl as parsed_impl
use Rattle.enc_front.specs.contracts.charset.CharsetPartialEq.TheImpl as charset_impl
use Rattle.enc_front.specs.declared.charset.Charset.{Charset}
use Rattle.enc_front.specs.declared.encoding.Encoding as front
use Rattle.enc_front.specs.Charset.{encoding_of}
use Rattle.words.specs.declared.parser.Encoding.{Encoding}
use Rattle.words.specs.declared.parser.ParsedEncodedWord.{ParsedEncodedWord}
use Rattle.words.specs.declared.parser.ParsedEncodedWord.TheVariants as parsed
use Rattle.words.specs.Parsed.{Parsed, ParsedClear, ParsedWord, parsed_of}
use Rattle.words.specs.Word.{Word}
use Rattle.words.specs.Reading.{Part, Encoded, Clear, Gap}
use Rattle.words.specs.Tokens.{word_of, part_of}
use Rattle.words.specs.Lexer.{sliced_word}

-- values at different places are apart
pub apart : {P : Type 0} (i j : ℕ) → nat_eq i j ≡ false → (P → i ≡ j) → Decides false P
apart i j n f = (λ e. absurd (true≢false (sym e)), λ p. absurd (true≢false (sym (eq-eqb i j (f p)) ∙ n)))

-- three lists of bytes, as the fields of a word
same_fields : (v w : Word) → Decides (pointwise nat_eq v.charset w.charset && (pointwise nat_eq v.encoding w.encoding && pointwise nat_eq v.text w.text)) (v ≡ w)
same_fields v w =
    Decides-like _ (λ e i. record { charset = e.0 i; encoding = e.1.0 i; text = e.1.1 i })
    (λ e. (ap (λ (u : Word). u.charset) e, (ap (λ (u : Word). u.encoding) e, ap (λ (u : Word). u.text) e)))
    (Decides-and _ _ (bytes_eq-Decides v.charset w.charset) (Decides-and _ _ (bytes_eq-Decides v.encoding w.encoding) (bytes_eq-Decides v.text w.text)))

pub same_words : (x y : EncodedWord) → Decides (word_impl.ghosts.eq x y) (word_of x ≡ word_of y)
same_words x y = same_fields (word_of x) (word_of y)

pub same_slices : (x y : WordSlices) → Decides (slices_impl.ghosts.eq x y) ((x.spelling.now ≡ y.spelling.now) × (sliced_word x ≡ sliced_word y))
same_slices x y = Decides-and _ _ (bytes_eq-Decides x.spelling.now y.spelling.now) (same_fields (sliced_word x) (sliced_word y))

abbrev part_place : Part → ℕ
part_place (Encoded w) = 0
part_place (Clear text) = 1
part_place (Gap text) = 2

abbrev clear_text : Part → List ℕ
clear_text (Encoded w) = []
clear_text (Clear text) = text
clear_text (Gap text) = text

abbrev word_in : Word → Part → Word
word_in w (Encoded v) = v
word_in w (Clear text) = w
word_in w (Gap text) = w

pub same_tokens : (x y : Token) → Decides (token_impl.ghosts.eq x y) (part_of x ≡ part_of y)
same_tokens (token.ClearText x) (token.ClearText y) = Decides-like _ (ap Clear) (ap clear_text) (bytes_eq-Decides x.items y.items)
same_tokens (token.ClearText x) (token.EncodedWord y) = apart 1 0 refl (ap part_place)
same_tokens (token.EncodedWord x) (token.ClearText y) = apart 0 1 refl (ap part_place)
same_tokens (token.EncodedWord x) (token.EncodedWord y) = Decides-like _ (ap Encoded) (ap (word_in (word_of x))) (same_words x y)

same_encodings : (x y : Encoding) → Decides (encoding_impl.ghosts.eq x y) (x ≡ y)
same_encodings x y = search (rules)

same_charsets : (x y : Charset) → Decides (charset_impl.ghosts.eq x y) (encoding_of x ≡ encoding_of y)
same_charsets x y = search (rules)

abbrev pub found_place : {A : Type 0} → Option A → ℕ
found_place None = 0
found_place (Some x) = 1

abbrev pub found_or : {A : Type 0} → A → Option A → A
found_or other None = other
found_or other (Some x) = x

same_found : (x y : Option Charset) → Decides (option_eq charset_impl.ghosts.eq x y) (option_map encoding_of x ≡ option_map encoding_of y)
same_found None None = (λ _. refl, λ _. refl)
same_found None (Some y) = apart 0 1 refl (ap found_place)
same_found (Some x) None = apart 1 0 refl (ap found_place)
same_found (Some x) (Some y) = Decides-like _ (ap Some) (ap (found_or (encoding_of x))) (same_charsets x y)

abbrev parsed_place : Parsed → ℕ
parsed_place (ParsedClear text) = 0
parsed_place (ParsedWord found encoding text) = 1

abbrev pub parsed_text : Parsed → List ℕ
parsed_text (ParsedClear text) = text
parsed_text (ParsedWord found encoding text) = text

abbrev pub parsed_found : Parsed → Option front.Encoding
parsed_found (ParsedClear text) = None
parsed_found (ParsedWord found encoding text) = found

abbrev pub parsed_encoding : Encoding → Parsed → Encoding
parsed_encoding other (ParsedClear text) = other
parsed_encoding other (ParsedWord found encoding text) = encoding

pub same_parsed : (x y : ParsedEncodedWord) → Decides (parsed_impl.ghosts.eq x y) (parsed_of x ≡ parsed_of y)
same_parsed (parsed.ClearText x) (parsed.ClearText y) = Decides-like _ (ap ParsedClear) (ap parsed_text) (bytes_eq-Decides x.items y.items)
same_parsed (parsed.ClearText x) (parsed.EncodedWord found encoding text) = apart 0 1 refl (ap parsed_place)
same_parsed (parsed.EncodedWord found encoding text) (parsed.ClearText y) = apart 1 0 refl (ap parsed_place)
same_parsed (parsed.EncodedWord found encoding text) (parsed.EncodedWord found_then encoding_then text_then) =
    Decides-like _ (λ e i. ParsedWord (e.0 i) (e.1.0 i) (e.1.1 i))
    (λ e. (ap parsed_found e, (ap (parsed_encoding encoding) e, ap parsed_text e)))
    (Decides-and _ _ (same_found found found_then) (Decides-and _ _ (same_encodings encoding encoding_then) (bytes_eq-Decides text.items text_then.items)))
