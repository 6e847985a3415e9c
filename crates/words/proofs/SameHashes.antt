-- What a hasher is given of values that are equal.
use Rattle.std.proofs.Common.{◌≡◌, ℕ, true, List, [], ◌∷◌, refl, sym, ap, ◌∙◌, string_bytes, String, Global, map, Option, Some, None, ◌++◌, length}
use Rattle.std.specs.Hash as hashes
use Rattle.std.specs.List.{flat_map}
use Rattle.std.specs.Option.{option_map}
use Rattle.std.proofs.lemmas.Bool.{true≢false}
use Rattle.std.proofs.lemmas.List.{length-map}
use Rattle.std.proofs.lemmas.Slice.Eq.{bytes_eq-Decides}
use Rattle.words.specs.contracts.parser.ParsedEncodedWordPartialEq.TheImpl as parsed_impl
use Rattle.words.specs.contracts.lexer.TooLongEncodedWordsPartialEq.TheImpl as too_long_impl
use Rattle.words.specs.contracts.lexer.TooLongEncodedWordsHash.TheImpl as too_long_hash
use Rattle.words.specs.contracts.parser.ParsedEncodedWordHash.TheImpl as parsed_hash
use Rattle.words.specs.contracts.parser.EncodingHash.TheImpl as encoding_hash
use Rattle.enc_front.specs.contracts.charset.CharsetHash.TheImpl as charset_hash
use Rattle.enc_front.specs.declared.charset.Charset.{Charset}
use Rattle.enc_front.specs.Charset.{encoding_of}
use Rattle.words.specs.declared.parser.Encoding.{Encoding}
use Rattle.words.specs.declared.parser.ParsedEncodedWord.{ParsedEncodedWord}
use Rattle.words.specs.declared.parser.ParsedEncodedWord.TheVariants as parsed
use Rattle.words.specs.declared.lexer.TooLongEncodedWords.{TooLongEncodedWords}
use Rattle.words.proofs.SameErrors.{same_texts}
use Rattle.words.proofs.SameValues.{apart, found_place, found_or, parsed_text, parsed_found, parsed_encoding, same_parsed}

hashed_texts : (xs : List (String Global)) → flat_map (λ (s : String Global). hashes.str (string_bytes s)) xs ≡ flat_map hashes.str (map string_bytes xs)
hashed_texts [] = refl
hashed_texts (x ∷ xs) = ap (λ l. hashes.str (string_bytes x) ++ l) (hashed_texts xs)

whole_hash : (xs : List (String Global)) → hashes.le_bytes 8 (length xs) ∷ flat_map (λ (s : String Global). hashes.str (string_bytes s)) xs ≡ hashes.le_bytes 8 (length (map string_bytes xs)) ∷ flat_map hashes.str (map string_bytes xs)
whole_hash xs i = hashes.le_bytes 8 (sym (length-map xs string_bytes) i) ∷ hashed_texts xs i

pub same_hashed_texts : (x y : TooLongEncodedWords) → too_long_impl.ghosts.eq x y ≡ true → too_long_hash.ghosts.hash_input x ≡ too_long_hash.ghosts.hash_input y
same_hashed_texts x y t =
    whole_hash x.0.items ∙ (ap (λ texts. hashes.le_bytes 8 (length texts) ∷ flat_map hashes.str texts) ((same_texts x y).0 t) ∙ sym (whole_hash y.0.items))

found_from_encoding : (x y : Option Charset) → option_map encoding_of x ≡ option_map encoding_of y → x ≡ y
found_from_encoding None None e = refl
found_from_encoding None (Some y) e = absurd (true≢false (sym ((apart 0 1 refl (ap found_place)).1 e)))
found_from_encoding (Some x) None e = absurd (true≢false (sym ((apart 1 0 refl (ap found_place)).1 e)))
found_from_encoding (Some x) (Some y) e = ap (λ z. Some (record { encoding = found_or (encoding_of x) z })) e

-- what a hasher is given of bytes
abbrev hashed_bytes : List ℕ → List (List ℕ)
hashed_bytes bytes = hashes.le_bytes 8 (length bytes) ∷ flat_map hashes.u8 bytes

-- what it is given of a parsed word
abbrev hashed_word : Option Charset → Encoding → List ℕ → List (List ℕ)
hashed_word found encoding text =
    hashes.le_bytes 8 1 ∷ (hashes.option charset_hash.ghosts.hash_input found ++ (encoding_hash.ghosts.hash_input encoding ++ hashed_bytes text))

pub same_hashed_parsed : (x y : ParsedEncodedWord) → parsed_impl.ghosts.eq x y ≡ true → parsed_hash.ghosts.hash_input x ≡ parsed_hash.ghosts.hash_input y
same_hashed_parsed (parsed.ClearText x) (parsed.ClearText y) t = ap (λ bytes. hashes.le_bytes 8 0 ∷ hashed_bytes bytes) ((bytes_eq-Decides x.items y.items).0 t)
same_hashed_parsed (parsed.ClearText x) (parsed.EncodedWord found encoding text) t = absurd (true≢false (sym t))
same_hashed_parsed (parsed.EncodedWord found encoding text) (parsed.ClearText y) t = absurd (true≢false (sym t))
same_hashed_parsed (parsed.EncodedWord found encoding text) (parsed.EncodedWord found_then encoding_then text_then) t =
    let e = (same_parsed (parsed.EncodedWord found encoding text) (parsed.EncodedWord found_then encoding_then text_then)).0 t in
    λ i. hashed_word (found_from_encoding found found_then (ap parsed_found e) i) (ap (parsed_encoding encoding) e i) (ap parsed_text e i)
