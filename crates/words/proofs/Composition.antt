-- The tokens of a header, parsed and evaluated, give the header's text or its fault.
use Rattle.std.proofs.Common.{◌≡◌, ◌≢◌, ◌⊎◌, ⊎_elim, inl, inr, ℕ, ◌<◌, Bool, true, false, ◌||◌, ◌==◌, cond, Some, None, Result, Ok, Err, List, [], ◌∷◌, ◌++◌, length, map, refl, sym, ap, ◌∙◌, subst, arith, IsSomeAnd}
use Rattle.std.specs.Option.{option_or}
use Rattle.enc_front.specs.Indexes.{Indexes}
use Rattle.enc_front.specs.Charset.{charset, charset_text}
use Rattle.words.specs.declared.strategy.RecoverStrategy.{RecoverStrategy}
use Rattle.words.specs.declared.parser.Encoding.{Encoding}
use Rattle.words.specs.declared.parser.Encoding.TheVariants.{B, Q}
use Rattle.words.specs.declared.parser.ParserError.{ParserError}
use Rattle.words.specs.declared.parser.ParserError.TheVariants as parser
use Rattle.words.specs.declared.parser.ParserError.TheVariants.{ParseEncodingTooBigError, ParseEncodingEmptyError, ParseEncodingError}
use Rattle.words.specs.declared.lexer.LexerError.{LexerError}
use Rattle.words.specs.declared.lexer.LexerError.TheVariants as lexer
use Rattle.words.specs.declared.evaluator.EvaluatorError.{EvaluatorError}
use Rattle.words.specs.declared.evaluator.EvaluatorError.TheVariants as evaluator
use Rattle.words.specs.declared.decoder.Error.{Error}
use Rattle.words.specs.declared.decoder.Error.TheVariants.{Memory}
use Rattle.words.specs.Word.{Word, spelling}
use Rattle.words.specs.Reading.{Part, Encoded, Clear, Gap, reading_of}
use Rattle.words.specs.Tokens.{is_skipped, tokens_of, too_long_words, display_text, IsLexerFault}
use Rattle.words.specs.Encoding.{encoding_of}
use Rattle.words.specs.Fault.{HeaderFault, TooLong, fault_of, parser_fault, from_lexer, from_parser, from_evaluator, IsTextFault}
use Rattle.words.specs.Header.{Text, clear_text, part_text, word_text, shown_value, value_of, value_by, field_fault, part_encoding_fault, encoding_fault, length_fault, unless_fault, header}
use Rattle.words.specs.Joined.{then_list, join_lists, one_element}
use Rattle.words.specs.Parsed.{Parsed, ParsedClear, ParsedWord, under_encoding, parsed_part, parsed_parts, parsed_text, parsed_texts}
use Rattle.words.proofs.Parsing.{before-nothing}
use Rattle.words.proofs.Exists.{reading_of-is}

-- the encoding field of each word is nonempty
abbrev HaveFields : List Part → Type 0
HaveFields [] = Unit {0}
HaveFields (Encoded w ∷ rest) = (0 < length w.encoding) × HaveFields rest
HaveFields (Clear text ∷ rest) = HaveFields rest
HaveFields (Gap text ∷ rest) = HaveFields rest

have-fields : (parts : List Part) → ((front rest : List Part) (w : Word) → parts ≡ front ++ Encoded w ∷ rest → 0 < length w.encoding) → HaveFields parts
have-fields [] h = tt
have-fields (Encoded w ∷ parts) h = (h [] parts w refl, have-fields parts (λ front rest v e. h (Encoded w ∷ front) rest v (ap (λ z. Encoded w ∷ z) e)))
have-fields (Clear text ∷ parts) h = have-fields parts (λ front rest v e. h (Clear text ∷ front) rest v (ap (λ z. Clear text ∷ z) e))
have-fields (Gap text ∷ parts) h = have-fields parts (λ front rest v e. h (Gap text ∷ front) rest v (ap (λ z. Gap text ∷ z) e))

reading-fields : (s : List ℕ) → HaveFields (reading_of s)
reading-fields s = have-fields (reading_of s) (λ front rest w e. ((reading_of-is s).words front rest w e).word.encoding.0)

abbrev choice : Bool → Bool → ℕ → Result Encoding ParserError
choice x y b = cond x (Ok B) (cond y (Ok Q) (Err (ParseEncodingError b)))

byte-named : (x y : Bool) (b : ℕ) → choice x y b ≢ Err ParseEncodingEmptyError
byte-named true y b = λ e. cc
byte-named false true b = λ e. cc
byte-named false false b = λ e. cc

-- a nonempty field has another fault, if it has one
not-empty : (field : List ℕ) → 0 < length field → encoding_of field ≢ Err ParseEncodingEmptyError
not-empty [] h = λ e. omega arith
not-empty (b ∷ []) h = byte-named (b == 66 || b == 98) (b == 81 || b == 113) b
not-empty (b ∷ c ∷ rest) h = λ e. cc

-- what parsed parts owe to the parts of a header
record IsParsed (strategy : RecoverStrategy) (indexes : Indexes) (parts : List Part) (parsed : List Parsed) : Type 0 where
  no_fault : encoding_fault strategy parts ≡ None
  texts : parsed_texts indexes parsed ≡ join_lists (map (part_text strategy indexes) parts)

-- what an error in the place of parsed parts owes to them
record IsFirstError (strategy : RecoverStrategy) (parts : List Part) (e : ParserError) : Type 0 where
  named : e ≢ ParseEncodingEmptyError
  same : (fault : HeaderFault) → parser_fault e ≡ Some fault → encoding_fault strategy parts ≡ Some fault

-- both, by the result of parsing
abbrev IsOutcome : RecoverStrategy → Indexes → List Part → Result (List Parsed) ParserError → Type 0
IsOutcome strategy indexes parts (Ok parsed) = IsParsed strategy indexes parts parsed
IsOutcome strategy indexes parts (Err e) = IsFirstError strategy parts e

-- one more part, which has the text of a parsed one and no faulty encoding field
more : (strategy : RecoverStrategy) (indexes : Indexes) (part : Part) (parts : List Part) (p : Parsed) (r : Result (List Parsed) ParserError)
    → part_encoding_fault strategy part ≡ None → parsed_text indexes p ≡ part_text strategy indexes part
    → IsOutcome strategy indexes parts r → IsOutcome strategy indexes (part ∷ parts) (then_list (one_element (Ok p)) r)
more strategy indexes part parts p (Ok rest) none same h = record {
  no_fault = ap (λ z. option_or z (encoding_fault strategy parts)) none ∙ h.no_fault;
  texts = ap (λ z. then_list z (parsed_texts indexes rest)) same ∙ ap (then_list (part_text strategy indexes part)) h.texts;
}
more strategy indexes part parts p (Err e) none same h = record {
  named = h.named;
  same = λ fault is. ap (λ z. option_or z (encoding_fault strategy parts)) none ∙ h.same fault is;
}

-- one more part that is no token
more-gap : (strategy : RecoverStrategy) (indexes : Indexes) (text : List ℕ) (parts : List Part) (r : Result (List Parsed) ParserError)
    → IsOutcome strategy indexes parts r → IsOutcome strategy indexes (Gap text ∷ parts) r
more-gap strategy indexes text parts (Ok rest) h = record {
  no_fault = h.no_fault;
  texts = h.texts ∙ sym (before-nothing (join_lists (map (part_text strategy indexes) parts)));
}
more-gap strategy indexes text parts (Err e) h = record { named = h.named; same = h.same }

word-shown : (indexes : Indexes) (w : Word) (encoding : Encoding)
    → parsed_text indexes (ParsedWord (charset w.charset indexes) encoding w.text) ≡ shown_value (charset_text w.charset indexes) (value_of encoding w.text)
unfolding charset_text
word-shown indexes w encoding = refl

-- one more word that isn't skipped, by what its encoding field names
more-word : (strategy : RecoverStrategy) (indexes : Indexes) (w : Word) (parts : List Part) (r : Result (List Parsed) ParserError) (named : Result Encoding ParserError)
    → 0 < length w.encoding → encoding_of w.encoding ≡ named → is_skipped strategy w ≡ false
    → IsOutcome strategy indexes parts r → IsOutcome strategy indexes (Encoded w ∷ parts) (then_list (one_element (under_encoding (charset w.charset indexes) w.text named)) r)
more-word strategy indexes w parts r (Ok encoding) long e kept h =
    more strategy indexes (Encoded w) parts (ParsedWord (charset w.charset indexes) encoding w.text) r
    (ap (λ z. cond z None (field_fault (encoding_of w.encoding))) kept ∙ ap field_fault e)
    (word-shown indexes w encoding ∙ sym (ap (λ z. cond z (clear_text (spelling w)) (word_text indexes w)) kept
    ∙ ap (λ z. shown_value (charset_text w.charset indexes) (value_by z w.text)) e))
    h
more-word strategy indexes w parts r (Err error) long e kept h = record {
  named = λ empty. not-empty w.encoding long (e ∙ ap Err empty);
  same = λ fault is. ap (λ z. option_or z (encoding_fault strategy parts))
      (ap (λ z. cond z None (field_fault (encoding_of w.encoding))) kept ∙ (ap field_fault e ∙ is));
}

-- one more word, by whether it is skipped
more-encoded : (strategy : RecoverStrategy) (indexes : Indexes) (w : Word) (parts : List Part) (r : Result (List Parsed) ParserError) (skipped : Bool)
    → 0 < length w.encoding → is_skipped strategy w ≡ skipped
    → IsOutcome strategy indexes parts r → IsOutcome strategy indexes (Encoded w ∷ parts) (then_list (one_element (parsed_part indexes (cond skipped (Clear (spelling w)) (Encoded w)))) r)
more-encoded strategy indexes w parts r true long e h =
    more strategy indexes (Encoded w) parts (ParsedClear (spelling w)) r
    (ap (λ z. cond z None (field_fault (encoding_of w.encoding))) e)
    (sym (ap (λ z. cond z (clear_text (spelling w)) (word_text indexes w)) e))
    h
more-encoded strategy indexes w parts r false long e h = more-word strategy indexes w parts r (encoding_of w.encoding) long refl e h

-- the tokens of parts, parsed
outcome : (strategy : RecoverStrategy) (indexes : Indexes) (parts : List Part) → HaveFields parts
    → IsOutcome strategy indexes parts (parsed_parts indexes (tokens_of strategy parts))
outcome strategy indexes [] fields = record { no_fault = refl; texts = refl }
outcome strategy indexes (Encoded w ∷ parts) fields =
    more-encoded strategy indexes w parts (parsed_parts indexes (tokens_of strategy parts)) (is_skipped strategy w) fields.0 refl (outcome strategy indexes parts fields.1)
outcome strategy indexes (Clear text ∷ parts) fields =
    more strategy indexes (Clear text) parts (ParsedClear text) (parsed_parts indexes (tokens_of strategy parts)) refl refl (outcome strategy indexes parts fields)
outcome strategy indexes (Gap text ∷ parts) fields =
    more-gap strategy indexes text parts (parsed_parts indexes (tokens_of strategy parts)) (outcome strategy indexes parts fields)

-- an error of a header, as its contract says
abbrev pub IsHeaderError : Text → Error → Type 0
IsHeaderError text error = (error ≡ Memory) ⊎ IsSomeAnd (fault_of error) (λ fault. text ≡ Err fault)

-- the text of a header is that of its parsed tokens
pub header-parsed : (strategy : RecoverStrategy) (indexes : Indexes) (s : List ℕ) (parsed : List Parsed)
    → too_long_words strategy (reading_of s) ≡ [] → parsed_parts indexes (tokens_of strategy (reading_of s)) ≡ Ok parsed
    → header strategy indexes s ≡ parsed_texts indexes parsed
unfolding header
header-parsed strategy indexes s parsed short is =
    let parts : List Part = reading_of s in
    let texts : Text = join_lists (map (part_text strategy indexes) parts) in
    let h : IsParsed strategy indexes parts parsed = subst (IsOutcome strategy indexes parts) is (outcome strategy indexes parts (reading-fields s)) in
    ap (λ z. unless_fault (length_fault z) (unless_fault (encoding_fault strategy parts) texts)) short ∙
    (ap (λ z. unless_fault z texts) h.no_fault ∙ sym h.texts)

header-fault : (strategy : RecoverStrategy) (indexes : Indexes) (s : List ℕ) (fault : HeaderFault)
    → too_long_words strategy (reading_of s) ≡ [] → encoding_fault strategy (reading_of s) ≡ Some fault → header strategy indexes s ≡ Err fault
unfolding header
header-fault strategy indexes s fault short is =
    let parts : List Part = reading_of s in
    let texts : Text = join_lists (map (part_text strategy indexes) parts) in
    ap (λ z. unless_fault (length_fault z) (unless_fault (encoding_fault strategy parts) texts)) short ∙ ap (λ z. unless_fault z texts) is

-- an error of the parser is the header's
pub header-parser : (strategy : RecoverStrategy) (indexes : Indexes) (s : List ℕ) (e : ParserError)
    → too_long_words strategy (reading_of s) ≡ [] → (e ≡ parser.Memory) ⊎ (parsed_parts indexes (tokens_of strategy (reading_of s)) ≡ Err e)
    → IsHeaderError (header strategy indexes s) (from_parser e)
header-parser strategy indexes s parser.Memory short h = inl refl
header-parser strategy indexes s parser.ParseEncodingTooBigError short h = inr (⊎_elim (λ e. absurd cc) (λ e.
    let o : IsFirstError strategy (reading_of s) ParseEncodingTooBigError = subst (IsOutcome strategy indexes (reading_of s)) e (outcome strategy indexes (reading_of s) (reading-fields s)) in
    header-fault strategy indexes s _ short (o.same _ refl)) h)
header-parser strategy indexes s parser.ParseEncodingEmptyError short h = inr (⊎_elim (λ e. absurd cc) (λ e.
    let o : IsFirstError strategy (reading_of s) ParseEncodingEmptyError = subst (IsOutcome strategy indexes (reading_of s)) e (outcome strategy indexes (reading_of s) (reading-fields s)) in
    o.named refl) h)
header-parser strategy indexes s (parser.ParseEncodingError c) short h = inr (⊎_elim (λ e. absurd cc) (λ e.
    let o : IsFirstError strategy (reading_of s) (ParseEncodingError c) = subst (IsOutcome strategy indexes (reading_of s)) e (outcome strategy indexes (reading_of s) (reading-fields s)) in
    header-fault strategy indexes s _ short (o.same _ refl)) h)

length-faults : (words : List Word) → words ≢ [] → length_fault words ≡ Some (TooLong (map display_text words))
length-faults [] h = absurd (h refl)
length-faults (w ∷ rest) h = refl

header-long : (strategy : RecoverStrategy) (indexes : Indexes) (s : List ℕ)
    → too_long_words strategy (reading_of s) ≢ [] → header strategy indexes s ≡ Err (TooLong (map display_text (too_long_words strategy (reading_of s))))
unfolding header
header-long strategy indexes s h =
    let parts : List Part = reading_of s in
    ap (λ z. unless_fault z (unless_fault (encoding_fault strategy parts) (join_lists (map (part_text strategy indexes) parts)))) (length-faults (too_long_words strategy parts) h)

-- an error of the lexer is the header's
pub header-lexer : (strategy : RecoverStrategy) (indexes : Indexes) (s : List ℕ) (e : LexerError)
    → IsLexerFault (too_long_words strategy (reading_of s)) e → IsHeaderError (header strategy indexes s) (from_lexer e)
header-lexer strategy indexes s (lexer.ParseBytesError message) h = absurd h
header-lexer strategy indexes s (lexer.ParseEncodedWordTooLongError words) h =
    inr (header-long strategy indexes s h.0 ∙ ap (λ z. Err (TooLong z)) (sym h.1))
header-lexer strategy indexes s lexer.Memory h = inl refl

-- an error of the evaluator is the header's
pub header-evaluator : (text : Text) (shown : Text) (e : EvaluatorError) → text ≡ shown → IsTextFault shown e → IsHeaderError text (from_evaluator e)
header-evaluator text shown evaluator.Memory same h = inl refl
header-evaluator text shown (evaluator.DecodeUtf8Error n) same h = inr (⊎_elim (λ e. absurd cc) (λ e. same ∙ e) h)
header-evaluator text shown evaluator.DecodeBase64Error same h = inr (⊎_elim (λ e. absurd cc) (λ e. same ∙ e) h)
header-evaluator text shown (evaluator.DecodeQuotedPrintableError q) same h = inr (⊎_elim (λ e. absurd cc) (λ e. e) h)
