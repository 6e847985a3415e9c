-- The encodings that a word's encoding field names: RFC 2047, sections 2 and 4.
use Rattle.std.specs.Prelude.{ℕ, ◌||◌, ◌==◌, if◌then◌else◌, List, [], ◌∷◌, Result, Ok, Err}
use Rattle.words.specs.declared.parser.Encoding.{Encoding}
use Rattle.words.specs.declared.parser.Encoding.TheVariants.{B, Q}
use Rattle.words.specs.declared.parser.ParserError.{ParserError}
use Rattle.words.specs.declared.parser.ParserError.TheVariants.{ParseEncodingTooBigError}
use Rattle.words.specs.declared.parser.ParserError.TheVariants.{ParseEncodingEmptyError}
use Rattle.words.specs.declared.parser.ParserError.TheVariants.{ParseEncodingError}

-- the encoding that one byte names: B or Q, RFC 2047, section 4, in either case, section 2
abbrev pub encoding_of_byte : ℕ → Result Encoding ParserError
encoding_of_byte b =
    if b == 66 || b == 98 then Ok B
    else if b == 81 || b == 113 then Ok Q
    else Err (ParseEncodingError b)

-- the encoding that a field names, or why it names none: RFC 2047, sections 2 and 4
abbrev pub encoding_of : List ℕ → Result Encoding ParserError
encoding_of [] = Err ParseEncodingEmptyError
encoding_of (b ∷ []) = encoding_of_byte b
encoding_of (b ∷ c ∷ rest) = Err ParseEncodingTooBigError
