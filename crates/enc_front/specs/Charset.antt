-- Charsets of mail words, and the text of bytes in them.
use Rattle.std.specs.Prelude.{ℕ, if◌then◌else◌, nat_lt, List, [], ◌∷◌, Option, Some, None}
use Rattle.std.specs.Prelude.{option_and_then}
use Rattle.std.specs.List.{flat_map}
use Rattle.std.specs.Option.{option_map_or}
use Rattle.enc_front.specs.declared.encoding.Encoding.{Encoding}
use Rattle.enc_front.specs.declared.charset.Charset.{Charset}
use Rattle.enc_drivers.specs.Units.{replacement}
use Rattle.enc_front.specs.Encoding.{label}
use Rattle.enc_front.specs.Marks.{mark, without_mark}
use Rattle.enc_front.specs.Indexes.{Indexes, known}
use Rattle.enc_front.specs.Units.{decoded}

-- the encoding that a charset keeps
abbrev pub encoding_of : Charset → Encoding
encoding_of charset = charset.encoding

-- the encoding that a charset's name is a label of, where it is known
unfoldable pub charset : List ℕ → Indexes → Option Encoding
charset name indexes = option_and_then (λ encoding. if known encoding indexes then Some encoding
    else None) (label name)

-- ASCII, with U+FFFD for every other byte
unfoldable pub ascii_text : List ℕ → List ℕ
ascii_text bytes = flat_map (λ b. if nat_lt b 0x80 then b ∷ [] else replacement) bytes

-- a byte order mark is dropped and decides the encoding (Encoding Standard, section 6, "decode")
unfoldable pub marked_text : Encoding → Indexes → List ℕ → List ℕ
marked_text encoding indexes bytes =
    decoded (option_map_or (λ m. m.0) (mark bytes) encoding) indexes (without_mark bytes)

-- the text of bytes under a charset's name: as ASCII where the charset is unknown
unfoldable pub charset_text : List ℕ → Indexes → List ℕ → List ℕ
charset_text name indexes bytes = option_map_or (λ encoding. marked_text encoding indexes bytes)
    (charset name indexes) (ascii_text bytes)
