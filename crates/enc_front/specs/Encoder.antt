-- What an encoder writes: the bytes of a scalar in each encoding (Encoding Standard, sections 8 to
-- 14, encoders; section 4.3, "get an output encoding": UTF-16 is written as UTF-8).
use Rattle.std.specs.Prelude.{ℕ, Bool, true, false, None}
use Rattle.enc_drivers.specs.Encode.{BytesOf}
use Rattle.enc_drivers.specs.Codes.EucJp.{euc_jp_bytes_of}
use Rattle.enc_drivers.specs.Codes.EucKr.{euc_kr_bytes_of}
use Rattle.enc_drivers.specs.Codes.Gb18030.{gb18030_bytes_of}
use Rattle.enc_drivers.specs.Codes.SingleByte.{single_byte_bytes_of}
use Rattle.enc_drivers.specs.Codes.UserDefined.{user_defined_bytes_of}
use Rattle.enc_drivers.specs.Codes.Utf8.{utf8_bytes_of}
use Rattle.enc_drivers.specs.Codes.Windows1252.{windows_1252_bytes_of}
use Rattle.enc_front.specs.declared.encoding.Encoding.{Encoding}
use Rattle.enc_front.specs.declared.encoding.Encoding.TheVariants.{Utf8, Utf16Be, Utf16Le}
use Rattle.enc_front.specs.declared.encoding.Encoding.TheVariants.{Windows1252, UserDefined, Single}
use Rattle.enc_front.specs.declared.encoding.Encoding.TheVariants.{Iso8859_8I, Gbk, Gb18030, Big5}
use Rattle.enc_front.specs.declared.encoding.Encoding.TheVariants.{EucJp, Iso2022Jp, ShiftJis}
use Rattle.enc_front.specs.declared.encoding.Encoding.TheVariants.{EucKr}
use Rattle.enc_front.specs.declared.encoding.SingleName.TheVariants.{Iso8859_8}
use Rattle.enc_front.specs.declared.tables.IndexKind.TheVariants as kind
use Rattle.enc_front.specs.Indexes.{Indexes, places_in}

-- there is an encoder for it
abbrev pub has_encoder : Encoding → Bool
has_encoder Big5 = false
has_encoder ShiftJis = false
has_encoder Iso2022Jp = false
has_encoder _ = true

-- the bytes of a scalar in an encoding, by the indexes that it needs; none where it has none, and
-- of an encoding without an encoder
abbrev pub bytes_in : Encoding → Indexes → BytesOf
bytes_in Utf8 indexes = utf8_bytes_of
bytes_in Utf16Be indexes = utf8_bytes_of
bytes_in Utf16Le indexes = utf8_bytes_of
bytes_in Windows1252 indexes = windows_1252_bytes_of
bytes_in UserDefined indexes = user_defined_bytes_of
bytes_in (Single name) indexes = single_byte_bytes_of (places_in indexes (kind.Single name))
bytes_in Iso8859_8I indexes = single_byte_bytes_of (places_in indexes (kind.Single Iso8859_8))
bytes_in Gbk indexes =
    gb18030_bytes_of true (places_in indexes kind.Gb18030) (places_in indexes kind.Gb18030Ranges)
bytes_in Gb18030 indexes =
    gb18030_bytes_of false (places_in indexes kind.Gb18030) (places_in indexes kind.Gb18030Ranges)
bytes_in EucJp indexes = euc_jp_bytes_of (places_in indexes kind.Jis0208)
bytes_in EucKr indexes = euc_kr_bytes_of (places_in indexes kind.EucKr)
bytes_in Big5 indexes = λ scalar. None
bytes_in Iso2022Jp indexes = λ scalar. None
bytes_in ShiftJis indexes = λ scalar. None

-- how many bytes a scalar has at most
abbrev pub most_bytes : Encoding → ℕ
most_bytes Windows1252 = 1
most_bytes UserDefined = 1
most_bytes (Single name) = 1
most_bytes Iso8859_8I = 1
most_bytes EucJp = 2
most_bytes EucKr = 2
most_bytes _ = 4
