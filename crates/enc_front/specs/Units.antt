-- The units of an encoding, and the text of bytes in it.
use Rattle.std.specs.Prelude.{ℕ, true, false, List}
use Rattle.enc_drivers.specs.declared.unit.Mode.TheVariants.{Plain}
use Rattle.enc_drivers.specs.Codes.Big5.{big5_unit}
use Rattle.enc_drivers.specs.Codes.EucJp.{euc_jp_unit}
use Rattle.enc_drivers.specs.Codes.EucKr.{euc_kr_unit}
use Rattle.enc_drivers.specs.Codes.Gb18030.{gb18030_unit}
use Rattle.enc_drivers.specs.Codes.Iso2022Jp.{iso_2022_jp_unit}
use Rattle.enc_drivers.specs.Codes.ShiftJis.{shift_jis_unit}
use Rattle.enc_drivers.specs.Codes.SingleByte.{single_byte_unit}
use Rattle.enc_drivers.specs.Codes.UserDefined.{user_defined_unit}
use Rattle.enc_drivers.specs.Codes.Utf16.{utf16_unit}
use Rattle.enc_drivers.specs.Codes.Utf8.{utf8_unit}
use Rattle.enc_drivers.specs.Codes.Windows1252.{windows_1252_unit}
use Rattle.enc_drivers.specs.Units.{Code, units, text}
use Rattle.enc_front.specs.declared.encoding.Encoding.{Encoding}
use Rattle.enc_front.specs.declared.encoding.Encoding.TheVariants.{Utf8, Utf16Be, Utf16Le}
use Rattle.enc_front.specs.declared.encoding.Encoding.TheVariants.{Windows1252, UserDefined, Single}
use Rattle.enc_front.specs.declared.encoding.Encoding.TheVariants.{Iso8859_8I, Gbk, Gb18030, Big5}
use Rattle.enc_front.specs.declared.encoding.Encoding.TheVariants.{EucJp, Iso2022Jp, ShiftJis}
use Rattle.enc_front.specs.declared.encoding.Encoding.TheVariants.{EucKr}
use Rattle.enc_front.specs.declared.encoding.SingleName.TheVariants.{Iso8859_8}
use Rattle.enc_front.specs.declared.tables.IndexKind.TheVariants as kind
use Rattle.enc_front.specs.Indexes.{Indexes, places_in}

-- how an encoding finds the unit at the front of a rest, by the indexes that it needs (Encoding
-- Standard, sections 8 to 14)
abbrev pub unit : Encoding → Indexes → Code
unit Utf8 indexes = utf8_unit
unit Utf16Be indexes = utf16_unit true
unit Utf16Le indexes = utf16_unit false
unit Windows1252 indexes = windows_1252_unit
unit UserDefined indexes = user_defined_unit
unit (Single name) indexes = single_byte_unit (places_in indexes (kind.Single name))
unit Iso8859_8I indexes = single_byte_unit (places_in indexes (kind.Single Iso8859_8))
unit Gbk indexes = gb18030_unit (places_in indexes kind.Gb18030)
    (places_in indexes kind.Gb18030Ranges)
unit Gb18030 indexes = gb18030_unit (places_in indexes kind.Gb18030)
    (places_in indexes kind.Gb18030Ranges)
unit Big5 indexes = big5_unit (places_in indexes kind.Big5)
unit EucJp indexes = euc_jp_unit (places_in indexes kind.Jis0208) (places_in indexes kind.Jis0212)
unit Iso2022Jp indexes = iso_2022_jp_unit (places_in indexes kind.Jis0208)
unit ShiftJis indexes = shift_jis_unit (places_in indexes kind.Jis0208)
unit EucKr indexes = euc_kr_unit (places_in indexes kind.EucKr)

-- the text of bytes in an encoding, with U+FFFD for each malformed unit
unfoldable pub decoded : Encoding → Indexes → List ℕ → List ℕ
decoded encoding indexes bytes = text (units (unit encoding indexes) Plain bytes)
