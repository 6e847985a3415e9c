-- The units of every encoding keep what a code keeps, over the indexes of any tables.
use Rattle.std.proofs.Common.{true, false, refl}
use Rattle.enc_drivers.specs.Lemmas.Big5Law.{big5_law}
use Rattle.enc_drivers.specs.Lemmas.EucJpLaw.{euc_jp_law}
use Rattle.enc_drivers.specs.Lemmas.EucKrLaw.{euc_kr_law}
use Rattle.enc_drivers.specs.Lemmas.Gb18030Law.{gb18030_law}
use Rattle.enc_drivers.specs.Lemmas.Iso2022JpLaw.{iso_2022_jp_law}
use Rattle.enc_drivers.specs.Lemmas.ShiftJisLaw.{shift_jis_law}
use Rattle.enc_drivers.specs.Lemmas.SingleByteLaw.{windows_1252_law, user_defined_law}
use Rattle.enc_drivers.specs.Lemmas.SingleByteLaw.{single_byte_law}
use Rattle.enc_drivers.specs.Lemmas.Utf16Law.{utf16_law}
use Rattle.enc_drivers.specs.Lemmas.Utf8Law.{utf8_law}
use Rattle.enc_drivers.specs.Units.{IsCode}
use Rattle.enc_front.specs.declared.decoder.Decoder.{Decoder}
use Rattle.enc_front.specs.declared.encoding.Encoding.{Encoding}
use Rattle.enc_front.specs.declared.encoding.Encoding.TheVariants.{Utf8, Utf16Be, Utf16Le}
use Rattle.enc_front.specs.declared.encoding.Encoding.TheVariants.{Windows1252, UserDefined, Single}
use Rattle.enc_front.specs.declared.encoding.Encoding.TheVariants.{Iso8859_8I, Gbk, Gb18030, Big5}
use Rattle.enc_front.specs.declared.encoding.Encoding.TheVariants.{EucJp, Iso2022Jp, ShiftJis}
use Rattle.enc_front.specs.declared.encoding.Encoding.TheVariants.{EucKr}
use Rattle.enc_front.specs.declared.encoding.SingleName.TheVariants.{Iso8859_8}
use Rattle.enc_front.specs.declared.tables.IndexKind.TheVariants as kind
use Rattle.enc_front.specs.declared.tables.Tables.{Tables}
use Rattle.enc_front.specs.Indexes.{AreChecked, Indexes, indexes_of, places_in}
use Rattle.enc_front.specs.Units.{unit}
use Rattle.enc_front.specs.Variant.{unit_in}
use Rattle.enc_front.proofs.CheckedIndexes.{checked_tables}

code_over : (indexes : Indexes) → AreChecked indexes → (encoding : Encoding)
    → IsCode (unit encoding indexes)
code_over indexes checked Utf8 = utf8_law
code_over indexes checked Utf16Be = utf16_law true
code_over indexes checked Utf16Le = utf16_law false
code_over indexes checked Windows1252 = windows_1252_law
code_over indexes checked UserDefined = user_defined_law
code_over indexes checked (Single name) =
    single_byte_law (places_in indexes (kind.Single name)) (checked.scalars (kind.Single name))
    (checked.bmp (kind.Single name) refl)
code_over indexes checked Iso8859_8I =
    single_byte_law (places_in indexes (kind.Single Iso8859_8))
    (checked.scalars (kind.Single Iso8859_8)) (checked.bmp (kind.Single Iso8859_8) refl)
code_over indexes checked Gbk =
    gb18030_law (places_in indexes kind.Gb18030) (places_in indexes kind.Gb18030Ranges)
    (checked.scalars kind.Gb18030) (checked.scalars kind.Gb18030Ranges)
code_over indexes checked Gb18030 =
    gb18030_law (places_in indexes kind.Gb18030) (places_in indexes kind.Gb18030Ranges)
    (checked.scalars kind.Gb18030) (checked.scalars kind.Gb18030Ranges)
code_over indexes checked Big5 = big5_law (places_in indexes kind.Big5) (checked.scalars kind.Big5)
code_over indexes checked EucJp =
    euc_jp_law (places_in indexes kind.Jis0208) (places_in indexes kind.Jis0212)
    (checked.scalars kind.Jis0208) (checked.scalars kind.Jis0212)
code_over indexes checked Iso2022Jp = iso_2022_jp_law (places_in indexes kind.Jis0208)
    (checked.scalars kind.Jis0208)
code_over indexes checked ShiftJis = shift_jis_law (places_in indexes kind.Jis0208)
    (checked.scalars kind.Jis0208)
code_over indexes checked EucKr = euc_kr_law (places_in indexes kind.EucKr)
    (checked.scalars kind.EucKr)

pub encoding_code : (tables : Tables) (encoding : Encoding)
    → IsCode (unit encoding (indexes_of tables))
encoding_code tables encoding = code_over (indexes_of tables) (checked_tables tables) encoding

-- the units of a decoder's driver
pub decoder_code : (decoder : Decoder) → IsCode (unit_in decoder.variant)
decoder_code decoder = rw decoder.same_code (encoding_code decoder.tables.now decoder.encoding)
