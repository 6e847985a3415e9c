-- What each code of an encoder keeps of ASCII, and of scalars above U+FFFF.
use Rattle.std.proofs.Common.{Bool}
use Rattle.enc_drivers.specs.Encode.{IsAsciiCompatible, MapsNoAstral}
use Rattle.enc_drivers.specs.Lookup.{Places, HasNoAstral}
use Rattle.enc_drivers.specs.Codes.EucJp.{euc_jp_bytes_of}
use Rattle.enc_drivers.specs.Codes.EucKr.{euc_kr_bytes_of}
use Rattle.enc_drivers.specs.Codes.Gb18030.{gb18030_bytes_of}
use Rattle.enc_drivers.specs.Codes.SingleByte.{single_byte_bytes_of}
use Rattle.enc_drivers.specs.Codes.UserDefined.{user_defined_bytes_of}
use Rattle.enc_drivers.specs.Codes.Utf8.{utf8_bytes_of}
use Rattle.enc_drivers.specs.Codes.Windows1252.{windows_1252_bytes_of, windows_1252_places}
use Rattle.enc_drivers.proofs.EncodedRanges as ranges

-- each keeps ASCII, and those of one or two bytes have none for a scalar above U+FFFF
pub record CodesKeep : Type 0 where
  pub utf_8 : IsAsciiCompatible utf8_bytes_of
  pub windows_1252 : IsAsciiCompatible windows_1252_bytes_of
  pub user_defined : IsAsciiCompatible user_defined_bytes_of
  pub single_byte : (places : Places) → IsAsciiCompatible (single_byte_bytes_of places)
  pub euc_kr : (places : Places) → IsAsciiCompatible (euc_kr_bytes_of places)
  pub euc_jp : (places : Places) → IsAsciiCompatible (euc_jp_bytes_of places)
  pub gb18030 : (gbk : Bool) (index ranges : Places)
      → IsAsciiCompatible (gb18030_bytes_of gbk index ranges)
  pub narrow_windows_1252 : MapsNoAstral windows_1252_bytes_of
  pub narrow_user_defined : MapsNoAstral user_defined_bytes_of
  pub narrow_single_byte : (places : Places) → HasNoAstral places
      → MapsNoAstral (single_byte_bytes_of places)
  pub narrow_euc_kr : (places : Places) → HasNoAstral places → MapsNoAstral (euc_kr_bytes_of places)
  pub narrow_euc_jp : (places : Places) → HasNoAstral places → MapsNoAstral (euc_jp_bytes_of places)

pub codes_keep : CodesKeep
codes_keep = record {
  utf_8 = ranges.utf8_ascii;
  windows_1252 = ranges.single_byte_ascii windows_1252_places;
  user_defined = ranges.user_defined_ascii;
  single_byte = ranges.single_byte_ascii;
  euc_kr = ranges.euc_kr_ascii;
  euc_jp = ranges.euc_jp_ascii;
  gb18030 = ranges.gb18030_ascii;
  narrow_windows_1252 = ranges.windows_1252_narrow;
  narrow_user_defined = ranges.user_defined_narrow;
  narrow_single_byte = ranges.single_byte_narrow;
  narrow_euc_kr = ranges.euc_kr_narrow;
  narrow_euc_jp = ranges.euc_jp_narrow;
}
