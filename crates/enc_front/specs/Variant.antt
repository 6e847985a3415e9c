-- The units of a driver's code, and what it holds.
use Rattle.enc_drivers.specs.Driver.{standing, unit_of, two_byte_standing, two_byte_unit}
use Rattle.enc_drivers.specs.Driver.{gb18030_standing, gb18030_unit, euc_jp_standing, euc_jp_unit}
use Rattle.enc_drivers.specs.Resume.{Standing}
use Rattle.enc_drivers.specs.Units.{Code}
use Rattle.enc_front.specs.declared.variant.VariantDecoder.{VariantDecoder}
use Rattle.enc_front.specs.declared.variant.VariantDecoder.TheVariants.{Utf8, Utf16Be, Utf16Le}
use Rattle.enc_front.specs.declared.variant.VariantDecoder.TheVariants.{Windows1252, UserDefined}
use Rattle.enc_front.specs.declared.variant.VariantDecoder.TheVariants.{SingleByte, Big5, EucJp}
use Rattle.enc_front.specs.declared.variant.VariantDecoder.TheVariants.{EucKr, Gb18030, Iso2022Jp}
use Rattle.enc_front.specs.declared.variant.VariantDecoder.TheVariants.{ShiftJis}

abbrev pub unit_in : VariantDecoder → Code
unit_in (Utf8 driver) = unit_of driver
unit_in (Utf16Be driver) = unit_of driver
unit_in (Utf16Le driver) = unit_of driver
unit_in (Windows1252 driver) = unit_of driver
unit_in (UserDefined driver) = unit_of driver
unit_in (SingleByte driver) = unit_of driver
unit_in (Big5 driver) = two_byte_unit driver
unit_in (EucJp driver) = euc_jp_unit driver
unit_in (EucKr driver) = two_byte_unit driver
unit_in (Gb18030 driver) = gb18030_unit driver
unit_in (Iso2022Jp driver) = unit_of driver
unit_in (ShiftJis driver) = two_byte_unit driver

abbrev pub standing_in : VariantDecoder → Standing
standing_in (Utf8 driver) = standing driver
standing_in (Utf16Be driver) = standing driver
standing_in (Utf16Le driver) = standing driver
standing_in (Windows1252 driver) = standing driver
standing_in (UserDefined driver) = standing driver
standing_in (SingleByte driver) = standing driver
standing_in (Big5 driver) = two_byte_standing driver
standing_in (EucJp driver) = euc_jp_standing driver
standing_in (EucKr driver) = two_byte_standing driver
standing_in (Gb18030 driver) = gb18030_standing driver
standing_in (Iso2022Jp driver) = standing driver
standing_in (ShiftJis driver) = two_byte_standing driver
