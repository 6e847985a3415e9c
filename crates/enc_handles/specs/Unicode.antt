-- A scalar by what an encoder asks of it: ASCII, up to U+FFFF, or above.
use Rattle.std.specs.Prelude.{ℕ, nat_lt, if◌then◌else◌}
use Rattle.enc_handles.specs.declared.unicode.NonAscii.{NonAscii}
use Rattle.enc_handles.specs.declared.unicode.NonAscii.TheVariants.{BmpExclAscii, Astral}
use Rattle.enc_handles.specs.declared.unicode.Unicode.{Unicode}
use Rattle.enc_handles.specs.declared.unicode.Unicode.TheVariants as unicode

-- a scalar past ASCII, and back
abbrev pub non_ascii_of : ℕ → NonAscii
non_ascii_of scalar = if nat_lt scalar 0x1_0000 then BmpExclAscii scalar else Astral scalar

abbrev pub non_ascii_scalar : NonAscii → ℕ
non_ascii_scalar (BmpExclAscii bmp) = bmp
non_ascii_scalar (Astral scalar) = scalar

-- any scalar
abbrev pub unicode_of : ℕ → Unicode
unicode_of scalar = if nat_lt scalar 0x80 then unicode.Ascii scalar
    else unicode.NonAscii (non_ascii_of scalar)

abbrev pub unicode_scalar : Unicode → ℕ
unicode_scalar (unicode.Ascii ascii) = ascii
unicode_scalar (unicode.NonAscii character) = non_ascii_scalar character
