-- The kinds of index (Encoding Standard, section 5).
use Rattle.std.specs.Prelude.{ℕ, ◌==◌, Bool, true, false}
use Rattle.enc_front.specs.declared.encoding.SingleName.{SingleName}
use Rattle.enc_front.specs.declared.encoding.SingleName.TheVariants as name
use Rattle.enc_front.specs.declared.tables.IndexKind.{IndexKind}
use Rattle.enc_front.specs.declared.tables.IndexKind.TheVariants.{Big5, EucKr, Jis0208, Jis0212}
use Rattle.enc_front.specs.declared.tables.IndexKind.TheVariants.{Gb18030, Gb18030Ranges, Single}

-- how many places an index has: each pointer of the decoders (Encoding Standard, sections 9 to 13)
-- is below, but those of four bytes of gb18030, which have a scalar only below (section 5, "index
-- gb18030 ranges code point")
abbrev pub place_count : IndexKind → ℕ
place_count Big5 = 19782
place_count EucKr = 23940
place_count Jis0208 = 11280
place_count Jis0212 = 8836
place_count Gb18030 = 23940
place_count Gb18030Ranges = 1237576
place_count (Single name) = 128

-- the rows are runs: each of a first place and its scalar
abbrev pub is_ranges : IndexKind → Bool
is_ranges Big5 = false
is_ranges EucKr = false
is_ranges Jis0208 = false
is_ranges Jis0212 = false
is_ranges Gb18030 = false
is_ranges Gb18030Ranges = true
is_ranges (Single name) = false

-- no scalar above U+FFFF stands in the standard's index
abbrev pub is_bmp : IndexKind → Bool
is_bmp Big5 = false
is_bmp EucKr = true
is_bmp Jis0208 = true
is_bmp Jis0212 = true
is_bmp Gb18030 = true
is_bmp Gb18030Ranges = false
is_bmp (Single name) = true

-- a number for each name of an encoding of one byte a scalar, to tell them apart
abbrev pub name_number : SingleName → ℕ
name_number name.Ibm866 = 0
name_number name.Iso8859_2 = 1
name_number name.Iso8859_4 = 2
name_number name.Iso8859_5 = 3
name_number name.Iso8859_7 = 4
name_number name.Iso8859_8 = 5
name_number name.Iso8859_13 = 6
name_number name.Iso8859_15 = 7
name_number name.Koi8R = 8
name_number name.Koi8U = 9
name_number name.Macintosh = 10
name_number name.Windows874 = 11
name_number name.Windows1250 = 12
name_number name.Windows1251 = 13
name_number name.Windows1253 = 14
name_number name.Windows1254 = 15
name_number name.Windows1255 = 16
name_number name.Windows1256 = 17
name_number name.Windows1257 = 18
name_number name.Windows1258 = 19

-- two kinds are the same
abbrev pub same_kind : IndexKind → IndexKind → Bool
same_kind (Single a) (Single b) = name_number a == name_number b
same_kind Big5 Big5 = true
same_kind EucKr EucKr = true
same_kind Jis0208 Jis0208 = true
same_kind Jis0212 Jis0212 = true
same_kind Gb18030 Gb18030 = true
same_kind Gb18030Ranges Gb18030Ranges = true
same_kind _ _ = false
