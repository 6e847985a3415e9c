-- The names of the encodings and their labels (Encoding Standard, section 4.2, names and labels): a
-- subset of the standard's table. Left out as a whole are ISO-8859-3, ISO-8859-6, ISO-8859-10,
-- ISO-8859-14, ISO-8859-16, x-mac-cyrillic and replacement; of the encodings that are here, the
-- labels iso-ir-58, -110, -126, -138, -144, -148, -149, those that end in a colon and a year (but
-- iso_8859-1:1987), csiso58gb231280, csiso88598e, csksc56011987, ecma-118, elot_928, greek8,
-- iso-8859-8-e, ks_c_5601-1989, ms932, sun_eu_greek and visual.
use Rattle.std.specs.Prelude.{ℕ, ◌-◌, List, [], ◌∷◌, length, take, drop, map, codes, if◌then◌else◌}
use Rattle.std.specs.Prelude.{Option, Some, None}
use Rattle.std.specs.Borrow.{Bor}
use Rattle.std.specs.List.{prefix_len, suffix_len}
use Rattle.std.specs.Char.{is_ascii_whitespace}
use Rattle.std.specs.Str.{str_eq_ignore_ascii_case}
use Rattle.enc_front.specs.declared.encoding.TheConstants.{LABELS}
use Rattle.enc_front.specs.declared.encoding.Encoding.{Encoding}
use Rattle.enc_front.specs.declared.encoding.Encoding.TheVariants.{Utf8, Utf16Be, Utf16Le}
use Rattle.enc_front.specs.declared.encoding.Encoding.TheVariants.{Windows1252, UserDefined, Single}
use Rattle.enc_front.specs.declared.encoding.Encoding.TheVariants.{Iso8859_8I, Gbk, Gb18030, Big5}
use Rattle.enc_front.specs.declared.encoding.Encoding.TheVariants.{EucJp, Iso2022Jp, ShiftJis}
use Rattle.enc_front.specs.declared.encoding.Encoding.TheVariants.{EucKr}
use Rattle.enc_front.specs.declared.encoding.SingleName.TheVariants.{Ibm866, Iso8859_2, Iso8859_4}
use Rattle.enc_front.specs.declared.encoding.SingleName.TheVariants.{Iso8859_5, Iso8859_7}
use Rattle.enc_front.specs.declared.encoding.SingleName.TheVariants.{Iso8859_8, Iso8859_13}
use Rattle.enc_front.specs.declared.encoding.SingleName.TheVariants.{Iso8859_15, Koi8R, Koi8U}
use Rattle.enc_front.specs.declared.encoding.SingleName.TheVariants.{Macintosh, Windows874}
use Rattle.enc_front.specs.declared.encoding.SingleName.TheVariants.{Windows1250, Windows1251}
use Rattle.enc_front.specs.declared.encoding.SingleName.TheVariants.{Windows1253, Windows1254}
use Rattle.enc_front.specs.declared.encoding.SingleName.TheVariants.{Windows1255, Windows1256}
use Rattle.enc_front.specs.declared.encoding.SingleName.TheVariants.{Windows1257, Windows1258}

-- the encoding's name
abbrev pub name_text : Encoding → List ℕ
name_text Utf8 = codes "UTF-8"
name_text Utf16Be = codes "UTF-16BE"
name_text Utf16Le = codes "UTF-16LE"
name_text Windows1252 = codes "windows-1252"
name_text UserDefined = codes "x-user-defined"
name_text (Single Ibm866) = codes "IBM866"
name_text (Single Iso8859_2) = codes "ISO-8859-2"
name_text (Single Iso8859_4) = codes "ISO-8859-4"
name_text (Single Iso8859_5) = codes "ISO-8859-5"
name_text (Single Iso8859_7) = codes "ISO-8859-7"
name_text (Single Iso8859_8) = codes "ISO-8859-8"
name_text Iso8859_8I = codes "ISO-8859-8-I"
name_text (Single Iso8859_13) = codes "ISO-8859-13"
name_text (Single Iso8859_15) = codes "ISO-8859-15"
name_text (Single Koi8R) = codes "KOI8-R"
name_text (Single Koi8U) = codes "KOI8-U"
name_text (Single Macintosh) = codes "macintosh"
name_text (Single Windows874) = codes "windows-874"
name_text (Single Windows1250) = codes "windows-1250"
name_text (Single Windows1251) = codes "windows-1251"
name_text (Single Windows1253) = codes "windows-1253"
name_text (Single Windows1254) = codes "windows-1254"
name_text (Single Windows1255) = codes "windows-1255"
name_text (Single Windows1256) = codes "windows-1256"
name_text (Single Windows1257) = codes "windows-1257"
name_text (Single Windows1258) = codes "windows-1258"
name_text Gbk = codes "GBK"
name_text Gb18030 = codes "gb18030"
name_text Big5 = codes "Big5"
name_text EucJp = codes "EUC-JP"
name_text Iso2022Jp = codes "ISO-2022-JP"
name_text ShiftJis = codes "Shift_JIS"
name_text EucKr = codes "EUC-KR"

-- a table of labels and what each is a label of
abbrev pub Labels : Type 0
Labels = List (List ℕ × Encoding)

-- rows of a table in a program
abbrev pub label_rows : List (Bor (List ℕ) × Encoding) → Labels
label_rows rows = map (λ row. (row.0.now, row.1)) rows

-- the encoding of the first label that the bytes are, in any ASCII case
abbrev pub find_label : Labels → List ℕ → Option Encoding
find_label [] bytes = None
find_label (row ∷ rows) bytes = if str_eq_ignore_ascii_case row.0 bytes then Some row.1
    else find_label rows bytes

-- the known labels
unfoldable pub labels : Labels
labels = map (λ row. (row.0.now, row.1)) LABELS

-- without ASCII white space (tab, LF, FF, CR and space) at either end
abbrev pub trimmed_label : List ℕ → List ℕ
trimmed_label bytes =
    let rest = drop (prefix_len is_ascii_whitespace bytes) bytes in
    take (length rest - suffix_len is_ascii_whitespace rest) rest

-- the encoding that bytes name: the one with a label that they match in any ASCII case, without
-- white space at their ends ("get an encoding")
unfoldable pub label : List ℕ → Option Encoding
label bytes = find_label labels (trimmed_label bytes)
