-- The table of labels: each row is found, and each name is a label.
use Rattle.std.proofs.Common.{◌≡◌, map, refl}
use Rattle.std.specs.Prelude.{Some}
use Rattle.enc_front.specs.declared.encoding.Encoding.{Encoding}
use Rattle.enc_front.specs.declared.encoding.Encoding.TheVariants.{Utf8, Utf16Be, Utf16Le}
use Rattle.enc_front.specs.declared.encoding.Encoding.TheVariants.{Windows1252, UserDefined, Single}
use Rattle.enc_front.specs.declared.encoding.Encoding.TheVariants.{Iso8859_8I, Gbk, Gb18030, Big5}
use Rattle.enc_front.specs.declared.encoding.Encoding.TheVariants.{EucJp, Iso2022Jp, ShiftJis}
use Rattle.enc_front.specs.declared.encoding.Encoding.TheVariants.{EucKr}
use Rattle.enc_front.specs.declared.encoding.SingleName.TheVariants.{Ibm866, Iso8859_2, Iso8859_4}
use Rattle.enc_front.specs.declared.encoding.SingleName.TheVariants.{Iso8859_5, Iso8859_7}
use Rattle.enc_front.specs.declared.encoding.SingleName.TheVariants.{Iso8859_8, Iso8859_13}
use Rattle.enc_front.specs.declared.encoding.SingleName.TheVariants.{Iso8859_15, Koi8R, Koi8U}
use Rattle.enc_front.specs.declared.encoding.SingleName.TheVariants.{Macintosh, Windows874}
use Rattle.enc_front.specs.declared.encoding.SingleName.TheVariants.{Windows1250, Windows1251}
use Rattle.enc_front.specs.declared.encoding.SingleName.TheVariants.{Windows1253, Windows1254}
use Rattle.enc_front.specs.declared.encoding.SingleName.TheVariants.{Windows1255, Windows1256}
use Rattle.enc_front.specs.declared.encoding.SingleName.TheVariants.{Windows1257, Windows1258}
use Rattle.enc_front.specs.Encoding.{label, labels, name_text}

pub name_is_label : (encoding : Encoding) → label (name_text encoding) ≡ Some encoding
unfolding label labels
name_is_label Utf8 = refl
name_is_label Utf16Be = refl
name_is_label Utf16Le = refl
name_is_label Windows1252 = refl
name_is_label UserDefined = refl
name_is_label (Single Ibm866) = refl
name_is_label (Single Iso8859_2) = refl
name_is_label (Single Iso8859_4) = refl
name_is_label (Single Iso8859_5) = refl
name_is_label (Single Iso8859_7) = refl
name_is_label (Single Iso8859_8) = refl
name_is_label (Single Iso8859_13) = refl
name_is_label (Single Iso8859_15) = refl
name_is_label (Single Koi8R) = refl
name_is_label (Single Koi8U) = refl
name_is_label (Single Macintosh) = refl
name_is_label (Single Windows874) = refl
name_is_label (Single Windows1250) = refl
name_is_label (Single Windows1251) = refl
name_is_label (Single Windows1253) = refl
name_is_label (Single Windows1254) = refl
name_is_label (Single Windows1255) = refl
name_is_label (Single Windows1256) = refl
name_is_label (Single Windows1257) = refl
name_is_label (Single Windows1258) = refl
name_is_label Iso8859_8I = refl
name_is_label Gbk = refl
name_is_label Gb18030 = refl
name_is_label Big5 = refl
name_is_label EucJp = refl
name_is_label Iso2022Jp = refl
name_is_label ShiftJis = refl
name_is_label EucKr = refl

pub each_label_found : map (λ row. label row.0) labels ≡ map (λ row. Some row.1) labels
unfolding label labels
each_label_found = refl
