-- A group, read in UTF-8 as a reader of words does, is what it was without the second mark.
use Rattle.std.proofs.Common.{◌≡◌, ℕ, ◌<◌, Bool, true, false, List, [], ◌∷◌, ◌++◌, Some, None, refl, ap, ◌∙◌, arith}
use Rattle.std.specs.Prelude.{IsUtf8, IsAscii, codes, nat_eq, if◌then◌else◌, option_and_then}
use Rattle.std.specs.List.{starts_with}
use Rattle.std.specs.Option.{option_map_or}
use Rattle.std.proofs.lemmas.Bool.Decides.{nat_tests}
use Rattle.enc_front.specs.declared.encoding.Encoding.{Encoding}
use Rattle.enc_front.specs.declared.encoding.Encoding.TheVariants.{Utf8, Utf16Be, Utf16Le}
use Rattle.enc_front.specs.Indexes.{Indexes, known}
use Rattle.enc_front.specs.Marks.{mark, mark_of, without_mark}
use Rattle.enc_front.specs.Units.{decoded}
use Rattle.enc_front.specs.Charset.{ascii_text, charset, charset_text, marked_text}
use Rattle.enc_front.proofs.LabelLemmas.{name_is_label}
use Rattle.word_writer.specs.Groups.{begins_with_mark, with_mark_twice}
use Rattle.word_writer.proofs.Utf8Text.{AreSmall, utf8-small, decoded-utf8}

-- a list whose first byte is no mark's begins with no mark
other-first : (b x : ℕ) (rest more : List ℕ) → nat_eq x b ≡ false → starts_with nat_eq (b ∷ rest) (x ∷ more) ≡ false
other-first b x rest more h = rw h refl

differs : (x b : ℕ) → b < x → nat_eq x b ≡ false
differs x b h = grind (arith, nat_tests)

tests-none : (bs : List ℕ) → starts_with nat_eq bs (mark_of Utf8) ≡ false → starts_with nat_eq bs (mark_of Utf16Be) ≡ false → starts_with nat_eq bs (mark_of Utf16Le) ≡ false
    → mark bs ≡ None
tests-none bs a b c = rw (a, b, c) refl

pub small-mark : (bs : List ℕ) → AreSmall bs → starts_with nat_eq bs (mark_of Utf8) ≡ false → mark bs ≡ None
small-mark [] h a = refl
small-mark (b ∷ bs) h a =
    let low = h.0 in
    tests-none (b ∷ bs) a (other-first b 0xFE bs (0xFF ∷ []) (differs 0xFE b (omega arith))) (other-first b 0xFF bs (0xFE ∷ []) (differs 0xFF b (omega arith)))

pub ascii-mark : (bs : List ℕ) → IsAscii bs → mark bs ≡ None
ascii-mark [] h = refl
ascii-mark (b ∷ bs) h =
    let low : b < 128 = h 0 in
    tests-none (b ∷ bs) (other-first b 0xEF bs (0xBB ∷ 0xBF ∷ []) (differs 0xEF b (omega arith)))
    (other-first b 0xFE bs (0xFF ∷ []) (differs 0xFE b (omega arith))) (other-first b 0xFF bs (0xFE ∷ []) (differs 0xFF b (omega arith)))

charset-utf8 : (indexes : Indexes) → charset (codes "UTF-8") indexes ≡ Some Utf8
unfolding charset
charset-utf8 indexes = ap (option_and_then (λ encoding. if known encoding indexes then Some encoding else None)) (name_is_label Utf8)

marked-group : (indexes : Indexes) (group : List ℕ) → IsUtf8 group → marked_text Utf8 indexes (with_mark_twice group) ≡ group
unfolding marked_text
marked-group indexes group u = by_test (begins_with_mark group) refl
  where
    by_test : (t : Bool) → begins_with_mark group ≡ t
        → (let bytes = if t then mark_of Utf8 ++ group else group in decoded (option_map_or (λ (m : Encoding × ℕ). m.0) (mark bytes) Utf8) indexes (without_mark bytes) ≡ group)
    by_test true e = decoded-utf8 indexes group u
    by_test false e = rw (small-mark group (utf8-small group u) e) (decoded-utf8 indexes group u)

pub group-shown : (indexes : Indexes) (group : List ℕ) → IsUtf8 group → charset_text (codes "UTF-8") indexes (with_mark_twice group) ≡ group
unfolding charset_text
group-shown indexes group u =
    let bytes = with_mark_twice group in
    ap (λ o. option_map_or (λ encoding. marked_text encoding indexes bytes) o (ascii_text bytes)) (charset-utf8 indexes)
    ∙ marked-group indexes group u
