-- Text in UTF-8, read as bytes in UTF-8, is itself.
use Rattle.std.proofs.Common.{◌≡◌, ℕ, ◌+◌, ◌/◌, ◌<◌, ◌≤◌, ◌⊎◌, Bool, true, false, cond, List, [], ◌∷◌, ◌++◌, length, drop, refl, sym, ap, subst, ◌∙◌, arith, ltb, length-append}
use Rattle.std.specs.Prelude.{IsUtf8, ⊤}
use Rattle.std.specs.Char.{IsScalar}
use Rattle.std.proofs.lemmas.Bool.{and_parts}
use Rattle.std.proofs.lemmas.Bool.Decides.{nat_tests}
use Rattle.std.proofs.lemmas.List.{drop_at}
use Rattle.std.proofs.lemmas.List.Elements.{All-nil, All-cons}
use Rattle.std.proofs.lemmas.Str.{length-encode, len_utf8_bounds}
use lib.Utf8.{encode, encodes, scalar, scalars, scalar_cases, next}
use Rattle.enc_drivers.specs.declared.unit.Item.TheVariants.{One}
use Rattle.enc_drivers.specs.declared.unit.Mode.TheVariants.{Plain}
use Rattle.enc_drivers.specs.Codes.Utf8.{utf8_unit}
use Rattle.enc_drivers.specs.Lemmas.Utf8Law.{utf8_law}
use Rattle.enc_drivers.specs.Units.{AreBytes, UnitAt, units, text}
use Rattle.enc_drivers.proofs.UnitLemmas.{units_nil, units_some}
use Rattle.enc_drivers.proofs.Utf8RoundTrip.{utf8_round_trip}
use Rattle.enc_front.specs.declared.encoding.Encoding.TheVariants.{Utf8}
use Rattle.enc_front.specs.Indexes.{Indexes}
use Rattle.enc_front.specs.Units.{decoded}

-- no byte of UTF-8 is above F7
abbrev pub AreSmall : List ℕ → Type 0
AreSmall [] = ⊤
AreSmall (b ∷ bs) = (b < 248) × AreSmall bs

pub small-append : (a b : List ℕ) → AreSmall a → AreSmall b → AreSmall (a ++ b)
small-append [] b h k = k
small-append (x ∷ a) b h k = (h.0, small-append a b h.1 k)

below-tests : (c : ℕ) (t u v : Bool) → ltb c 128 ≡ t → ltb c 2048 ≡ u → ltb c 65536 ≡ v → (c < 55296) ⊎ ((57344 ≤ c) × (c < 1114112))
    → AreSmall (cond t (c ∷ []) (cond u ((192 + c / 64) ∷ next c ∷ []) (cond v ((224 + c / 4096) ∷ next (c / 64) ∷ next c ∷ []) ((240 + c / 262144) ∷ next (c / 4096) ∷ next (c / 64) ∷ next c ∷ []))))
below-tests c true u v a b d s = (grind (arith, nat_tests), tt)
below-tests c false true v a b d s = let few : c < 2048 = grind (arith, nat_tests) in (omega arith, (omega arith, tt))
below-tests c false false true a b d s = let few : c < 65536 = grind (arith, nat_tests) in (omega arith, (omega arith, (omega arith, tt)))
below-tests c false false false a b d s = let few : c < 1114112 = omega arith in (omega arith, (omega arith, (omega arith, (omega arith, tt))))

encode-small : (c : ℕ) → IsScalar c → AreSmall (encode c)
unfolding encode
encode-small c s = below-tests c (ltb c 128) (ltb c 2048) (ltb c 65536) refl refl refl (scalar_cases c s)

encodes-small : (cs : List ℕ) → scalars cs ≡ true → AreSmall (encodes cs)
encodes-small [] h = tt
encodes-small (c ∷ cs) h = let parts = and_parts _ _ h in small-append (encode c) (encodes cs) (encode-small c parts.0) (encodes-small cs parts.1)

pub utf8-small : (bs : List ℕ) → IsUtf8 bs → AreSmall bs
utf8-small bs u = subst AreSmall u.1.1 (encodes-small u.0 u.1.0)

small-bytes : (bs : List ℕ) → AreSmall bs → AreBytes bs
small-bytes [] h = All-nil (λ b. b < 256)
small-bytes (b ∷ bs) h = All-cons (λ b. b < 256) b bs (let low = h.0 in omega arith) (small-bytes bs h.1)

-- the units of scalars spell these
units-encodes : (cs : List ℕ) → scalars cs ≡ true → text (units utf8_unit Plain (encodes cs)) ≡ encodes cs
unfolding text
units-encodes [] h = ap text (units_nil utf8_unit Plain)
units-encodes (c ∷ cs) h =
    let parts = and_parts (scalar c) (scalars cs) h in
    let rest = encodes cs in
    let are : AreBytes (encode c ++ rest) = small-bytes (encode c ++ rest) (encodes-small (c ∷ cs) h) in
    let some : 0 < length (encode c ++ rest) = omega (arith, length-append (encode c) rest, length-encode c, (len_utf8_bounds c).0) in
    ap text
    (units_some utf8_unit utf8_law Plain (encode c ++ rest) are some
    ∙ (ap (λ (v : UnitAt). (v.item, v.len) ∷ units utf8_unit v.next (drop v.len (encode c ++ rest))) (utf8_round_trip Plain c rest parts.0)
    ∙ ap (λ (l : List ℕ). (One c, length (encode c)) ∷ units utf8_unit Plain l) (drop_at (encode c) rest (length (encode c)) refl)))
    ∙ ap (λ l. encode c ++ l) (units-encodes cs parts.1)

pub decoded-utf8 : (indexes : Indexes) (bs : List ℕ) → IsUtf8 bs → decoded Utf8 indexes bs ≡ bs
unfolding decoded
decoded-utf8 indexes bs u =
    ap (λ l. text (units utf8_unit Plain l)) (sym u.1.1) ∙ units-encodes u.0 u.1.0 ∙ u.1.1
