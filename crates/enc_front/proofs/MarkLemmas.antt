-- What a byte makes of the front of a byte order mark.
use Rattle.std.proofs.Common.{◌≡◌, ℕ, Bool, true, false, List, [], ◌∷◌, cond, refl, ap, subst}
use Rattle.std.proofs.Common.{rules}
use Rattle.std.specs.Prelude.{nat_eq, if◌then◌else◌, drop, Option, Some, None}
use Rattle.std.specs.List.{starts_with}
use Rattle.std.specs.Option.{option_map_or}
use Rattle.std.proofs.lemmas.Bool.{ne_eqb, eqb-true}
use Rattle.enc_front.specs.declared.encoding.Encoding.{Encoding}
use Rattle.enc_front.specs.declared.encoding.Encoding.TheVariants.{Utf8, Utf16Be, Utf16Le}
use Rattle.enc_front.specs.declared.mark.MarkPart.{MarkPart}
use Rattle.enc_front.specs.declared.mark.MarkPart.TheVariants.{Ef, EfBb, Fe, Ff}
use Rattle.enc_front.specs.declared.mark.Start.TheVariants.{Any, Own, Seen, Over}
use Rattle.enc_front.specs.declared.mark.Look.TheVariants.{Part, Mark, Other}
use Rattle.enc_front.specs.Marks.{mark_of}
use Rattle.enc_front.specs.Decoder.{any_mark, own_mark, past_mark}
use Rattle.enc_front.specs.Start.{LooksAt, next_byte}

pub any_other : (encoding : Encoding) (b : ℕ) → ¬ (0xEF ≡ b) → ¬ (0xFE ≡ b) → ¬ (0xFF ≡ b)
    → LooksAt Any encoding b Other
unfolding past_mark
any_other encoding b one two three more =
    rw (ne_eqb 0xEF b one, ne_eqb 0xFE b two, ne_eqb 0xFF b three) refl

-- an own mark is that mark
same_mark : (t : Bool) (found : Encoding) (n : ℕ) (z : List ℕ) →
    let m : Option (Encoding × ℕ) = cond t (Some (found, n)) None in
    ◌≡◌ {A = Encoding × List ℕ} (found, cond t (drop n z) z)
    (option_map_or (λ k. k.0) m found, option_map_or (λ k. drop k.1 z) m z)
same_mark true found n z = refl
same_mark false found n z = refl

own_utf_8_by : (b : ℕ) (t : Bool) → nat_eq 0xEF b ≡ t → LooksAt Own Utf8 b (cond t (Part Ef) Other)
unfolding past_mark
own_utf_8_by b false e = λ more. rw e refl
own_utf_8_by b true e =
    let is : 0xEF ≡ b = eqb-true 0xEF b e in (
      λ more. let P : ℕ → Type 0 = λ k. past_mark own_mark Utf8 (k ∷ more)
          ≡ past_mark any_mark Utf8 (0xEF ∷ more) in
          subst P is (same_mark (starts_with nat_eq (0xEF ∷ more) (mark_of Utf8)) Utf8 3
          (0xEF ∷ more)),
      ap (λ k. k ∷ []) is,
    )

pub own_utf_8 : (b : ℕ) → LooksAt Own Utf8 b (if nat_eq 0xEF b then Part Ef else Other)
own_utf_8 b = own_utf_8_by b (nat_eq 0xEF b) refl

own_utf_16be_by : (b : ℕ) (t : Bool) → nat_eq 0xFE b ≡ t
    → LooksAt Own Utf16Be b (cond t (Part Fe) Other)
unfolding past_mark
own_utf_16be_by b false e = λ more. rw e refl
own_utf_16be_by b true e =
    let is : 0xFE ≡ b = eqb-true 0xFE b e in (
      λ more. let P : ℕ → Type 0 = λ k. past_mark own_mark Utf16Be (k ∷ more)
          ≡ past_mark any_mark Utf16Be (0xFE ∷ more) in
          subst P is (same_mark (starts_with nat_eq (0xFE ∷ more) (mark_of Utf16Be)) Utf16Be 2
          (0xFE ∷ more)),
      ap (λ k. k ∷ []) is,
    )

pub own_utf_16be : (b : ℕ) → LooksAt Own Utf16Be b (if nat_eq 0xFE b then Part Fe else Other)
own_utf_16be b = own_utf_16be_by b (nat_eq 0xFE b) refl

own_utf_16le_by : (b : ℕ) (t : Bool) → nat_eq 0xFF b ≡ t
    → LooksAt Own Utf16Le b (cond t (Part Ff) Other)
unfolding past_mark
own_utf_16le_by b false e = λ more. rw e refl
own_utf_16le_by b true e =
    let is : 0xFF ≡ b = eqb-true 0xFF b e in (
      λ more. let P : ℕ → Type 0 = λ k. past_mark own_mark Utf16Le (k ∷ more)
          ≡ past_mark any_mark Utf16Le (0xFF ∷ more) in
          subst P is (same_mark (starts_with nat_eq (0xFF ∷ more) (mark_of Utf16Le)) Utf16Le 2
          (0xFF ∷ more)),
      ap (λ k. k ∷ []) is,
    )

pub own_utf_16le : (b : ℕ) → LooksAt Own Utf16Le b (if nat_eq 0xFF b then Part Ff else Other)
own_utf_16le b = own_utf_16le_by b (nat_eq 0xFF b) refl

pub own_none : (encoding : Encoding) (b : ℕ) → ¬ (encoding ≡ Utf8) → ¬ (encoding ≡ Utf16Be)
    → ¬ (encoding ≡ Utf16Le) → LooksAt Own encoding b Other
unfolding past_mark
own_none Utf8 b one two three more = absurd (one refl)
own_none Utf16Be b one two three more = absurd (two refl)
own_none Utf16Le b one two three more = absurd (three refl)
own_none encoding b one two three more = refl

pub over_other : (encoding : Encoding) (b : ℕ) → LooksAt Over encoding b Other
unfolding past_mark
over_other encoding b more = refl

pub next_utf_8 : (encoding : Encoding) (b : ℕ) → b ≡ 0xBF
    → LooksAt (Seen EfBb) encoding b (Mark Utf8)
unfolding past_mark
next_utf_8 encoding b is =
    (λ more. ap (λ k. past_mark any_mark encoding (0xEF ∷ 0xBB ∷ k ∷ more)) is, search rules)

pub next_utf_16be : (encoding : Encoding) (b : ℕ) → b ≡ 0xFF
    → LooksAt (Seen Fe) encoding b (Mark Utf16Be)
unfolding past_mark
next_utf_16be encoding b is =
    (λ more. ap (λ k. past_mark any_mark encoding (0xFE ∷ k ∷ more)) is, search rules)

pub next_utf_16le : (encoding : Encoding) (b : ℕ) → b ≡ 0xFE
    → LooksAt (Seen Ff) encoding b (Mark Utf16Le)
unfolding past_mark
next_utf_16le encoding b is =
    (λ more. ap (λ k. past_mark any_mark encoding (0xFF ∷ k ∷ more)) is, search rules)

pub next_other : (part : MarkPart) (encoding : Encoding) (b : ℕ) → ¬ (next_byte part ≡ b)
    → LooksAt (Seen part) encoding b Other
unfolding past_mark
next_other Ef encoding b ne more = rw (ne_eqb 0xBB b ne) refl
next_other EfBb encoding b ne more = rw (ne_eqb 0xBF b ne) refl
next_other Fe encoding b ne more = rw (ne_eqb 0xFF b ne) refl
next_other Ff encoding b ne more = rw (ne_eqb 0xFE b ne) refl
