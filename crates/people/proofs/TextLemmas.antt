-- A word's text, byte by byte.
use Rattle.std.proofs.Common.{◌≡◌, ℕ, ◌+◌, ◌<◌, Bool, true, false, not, ◌==◌, ◌&&◌, ◌||◌, cond, Option, Some, None, List, [], ◌∷◌, ◌++◌, length, take, drop, refl, sym, ap, ◌∙◌, append_assoc}
use Rattle.std.specs.List.{list_all}
use Rattle.std.specs.Option.{option_map}
use Rattle.std.specs.Prelude.{option_and_then, slice_index}
use Rattle.std.proofs.Math.Bool.{and-false}
use Rattle.std.proofs.lemmas.Bool.{cond-true, cond-false}
use Rattle.std.proofs.lemmas.List.{drop_more, take_more}
use Rattle.people.specs.Frame.{Cut, begins_in, has_start, cut_at_end, cut_text}
use Rattle.people.specs.TextSteps.{is_inside, is_text_after, kept_after, cut_after, with_byte}

pub at-start : (s : List ℕ) → cut_after false s ≡ cut_text s
unfolding cut_text
at-start s = refl

goes : (equals : Bool) (b : ℕ) → is_inside b ≡ true → (equals && (b == 63)) ≡ false → (o : Option Cut)
    → option_and_then (kept_after equals) (option_map (with_byte b) o) ≡ option_map (with_byte b) (option_and_then (kept_after (b == 61)) o)
goes equals b inside apart None = refl
goes equals b inside apart (Some cut) =
    let same : is_text_after equals (b ∷ cut.0) ≡ is_text_after (b == 61) cut.0 =
    λ i. (inside i && list_all is_inside cut.0) && not (apart i || ((b == 61 && begins_in 63 cut.0) || has_start cut.0)) in
    ap (λ t. cond t (Some (with_byte b cut)) None) same ∙ through (is_text_after (b == 61) cut.0)
  where
    through : (t : Bool) → cond t (Some (with_byte b cut)) None ≡ option_map (with_byte b) (cond t (Some cut) None)
    through true = refl
    through false = refl

-- a byte that belongs to the text
pub goes-on : (equals : Bool) (b : ℕ) (rest : List ℕ) → (b == 63 && begins_in 61 rest) ≡ false → is_inside b ≡ true → (equals && (b == 63)) ≡ false
    → cut_after equals (b ∷ rest) ≡ option_map (with_byte b) (cut_after (b == 61) rest)
goes-on equals b rest e inside apart =
    ap (option_and_then (kept_after equals)) (cond-false (b == 63 && begins_in 61 rest) (Some ([], drop 1 rest)) (option_map (λ (cut : Cut). (b ∷ cut.0, cut.1)) (cut_at_end rest)) e) ∙
    goes equals b inside apart (cut_at_end rest)

-- the first `?=`
pub ends : (equals : Bool) (rest : List ℕ) → begins_in 61 rest ≡ true → cut_after equals (63 ∷ rest) ≡ Some ([], drop 1 rest)
ends true rest e = ap (option_and_then (kept_after true)) (cond-true (begins_in 61 rest) (Some ([], drop 1 rest)) (option_map (λ (cut : Cut). (63 ∷ cut.0, cut.1)) (cut_at_end rest)) e)
ends false rest e = ap (option_and_then (kept_after false)) (cond-true (begins_in 61 rest) (Some ([], drop 1 rest)) (option_map (λ (cut : Cut). (63 ∷ cut.0, cut.1)) (cut_at_end rest)) e)

-- a line end
stops : (equals : Bool) (b : ℕ) → is_inside b ≡ false → (o : Option Cut) → option_and_then (kept_after equals) (option_map (with_byte b) o) ≡ None
stops equals b e None = refl
stops equals b e (Some cut) =
    ap (λ t. cond ((t && list_all is_inside cut.0) && not ((equals && (b == 63)) || ((b == 61 && begins_in 63 cut.0) || has_start cut.0))) (Some (with_byte b cut)) None) e

pub at-return : (equals : Bool) (rest : List ℕ) → cut_after equals (13 ∷ rest) ≡ None
at-return equals rest = stops equals 13 refl (cut_at_end rest)

pub at-line-feed : (equals : Bool) (rest : List ℕ) → cut_after equals (10 ∷ rest) ≡ None
at-line-feed equals rest = stops equals 10 refl (cut_at_end rest)

-- a `=?` inside
begins : (o : Option Cut) → option_and_then (kept_after true) (option_map (with_byte 63) o) ≡ None
begins None = refl
begins (Some cut) = ap (λ t. cond t (Some (with_byte 63 cut)) None) (and-false (list_all is_inside cut.0))

pub at-start-inside : (rest : List ℕ) → begins_in 61 rest ≡ false → cut_after true (63 ∷ rest) ≡ None
at-start-inside rest e =
    ap (option_and_then (kept_after true)) (cond-false (begins_in 61 rest) (Some ([], drop 1 rest)) (option_map (λ (cut : Cut). (63 ∷ cut.0, cut.1)) (cut_at_end rest)) e) ∙
    begins (cut_at_end rest)

pub is-inside : (b : ℕ) → (b == 13) ≡ false → (b == 10) ≡ false → is_inside b ≡ true
is-inside b e f = λ i. not (e i || f i)

-- bytes before a text
abbrev pub with_front : List ℕ → Cut → Cut
with_front front cut = (front ++ cut.0, cut.1)

longer : (front : List ℕ) (b : ℕ) (o : Option Cut) → option_map (with_front front) (option_map (with_byte b) o) ≡ option_map (with_front (front ++ b ∷ [])) o
longer front b None = refl
longer front b (Some cut) = ap (λ z. Some (z, cut.1)) (sym (append_assoc front (b ∷ []) cut.0))

-- the text from a place on, and from the next
pub turn : (s : List ℕ) (at : ℕ) (equals : Bool) → at < length s
    → cut_after equals (slice_index s at ∷ drop (at + 1) s) ≡ option_map (with_byte (slice_index s at)) (cut_after (slice_index s at == 61) (drop (at + 1) s))
    → cut_text s ≡ option_map (with_front (take at s)) (cut_after equals (drop at s))
    → cut_text s ≡ option_map (with_front (take (at + 1) s)) (cut_after (slice_index s at == 61) (drop (at + 1) s))
turn s at equals l step h =
    h ∙ (ap (λ z. option_map (with_front (take at s)) (cut_after equals z)) (drop_more s at 0 l) ∙
    (ap (option_map (with_front (take at s))) step ∙ (longer (take at s) (slice_index s at) (cut_after (slice_index s at == 61) (drop (at + 1) s)) ∙
    ap (λ z. option_map (with_front z) (cut_after (slice_index s at == 61) (drop (at + 1) s))) (sym (take_more s at 0 l)))))

pub front-none : (o : Option Cut) → o ≡ option_map (with_front []) o
front-none None = refl
front-none (Some cut) = refl
