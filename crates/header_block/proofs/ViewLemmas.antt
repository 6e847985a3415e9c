-- What a reader of fields keeps, by its text and the place where the line that has begun begins.
use Rattle.std.proofs.Common.{◌≡◌, ℕ, zero, suc, eqb, ◌+◌, ◌-◌, ◌<◌, ◌≤◌, Bool, true, false, not, cond, List, [], ◌∷◌, ◌++◌, length, take, drop, get_or, refl, sym, subst, ap, ◌∙◌, arith, length-append, length-drop, length-take, length-take-le, take-append-drop}
use Rattle.std.proofs.lemmas.List.{drop-append-le, drop-take, get_or-drop, get_or-take, take-append-le, take_all, take_rest}
use Rattle.std.proofs.lemmas.Bool.{eqb-true}
use Rattle.std.proofs.Math.Seq.{take-add}
use Rattle.std.proofs.Math.Nat.{lt_irrefl}
use Rattle.enc_io.specs.Reader.{ReaderStanding}
use Rattle.header_block.specs.declared.field_reader.TheConstants.{LONGEST}
use Rattle.header_block.specs.Fields.{begins_wsp, is_wsp}
use Rattle.header_block.specs.Gathering.{Gathered}
use Rattle.header_block.specs.Kept.{goes_with}
use Rattle.header_block.specs.Lines.{has_lf, without_last_cr}
use Rattle.header_block.proofs.FieldLemmas.{ends_goes, no_lf_left, no_lf_right, no_lf-without}
use Rattle.header_block.proofs.LineLemmas.{has_lf-append}

pub none_long : (l : List ℕ) → length l ≡ 0 → l ≡ []
none_long [] e = refl
none_long (b ∷ l) e = absurd (omega arith)

pub drop_rest : (n : ℕ) (l : List ℕ) → length l ≤ n → drop n l ≡ []
drop_rest n l few = none_long (drop n l) (omega (arith, length-drop n l))

pub not_true : (t : Bool) → not t ≡ true → t ≡ false
not_true true e = sym e
not_true false e = refl

pub not_false : (t : Bool) → not t ≡ false → t ≡ true
not_false true e = refl
not_false false e = sym e

-- neither the field nor the line has an LF
pub no_lf_field : (place : ℕ) (text : List ℕ) → has_lf text ≡ false → has_lf (take place text) ≡ false
no_lf_field place text none = no_lf_left (take place text) (drop place text) (ap has_lf (take-append-drop place text) ∙ none)

pub no_lf_line : (place : ℕ) (text : List ℕ) → has_lf text ≡ false → has_lf (drop place text) ≡ false
no_lf_line place text none = no_lf_right (take place text) (drop place text) (ap has_lf (take-append-drop place text) ∙ none)

-- the bytes between two places of a buffer
pub slice_waits : (place len : ℕ) (buf : List ℕ) → place ≤ len → take (len - place) (drop place buf) ≡ drop place (take len buf)
slice_waits place len buf within = sym (ap (λ k. drop place (take k buf)) (omega arith) ∙ drop-take place (len - place) buf)

begins_first : (w : List ℕ) (d : ℕ) → 0 < length w → begins_wsp w ≡ is_wsp (get_or w 0 d)
begins_first [] d some = absurd (lt_irrefl 0 some)
begins_first (b ∷ w) d some = refl

-- the first byte that waits
pub begins_at : (start end : ℕ) (buf : List ℕ) (d : ℕ) → 0 < length (drop start (take end buf)) → begins_wsp (drop start (take end buf)) ≡ is_wsp (get_or buf start d)
begins_at start end buf d some =
    begins_first (drop start (take end buf)) d some
    ∙ ap is_wsp (get_or-drop start (take end buf) 0 d ∙ ap (λ k. get_or (take end buf) k d) (omega arith)
    ∙ get_or-take end buf start d (omega (arith, some, length-drop start (take end buf), length-take end buf)))

-- what waits goes on with a field where it begins with white space
pub goes_wsp : (f l w : List ℕ) → l ≡ [] → begins_wsp w ≡ true → goes_with f (l ++ w) ≡ true
goes_wsp f l w none e = ap (λ m. goes_with f (m ++ w)) none ∙ by_cases f w e
  where
    by_cases : (f w : List ℕ) → begins_wsp w ≡ true → goes_with f w ≡ true
    by_cases [] w e = refl
    by_cases (b ∷ f) [] e = refl
    by_cases (b ∷ f) (c ∷ w) e = e

-- the text without a CR at the end of its last line
pub truncated : (place n : ℕ) (text text' : List ℕ) → text' ≡ take (place + n) text → take n (drop place text) ≡ without_last_cr (drop place text)
    → text' ≡ take place text ++ without_last_cr (drop place text)
truncated place n text text' is content = is ∙ take-add place n text ∙ ap (λ l. take place text ++ l) content

-- a line has ended: it is part of the field, and none has begun behind it
pub record Ended (place : ℕ) (text : List ℕ) (place' : ℕ) (text' : List ℕ) : Type 0 where
  pub within : place' ≤ length text'
  pub no_lf : has_lf text' ≡ false
  pub continued : goes_with (take place' text') (drop place' text') ≡ true
  pub few : place' + length (without_last_cr (drop place' text')) ≤ LONGEST
  pub field : take place' text' ≡ take place text ++ without_last_cr (drop place text)
  pub line : drop place' text' ≡ []

pub line_joined : (place : ℕ) (text : List ℕ) (place' : ℕ) (text' : List ℕ) → text' ≡ take place text ++ without_last_cr (drop place text) → place' ≡ length text'
    → place ≤ length text → has_lf text ≡ false → place + length (without_last_cr (drop place text)) ≤ LONGEST → Ended place text place' text'
line_joined place text place' text' is end within none few =
    let rest : drop place' text' ≡ [] = drop_rest place' text' (omega arith) in
    record {
      within = omega arith;
      no_lf = ap has_lf is ∙ has_lf-append (take place text) (without_last_cr (drop place text)) (no_lf_field place text none) (no_lf-without (drop place text) (no_lf_line place text none));
      continued = ap (goes_with (take place' text')) rest ∙ ends_goes (take place' text');
      few = omega (arith, ap (λ l. length (without_last_cr l)) rest, ap length is, length-append (take place text) (without_last_cr (drop place text)), length-take-le place text within);
      field = take_all place' text' (omega arith) ∙ is;
      line = rest;
    }

pub line_ended_by : (place n : ℕ) (text lent text' : List ℕ) (place' : ℕ) → lent ≡ text → take n (take (length lent - place) (drop place lent)) ≡ without_last_cr (take (length lent - place) (drop place lent))
    → text' ≡ take (place + n) text → place' ≡ length text' → place ≤ length text → has_lf text ≡ false → place + length (without_last_cr (drop place text)) ≤ LONGEST → Ended place text place' text'
line_ended_by place n text lent text' place' same content is end within none few =
    let slice : take (length lent - place) (drop place lent) ≡ drop place text = take_rest lent place ∙ ap (drop place) same in
    line_joined place text place' text' (truncated place n text text' is (subst (λ (l : List ℕ). take n l ≡ without_last_cr l) slice content)) end within none few

abbrev pub kept : ReaderStanding → List ℕ → List ℕ → List ℕ → Gathered
kept r f l w = record { reader = r; field = f; line = l; waiting = w }

pub same_kept : (r : ReaderStanding) (f f' l l' w w' : List ℕ) → f ≡ f' → l ≡ l' → w ≡ w' → kept r f l w ≡ kept r f' l' w'
same_kept r f f' l l' w w' p q s = ap (λ x. kept r x l w) p ∙ ap (λ x. kept r f' x w) q ∙ ap (λ x. kept r f' l' x) s

pub extended : (ok : Bool) (old other new : List ℕ) → ok ≡ true → new ≡ cond ok (old ++ other) old → new ≡ old ++ other
extended ok old other new h is = is ∙ ap (λ b. cond b (old ++ other) old) h

-- bytes were moved to the text
pub record Held (place : ℕ) (text more text' : List ℕ) : Type 0 where
  pub within : place ≤ length text'
  pub no_lf : has_lf text' ≡ false
  pub field : take place text' ≡ take place text
  pub line : drop place text' ≡ drop place text ++ more

pub bytes_held : (place : ℕ) (text more text' : List ℕ) → text' ≡ text ++ more → place ≤ length text → has_lf text ≡ false → has_lf more ≡ false → Held place text more text'
bytes_held place text more text' is within none none' = record {
  within = omega (arith, ap length is, length-append text more);
  no_lf = ap has_lf is ∙ has_lf-append text more none none';
  field = ap (take place) is ∙ take-append-le place text more within;
  line = ap (drop place) is ∙ drop-append-le place text more within;
}

-- whether there is a field, by the place where its lines end
pub tells_empty : (place : ℕ) (text : List ℕ) → place ≤ length text → (field : List ℕ) → take place text ≡ field → (eqb place 0 ≡ true → field ≡ []) × (eqb place 0 ≡ false → 0 < length field)
tells_empty place text within field is = (
  λ e. sym is ∙ ap (λ k. take k text) (eqb-true place 0 e),
  λ e. by_place place text within field is e,
)
  where
    by_place : (place : ℕ) (text : List ℕ) → place ≤ length text → (field : List ℕ) → take place text ≡ field → eqb place 0 ≡ false → 0 < length field
    by_place zero text within field is e = absurd (cc)
    by_place (suc k) text within field is e = omega (arith, ap length is, length-take-le (suc k) text within)
