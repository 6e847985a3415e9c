-- Lemmas on the faults of a text, one octet and one line after another.
use Rattle.std.proofs.Common.{◌≡◌, ℕ, zero, suc, ◌<◌, Bool, true, false, cond, not, ◌||◌, ◌&&◌, eqb, inl, inr, Option, Some, None, List, [], ◌∷◌, ◌++◌, length, take, drop, refl, ap, sym, ◌∙◌, arith}
use Rattle.std.specs.List.{list_all, list_any, All}
use Rattle.std.proofs.lemmas.Bool.{false≢true, and_parts, or_parts, and_cases, eqb-true, ne_eqb, not-true, not-false, or_right}
use Rattle.std.proofs.lemmas.List.Splits.{slice_split_none, slice_split_at, length-slice_split}
use Rattle.qp.specs.declared.QuotedPrintableError.{QuotedPrintableError}
use Rattle.qp.specs.declared.QuotedPrintableError.TheVariants.{IncompleteHexOctet}
use Rattle.qp.specs.Text.{is_text_octet, trimmed, lines}
use Rattle.qp.specs.Line.{escape, cut_escape, soft_break, parts, ends_soft, is_soft}
use Rattle.std.proofs.lemmas.Bool.Decides.{nat_tests}
use Rattle.qp.specs.Items.{begins_break, may_stand_within}
use Rattle.qp.specs.Strict.{or_fault, first_fault, part_fault, line_fault, lines_fault, last_line, without_empty_end, ends_open, has_invalid_byte, pairs_only}
use Rattle.qp.proofs.Reading.{parts_literal}

-- Invalid octets.
pub invalid-none : has_invalid_byte [] ≡ false
unfolding has_invalid_byte pairs_only
invalid-none = refl

pub invalid-pair : (text : List ℕ) → begins_break text ≡ true → has_invalid_byte text ≡ has_invalid_byte (drop 2 text)
unfolding has_invalid_byte pairs_only
invalid-pair [] h = absurd (false≢true h)
invalid-pair (b ∷ []) h = absurd (false≢true h)
invalid-pair (b ∷ c ∷ rest) h =
    let both = and_parts (eqb b 13) (eqb c 10) h in
    ap (λ x. has_invalid_byte (x ∷ c ∷ rest)) (eqb-true b 13 both.0) ∙ ap (λ y. has_invalid_byte (13 ∷ y ∷ rest)) (eqb-true c 10 both.1)

unpaired : (b : ℕ) (rest : List ℕ) → begins_break (b ∷ rest) ≡ false → (eqb b 13 || eqb b 10) ≡ true → pairs_only (b ∷ rest) ≡ false
unfolding pairs_only
unpaired b [] h e = rw e refl
unpaired b (c ∷ rest) h e = rw (h, e) refl

pub invalid-here : (b : ℕ) (text rest : List ℕ) → text ≡ b ∷ rest → begins_break text ≡ false → (is_text_octet b && not (eqb b 13 || eqb b 10)) ≡ false → has_invalid_byte text ≡ true
unfolding has_invalid_byte
invalid-here b text rest e h s = ap has_invalid_byte e ∙ elim (and_cases (is_text_octet b) (not (eqb b 13 || eqb b 10)) s) [
  | inl other ↦ rw other refl
  | inr break ↦
      let bare : pairs_only (b ∷ rest) ≡ false = unpaired b rest (rw e at h) (not-false (eqb b 13 || eqb b 10) break) in
      or_right (list_any (λ b. not (is_text_octet b)) (b ∷ rest)) (not (pairs_only (b ∷ rest))) (ap not bare)
]

pairs-alone : (b : ℕ) (rest : List ℕ) → eqb b 13 ≡ false → eqb b 10 ≡ false → pairs_only (b ∷ rest) ≡ pairs_only rest
unfolding pairs_only
pairs-alone b [] h f = rw (h, f) refl
pairs-alone b (c ∷ rest) h f = rw (h, f) refl

pub invalid-later : (b : ℕ) (text rest : List ℕ) → text ≡ b ∷ rest → (is_text_octet b && not (eqb b 13 || eqb b 10)) ≡ true → has_invalid_byte text ≡ has_invalid_byte rest
unfolding has_invalid_byte
invalid-later b text rest e s =
    let both = and_parts (is_text_octet b) (not (eqb b 13 || eqb b 10)) s in
    let alone = or_parts (eqb b 13) (eqb b 10) (not-true (eqb b 13 || eqb b 10) both.1) in
    ap has_invalid_byte e ∙ rw (both.0, pairs-alone b rest alone.0 alone.1) refl

-- a run of octets that may stand outside a line break
pub invalid-run : (run : ℕ) (text : List ℕ) → list_all (λ b. is_text_octet b && not (eqb b 13 || eqb b 10)) (take run text) ≡ true → has_invalid_byte (drop run text) ≡ has_invalid_byte text
invalid-run zero text h = refl
invalid-run (suc run) [] h = refl
invalid-run (suc run) (b ∷ text) h =
    let here = and_parts (is_text_octet b && not (eqb b 13 || eqb b 10)) (list_all (λ b. is_text_octet b && not (eqb b 13 || eqb b 10)) (take run text)) h in
    invalid-run run text here.1 ∙ sym (invalid-later b (b ∷ text) text refl here.0)

-- The lines of a text.
without-more : (line : List ℕ) (rest : List (List ℕ)) → 0 < length rest → without_empty_end (line ∷ rest) ≡ line ∷ without_empty_end rest
unfolding without_empty_end
without-more line [] h = absurd (omega (arith, h))
without-more line (next ∷ rest) h = refl

pub lines-none : (text : List ℕ) → text ≡ [] → without_empty_end (lines text) ≡ []
unfolding without_empty_end lines
lines-none text e = rw e refl

pub lines-feed : (text line rest : List ℕ) → text ≡ line ++ 10 ∷ rest → All (λ b. eqb b 10 ≡ false) line → without_empty_end (lines text) ≡ line ∷ without_empty_end (lines rest)
unfolding lines
lines-feed text line rest e one =
    ap (λ t. without_empty_end (lines t)) e
    ∙ ap without_empty_end (slice_split_at (λ b. eqb b 10) line 10 rest one refl)
    ∙ without-more line (lines rest) (omega (arith, length-slice_split (λ b. eqb b 10) rest))

pub lines-last : (text rest : List ℕ) → ¬ (length text ≡ 0) → All (λ b. eqb b 10 ≡ false) text → rest ≡ [] → without_empty_end (lines text) ≡ text ∷ without_empty_end (lines rest)
unfolding lines without_empty_end
lines-last text rest some one none =
    let other : eqb (length text) 0 ≡ false = ne_eqb (length text) 0 some in
    ap without_empty_end (slice_split_none (λ b. eqb b 10) text one) ∙ rw other refl ∙ ap (λ l. text ∷ l) (sym (lines-none rest none))

-- Lines one after another: whether the last is soft and some is hard.
abbrev pub opens : Bool → Bool → List (List ℕ) → Bool
opens hard soft [] = soft && hard
opens hard soft (line ∷ rest) = opens (hard || not (is_soft line)) (is_soft line) rest

last_soft : Bool → List (List ℕ) → Bool
last_soft soft [] = soft
last_soft soft (line ∷ rest) = last_soft (is_soft line) rest

last_soft-is : (soft : Bool) (line : List ℕ) (rest : List (List ℕ)) → last_soft soft (line ∷ rest) ≡ is_soft (last_line (line ∷ rest))
unfolding last_soft last_line
last_soft-is soft line [] = refl
last_soft-is soft line (next ∷ rest) = last_soft-is (is_soft line) next rest

or_assoc : (a b c : Bool) → ((a || b) || c) ≡ (a || (b || c))
or_assoc true b c = refl
or_assoc false b c = refl

or_false : (a : Bool) → (a || false) ≡ a
or_false true = refl
or_false false = refl

opens-is : (hard soft : Bool) (ls : List (List ℕ)) → opens hard soft ls ≡ (last_soft soft ls && (hard || list_any (λ line. not (is_soft line)) ls))
unfolding last_soft
opens-is hard soft [] = ap (λ h. soft && h) (sym (or_false hard))
opens-is hard soft (line ∷ rest) =
    opens-is (hard || not (is_soft line)) (is_soft line) rest
    ∙ ap (λ h. last_soft (is_soft line) rest && h) (or_assoc hard (not (is_soft line)) (list_any (λ line. not (is_soft line)) rest))

soft-none : is_soft [] ≡ false
unfolding is_soft ends_soft parts trimmed
soft-none = refl

opens-ends : (ls : List (List ℕ)) → opens false false ls ≡ ends_open ls
unfolding ends_open last_line
opens-ends [] = sym (rw soft-none refl)
opens-ends (line ∷ rest) = opens-is false false (line ∷ rest) ∙ ap (λ s. s && list_any (λ line. not (is_soft line)) (line ∷ rest)) (last_soft-is false line rest)

-- the fault of lines behind others, of which some were hard and the last was soft
unfoldable pub fault_behind : ℕ → Bool → Bool → List (List ℕ) → Option QuotedPrintableError
fault_behind limit hard soft ls = or_fault (first_fault (line_fault limit) ls) (cond (opens hard soft ls) (Some IncompleteHexOctet) None)

pub fault-first : (limit : ℕ) (ls : List (List ℕ)) → fault_behind limit false false ls ≡ lines_fault limit ls
unfolding fault_behind lines_fault
fault-first limit ls = ap (λ o. or_fault (first_fault (line_fault limit) ls) (cond o (Some IncompleteHexOctet) None)) (opens-ends ls)

pub fault-none : (limit : ℕ) (hard soft : Bool) (ls : List (List ℕ)) → ls ≡ [] → fault_behind limit hard soft ls ≡ cond (soft && hard) (Some IncompleteHexOctet) None
unfolding fault_behind first_fault
fault-none limit hard soft ls e = rw e refl

pub fault-later : (limit : ℕ) (hard soft now : Bool) (line : List ℕ) (ls rest : List (List ℕ)) → ls ≡ line ∷ rest → line_fault limit line ≡ None → now ≡ is_soft line
    → fault_behind limit hard soft ls ≡ fault_behind limit (hard || not now) now rest
unfolding fault_behind first_fault
fault-later limit hard soft now line ls rest e none is = rw (e, none, is) refl

pub fault-here : (limit : ℕ) (hard soft : Bool) (line : List ℕ) (ls rest : List (List ℕ)) (fault : QuotedPrintableError) → ls ≡ line ∷ rest → line_fault limit line ≡ Some fault
    → fault_behind limit hard soft ls ≡ Some fault
unfolding fault_behind first_fault
fault-here limit hard soft line ls rest fault e some = rw (e, some) refl

-- The parts of a line.
pub part-literal : (b : ℕ) (text rest : List ℕ) → text ≡ b ∷ rest → eqb b 61 ≡ false → first_fault part_fault (parts text) ≡ first_fault part_fault (parts rest)
unfolding first_fault
part-literal b text rest e h = ap (λ t. first_fault part_fault (parts t)) e ∙ ap (first_fault part_fault) (parts_literal b rest h)

-- a run of octets that stand for themselves
pub part-run : (run : ℕ) (text : List ℕ) → list_all may_stand_within (take run text) ≡ true → first_fault part_fault (parts (drop run text)) ≡ first_fault part_fault (parts text)
part-run zero text h = refl
part-run (suc run) [] h = refl
part-run (suc run) (b ∷ text) h =
    let here = and_parts (may_stand_within b) (list_all may_stand_within (take run text)) h in
    part-run run text here.1 ∙ sym (part-literal b (b ∷ text) text refl (other b here.0))
  where
    other : (b : ℕ) → may_stand_within b ≡ true → eqb b 61 ≡ false
    other b h = grind (arith, nat_tests)

pub part-escape : (u w : ℕ) (text rest : List ℕ) → parts text ≡ escape u w ∷ parts rest → part_fault (escape u w) ≡ None → first_fault part_fault (parts text) ≡ first_fault part_fault (parts rest)
unfolding first_fault
part-escape u w text rest e none = ap (first_fault part_fault) e ∙ rw none refl

pub part-fault : (u w : ℕ) (text rest : List ℕ) (fault : QuotedPrintableError) → parts text ≡ escape u w ∷ parts rest → part_fault (escape u w) ≡ Some fault → first_fault part_fault (parts text) ≡ Some fault
unfolding first_fault
part-fault u w text rest fault e some = ap (first_fault part_fault) e ∙ rw some refl

pub fault-soft : first_fault part_fault (soft_break ∷ []) ≡ None
unfolding first_fault
fault-soft = refl

pub fault-cut : (u : ℕ) → first_fault part_fault (cut_escape u ∷ []) ≡ Some IncompleteHexOctet
unfolding first_fault
fault-cut u = refl

pub fault-parts_none : first_fault part_fault (parts []) ≡ None
unfolding first_fault parts
fault-parts_none = refl
