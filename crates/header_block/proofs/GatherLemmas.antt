-- What the steps of a reader of fields do.
use Rattle.std.proofs.Common.{◌≡◌, ◌⊎◌, inl, inr, ℕ, ◌+◌, ◌<◌, ◌≤◌, Bool, true, false, List, [], ◌∷◌, ◌++◌, Ok, length, take, drop, refl, sym, subst, ap, ◌∙◌, arith, append_assoc, append-nil, length-append, take-append-drop}
use Rattle.enc_io.specs.Faults.{Rose}
use Rattle.enc_io.specs.Reader.{ReaderStanding}
use Rattle.enc_io.specs.ReaderCalls.{GoesOn, Faults, Passes, HasGivenText}
use Rattle.header_block.specs.declared.field_reader.FieldError.{FieldError}
use Rattle.header_block.specs.declared.field_reader.FieldError.TheVariants.{Memory, ReadFault, TooMuch, TooLong}
use Rattle.header_block.specs.declared.field_reader.TheConstants.{LONGEST}
use Rattle.header_block.specs.Fields.{fields, begins_wsp, BeginsTooLong}
use Rattle.header_block.specs.Gathering.{Gathered, Gathers, Finds, Fails, PassesLimit, FindsTooLong, Stops, Steps, kept_text, turns}
use Rattle.header_block.specs.Kept.{as_line, goes_with, field_then}
use Rattle.header_block.specs.Lines.{has_lf, without_last_cr}
use Rattle.header_block.specs.Reads.{IsDrained}
use Rattle.header_block.proofs.FieldLemmas.{begun, begun_field, field_last, field_too_long, field_whole, fits_so_far, line_ended, line_last, no_lf-without}
use Rattle.header_block.proofs.LineLemmas.{has_lf-append, length-without_last_cr}
use Rattle.header_block.proofs.ReadLemmas.{none_comes, reads_moved, reads_none, reads_trans}

pub gathers_none : (at : Gathered) → Gathers at at
gathers_none at = record {
  text = [];
  reads = reads_none at.reader;
  same = λ more. refl;
  falls = omega arith;
  same_faults = refl;
}

-- the fields behind text that was read in two parts
two_parts : (a b : Gathered) (text next more : List ℕ) → ((rest : List ℕ) → fields (kept_text a ++ (text ++ rest)) ≡ fields (kept_text b ++ rest))
    → fields (kept_text a ++ ((text ++ next) ++ more)) ≡ fields (kept_text b ++ (next ++ more))
two_parts a b text next more same = ap (λ l. fields (kept_text a ++ l)) (append_assoc text next more) ∙ same (next ++ more)

pub gathers_trans : (a b c : Gathered) → Gathers a b → Gathers b c → Gathers a c
gathers_trans a b c first next = record {
  text = first.text ++ next.text;
  reads = reads_trans a.reader b.reader c.reader first.text next.text first.reads next.reads;
  same = λ more. two_parts a b first.text next.text more first.same ∙ next.same more;
  falls = omega (arith, first.falls, next.falls);
  same_faults = next.same_faults ∙ first.same_faults;
}

pub gathers_finds : (a b c : Gathered) → Gathers a b → Finds b c → Finds a c
gathers_finds a b c first next = record {
  text = first.text ++ next.text;
  reads = reads_trans a.reader b.reader c.reader first.text next.text first.reads next.reads;
  found = λ more may. two_parts a b first.text next.text more first.same ∙ next.found more may;
  same = next.same;
  line = next.line;
  within = next.within;
  falls = omega (arith, first.falls, next.falls);
  same_faults = next.same_faults ∙ first.same_faults;
}

pub gathers_stops : (a b c : Gathered) (error : FieldError) → Gathers a b → Stops b c error → Stops a c error
gathers_stops a b c Memory first next = gathers_trans a b c first next
gathers_stops a b c ReadFault first next = record {
  text = first.text ++ next.text;
  reads = reads_trans a.reader b.reader c.reader first.text next.text first.reads next.reads;
  same = λ more. two_parts a b first.text next.text more first.same ∙ next.same more;
  falls = omega (arith, first.falls, next.falls);
  rose = subst (λ n. Rose n c.reader.faults) first.same_faults next.rose;
  fits = next.fits;
}
gathers_stops a b c TooMuch first next = record {
  text = first.text ++ next.text;
  reads = reads_trans a.reader b.reader c.reader first.text next.text first.reads next.reads;
  falls = omega (arith, first.falls, next.falls);
  same_faults = next.same_faults ∙ first.same_faults;
  passed = next.passed;
}
gathers_stops a b c TooLong first next = record {
  text = first.text ++ next.text;
  reads = reads_trans a.reader b.reader c.reader first.text next.text first.reads next.reads;
  long = λ more. subst BeginsTooLong (sym (two_parts a b first.text next.text more first.same)) (next.long more);
  falls = omega (arith, first.falls, next.falls);
  same_faults = next.same_faults ∙ first.same_faults;
}

abbrev at : ReaderStanding → List ℕ → List ℕ → List ℕ → Gathered
at r field line waiting = record { reader = r; field = field; line = line; waiting = waiting }

read_behind : (f l w given more : List ℕ) → w ≡ [] → (f ++ (l ++ w)) ++ (given ++ more) ≡ (f ++ (l ++ given)) ++ more
read_behind f l w given more none =
    ap (λ m. (f ++ (l ++ m)) ++ (given ++ more)) none ∙ ap (λ m. (f ++ m) ++ (given ++ more)) (append-nil l) ∙ append_assoc f l (given ++ more)
    ∙ ap (λ m. f ++ m) (sym (append_assoc l given more)) ∙ sym (append_assoc f (l ++ given) more)

-- a piece was read
pub fill_read : (r r' : ReaderStanding) (f l w given : List ℕ) → w ≡ [] → GoesOn r r' given → IsDrained r' → 0 < length given
    → Gathers (at r f l w) (at r' f l given) × (turns (at r' f l given) < turns (at r f l w))
fill_read r r' f l w given none goes drained some = (
  record {
    text = given;
    reads = reads_moved r r' given goes.moves drained;
    same = λ more. ap fields (read_behind (as_line f) l w given more none);
    falls = omega (arith, goes.moves.falls);
    same_faults = goes.same_faults;
  },
  omega (arith, goes.moves.falls, some, ap length none),
)

-- the end was read
pub fill_end : (r r' : ReaderStanding) (f l w : List ℕ) → w ≡ [] → GoesOn r r' [] → IsDrained r' → HasGivenText r' → goes_with f l ≡ true → has_lf f ≡ false → has_lf l ≡ false
    → length f + length (without_last_cr l) ≤ LONGEST → Finds (at r f l w) (at r' (f ++ without_last_cr l) [] [])
fill_end r r' f l w none goes drained given with no_field no_line few =
    let field : List ℕ = f ++ without_last_cr l in
    record {
      text = [];
      reads = reads_moved r r' [] goes.moves drained;
      found = λ more may.
          ap (λ m. fields ((as_line f ++ (l ++ w)) ++ m)) (none_comes r' more given may)
          ∙ ap fields (append-nil (as_line f ++ (l ++ w)))
          ∙ ap (λ m. fields (as_line f ++ (l ++ m))) none
          ∙ line_last f l with no_field no_line
          ∙ ap (λ m. field_then (f ++ without_last_cr l) (fields m)) (sym (none_comes r' more given may));
      same = λ more may some.
          ap (λ m. field_then (f ++ without_last_cr l) (fields m)) (none_comes r' more given may)
          ∙ sym (field_last (f ++ without_last_cr l) (has_lf-append f (without_last_cr l) no_field (no_lf-without l no_line)))
          ∙ sym (ap (λ m. fields ((as_line (f ++ without_last_cr l) ++ []) ++ m)) (none_comes r' more given may) ∙ ap fields (append-nil (as_line (f ++ without_last_cr l) ++ [])));
      line = refl;
      within = omega (arith, few, length-append f (without_last_cr l));
      falls = omega (arith, goes.moves.falls, length-append f (without_last_cr l), length-without_last_cr l);
      same_faults = goes.same_faults;
    }

-- a read of the source failed
pub fill_fault : (r r' : ReaderStanding) (f l w : List ℕ) → w ≡ [] → Faults r r' → IsDrained r' → goes_with f l ≡ true → has_lf f ≡ false → has_lf l ≡ false
    → length f + length (without_last_cr l) ≤ LONGEST → Fails (at r f l w) (at r' f l [])
fill_fault r r' f l w none faults drained with no_field no_line few = record {
  text = [];
  reads = reads_moved r r' [] faults.moves drained;
  same = λ more. ap (λ m. fields ((as_line f ++ (l ++ m)) ++ more)) none;
  falls = omega (arith, faults.moves.falls);
  rose = faults.rose;
  fits = fits_so_far f l with no_field no_line few;
}

-- the source gave too much
pub fill_limit : (r r' : ReaderStanding) (f l w : List ℕ) → w ≡ [] → Passes r r' → IsDrained r' → PassesLimit (at r f l w) (at r' f l [])
fill_limit r r' f l w none passes drained = record {
  text = passes.lost;
  reads = reads_moved r r' passes.lost passes.moves drained;
  falls = omega (arith, passes.moves.falls);
  same_faults = passes.same_faults;
  passed = passes.passed;
}

-- a field is whole where the next line doesn't go on with it
pub step_whole : (r : ReaderStanding) (f l w : List ℕ) → l ≡ [] → 0 < length f → 0 < length w → begins_wsp w ≡ false → has_lf f ≡ false → length f ≤ LONGEST
    → Finds (at r f l w) (at r f l w)
step_whole r f l w none some waits e no_field few =
    let whole : (more : List ℕ) → fields ((as_line f ++ (l ++ w)) ++ more) ≡ field_then f (fields (w ++ more)) =
    λ more. ap (λ m. fields ((as_line f ++ (m ++ w)) ++ more)) none ∙ ap fields (append_assoc (as_line f) w more) ∙ field_whole f w more no_field some waits e in
    record {
      text = [];
      reads = reads_none r;
      found = λ more may. whole more;
      same = λ more may some. sym (whole more);
      line = none;
      within = few;
      falls = omega arith;
      same_faults = refl;
    }

-- waiting bytes without an LF were moved to the line
pub line_grows : (r : ReaderStanding) (f l w : List ℕ) (n : ℕ) → 0 < length w → drop n w ≡ [] → Gathers (at r f l w) (at r f (l ++ take n w) (drop n w)) × (turns (at r f (l ++ take n w) (drop n w)) < turns (at r f l w))
line_grows r f l w n some all = (
  record {
    text = [];
    reads = reads_none r;
    same = λ more. ap (λ m. fields ((as_line f ++ m) ++ more)) (sym (append_assoc l (take n w) (drop n w) ∙ ap (λ m. l ++ m) (take-append-drop n w)));
    falls = omega (arith, length-append l (take n w), ap length (take-append-drop n w), length-append (take n w) (drop n w));
    same_faults = refl;
  },
  omega (arith, some, ap length all),
)

-- a line that an LF ends
pub line_ends : (r : ReaderStanding) (f l w rest : List ℕ) (n : ℕ) (empty : Bool) → drop n w ≡ 10 ∷ rest → goes_with f (l ++ take n w) ≡ true → has_lf f ≡ false → has_lf (l ++ take n w) ≡ false
    → (0 < length f → 0 < length (l ++ take n w)) → length f + length (without_last_cr (l ++ take n w)) ≤ LONGEST
    → (empty ≡ true → f ++ without_last_cr (l ++ take n w) ≡ []) → (empty ≡ false → 0 < length (f ++ without_last_cr (l ++ take n w)))
    → Steps (at r f l w) (at r (f ++ without_last_cr (l ++ take n w)) [] rest) (Ok empty)
line_ends r f l w rest n empty lf with no_field no_line some few is_empty is_some = by_cases empty is_empty is_some
  where
    line : List ℕ
    line = l ++ take n w

    ended : (more : List ℕ) → fields ((as_line f ++ (l ++ w)) ++ more) ≡ begun (f ++ without_last_cr (l ++ take n w)) (rest ++ more)
    ended more =
        ap fields (append_assoc (as_line f) (l ++ w) more
        ∙ ap (λ m. as_line f ++ m) (append_assoc l w more
        ∙ ap (λ m. l ++ (m ++ more)) (sym (take-append-drop n w))
        ∙ ap (λ m. l ++ m) (append_assoc (take n w) (drop n w) more)
        ∙ sym (append_assoc l (take n w) (drop n w ++ more))
        ∙ ap (λ m. (l ++ take n w) ++ (m ++ more)) lf))
        ∙ line_ended f (l ++ take n w) (rest ++ more) with no_field no_line some

    shorter : length (f ++ without_last_cr (l ++ take n w)) + length rest < length f + (length l + length w)
    shorter = omega (arith, length-append f (without_last_cr (l ++ take n w)), length-without_last_cr (l ++ take n w), length-append l (take n w), ap length (take-append-drop n w), length-append (take n w) (drop n w), ap length lf)

    by_cases : (t : Bool) → (t ≡ true → f ++ without_last_cr (l ++ take n w) ≡ []) → (t ≡ false → 0 < length (f ++ without_last_cr (l ++ take n w)))
        → Steps (at r f l w) (at r (f ++ without_last_cr (l ++ take n w)) [] rest) (Ok t)
    by_cases true none more_than = record {
      text = [];
      reads = reads_none r;
      found = λ more may. ended more ∙ ap (λ m. begun m (rest ++ more)) (none refl) ∙ sym (ap (λ m. field_then m (fields (rest ++ more))) (none refl));
      same = λ more may some_field. absurd (omega (arith, some_field, ap length (none refl)));
      line = refl;
      within = omega (arith, ap length (none refl));
      falls = omega (arith, shorter);
      same_faults = refl;
    }
    by_cases false none more_than = (
      record {
        text = [];
        reads = reads_none r;
        same = λ more. ended more ∙ begun_field (f ++ without_last_cr (l ++ take n w)) (rest ++ more) (has_lf-append f (without_last_cr (l ++ take n w)) no_field (no_lf-without (l ++ take n w) no_line)) (more_than refl)
            ∙ ap fields (sym (append_assoc (as_line (f ++ without_last_cr (l ++ take n w))) rest more));
        falls = omega (arith, shorter);
        same_faults = refl;
      },
      omega (arith, ap length (take-append-drop n w), length-append (take n w) (drop n w), ap length lf),
    )

-- the next field is too long
pub line_too_long : (r : ReaderStanding) (f l w : List ℕ) (n : ℕ) → goes_with f (l ++ take n w) ≡ true → has_lf f ≡ false → has_lf (l ++ take n w) ≡ false → length f ≤ LONGEST
    → LONGEST < length f + length (without_last_cr (l ++ take n w)) → FindsTooLong (at r f l w) (at r [] [] (drop n w))
line_too_long r f l w n with no_field no_line few long = record {
  text = [];
  reads = reads_none r;
  long = λ more.
      subst (λ m. BeginsTooLong (fields m))
      (sym (append_assoc (as_line f) (l ++ w) more
      ∙ ap (λ m. as_line f ++ m) (append_assoc l w more
      ∙ ap (λ m. l ++ (m ++ more)) (sym (take-append-drop n w))
      ∙ ap (λ m. l ++ m) (append_assoc (take n w) (drop n w) more)
      ∙ sym (append_assoc l (take n w) (drop n w ++ more)))))
      (field_too_long f (l ++ take n w) (drop n w ++ more) with no_field no_line few long);
  falls = omega (arith, ap length (take-append-drop n w), length-append (take n w) (drop n w));
  same_faults = refl;
}

never_read : (ReadFault ≡ Memory) ⊎ (ReadFault ≡ TooLong) → ⊥
never_read (inl e) = cc
never_read (inr e) = cc

never_much : (TooMuch ≡ Memory) ⊎ (TooMuch ≡ TooLong) → ⊥
never_much (inl e) = cc
never_much (inr e) = cc

-- bytes weren't moved to the line
pub hold_stops : (r : ReaderStanding) (f l w : List ℕ) (n : ℕ) (b : Gathered) (error : FieldError) → goes_with f (l ++ take n w) ≡ true → has_lf f ≡ false → has_lf (l ++ take n w) ≡ false → length f ≤ LONGEST
    → (error ≡ Memory → b ≡ at r f l w) → (error ≡ TooLong → (b ≡ at r [] [] (drop n w)) × (LONGEST < length f + length (without_last_cr (l ++ take n w)))) → (error ≡ Memory) ⊎ (error ≡ TooLong)
    → Stops (at r f l w) b error
hold_stops r f l w n b Memory with no_field no_line few memory long errors = subst (Gathers (at r f l w)) (sym (memory refl)) (gathers_none (at r f l w))
hold_stops r f l w n b ReadFault with no_field no_line few memory long errors = absurd (never_read errors)
hold_stops r f l w n b TooMuch with no_field no_line few memory long errors = absurd (never_much errors)
hold_stops r f l w n b TooLong with no_field no_line few memory long errors =
    subst (FindsTooLong (at r f l w)) (sym (long refl).0) (line_too_long r f l w n with no_field no_line few (long refl).1)

pub lf_front : (w rest : List ℕ) → w ≡ 10 ∷ rest → w ≡ 10 ∷ drop 1 w
lf_front w rest e = e ∙ ap (λ l. 10 ∷ l) (sym (ap (drop 1) e))

-- what stands where an LF was passed and its line ended
pub after_line : (r : ReaderStanding) (f l w : List ℕ) (held b : Gathered) → held ≡ at r f l w → b ≡ at held.reader (held.field ++ without_last_cr held.line) [] (drop 1 held.waiting) → b ≡ at r (f ++ without_last_cr l) [] (drop 1 w)
after_line r f l w held b is then = then ∙ ap (λ (h : Gathered). at h.reader (h.field ++ without_last_cr h.line) [] (drop 1 h.waiting)) is

pub same_waiting : (r : ReaderStanding) (f l w w' : List ℕ) → w ≡ w' → at r f l w ≡ at r f l w'
same_waiting r f l w w' e = ap (at r f l) e
