-- What the calls of a header block do.
use Rattle.std.proofs.Common.{◌≡◌, ℕ, ◌<◌, true, Option, Some, None, List, [], ◌∷◌, ◌++◌, Result, Ok, Err, length, IfNone, refl, sym, subst, ap, ◌∙◌, arith}
use Rattle.enc_drivers.specs.Units.{AreBytes}
use Rattle.enc_io.specs.Reader.{ReaderStanding, still, has_seen_end}
use Rattle.header_block.specs.declared.block.BlockError.{BlockError}
use Rattle.header_block.specs.declared.block.BlockError.TheVariants as answer
use Rattle.header_block.specs.declared.block.Field.{Field}
use Rattle.header_block.specs.declared.block.Stop.{Stop}
use Rattle.header_block.specs.declared.field_reader.FieldError.{FieldError}
use Rattle.header_block.specs.declared.field_reader.FieldError.TheVariants as error
use Rattle.header_block.specs.Block.{block_still, fields_unless}
use Rattle.header_block.specs.BlockCalls.{Does, Passes}
use Rattle.header_block.specs.Fields.{fields, BeginsTooLong}
use Rattle.header_block.specs.Gathering.{Finds, Gathered, Stops, kept_text}
use Rattle.header_block.specs.Kept.{field_then}
use Rattle.header_block.specs.Parts.{is_good}
use Rattle.header_block.specs.Reads.{Reads, MayCome}
use Rattle.header_block.specs.Showing.{BlockState, ShowsNext, error_answer, passed_by, standing_by, stopped_by}

good_some : (field : List ℕ) → is_good field ≡ true → 0 < length field
good_some [] e = cc
good_some (b ∷ field) e = omega arith

then_some : (field : List ℕ) (later : List (List ℕ)) → 0 < length field → field_then field later ≡ field ∷ later
then_some [] later some = absurd (omega arith)
then_some (b ∷ field) later some = refl

-- the fields that are still to come of a block that doesn't stand still
still_on : (s : BlockState) (rest : List ℕ) → s.stopped ≡ None → block_still (standing_by s) rest ≡ fields (kept_text s.at ++ still s.at.reader rest)
still_on s rest none = ap (λ o. fields_unless o (kept_text s.at ++ still s.at.reader rest)) none

-- and in terms of the text that was read
still_read : (s : BlockState) (r : ReaderStanding) (text rest : List ℕ) (reads : Reads s.at.reader r text) → s.stopped ≡ None → AreBytes rest → (has_seen_end r ≡ true → rest ≡ [])
    → block_still (standing_by s) (reads.moved ++ rest) ≡ fields (kept_text s.at ++ (text ++ still r rest))
still_read s r text rest reads none are end = still_on s (reads.moved ++ rest) none ∙ ap (λ l. fields (kept_text s.at ++ l)) (reads.equation rest are end)

may_come : (r : ReaderStanding) (rest : List ℕ) → AreBytes rest → (has_seen_end r ≡ true → rest ≡ []) → MayCome r (still r rest)
may_come r rest are end = record { rest = rest; bytes = are; end = end; is = refl }

abbrev with_at : BlockState → Gathered → BlockState
with_at s g = record { at = g; passed = s.passed; stopped = s.stopped; strategy = s.strategy; indexes = s.indexes }

abbrev with_stop : BlockState → Gathered → Option Stop → BlockState
with_stop s g o = record { at = g; passed = s.passed; stopped = o; strategy = s.strategy; indexes = s.indexes }

-- the field that was found is passed
passes : (s : BlockState) (g : Gathered) → s.stopped ≡ None → Finds s.at g → is_good g.field ≡ true → Passes (standing_by s) (standing_by (passed_by (with_at s g))) g.field
passes s g none finds good =
    let some : 0 < length g.field = good_some g.field good in
    record {
      goes = record {
        text = finds.text;
        reads = finds.reads;
        falls = omega (arith, finds.falls);
        same_strategy = refl;
        same_indexes = refl;
      };
      equation = λ rest are end.
          still_read s g.reader finds.text rest finds.reads none are end
          ∙ finds.found (still g.reader rest) (may_come g.reader rest are end)
          ∙ then_some g.field (fields (g.waiting ++ still g.reader rest)) some
          ∙ ap (λ l. g.field ∷ fields ((l ++ g.waiting) ++ still g.reader rest)) (sym finds.line)
          ∙ ap (λ o. g.field ∷ fields_unless o ((g.line ++ g.waiting) ++ still g.reader rest)) (sym none);
      good = good;
      within = finds.within;
      counted = refl;
      falls = omega (arith, finds.falls, some);
      same_stopped = refl;
    }

-- a field was found, and is shown
pub finds_shown : (s : BlockState) (g : Gathered) (c : BlockState) (result : Result (Option Field) BlockError) → s.stopped ≡ None → Finds s.at g → ShowsNext (with_at s g) c result
    → Does (standing_by s) (standing_by c) result
finds_shown s g c (Ok (Some field)) none finds shown =
    subst (λ (x : BlockState). Does (standing_by s) (standing_by x) (Ok (Some field))) (sym shown.0) (
      record { field = g.field; passes = passes s g none finds shown.1.0; name = shown.1.1; text = shown.1.2 },
      finds.same_faults,
    )
finds_shown s g c (Ok None) none finds shown =
    subst (λ (x : BlockState). Does (standing_by s) (standing_by x) (Ok None)) (sym shown.0) (
      record {
        goes = record { text = finds.text; reads = finds.reads; falls = finds.falls; same_strategy = refl; same_indexes = refl };
        equation = λ rest are end.
            still_read s g.reader finds.text rest finds.reads none are end
            ∙ finds.found (still g.reader rest) (may_come g.reader rest are end)
            ∙ ap (λ f. field_then f (fields (g.waiting ++ still g.reader rest))) shown.1;
        same_passed = refl;
        stopped = refl;
      },
      finds.same_faults,
    )
finds_shown s g c (Err answer.Memory) none finds shown =
    subst (λ (x : BlockState). Does (standing_by s) (standing_by x) (Err answer.Memory)) (sym shown.0) (
      record {
        goes = record { text = finds.text; reads = finds.reads; falls = finds.falls; same_strategy = refl; same_indexes = refl };
        equation = λ rest are end.
            still_read s g.reader finds.text rest finds.reads none are end
            ∙ finds.found (still g.reader rest) (may_come g.reader rest are end)
            ∙ finds.same (still g.reader rest) (may_come g.reader rest are end) shown.1
            ∙ sym (still_on (with_at s g) rest none);
        same_passed = refl;
        same_stopped = refl;
      },
      finds.same_faults,
    )
finds_shown s g c (Err answer.ReadFault) none finds shown = absurd shown
finds_shown s g c (Err answer.TooMuch) none finds shown = absurd shown
finds_shown s g c (Err (answer.TooLong n)) none finds shown = absurd shown
finds_shown s g c (Err (answer.NotAField n)) none finds shown =
    subst (λ (x : BlockState). Does (standing_by s) (standing_by x) (Err (answer.NotAField n))) (sym shown.0) (
      record {
        goes = record { text = finds.text; reads = finds.reads; falls = finds.falls; same_strategy = refl; same_indexes = refl };
        field = g.field;
        equation = λ rest are end. (
          fields (g.waiting ++ still g.reader rest),
          still_read s g.reader finds.text rest finds.reads none are end
              ∙ finds.found (still g.reader rest) (may_come g.reader rest are end)
              ∙ then_some g.field (fields (g.waiting ++ still g.reader rest)) shown.1,
        );
        not_good = shown.2;
        within = finds.within;
        numbered = shown.3;
        same_passed = refl;
        stopped = refl;
      },
      finds.same_faults,
    )
finds_shown s g c (Err (answer.Header n e)) none finds shown =
    subst (λ (x : BlockState). Does (standing_by s) (standing_by x) (Err (answer.Header n e))) (sym shown.0) (
      record { field = g.field; passes = passes s g none finds shown.2; fault = shown.3; numbered = shown.1 },
      finds.same_faults,
    )

-- no field was found
stops_at : (s : BlockState) (g : Gathered) (e : FieldError) → s.stopped ≡ None → Stops s.at g e → Does (standing_by s) (standing_by (with_stop s g (stopped_by e s.stopped))) (Err (error_answer e s.passed))
stops_at s g error.Memory none stops = (
  record {
    goes = record { text = stops.text; reads = stops.reads; falls = stops.falls; same_strategy = refl; same_indexes = refl };
    equation = λ rest are end.
        still_read s g.reader stops.text rest stops.reads none are end
        ∙ stops.same (still g.reader rest)
        ∙ sym (still_on (with_at s g) rest none);
    same_passed = refl;
    same_stopped = refl;
  },
  stops.same_faults,
)
stops_at s g error.ReadFault none stops = (
  record {
    goes = record { text = stops.text; reads = stops.reads; falls = stops.falls; same_strategy = refl; same_indexes = refl };
    equation = λ rest are end.
        still_read s g.reader stops.text rest stops.reads none are end
        ∙ stops.same (still g.reader rest)
        ∙ sym (still_on (with_at s g) rest none);
    same_passed = refl;
    same_stopped = refl;
  },
  stops.rose,
  stops.fits,
)
stops_at s g error.TooMuch none stops = (
  record {
    goes = record { text = stops.text; reads = stops.reads; falls = stops.falls; same_strategy = refl; same_indexes = refl };
    passed_limit = stops.passed;
    same_passed = refl;
    stopped = refl;
  },
  stops.same_faults,
)
stops_at s g error.TooLong none stops = (
  record {
    goes = record { text = stops.text; reads = stops.reads; falls = stops.falls; same_strategy = refl; same_indexes = refl };
    long = stops.long;
    equation = λ rest are end. subst BeginsTooLong (sym (still_read s g.reader stops.text rest stops.reads none are end)) (stops.long (still g.reader rest));
    numbered = refl;
    same_passed = refl;
    stopped = refl;
  },
  stops.same_faults,
)

pub stops_does : (s : BlockState) (g : Gathered) (c : BlockState) (e : FieldError) (result : BlockError) → s.stopped ≡ None → Stops s.at g e → result ≡ error_answer e s.passed
    → c ≡ with_stop s g (stopped_by e s.stopped) → Does (standing_by s) (standing_by c) (Err result)
stops_does s g c e result none stops is then =
    subst (λ (x : BlockState). Does (standing_by s) (standing_by x) (Err result)) (sym then)
    (subst (λ (r : BlockError). Does (standing_by s) (standing_by (with_stop s g (stopped_by e s.stopped))) (Err r)) (sym is) (stops_at s g e none stops))

-- by whether the block stands still
pub if_none : (o : Option Stop) (P : Type 0) → (o ≡ None → P) → IfNone o P
if_none None P h = h refl
if_none (Some x) P h = tt
