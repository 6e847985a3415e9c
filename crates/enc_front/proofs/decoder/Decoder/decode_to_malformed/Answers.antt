use Rattle.std.proofs.Common.{◌≡◌, ◌-◌, length, take, drop, length-drop, ap, sym, refl, ◌∙◌, arith}
use Rattle.std.proofs.Common.{true, ◌&&◌, ℕ, ◌≤◌, inl, inr}
use Rattle.std.proofs.Math.Nat.{eq-or-lt_of_le}
use Rattle.std.proofs.lemmas.List.{take_rest}
use Rattle.enc_front.specs.DecoderCalls.{is_input_empty}
use Rattle.enc_front.specs.Lemmas.Held.{few_held}
use Rattle.enc_front.specs.Output.{utf_8}
use Rattle.enc_front.proofs.AheadLemmas.{needs_behind, needs_fewer}
use Rattle.enc_front.proofs.CallLemmas.{none_written, resumes_more}
use Rattle.enc_front.proofs.OutputLemmas.{values_within, values_full, values_kept}
use Rattle.enc_front.proofs.StartLemmas.{may_hold_start, all_read, not_last}
use Rattle.enc_front.proofs.decoder.Decoder.decode_to_malformed.Goals as goal
use Rattle.enc_front.proofs.decoder.Decoder.decode_to_malformed.Goals.{then-last, else-last}

some_or_none : (n : ℕ) → 0 ≤ n
some_or_none n = omega arith

pub returns-in_default : goal.returns-in_default
returns-in_default g c =
    let look = c.look_for_mark-read.ensures in
    let start = c.look_for_mark-read.new.self.start in
    let more = not_last start c.args.last c.in_default.not-Over look.ended in
    let may = may_hold_start _ _ c.args.last start _ _ c.in_default.not-Over more in
    record {
      resumes = none_written _ _ _ _ _ look.resumes;
      read = look.read;
      written = omega arith;
      len = refl;
      few = may.few;
      short = omega (arith, look.held);
      input_empty = λ e. (all_read start _ _ c.in_default.not-Over look.read look.refused, may);
      output_full = λ e. cc e;
      pending = λ e. cc e;
      malformed = λ n k e. cc e;
      read_ahead = λ some held. needs_fewer (look.read_ahead some held) refl (omega arith);
      end = look.same_end.same_finished ∙ (c.requires.unfinished ∙ sym (ap (λ b. b && true) more));
      nothing_owed = look.same_end.same_owes ∙ c.requires.nothing_owed;
    }

pub returns : goal.returns
returns g c =
    let look = c.look_for_mark-read.ensures in
    let call = c.convert-result.ensures in
    let src = c.args.src.now in
    let read = c.look_for_mark-read.result in
    let rest : take (length src - read) (drop read src) ≡ drop read src = take_rest src read in
    let length_rest : length (take (length src - read) (drop read src))
    ≡ length src - read = ap length rest ∙ length-drop read src in
    record {
      resumes = resumes_more _ _ _ _ _ _ _ _ _ _ _ _ _ (none_written _ _ _ _ _ look.resumes)
          (rw rest at call.resumes) refl refl refl;
      read = omega (arith, look.read, call.read, length_rest);
      written = values_within _ g.met.E.Element.values_length _ _ call.written;
      len = values_kept _ g.met.E.Element.values_length _ _ call.len;
      few = few_held c.convert-result.new.self;
      short = omega (arith, look.held, call.short);
      input_empty = λ e. let all = call.input_empty e in
          (omega (arith, look.read, all.0, length_rest), all.1);
      output_full = λ e. values_full _ g.met.E.Element.values_length _ _ _ (call.output_full e);
      pending = λ e. let some = call.pending e in
          omega (arith, some, look.read, call.read, length_rest);
      malformed = call.malformed;
      read_ahead = λ some held. elim (eq-or-lt_of_le (some_or_none c.convert-result.result.1)) [
        | inl none ↦ needs_fewer
            (look.read_ahead (omega (arith, some, none)) (omega (arith, held, call.behind, none)))
            (omega (arith, none)) (omega (arith, call.behind, none))
        | inr more ↦ needs_behind {output = utf_8} (none_written _ _ _ _ _ look.resumes) more refl
            (rw rest at call.read_ahead more held)
      ];
      end = elim c.if-last.branch [
        | then-last w ↦ w.self-is
            ∙ (w.is_input_empty-self.ensures
            ∙ ap (λ b. b && is_input_empty c.convert-result.result.0) (sym w.if-last.true))
        | else-last w ↦ w.self-is
            ∙ (w.if-last.false ∙ ap (λ b. b && is_input_empty c.convert-result.result.0)
            (sym w.if-last.false))
      ];
      nothing_owed = call.same_end.same_owes ∙ (look.same_end.same_owes ∙ c.requires.nothing_owed);
    }
