use Rattle.std.proofs.Common.{◌+◌, length, length-drop, ap, sym, ◌∙◌, arith, rules}
use Rattle.std.specs.Prelude.{◌&&◌}
use Rattle.std.proofs.lemmas.List.{take_rest}
use Rattle.enc_front.specs.DecoderCalls.{is_input_empty}
use Rattle.enc_front.specs.DecoderView.{standing_of}
use Rattle.enc_front.specs.Lemmas.Held.{few_held}
use Rattle.enc_front.proofs.OutputLemmas.{values_within, values_full, values_kept, values_more}
use Rattle.enc_front.proofs.ReplaceLemmas.{replaces_nothing, replaces_more, replaces_text}
use Rattle.enc_front.proofs.ReplaceLemmas.{and_false, not_full, not_stuck}
use Rattle.enc_front.proofs.decoder.Decoder.decode_replacing.Goals as goal

pub loop-init : goal.loop-init
loop-init g c = record {
  replaces = replaces_nothing _ _ _;
  read = omega arith;
  written = omega arith;
  short = omega arith;
  unfinished = c.requires;
}

pub loop-preserved : goal.loop-preserved
loop-preserved g c =
    let so_far = c.loop.invariant in
    let call = c.turn-result.ensures in
    let rest = ap length (take_rest c.args.src.now c.loop.read)
    ∙ length-drop c.loop.read c.args.src.now in
    record {
      replaces = replaces_more _ _ _ _ _ _ _ _ _ _ _ _ so_far.replaces
          (rw (take_rest c.args.src.now c.loop.read) at call.replaces)
          (values_more _ g.met.E.Element.values_take g.met.E.Element.values_append _ _ _ _
          so_far.written call.written);
      read = omega (arith, so_far.read, call.read, rest);
      written = search rules;
      short = omega (arith, so_far.short, call.short);
      unfinished = call.end
          ∙ (ap (λ r. c.args.last && is_input_empty r) c.in-Malformed.is
          ∙ sym (and_false c.args.last));
    }

pub returns-in-InputEmpty : goal.returns-in-InputEmpty
returns-in-InputEmpty g c =
    let so_far = c.loop.invariant in
    let call = c.turn-result.ensures in
    let rest = ap length (take_rest c.args.src.now c.loop.read)
    ∙ length-drop c.loop.read c.args.src.now in
    let replaces = replaces_more _ _ _ _ _ _ _ _ _ _ _ _ so_far.replaces
    (rw (take_rest c.args.src.now c.loop.read) at call.replaces)
    (values_more _ g.met.E.Element.values_take g.met.E.Element.values_append _ _ _ _ so_far.written
    call.written) in
    record {
      replaces = replaces;
      text = replaces_text _ _ _ _ _ _ _ replaces;
      read = omega (arith, so_far.read, call.read, rest);
      written = values_within _ g.met.E.Element.values_length _ _ (search rules);
      len = values_kept _ g.met.E.Element.values_length _ _ (search rules);
      few = few_held c.turn-result.new.self;
      short = omega (arith, so_far.short, call.short);
      input_empty = λ e. let all = call.input_empty c.in-InputEmpty.is in
          (omega (arith, so_far.read, all.0, rest), all.1, all.2);
      output_full = λ e. cc e;
      enough = λ wide e. cc e;
      pending = λ e. cc e;
      owed = λ o. cc (sym o ∙ (call.input_empty c.in-InputEmpty.is).1);
      goes_on = λ wide none. let all = call.input_empty c.in-InputEmpty.is in
          omega (arith, so_far.read, all.0, rest);
      end = call.end ∙ ap (λ r. c.args.last && is_input_empty r) c.in-InputEmpty.is;
    }

pub returns-in-OutputFull : goal.returns-in-OutputFull
returns-in-OutputFull g c =
    let so_far = c.loop.invariant in
    let call = c.turn-result.ensures in
    let rest = ap length (take_rest c.args.src.now c.loop.read)
    ∙ length-drop c.loop.read c.args.src.now in
    let replaces = replaces_more _ _ _ _ _ _ _ _ _ _ _ _ so_far.replaces
    (rw (take_rest c.args.src.now c.loop.read) at call.replaces)
    (values_more _ g.met.E.Element.values_take g.met.E.Element.values_append _ _ _ _ so_far.written
    call.written) in
    record {
      replaces = replaces;
      text = replaces_text _ _ _ _ _ _ _ replaces;
      read = omega (arith, so_far.read, call.read, rest);
      written = values_within _ g.met.E.Element.values_length _ _ (search rules);
      len = values_kept _ g.met.E.Element.values_length _ _ (search rules);
      few = few_held c.turn-result.new.self;
      short = omega (arith, so_far.short, call.short);
      input_empty = λ e. cc e;
      output_full = λ e. values_full _ g.met.E.Element.values_length _ _ _ (search rules);
      enough = λ wide e. not_full g.E.Element.output (standing_of c.args.self.now)
          (standing_of c.turn-result.new.self) c.args.src.now _
          (c.loop.read + c.turn-result.result.1) (c.loop.written + c.turn-result.result.2)
          wide (few_held c.args.self.now) (omega (arith, so_far.read, call.read, rest))
          (omega (arith, so_far.short, call.short))
          (values_full _ g.met.E.Element.values_length _ _ _ (search rules));
      pending = λ e. let some = call.pending c.in-OutputFull.is in
          omega (arith, so_far.read, call.read, rest, some);
      owed = λ o. values_full _ g.met.E.Element.values_length _ _ _ (search rules);
      goes_on = λ wide none. absurd
          (not_stuck wide none (values_full _ g.met.E.Element.values_length _ _ _ (search rules)));
      end = call.end ∙ ap (λ r. c.args.last && is_input_empty r) c.in-OutputFull.is;
    }
