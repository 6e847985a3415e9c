use Rattle.std.proofs.Common.{◌≡◌, Bool, false, [], length, take, ap, sym, refl, subst, ◌∙◌, arith}
use Rattle.std.proofs.Common.{rules}
use Rattle.std.proofs.lemmas.Bool.{true≢false}
use Rattle.std.specs.Prelude.{if◌then◌else◌}
use Rattle.enc_drivers.specs.Resume.{malformed_of}
use Rattle.enc_front.specs.DecoderSteps.{tells_malformed}
use Rattle.enc_front.specs.DecoderCalls.{Replaces, DecoderResumesWriting, owed_count}
use Rattle.enc_front.specs.DecoderView.{standing_of}
use Rattle.enc_front.specs.Decoder.{DecoderStanding}
use Rattle.enc_front.proofs.OutputLemmas.{elements_within, elements_full, replacement_fits}
use Rattle.enc_front.proofs.OutputLemmas.{values_more}
use Rattle.enc_front.proofs.ReplaceLemmas.{replaces_nothing, replaces_turn, told_length, and_false}
use Rattle.enc_front.proofs.decoder.Decoder.turn.Goals as goal

pub returns-in_default : goal.returns-in_default
returns-in_default g c =
    let full = c.in_default.ensures.full refl in
    let same = full.2 in
    let held = ap (λ (s : DecoderStanding). length s.place.held) same in
    let count = ap owed_count same in
    record {
      replaces = subst (λ (s : DecoderStanding). Replaces g.E.Element.output c.args.last
          (standing_of c.args.self.now) s c.args.src.now 0 [] false) (sym same)
          (replaces_nothing c.args.last (standing_of c.args.self.now) c.args.src.now);
      read = omega arith;
      written = omega arith;
      len = c.in_default.ensures.len;
      short = omega (arith, held, count);
      input_empty = λ e. cc e;
      output_full = λ e. omega (arith, full.0, replacement_fits g.E.Element.output);
      pending = λ e. let one : owed_count (standing_of c.args.self.now)
          ≡ 1 = ap (λ (t : Bool). if t then 1 else 0) full.1 in omega (arith, one, count);
      no_room = λ e o. omega (arith, full.0);
      used = λ n k e. cc e;
      end = ap (λ (s : DecoderStanding). s.finished) same ∙ (c.requires ∙ and_false c.args.last);
    }

pub returns : goal.returns
returns g c =
    let paid = c.in-Some.ensures in
    let call = c.decode_to_malformed-result.ensures in
    let tells = c.decode_to_malformed-result.result.0 in
    let after = standing_of c.decode_to_malformed-result.new.self in
    let held = ap (λ (s : DecoderStanding). length s.place.held) paid.standing in
    let resumes = subst (λ (s : DecoderStanding). DecoderResumesWriting g.E.Element.output
    c.args.last s.place after.place c.args.src.now c.decode_to_malformed-result.result.1
    (take c.decode_to_malformed-result.result.2
    (g.E.Element.values c.decode_to_malformed-result.new.dst)) (malformed_of tells))
    paid.standing call.resumes in
    let told = c.tells_malformed-self.ensures in
    let owes = told_length tells ∙ ap (λ (t : Bool). if t then 1 else 0) (sym told) in
    record {
      replaces = replaces_turn _ (standing_of c.args.self.now) after _ _ _ _ _ _ _ resumes paid.text
          (values_more _ g.met.E.Element.values_take g.met.E.Element.values_append _ _ _ _
          paid.within (omega (
            arith,
            call.written,
            g.met.E.Element.values_length c.decode_to_malformed-result.new.dst,
          ))) told;
      read = call.read;
      written = let within = elements_within _ g.met.E.Element.values_length _ _ call.written in
          search rules;
      len = search rules;
      short = omega (arith, held, owes, call.short, paid.count);
      input_empty = λ e. let all = call.input_empty e in
          (all.0, told ∙ ap tells_malformed e, all.1);
      output_full = λ e. let full = elements_full _ g.met.E.Element.values_length _ _ _
          (call.output_full e) in search rules;
      pending = λ e. let some = call.pending e in omega (arith, some);
      no_room = λ e o. absurd (true≢false (sym o ∙ (told ∙ ap tells_malformed e)));
      used = λ n k e. let one = ap (λ r. length (malformed_of r)) e in
          omega (arith, held, call.short, one);
      end = call.end;
    }
