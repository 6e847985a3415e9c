use Rattle.std.proofs.Common.{◌≡◌, ◌<◌, ◌+◌, length, length-drop, ap, refl, ◌∙◌, arith}
use Rattle.std.proofs.lemmas.List.{length-take-le}
use Rattle.std.proofs.lemmas.List.Elements.{All-from_get_or}
use Rattle.enc_drivers.specs.Units.{AreBytes}
use Rattle.enc_front.specs.Variant.{standing_in}
use Rattle.enc_front.proofs.UnitLaws.{decoder_code}
use Rattle.enc_front.proofs.AheadLemmas.{needs_at, needs_behind, needs_fewer}
use Rattle.enc_front.proofs.CallLemmas.{bytes_held, bytes_behind, short_written, converted_at}
use Rattle.enc_front.proofs.CallLemmas.{resumes_more, resumes_before, held_length}
use Rattle.enc_front.proofs.OutputLemmas.{values_more}
use Rattle.enc_front.proofs.decoder.Decoder.convert.Goals as goal

pub returns-in_default : goal.returns-in_default
returns-in_default g c =
    let call = c.give_replay-result.ensures in
    let are : AreBytes c.args.src.now = All-from_get_or (λ b. b < 256) c.args.src.now 0
    (λ i h. omega (arith, c.type_inv.src i)) in
    record {
      resumes = resumes_before _ _ _ _ _ _ are call.resumes;
      read = omega arith;
      written = call.written;
      len = call.len;
      short = omega (arith, call.short);
      behind = omega (arith, call.behind);
      read_ahead = λ some. absurd (omega (arith, some));
      input_empty = λ e. absurd (c.in_default.not-InputEmpty e);
      output_full = call.output_full;
      pending = λ e. let some = call.pending e in omega arith;
      malformed = call.malformed;
      same_end = call.same_end;
    }

pub invariant_of-self : goal.invariant_of-self
invariant_of-self g c =
    let call = c.decode_raw-result.ensures in
    let are : AreBytes c.args.src.now = All-from_get_or (λ b. b < 256) c.args.src.now 0
    (λ i h. omega (arith, c.type_inv.src i)) in
    let none = c.give_replay-result.ensures.all c.in-InputEmpty.is in
    record {
      same_code = call.same_code ∙ c.give_replay-result.new.self.same_code;
      waits = λ wrong. absurd (wrong c.give_replay-result.ensures.started);
      few = omega (arith, call.few, ap length none);
      bytes = bytes_held _ _ _ _ _ _ c.give_replay-result.new.self.bytes are call.read _ _
          call.resumes.resumes;
      replay_bytes = c.give_replay-result.new.self.replay_bytes;
    }

pub returns-clause-resumes : goal.returns-clause-resumes
returns-clause-resumes g c =
    let first = c.give_replay-result.ensures in
    let call = c.decode_raw-result.ensures in
    let are : AreBytes c.args.src.now = All-from_get_or (λ b. b < 256) c.args.src.now 0
    (λ i h. omega (arith, c.type_inv.src i)) in
    let none = first.all c.in-InputEmpty.is in
    let count : c.decode_raw-result.result.1 ≡ 0 + c.decode_raw-result.result.1 = omega arith in
    resumes_more _ _ _ _ _ _ _ _ _ _ _ _ _
    (resumes_before _ _ _ _ _ _ are (rw c.in-InputEmpty.is at first.resumes))
    (converted_at _ _ _ _ _ _ _ _ _ _ _ _ _ first.started c.give_replay-result.new.self.same_code
    none call.resumes)
    count
    (values_more _ g.met.E.Element.values_take g.met.E.Element.values_append _ _ _ _ first.written
    (omega (arith, call.written, g.met.E.Element.values_length c.decode_raw-result.new.dst)))
    refl

pub returns-clause-short : goal.returns-clause-short
returns-clause-short g c =
    let first = c.give_replay-result.ensures in
    let call = c.decode_raw-result.ensures in
    let replay = c.give_replay-result.new.self.replay.now in
    let start = c.give_replay-result.new.self.start in
    let are : AreBytes c.args.src.now = All-from_get_or (λ b. b < 256) c.args.src.now 0
    (λ i h. omega (arith, c.type_inv.src i)) in
    let short = short_written _ _ _ _ _ _ c.give_replay-result.new.self.bytes are call.read
    g.E.Element.output (decoder_code c.give_replay-result.new.self) _ _ call.resumes in
    omega (
      arith,
      short,
      first.short,
      length-take-le c.decode_raw-result.result.2 (g.E.Element.values c.decode_raw-result.new.dst)
          call.written,
      held_length start (standing_in c.give_replay-result.new.self.variant).held replay
          first.started,
      held_length start (standing_in c.decode_raw-result.new.variant).held replay first.started,
      ap length (first.all c.in-InputEmpty.is),
    )

pub returns-clause-behind : goal.returns-clause-behind
returns-clause-behind g c =
    let first = c.give_replay-result.ensures in
    let call = c.decode_raw-result.ensures in
    let replay = c.give_replay-result.new.self.replay.now in
    let start = c.give_replay-result.new.self.start in
    let are : AreBytes c.args.src.now = All-from_get_or (λ b. b < 256) c.args.src.now 0
    (λ i h. omega (arith, c.type_inv.src i)) in
    omega (
      arith,
      first.behind,
      bytes_behind _ _ _ _ _ _ c.give_replay-result.new.self.bytes are call.read
          (decoder_code c.give_replay-result.new.self) call.resumes,
      held_length start (standing_in c.give_replay-result.new.self.variant).held replay
          first.started,
      held_length start (standing_in c.decode_raw-result.new.variant).held replay first.started,
      ap length (first.all c.in-InputEmpty.is),
    )

pub returns-clause-read_ahead : goal.returns-clause-read_ahead
returns-clause-read_ahead g c some held =
    let first = c.give_replay-result.ensures in
    let call = c.decode_raw-result.ensures in
    let none = first.all c.in-InputEmpty.is in
    let are : AreBytes c.args.src.now = All-from_get_or (λ b. b < 256) c.args.src.now 0
    (λ i h. omega (arith, c.type_inv.src i)) in
    let same = held_length c.give_replay-result.new.self.start
    (standing_in c.decode_raw-result.new.variant).held c.give_replay-result.new.self.replay.now
    first.started in
    needs_behind
    (resumes_before _ _ _ _ _ _ are (rw c.in-InputEmpty.is at first.resumes))
    some
    (omega arith)
    (needs_fewer (needs_at first.started c.give_replay-result.new.self.same_code none
    (call.read_ahead some (omega (arith, held, same, ap length none)))) refl
    (omega (arith, same, ap length none)))

pub returns-clause-pending : goal.returns-clause-pending
returns-clause-pending g c e =
    let first = c.give_replay-result.ensures in
    let call = c.decode_raw-result.ensures in
    let some = call.pending e in
    let rest = length-drop c.decode_raw-result.result.1 c.args.src.now in
    omega (
      arith,
      some,
      rest,
      held_length c.give_replay-result.new.self.start
          (standing_in c.decode_raw-result.new.variant).held
          c.give_replay-result.new.self.replay.now first.started,
    )
