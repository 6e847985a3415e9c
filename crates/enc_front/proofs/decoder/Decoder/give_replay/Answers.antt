use Rattle.std.proofs.Common.{◌<◌, ◌-◌, length, take, drop, ap, sym, ◌∙◌, arith, length-drop}
use Rattle.std.proofs.lemmas.List.{take_rest, length-take-le}
use Rattle.std.proofs.lemmas.List.Elements.{All-drop}
use Rattle.enc_drivers.specs.Resume.{malformed_of, unit_bytes}
use Rattle.enc_front.specs.Variant.{standing_in}
use Rattle.enc_front.proofs.UnitLaws.{decoder_code}
use Rattle.enc_front.proofs.CallLemmas.{bytes_held, bytes_behind, length_held, short_written}
use Rattle.enc_front.proofs.CallLemmas.{nothing_replayed, replayed_at, same_malformed}
use Rattle.enc_front.proofs.CallLemmas.{with_more_full, held_length}
use Rattle.enc_front.proofs.decoder.Decoder.give_replay.Goals as goal

pub returns-then-is_empty-clause-resumes : goal.returns-then-is_empty-clause-resumes
returns-then-is_empty-clause-resumes g c = nothing_replayed _

pub invariant_of-self : goal.invariant_of-self
invariant_of-self g c =
    let call = c.decode_raw-result.ensures in
    let replay = c.args.self.now.replay.now in
    let n = c.decode_raw-result.result.1 in
    let are = c.args.self.now.replay_bytes in
    record {
      same_code = call.same_code ∙ c.args.self.now.same_code;
      waits = λ wrong. absurd (wrong c.requires);
      few = omega (
        arith,
        length_held _ _ _ _ _ _ c.args.self.now.bytes are call.read _ _
            call.resumes.resumes,
        ap length (take_rest replay n),
        length-drop n replay,
        c.args.self.now.few,
      );
      bytes = bytes_held _ _ _ _ _ _ c.args.self.now.bytes are call.read _ _ call.resumes.resumes;
      replay_bytes = rw (take_rest replay n) (All-drop (λ b. b < 256) n replay are);
    }

pub returns-clause-resumes : goal.returns-clause-resumes
returns-clause-resumes g c =
    let call = c.decode_raw-result.ensures in
    replayed_at _ _ _ _ _ _ _ _ _ _ _ _ _ c.requires c.args.self.now.same_code
    (take_rest c.args.self.now.replay.now c.decode_raw-result.result.1)
    (ap malformed_of c.with_more.ensures ∙ same_malformed _ _) call.resumes

pub returns-clause-short : goal.returns-clause-short
returns-clause-short g c =
    let call = c.decode_raw-result.ensures in
    let replay = c.args.self.now.replay.now in
    let n = c.decode_raw-result.result.1 in
    let same = ap (λ r. length (malformed_of r)) c.with_more.ensures
    ∙ ap length (same_malformed _ _) in
    let written = length-take-le c.decode_raw-result.result.2
    (g.E.Element.values c.decode_raw-result.new.dst) call.written in
    let short = short_written _ _ _ _ _ _ c.args.self.now.bytes c.args.self.now.replay_bytes
    call.read g.E.Element.output (decoder_code c.args.self.now) _ _ call.resumes in
    omega (
      arith,
      same,
      written,
      short,
      held_length c.args.self.now.start (standing_in c.args.self.now.variant).held replay
          c.requires,
      held_length c.args.self.now.start (standing_in c.decode_raw-result.new.variant).held
          (take (length replay - n) (drop n replay)) c.requires,
      ap length (take_rest replay n),
      length-drop n replay,
    )

pub returns-clause-behind : goal.returns-clause-behind
returns-clause-behind g c =
    let call = c.decode_raw-result.ensures in
    let replay = c.args.self.now.replay.now in
    let n = c.decode_raw-result.result.1 in
    let same = ap (λ r. unit_bytes (malformed_of r)) c.with_more.ensures
    ∙ ap unit_bytes (same_malformed _ _) in
    omega (
      arith,
      same,
      bytes_behind _ _ _ _ _ _ c.args.self.now.bytes c.args.self.now.replay_bytes call.read
          (decoder_code c.args.self.now) call.resumes,
      held_length c.args.self.now.start (standing_in c.args.self.now.variant).held replay
          c.requires,
      held_length c.args.self.now.start (standing_in c.decode_raw-result.new.variant).held
          (take (length replay - n) (drop n replay)) c.requires,
      ap length (take_rest replay n),
      length-drop n replay,
    )

pub returns-clause-pending : goal.returns-clause-pending
returns-clause-pending g c e =
    let call = c.decode_raw-result.ensures in
    let replay = c.args.self.now.replay.now in
    let n = c.decode_raw-result.result.1 in
    let some = call.pending (with_more_full _ _ (sym c.with_more.ensures ∙ e)) in
    omega (
      arith,
      some,
      held_length c.args.self.now.start (standing_in c.decode_raw-result.new.variant).held
          (take (length replay - n) (drop n replay)) c.requires,
      ap length (take_rest replay n),
    )
