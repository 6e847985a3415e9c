use Rattle.std.proofs.Common.{◌∷◌, length, ap, sym, ◌∙◌, arith}
use Rattle.enc_front.specs.Decoder.{DecoderPlace, to_come, encoding_to_come}
use Rattle.enc_front.proofs.AheadLemmas.{open_start}
use Rattle.enc_front.proofs.StartLemmas.{mark_to_come, mark_encoding, other_to_come, other_encoding}
use Rattle.enc_front.proofs.decoder.Decoder.look_at.Goals as goal

pub returns-in-Part-clause-open_before : goal.returns-in-Part-clause-open_before
returns-in-Part-clause-open_before c e = open_start _ _ _ _ _ c.in_default.not-Over

pub returns-in-Mark : goal.returns-in-Mark
returns-in-Mark c =
    let look = c.in-Mark.ensures in
    let begun = c.begin.ensures in
    record {
      taken = λ e more. mark_to_come _ _ _ _ _ _ _ c.in_default.not-Over look more
          ∙ sym (ap (λ (s : DecoderPlace). to_come s more) begun.place);
      open_before = λ e. open_start _ _ _ _ _ c.in_default.not-Over;
      taken_encoding = λ e more. mark_encoding _ _ _ _ _ c.in_default.not-Over look more
          ∙ sym (ap (λ (s : DecoderPlace). encoding_to_come s more) begun.place);
      held = λ e. omega (arith, ap (λ (s : DecoderPlace). length s.held) begun.place);
      refused = λ e. cc e;
      refused_units = λ e. cc e;
      refused_encoding = λ e. cc e;
      kept_held = λ e. cc e;
      same_indexes = ap (λ (s : DecoderPlace). s.indexes) begun.place;
      same_end = begun.same_end;
    }

pub returns-in-Other : goal.returns-in-Other
returns-in-Other c =
    let look = c.in-Other.ensures in
    let ended = c.end_start.ensures in
    record {
      taken = λ e. cc e;
      open_before = λ e. cc e;
      taken_encoding = λ e. cc e;
      held = λ e. cc e;
      refused = λ e. ap (λ (s : DecoderPlace). s.marks) ended.place;
      refused_units = λ e more. other_to_come _ _ _ _ _ _ c.in_default.not-Over look more
          ∙ sym (ap (λ (s : DecoderPlace). to_come s (c.args.byte ∷ more)) ended.place);
      refused_encoding = λ e more. other_encoding _ _ _ _ c.in_default.not-Over look more
          ∙ sym (ap (λ (s : DecoderPlace). encoding_to_come s (c.args.byte ∷ more)) ended.place);
      kept_held = λ e. ap (λ (s : DecoderPlace). s.held) ended.place;
      same_indexes = ap (λ (s : DecoderPlace). s.indexes) ended.place;
      same_end = ended.same_end;
    }
