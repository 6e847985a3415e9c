use Rattle.std.proofs.Common.{◌≡◌, IfOk, string_bytes, subst}
use Rattle.enc_drivers.specs.Units.{text}
use Rattle.enc_front.specs.Decoder.{DecoderStanding, past_mark, to_come}
use Rattle.enc_front.specs.Units.{decoded}
use Rattle.enc_front.specs.Whole.{some_malformed, has_malformed}
use Rattle.enc_front.proofs.encoding.Encoding.decode_without_bom_handling.Goals as goal

pub returns-clause-text : goal.returns-clause-text
unfolding decoded past_mark
returns-clause-text c =
    subst (λ (s : DecoderStanding). IfOk c.decode_whole.result
    (λ r. string_bytes r.0 ≡ text (to_come s.place c.args.bytes.now)))
    c.new_without_bom_handling.ensures c.decode_whole.ensures.text

pub returns-clause-malformed : goal.returns-clause-malformed
unfolding has_malformed past_mark
returns-clause-malformed c =
    subst (λ (s : DecoderStanding). IfOk c.decode_whole.result
    (λ r. r.1 ≡ some_malformed (to_come s.place c.args.bytes.now)))
    c.new_without_bom_handling.ensures c.decode_whole.ensures.malformed
