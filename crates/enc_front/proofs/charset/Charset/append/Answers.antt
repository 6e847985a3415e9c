use Rattle.std.proofs.Common.{◌++◌, ap, ◌∙◌, subst}
use Rattle.std.specs.Str.{IsUtf8}
use Rattle.enc_drivers.specs.Units.{text}
use Rattle.enc_front.specs.Charset.{marked_text}
use Rattle.enc_front.specs.Decoder.{DecoderStanding, past_mark, to_come}
use Rattle.enc_front.specs.Units.{decoded}
use Rattle.enc_front.proofs.charset.Charset.append.Goals as goal

pub returns-clause-appended : goal.returns-clause-appended
unfolding marked_text decoded past_mark
returns-clause-appended c =
    c.in_ok-append_whole.ensures.appended
    ∙ ap (λ (s : DecoderStanding). c.args.text.now.items ++ text (to_come s.place c.args.bytes.now)) c.new.ensures

pub returns-clause-utf_8 : goal.returns-clause-utf_8
unfolding marked_text decoded past_mark
returns-clause-utf_8 c =
    subst IsUtf8 (ap (λ (s : DecoderStanding). text (to_come s.place c.args.bytes.now)) c.new.ensures) c.in_ok-append_whole.ensures.utf_8
