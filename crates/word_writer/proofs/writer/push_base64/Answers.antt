use Rattle.std.proofs.Common.{◌++◌, ap, ◌∙◌, string_bytes}
use Rattle.word_writer.specs.Written.{base64}
use Rattle.word_writer.proofs.Cutting.{base64-written}
use Rattle.word_writer.proofs.writer.push_base64.Goals as goal

pub returns : goal.returns
returns c =
    base64-written c.args.group.now (string_bytes c.args.written.now) (string_bytes c.push_mark.new.written) (string_bytes c.encode_string.new.output)
    c.in_ok-push_mark.ensures
    (c.in_ok-encode_string.ensures.ok ∙ ap (λ g. string_bytes c.push_mark.new.written ++ base64 g) c.as_bytes.ensures.value)
