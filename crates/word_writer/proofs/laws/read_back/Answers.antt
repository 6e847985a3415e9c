use Rattle.std.proofs.Common.{◌∙◌, string_bytes}
use Rattle.enc_front.specs.Indexes.{indexes_of}
use Rattle.word_writer.proofs.ReadBack.{same-text, only-memory}
use Rattle.word_writer.proofs.laws.read_back.Goals as goal

pub returns-in-Ok-decode-clause-text : goal.returns-in-Ok-decode-clause-text
returns-in-Ok-decode-clause-text c =
    same-text _ (indexes_of c.args.tables.now) c.as_bytes.result.now c.args.text.now (string_bytes c.in-Ok-decode.back) c.utf8.text
    (c.as_bytes.ensures.value ∙ c.in-Ok.ensures) c.in-Ok-decode.ensures.text

pub returns-clause-fault : goal.returns-clause-fault
returns-clause-fault c =
    only-memory _ (indexes_of c.args.tables.now) c.as_bytes.result.now c.args.text.now c.in-Err.error c.utf8.text
    (c.as_bytes.ensures.value ∙ c.in-Ok.ensures) c.in-Err.ensures.fault
