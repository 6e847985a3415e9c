use Rattle.std.proofs.Common.{subst}
use Rattle.enc_front.specs.Indexes.{indexes_of}
use Rattle.enc_io.specs.Options.{Options, unknown_encoding}
use Rattle.unwrap.specs.Streams.{reader_of}
use Rattle.unwrap.specs.Unwraps.{Unwraps, header_of}
use Rattle.unwrap.proofs.Unwrapping.{makes_unwrapped, tables_unwrapped, unread_unwrapped}
use Rattle.unwrap.proofs.run.unwrap.HeaderValue.make.Goals as goal

pub returns : goal.returns
returns g c =
    let header = c.args.self.now in
    let o = reader_of header.options.now.reader in
    let i = indexes_of header.tables.now in
    let left = g.S.Source.left c.args.source in
    let faults = g.S.Source.faults c.args.source in
    let unwraps = subst (λ (x : Options). Unwraps (unknown_encoding x i) (header_of header.strategy x i) x.limit left (g.S.Source.left c.unwrap_header-unwrapped.result.source) faults
    (g.S.Source.faults c.unwrap_header-unwrapped.result.source) c.unwrap_header-unwrapped.result.answer) c.builder_of-builder.ensures c.unwrap_header-unwrapped.ensures.unwraps in
    let answer = c.unwrap_header-unwrapped.result.answer in
    record { tables = tables_unwrapped _ _ _ _ _ _ _ answer c.answer_bytes.result unwraps c.answer_bytes.ensures.same c.answer_bytes.ensures.error; unread = unread_unwrapped _ answer c.answer_bytes.result c.unwrap_header-unwrapped.ensures.unread c.answer_bytes.ensures.same c.answer_bytes.ensures.error; made = makes_unwrapped header.strategy o i left _ faults _ c.unwrap_header-unwrapped.result.answer c.answer_bytes.result unwraps c.answer_bytes.ensures.text c.answer_bytes.ensures.same c.answer_bytes.ensures.error }
