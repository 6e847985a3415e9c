use Rattle.std.proofs.Common.{None, ap, refl}
use Rattle.enc_front.specs.Indexes.{indexes_of}
use Rattle.enc_io.specs.Options.{Options, unknown_encoding}
use Rattle.unwrap.proofs.Delivered.{never_tables, never_unread}
use Rattle.unwrap.proofs.Unwrapping.{told_reads}
use Rattle.unwrap.proofs.run.make.SummaryValue.make.Goals as goal

pub returns-clause-tables : goal.returns-clause-tables
returns-clause-tables g c =
    never_tables None c.told.result refl
    (told_reads _ _ _ _ _ _ _ c.args.self.now.input c.unwrap_header-unwrapped.result.answer c.told.result
    (ap (λ (o : Options). unknown_encoding o (indexes_of c.new-tables.result)) c.new-builder.ensures) c.unwrap_header-unwrapped.ensures.unwraps c.told.ensures)

pub returns-clause-unread : goal.returns-clause-unread
returns-clause-unread g c =
    never_unread _ c.told.result
    (told_reads _ _ _ _ _ _ _ c.args.self.now.input c.unwrap_header-unwrapped.result.answer c.told.result
    (ap (λ (o : Options). unknown_encoding o (indexes_of c.new-tables.result)) c.new-builder.ensures) c.unwrap_header-unwrapped.ensures.unwraps c.told.ensures)
