use Rattle.std.proofs.Common.{◌+◌, ◌-◌, arith}
use Rattle.enc_handles.proofs.CopyParts.{copied-more}
use Rattle.enc_handles.proofs.utf8_parts.copy_part.Goals as goal

pub returns-clause-copied : goal.returns-clause-copied
returns-clause-copied c =
    copied-more c.args.dst.now c.copy_from_slice.new.self c.args.src.now c.args.at c.args.len (c.args.at + c.args.len - c.args.at) (omega arith)
    c.requires.room c.requires.within c.requires.before c.copy_from_slice.ensures.after
