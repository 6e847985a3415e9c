use Rattle.std.proofs.Common.{length, length-append, drop, ap, ◌∙◌, arith}
use lib.Utf8.{encode}
use Rattle.enc_handles.specs.Utf8.{sequence_len, sequence_scalar}
use Rattle.enc_handles.proofs.Sequences.{sequence-Decodes}
use Rattle.enc_handles.proofs.utf8.sequence_scalar.Goals as goal

pub returns-clause-scalar : goal.returns-clause-scalar
returns-clause-scalar c =
    let d = sequence-Decodes c.args.bytes.now (rw (← c.requires.len) c.requires.some) in
    rw c.low_bits.ensures d.scalar

pub returns-clause-len : goal.returns-clause-len
returns-clause-len c =
    let d = sequence-Decodes c.args.bytes.now (rw (← c.requires.len) c.requires.some) in
    rw (c.low_bits.ensures, c.requires.len) d.length_is

pub returns-clause-front : goal.returns-clause-front
returns-clause-front c =
    let d = sequence-Decodes c.args.bytes.now (rw (← c.requires.len) c.requires.some) in
    rw (c.low_bits.ensures, c.requires.len) d.front

pub returns-clause-within : goal.returns-clause-within
returns-clause-within c =
    let d = sequence-Decodes c.args.bytes.now (rw (← c.requires.len) c.requires.some) in
    let n = ap length d.front ∙ length-append (encode (sequence_scalar c.args.bytes.now)) (drop (sequence_len c.args.bytes.now) c.args.bytes.now) in
    omega (arith, n, d.length_is, c.requires.len)
