use Rattle.std.proofs.Common.{◌≤◌, [], refl, length, take, arith, length-take-le}
use Rattle.mail_body.specs.declared.quoted.TheConstants.{MOST_BLANKS}
use Rattle.mail_body.specs.HeldLine.{held_line}
use Rattle.mail_body.proofs.QuotedKeeps.{DecodesQuoted-none, DecodesQuoted-next, DecodesQuoted-read, run_found, run_free}
use Rattle.mail_body.proofs.quoted.HeldLine.decode.Goals as goal

pub loop-byte-init : goal.loop-byte-init
loop-byte-init c = record { decodes = DecodesQuoted-none (held_line c.args.self.now) []; room = omega arith }

pub returns-in-None-clause-none : goal.returns-in-None-clause-none
returns-in-None-clause-none c none =
    run_found (held_line c.args.self.now) c.args.piece.now (held_line c.loop-byte.self) [] (take c.loop-byte.filled c.loop-byte.out) c.loop-byte.byte-index
    c.loop-byte-test.true c.loop-byte.invariant.decodes (c.in-None.ensures.none refl)

pub loop-byte-preserved : goal.loop-byte-preserved
loop-byte-preserved c = record {
  decodes = DecodesQuoted-next (held_line c.args.self.now) c.args.piece.now (held_line c.loop-byte.self) (held_line c.with_byte.new.self)
      [] (take c.loop-byte.filled c.loop-byte.out) (take c.in-Some.end c.with_byte.new.out) c.loop-byte.byte-index
      c.loop-byte-test.true c.loop-byte.invariant.decodes c.in-Some.ensures.decodes;
  room = let e = c.in-Some.ensures.end in let r = c.loop-byte.invariant.room in omega arith;
}

pub returns-clause-some : goal.returns-clause-some
returns-clause-some c =
    let line = c.loop-byte.self in
    let bs = take line.count line.blanks.items in
    let few : length bs ≤ MOST_BLANKS = let e = length-take-le line.count line.blanks.items line.held.within in let m = line.held.most in let w = line.held.within in omega arith in
    let i = c.loop-byte.byte-index in
    run_free (held_line c.args.self.now) c.args.piece.now line.begun bs [] (take c.loop-byte.filled c.loop-byte.out)
    (DecodesQuoted-read (held_line c.args.self.now) c.args.piece.now (held_line line) [] (take c.loop-byte.filled c.loop-byte.out) i c.loop-byte-test.false c.loop-byte.invariant.decodes)
    line.held.plain line.held.blank few
