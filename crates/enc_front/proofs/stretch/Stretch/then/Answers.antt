use Rattle.std.proofs.Common.{refl, arith}
use Rattle.enc_front.proofs.StretchLemmas.{grows, starts}
use Rattle.enc_front.proofs.stretch.Stretch.then.Goals as goal

pub returns-then-place-self : goal.returns-then-place-self
returns-then-place-self c =
    grows c.args.key c.args.self _ c.if-scalar-self-2.true c.if-place-self.true (omega arith)
    refl refl refl

pub returns : goal.returns
returns c = starts c.args.key c.args.self _ c.if-scalar-self.false refl refl refl
