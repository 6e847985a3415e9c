use Rattle.std.proofs.Common.{◌≡◌, ◌<◌, ◌≤◌, [], ◌∷◌, ◌++◌, ap, ◌∙◌, length, take, arith, length-take-le}
use Rattle.mail_body.specs.Quoted.{begun_bytes, blanks_needed}
use Rattle.mail_body.specs.HeldLine.{held_line}
use Rattle.mail_body.proofs.QuotedKeeps.{GoesOn-at, GoesOn-one_blank, GoesOn-held, too_few}
use Rattle.mail_body.proofs.quoted.HeldLine.go_on.Goals as goal

pub returns-then-is_whole-clause-goes_on : goal.returns-then-is_whole-clause-goes_on
returns-then-is_whole-clause-goes_on c =
    let line = c.args.self.now in
    let bs = take line.count line.blanks.items in
    let old = take c.args.at c.args.out.now in
    let new = take c.put.result c.put.new.out in
    let needed : line.count < blanks_needed line.begun = let e = c.blanks_needed.ensures in let f = c.if-is_whole.true in omega arith in
    let few = too_few line.begun line.count c.if-self-eq0.false needed in
    let is : held_line line ≡ 61 ∷ bs = ap (λ g. begun_bytes g ++ bs) few.0 in
    let one : length bs ≡ 1 = length-take-le line.count line.blanks.items line.held.within ∙ few.1 in
    GoesOn-at (held_line line) (61 ∷ bs) c.args.byte (held_line c.put_held-end.new.self) [] old new is c.put_held-end.ensures.none
    (GoesOn-one_blank bs c.args.byte old new one line.held.blank c.requires.plain
    (c.put.ensures.written ∙ ap (λ t. t ++ c.args.byte ∷ []) (c.put_held-end.ensures.written ∙ ap (λ t. old ++ t) is)))

pub returns-clause-goes_on : goal.returns-clause-goes_on
returns-clause-goes_on c =
    let line = c.args.self.now in
    let bs = take line.count line.blanks.items in
    let old = take c.args.at c.args.out.now in
    let mid = take c.put_held-end.result c.put_held-end.new.out in
    let new = take c.begin.result c.begin.new.out in
    let enough : blanks_needed line.begun ≤ length bs =
    let e = c.blanks_needed.ensures in
    let f = c.if-is_whole.false in
    let n = length-take-le line.count line.blanks.items line.held.within in
    omega arith in
    GoesOn-held line.begun bs c.args.byte (held_line c.begin.new.self) old mid new line.held.plain line.held.blank enough c.requires.plain
    c.put_held-end.ensures.written c.begin.ensures.goes_on
