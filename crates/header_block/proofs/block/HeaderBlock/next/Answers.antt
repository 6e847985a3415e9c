use Rattle.std.proofs.Common.{Err}
use Rattle.header_block.specs.BlockView.{standing_of, state_of}
use Rattle.header_block.specs.BlockCalls.{Does}
use Rattle.header_block.specs.FieldView.{gathered_of}
use Rattle.header_block.proofs.BlockLemmas.{finds_shown, if_none, stops_does}
use Rattle.header_block.proofs.block.HeaderBlock.next.Goals as goal

pub returns-in-Ok-clause-does : goal.returns-in-Ok-clause-does
returns-in-Ok-clause-does g c =
    let self = c.args.self.now in
    if_none self.stopped (Does (standing_of self) (standing_of c.show.new.self) c.show.result)
    (λ none. finds_shown (state_of self) (gathered_of c.gather.new.self) (state_of c.show.new.self) c.show.result none c.in-Ok.ensures c.show.ensures)

pub returns-in-Err-clause-does : goal.returns-in-Err-clause-does
returns-in-Err-clause-does g c =
    let self = c.args.self.now in
    if_none self.stopped (Does (standing_of self) (standing_of c.refuse.new.self) (Err c.refuse.result))
    (λ none. stops_does (state_of self) (gathered_of c.gather.new.self) (state_of c.refuse.new.self) c.in-Err.error c.refuse.result none c.in-Err.ensures c.refuse.ensures.answer c.refuse.ensures.stopped)
