use Rattle.std.proofs.Common.{arith, refl, sym, ap, ◌∙◌, Some, length-drop}
use Rattle.enc_front.specs.DecoderView as decoder
use Rattle.enc_io.specs.BuilderView.{options_of}
use Rattle.enc_io.specs.Marks.{bom_bytes}
use Rattle.enc_io.specs.Text.{chosen}
use Rattle.enc_io.proofs.ChoiceLemmas.{chosen_known, decoder_for}
use Rattle.enc_io.proofs.PeekerLemmas.{gathered_few}
use Rattle.enc_io.proofs.PieceLemmas.{goes_choose}
use Rattle.enc_io.proofs.ReaderLemmas.{none_shown}
use Rattle.enc_io.proofs.reader.DecodeReaderBytes.choose.Goals as goal

pub new_with_bom_removal-requires : goal.new_with_bom_removal-requires
new_with_bom_removal-requires g c =
    let self = c.args.self.now in
    chosen_known (options_of self.options) _ (bom_bytes c.gathered.result) _ self.named (sym c.in-Some.ensures)

pub returns-in-Some-clause-goes_on : goal.returns-in-Some-clause-goes_on
returns-in-Some-clause-goes_on g c =
    let self = c.args.self.now in
    let bom = self.rdr.bom in
    let none = self.passes (self.is_none c.requires.undetected) in
    goes_choose _ _ c.requires.undetected refl none.0 none.1 (self.front c.requires.undetected c.requires.peeked) self.same_strips
    (ap Some c.new_with_bom_removal.ensures ∙ ap (decoder_for _) (c.in-Some.ensures ∙ ap (chosen (options_of self.options)) c.gathered.ensures))
    refl (gathered_few bom.bytes bom.len bom.within) (omega (arith, length-drop self.rdr.place (bom_bytes bom))) c.requires.within

pub returns-in-None-clause-goes_on : goal.returns-in-None-clause-goes_on
returns-in-None-clause-goes_on g c =
    let self = c.args.self.now in
    let bom = self.rdr.bom in
    let undecided = self.is_none c.requires.undetected in
    let none = self.passes undecided in
    goes_choose _ _ c.requires.undetected refl none.0 none.1 (self.front c.requires.undetected c.requires.peeked) self.same_strips
    (none_shown decoder.standing_of self.decoder undecided ∙ ap (decoder_for _) (c.in-None.ensures ∙ ap (chosen (options_of self.options)) c.gathered.ensures))
    refl (gathered_few bom.bytes bom.len bom.within) (omega (arith, length-drop self.rdr.place (bom_bytes bom))) c.requires.within
