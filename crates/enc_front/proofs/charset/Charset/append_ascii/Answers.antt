use Rattle.std.proofs.Common.{◌++◌, ap, sym, ◌∙◌, arith}
use Rattle.std.proofs.lemmas.List.{append-nil}
use Rattle.enc_front.proofs.AsciiLemmas.{ascii_turn, ascii_text_none}
use Rattle.enc_front.proofs.charset.Charset.append_ascii.Goals as goal

pub loop-byte-init : goal.loop-byte-init
loop-byte-init c =
    let start = c.reserve.new.self.items in
    sym (ap (λ t. start ++ t) (ascii_text_none c.args.bytes.now) ∙ append-nil start)

pub loop-byte-preserved : goal.loop-byte-preserved
loop-byte-preserved c =
    ascii_turn c.args.bytes.now c.reserve.new.self.items c.loop-byte.text.items c.push_ascii.new.text.items c.loop-byte.byte-index
    (omega arith) c.loop-byte.invariant c.in-Ok.ensures
