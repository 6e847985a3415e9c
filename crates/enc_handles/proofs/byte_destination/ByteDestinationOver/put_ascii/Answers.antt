use Rattle.std.proofs.Common.{◌+◌, ◌-◌, length, drop, refl, sym, ap, ◌∙◌}
use Rattle.enc_handles.proofs.AsciiLemmas.{length-take-moved_len, written}
use Rattle.enc_handles.proofs.byte_destination.ByteDestinationOver.put_ascii.Goals as goal

pub returns-clause-text : goal.returns-clause-text
returns-clause-text g c =
    let list = drop c.args.from (g.T.TextSlice.elements c.args.source.now) in
    let room = length (g.D.ByteBuffer.bytes c.args.self.now.slice) - c.args.self.now.pos in
    written _ _ _ _ _ _ _ _ c.copy_ascii_at-source_end.ensures.text
    (c.copy_ascii_at-source_end.ensures.end ∙ ap (λ n. c.args.self.now.pos + n) (sym (length-take-moved_len list room)))
    c.copy_ascii_at-source_end.ensures.same_buffer refl
