use Rattle.std.proofs.Common.{◌≡◌, ◌+◌, ◌-◌, length, ap, sym, ◌∙◌, arith}
use Rattle.std.proofs.lemmas.Bool.Decides.{nat_tests}
use Rattle.enc_handles.specs.Ascii.{moved_text, ascii_len}
use Rattle.enc_handles.proofs.AsciiLemmas.{ascii_len_le, ascii_len-past, length-take-moved_len, moved_text-ascii, written}
use Rattle.enc_handles.proofs.destination.DestinationOver.move_ascii.Goals as goal

pub overflow_sub-rest : goal.overflow_sub-rest
overflow_sub-rest g c = omega (arith, ascii_len_le c.rest-bytes.result.now)

pub returns-then-rest-eq0-clause-stopped : goal.returns-then-rest-eq0-clause-stopped
returns-then-rest-eq0-clause-stopped g c =
    let bytes = c.rest-bytes.result.now in
    let same = ap length c.rest-bytes.ensures in
    grind (arith, ascii_len_le bytes)

pub returns-then-rest-eq0-clause-cause : goal.returns-then-rest-eq0-clause-cause
returns-then-rest-eq0-clause-cause g c =
    let bytes = c.rest-bytes.result.now in
    grind (arith, nat_tests, ascii_len_le bytes)

pub returns-then-rest-eq0-clause-text : goal.returns-then-rest-eq0-clause-text
returns-then-rest-eq0-clause-text g c =
    let bytes = c.rest-bytes.result.now in
    let room = length (g.S.UnitSlice.units c.args.self.now.slice) - c.args.self.now.pos in
    written _ _ _ _ _ _ _ _ c.copy_ascii_at-end.ensures.text
    (c.copy_ascii_at-end.ensures.end ∙ ap (λ n. c.args.self.now.pos + n) (sym (length-take-moved_len bytes room)))
    c.copy_ascii_at-end.ensures.same_buffer
    (sym (moved_text-ascii g.S.UnitSlice.encode g.met.S.UnitSlice.ascii_text bytes room) ∙ ap (λ l. moved_text g.S.UnitSlice.encode l room) c.rest-bytes.ensures)

pub returns-clause-past_ascii : goal.returns-clause-past_ascii
returns-clause-past_ascii g c =
    let bytes = c.rest-bytes.result.now in
    let here : c.copy_ascii_at-end.result - c.args.self.now.pos ≡ ascii_len bytes = omega (arith, ascii_len_le bytes) in
    rw here (ascii_len-past bytes (omega (arith, ascii_len_le bytes)))

pub returns-then-unit_count-end-clause-text : goal.returns-then-unit_count-end-clause-text
returns-then-unit_count-end-clause-text g c =
    let bytes = c.rest-bytes.result.now in
    let room = length (g.S.UnitSlice.units c.args.self.now.slice) - c.args.self.now.pos in
    written _ _ _ _ _ _ _ _ c.copy_ascii_at-end.ensures.text
    (c.copy_ascii_at-end.ensures.end ∙ ap (λ n. c.args.self.now.pos + n) (sym (length-take-moved_len bytes room)))
    c.copy_ascii_at-end.ensures.same_buffer
    (sym (moved_text-ascii g.S.UnitSlice.encode g.met.S.UnitSlice.ascii_text bytes room) ∙ ap (λ l. moved_text g.S.UnitSlice.encode l room) c.rest-bytes.ensures)

pub returns-clause-text : goal.returns-clause-text
returns-clause-text g c =
    let bytes = c.rest-bytes.result.now in
    let room = length (g.S.UnitSlice.units c.args.self.now.slice) - c.args.self.now.pos in
    written _ _ _ _ _ _ _ _ c.copy_ascii_at-end.ensures.text
    (c.copy_ascii_at-end.ensures.end ∙ ap (λ n. c.args.self.now.pos + n) (sym (length-take-moved_len bytes room)))
    c.copy_ascii_at-end.ensures.same_buffer
    (sym (moved_text-ascii g.S.UnitSlice.encode g.met.S.UnitSlice.ascii_text bytes room) ∙ ap (λ l. moved_text g.S.UnitSlice.encode l room) c.rest-bytes.ensures)
