use Rattle.std.proofs.Common.{◌≡◌, ℕ, [], ◌++◌, ◌+◌, ◌≤◌, List, false, length, refl, ap, ◌∙◌, arith, take, length-drop, length-take}
use Rattle.enc_front.specs.Decoder.{DecoderStanding}
use Rattle.enc_front.specs.DecoderCalls.{room_for}
use Rattle.enc_front.specs.DecoderView.{place_of, standing_of}
use Rattle.enc_front.proofs.AsciiLemmas.{are_bytes}
use Rattle.enc_front.proofs.TextLemmas.{used_up}
use Rattle.enc_front.proofs.WholeLemmas.{all_text, all_malformed, stream_utf_8, cut_behind, front_kept}
use Rattle.enc_front.proofs.whole.append_whole.Goals as goal
use Rattle.enc_front.proofs.whole.append_whole.Goals.{After-decode_to_utf8-written}

-- the call has used up all bytes
ends : (c : After-decode_to_utf8-written) → (c.decode_to_utf8-written.result.1 ≡ length c.args.bytes.now) × ((standing_of c.decode_to_utf8-written.new.self).owes ≡ false) × ((place_of c.decode_to_utf8-written.new.self).held ≡ [])
ends c =
    let call = c.decode_to_utf8-written.ensures in
    let wide : length c.decode_to_utf8-written.new.dst ≡ room_for (standing_of c.args.decoder) (length c.args.bytes.now) = omega (arith, c.in_ok-resize.ensures.len, c.in-Some-checked_add.ensures, c.in-Some.ensures.room, c.deref_mut.ensures.len, call.len, length-take {A = ℕ}, length-drop {A = ℕ}) in
    let end = call.input_empty (used_up _ (call.enough (omega (arith, wide)))) in
    (end.0, end.1, end.2.end refl)

pub returns-clause-appended : goal.returns-clause-appended
returns-clause-appended c =
    let call = c.decode_to_utf8-written.ensures in
    let start : c.len-start.result ≡ length c.args.buffer.now.items = omega arith in
    let end = ends (goal.at.returns-clause-appended c).After-decode_to_utf8-written in
    let size : length c.deref_mut.result.now ≡ c.len-start.result + c.in-Some.room = omega (arith, c.in_ok-resize.ensures.len, c.in-Some-checked_add.ensures, c.deref_mut.ensures.len) in
    let long : length c.decode_to_utf8-written.new.dst ≡ c.in-Some.room = omega (arith, size, call.len, length-take {A = ℕ}, length-drop {A = ℕ}) in
    let fits : length c.args.buffer.now.items ≤ c.in-Some-checked_add.end = omega (arith, start, c.in-Some-checked_add.ensures) in
    c.truncate.ensures.items
    ∙ (cut_behind c.len-start.result c.decode_to_utf8-written.result.2 c.resize.new.self.len c.deref_mut.result.now c.decode_to_utf8-written.new.dst _ (omega (arith, size)) call.written
    (omega (arith, size, c.deref_mut.ensures.len, call.written, long))
    ∙ (ap (λ (l : List ℕ). take c.len-start.result l ++ take c.decode_to_utf8-written.result.2 c.decode_to_utf8-written.new.dst) c.deref_mut.ensures.value
    ∙ (ap (λ (n : ℕ). take n c.resize.new.self.items ++ take c.decode_to_utf8-written.result.2 c.decode_to_utf8-written.new.dst) start
    ∙ (ap (λ (l : List ℕ). l ++ take c.decode_to_utf8-written.result.2 c.decode_to_utf8-written.new.dst) (front_kept _ _ _ _ c.in_ok-resize.ensures.items fits)
    ∙ ap (λ (l : List ℕ). c.args.buffer.now.items ++ l) (all_text (standing_of c.args.decoder) _ _ _ _ _ call.replaces end.0 end.2 (ap (λ (s : DecoderStanding). s.owes) c.requires) end.1)))))

pub returns-clause-malformed : goal.returns-clause-malformed
returns-clause-malformed c =
    let call = c.decode_to_utf8-written.ensures in
    let end = ends (goal.at.returns-clause-malformed c).After-decode_to_utf8-written in
    all_malformed (standing_of c.args.decoder) _ _ _ _ _ call.replaces end.0 end.2 (ap (λ (s : DecoderStanding). s.owes) c.requires) end.1

pub returns-clause-utf_8 : goal.returns-clause-utf_8
returns-clause-utf_8 c =
    stream_utf_8 c.args.decoder.tables.now (place_of c.args.decoder) c.args.bytes.now refl (ap (λ (s : DecoderStanding). s.place.held) c.requires) (are_bytes c.args.bytes.now (λ i. omega (arith, c.type_inv.bytes i)))
