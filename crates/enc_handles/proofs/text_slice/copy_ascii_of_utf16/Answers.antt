use Rattle.std.proofs.Common.{◌≡◌, ◌+◌, length, take, drop, ap, ◌∙◌}
use Rattle.std.proofs.lemmas.List.{take_rest}
use Rattle.enc_handles.specs.Ascii.{moved_len}
use Rattle.enc_handles.specs.Lemmas.TextLaws.{seam_ascii16, ascii_reads16}
use Rattle.enc_handles.proofs.CharLemmas.{unit_count, copied_ascii, moved_ascii_len}
use Rattle.enc_handles.proofs.text_slice.copy_ascii_of_utf16.Goals as goal

pub returns-clause-end : goal.returns-clause-end
returns-clause-end c =
    ap (λ n. c.args.at + n) (unit_count c.args.text.now c.args.at (length c.args.dst.now) c.basic_latin_to_ascii-len.result c.basic_latin_to_ascii-len.ensures.count)

pub returns-clause-copied : goal.returns-clause-copied
returns-clause-copied c =
    let text = c.args.text.now in
    let at = c.args.at in
    let n = c.basic_latin_to_ascii-len.result in
    copied_ascii (drop at text) c.basic_latin_to_ascii-len.new.dst (length c.args.dst.now) n
    (unit_count text at (length c.args.dst.now) n c.basic_latin_to_ascii-len.ensures.count)
    (c.basic_latin_to_ascii-len.ensures.copied ∙ ap (λ l. take n l) (take_rest text at))

pub returns-clause-seam : goal.returns-clause-seam
returns-clause-seam c =
    let text = c.args.text.now in
    let at = c.args.at in
    let room = length c.args.dst.now in
    let count : c.basic_latin_to_ascii-len.result ≡ moved_len (drop at text) room =
    unit_count text at room c.basic_latin_to_ascii-len.result c.basic_latin_to_ascii-len.ensures.count in
    rw count (seam_ascii16 text at (moved_len (drop at text) room) c.requires.seam (moved_ascii_len (drop at text) room))

pub returns-clause-reads : goal.returns-clause-reads
returns-clause-reads c =
    let text = c.args.text.now in
    let at = c.args.at in
    let room = length c.args.dst.now in
    let count : c.basic_latin_to_ascii-len.result ≡ moved_len (drop at text) room =
    unit_count text at room c.basic_latin_to_ascii-len.result c.basic_latin_to_ascii-len.ensures.count in
    rw count (ascii_reads16 text at (moved_len (drop at text) room) c.requires.seam (moved_ascii_len (drop at text) room))
