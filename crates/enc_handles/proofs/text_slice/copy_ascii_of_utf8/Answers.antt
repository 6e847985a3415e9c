use Rattle.std.proofs.Common.{◌≡◌, ◌+◌, length, drop, ap}
use Rattle.enc_handles.specs.Ascii.{moved_len}
use Rattle.enc_handles.specs.Lemmas.TextLaws.{seam_ascii8, ascii_reads8}
use Rattle.enc_handles.proofs.CharLemmas.{run_count, run_copied, copied_ascii, moved_within, moved_ascii_len}
use Rattle.enc_handles.proofs.text_slice.copy_ascii_of_utf8.Goals as goal

pub returns-clause-end : goal.returns-clause-end
returns-clause-end c =
    ap (λ n. c.args.at + n)
    (run_count c.args.text.now c.as_bytes-bytes.result.now c.args.at (length c.args.dst.now) c.ascii_to_ascii-len.result
    c.as_bytes-bytes.ensures.value c.ascii_to_ascii-len.ensures.count)

pub returns-clause-copied : goal.returns-clause-copied
returns-clause-copied c =
    let text = c.args.text.now in
    let bytes = c.as_bytes-bytes.result.now in
    let at = c.args.at in
    let n = c.ascii_to_ascii-len.result in
    let same = c.as_bytes-bytes.ensures.value in
    copied_ascii (drop at text) c.ascii_to_ascii-len.new.dst (length c.args.dst.now) n
    (run_count text bytes at (length c.args.dst.now) n same c.ascii_to_ascii-len.ensures.count)
    (run_copied text bytes c.ascii_to_ascii-len.new.dst at n same c.ascii_to_ascii-len.ensures.copied)

pub returns-clause-seam : goal.returns-clause-seam
returns-clause-seam c =
    let text = c.args.text.now in
    let at = c.args.at in
    let room = length c.args.dst.now in
    let count : c.ascii_to_ascii-len.result ≡ moved_len (drop at text) room =
    run_count text c.as_bytes-bytes.result.now at room c.ascii_to_ascii-len.result c.as_bytes-bytes.ensures.value c.ascii_to_ascii-len.ensures.count in
    rw count (seam_ascii8 text at (moved_len (drop at text) room) c.requires.seam (moved_ascii_len (drop at text) room))

pub returns-clause-reads : goal.returns-clause-reads
returns-clause-reads c =
    let text = c.args.text.now in
    let at = c.args.at in
    let room = length c.args.dst.now in
    let count : c.ascii_to_ascii-len.result ≡ moved_len (drop at text) room =
    run_count text c.as_bytes-bytes.result.now at room c.ascii_to_ascii-len.result c.as_bytes-bytes.ensures.value c.ascii_to_ascii-len.ensures.count in
    rw count
    (ascii_reads8 text at (moved_len (drop at text) room) (moved_within text at room c.requires.within) c.requires.seam (moved_ascii_len (drop at text) room))
