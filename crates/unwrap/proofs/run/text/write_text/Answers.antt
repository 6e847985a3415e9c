use Rattle.std.proofs.Common.{◌≡◌, ◌≤◌, ℕ, List, Option, None, Some, refl, sym, subst, ap, ◌∙◌, arith}
use Rattle.enc_front.specs.Indexes.{indexes_of}
use Rattle.enc_front.specs.declared.encoding.Encoding.{Encoding}
use Rattle.enc_io.specs.BuilderView.{build_error}
use Rattle.enc_io.specs.Options.{Options, unknown_encoding}
use Rattle.enc_io.specs.Reader.{fresh}
use Rattle.enc_io.specs.ReaderView.{standing_of}
use Rattle.unwrap.specs.declared.status.Status.{Status}
use Rattle.unwrap.specs.Status.{IsBeforeSource, IsBehindFiles, build_status}
use Rattle.unwrap.specs.Streams.{Streams, reader_of, writing}
use Rattle.unwrap.proofs.Streaming.{build_behind, copy_reads, not_missing, streams_end, streams_refused, streams_same}
use Rattle.unwrap.proofs.run.text.write_text.Goals as goal

pub returns-in-Ok-build_with_buffer-clause-streams : goal.returns-in-Ok-build_with_buffer-clause-streams
returns-in-Ok-build_with_buffer-clause-streams g c =
    let o = reader_of c.args.options.now.reader in
    let i = indexes_of c.args.tables.now in
    let room = c.in-Ok.buffer.len in
    let left = g.S.Source.left c.args.source in
    let faults = g.S.Source.faults c.args.source in
    let calls = g.S.Source.calls c.args.source in
    let is = subst (λ (x : Options). standing_of c.in-Ok-build_with_buffer.reader ≡ fresh x i room left faults calls) c.builder_of.ensures c.in-Ok-build_with_buffer.ensures.fresh in
    let rooms : room ≡ c.args.options.now.buffer = omega (arith, c.in-Ok.ensures) in
    let pieces = c.as_mut_slice.ensures.len ∙ c.in-Ok-zeroes.ensures in
    let none : None ≡ unknown_encoding o i =
    not_missing o i room (subst (λ (x : Options). build_error x i room ≡ None) c.builder_of.ensures c.in-Ok-build_with_buffer.ensures.built) in
    subst (λ (m : Option Encoding). Streams m (writing o i c.args.options.now.buffer c.args.options.now.piece) o.limit left (g.S.Source.left c.write_all_text.result.source) (g.K.Sink.taken c.args.out.now)
    (g.K.Sink.taken c.write_all_text.new.out) c.write_all_text.result.status) none
    (streams_same None o i room _ _ _ _ _ _ _ _ _ rooms pieces (streams_end o i room _ left _ faults _ calls _ _ _ _ is c.write_all_text.ensures.streams))

pub returns-clause-streams : goal.returns-clause-streams
returns-clause-streams g c =
    let o = reader_of c.args.options.now.reader in
    let i = indexes_of c.args.tables.now in
    let room = c.in-Ok.buffer.len in
    let left = g.S.Source.left c.args.source in
    let taken = g.K.Sink.taken c.args.out.now in
    let error = c.in-Err-build_with_buffer.refused.2 in
    let rooms : room ≡ c.args.options.now.buffer = omega (arith, c.in-Ok.ensures) in
    let enough : 4 ≤ room = omega (arith, c.in-Ok.ensures, c.args.options.now.buffer_fits) in
    let refused = subst (λ (x : Options). build_error x i room ≡ Some error) c.builder_of.ensures c.in-Err-build_with_buffer.ensures.refused in
    let back = ap g.S.Source.left (sym c.in-Err-build_with_buffer.ensures.handed_back.0) in
    subst (λ (s : Status). Streams (unknown_encoding o i) (writing o i c.args.options.now.buffer c.args.options.now.piece) o.limit left (g.S.Source.left c.in-Err-build_with_buffer.refused.0) taken taken s) (sym c.from.ensures)
    (subst (λ (l : Option (List ℕ)). Streams (unknown_encoding o i) (writing o i c.args.options.now.buffer c.args.options.now.piece) o.limit left l taken taken (build_status error)) back
    (streams_same _ o i room _ _ _ _ _ _ _ _ _ rooms refl (streams_refused o i room c.args.options.now.piece left taken error enough refused)))

pub returns-in-Ok-build_with_buffer-clause-unread : goal.returns-in-Ok-build_with_buffer-clause-unread
returns-in-Ok-build_with_buffer-clause-unread g c =
    λ h. absurd (copy_reads c.write_all_text.ensures.streams.answer (subst IsBeforeSource c.write_all_text.ensures.streams.same_status h))

pub returns-clause-unread : goal.returns-clause-unread
returns-clause-unread g c = λ _. c.in-Err-build_with_buffer.ensures.handed_back.0

pub returns-clause-behind_files : goal.returns-clause-behind_files
returns-clause-behind_files g c = subst IsBehindFiles (sym c.from.ensures) (build_behind c.in-Err-build_with_buffer.refused.2)
