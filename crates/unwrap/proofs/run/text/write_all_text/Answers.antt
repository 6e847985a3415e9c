use Rattle.std.proofs.Common.{ℕ, sym, subst, ap}
use Rattle.enc_io.specs.ReaderView.{standing_of}
use Rattle.unwrap.specs.declared.status.Status.{Status}
use Rattle.unwrap.specs.Status.{Counts, IsBehindFiles}
use Rattle.unwrap.specs.Streams.{copy_status}
use Rattle.unwrap.proofs.Streaming.{copy_behind, copy_counts}
use Rattle.unwrap.proofs.run.text.write_all_text.Goals as goal

pub returns-clause-streams : goal.returns-clause-streams
returns-clause-streams g c = record {
  after = standing_of c.copy_text-copied.new.reader;
  answer = c.copy_text-copied.result;
  copies = c.copy_text-copied.ensures.copies;
  same_status = c.copy_status.ensures;
  same_left = ap g.S.Source.left c.into_inner.ensures;
  same_faults = ap g.S.Source.faults c.into_inner.ensures;
}

pub returns-clause-counts : goal.returns-clause-counts
returns-clause-counts g c =
    let before = standing_of c.args.reader in
    let after = standing_of c.copy_text-copied.new.reader in
    let writes = g.K.Sink.faults c.args.out.now in
    let writes' = g.K.Sink.faults c.copy_text-copied.new.out in
    let done = copy_counts before after _ _ _ writes writes' c.copy_text-copied.result c.copy_text-copied.ensures.copies c.copy_text-copied.ensures.counted c.copy_text-copied.ensures.failed in
    subst (λ (s : Status). Counts s before.faults (g.S.Source.faults c.into_inner.result) writes writes') (sym c.copy_status.ensures)
    (subst (λ (n : ℕ). Counts (copy_status c.copy_text-copied.result) before.faults n writes writes') (sym (ap g.S.Source.faults c.into_inner.ensures)) done)

pub returns-clause-behind_files : goal.returns-clause-behind_files
returns-clause-behind_files g c = subst IsBehindFiles (sym c.copy_status.ensures) (copy_behind c.copy_text-copied.result)
