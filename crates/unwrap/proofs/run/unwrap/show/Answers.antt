use Rattle.std.proofs.Common.{List, Ok, Err, subst, map}
use Rattle.unwrap.specs.declared.command_line.options.IndexFile.{IndexFile}
use Rattle.unwrap.specs.declared.status.Status.{Status}
use Rattle.unwrap.specs.Asked.{stream_view}
use Rattle.unwrap.specs.Delivers.{Delivers}
use Rattle.unwrap.specs.Header.{unwrapped}
use Rattle.unwrap.specs.Indexes.{MakesTables}
use Rattle.unwrap.specs.Status.{TellsTable}
use Rattle.unwrap.specs.Streams.{missing}
use Rattle.unwrap.specs.Values.{file_view}
use Rattle.enc_front.specs.Indexes.{Indexes}
use Rattle.unwrap.proofs.Ended.{delivers_memory}
use Rattle.unwrap.proofs.FilesTaken.{behind_no_usage, files_counts, of_files_no_usage, takes_made, tells_memory, with_made, with_refused}
use Rattle.unwrap.proofs.run.unwrap.show.Goals as goal

pub returns-in-Err-clause-no_usage : goal.returns-in-Err-clause-no_usage
returns-in-Err-clause-no_usage g c = of_files_no_usage _ c.in-Err.ensures.makes.0

pub returns-in-Err-clause-counts : goal.returns-in-Err-clause-counts
returns-in-Err-clause-counts g c = files_counts _ _ _ c.in-Err.ensures.makes.0

pub returns-in-Err-clause-files : goal.returns-in-Err-clause-files
returns-in-Err-clause-files g c =
    (subst (λ (xs : List IndexFile). MakesTables (map file_view xs) (g.F.Shelf.files c.args.shelf.now) (g.F.Shelf.files c.tables_of.new.shelf) (g.F.Shelf.faults c.args.shelf.now) (g.F.Shelf.faults c.tables_of.new.shelf) (g.F.Shelf.calls c.args.shelf.now) (g.F.Shelf.calls c.tables_of.new.shelf) (Err c.in-Err.status)) c.as_slice.ensures.value c.in-Err.ensures.makes).1

pub returns-in-Err-clause-delivers : goal.returns-in-Err-clause-delivers
returns-in-Err-clause-delivers g c =
    let stream = stream_view c.args.options.now in
    let limit = c.args.options.now.reader.limit in
    with_refused (map file_view c.args.options.now.files.items) (g.F.Shelf.files c.args.shelf.now) (g.F.Shelf.files c.tables_of.new.shelf) (g.F.Shelf.faults c.args.shelf.now) (g.F.Shelf.faults c.tables_of.new.shelf) (g.F.Shelf.calls c.args.shelf.now) (g.F.Shelf.calls c.tables_of.new.shelf) c.in-Err.status
    (λ (s : Status) (i : Indexes). Delivers (unwrapped stream c.args.strategy i) limit (g.S.Source.left c.args.source) (g.S.Source.left c.args.source)
    (g.K.Sink.taken c.args.out.now) (g.K.Sink.taken c.args.out.now) s × TellsTable (missing stream i) s)
    (subst (λ (xs : List IndexFile). MakesTables (map file_view xs) (g.F.Shelf.files c.args.shelf.now) (g.F.Shelf.files c.tables_of.new.shelf) (g.F.Shelf.faults c.args.shelf.now) (g.F.Shelf.faults c.tables_of.new.shelf) (g.F.Shelf.calls c.args.shelf.now) (g.F.Shelf.calls c.tables_of.new.shelf) (Err c.in-Err.status)) c.as_slice.ensures.value c.in-Err.ensures.makes)
    (λ i. (delivers_memory (unwrapped stream c.args.strategy i) limit _ _, tells_memory (missing stream i)))

pub returns-clause-no_usage : goal.returns-clause-no_usage
returns-clause-no_usage g c = behind_no_usage _ c.deliver.ensures.behind_files

pub returns-clause-files : goal.returns-clause-files
returns-clause-files g c =
    takes_made (map file_view c.args.options.now.files.items) (g.F.Shelf.files c.args.shelf.now) (g.F.Shelf.files c.tables_of.new.shelf) (g.F.Shelf.faults c.args.shelf.now) (g.F.Shelf.faults c.tables_of.new.shelf) (g.F.Shelf.calls c.args.shelf.now) (g.F.Shelf.calls c.tables_of.new.shelf) c.in-Ok.tables c.deliver.result.status (subst (λ (xs : List IndexFile). MakesTables (map file_view xs) (g.F.Shelf.files c.args.shelf.now) (g.F.Shelf.files c.tables_of.new.shelf) (g.F.Shelf.faults c.args.shelf.now) (g.F.Shelf.faults c.tables_of.new.shelf) (g.F.Shelf.calls c.args.shelf.now) (g.F.Shelf.calls c.tables_of.new.shelf) (Ok c.in-Ok.tables)) c.as_slice.ensures.value c.in-Ok.ensures.makes)
    c.deliver.ensures.behind_files

pub returns-clause-delivers : goal.returns-clause-delivers
returns-clause-delivers g c =
    let stream = stream_view c.args.options.now in
    with_made (map file_view c.args.options.now.files.items) (g.F.Shelf.files c.args.shelf.now) (g.F.Shelf.files c.tables_of.new.shelf) (g.F.Shelf.faults c.args.shelf.now) (g.F.Shelf.faults c.tables_of.new.shelf) (g.F.Shelf.calls c.args.shelf.now) (g.F.Shelf.calls c.tables_of.new.shelf) c.in-Ok.tables c.deliver.result.status
    (λ (i : Indexes). Delivers (unwrapped stream c.args.strategy i) c.args.options.now.reader.limit (g.S.Source.left c.args.source) (g.S.Source.left c.deliver.result.source)
    (g.K.Sink.taken c.args.out.now) (g.K.Sink.taken c.deliver.new.out) c.deliver.result.status × TellsTable (missing stream i) c.deliver.result.status)
    (subst (λ (xs : List IndexFile). MakesTables (map file_view xs) (g.F.Shelf.files c.args.shelf.now) (g.F.Shelf.files c.tables_of.new.shelf) (g.F.Shelf.faults c.args.shelf.now) (g.F.Shelf.faults c.tables_of.new.shelf) (g.F.Shelf.calls c.args.shelf.now) (g.F.Shelf.calls c.tables_of.new.shelf) (Ok c.in-Ok.tables)) c.as_slice.ensures.value c.in-Ok.ensures.makes)
    (c.deliver.ensures.delivers, c.deliver.ensures.tables)
