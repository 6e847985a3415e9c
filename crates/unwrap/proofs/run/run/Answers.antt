use Rattle.unwrap.specs.Asked.{asked, texts_of}
use Rattle.unwrap.specs.Commands.{text_asked, unwrap_asked}
use Rattle.unwrap.specs.Header.{unwrapped}
use Rattle.unwrap.specs.Streams.{missing, written}
use Rattle.unwrap.proofs.Ended.{delivers_memory, every}
use Rattle.unwrap.proofs.FilesTaken.{tells_memory, with_memory}
use Rattle.unwrap.proofs.Streaming.{streams_none}
use Rattle.unwrap.proofs.run.run.Goals as goal

pub returns-in-Err-Memory-clause-unwrap : goal.returns-in-Err-Memory-clause-unwrap
returns-in-Err-Memory-clause-unwrap g c =
    rw c.told-in-Err-Memory.ensures.same
    (every (unwrap_asked (asked (texts_of c.args.words.now.items))) _ (λ (stream, strategy). with_memory stream.files (g.F.Shelf.files c.args.shelf.now) _
    (λ indexes. (delivers_memory (unwrapped stream strategy indexes) stream.reader.limit _ _, tells_memory (missing stream indexes)))))

pub returns-in-Err-Memory-clause-text : goal.returns-in-Err-Memory-clause-text
returns-in-Err-Memory-clause-text g c =
    rw c.told-in-Err-Memory.ensures.same
    (every (text_asked (asked (texts_of c.args.words.now.items))) _ (λ stream. with_memory stream.files (g.F.Shelf.files c.args.shelf.now) _
    (λ indexes. streams_none (missing stream indexes) (written stream indexes) stream.reader.limit _ _)))
