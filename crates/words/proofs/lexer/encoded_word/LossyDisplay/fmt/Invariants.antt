use Rattle.std.proofs.Common.{◌≡◌, ◌++◌, List, ℕ}
use Rattle.std.specs.Fmt.{HasWritten, IsPlainFormatter}
use Rattle.std.specs.Str.Chunks.{utf8_chunks_rest}
use Rattle.std.specs.Str.Lossy.{utf8_lossy}
use Rattle.words.proofs.lexer.encoded_word.LossyDisplay.fmt.Given as goal

-- what was written, with the text of the bytes that are left, is the text of all the bytes
abbrev pub invariant-loop-chunk : goal.invariant-loop-chunk
invariant-loop-chunk g l =
    IsPlainFormatter l.initial.f → (bs : List ℕ) × HasWritten g.W.Write.write_str_gives l.initial.f bs l.f
    × (bs ++ utf8_lossy (utf8_chunks_rest l.chunk-iterator) ≡ utf8_lossy l.self.0.now)
