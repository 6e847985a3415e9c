-- What a transcoder of few bytes shows.
use Rattle.std.specs.Prelude.{ℕ, List, take, drop}
use Rattle.enc_io.specs.declared.tiny.TinyTranscoder.{TinyTranscoder}

-- the bytes that wait
abbrev pub waiting_of : TinyTranscoder → List ℕ
waiting_of tiny = drop tiny.pos (take tiny.len tiny.partial)
