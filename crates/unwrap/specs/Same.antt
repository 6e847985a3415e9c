-- When two statuses, or two errors of a header, are the same. Errors of `words` in them may hold
-- texts, and count as the same where the test `equal` says so.
use Rattle.std.specs.Prelude.{◌≡◌, Bool, true}
use Rattle.words.specs.declared.decoder.Error.{Error}
use Rattle.words.specs.declared.lexer.LexerError.{LexerError}
use Rattle.unwrap.specs.declared.header.HeaderError.{HeaderError}
use Rattle.unwrap.specs.declared.header.HeaderError.TheVariants.{Lexer}
use Rattle.unwrap.specs.declared.status.Status.{Status}
use Rattle.unwrap.specs.declared.status.Status.TheVariants.{Header}

-- the same status, or two with equal errors of `words`
abbrev pub IsSameStatus : (Error → Error → Bool) → Status → Status → Type 0
IsSameStatus equal (Header x) (Header y) = equal x y ≡ true
IsSameStatus equal x y = x ≡ y

-- the same error, or two with equal errors of the lexer, which alone hold texts
abbrev pub IsSameError : (LexerError → LexerError → Bool) → HeaderError → HeaderError → Type 0
IsSameError equal (Lexer x) (Lexer y) = equal x y ≡ true
IsSameError equal x y = x ≡ y
