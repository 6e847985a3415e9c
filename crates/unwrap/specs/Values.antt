-- Values of a command line.
use Rattle.std.specs.Prelude.{ℕ, ◌==◌, nat_lt, Bool, false, List, [], ◌∷◌, length, map, Option}
use Rattle.std.specs.Prelude.{Some, None, codes, if◌then◌else◌, option_and_then}
use Rattle.std.specs.Borrow.{Bor}
use Rattle.std.specs.Option.{option_map}
use Rattle.std.specs.List.{before_first, after_first, position_or_len}
use Rattle.std.specs.Str.{bytes_eq}
use Rattle.enc_front.specs.declared.encoding.Encoding.{Encoding}
use Rattle.enc_front.specs.Encoding.{label}
use Rattle.enc_front.specs.declared.tables.IndexKind.{IndexKind}
use Rattle.unwrap.specs.declared.command_line.kinds.TheConstants.{KIND_WORDS}
use Rattle.unwrap.specs.declared.command_line.options.IndexFile.{IndexFile}
use Rattle.words.specs.declared.strategy.RecoverStrategy.{RecoverStrategy}
use Rattle.words.specs.declared.strategy.RecoverStrategy.TheVariants.{Decode, Skip, Abort}

-- a flag's text says that it was given
abbrev pub is_true_text : Option (List ℕ) → Bool
is_true_text None = false
is_true_text (Some text) = bytes_eq text (codes "true")

-- the encoding that a label names, where one is given; none where it is no label
abbrev pub encoding_read : Option (List ℕ) → Option (Option Encoding)
encoding_read None = Some None
encoding_read (Some text) = option_map Some (label text)

-- the strategy of a word
abbrev pub strategy_of : List ℕ → Option RecoverStrategy
strategy_of text =
    if bytes_eq text (codes "decode") then Some Decode
    else (if bytes_eq text (codes "skip") then Some Skip
    else (if bytes_eq text (codes "abort") then Some Abort else None))

abbrev pub strategy_read : Option (List ℕ) → Option RecoverStrategy
strategy_read None = Some Abort
strategy_read (Some text) = strategy_of text

-- words, and the kind of each
abbrev pub Words : Type 0
Words = List (List ℕ × IndexKind)

-- rows of a table in a program
abbrev pub rows_of : List (Bor (List ℕ) × IndexKind) → Words
rows_of rows = map (λ row. (row.0.now, row.1)) rows

-- the kind of the first row with this word
abbrev pub kind_in : Words → List ℕ → Option IndexKind
kind_in [] word = None
kind_in (row ∷ rows) word = if bytes_eq row.0 word then Some row.1 else kind_in rows word

-- the words for the kinds of index
unfoldable pub kind_words : Words
kind_words = map (λ row. (row.0.now, row.1)) KIND_WORDS

-- the kind of an index by its word
unfoldable pub kind_of : List ℕ → Option IndexKind
kind_of word = kind_in kind_words word

-- the byte `=`
abbrev pub is_equals : ℕ → Bool
is_equals b = b == 61

-- a file and its kind, where the file has a name and a kind
abbrev pub named_file : List ℕ → Option IndexKind → Option (IndexKind × List ℕ)
named_file name kind = if length name == 0 then None else option_map (λ k. (k, name)) kind

-- `KIND=FILE`: the kind, and the name behind the first `=`
unfoldable pub file_of : List ℕ → Option (IndexKind × List ℕ)
file_of word =
    if nat_lt (position_or_len is_equals word) (length word)
    then named_file (after_first is_equals word) (kind_of (before_first is_equals word)) else None

abbrev pub file_view : IndexFile → IndexKind × List ℕ
file_view file = (file.kind, file.name.now)

-- index files, one a word
abbrev pub files_read : List (List ℕ) → Option (List (IndexKind × List ℕ))
files_read [] = Some []
files_read (word ∷ words) =
    option_and_then (λ file. option_map (λ files. file ∷ files) (files_read words)) (file_of word)
