-- What holds of words and readings at every list.
use Rattle.std.specs.Prelude.{◌≡◌, ℕ, ◌↔◌, Some, List}
use Rattle.words.specs.Word.{Word, BeginsWith, word_at}
use Rattle.words.specs.Reading.{Part, spellings, IsReading, reading_of}

-- at most one word begins a list, so its fields and its spelling are determined
abbrev pub OneWord : Type 0
OneWord = (s : List ℕ) (v w : Word) → BeginsWith s v → BeginsWith s w → v ≡ w

-- `word_at` finds the word that begins a list, and nothing else
abbrev pub WordFound : Type 0
WordFound = (s : List ℕ) (w : Word) → (word_at s ≡ Some w) ↔ BeginsWith s w

-- every list has a reading
abbrev pub ReadingExists : Type 0
ReadingExists = (s : List ℕ) → IsReading s (reading_of s)

-- every list has one reading alone
abbrev pub OneReading : Type 0
OneReading = (s : List ℕ) (parts : List Part) → IsReading s parts ↔ (parts ≡ reading_of s)

-- the spellings of a list's reading join to the list
abbrev pub SpellingsJoin : Type 0
SpellingsJoin = (s : List ℕ) → spellings (reading_of s) ≡ s
