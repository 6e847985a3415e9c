-- What `clap` finds in the words of a command line.
use Rattle.std.specs.Prelude.{List, [], ◌∷◌, Option, Some, None}
use Rattle.clap.specs.Words.{App, Kinds, Row, Text, fault_of, matches_of}
use Rattle.clap.specs.declared.error.ErrorKind.{ErrorKind}
use Rattle.clap.specs.declared.error.ErrorKind.TheVariants.{OutOfMemory}
use Rattle.unwrap.specs.declared.command_line.matched.Refusal.{Refusal}
use Rattle.unwrap.specs.declared.command_line.matched.Refusal.TheVariants.{Memory, Usage}

-- the matches, where there is no fault
abbrev pub matched_at : Kinds → List Row → Option (List Row)
matched_at [] rows = Some rows
matched_at (k ∷ ks) rows = None

-- what `clap` finds in the words for a command, where it takes them; the first of the words is
-- passed over
unfoldable pub matched_in : App → List Text → Option (List Row)
matched_in a words = matched_at (fault_of a words) (matches_of a words)

-- what each kind of clap's errors comes to
abbrev pub refusal_of : ErrorKind → Refusal
refusal_of OutOfMemory = Memory
refusal_of _ = Usage
