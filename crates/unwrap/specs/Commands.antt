-- What a command with its options is, as plain data.
use Rattle.std.specs.Prelude.{◌≡◌, ℕ, Bool, true, false, List, [], Option, Some, None, Result}
use Rattle.std.specs.Prelude.{MatchResult}
use Rattle.unwrap.specs.declared.command_line.Command.{Command}
use Rattle.unwrap.specs.declared.command_line.Command.TheVariants as command
use Rattle.unwrap.specs.declared.command_line.matched.Refusal.{Refusal}
use Rattle.unwrap.specs.declared.command_line.matched.Refusal.TheVariants.{Usage}
use Rattle.words.specs.declared.strategy.RecoverStrategy.{RecoverStrategy}
use Rattle.unwrap.specs.declared.status.Status.{Status}
use Rattle.unwrap.specs.Status.{HasText, HasTextSoFar, IsBeforeSource}
use Rattle.unwrap.specs.TablesOf.{Named}
use Rattle.unwrap.specs.Asked.{Asked, Quoted, Stream, Unwrap, StreamText, QpEncode, QpDecode, Make}
use Rattle.unwrap.specs.Asked.{quoted_view, stream_view}

abbrev pub command_view : Command → Asked
command_view (command.Unwrap options strategy) = Unwrap (stream_view options) strategy
command_view (command.StreamText options) = StreamText (stream_view options)
command_view (command.QpEncode options) = QpEncode (quoted_view options)
command_view (command.QpDecode options) = QpDecode (quoted_view options)
command_view (command.Make parts) = Make parts.number

-- a command is what was asked for, and a refusal that isn't want of memory comes only where nothing
-- was
abbrev pub Gives : Option Asked → Result Command Refusal → Type 0
Gives asked result = MatchResult result (λ c. asked ≡ Some (command_view c))
    (λ e. e ≡ Usage → asked ≡ None)

-- the index files that are named
abbrev pub named : Option Asked → List Named
named (Some (Unwrap stream strategy)) = stream.files
named (Some (StreamText stream)) = stream.files
named _ = []

-- what each command is asked for, where it is the one that is asked
abbrev pub unwrap_asked : Option Asked → Option (Stream × RecoverStrategy)
unwrap_asked (Some (Unwrap stream strategy)) = Some (stream, strategy)
unwrap_asked _ = None

abbrev pub text_asked : Option Asked → Option Stream
text_asked (Some (StreamText stream)) = Some stream
text_asked _ = None

-- and whether quoted-printable text is made
abbrev pub quoted_asked : Option Asked → Option (Bool × Quoted)
quoted_asked (Some (QpEncode options)) = Some (true, options)
quoted_asked (Some (QpDecode options)) = Some (false, options)
quoted_asked _ = None

abbrev pub make_asked : Option Asked → Option ℕ
make_asked (Some (Make parts)) = Some parts
make_asked _ = None

-- the sink has got something: of `text`, also where reading failed
abbrev pub MayHaveText : Option Asked → Status → Type 0
MayHaveText (Some (StreamText stream)) status = HasTextSoFar status
MayHaveText _ status = HasText status

-- what stays the same: the shelf where no index file is named, the source where the command ended
-- before it called it, and the sink where nothing was to be written
pub record Keeps {F S K : Type 0} (asked : Option Asked) (status : Status) (shelf shelf' : F)
    (source source' : S) (sink sink' : K) : Type 0 where
  pub no_fetch : named asked ≡ [] → shelf' ≡ shelf
  pub no_read : IsBeforeSource status → source' ≡ source
  pub no_write : ¬ MayHaveText asked status → sink' ≡ sink
