-- The table of commands, and what `clap` is told of each.
use Rattle.std.specs.Prelude.{ℕ, List, [], ◌∷◌, Option, Some, None, map, true, if◌then◌else◌}
use Rattle.std.specs.Borrow.{Bor}
use Rattle.std.specs.Str.{bytes_eq}
use Rattle.clap.specs.Lexer.{usize_max}
use Rattle.clap.specs.Words.{App, Rule, Text, new_app, new_rule, with_rule}
use Rattle.clap.specs.declared.builder.ArgAction.TheVariants.{SetTrue}
use Rattle.unwrap.specs.declared.command_line.table.CommandName.{CommandName}
use Rattle.unwrap.specs.declared.command_line.table.Form.{Form}
use Rattle.unwrap.specs.declared.command_line.table.Form.TheVariants.{Flag, OneValue, Value, Values}
use Rattle.unwrap.specs.declared.command_line.table.TheConstants.{COMMANDS}

-- an argument's form and name
abbrev pub Argument : Type 0
Argument = Form × Text

-- a command's word, the command, and its arguments in groups
pub record Row : Type 0 where
  pub word : Text
  pub name : CommandName
  pub groups : List (List Argument)

-- the same in a program
abbrev pub arguments_of : List (Form × Bor (List ℕ)) → List Argument
arguments_of arguments = map (λ argument. (argument.0, argument.1.now)) arguments

abbrev pub groups_of : List (Bor (List (Form × Bor (List ℕ)))) → List (List Argument)
groups_of groups = map (λ group. arguments_of group.now) groups

abbrev pub Listed : Type 0
Listed = Bor (List ℕ) × CommandName × Bor (List (Bor (List (Form × Bor (List ℕ)))))

abbrev pub row_view : Listed → Row
row_view row = record { word = row.0.now; name = row.1; groups = groups_of row.2.now }

abbrev pub rows_of : List Listed → List Row
rows_of rows = map row_view rows

-- the commands
unfoldable pub commands : List Row
commands = map (λ row. record {
  word = row.0.now;
  name = row.1;
  groups = map (λ group. map (λ argument. (argument.0, argument.1.now)) group.now) row.2.now;
}) COMMANDS

-- what `clap` is told of an argument: `--name VALUE` or `--name=VALUE`, at most once; `--name`, at
-- most once; any number of values, also between the options; one value, which has to be there
abbrev pub rule_of : Form → Text → Rule
rule_of Value name = record (new_rule name) { long = Some name }
rule_of Flag name = record (new_rule name) { long = Some name; action = Some SetTrue }
rule_of Values name = record (new_rule name)
    { range = Some (record { start_inclusive = 0; end_inclusive = usize_max }) }
rule_of OneValue name = record (new_rule name) { required = true }

abbrev pub with_arguments : App → List Argument → App
with_arguments a [] = a
with_arguments a (argument ∷ arguments) =
    with_arguments (with_rule a (rule_of argument.0 argument.1)) arguments

abbrev pub with_groups : App → List (List Argument) → App
with_groups a [] = a
with_groups a (group ∷ groups) = with_groups (with_arguments a group) groups

-- what `clap` is told of a command
unfoldable pub described : Row → App
described row = with_groups (new_app row.word) row.groups

-- the first row with this word
abbrev pub row_in : List Row → Text → Option Row
row_in [] word = None
row_in (row ∷ rows) word = if bytes_eq row.word word then Some row else row_in rows word

-- the row of a command's word
unfoldable pub row_of : Text → Option Row
row_of word = row_in commands word

-- the row that the first of the words names
abbrev pub row_named : List Text → Option Row
row_named [] = None
row_named (word ∷ words) = row_of word
