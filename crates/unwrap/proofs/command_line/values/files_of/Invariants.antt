use Rattle.std.proofs.Common.{◌≡◌, ℕ, List, ◌++◌, map, drop}
use Rattle.std.specs.Option.{option_map}
use Rattle.clap.specs.Walk.{texts}
use Rattle.enc_front.specs.declared.tables.IndexKind.{IndexKind}
use Rattle.unwrap.specs.Values.{file_view, files_read}
use Rattle.unwrap.proofs.command_line.values.files_of.Given as goal

abbrev pub invariant-loop-word : goal.invariant-loop-word
invariant-loop-word l =
    files_read (texts l.words) ≡ option_map (λ (rest : List (IndexKind × List ℕ)). map file_view l.files.items ++ rest) (files_read (texts (drop l.word-index l.words)))
