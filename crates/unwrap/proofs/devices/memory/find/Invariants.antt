use Rattle.std.proofs.Common.{◌≡◌, drop}
use Rattle.unwrap.specs.Files.{file, files_of}
use Rattle.unwrap.proofs.devices.memory.find.Given as goal

abbrev pub invariant-loop-entry : goal.invariant-loop-entry
invariant-loop-entry l = file (files_of l.files) l.name ≡ file (files_of (drop l.entry-index l.files)) l.name
