use Rattle.std.proofs.Common.{◌≡◌, not, ◌==◌, ◌&&◌, length, take}
use Rattle.std.specs.List.{list_all}
use Rattle.header_block.specs.Parts.{is_name_byte}
use Rattle.header_block.proofs.field_parts.is_name.Given as goal

abbrev pub invariant-loop-byte : goal.invariant-loop-byte
invariant-loop-byte l = l.all ≡ (not (length l.name == 0) && list_all is_name_byte (take l.byte-index l.name))
