use Rattle.std.proofs.Common.{◌≡◌, take}
use Rattle.enc_drivers.specs.Front.{front_bytes}
use Rattle.enc_drivers.proofs.front.Front.of.Given as goal

abbrev pub invariant-loop-byte : goal.invariant-loop-byte
invariant-loop-byte l = front_bytes l.front ≡ take l.byte-index l.bytes
