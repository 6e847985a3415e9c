-- The bytes that a front holds.
use Rattle.std.specs.Prelude.{ℕ, List, take}
use Rattle.enc_drivers.specs.declared.front.Front.{Front}

abbrev pub front_bytes : Front → List ℕ
front_bytes front = take front.len front.bytes
