-- The fields of a scalar's bytes are those that the bytes give.
use Rattle.std.specs.Prelude.{◌≡◌, take}
use Rattle.enc_drivers.specs.declared.encode.Encoded.TheInside.{Inside}
use Rattle.enc_drivers.specs.Encoded.{IsPadded, padded}

pub is_padded : (e : Inside) → IsPadded e → padded (take e.len e.bytes) ≡ e
is_padded e h = λ i. record { bytes = h.zeros i; len = h.length_is i }
