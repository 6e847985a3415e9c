-- Whether bytes have a malformed unit.
use Rattle.std.specs.Prelude.{ℕ, Bool, List}
use Rattle.std.specs.List.{list_any}
use Rattle.enc_drivers.specs.declared.unit.Item.{Item}
use Rattle.enc_drivers.specs.declared.unit.Mode.TheVariants.{Plain}
use Rattle.enc_drivers.specs.Units.{units}
use Rattle.enc_front.specs.declared.encoding.Encoding.{Encoding}
use Rattle.enc_front.specs.DecoderCalls.{is_malformed}
use Rattle.enc_front.specs.Indexes.{Indexes}
use Rattle.enc_front.specs.Units.{unit}

-- one of the units is malformed
abbrev pub some_malformed : List (Item × ℕ) → Bool
some_malformed us = list_any (λ u. is_malformed u.0) us

-- one of the units of bytes in an encoding is malformed (Encoding Standard, section 4.1, "error")
unfoldable pub has_malformed : Encoding → Indexes → List ℕ → Bool
has_malformed encoding indexes bytes = some_malformed (units (unit encoding indexes) Plain bytes)
