-- Byte order marks (Encoding Standard, section 6: "BOM sniff" and "decode").
use Rattle.std.specs.Prelude.{ℕ, nat_eq, if◌then◌else◌, List, [], ◌∷◌, length, drop, Option, Some}
use Rattle.std.specs.Prelude.{None}
use Rattle.std.specs.List.{starts_with}
use Rattle.std.specs.Option.{option_map_or}
use Rattle.enc_front.specs.declared.encoding.Encoding.{Encoding}
use Rattle.enc_front.specs.declared.encoding.Encoding.TheVariants.{Utf8, Utf16Be, Utf16Le}

-- the mark of an encoding; only three have one
abbrev pub mark_of : Encoding → List ℕ
mark_of Utf8 = 0xEF ∷ 0xBB ∷ 0xBF ∷ []
mark_of Utf16Be = 0xFE ∷ 0xFF ∷ []
mark_of Utf16Le = 0xFF ∷ 0xFE ∷ []
mark_of _ = []

-- the encoding whose mark begins the bytes, and the mark's length
abbrev pub mark : List ℕ → Option (Encoding × ℕ)
mark bytes =
    if starts_with nat_eq bytes (mark_of Utf8) then Some (Utf8, 3)
    else (if starts_with nat_eq bytes (mark_of Utf16Be) then Some (Utf16Be, 2)
    else (if starts_with nat_eq bytes (mark_of Utf16Le) then Some (Utf16Le, 2)
    else None))

-- the bytes without their mark
abbrev pub without_mark : List ℕ → List ℕ
without_mark bytes = option_map_or (λ m. drop m.1 bytes) (mark bytes) bytes

-- the bytes without their mark, where it is this encoding's
abbrev pub own : Encoding → List ℕ → List ℕ
own encoding bytes = if starts_with nat_eq bytes (mark_of encoding)
    then drop (length (mark_of encoding)) bytes else bytes
