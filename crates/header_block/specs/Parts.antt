-- The name and the value of a field (RFC 5322, section 2.2).
use Rattle.std.specs.Prelude.{ℕ, ◌+◌, ◌-◌, ◌==◌, ◌&&◌, nat_le, nat_lt, Bool, not, List, length, take, drop}
use Rattle.std.specs.List.{list_all, position_or_len, prefix_len, suffix_len}
use Rattle.header_block.specs.Fields.{is_wsp}

abbrev pub is_colon : ℕ → Bool
is_colon b = b == 58

-- how many bytes stand before the first colon, or in all
abbrev pub colon_place : List ℕ → ℕ
colon_place field = position_or_len is_colon field

-- what stands before the first colon, without spaces and tabs at its end (RFC 5322, section 4.5)
abbrev pub name_of : List ℕ → List ℕ
name_of field =
    let front = take (colon_place field) field in
    take (length front - suffix_len is_wsp front) front

-- what stands behind the first colon, without spaces and tabs at its front
abbrev pub value_of : List ℕ → List ℕ
value_of field =
    let behind = drop (colon_place field + 1) field in drop (prefix_len is_wsp behind) behind

-- a byte of a field's name: printable ASCII but the space (RFC 5322, section 2.2)
abbrev pub is_name_byte : ℕ → Bool
is_name_byte b = nat_le 33 b && nat_le b 126

-- a name isn't empty
abbrev pub is_name : List ℕ → Bool
is_name name = not (length name == 0) && list_all is_name_byte name

-- a field that has a colon, and a name before it
abbrev pub is_good : List ℕ → Bool
is_good field = nat_lt (colon_place field) (length field) && is_name (name_of field)
