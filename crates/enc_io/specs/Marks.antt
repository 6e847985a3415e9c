-- What is peeked at the front of a stream (Encoding Standard, section 6.1: "BOM sniff").
use Rattle.std.specs.Prelude.{ℕ, nat_lt, Bool, if◌then◌else◌, List, length, take, Option, None}
use Rattle.std.specs.Option.{option_map, option_map_or}
use Rattle.enc_io.specs.declared.bom.PossibleBom.{PossibleBom}
use Rattle.enc_front.specs.declared.encoding.Encoding.{Encoding}
use Rattle.enc_front.specs.Marks.{mark}

-- the bytes that were gathered
abbrev pub bom_bytes : PossibleBom → List ℕ
bom_bytes bom = take bom.len bom.bytes

-- the encoding of the mark that begins them; none under three bytes, where "BOM sniff" takes the
-- two bytes of a UTF-16 mark alone too
abbrev pub peeked_encoding : List ℕ → Option Encoding
peeked_encoding bytes = if nat_lt (length bytes) 3 then None
    else option_map (λ found. found.0) (mark bytes)

-- the length of the mark that begins them, where a mark is taken off
abbrev pub front_length : Bool → List ℕ → ℕ
front_length strips bytes = if strips then option_map_or (λ found. found.1) (mark bytes) 0 else 0
