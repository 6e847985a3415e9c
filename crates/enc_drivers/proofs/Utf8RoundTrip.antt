-- What UTF-8 writes of a scalar is read as that scalar.
use Rattle.std.proofs.Common.{◌≡◌, ℕ, List, ◌++◌, length, drop, refl, sym, ap, ◌∙◌, arith}
use Rattle.std.specs.Char.{IsScalar, encode_utf8}
use Rattle.std.proofs.lemmas.Bool.{ne_eqb}
use Rattle.std.proofs.lemmas.Str.{encode_same}
use Rattle.enc_handles.specs.Utf8.{sequence_len, sequence_scalar}
use Rattle.enc_handles.proofs.Sequences.{sequence-Decodes, encode-sequence}
use Rattle.enc_drivers.specs.declared.unit.Mode.{Mode}
use Rattle.enc_drivers.specs.Units.{scalar_at}
use Rattle.enc_drivers.specs.Codes.Utf8.{utf8_unit}

-- what is written of a scalar is read as it, whatever follows
pub utf8_round_trip : (mode : Mode) (c : ℕ) (rest : List ℕ) → IsScalar c → utf8_unit mode (encode_utf8 c ++ rest) ≡ scalar_at mode c (length (encode_utf8 c))
unfolding utf8_unit
utf8_round_trip mode c rest h =
    let bytes = encode_utf8 c ++ rest in
    let some = encode-sequence c rest h in
    let d = sequence-Decodes bytes some in
    let scalar : sequence_scalar bytes ≡ c = sym (encode_same c (sequence_scalar bytes) rest (drop (sequence_len bytes) bytes) d.front).0 in
    let len : sequence_len bytes ≡ length (encode_utf8 c) = sym d.length_is ∙ ap (λ x. length (encode_utf8 x)) scalar in
    let not_none = ne_eqb (sequence_len bytes) 0 (λ z. absurd (omega arith)) in
    rw (not_none, scalar, len) refl
