-- What one byte decides.
use Rattle.std.proofs.Common.{◌≡◌, ℕ, ◌<◌, List, [], ◌∷◌, ◌++◌, true, false, length, get_or, map, Bool, Option, Some, None, refl, ap, ap₂, sym, subst, ◌∙◌, arith}
use lib.Lanes.{Each1}
use Rattle.std.specs.Option.{option_map_or}
use Rattle.std.specs.Prelude.{nat_le, nat_lt, IfSome}
use Rattle.std.proofs.lemmas.Bool.{lt-leb, lt-ltb, ltb-true, ltb-false}
use Rattle.std.proofs.lemmas.List.Elements.{All-head, All-tail}
use Rattle.enc_drivers.specs.declared.unit.Item.{Item}
use Rattle.enc_drivers.specs.declared.unit.Item.TheVariants.{One, Malformed}
use Rattle.enc_drivers.specs.Bulk.{BeginsWithScalar, IsScalarOf, IsItemEntry, ReadsEntries}
use Rattle.enc_drivers.specs.declared.unit.Mode.{Mode}
use Rattle.enc_drivers.specs.Units.{AreBytes, scalar_at}
use Rattle.enc_drivers.specs.Lookup.{Places, IsByteEntry, AreByteEntries}
use Rattle.enc_drivers.specs.Codes.Windows1252.{windows_1252_scalar, windows_1252_unit}
use Rattle.enc_drivers.specs.Codes.UserDefined.{user_defined_scalar, user_defined_unit}
use Rattle.enc_drivers.specs.Codes.SingleByte.{single_byte_item, single_byte_unit, TellsEach}

pub windows_1252_front : (mode : Mode) (front more : List ℕ) → 0 < length front → windows_1252_unit mode (front ++ more) ≡ scalar_at mode (windows_1252_scalar (get_or front 0 0)) 1
unfolding windows_1252_unit
windows_1252_front mode [] more h = absurd (omega arith)
windows_1252_front mode (b ∷ front) more h = refl

pub user_defined_front : (mode : Mode) (front more : List ℕ) → 0 < length front → user_defined_unit mode (front ++ more) ≡ scalar_at mode (user_defined_scalar (get_or front 0 0)) 1
unfolding user_defined_unit
user_defined_front mode [] more h = absurd (omega arith)
user_defined_front mode (b ∷ front) more h = refl

pub single_byte_front : (places : Places) (mode : Mode) (front more : List ℕ) → 0 < length front
    → single_byte_unit places mode (front ++ more) ≡ record { item = single_byte_item places (get_or front 0 0); len = 1; next = mode }
unfolding single_byte_unit
single_byte_front places mode [] more h = absurd (omega arith)
single_byte_front places mode (b ∷ front) more h = refl

-- a byte below 80 stands for itself
pub windows_1252_ascii : (mode : Mode) (byte : ℕ) (rest : List ℕ) → byte < 0x80 → windows_1252_unit mode (byte ∷ rest) ≡ scalar_at mode byte 1
unfolding windows_1252_unit windows_1252_scalar
windows_1252_ascii mode byte rest low =
    let below : nat_le 0x80 byte ≡ false = lt-leb 0x80 byte low in
    rw below refl

pub user_defined_ascii : (mode : Mode) (byte : ℕ) (rest : List ℕ) → byte < 0x80 → user_defined_unit mode (byte ∷ rest) ≡ scalar_at mode byte 1
unfolding user_defined_unit user_defined_scalar
user_defined_ascii mode byte rest low =
    let below : nat_lt byte 0x80 ≡ true = lt-ltb byte 0x80 low in
    rw below refl

pub single_byte_ascii : (places : Places) (mode : Mode) (byte : ℕ) (rest : List ℕ) → byte < 0x80 → single_byte_unit places mode (byte ∷ rest) ≡ scalar_at mode byte 1
unfolding single_byte_unit single_byte_item
single_byte_ascii places mode byte rest low =
    let below : nat_lt byte 0x80 ≡ true = lt-ltb byte 0x80 low in
    rw below refl

-- a scalar of an index, and the scalars of bytes by their numbers
pub single_byte_scalar : (places : Places) (bytes : List ℕ) (r : Option (ℕ × ℕ)) (i : Item) → 0 < length bytes → i ≡ single_byte_item places (get_or bytes 0 0)
    → IfSome r (λ found. IsScalarOf i 1 found) → IfSome r (λ found. BeginsWithScalar (single_byte_unit places) bytes found.0 found.1)
single_byte_scalar places bytes None i h e told = told
single_byte_scalar places bytes (Some found) i h e told = λ mode more are.
    single_byte_front places mode bytes more h ∙ (ap (λ (j : Item). record { item = j; len = 1; next = mode }) (sym e ∙ told.0) ∙ ap (λ n. scalar_at mode found.0 n) (sym told.1))

number_of : (places : Places) (numbers : List ℕ) (b : ℕ) → b < 256 → AreByteEntries places numbers → 0 < get_or numbers b 0 → IsItemEntry (single_byte_item places b) (get_or numbers b 0)
unfolding single_byte_item
number_of places numbers b fits are some = by_test (nat_lt b 0x80) refl
  where
    here : IsByteEntry places b (get_or numbers b 0)
    here = are b fits some

    by_test : (t : Bool) → nat_lt b 0x80 ≡ t → IsItemEntry (single_byte_item places b) (get_or numbers b 0)
    by_test true e =
        let low = ltb-true b 0x80 e in
        record { code = b; is = rw e refl; small = omega arith; entry = here.ascii low }
    by_test false e =
        let found = here.other (ltb-false b 0x80 e) in
        record { code = found.code; is = rw e (ap (λ o. option_map_or (λ c. One c) o Malformed) found.is); small = found.small; entry = found.entry }

pub reads_numbers : (places : Places) (table bs : List ℕ) → AreByteEntries places table → AreBytes bs → Each1 (λ number. 0 < number) (map (λ b. get_or table b 0) bs)
    → ReadsEntries (single_byte_unit places) bs (map (λ b. get_or table b 0) bs)
unfolding single_byte_unit
reads_numbers places table [] are fits some = record { scalars = []; entries = record { small = tt; entries = refl }; reads = tt }
reads_numbers places table (b ∷ bs) are fits some =
    let first = number_of places table b (All-head (λ c. c < 256) b bs fits) are some.0 in
    let rest = reads_numbers places table bs are (All-tail (λ c. c < 256) b bs fits) some.1 in
    record {
      scalars = first.code ∷ rest.scalars;
      entries = record {
        small = (first.small, rest.entries.small);
        entries = ap₂ (λ n ns. n ∷ ns) first.entry rest.entries.entries;
      };
      reads = (λ mode more. ap (λ (i : Item). record { item = i; len = 1; next = mode }) first.is, rest.reads);
    }

pub block_reads : (places : Places) (table bs : List ℕ) (r : Option (List ℕ)) → AreByteEntries places table → AreBytes bs → IfSome r (λ block. TellsEach table bs block)
    → IfSome r (λ block. ReadsEntries (single_byte_unit places) bs block)
block_reads places table bs None are fits told = told
block_reads places table bs (Some block) are fits told =
    let same = told.numbers_are in
    subst (λ (l : List ℕ). ReadsEntries (single_byte_unit places) bs l) (sym same)
    (reads_numbers places table bs are fits (subst (λ (l : List ℕ). Each1 (λ number. 0 < number) l) same told.some))
