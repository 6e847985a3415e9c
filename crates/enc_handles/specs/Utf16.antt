-- Code units, surrogates and the text of scalars in UTF-16.
-- Encoding Standard, section 14.2 (shared UTF-16 decoder), and Infra Standard, section 4.6
-- (surrogates).
use Rattle.std.specs.Prelude.{◌≡◌, ℕ, ◌+◌, ◌*◌, ◌-◌, ◌≤◌, ◌<◌, Bool, true, false, not, ◌&&◌, ◌||◌}
use Rattle.std.specs.Prelude.{◌⊎◌, List, [], ◌∷◌, ◌++◌, length, take, slice_index, nat_le, nat_lt}
use Rattle.std.specs.Prelude.{if◌then◌else◌}
use Rattle.std.specs.Char.{IsScalar}
use Rattle.std.specs.Char.Escape.{encode_utf16}
use Rattle.std.specs.List.{flat_map}

-- a leading surrogate, a trailing surrogate, and either
abbrev pub is_lead : ℕ → Bool
is_lead unit = nat_le 0xD800 unit && nat_le unit 0xDBFF

abbrev pub is_trail : ℕ → Bool
is_trail unit = nat_le 0xDC00 unit && nat_le unit 0xDFFF

abbrev pub is_surrogate : ℕ → Bool
is_surrogate unit = nat_le 0xD800 unit && nat_le unit 0xDFFF

-- the scalar of a pair
abbrev pub pair_scalar : ℕ → ℕ → ℕ
pair_scalar lead trail = 0x1_0000 + (lead - 0xD800) * 0x400 + (trail - 0xDC00)

-- the code unit of two bytes, the more significant byte first where big is true
abbrev pub code_unit : Bool → ℕ → ℕ → ℕ
code_unit big first second = if big then first * 0x100 + second else second * 0x100 + first

-- the whole code units of a list of bytes; an odd last byte is in none
abbrev pub code_units : Bool → List ℕ → List ℕ
code_units big [] = []
code_units big (first ∷ []) = []
code_units big (first ∷ second ∷ bytes) = code_unit big first second ∷ code_units big bytes

-- the units without the last one where that is a leading surrogate, which a later unit may complete
abbrev pub without_last_lead : List ℕ → List ℕ
without_last_lead units = if is_lead (slice_index units (length units - 1))
    then take (length units - 1) units else units

-- the unit at place k is a surrogate in no pair: a lead that no trail follows, or a trail that
-- follows no lead
abbrev pub is_unpaired_at : List ℕ → ℕ → Bool
is_unpaired_at units k =
    (is_lead (slice_index units k) && not (is_trail (slice_index units (k + 1))))
    || (is_trail (slice_index units k) && not (nat_lt 0 k && is_lead (slice_index units (k - 1))))

-- no surrogate among the first n units is unpaired
abbrev pub PairedUpTo : List ℕ → ℕ → Type 0
PairedUpTo units n = (k : ℕ) → k < n → is_unpaired_at units k ≡ false

-- the first unpaired surrogate stands at place n
pub record IsFirstUnpaired (units : List ℕ) (n : ℕ) : Type 0 where
  pub within : n < length units
  pub unpaired : is_unpaired_at units n ≡ true
  pub before : PairedUpTo units n

-- the units of a row of scalars
abbrev pub encode_utf16_all : List ℕ → List ℕ
encode_utf16_all scalars = flat_map encode_utf16 scalars

-- how many units stand before the first surrogate
abbrev pub bmp_len : List ℕ → ℕ
bmp_len [] = 0
bmp_len (unit ∷ units) = if is_surrogate unit then 0 else bmp_len units + 1

-- a scalar of n units stands at place k, and a unit that is no lead ends it
pub record HasScalarAt (units : List ℕ) (k scalar n : ℕ) : Type 0 where
  pub is_scalar : IsScalar scalar
  pub count : length (encode_utf16 scalar) ≡ n
  pub within : k + n ≤ length units
  pub front : take (k + n) units ≡ take k units ++ encode_utf16 scalar
  pub end : is_lead (slice_index units (k + n - 1)) ≡ false

-- a surrogate that begins no pair stands at place k
pub record BeginsNoPair (units : List ℕ) (k : ℕ) : Type 0 where
  pub surrogate : is_surrogate (slice_index units k) ≡ true
  pub alone : is_lead (slice_index units k) ≡ true → is_trail (slice_index units (k + 1)) ≡ false

-- the units that a copy works on, of which `taken` says how many fit so much room
abbrev pub utf16_window : (ℕ → ℕ → ℕ) → ℕ → List ℕ → List ℕ
utf16_window taken room units = without_last_lead (take (taken room (length units)) units)

-- the needed room holds any scalar; or no scalar has other units than in UTF-16, and no more of
-- these are taken than fit
abbrev pub TakesWhatFits : (ℕ → List ℕ) → ℕ → (ℕ → ℕ → ℕ) → Type 0
TakesWhatFits form needed taken =
    ((c : ℕ) → IsScalar c → length (form c) ≤ needed)
    ⊎ (((c : ℕ) → length (form c) ≡ length (encode_utf16 c))
    × ((room count : ℕ) → taken room count ≤ room))

-- the same for one window and one room
abbrev pub WindowFits : (ℕ → List ℕ) → ℕ → List ℕ → ℕ → Type 0
WindowFits form needed window room =
    ((c : ℕ) → IsScalar c → length (form c) ≤ needed)
    ⊎ (((c : ℕ) → length (form c) ≡ length (encode_utf16 c)) × (length window ≤ room))
