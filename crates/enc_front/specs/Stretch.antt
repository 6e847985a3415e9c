-- Stretches of scalars in a row whose least places are in a row too.
use Rattle.std.specs.Prelude.{◌≡◌, ℕ, ◌+◌, ◌-◌, ◌<◌, ◌≤◌, ◌==◌, List, slice_index, length}
use Rattle.std.specs.List.Sorted.{IsNonDecreasing}
use Rattle.enc_front.specs.declared.stretch.Stretch.{Stretch}
use Rattle.enc_front.specs.Keys.{has_key, key_of}

-- each scalar of the stretch has its place by the keys, and none below
abbrev pub HasStretch : List ℕ → Stretch → Type 0
HasStretch keys stretch = (i place : ℕ) → i < stretch.length → place ≤ stretch.place + i
    → has_key keys (key_of (stretch.scalar + i) place) ≡ (place == stretch.place + i)

-- the scalar is as far behind the stretch's first one as the place is behind the first place
pub record IsWithin (stretch : Stretch) (scalar place : ℕ) : Type 0 where
  pub above : stretch.place ≤ place
  pub under : place < stretch.place + stretch.length
  pub offset : scalar ≡ stretch.scalar + (place - stretch.place)

-- the scalars of the first keys are below the end of the stretch
abbrev pub AreBelow : List ℕ → ℕ → Stretch → Type 0
AreBelow keys count stretch = (j : ℕ) → j < count
    → slice_index keys j < key_of (stretch.scalar + stretch.length) 0

-- a stretch by all keys that has the last scalar of the first keys
pub record Ends (keys : List ℕ) (count : ℕ) (stretch : Stretch) : Type 0 where
  pub has : HasStretch keys stretch
  pub below : AreBelow keys count stretch

-- the key behind the first ones makes of a stretch with their last scalar one with its scalar
abbrev pub GoesOn : ℕ → Stretch → Stretch → Type 0
GoesOn key before after = (keys : List ℕ) (count : ℕ) → IsNonDecreasing keys
    → count < length keys → slice_index keys count ≡ key
    → Ends keys count before → Ends keys (count + 1) after
