-- How far a list of bytes is ASCII, and what a copy of that front has done so far.
use Rattle.std.specs.Prelude.{◌≡◌, ℕ, ◌+◌, ◌≤◌, List, Option, length, take, MatchOption}
use Rattle.std.specs.List.{position_or_len}
use Rattle.enc_strides.specs.Lanes.{is_past_ascii}

-- the first place past ASCII, or the length where there is none
abbrev pub run_len : List ℕ → ℕ
run_len xs = position_or_len is_past_ascii xs

-- the first `at` bytes of src are ASCII, and stand in dst
pub record Copied (src dst : List ℕ) (at : ℕ) : Type 0 where
  pub src_has : at ≤ length src
  pub dst_has : at ≤ length dst
  pub ascii : at ≤ run_len src
  pub same : take at dst ≡ take at src

-- of the n bytes of src at `at`, those before the first past ASCII are copied too: r is how many
-- they are, and none where all are
abbrev pub CopiedOn : List ℕ → List ℕ → ℕ → ℕ → Option ℕ → Type 0
CopiedOn src dst at n r =
    MatchOption r (Copied src dst (at + n)) (λ k. Copied src dst (at + k) × (run_len src ≡ at + k))
