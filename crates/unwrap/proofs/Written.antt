-- What has been written after one more write.
use Rattle.std.proofs.Common.{◌≡◌, ℕ, ◌+◌, ◌-◌, List, ◌++◌, length, take, drop, sym, ap, ◌∙◌, length-drop}
use Rattle.std.proofs.Math.Seq.{take-add, take-length}

-- a slice to the end of a list
slice_to_end : (place : ℕ) (bytes : List ℕ) → take (length bytes - place) (drop place bytes) ≡ drop place bytes
slice_to_end place bytes = ap (λ n. take n (drop place bytes)) (sym (length-drop place bytes)) ∙ take-length (drop place bytes)

-- the first bytes, and then the first n of the slice after them
pub written_more : (count n : ℕ) (bytes : List ℕ) → take count bytes ++ take n (take (length bytes - count) (drop count bytes)) ≡ take (count + n) bytes
written_more count n bytes = ap (λ l. take count bytes ++ take n l) (slice_to_end count bytes) ∙ sym (take-add count n bytes)
