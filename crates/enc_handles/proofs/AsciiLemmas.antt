-- The ASCII at the front of a list, its text, and the byte behind it.
use Rattle.std.proofs.Common.{◌≡◌, ℕ, ◌+◌, ◌-◌, ◌<◌, ◌≤◌, Bool, true, false, ltb, cond, List, [], ◌∷◌, ◌++◌, length, take, get_or, not, nat_le, nat_lt, refl, ap, sym, subst, suc, zero, arith, add-one, length-take}
use Rattle.std.proofs.lemmas.Bool.Decides.{nat_tests}
use Rattle.std.specs.Borrow.{GName}
use Rattle.std.specs.List.{flat_map}
use Rattle.enc_strides.specs.Runs.{run_len}
use Rattle.enc_handles.specs.Ascii.{ascii_len, moved_len, moved_text}
use Rattle.enc_handles.specs.UnitSlice.{Puts}
use Rattle.enc_handles.specs.Writing.{Writing, after_writing}
use Rattle.enc_handles.proofs.PutLemmas.{puts_behind}
use borrow.Rule.Slice.PartMut.{put_mid}

pub ascii_len_le : (bytes : List ℕ) → ascii_len bytes ≤ length bytes
ascii_len_le [] = omega arith
ascii_len_le (b ∷ bs) = let h = ascii_len_le bs in grind (arith, nat_tests)

past_at : (b : ℕ) (bs : List ℕ) → (ascii_len bs < length bs → 0x80 ≤ get_or bs (ascii_len bs) 0)
    → (t : Bool) → ltb b 0x80 ≡ t → cond t (ascii_len bs + 1) 0 < suc (length bs) → 0x80 ≤ get_or (b ∷ bs) (cond t (ascii_len bs + 1) 0) 0
past_at b bs rest true e h = rw add-one (rest (omega arith))
past_at b bs rest false e h = grind (arith, nat_tests)

-- the byte behind the ASCII is past it
pub ascii_len-past : (bytes : List ℕ) → ascii_len bytes < length bytes → 0x80 ≤ get_or bytes (ascii_len bytes) 0
ascii_len-past [] h = absurd (omega arith)
ascii_len-past (b ∷ bs) h = past_at b bs (ascii_len-past bs) (ltb b 0x80) refl h

text_at : (encode : ℕ → List ℕ) → ((c : ℕ) → c < 0x80 → encode c ≡ c ∷ []) → (b : ℕ) (bs : List ℕ) (n : ℕ)
    → (n ≤ ascii_len bs → flat_map encode (take n bs) ≡ take n bs)
    → (t : Bool) → ltb b 0x80 ≡ t → suc n ≤ cond t (ascii_len bs + 1) 0 → encode b ++ flat_map encode (take n bs) ≡ b ∷ take n bs
text_at encode law b bs n rest true e h =
    let low : b < 0x80 = grind (arith, nat_tests) in
    rw (law b low) (ap (λ (l : List ℕ). b ∷ l) (rest (omega arith)))
text_at encode law b bs n rest false e h = absurd (omega arith)

-- the text of ASCII is the ASCII
pub flat_map-ascii : (encode : ℕ → List ℕ) → ((c : ℕ) → c < 0x80 → encode c ≡ c ∷ []) → (bytes : List ℕ) (n : ℕ)
    → n ≤ ascii_len bytes → flat_map encode (take n bytes) ≡ take n bytes
flat_map-ascii encode law bytes zero h = refl
flat_map-ascii encode law [] (suc n) h = refl
flat_map-ascii encode law (b ∷ bs) (suc n) h =
    text_at encode law b bs n (flat_map-ascii encode law bs n) (ltb b 0x80) refl h

pub moved_len_le : (bytes : List ℕ) (room : ℕ) → moved_len bytes room ≤ length bytes
moved_len_le bytes room = omega (arith, ascii_len_le bytes)

pub length-take-moved_len : (bytes : List ℕ) (room : ℕ) → length (take (moved_len bytes room) bytes) ≡ moved_len bytes room
length-take-moved_len bytes room = omega (arith, length-take (moved_len bytes room) bytes, ascii_len_le bytes)

pub moved_text-ascii : (encode : ℕ → List ℕ) → ((c : ℕ) → c < 0x80 → encode c ≡ c ∷ []) → (bytes : List ℕ) (room : ℕ)
    → moved_text encode bytes room ≡ take (moved_len bytes room) bytes
moved_text-ascii encode law bytes room = flat_map-ascii encode law bytes (moved_len bytes room) (omega arith)

-- what a destination is after a write behind its text
pub written : (old new xs ys : List ℕ) (at end : ℕ) (b b' : GName) → Puts old new at xs → end ≡ at + length xs → b' ≡ b → xs ≡ ys
    → ◌≡◌ {A = Writing} (record { text = take end new; free = length new - end; buffer = b' })
    (after_writing (record { text = take at old; free = length old - at; buffer = b }) ys)
written old new xs ys at end b b' puts ends same text =
    let front : take end new ≡ take at old ++ ys = rw (ends, ← text) puts.front in
    let free : length new - end ≡ (length old - at) - length ys = rw (← text) (omega (arith, puts.same_length)) in
    cc

run_step : (b n m : ℕ) → n ≡ m → cond (not (nat_le 0x80 b)) (1 + n) 0 ≡ cond (nat_lt b 0x80) (m + 1) 0
run_step b n m e = grind (arith, nat_tests)

-- the same length in the words of the strides
pub run_len-is : (bytes : List ℕ) → run_len bytes ≡ ascii_len bytes
run_len-is [] = refl
run_len-is (b ∷ bs) = run_step b (run_len bs) (ascii_len bs) (run_len-is bs)

-- ASCII that was written into the part behind a place
pub ascii_behind : (src old ys : List ℕ) (at n : ℕ) → at ≤ length old → length ys ≡ length old - at → n ≡ moved_len src (length old - at)
    → take n ys ≡ take n src → Puts old (put_mid at (length old - at) old ys) at (take (moved_len src (length old - at)) src)
ascii_behind src old ys at n within same count copied =
    let m = moved_len src (length old - at) in
    let long = length-take-moved_len src (length old - at) in
    puts_behind old ys (take m src) at within same (omega (arith, long))
    (subst (λ k. take k ys ≡ take m src) (sym long) (subst (λ k. take k ys ≡ take k src) count copied))
