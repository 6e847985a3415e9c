-- Copies of ASCII from text to bytes, and the scalar behind it.
use Rattle.std.proofs.Common.{◌≡◌, ℕ, ◌+◌, ◌-◌, ◌<◌, ◌≤◌, List, [], ◌∷◌, ◌++◌, get_or, length, take, drop, min, refl, sym, ap, ◌∙◌, arith, length-take, length-drop, append_assoc}
use Rattle.std.proofs.Math.Seq.{take-add}
use Rattle.std.proofs.lemmas.List.{get_or-drop, take_rest}
use Rattle.std.proofs.lemmas.Bool.Decides.{nat_tests}
use Rattle.std.specs.Borrow.{GName}
use Rattle.enc_strides.specs.Runs.{run_len}
use Rattle.enc_handles.specs.Ascii.{ascii_len, moved_len}
use Rattle.enc_handles.specs.AsciiToBytes.{moved_ascii, past_ascii, GoesOnPast}
use Rattle.enc_handles.specs.Reading.{Reading, left, after_reading}
use Rattle.enc_handles.specs.Scalars.{ReadsScalars}
use Rattle.enc_handles.specs.Unicode.{non_ascii_of, non_ascii_scalar}
use Rattle.enc_handles.specs.Writing.{Writing, after_writing}
use Rattle.enc_handles.specs.declared.unicode.NonAscii.{NonAscii}
use Rattle.enc_handles.proofs.AsciiLemmas.{run_len-is, length-take-moved_len, moved_len_le, ascii_len-past}
use Rattle.enc_handles.proofs.LoopLemmas.{after_reading-add, left-after_reading}

-- n more bytes count as written
pub advanced : (bytes : List ℕ) (pos n end : ℕ) (b : GName) → end ≡ pos + n → n ≤ length bytes - pos
    → ◌≡◌ {A = Writing} (record { text = take end bytes; free = length bytes - end; buffer = b })
    (after_writing (record { text = take pos bytes; free = length bytes - pos; buffer = b }) (take n (drop pos bytes)))
advanced bytes pos n end b ends within =
    let text : take end bytes ≡ take pos bytes ++ take n (drop pos bytes) = ap (λ k. take k bytes) ends ∙ take-add pos n bytes in
    let free : length bytes - end ≡ (length bytes - pos) - length (take n (drop pos bytes)) =
    omega (arith, length-take n (drop pos bytes), length-drop pos bytes) in
    cc

-- reads in a row
pub reads_on : {S : List ℕ → List ℕ} {r₀ r₁ r₂ : Reading} {xs ys : List ℕ} → ReadsScalars S r₀ r₁ xs → ReadsScalars S r₁ r₂ ys → ReadsScalars S r₀ r₂ (xs ++ ys)
reads_on {S} {r₀} {r₁} {r₂} {xs} {ys} first second = record {
  same_items = second.same_items ∙ first.same_items;
  read = second.read ∙ (ap (λ (l : List ℕ). l ++ ys) first.read ∙ append_assoc (S (take r₀.place r₀.items)) xs ys);
  rest = first.rest ∙ (ap (λ (l : List ℕ). xs ++ l) second.rest ∙ sym (append_assoc xs ys (S (left r₂))));
}

pub non_ascii_scalar-of : (c : ℕ) → non_ascii_scalar (non_ascii_of c) ≡ c
non_ascii_scalar-of c = grind (arith, nat_tests)

-- a copy that goes on
pub went : (S : List ℕ → List ℕ) (F : List ℕ → ℕ) (needed : ℕ) (r₀ r₁ r₂ : Reading) (w₀ w₁ : Writing) (c : ℕ) (ch : NonAscii)
    → ascii_len (left r₀) ≤ w₀.free
    → r₁ ≡ after_reading r₀ (moved_len (left r₀) w₀.free) → ReadsScalars S r₀ r₁ (moved_ascii (left r₀) w₀.free)
    → w₁ ≡ after_writing w₀ (moved_ascii (left r₀) w₀.free)
    → c ≡ get_or (S (left r₁)) 0 0 → r₂ ≡ after_reading r₁ (F (left r₁)) → ReadsScalars S r₁ r₂ (c ∷ [])
    → 0x80 ≤ c → needed ≤ w₁.free → ch ≡ non_ascii_of c
    → GoesOnPast S F needed r₀ r₂ w₀ w₁ ch
went S F needed r₀ r₁ r₂ w₀ w₁ c ch fits read scalars written scalar read' scalars' past room character =
    let n = ascii_len (left r₀) in
    let all : moved_len (left r₀) w₀.free ≡ n = omega arith in
    let here : r₁ ≡ after_reading r₀ n = rw all at read in
    let rest : left r₁ ≡ past_ascii (left r₀) = ap left here ∙ left-after_reading r₀ n in
    let same : non_ascii_scalar ch ≡ c = ap non_ascii_scalar character ∙ non_ascii_scalar-of c in
    record {
      character_is = character ∙ ap non_ascii_of (scalar ∙ ap (λ l. get_or (S l) 0 0) rest);
      past = rw same past;
      read = read' ∙ (ap (λ r. after_reading r (F (left r₁))) here ∙ (ap (λ l. after_reading (after_reading r₀ n) (F l)) rest
          ∙ after_reading-add r₀ n (F (past_ascii (left r₀)))));
      scalars = rw same (reads_on (rw all at scalars) scalars');
      written = rw all at written;
      room = room;
    }

-- the ASCII fitted, since room is left behind it
pub room_left : (list : List ℕ) (w₀ w₁ : Writing) (needed : ℕ) → w₁ ≡ after_writing w₀ (moved_ascii list w₀.free) → 1 ≤ needed → needed ≤ w₁.free
    → ascii_len list ≤ w₀.free
room_left list w₀ w₁ needed written some room =
    let free : w₁.free ≡ w₀.free - length (moved_ascii list w₀.free) = ap (λ (w : Writing). w.free) written in
    omega (arith, length-take-moved_len list w₀.free)

-- the element behind the ASCII is past it
pub past_behind : (r₀ r₁ : Reading) (room : ℕ) → ascii_len (left r₀) ≤ room → r₁ ≡ after_reading r₀ (moved_len (left r₀) room)
    → r₁.place < length r₁.items → 0x80 ≤ get_or r₁.items r₁.place 0
past_behind r₀ r₁ room fits read more =
    let n = ascii_len (left r₀) in
    let all : moved_len (left r₀) room ≡ n = omega arith in
    let here : r₁ ≡ after_reading r₀ n = rw all at read in
    let items : r₁.items ≡ r₀.items = ap (λ (r : Reading). r.items) here in
    let place : r₁.place ≡ r₀.place + n = ap (λ (r : Reading). r.place) here in
    let within : n < length (left r₀) = omega (arith, ap length items, length-drop r₀.place r₀.items) in
    rw (items, place) (rw get_or-drop at (ascii_len-past (left r₀) within))

-- as many bytes as a copy moves are the ASCII that it moves
pub copied_ascii : (list dst : List ℕ) (room n : ℕ) → n ≡ moved_len list room → take n dst ≡ take n list
    → take (length (moved_ascii list room)) dst ≡ moved_ascii list room
copied_ascii list dst room n count copied =
    rw (length-take-moved_len list room, ← count) copied

-- a copy from a place on stays within the list
pub moved_within : (list : List ℕ) (at room : ℕ) → at ≤ length list → at + moved_len (drop at list) room ≤ length list
moved_within list at room within = omega (arith, moved_len_le (drop at list) room, length-drop at list)

pub moved_ascii_len : (list : List ℕ) (room : ℕ) → moved_len list room ≤ ascii_len list
moved_ascii_len list room = omega arith

-- what a copy by strides says, of the list that its slice lies in
pub run_count : (whole bytes : List ℕ) (at room n : ℕ) → bytes ≡ whole → n ≡ min (run_len (take (length bytes - at) (drop at bytes))) room
    → n ≡ moved_len (drop at whole) room
run_count whole bytes at room n same count =
    count ∙ (ap (λ l. min (run_len l) room) (take_rest bytes at)
    ∙ (ap (λ k. min k room) (run_len-is (drop at bytes)) ∙ ap (λ l. moved_len (drop at l) room) same))

pub run_copied : (whole bytes dst : List ℕ) (at n : ℕ) → bytes ≡ whole → take n dst ≡ take n (take (length bytes - at) (drop at bytes))
    → take n dst ≡ take n (drop at whole)
run_copied whole bytes dst at n same copied =
    copied ∙ (ap (λ l. take n l) (take_rest bytes at) ∙ ap (λ l. take n (drop at l)) same)

pub unit_count : (units : List ℕ) (at room n : ℕ) → n ≡ min (run_len (take (length units - at) (drop at units))) room → n ≡ moved_len (drop at units) room
unit_count units at room n count = run_count units units at room n refl count
