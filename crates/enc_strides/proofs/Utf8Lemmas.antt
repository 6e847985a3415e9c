-- Entries of units, lane by lane.
use Rattle.std.proofs.Common.{◌≡◌, ◌<◌, ◌≤◌, Bool, true, false, cond, nat_lt, ℕ, zero, suc, ◌+◌, ◌*◌, ◌/◌, ◌%◌, ◌^◌, ◌-◌, List, [], ◌∷◌, ◌++◌, map, flat_map, length, take, drop, get_or, replicate, Fits, w16, bit_and, refl, sym, ap, ap₂, ◌∙◌, arith}
use Rattle.std.proofs.lemmas.Bool.Decides.{nat_tests}
use Rattle.std.proofs.lemmas.Nat.{and_mask}
use Rattle.std.proofs.Math.Seq.{take-add}
use Rattle.std.proofs.lemmas.List.{take_at, drop_at, take-append-le, length-take-le, length-append, flat_map_more, take_more, length-map, take_all}
use Rattle.std.proofs.lemmas.Simd.{put_chunk_is}
use Rattle.std.specs.Int.{to_le_bytes}
use mir.Syntax.{w32}
use lib.Lanes.{Each1, zip2, sel_l, top, put_chunk}
use lib.Utf8.{encode}
use Rattle.enc_strides.specs.Utf8.{last_byte, entry, entry_text, Appended}

-- the steps of 32 bits
abbrev plus : ℕ → ℕ → ℕ
plus a b = (a + b) % 2 ^ 32

abbrev above : ℕ → ℕ → ℕ
above x k = x * 2 ^ k % 2 ^ 32

abbrev behind : ℕ → ℕ → ℕ
behind x k = x / 2 ^ k

abbrev below : ℕ → ℕ → ℕ
below a b = cond (nat_lt a b) (2 ^ 32 - 1) 0

abbrev tail : ℕ → ℕ
tail x = plus (bit_and x 63) 128

abbrev two_step : ℕ → ℕ
two_step x = plus (plus (behind x 6) (above (tail x) 8)) 0x2_0000_C0

abbrev three_step : ℕ → ℕ
three_step x = plus (plus (plus (behind (behind x 6) 6) 0x300_00E0) (above (tail (behind x 6)) 8)) (above (tail x) 16)

tail_is : (x : ℕ) → tail x ≡ last_byte x
tail_is x = ap (λ m. plus m 128) (and_mask x 6) ∙ grind arith

two_is : (x : ℕ) → x < 0x800 → two_step x ≡ 0xC0 + x / 0x40 + 0x100 * last_byte x + 0x200_0000
two_is x small = ap (λ t. plus (plus (behind x 6) (above t 8)) 0x200_00C0) (tail_is x) ∙ grind arith

three_is : (x : ℕ) → x < 0x1_0000 → three_step x ≡ 0xE0 + x / 0x1000 + 0x100 * last_byte (x / 0x40) + 0x1_0000 * last_byte x + 0x300_0000
three_is x small =
    ap₂ (λ m t. plus (plus (plus (behind (behind x 6) 6) 0x300_00E0) (above m 8)) (above t 16)) (tail_is (behind x 6)) (tail_is x) ∙ grind arith

by_size : (x : ℕ) → x < 0x1_0000 → (one two : Bool) → one ≡ nat_lt x 0x80 → two ≡ nat_lt x 0x800 →
    cond (top 31 (cond one (2 ^ 32 - 1) 0)) (plus x 0x100_0000) (cond (top 31 (cond two (2 ^ 32 - 1) 0)) (two_step x) (three_step x))
    ≡ cond one (x + 0x100_0000) (cond two (0xC0 + x / 0x40 + 0x100 * last_byte x + 0x200_0000)
    (0xE0 + x / 0x1000 + 0x100 * last_byte (x / 0x40) + 0x1_0000 * last_byte x + 0x300_0000))
by_size x fits true two e f = grind arith
by_size x fits false true e f = two_is x (grind (arith, nat_tests))
by_size x fits false false e f = three_is x fits

lane_is : (x : ℕ) → x < 0x1_0000 →
    cond (top 31 (below x 0x80)) (plus x 0x100_0000) (cond (top 31 (below x 0x800)) (two_step x) (three_step x)) ≡ entry x
lane_is x fits = by_size x fits (nat_lt x 0x80) (nat_lt x 0x800) refl refl

-- the steps on all lanes
abbrev lanes_of : ℕ → List ℕ → List ℕ
lanes_of n xs =
    let u = map (λ x. x) xs in
    let low = zip2 plus (zip2 bit_and u (replicate n 63)) (replicate n 128) in
    let front = zip2 behind u (replicate n 6) in
    let middle = zip2 plus (zip2 bit_and front (replicate n 63)) (replicate n 128) in
    let two = zip2 plus (zip2 plus front (zip2 above low (replicate n 8))) (replicate n 0x200_00C0) in
    let first = zip2 plus (zip2 behind front (replicate n 6)) (replicate n 0x300_00E0) in
    let three = zip2 plus (zip2 plus first (zip2 above middle (replicate n 8))) (zip2 above low (replicate n 16)) in
    let past = sel_l (map (top 31) (zip2 below u (replicate n 0x800))) two three in
    let one = zip2 plus u (replicate n 0x100_0000) in
    sel_l (map (top 31) (zip2 below u (replicate n 0x80))) one past

pub lanes : (n : ℕ) (xs : List ℕ) → length xs ≡ n → Each1 (Fits w16) xs → lanes_of n xs ≡ map entry xs
lanes zero [] e fits = refl
lanes zero (x ∷ xs) e fits = absurd (omega arith)
lanes (suc n) [] e fits = absurd (omega arith)
lanes (suc n) (x ∷ xs) e fits = ap₂ (λ y ys. y ∷ ys) (lane_is x fits.0.fits) (lanes n xs (omega arith) fits.1)

put_part : (xs ys : List ℕ) (i k : ℕ) → k ≤ length ys → i + length ys ≤ length xs → take (i + k) (put_chunk i xs ys) ≡ take i xs ++ take k ys
put_part xs ys i k few room =
    let front = length-take-le i xs (omega arith) in
    let rest = ys ++ drop (length ys) (drop i xs) in
    rw (put_chunk_is i xs ys room, take-add i k (take i xs ++ rest), take_at (take i xs) rest i front, drop_at (take i xs) rest i front, take-append-le k ys (drop (length ys) (drop i xs)) few)

-- the bytes of a vector of one lane
pub bytes_are : (e : ℕ) → (e + 0) % 256 ∷ (e + 0) / 256 % 256 ∷ (e + 0) / 256 / 256 % 256 ∷ (e + 0) / 256 / 256 / 256 % 256 ∷ [] ≡ to_le_bytes w32 e
bytes_are e =
    let none : e + 0 ≡ e = omega arith in
    ap (λ n. n % 256 ∷ n / 256 % 256 ∷ n / 256 / 256 % 256 ∷ n / 256 / 256 / 256 % 256 ∷ []) none ∙ grind (arith, nat_tests)

-- an entry is stored whole, and its text counts
pub stored : (xs bytes : List ℕ) (i entry : ℕ) → bytes ≡ to_le_bytes w32 entry → i + 4 ≤ length xs
    → Appended xs (put_chunk i xs bytes) i (i + entry / 2 ^ 24 % 4) (entry_text entry)
stored xs bytes i entry e room =
    let k = entry / 2 ^ 24 % 4 in
    let long : length bytes ≡ 4 = ap length e in
    let few : k ≤ length bytes = omega arith in
    let part : take k bytes ≡ entry_text entry = ap (take k) e in
    record {
      place = omega (arith, ap length part, length-take-le k bytes few);
      value = put_part xs bytes i k few (omega arith) ∙ ap (λ ys. take i xs ++ ys) part;
    }

-- one more entry
pub append_more : (before now after : List ℕ) (at to end i : ℕ) (entries : List ℕ) (x : ℕ) → Appended before now at to (flat_map entry_text (take i entries)) → i < length entries → x ≡ get_or entries i 0
    → Appended now after to end (entry_text x) → Appended before after at end (flat_map entry_text (take (i + 1) entries))
append_more before now after at to end i entries x done inside e piece =
    let one_more = ap (λ y. take i entries ++ y ∷ []) e ∙ sym (take_more entries i 0 inside) in
    let more = flat_map_more entry_text (take at before) (take i entries) x ∙ ap (λ xs. take at before ++ flat_map entry_text xs) one_more in
    record {
      place = omega (arith, done.place, piece.place, simp length-append at (ap length more));
      value = piece.value ∙ ap (λ ys. ys ++ entry_text x) done.value ∙ more;
    }

text_one : (x : ℕ) → x < 0x80 → entry_text (x + 0x100_0000) ≡ encode x
unfolding encode
text_one x small =
    let k : (x + 0x100_0000) / 2 ^ 24 % 4 ≡ 1 = omega arith in
    ap (λ n. take n (to_le_bytes w32 (x + 0x100_0000))) k ∙ grind (arith, nat_tests)

text_two : (x : ℕ) → 0x80 ≤ x → x < 0x800 → entry_text (0xC0 + x / 0x40 + 0x100 * last_byte x + 0x200_0000) ≡ encode x
unfolding encode
text_two x low high =
    let e = 0xC0 + x / 0x40 + 0x100 * last_byte x + 0x200_0000 in
    let k : e / 2 ^ 24 % 4 ≡ 2 = omega arith in
    ap (λ n. take n (to_le_bytes w32 e)) k ∙ grind (arith, nat_tests)

text_three : (x : ℕ) → 0x800 ≤ x → x < 0x1_0000
    → entry_text (0xE0 + x / 0x1000 + 0x100 * last_byte (x / 0x40) + 0x1_0000 * last_byte x + 0x300_0000) ≡ encode x
unfolding encode
text_three x low high =
    let e = 0xE0 + x / 0x1000 + 0x100 * last_byte (x / 0x40) + 0x1_0000 * last_byte x + 0x300_0000 in
    let k : e / 2 ^ 24 % 4 ≡ 3 = omega arith in
    ap (λ n. take n (to_le_bytes w32 e)) k ∙ grind (arith, nat_tests)

text_sized : (x : ℕ) → x < 0x1_0000 → (one two : Bool) → one ≡ nat_lt x 0x80 → two ≡ nat_lt x 0x800
    → entry_text (cond one (x + 0x100_0000) (cond two (0xC0 + x / 0x40 + 0x100 * last_byte x + 0x200_0000)
    (0xE0 + x / 0x1000 + 0x100 * last_byte (x / 0x40) + 0x1_0000 * last_byte x + 0x300_0000))) ≡ encode x
text_sized x fits true two e f = text_one x (grind (arith, nat_tests))
text_sized x fits false true e f = text_two x (grind (arith, nat_tests)) (grind (arith, nat_tests))
text_sized x fits false false e f = text_three x (grind (arith, nat_tests)) fits

pub text_is : (x : ℕ) → x < 0x1_0000 → entry_text (entry x) ≡ encode x
text_is x fits = text_sized x fits (nat_lt x 0x80) (nat_lt x 0x800) refl refl

-- the texts of the units' entries are their UTF-8
pub texts : (xs : List ℕ) → Each1 (Fits w16) xs → flat_map entry_text (map entry xs) ≡ flat_map encode xs
texts [] fits = refl
texts (x ∷ xs) fits = ap₂ (λ a b. a ++ b) (text_sized x fits.0.fits (nat_lt x 0x80) (nat_lt x 0x800) refl refl) (texts xs fits.1)

pub all_appended : (before after : List ℕ) (at end i : ℕ) (entries units : List ℕ) → Appended before after at end (flat_map entry_text (take i entries)) → i ≡ 8
    → entries ≡ map entry units → length units ≡ 8 → Each1 (Fits w16) units → Appended before after at end (flat_map encode units)
all_appended before after at end i entries units done eight e long fits =
    let whole : flat_map entry_text (take i entries) ≡ flat_map encode units =
    ap (λ es. flat_map entry_text (take i es)) e ∙ (ap (λ es. flat_map entry_text es) (take_all i (map entry units) (omega (arith, length-map units entry, long, eight))) ∙ texts units fits) in
    record { place = done.place ∙ ap (λ t. at + length t) whole; value = done.value ∙ ap (λ t. take at before ++ t) whole }

pub all_entries : (before after : List ℕ) (at end i : ℕ) (entries : List ℕ) → Appended before after at end (flat_map entry_text (take i entries)) → length entries ≤ i
    → Appended before after at end (flat_map entry_text entries)
all_entries before after at end i entries done all =
    let whole : flat_map entry_text (take i entries) ≡ flat_map entry_text entries = ap (λ es. flat_map entry_text es) (take_all i entries all) in
    record { place = done.place ∙ ap (λ t. at + length t) whole; value = done.value ∙ ap (λ t. take at before ++ t) whole }
