-- The line of a header that was made.
use Rattle.std.proofs.Common.{◌≡◌, ◌≢◌, ℕ, zero, suc, ◌+◌, ◌*◌, ◌≤◌, ◌%◌, ◌==◌, Bool, true, false, Option, None, List, [], ◌∷◌, ◌++◌, length, map, drop, Ok, Err, IsOk, refl, sym, subst, ap, arith, inl, inr, length-append}
use Rattle.std.specs.Prelude.{IsOkAnd, codes, decimal, nat_lt, if◌then◌else◌}
use Rattle.std.specs.List.{join_with_byte, range_with_len}
use Rattle.std.specs.Option.{option_map_or}
use Rattle.std.specs.Io.KnownBytes.{Appends}
use Rattle.std.proofs.lemmas.Fmt.{length-decimal-le}
use Rattle.enc_front.specs.Units.{decoded}
use Rattle.enc_front.specs.Marks.{own}
use Rattle.enc_front.specs.declared.encoding.Encoding.{Encoding}
use Rattle.enc_io.specs.Faults.{Rose}
use Rattle.enc_io.specs.Marks.{peeked_encoding}
use Rattle.enc_io.specs.Options.{default_options}
use Rattle.enc_io.specs.Text.{chosen, marked_encoding, stream_text}
use Rattle.words.specs.declared.strategy.RecoverStrategy.TheVariants.{Abort}
use Rattle.words.specs.Header.{Text, header}
use Rattle.unwrap.specs.declared.status.Status.{Status}
use Rattle.unwrap.specs.declared.status.Status.TheVariants.{Done, Memory, ReadFault, WriteFault}
use Rattle.unwrap.specs.Header.{header_value}
use Rattle.unwrap.specs.Made.{TellsMade, WritesLine, line, line_answer, made, part}
use Rattle.unwrap.specs.Moves.{AppendsPrefix}
use Rattle.unwrap.specs.Status.{Counts}
use Rattle.unwrap.proofs.MadeHeader.{made-ok}

-- a stream that begins with an equals sign has no mark
no_mark : (rest : List ℕ) → peeked_encoding (61 ∷ rest) ≡ None
no_mark rest = by_length (nat_lt (length (61 ∷ rest)) 3) None refl
  where
    by_length : (short : Bool) (found : Option Encoding) → found ≡ None → (if short then None else found) ≡ None
    by_length true found none = refl
    by_length false found none = none

as_it_is : (rest : List ℕ) → stream_text default_options [] (61 ∷ rest) ≡ 61 ∷ rest
unfolding stream_text chosen
as_it_is rest =
    ap (λ (found : Option Encoding). option_map_or (λ encoding. decoded encoding [] (own encoding (61 ∷ rest))) (option_map_or (marked_encoding default_options) found None) (61 ∷ rest)) (no_mark rest)

begins : (n : ℕ) → (rest : List ℕ) × (made (suc n) ≡ 61 ∷ rest)
unfolding made
begins zero = (drop 1 (part 0), refl)
begins (suc n) = (drop 1 (made (suc (suc n))), refl)

made_as_it_is : (n : ℕ) → stream_text default_options [] (made n) ≡ made n
unfolding made stream_text chosen
made_as_it_is zero = refl
made_as_it_is (suc n) = let b = begins n in subst (λ l. stream_text default_options [] l ≡ l) (sym b.1) (as_it_is b.0)

part-length : (i : ℕ) → i ≤ 20000 → length (part i) ≤ 40
part-length i h = by_tests (i % 3 == 0) (i % 3 == 1)
  where
    few : length (decimal i) ≤ 5
    few = length-decimal-le 5 i (omega arith) (omega (arith, h)) (omega (arith, h))

    by_tests : (zeroth first : Bool) → length (if zeroth then codes "=?utf-8?Q?a" ++ decimal i ++ codes "=C3=A9?=" else if first then codes "=?iso-8859-1?Q?b" ++ decimal i ++ codes "=E9?=" else codes "c" ++ decimal i) ≤ 40
    by_tests true first = omega (arith, few, length-append (decimal i) (codes "=C3=A9?="))
    by_tests false true = omega (arith, few, length-append (decimal i) (codes "=E9?="))
    by_tests false false = omega (arith, few)

parts-length : (a n : ℕ) → a + n ≤ 20000 → length (join_with_byte 32 (map part (range_with_len a n))) ≤ n * 41
parts-length a zero h = omega arith
parts-length a (suc zero) h = omega (arith, part-length a (omega (arith, h)))
parts-length a (suc (suc n)) h =
    let rest = join_with_byte 32 (map part (range_with_len (a + 1) (suc n))) in
    omega (arith, part-length a (omega (arith, h)), length-append (part a) (32 ∷ rest), parts-length (a + 1) (suc n) (omega (arith, h)))

made-length : (n : ℕ) → n ≤ 20000 → length (made n) ≤ 999999999
unfolding made
made-length n h = omega (arith, h, parts-length 0 n (omega (arith, h)))

from_line : (input : ℕ) (r : Text) (P : List ℕ → Type 0) → IsOkAnd (line_answer input (header_value r)) P → IsOkAnd r (λ text. P (line input text))
from_line input (Ok text) P h = h
from_line input (Err fault) P h = absurd h

to_line : (input : ℕ) (r : Text) → IsOk r → IsOk (line_answer input (header_value r))
to_line input (Ok text) h = refl
to_line input (Err fault) h = h

-- the line of the header of so many parts
tells_made : (n : ℕ) (taken taken' : Option (List ℕ)) (status : Status) → n ≤ 20000 → status ≢ ReadFault → WritesLine (made n) taken taken' status → TellsMade n taken taken' status
tells_made n taken taken' status few no_read h =
    let input = length (made n) in
    let answer = λ (s : List ℕ). header Abort [] s in
    record {
      headline = λ e. from_line input (answer (made n)) (λ l. Appends taken taken' l) (subst (λ s. IsOkAnd (line_answer input (header_value (answer s))) (λ l. Appends taken taken' l)) (made_as_it_is n) (h.delivers.headline e));
      prefix = λ e. from_line input (answer (made n)) (λ l. AppendsPrefix taken taken' l) (subst (λ s. IsOkAnd (line_answer input (header_value (answer s))) (λ l. AppendsPrefix taken taken' l)) (made_as_it_is n) (h.delivers.prefix e));
      complete = λ no_write. h.delivers.complete (made-length n few) (subst (λ s. IsOk (line_answer input (header_value (answer s)))) (sym (made_as_it_is n)) (to_line input (answer (made n)) (made-ok n few))) no_read no_write;
    }

-- the same of what is such a header
pub tells_of : (n : ℕ) (bytes : List ℕ) (taken taken' : Option (List ℕ)) (status : Status) → bytes ≡ made n → n ≤ 20000 → status ≢ ReadFault → WritesLine bytes taken taken' status
    → TellsMade n taken taken' status
tells_of n bytes taken taken' status same few no_read h = tells_made n taken taken' status few no_read (subst (λ (l : List ℕ). WritesLine l taken taken' status) same h)

never_rises : Rose 0 0 → ⊥
never_rises (inl less) = omega (arith, less)
never_rises (inr last) = omega (arith, last)

-- a source that never fails is never told to have failed
pub not_read_fault : (status : Status) (writes writes' : ℕ) → Counts status 0 0 writes writes' → status ≢ ReadFault
not_read_fault status writes writes' counts e = never_rises (counts.read_fault e)

-- nothing was made for want of memory
pub tells_memory : (n : ℕ) (taken : Option (List ℕ)) → TellsMade n taken taken Memory
tells_memory n taken = record {
  headline = λ e. absurd (let bad : Memory ≡ Done = e in cc);
  prefix = λ e. absurd (let bad : Memory ≡ WriteFault = e in cc);
  complete = λ _. inr refl;
}
