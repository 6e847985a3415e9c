-- The entries of the tests' index.
use Rattle.std.proofs.Common.{◌≡◌, ℕ, ◌<◌, List, get_or, refl, sym, subst, ◌∙◌, arith, ⊎_elim}
use Rattle.std.proofs.Math.ListN.{set, replicate}
use Rattle.std.specs.Prelude.{Some, slice_set}
use Rattle.std.proofs.lemmas.Bool.{cases_lt}
use Rattle.std.proofs.lemmas.List.{get_or-replicate, get_or-set_same, get_or-set_other, length-replicate}
use Rattle.enc_handles.specs.Entries.{entry_of}
use Rattle.enc_drivers.specs.Lookup.{AreByteEntries, IsByteEntry, IsEntryOf}

pub told_place : (number : ℕ) → number ≡ entry_of 0x3B1 → IsEntryOf (Some 0x3B1) number
told_place number is = record { code = 0x3B1; is = refl; small = omega arith; entry = is }

-- a table with that of 80 alone
module _ (number : ℕ) (is : number ≡ entry_of 0x3B1) where
  at_other : (byte : ℕ) → byte < 0x100 → ¬ (byte ≡ 0x80) → get_or (set (replicate 256 0) 0x80 number) byte 0 ≡ 0
  at_other byte small other = get_or-set_other (replicate 256 0) 0x80 byte number 0 other ∙ get_or-replicate 256 byte 0 0 small

  at_one : get_or (set (replicate 256 0) 0x80 number) 0x80 0 ≡ number
  at_one = get_or-set_same (replicate 256 0) 0x80 number 0 (omega (arith, length-replicate {A = ℕ} 256 0))

  one_entry : IsByteEntry (λ place. Some 0x3B1) 0x80 (get_or (set (replicate 256 0) 0x80 number) 0x80 0)
  one_entry = record {
    ascii = λ small. absurd (omega arith);
    other = λ past. told_place (get_or (set (replicate 256 0) 0x80 number) 0x80 0) (at_one ∙ is);
  }

  bytes_of : AreByteEntries (λ place. Some 0x3B1) (set (replicate 256 0) 0x80 number)
  bytes_of byte small some =
      ⊎_elim
      (λ below. let none = at_other byte small (λ e. absurd (omega arith)) in absurd (omega arith))
      (λ at_least.
      ⊎_elim
      (λ above. let none = at_other byte small (λ e. absurd (omega arith)) in absurd (omega arith))
      (λ at_most.
      let same : byte ≡ 0x80 = omega arith in
      subst (λ b. IsByteEntry (λ place. Some 0x3B1) b (get_or (set (replicate 256 0) 0x80 number) b 0)) (sym same) one_entry)
      (cases_lt 0x80 byte))
      (cases_lt byte 0x80)

pub told_bytes : (table : List ℕ) → table ≡ slice_set (replicate 256 0) 0x80 (entry_of 0x3B1) → AreByteEntries (λ place. Some 0x3B1) table
told_bytes table is = subst (λ (l : List ℕ). AreByteEntries (λ place. Some 0x3B1) l) (sym is) (bytes_of (entry_of 0x3B1) refl)
