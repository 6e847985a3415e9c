-- Commands that read their input whole, make a value of it, and write that.
use Rattle.std.specs.Prelude.{◌≡◌, ◌≢◌, ◌⊎◌, ℕ, ◌+◌, ◌≤◌, ⊤, Option, IsSome, IfSome, IsSomeAnd}
use Rattle.std.specs.Prelude.{Result, Ok, Err, IsOk, IsOkAnd, List, length, Vec}
use Rattle.std.specs.Io.KnownBytes.{Appends, IsAtEnd}
use Rattle.std.specs.declared.alloc.Global.{Global}
use Rattle.enc_front.specs.declared.encoding.Encoding.{Encoding}
use Rattle.enc_io.specs.Faults.{Rose}
use Rattle.qp.specs.declared.QuotedPrintableError.{QuotedPrintableError}
use Rattle.words.specs.Fault.{HeaderFault, fault_of}
use Rattle.unwrap.specs.declared.status.Status.{Status}
use Rattle.unwrap.specs.declared.status.Status.TheVariants.{Done, Header, ReadFault, TooMuch, Usage}
use Rattle.unwrap.specs.declared.status.Status.TheVariants.{BadIndex, NoTable, WriteFault, Memory}
use Rattle.unwrap.specs.declared.status.Status.TheVariants.{Shelf, Quoted}
use Rattle.unwrap.specs.Moves.{AppendsPrefix, Loses, LosesAtMost}
use Rattle.unwrap.specs.Status.{HasInput}

-- why an input has no value
pub data Fault : Type 0 where
  -- the header has no text
  InHeader : HeaderFault → Fault
  -- the quoted-printable text has this fault
  InQuoted : QuotedPrintableError → Fault
  -- the encoding that is asked for has no index
  NeedsTable : Encoding → Fault

-- what is made of an input
abbrev pub Answer : Type 0
Answer = Result (List ℕ) Fault

-- the status says why there is no value, or tells want of memory
abbrev pub Refuses : Answer → Status → Type 0
Refuses value (Header error) = IsSomeAnd (fault_of error) (λ fault. value ≡ Err (InHeader fault))
Refuses value (Quoted error) = value ≡ Err (InQuoted error)
Refuses value Memory = ⊤
Refuses value _ = ⊥

-- where the status is that of a fault, the value is missing for this fault
abbrev pub TellsFaultOf : Answer → Status → Type 0
TellsFaultOf value (Header error) =
    IsSomeAnd (fault_of error) (λ fault. value ≡ Err (InHeader fault))
TellsFaultOf value (Quoted error) = value ≡ Err (InQuoted error)
TellsFaultOf value (NoTable encoding) = value ≡ Err (NeedsTable encoding)
TellsFaultOf value _ = ⊤

-- where the status is that of a header without a text, it says why, and isn't want of memory
abbrev pub TellsSomeFault : Status → Type 0
TellsSomeFault (Header error) = IsSome (fault_of error)
TellsSomeFault _ = ⊤

-- the input was read to its end, and isn't too long
pub record HasRead (limit : ℕ) (left left' : Option (List ℕ)) : Type 0 where
  pub drained : IsAtEnd left'
  pub within : IfSome left (λ s. length s ≤ limit)
  pub given : LosesAtMost left left' limit

-- why nothing is made of a source's bytes
abbrev pub IsRefused : (List ℕ → Answer) → ℕ → Option (List ℕ) → Option (List ℕ) → ℕ → ℕ → Status
    → Type 0
IsRefused value limit left left' faults faults' ReadFault = Rose faults faults'
    × LosesAtMost left left' limit
IsRefused value limit left left' faults faults' TooMuch = (faults' ≡ faults)
    × Loses left left' (limit + 1)
IsRefused value limit left left' faults faults' Memory = (faults' ≡ faults)
    × LosesAtMost left left' limit
IsRefused value limit left left' faults faults' Done = ⊥
IsRefused value limit left left' faults faults' WriteFault = ⊥
IsRefused value limit left left' faults faults' Usage = ⊥
IsRefused value limit left left' faults faults' (BadIndex fault) = ⊥
IsRefused value limit left left' faults faults' (Shelf fault) = ⊥
IsRefused value limit left left' faults faults' (NoTable encoding) = (faults' ≡ faults)
    × LosesAtMost left left' limit × IfSome left (λ s. value s ≡ Err (NeedsTable encoding))
IsRefused value limit left left' faults faults' status = (faults' ≡ faults)
    × HasRead limit left left' × TellsSomeFault status × IfSome left (λ s. Refuses (value s) status)

-- what was made of a source's bytes, or why nothing was
abbrev pub Makes : (List ℕ → Answer) → ℕ → Option (List ℕ) → Option (List ℕ) → ℕ → ℕ
    → Result (Vec ℕ Global) Status → Type 0
Makes value limit left left' faults faults' (Ok bytes) = (faults' ≡ faults)
    × HasRead limit left left' × IfSome left (λ s. value s ≡ Ok bytes.items)
Makes value limit left left' faults faults' (Err status) =
    IsRefused value limit left left' faults faults' status

-- how a command ends that reads at most so many bytes and writes their value: what a source has
-- left, what a sink has taken, and the status
pub record Delivers (value : List ℕ → Answer) (most : ℕ) (left left' taken taken' : Option (List ℕ))
    (status : Status) : Type 0 where
  -- what was written is the value of all that the source held
  pub headline : status ≡ Done
      → IfSome left (λ s. IsOkAnd (value s) (λ text. Appends taken taken' text))
  pub drained : HasInput status → IsAtEnd left'
  pub limit : HasInput status → IfSome left (λ s. length s ≤ most)
  pub fault : IfSome left (λ s. TellsFaultOf (value s) status)
  pub some_fault : TellsSomeFault status
  pub too_much : status ≡ TooMuch → Loses left left' (most + 1)
  pub given : status ≢ TooMuch → LosesAtMost left left' most
  pub prefix : status ≡ WriteFault
      → IfSome left (λ s. IsOkAnd (value s) (λ text. AppendsPrefix taken taken' text))
  -- when it succeeds, but for want of memory
  pub complete : IfSome left (λ s. length s ≤ most → IsOk (value s) → status ≢ ReadFault
      → status ≢ WriteFault → (status ≡ Done) ⊎ (status ≡ Memory))
