-- How commands end that neither read nor write.
use Rattle.std.proofs.Common.{◌≡◌, ◌≢◌, ◌⊎◌, ◌≤◌, ℕ, List, [], length, Option, Some, None, IfSome, IsOk, refl, inr, arith}
use Rattle.std.proofs.KnownBytes.{Consumes-nil}
use Rattle.unwrap.specs.declared.status.Status.TheVariants.{Done, ReadFault, WriteFault, Memory}
use Rattle.unwrap.specs.Delivers.{Answer, Delivers, TellsFaultOf}

-- whatever was asked for
pub every : {A : Type 0} (o : Option A) (P : A → Type 0) → ((a : A) → P a) → IfSome o P
every None P h = tt
every (Some a) P h = h a

-- nothing was read and written, for want of memory
pub delivers_memory : (value : List ℕ → Answer) (most : ℕ) (left taken : Option (List ℕ)) → Delivers value most left left taken taken Memory
delivers_memory value most left taken = record {
  headline = λ e. cc;
  drained = λ h. absurd h;
  limit = λ h. absurd h;
  fault = told left;
  some_fault = tt;
  too_much = λ e. cc;
  given = λ _. ([], Consumes-nil left, omega arith);
  prefix = λ e. cc;
  complete = ends left;
}
  where
    told : (o : Option (List ℕ)) → IfSome o (λ s. TellsFaultOf (value s) Memory)
    told None = tt
    told (Some s) = tt

    ends : (o : Option (List ℕ)) → IfSome o (λ s. length s ≤ most → IsOk (value s) → Memory ≢ ReadFault → Memory ≢ WriteFault → (Memory ≡ Done) ⊎ (Memory ≡ Memory))
    ends None = tt
    ends (Some s) = λ _ _ _ _. inr refl
