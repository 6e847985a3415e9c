-- What is appended of a source's bytes, and what it lost where reading ends.
use Rattle.std.proofs.Common.{◌≡◌, ℕ, ◌+◌, Option, Some, None, IfSome, List, ◌++◌, length, sym, subst, ap, ◌∙◌, arith, length-append, append-nil}
use Rattle.std.specs.Io.KnownBytes.{Consumes, IsAtEnd}
use Rattle.std.proofs.KnownBytes.{Consumes-trans}
use Rattle.enc_io.specs.Faults.{Rose}
use Rattle.unwrap.specs.declared.status.ReadError.{ReadError}
use Rattle.unwrap.specs.declared.status.ReadError.TheVariants.{ReadFault, TooMuch, Memory}
use Rattle.unwrap.specs.Moves.{IsReadError}

lost_more : (a b c : Option (List ℕ)) (bytes given : List ℕ) → Consumes a b bytes → Consumes b c given → Consumes a c (bytes ++ given)
lost_more a b c bytes given had more = Consumes-trans a b c bytes given had more

-- an error of the next read is one of all that was read
pub error_more : (a b c : Option (List ℕ)) (bytes : List ℕ) (f f' f'' most limit : ℕ) (e : ReadError) → Consumes a b bytes → most + length bytes ≡ limit → f' ≡ f
    → IsReadError b c f' f'' most e → IsReadError a c f f'' limit e
error_more a b c bytes f f' f'' most limit ReadFault had within same h =
    (subst (λ n. Rose n f'') same h.0, (bytes ++ h.1.0, lost_more a b c bytes h.1.0 had h.1.1, omega (arith, length-append bytes h.1.0, h.1.2)))
error_more a b c bytes f f' f'' most limit TooMuch had within same h =
    (h.0 ∙ same, (bytes ++ h.1.0, lost_more a b c bytes h.1.0 had h.1.1, omega (arith, length-append bytes h.1.0, h.1.2)))
error_more a b c bytes f f' f'' most limit Memory had within same h =
    (h.0 ∙ same, (bytes ++ h.1.0, lost_more a b c bytes h.1.0 had h.1.1, omega (arith, length-append bytes h.1.0, h.1.2)))

-- what holds of the bytes that a source gave to its end holds of all that it held
pub of_whole : (left left' : Option (List ℕ)) (bytes : List ℕ) → Consumes left left' bytes → IsAtEnd left' → (P : List ℕ → Type 0) → P bytes → IfSome left P
of_whole None left' bytes moved end P p = tt
of_whole (Some s) None bytes moved end P p = absurd moved
of_whole (Some s) (Some rest) bytes moved end P p = subst P (sym (moved ∙ ap (λ l. bytes ++ l) end ∙ append-nil bytes)) p
