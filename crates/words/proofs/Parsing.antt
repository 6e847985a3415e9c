-- Lists before others that are still to come, and clear text.
use Rattle.std.proofs.Common.{◌≡◌, ◌≢◌, ℕ, Bool, true, false, cond, Result, Ok, Err, List, [], ◌++◌, refl, sym, ap, ◌∙◌, append_assoc}
use Rattle.std.specs.Str.{is_utf8, IsUtf8}
use Rattle.std.specs.Str.Lossy.{utf8_valid_len}
use Rattle.std.proofs.lemmas.Str.{is_utf8-from_IsUtf8, IsUtf8-from_is_utf8}
use Rattle.words.specs.Fault.{NotUtf8}
use Rattle.words.specs.Header.{clear_text}
use Rattle.words.specs.Joined.{before_list, then_list}

before-more : {A E : Type 0} (front more : List A) (r : Result (List A) E) → before_list front (then_list (Ok more) r) ≡ before_list (front ++ more) r
before-more front more (Ok rest) = ap Ok (sym (append_assoc front more rest))
before-more front more (Err e) = refl

-- one more list
pub list-turn : {A E : Type 0} (front : List A) (first : Result (List A) E) (more : List A) (r : Result (List A) E) → first ≡ Ok more
    → before_list front (then_list first r) ≡ before_list (front ++ more) r
list-turn front first more r h = ap (λ z. before_list front (then_list z r)) h ∙ before-more front more r

-- nothing before a list
pub before-nothing : {A E : Type 0} (r : Result (List A) E) → before_list [] r ≡ r
before-nothing (Ok rest) = refl
before-nothing (Err e) = refl

-- bytes that are shown as they stand, by whether they are UTF-8
clear-test : (bytes : List ℕ) (t : Bool) → is_utf8 bytes ≡ t → clear_text bytes ≡ cond t (Ok bytes) (Err (NotUtf8 (utf8_valid_len bytes)))
clear-test bytes t e = ap (λ z. cond z (Ok bytes) (Err (NotUtf8 (utf8_valid_len bytes)))) e

is-false : (t : Bool) → t ≢ true → t ≡ false
is-false true h = absurd (h refl)
is-false false h = refl

-- a text is shown as it stands
pub clear-text : (bytes : List ℕ) → IsUtf8 bytes → clear_text bytes ≡ Ok bytes
clear-text bytes h = clear-test bytes true (is_utf8-from_IsUtf8 bytes h)

-- bytes that are no text aren't shown
pub clear-fault : (bytes : List ℕ) → ¬ IsUtf8 bytes → clear_text bytes ≡ Err (NotUtf8 (utf8_valid_len bytes))
clear-fault bytes h = clear-test bytes false (is-false (is_utf8 bytes) (λ e. h (IsUtf8-from_is_utf8 bytes e)))
