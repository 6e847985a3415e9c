-- Index files, word by word.
use Rattle.std.proofs.Common.{◌≡◌, ℕ, List, [], ◌∷◌, ◌++◌, length, Option, Some, None, refl, sym, ap, append_assoc, true, false, nat_lt, lit<, arith}
use Rattle.std.specs.Borrow.{Bor}
use Rattle.std.specs.Option.{option_map}
use Rattle.enc_front.specs.declared.tables.IndexKind.{IndexKind}
use Rattle.std.specs.List.{after_first, before_first, position_or_len}
use Rattle.std.proofs.lemmas.Bool.Decides.{nat_tests}
use Rattle.std.proofs.lemmas.Str.Pattern.{IsSplitOnceResult, split_once_first}
use Rattle.unwrap.specs.Values.{file_of, is_equals, kind_of, named_file}

abbrev File : Type 0
File = IndexKind × List ℕ

joined : (had : List File) (file : File) (o : Option (List File)) → option_map (λ (rest : List File). had ++ rest) (option_map (λ (files : List File). file ∷ files) o)
    ≡ option_map (λ (rest : List File). (had ++ file ∷ []) ++ rest) o
joined had file None = refl
joined had file (Some files) = ap Some (sym (append_assoc had (file ∷ []) files))

-- a word without `=`
pub split_none : (word : List ℕ) (r : Option (Bor (List ℕ) × Bor (List ℕ))) → IsSplitOnceResult 61 word r → r ≡ None → file_of word ≡ None
unfolding file_of
split_none word r split none =
    let h = split_once_first 61 word r split (lit< tt) in
    let past : position_or_len is_equals word ≡ length word = rw none at h in
    let no : nat_lt (position_or_len is_equals word) (length word) ≡ false = grind (arith, nat_tests) in
    rw no refl

-- and one with it
pub split_some : (word : List ℕ) (r : Option (Bor (List ℕ) × Bor (List ℕ))) (kind name : Bor (List ℕ)) → IsSplitOnceResult 61 word r → r ≡ Some (kind, name)
    → named_file name.now (kind_of kind.now) ≡ file_of word
unfolding file_of
split_some word r kind name split some =
    let h = rw some at (split_once_first 61 word r split (lit< tt)) in
    let before : kind.now ≡ before_first is_equals word = h.1 in
    let after : name.now ≡ after_first is_equals word = h.2 in
    let there : nat_lt (position_or_len is_equals word) (length word) ≡ true = grind (arith, nat_tests) in
    rw (before, after, there) refl
