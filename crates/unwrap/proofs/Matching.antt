-- From the clauses of `try_get_matches_from` to `matched_in`.
use Rattle.std.proofs.Common.{ap, ap₂, sym, subst, refl, inl, inr, true, false, Bool, List, [], ◌∷◌, Option, Some, None, Ok, Err, ◌≡◌, ◌≢◌, ◌∙◌}
use Rattle.std.proofs.lemmas.Slice.Eq.{bytes_eq-Decides}
use Rattle.std.specs.Prelude.{Result, IfSome, IsErrAnd, MatchResult, codes, option_map, unwrap_or, if◌then◌else◌}
use Rattle.std.specs.List.{list_all}
use Rattle.std.specs.Str.{bytes_eq}
use Rattle.std.specs.Str.Parse.{ParsesBool}
use Rattle.clap.specs.Matches.{ReadsOne}
use Rattle.clap.specs.Words.{App, FailsBy, HasMatchesOf, IsAmong, Kinds, Text, fault_of, found_of, is_simple_and_free, kind_of, matches_of, rows_of}
use Rattle.clap.specs.declared.error.Error.{Error}
use Rattle.clap.specs.declared.error.ErrorKind.{ErrorKind}
use Rattle.clap.specs.declared.error.ErrorKind.TheVariants.{OutOfMemory}
use Rattle.clap.specs.declared.parser.matches.ArgMatches.{ArgMatches}
use Rattle.clap.proofs.OnLiterals.{clap_on_literals}
use Rattle.clap.proofs.WalkLemmas.{both}
use Rattle.unwrap.specs.declared.command_line.matched.Refusal.{Refusal}
use Rattle.unwrap.specs.declared.command_line.matched.Refusal.TheVariants.{Memory, Usage}
use Rattle.unwrap.specs.Matched.{matched_at, matched_in, refusal_of}
use Rattle.unwrap.specs.Table.{Listed, Row, commands, described, row_in, row_of, row_view}
use Rattle.unwrap.specs.Values.{is_true_text}

-- the commands are simple, and no argument has a rule on another: clap's clauses are exact
all_simple : list_all (λ (row : Row). is_simple_and_free (described row)) commands ≡ true
unfolding commands described clap_on_literals
all_simple = refl

first_or : (r row : Row) (rest : Option Row) (here : Bool) → (if here then Some r else rest) ≡ Some row → is_simple_and_free (described r) ≡ true
    → (rest ≡ Some row → is_simple_and_free (described row) ≡ true) → is_simple_and_free (described row) ≡ true
first_or r row rest true found simple more = subst (λ (x : Row). is_simple_and_free (described x) ≡ true) (ap (λ o. unwrap_or o r) found) simple
first_or r row rest false found simple more = more found

simple_in : (rows : List Row) (word : Text) (row : Row) → list_all (λ (r : Row). is_simple_and_free (described r)) rows ≡ true → row_in rows word ≡ Some row
    → is_simple_and_free (described row) ≡ true
simple_in [] word row all found = cc
simple_in (r ∷ rows) word row all found =
    first_or r row (row_in rows word) (bytes_eq r.word word) found (both _ _ all).0 (simple_in rows word row (both _ _ all).1)

pub row_is_simple : (word : Text) (row : Option Listed) → option_map row_view row ≡ row_of word
    → IfSome row (λ r. is_simple_and_free (described (row_view r)) ≡ true)
unfolding row_of
row_is_simple word None found = tt
row_is_simple word (Some row) found = simple_in commands word (row_view row) all_simple (sym found)

-- an `Ok` of a command whose description is b has the matches of b
pub matched_ok : (a b : App) → a ≡ b → is_simple_and_free b ≡ true → (words : List Text) (m : ArgMatches)
    → (is_simple_and_free a ≡ true → FailsBy {T = ArgMatches} (fault_of a words) (Ok m)) → HasMatchesOf a words m
    → matched_in b words ≡ Some (rows_of (found_of m))
unfolding matched_in
matched_ok a b same simple words m kinds matches =
    let simple_a : is_simple_and_free a ≡ true = ap is_simple_and_free same ∙ simple in
    let none : fault_of a words ≡ [] = kinds simple_a in
    let rows : rows_of (found_of m) ≡ matches_of a words = (matches (both _ _ simple_a).0).0 in
    ap (λ x. matched_in x words) (sym same) ∙ ap₂ matched_at none (sym rows)

-- an `Err` that is no want of memory comes only where b has no matches
pub matched_err : (a b : App) → a ≡ b → is_simple_and_free b ≡ true → (words : List Text) (e : Error)
    → (is_simple_and_free a ≡ true → FailsBy {T = ArgMatches} (fault_of a words) (Err e)) → kind_of e ≢ OutOfMemory
    → matched_in b words ≡ None
unfolding matched_in
matched_err a b same simple words e kinds other =
    let simple_a : is_simple_and_free a ≡ true = ap is_simple_and_free same ∙ simple in
    ap (λ x. matched_in x words) (sym same) ∙ elim (kinds simple_a) [
      | inl memory ↦ absurd (other memory)
      | inr among ↦ go (fault_of a words) among
    ]
  where
    go : (ks : Kinds) → IsAmong (kind_of e) ks → matched_at ks (matches_of a words) ≡ None
    go [] h = absurd h
    go (k ∷ ks) h = refl

-- what `get_one::<bool>(..).unwrap_or(false)` gives
pub flag_read : (E : Type 0) (o : Option Text) (r : Option Bool) → (o ≡ None → r ≡ None)
    → ((t : Text) → o ≡ Some t → ReadsOne (ParsesBool {E = E}) t r) → unwrap_or r false ≡ is_true_text o
flag_read E None r none value = rw (none refl) refl
flag_read E (Some t) r none value = go r (value t refl)
  where
    miss : (b : Bool) → bytes_eq t (codes "true") ≡ b → t ≢ codes "true" → false ≡ b
    miss true e other = absurd (other ((bytes_eq-Decides t (codes "true")).0 e))
    miss false e other = refl

    go : (r : Option Bool) → ReadsOne (ParsesBool {E = E}) t r → unwrap_or r false ≡ bytes_eq t (codes "true")
    go (Some true) h = rw h refl
    go (Some false) h = rw h refl
    go None h = miss (bytes_eq t (codes "true")) refl h.1.0

-- the `Err` that a `?` makes
pub err_weaker : {T E : Type 0} (r : Result T E) (P : T → Type 0) (Q R : E → Type 0) → IsErrAnd r Q → ((e : E) → Q e → R e) → MatchResult r P R
err_weaker (Ok x) P Q R h f = absurd h
err_weaker (Err e) P Q R h f = f e h

-- `Usage` comes of no want of memory
pub usage_not_memory : (k : ErrorKind) (r : Refusal) → r ≡ refusal_of k → r ≡ Usage → k ≢ OutOfMemory
usage_not_memory k r is usage memory = let bad : Usage ≡ Memory = sym usage ∙ is ∙ ap refusal_of memory in cc
