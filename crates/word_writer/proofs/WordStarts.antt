-- Where `=?` stands in a text.
use Rattle.std.proofs.Common.{◌≡◌, ℕ, true, false, List, [], ◌∷◌, sym, ap, ◌∙◌}
use Rattle.std.specs.Prelude.{nat_eq, ◌||◌, codes}
use Rattle.std.specs.List.{starts_with}
use Rattle.word_writer.specs.Plain.{has_word_start}

pub start-here : (s : List ℕ) → true ≡ starts_with nat_eq s (codes "=?") → true ≡ has_word_start s
unfolding has_word_start
start-here [] h = h
start-here (b ∷ s) h = ap (λ t. t || has_word_start s) h

pub start-later : (s more whole : List ℕ) (b : ℕ) → s ≡ b ∷ more → false ≡ starts_with nat_eq s (codes "=?") → has_word_start whole ≡ has_word_start s
    → has_word_start whole ≡ has_word_start more
unfolding has_word_start
start-later s more whole b e h so_far = so_far ∙ (ap has_word_start e ∙ ap (λ t. t || has_word_start more) (sym (h ∙ ap (λ l. starts_with nat_eq l (codes "=?")) e)))

pub start-none : (s : List ℕ) → s ≡ [] → false ≡ has_word_start s
unfolding has_word_start
start-none s e = sym (ap has_word_start e)
