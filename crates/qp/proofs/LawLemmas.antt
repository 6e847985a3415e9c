-- The laws of the definitions, over lists.
use Rattle.std.proofs.Common.{◌≡◌, ◌≢◌, ℕ, ◌-◌, ◌≤◌, true, false, eqb, List, [], ◌∷◌, ◌++◌, length, get_or, refl, ap, ◌∙◌, arith}
use Rattle.std.specs.List.{All, AllByRecursion as ByRecursion, suffix_len}
use Rattle.std.proofs.lemmas.Bool.{ne_eqb}
use Rattle.std.proofs.lemmas.Bool.Decides.{nat_tests}
use Rattle.std.proofs.lemmas.List.{take_all}
use Rattle.std.proofs.lemmas.List.Elements.{recursion_from_All, All-from_recursion, All-get_or}
use Rattle.std.proofs.lemmas.List.Sums.{suffix_len_is}
use Rattle.qp.specs.Text.{is_text_octet, is_line_padding, kept, trimmed}
use Rattle.qp.specs.Line.{parts, values, line_value, literal}
use Rattle.qp.specs.Robust.{robust, line_end}
use Rattle.qp.proofs.Reading.{robust_one_line, robust_line, kept_yes, parts_literal, parts_nil, values-cons, values-nil}

-- no LF, as a test and as a fact
no_line_feed : (text : List ℕ) → All (λ b. b ≢ 10) text → All (λ b. eqb b 10 ≡ false) text
no_line_feed text h =
    All-from_recursion (λ b. eqb b 10 ≡ false) text (by_cases text (recursion_from_All (λ b. b ≢ 10) text h))
  where
    by_cases : (xs : List ℕ) → ByRecursion (λ b. b ≢ 10) xs → ByRecursion (λ b. eqb b 10 ≡ false) xs
    by_cases [] r = tt
    by_cases (x ∷ xs) r = (ne_eqb x 10 r.0, by_cases xs r.1)

pub one_line_law : (text : List ℕ) → All (λ b. b ≢ 10) text → robust text ≡ line_value (kept text)
one_line_law text h = robust_one_line text (no_line_feed text h)

pub line_by_line_law : (line rest : List ℕ) → All (λ b. b ≢ 10) line → robust (line ++ 10 ∷ rest) ≡ line_value (kept line) ++ line_end (kept line) ++ robust rest
line_by_line_law line rest h = robust_line line rest (no_line_feed line h)

-- a printable octet that is no `=`, which stands for itself
abbrev IsLiteral : ℕ → Type 0
IsLiteral b = (33 ≤ b) × (b ≤ 126) × (b ≢ 61)

is_text_literal : (b : ℕ) → 33 ≤ b → b ≤ 126 → is_text_octet b ≡ true
is_text_literal b low high = grind (arith, nat_tests)

no_padding_literal : (b : ℕ) → 33 ≤ b → is_line_padding b ≡ false
no_padding_literal b low = grind (arith, nat_tests)

kept_literal : (text : List ℕ) → ByRecursion IsLiteral text → kept text ≡ text
unfolding kept
kept_literal [] h = refl
kept_literal (b ∷ bs) h = kept_yes b bs (is_text_literal b h.0.0 h.0.1) ∙ ap (λ t. b ∷ t) (kept_literal bs h.1)

trimmed_literal : (text : List ℕ) → All IsLiteral text → trimmed text ≡ text
unfolding trimmed
trimmed_literal text h =
    let none : suffix_len is_line_padding text ≡ length text - length text =
    suffix_len_is is_line_padding text (length text) 0 (omega arith) (λ k above below. absurd (omega arith))
    (λ some. no_padding_literal (get_or text (length text - 1) 0) (All-get_or IsLiteral text (length text - 1) 0 (omega arith) h).0) in
    take_all (length text - suffix_len is_line_padding text) text (omega arith)

values_literal : (text : List ℕ) → ByRecursion IsLiteral text → values (parts text) ≡ text
values_literal [] h = ap values parts_nil ∙ values-nil
values_literal (b ∷ bs) h =
    ap values (parts_literal b bs (ne_eqb b 61 h.0.2)) ∙ values-cons (literal b) (parts bs) ∙ ap (λ t. b ∷ t) (values_literal bs h.1)

no_feed_literal : (text : List ℕ) → ByRecursion IsLiteral text → ByRecursion (λ b. eqb b 10 ≡ false) text
no_feed_literal [] h = tt
no_feed_literal (b ∷ bs) h =
    (ne_eqb b 10 (λ e. absurd (omega (arith, h.0.0))), no_feed_literal bs h.1)

pub literal_octets_law : (text : List ℕ) → All IsLiteral text → robust text ≡ text
unfolding line_value
literal_octets_law text h =
    let each = recursion_from_All IsLiteral text h in
    robust_one_line text (All-from_recursion (λ b. eqb b 10 ≡ false) text (no_feed_literal text each))
    ∙ ap (λ t. values (parts (trimmed t))) (kept_literal text each)
    ∙ ap (λ t. values (parts t)) (trimmed_literal text h)
    ∙ values_literal text each
