use Rattle.std.proofs.Common.{◌∷◌, ap, sym, ◌∙◌, ◌≡◌, List, ℕ}
use Rattle.std.specs.Option.{option_map}
use Rattle.words.specs.Lexer.{sliced_word}
use Rattle.words.proofs.Found.{prefix-found, equals-found, none-prefix, none-charset, none-encoding, none-text, none-end, word-found, spelling-found}
use Rattle.words.proofs.lexer.word_at.Goals as goal

pub returns-in_err-inside-clause-value : goal.returns-in_err-inside-clause-value
returns-in_err-inside-clause-value c =
    ap (option_map sliced_word) c.from_residual.ensures ∙ sym (none-prefix c.args.bytes.now c.in_err-inside.ensures.cases)

pub returns-in_err-charset-clause-value : goal.returns-in_err-charset-clause-value
returns-in_err-charset-clause-value c =
    let s : List ℕ = c.args.bytes.now in
    let inside : List ℕ = c.in_ok-inside.inside.now in
    let begun : s ≡ 61 ∷ 63 ∷ inside = prefix-found s inside c.in_ok-inside.ensures.cases.0 c.in_ok-inside.ensures.cases.1 in
    ap (option_map sliced_word) c.from_residual-in_err-charset.ensures ∙ sym (none-charset s inside begun c.in_err-charset.ensures.none)

pub returns-in_err-encoding-clause-value : goal.returns-in_err-encoding-clause-value
returns-in_err-encoding-clause-value c =
    let s : List ℕ = c.args.bytes.now in
    let inside : List ℕ = c.in_ok-inside.inside.now in
    let begun : s ≡ 61 ∷ 63 ∷ inside = prefix-found s inside c.in_ok-inside.ensures.cases.0 c.in_ok-inside.ensures.cases.1 in
    ap (option_map sliced_word) c.from_residual-in_err-encoding.ensures ∙ sym (none-encoding s inside begun
    c.in_ok-charset.charset.now c.in_ok-charset.rest.now c.in_ok-charset.ensures.found.0 c.in_ok-charset.ensures.found.1 c.in_err-encoding.ensures.none)

pub returns-in_err-encoded_text-clause-value : goal.returns-in_err-encoded_text-clause-value
returns-in_err-encoded_text-clause-value c =
    let s : List ℕ = c.args.bytes.now in
    let inside : List ℕ = c.in_ok-inside.inside.now in
    let begun : s ≡ 61 ∷ 63 ∷ inside = prefix-found s inside c.in_ok-inside.ensures.cases.0 c.in_ok-inside.ensures.cases.1 in
    ap (option_map sliced_word) c.from_residual-in_err-encoded_text.ensures ∙ sym (none-text s inside begun
    c.in_ok-charset.charset.now c.in_ok-charset.rest.now c.in_ok-charset.ensures.found.0 c.in_ok-charset.ensures.found.1
    c.in_ok-encoding.encoding.now c.in_ok-encoding.rest.now c.in_ok-encoding.ensures.found.0 c.in_ok-encoding.ensures.found.1 c.in_err-encoded_text.ensures.none)

pub returns-in_err-after-clause-value : goal.returns-in_err-after-clause-value
returns-in_err-after-clause-value c =
    let s : List ℕ = c.args.bytes.now in
    let inside : List ℕ = c.in_ok-inside.inside.now in
    let begun : s ≡ 61 ∷ 63 ∷ inside = prefix-found s inside c.in_ok-inside.ensures.cases.0 c.in_ok-inside.ensures.cases.1 in
    ap (option_map sliced_word) c.from_residual-in_err-after.ensures ∙ sym (none-end s inside begun
    c.in_ok-charset.charset.now c.in_ok-charset.rest.now c.in_ok-charset.ensures.found.0 c.in_ok-charset.ensures.found.1
    c.in_ok-encoding.encoding.now c.in_ok-encoding.rest.now c.in_ok-encoding.ensures.found.0 c.in_ok-encoding.ensures.found.1
    c.in_ok-encoded_text.encoded_text.now c.in_ok-encoded_text.rest.now c.in_ok-encoded_text.ensures.found.0 c.in_ok-encoded_text.ensures.found.1
    c.in_err-after.ensures.cases)

pub returns-clause-value : goal.returns-clause-value
returns-clause-value c =
    let s : List ℕ = c.args.bytes.now in
    let inside : List ℕ = c.in_ok-inside.inside.now in
    let begun : s ≡ 61 ∷ 63 ∷ inside = prefix-found s inside c.in_ok-inside.ensures.cases.0 c.in_ok-inside.ensures.cases.1 in
    sym (word-found s inside begun
    c.in_ok-charset.charset.now c.in_ok-charset.rest.now c.in_ok-charset.ensures.found.0 c.in_ok-charset.ensures.found.1
    c.in_ok-encoding.encoding.now c.in_ok-encoding.rest.now c.in_ok-encoding.ensures.found.0 c.in_ok-encoding.ensures.found.1
    c.in_ok-encoded_text.encoded_text.now c.in_ok-encoded_text.rest.now c.in_ok-encoded_text.ensures.found.0 c.in_ok-encoded_text.ensures.found.1
    c.in_ok-after.after.now (equals-found c.in_ok-encoded_text.rest.now c.in_ok-after.after.now c.in_ok-after.ensures.cases.0 c.in_ok-after.ensures.cases.1))

pub returns-clause-spelled : goal.returns-clause-spelled
returns-clause-spelled c =
    let s : List ℕ = c.args.bytes.now in
    let inside : List ℕ = c.in_ok-inside.inside.now in
    let begun : s ≡ 61 ∷ 63 ∷ inside = prefix-found s inside c.in_ok-inside.ensures.cases.0 c.in_ok-inside.ensures.cases.1 in
    spelling-found s inside begun
    c.in_ok-charset.charset.now c.in_ok-charset.rest.now c.in_ok-charset.ensures.found.0 c.in_ok-charset.ensures.found.1
    c.in_ok-encoding.encoding.now c.in_ok-encoding.rest.now c.in_ok-encoding.ensures.found.0 c.in_ok-encoding.ensures.found.1
    c.in_ok-encoded_text.encoded_text.now c.in_ok-encoded_text.rest.now c.in_ok-encoded_text.ensures.found.0 c.in_ok-encoded_text.ensures.found.1
    c.in_ok-after.after.now (equals-found c.in_ok-encoded_text.rest.now c.in_ok-after.after.now c.in_ok-after.ensures.cases.0 c.in_ok-after.ensures.cases.1)
