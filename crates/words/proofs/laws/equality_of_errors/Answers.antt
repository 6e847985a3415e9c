use Rattle.words.proofs.SameErrors.{same_texts, same_lexer_errors, same_errors}
use Rattle.words.proofs.laws.equality_of_errors.Goals as goal

pub returns-clause-too_long : goal.returns-clause-too_long
returns-clause-too_long c = same_texts

pub returns-clause-lexer_errors : goal.returns-clause-lexer_errors
returns-clause-lexer_errors c = same_lexer_errors

pub returns-clause-errors : goal.returns-clause-errors
returns-clause-errors c = same_errors
