use Rattle.words.proofs.Words.{begins_unique, word_at-begins, begins-word_at}
use Rattle.words.proofs.laws.one_word.Goals as goal

pub returns-clause-only : goal.returns-clause-only
returns-clause-only c = begins_unique

pub returns-clause-found : goal.returns-clause-found
returns-clause-found c = λ s w. (begins-word_at s w, word_at-begins s w)
