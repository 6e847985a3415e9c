use Rattle.words.proofs.SameValues.{same_words, same_tokens, same_slices}
use Rattle.words.proofs.laws.equality_of_words.Goals as goal

pub returns-clause-encoded_words : goal.returns-clause-encoded_words
returns-clause-encoded_words c = same_words

pub returns-clause-tokens : goal.returns-clause-tokens
returns-clause-tokens c = same_tokens

pub returns-clause-slices : goal.returns-clause-slices
returns-clause-slices c = same_slices
