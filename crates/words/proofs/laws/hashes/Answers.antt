use Rattle.words.proofs.SameHashes.{same_hashed_texts, same_hashed_parsed}
use Rattle.words.proofs.laws.hashes.Goals as goal

pub returns-clause-parsed : goal.returns-clause-parsed
returns-clause-parsed c = same_hashed_parsed

pub returns-clause-too_long : goal.returns-clause-too_long
returns-clause-too_long c = same_hashed_texts
