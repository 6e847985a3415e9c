use Rattle.words.proofs.Exists.{reading_of-is, reading_unique, reading_of-reads}
use Rattle.words.proofs.laws.one_reading.Goals as goal

pub returns-clause-exists : goal.returns-clause-exists
returns-clause-exists c = reading_of-is

pub returns-clause-only : goal.returns-clause-only
returns-clause-only c = reading_unique

pub returns-clause-joins : goal.returns-clause-joins
returns-clause-joins c = λ s. (reading_of-reads s).1
