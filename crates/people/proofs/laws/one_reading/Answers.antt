use Rattle.people.specs.Parts.{people_syntax}
use Rattle.people.proofs.Exists.{reading_of-is, reading_unique, reading_of-reads}
use Rattle.people.proofs.WordLemmas.{is_syntax}
use Rattle.people.proofs.laws.one_reading.Goals as goal

pub returns-clause-exists : goal.returns-clause-exists
returns-clause-exists c = λ T. reading_of-is (people_syntax T) (is_syntax T)

pub returns-clause-only : goal.returns-clause-only
returns-clause-only c = λ T. reading_unique (people_syntax T) (is_syntax T)

pub returns-clause-joins : goal.returns-clause-joins
returns-clause-joins c = λ T s. (reading_of-reads (people_syntax T) (is_syntax T) s).1
