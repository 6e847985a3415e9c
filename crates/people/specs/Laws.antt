-- Laws of headers' values for people.
use Rattle.std.specs.Prelude.{◌≡◌, ◌↔◌, ℕ, List, Some}
use Rattle.enc_front.specs.declared.encoding.Encoding.{Encoding}
use Rattle.enc_front.specs.Encoding.{label}
use Rattle.enc_front.specs.Indexes.{Indexes}
use Rattle.people.specs.Names.{people_label}
use Rattle.people.specs.Parts.{people_syntax, reading}
use Rattle.people.specs.Reading.{Part, IsReading, spellings}
use Rattle.people.specs.Word.{Word}

-- every list has a reading
abbrev pub ReadingExists : Type 0
ReadingExists = (indexes : Indexes) (s : List ℕ) →
    IsReading (people_syntax indexes) s (reading indexes s)

-- and only one
abbrev pub OneReading : Type 0
OneReading = (indexes : Indexes) (s : List ℕ) (parts : List (Part Word)) →
    IsReading (people_syntax indexes) s parts ↔ (parts ≡ reading indexes s)

-- its parts' spellings join to the list
abbrev pub SpellingsJoin : Type 0
SpellingsJoin = (indexes : Indexes) (s : List ℕ) →
    spellings (people_syntax indexes) (reading indexes s) ≡ s

-- where a name is a label of the Encoding Standard, it means what the standard says
abbrev pub LabelsAgree : Type 0
LabelsAgree = (name : List ℕ) (encoding : Encoding) → label name ≡ Some encoding
    → people_label name ≡ Some encoding
