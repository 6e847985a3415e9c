-- Lists, or errors in their places, one after another.
use Rattle.std.specs.Prelude.{Result, Ok, Err, List, [], ◌∷◌, ◌++◌}

-- a list before another; an error stands
abbrev pub before_list : {A E : Type 0} → List A → Result (List A) E → Result (List A) E
before_list front (Ok rest) = Ok (front ++ rest)
before_list front (Err error) = Err error

-- the first of two lists, or its error, before the second
abbrev pub then_list : {A E : Type 0} → Result (List A) E → Result (List A) E → Result (List A) E
then_list (Ok front) rest = before_list front rest
then_list (Err error) rest = Err error

-- lists one after another, or the first error among them
abbrev pub join_lists : {A E : Type 0} → List (Result (List A) E) → Result (List A) E
join_lists [] = Ok []
join_lists (first ∷ rest) = then_list first (join_lists rest)

-- one element as a list
abbrev pub one_element : {A E : Type 0} → Result A E → Result (List A) E
one_element (Ok element) = Ok (element ∷ [])
one_element (Err error) = Err error
