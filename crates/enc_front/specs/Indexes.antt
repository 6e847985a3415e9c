-- Indexes, and which of them an encoding needs (Encoding Standard, section 5).
use Rattle.std.specs.Prelude.{◌≡◌, ℕ, Bool, true, List, [], ◌∷◌, ◌++◌, if◌then◌else◌, ◌==◌, length}
use Rattle.std.specs.Prelude.{map, find, Option, Some, None, is_some, unwrap_or}
use Rattle.std.specs.List.{list_all}
use Rattle.std.specs.Option.{option_map, option_map_or}
use Rattle.enc_drivers.specs.Lookup.{Places, FindsScalars, HasNoAstral}
use Rattle.enc_front.specs.declared.encoding.Encoding.{Encoding}
use Rattle.enc_front.specs.declared.encoding.Encoding.TheVariants.{Utf8, Utf16Be, Utf16Le}
use Rattle.enc_front.specs.declared.encoding.Encoding.TheVariants.{Windows1252, UserDefined, Single}
use Rattle.enc_front.specs.declared.encoding.Encoding.TheVariants.{Iso8859_8I, Gbk, Gb18030, Big5}
use Rattle.enc_front.specs.declared.encoding.Encoding.TheVariants.{EucJp, Iso2022Jp, ShiftJis}
use Rattle.enc_front.specs.declared.encoding.Encoding.TheVariants.{EucKr}
use Rattle.enc_front.specs.declared.encoding.SingleName.TheVariants.{Iso8859_8}
use Rattle.enc_front.specs.declared.tables.IndexKind.{IndexKind}
use Rattle.enc_front.specs.declared.tables.IndexKind.TheVariants as kind
use Rattle.enc_front.specs.declared.tables.Entry.{Entry}
use Rattle.enc_front.specs.declared.tables.TableError.{TableError}
use Rattle.enc_front.specs.declared.tables.TableError.TheVariants.{Memory, AlreadyThere, BadTable}
use Rattle.enc_front.specs.declared.tables.Tables.{Tables}
use Rattle.enc_front.specs.declared.tables.Why.{Why}
use Rattle.enc_front.specs.Index.{any_places}
use Rattle.enc_front.specs.Kinds.{is_bmp, same_kind}
use Rattle.enc_front.specs.Tables.{places_of, row_fault}

-- the kinds of index that an encoding needs
abbrev pub kinds : Encoding → List IndexKind
kinds Utf8 = []
kinds Utf16Be = []
kinds Utf16Le = []
kinds Windows1252 = []
kinds UserDefined = []
kinds (Single single) = kind.Single single ∷ []
kinds Iso8859_8I = kind.Single Iso8859_8 ∷ []
kinds Gbk = kind.Gb18030 ∷ kind.Gb18030Ranges ∷ []
kinds Gb18030 = kind.Gb18030 ∷ kind.Gb18030Ranges ∷ []
kinds Big5 = kind.Big5 ∷ []
kinds EucJp = kind.Jis0208 ∷ kind.Jis0212 ∷ []
kinds Iso2022Jp = kind.Jis0208 ∷ []
kinds ShiftJis = kind.Jis0208 ∷ []
kinds EucKr = kind.EucKr ∷ []

-- the encodings that need no index
abbrev pub is_built_in : Encoding → Bool
is_built_in encoding = length (kinds encoding) == 0

-- indexes by kind, each kind at most once: the scalar at each place, for ranges by their lookup
abbrev pub Indexes : Type 0
Indexes = List (IndexKind × Places)

-- the index of a kind
abbrev pub index_in : Indexes → IndexKind → Option Places
index_in indexes wanted =
    option_map (λ index. index.1) (find (λ index. same_kind index.0 wanted) indexes)

-- the scalars of the index of a kind: none where there is no such index
abbrev pub places_in : Indexes → IndexKind → Places
places_in indexes wanted = unwrap_or (index_in indexes wanted) (λ place. None)

-- there is an index of a kind
abbrev pub has_kind : Indexes → IndexKind → Bool
has_kind indexes wanted = is_some (index_in indexes wanted)

-- each index that the encoding needs is there
abbrev pub known : Encoding → Indexes → Bool
known encoding indexes = list_all (has_kind indexes) (kinds encoding)

-- the index of an entry
abbrev pub of_entry : Entry → IndexKind × Places
of_entry entry = (entry.kind, any_places entry.index)

-- the indexes of tables
abbrev pub indexes_of : Tables → Indexes
indexes_of tables = map of_entry (option_map_or (λ entries. entries.items) tables.entries [])

-- the indexes with one more, which is made of these pairs
abbrev pub with_index : Indexes → IndexKind → List (ℕ × ℕ) → Indexes
with_index indexes kind pairs = indexes ++ (kind, places_of kind pairs) ∷ []

-- a faulty row, as an error
abbrev pub row_error : ℕ × Why → TableError
row_error fault = BadTable fault.0 fault.1

-- why no index of a kind is made of these pairs, apart from want of memory: there is one, or the
-- first faulty row and its first reason
abbrev pub table_fault : Indexes → IndexKind → List (ℕ × ℕ) → Option TableError
table_fault indexes kind pairs =
    if has_kind indexes kind then Some (AlreadyThere kind)
    else option_map row_error (row_fault kind pairs)

-- out of memory, or this fault
abbrev pub IsMemoryOr : Option TableError → TableError → Type 0
IsMemoryOr fault Memory = Unit {0}
IsMemoryOr fault (AlreadyThere kind) = fault ≡ Some (AlreadyThere kind)
IsMemoryOr fault (BadTable row why) = fault ≡ Some (BadTable row why)

-- every index finds scalars, and those but Big5's and the ranges none above U+FFFF
pub record AreChecked (indexes : Indexes) : Type 0 where
  pub scalars : (kind : IndexKind) → FindsScalars (places_in indexes kind)
  pub bmp : (kind : IndexKind) → is_bmp kind ≡ true → HasNoAstral (places_in indexes kind)
