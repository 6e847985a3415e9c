-- What a program finds in a header, as it is seen by definitions.
use Rattle.std.specs.Prelude.{◌≡◌, ℕ, ◌<◌, Bool, ◌&&◌, if◌then◌else◌, List, [], ◌∷◌, ◌++◌, drop}
use Rattle.std.specs.Prelude.{length, Option, Some, None}
use Rattle.std.specs.List.{list_all}
use Rattle.std.specs.Option.{option_map, option_map_or}
use Rattle.std.specs.Borrow.{Bor}
use Rattle.enc_front.specs.declared.encoding.Encoding.{Encoding}
use Rattle.people.specs.declared.frame.FrameSlices.{FrameSlices}
use Rattle.people.specs.declared.word.WordSlice.{WordSlice}
use Rattle.people.specs.declared.pieces.Part.{Part}
use Rattle.people.specs.declared.pieces.Part.TheVariants as part
use Rattle.people.specs.Frame.{Frame, Cut}
use Rattle.people.specs.Reading.{Encoded, Clear, Gap}
use Rattle.people.specs.Reading.{Part as ReadPart}
use Rattle.people.specs.Unfolded.{is_blank}
use Rattle.people.specs.Word.{Word}

-- a list in two
abbrev pub cut_of : Bor (List ℕ) × Bor (List ℕ) → Cut
cut_of cut = (cut.0.now, cut.1.now)

abbrev pub letter_cut_of : ℕ × Bor (List ℕ) → ℕ × List ℕ
letter_cut_of cut = (cut.0, cut.1.now)

-- the frame whose fields these are
abbrev pub sliced_frame : FrameSlices → Frame
sliced_frame f = record { charset = f.charset.now; letter = f.letter; text = f.text.now }

-- a word without its octets: its encoding and how it is spelled
abbrev pub Seen : Type 0
Seen = Encoding × List ℕ

abbrev pub seen : Word → Seen
seen w = (w.encoding, w.spelling)

-- a part of a reading, its words without their octets
abbrev pub seen_part : ReadPart Word → ReadPart Seen
seen_part (Encoded w) = Encoded (seen w)
seen_part (Clear text) = Clear text
seen_part (Gap text) = Gap text

-- a part that a program gives
abbrev pub given_part : Part → ReadPart Seen
given_part (part.Word w) = Encoded (w.encoding, w.spelling.now)
given_part (part.Clear text) = Clear text.now
given_part (part.Gap text) = Gap text.now

-- a word that a program gives
abbrev pub given : WordSlice → Seen
given w = (w.encoding, w.spelling.now)

-- the octets of a word, if there is one
abbrev pub octets_of : Option Word → List ℕ
octets_of found = option_map_or (λ w. w.octets) found []

-- a program has found the word, and appended its octets
pub record Finds (word : Option Word) (old new : List ℕ) (found : Option WordSlice)
    : Type 0 where
  pub seen : option_map given found ≡ option_map seen word
  pub octets : new ≡ old ++ octets_of word

-- no word begins at a place before this one
abbrev pub NoWordBefore : (List ℕ → Option Word) → List ℕ → ℕ → Type 0
NoWordBefore at s end = (k : ℕ) → k < end → at (drop k s) ≡ None

-- the first word of a list, what stands before and after it, and its octets appended
pub record FindsFirst (at : List ℕ → Option Word) (s before : List ℕ) (found : WordSlice)
    (after old new : List ℕ) : Type 0 where
  pub word : Word
  pub seen : given found ≡ seen word
  pub whole : s ≡ before ++ (word.spelling ++ after)
  pub begins : at (word.spelling ++ after) ≡ Some word
  pub none_before : NoWordBefore at s (length before)
  pub octets : new ≡ old ++ word.octets

-- text outside of words as a part: a gap where it stands between two words and is of blanks alone
abbrev pub clear_or_gap_text : Bool → List ℕ → ReadPart Word
clear_or_gap_text between_words text = if between_words && list_all is_blank text then Gap text
    else Clear text

-- the same as parts: none where it is empty
abbrev pub seen_text : Bool → List ℕ → List (ReadPart Seen)
seen_text between_words [] = []
seen_text between_words (b ∷ text) = seen_part (clear_or_gap_text between_words (b ∷ text)) ∷ []
