-- Texts cut into groups of whole characters (RFC 2047, section 5: each encoded word has an integral
-- number of characters).
use Rattle.std.specs.Prelude.{ℕ, zero, suc, ◌-◌, Bool, not, ◌&&◌, nat_le, nat_lt, nat_eq, List}
use Rattle.std.specs.Prelude.{[], ◌∷◌, ◌++◌, length, take, drop, slice_index, if◌then◌else◌}
use Rattle.std.specs.List.{starts_with}
use Rattle.enc_front.specs.Marks.{mark_of}
use Rattle.enc_front.specs.declared.encoding.Encoding.TheVariants.{Utf8}
use Rattle.word_writer.specs.declared.limits.TheConstants.{MAX_GROUP_LEN}

-- U+FEFF in UTF-8, which a reader drops at the front of a word as a byte order mark (Encoding
-- Standard, section 6, "decode")
abbrev pub mark : List ℕ
mark = mark_of Utf8

abbrev pub begins_with_mark : List ℕ → Bool
begins_with_mark text = starts_with nat_eq text mark

-- a group as it is encoded: U+FEFF at its front stands twice, so that one of them is read
abbrev pub with_mark_twice : List ℕ → List ℕ
with_mark_twice group = if begins_with_mark group then mark ++ group else group

-- the most bytes of a text that the group at its front may take, so that the group as it is encoded
-- fits
abbrev pub group_room : List ℕ → ℕ
group_room text = if begins_with_mark text then MAX_GROUP_LEN - length mark else MAX_GROUP_LEN

-- a byte of a character other than its first (RFC 3629, section 3)
abbrev pub is_continuation : ℕ → Bool
is_continuation b = nat_le 0x80 b && nat_lt b 0xC0

-- the first bytes of a text, as many as this, are whole characters
abbrev pub is_between_characters : List ℕ → ℕ → Bool
is_between_characters text count =
    nat_le count (length text) && not (is_continuation (slice_index text count))

-- the most bytes from the front of a text that are whole characters and fit into a room
unfoldable pub fitting : List ℕ → ℕ → ℕ
fitting text zero = 0
fitting text (suc room) = if is_between_characters text (suc room) then suc room
    else fitting text room

-- how many bytes the group at the front of a text has: as many whole characters as fit
unfoldable pub group_len : List ℕ → ℕ
group_len text = fitting text (group_room text)

abbrev pub front_group : List ℕ → List ℕ
front_group text = take (group_len text) text

-- at most n groups from the front
unfoldable pub first_groups : ℕ → List ℕ → List (List ℕ)
first_groups zero text = []
first_groups (suc n) [] = []
first_groups (suc n) (b ∷ text) = front_group (b ∷ text)
    ∷ first_groups n (drop (group_len (b ∷ text)) (b ∷ text))

-- the groups of a text, from left to right; each has one byte at least
unfoldable pub groups : List ℕ → List (List ℕ)
groups text = first_groups (length text) text
