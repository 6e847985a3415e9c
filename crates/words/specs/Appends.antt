-- What a part adds to the text of a header.
use Rattle.std.specs.Prelude.{◌≡◌, ℕ, Ok, List, ◌++◌}
use Rattle.std.specs.Str.{IsUtf8}
use Rattle.words.specs.Header.{Text}

-- this text, which is UTF-8, was appended
pub record Appends (shown : Text) (before after : List ℕ) : Type 0 where
  pub more : List ℕ
  pub shows : shown ≡ Ok more
  pub utf_8 : IsUtf8 more
  pub joined : after ≡ before ++ more
