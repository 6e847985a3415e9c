-- The start of a stream: what is to come before and behind a look at a byte.
use Rattle.std.proofs.Common.{◌≡◌, ℕ, ◌≤◌, ◌<◌, Bool, List, [], ◌∷◌, ◌++◌, refl, ap, sym, ◌∙◌}
use Rattle.std.proofs.Common.{arith, inl, inr, true, false}
use Rattle.std.proofs.Math.Nat.{eq-or-lt_of_le}
use Rattle.enc_drivers.specs.declared.unit.Item.{Item}
use Rattle.enc_drivers.specs.declared.unit.Mode.{Mode}
use Rattle.enc_drivers.specs.declared.unit.Mode.TheVariants.{Plain}
use Rattle.enc_front.specs.declared.encoding.Encoding.{Encoding}
use Rattle.enc_front.specs.declared.encoding.Encoding.TheVariants as name
use Rattle.enc_front.specs.declared.mark.MarkPart.{MarkPart}
use Rattle.enc_front.specs.declared.mark.MarkPart.TheVariants.{Ef, EfBb, Fe, Ff}
use Rattle.enc_front.specs.declared.mark.Start.{Start}
use Rattle.enc_front.specs.declared.mark.Start.TheVariants.{Any, Own, Seen, Over}
use Rattle.enc_front.specs.declared.mark.Look.TheVariants.{Mark, Other}
use Rattle.enc_front.specs.DecoderCalls.{HoldsMark, DecoderMayHold}
use Rattle.enc_front.specs.Indexes.{Indexes}
use Rattle.enc_front.specs.DecoderView.{held_at, mode_at}
use Rattle.enc_front.specs.Decoder.{no_mark, any_mark, past_mark, units_past_mark}
use Rattle.enc_front.specs.Lemmas.Held.{few_bytes}
use Rattle.enc_front.specs.Start.{part_bytes, marks_at, LooksAt}

-- what is to come at a start
abbrev pub coming : Indexes → Start → Encoding → List ℕ → Mode → List ℕ → List (Item × ℕ)
coming indexes start encoding held mode bytes = units_past_mark indexes (mode_at start mode)
    (past_mark (marks_at start) encoding (held_at start held ++ bytes))

-- its encoding
abbrev pub coming_encoding : Start → Encoding → List ℕ → List ℕ → Encoding
coming_encoding start encoding held bytes =
    (past_mark (marks_at start) encoding (held_at start held ++ bytes)).0

module _ (indexes : Indexes) (encoding : Encoding) (held : List ℕ) (mode : Mode) (byte : ℕ) where
  pub mark_to_come : (start : Start) (found : Encoding) → ¬ (start ≡ Over)
      → LooksAt start encoding byte (Mark found) → (more : List ℕ)
      → coming indexes start encoding held mode (byte ∷ more)
      ≡ coming indexes Over found [] Plain more
  unfolding past_mark
  mark_to_come Any found ne look more = ap (units_past_mark indexes Plain) (look.0 more)
  mark_to_come Own found ne look more = ap (units_past_mark indexes Plain) (look.0 more)
  mark_to_come (Seen seen) found ne look more = ap (units_past_mark indexes Plain) (look.0 more)
  mark_to_come Over found ne look more = absurd (ne refl)

  pub other_to_come : (start : Start) → ¬ (start ≡ Over) → LooksAt start encoding byte Other
      → (more : List ℕ)
      → coming indexes start encoding held mode (byte ∷ more)
      ≡ coming indexes Over encoding (held_at start held) (mode_at start mode) (byte ∷ more)
  unfolding past_mark
  other_to_come Any ne look more = ap (units_past_mark indexes Plain) (look more)
  other_to_come Own ne look more = ap (units_past_mark indexes Plain) (look more)
  other_to_come (Seen seen) ne look more = ap (units_past_mark indexes Plain) (look more)
  other_to_come Over ne look more = absurd (ne refl)

module _ (encoding : Encoding) (held : List ℕ) (byte : ℕ) where
  pub mark_encoding : (start : Start) (found : Encoding) → ¬ (start ≡ Over)
      → LooksAt start encoding byte (Mark found) → (more : List ℕ)
      → coming_encoding start encoding held (byte ∷ more) ≡ coming_encoding Over found [] more
  unfolding past_mark
  mark_encoding Any found ne look more = ap (λ (p : Encoding × List ℕ). p.0) (look.0 more)
  mark_encoding Own found ne look more = ap (λ (p : Encoding × List ℕ). p.0) (look.0 more)
  mark_encoding (Seen seen) found ne look more = ap (λ (p : Encoding × List ℕ). p.0) (look.0 more)
  mark_encoding Over found ne look more = absurd (ne refl)

  pub other_encoding : (start : Start) → ¬ (start ≡ Over) → LooksAt start encoding byte Other
      → (more : List ℕ)
      → coming_encoding start encoding held (byte ∷ more)
      ≡ coming_encoding Over encoding (held_at start held) (byte ∷ more)
  unfolding past_mark
  other_encoding Any ne look more = ap (λ (p : Encoding × List ℕ). p.0) (look more)
  other_encoding Own ne look more = ap (λ (p : Encoding × List ℕ). p.0) (look more)
  other_encoding (Seen seen) ne look more = ap (λ (p : Encoding × List ℕ). p.0) (look more)
  other_encoding Over ne look more = absurd (ne refl)

own_end : (encoding : Encoding) → past_mark (marks_at Own) encoding [] ≡ (encoding, [])
unfolding past_mark
own_end name.Utf8 = refl
own_end name.Utf16Be = refl
own_end name.Utf16Le = refl
own_end _ = refl

part_end : (part : MarkPart) (encoding : Encoding)
    → past_mark any_mark encoding (part_bytes part ++ []) ≡ (encoding, part_bytes part ++ [])
unfolding past_mark
part_end Ef encoding = refl
part_end EfBb encoding = refl
part_end Fe encoding = refl
part_end Ff encoding = refl

-- at the end a part of a mark is none
pub end_to_come : (indexes : Indexes) (encoding : Encoding) (held : List ℕ) (mode : Mode)
    (start : Start)
    → coming indexes start encoding held mode []
    ≡ coming indexes Over encoding (held_at start held) (mode_at start mode) []
unfolding past_mark
end_to_come indexes encoding held mode Any = refl
end_to_come indexes encoding held mode Own = ap (units_past_mark indexes Plain) (own_end encoding)
end_to_come indexes encoding held mode (Seen part) =
    ap (units_past_mark indexes Plain) (part_end part encoding)
end_to_come indexes encoding held mode Over = refl

pub end_encoding : (encoding : Encoding) (held : List ℕ) (start : Start)
    → coming_encoding start encoding held [] ≡ coming_encoding Over encoding (held_at start held) []
unfolding past_mark
end_encoding encoding held Any = refl
end_encoding encoding held Own = ap (λ (p : Encoding × List ℕ). p.0) (own_end encoding)
end_encoding encoding held (Seen part) =
    ap (λ (p : Encoding × List ℕ). p.0) (part_end part encoding)
end_encoding encoding held Over = refl

-- nothing is left, and nothing follows
pub nothing_follows : {A : Type 0} (f g : List ℕ → A) (rest more : List ℕ) → rest ≡ [] → more ≡ []
    → f [] ≡ g [] → f (rest ++ more) ≡ g (rest ++ more)
nothing_follows f g rest more none end same =
    let is : rest ++ more ≡ [] = ap (λ (l : List ℕ). l ++ more) none ∙ end in
    ap f is ∙ (same ∙ ap g (sym is))

-- a part of a mark may be held
holds_mark : (indexes : Indexes) (encoding : Encoding) (part : MarkPart)
    → HoldsMark (record {
      indexes = indexes;
      encoding = encoding;
      marks = any_mark;
      held = part_bytes part;
      mode = Plain;
    })
unfolding past_mark
holds_mark indexes encoding Ef =
    record {
      encoding = name.Utf8;
      rest = 0xBB ∷ 0xBF ∷ [];
      some = omega arith;
      mark = refl;
      removed = refl;
    }
holds_mark indexes encoding EfBb =
    record {
      encoding = name.Utf8;
      rest = 0xBF ∷ [];
      some = omega arith;
      mark = refl;
      removed = refl;
    }
holds_mark indexes encoding Fe =
    record {
      encoding = name.Utf16Be;
      rest = 0xFF ∷ [];
      some = omega arith;
      mark = refl;
      removed = refl;
    }
holds_mark indexes encoding Ff =
    record {
      encoding = name.Utf16Le;
      rest = 0xFE ∷ [];
      some = omega arith;
      mark = refl;
      removed = refl;
    }

pub may_hold_start : (indexes : Indexes) (encoding : Encoding) (last : Bool) (start : Start)
    (held : List ℕ) (mode : Mode) → ¬ (start ≡ Over) → last ≡ false
    → DecoderMayHold last
    (record {
      indexes = indexes;
      encoding = encoding;
      marks = marks_at start;
      held = held_at start held;
      mode = mode_at start mode;
    })
may_hold_start indexes encoding last Any held mode ne e =
    record { few = omega arith; end = λ h. refl; undecided = inl refl }
may_hold_start indexes encoding last Own held mode ne e =
    record { few = omega arith; end = λ h. refl; undecided = inl refl }
may_hold_start indexes encoding last (Seen part) held mode ne e =
    record {
      few = few_bytes part;
      end = λ h. cc;
      undecided = inr (inl (holds_mark indexes encoding part));
    }
may_hold_start indexes encoding last Over held mode ne e = absurd (ne refl)

-- no mark is removed only behind the start
pub start_over : (start : Start) → marks_at start ≡ no_mark → start ≡ Over
start_over Any e = cc e
start_over Own e = cc e
start_over (Seen part) e = cc e
start_over Over e = refl

-- all was read where the start isn't over
pub all_read : (start : Start) (read n : ℕ) → ¬ (start ≡ Over) → read ≤ n
    → (read < n → marks_at start ≡ no_mark) → read ≡ n
all_read start read n ne within refused =
    elim (eq-or-lt_of_le within)
    [ inl e ↦ e | inr lt ↦ absurd (ne (start_over start (refused lt))) ]

pub not_last : (start : Start) (last : Bool) → ¬ (start ≡ Over)
    → (last ≡ true → marks_at start ≡ no_mark) → last ≡ false
not_last start true ne ended = absurd (ne (start_over start (ended refl)))
not_last start false ne ended = refl
