-- What a look at a front tells.
use Rattle.std.proofs.Common.{◌≡◌, ℕ, ◌<◌, ◌≤◌, Bool, true, false, List, [], ◌∷◌, ◌++◌, length, take, ◌+◌, ◌-◌, get_or, refl, ap, sym, subst, ◌∙◌, inl, inr, arith, length-append, append_assoc}
use Rattle.std.specs.Prelude.{nat_le}
use Rattle.std.proofs.lemmas.Bool.{leb-false}
use Rattle.std.proofs.lemmas.List.{take-append-le, take_more, append-nil}
use Rattle.std.proofs.lemmas.List.Elements.{All-append}
use Rattle.std.proofs.lemmas.Grind.{common_steps}
use Rattle.enc_drivers.specs.declared.unit.Mode.{Mode}
use Rattle.enc_drivers.specs.declared.code.Step.{Step}
use Rattle.enc_drivers.specs.declared.code.Step.TheVariants as step
use Rattle.enc_drivers.specs.Turn.{StepsFront, ReadsOnto}
use Rattle.enc_drivers.specs.Resume.{IsOpen}
use Rattle.enc_drivers.specs.Steps.{Steps, IsUndecided}
use Rattle.enc_drivers.specs.Units.{Code, IsCode, AreBytes}

-- four bytes decide
pub undecided_few : (unit : Code) (mode : Mode) (held : List ℕ) → IsCode unit → AreBytes held → IsUndecided unit mode held → length held < 4
undecided_few unit mode held laws are u = by_test (nat_le 4 (length held)) refl
  where
    front : (more : List ℕ) → 4 ≤ length held → take 4 (held ++ more) ≡ take 4 held
    front more four = take-append-le 4 held more four

    by_test : (t : Bool) → nat_le 4 (length held) ≡ t → length held < 4
    by_test false e = leb-false 4 (length held) e
    by_test true e =
        let four : 4 ≤ length held = grind (arith, common_steps) in
        absurd (u.differ (laws.first_four mode (held ++ u.one) (held ++ u.other)
        (All-append (λ b. b < 256) held u.one are u.one_bytes) (All-append (λ b. b < 256) held u.other are u.other_bytes)
        (rw (length-append held u.one) (omega arith)) (rw (length-append held u.other) (omega arith)) (front u.one four ∙ sym (front u.other four))))

pub steps_front : (unit : Code) (last : Bool) (mode : Mode) (held : List ℕ) (step : Step) → IsCode unit → AreBytes held → 0 < length held → length held ≤ 4
    → Steps unit mode held last step → StepsFront unit last (record { held = held; mode = mode }) step
steps_front unit last mode held (step.Unit item length next) laws are some four s = record { some = some; four = four; bytes = are; decided = s }
steps_front unit last mode held step.More laws are some four s =
    record { few = omega (arith, undecided_few unit mode held laws are s.1); end = λ e. cc (s.0); undecided = inr s.1 }

-- nothing was read yet, or one byte more
pub reads_none : (unit : Code) (mode : Mode) (front src : List ℕ) → ReadsOnto unit mode front front src 0
reads_none unit mode front src = record {
  within = omega arith;
  front = sym (append-nil front);
  needed = λ some. absurd (omega arith);
}

pub reads_more : (unit : Code) (mode : Mode) (a b b' src : List ℕ) (n : ℕ) (x : ℕ) → ReadsOnto unit mode a b src n → n < length src
    → IsOpen unit (record { held = b; mode = mode }) → x ≡ get_or src n 0 → b' ≡ b ++ x ∷ [] → ReadsOnto unit mode a b' src (n + 1)
reads_more unit mode a b b' src n x so_far more waits here front = record {
  within = omega arith;
  front = front ∙ ap (λ (xs : List ℕ). xs ++ x ∷ []) so_far.front
      ∙ append_assoc a (take n src) (x ∷ [])
      ∙ ap (λ (xs : List ℕ). a ++ xs) (ap (λ y. take n src ++ y ∷ []) here ∙ sym (take_more src n 0 more));
  needed = λ some.
      let count : n + 1 - 1 ≡ n = omega arith in
      rw count (subst (λ (xs : List ℕ). IsOpen unit (record { held = xs; mode = mode })) so_far.front waits);
}

-- bytes at the front of an open front are open
pub open_front : (unit : Code) (mode : Mode) (xs ys : List ℕ) → AreBytes ys → IsOpen unit (record { held = xs ++ ys; mode = mode }) → IsOpen unit (record { held = xs; mode = mode })
open_front unit mode [] ys are waits = inl refl
open_front unit mode (x ∷ xs) ys are (inl none) = cc
open_front unit mode (x ∷ xs) ys are (inr u) = inr (record {
  one = ys ++ u.one;
  other = ys ++ u.other;
  one_bytes = All-append (λ b. b < 256) ys u.one are u.one_bytes;
  other_bytes = All-append (λ b. b < 256) ys u.other are u.other_bytes;
  differ = λ e. u.differ (ap (unit mode) (append_assoc (x ∷ xs) ys u.one) ∙ (e ∙ ap (unit mode) (sym (append_assoc (x ∷ xs) ys u.other))));
})
