-- Decoding with replacement: a turn, and turns in a row, over plain values.
use Rattle.std.proofs.Common.{◌≡◌, ℕ, ◌+◌, ◌-◌, ◌*◌, ◌<◌, ◌≤◌, Bool, true, false, List, [], ◌∷◌}
use Rattle.std.proofs.Common.{◌++◌, length, drop, refl, ap, sym, ◌∙◌, arith, cond, inl, inr}
use Rattle.std.proofs.Common.{append_assoc}
use Rattle.std.specs.Prelude.{nat_lt, ◌||◌, ◌&&◌, if◌then◌else◌}
use Rattle.std.specs.List.{All}
use Rattle.std.proofs.lemmas.List.{append-nil, drop-drop}
use Rattle.std.proofs.lemmas.Bool.{lt-ltb, le-ltb, ltb-true, ltb-false}
use Rattle.std.proofs.lemmas.List.Sums.{sum_by-cons, sum_by-append}
use Rattle.std.proofs.lemmas.List.Elements.{All-head, All-tail}
use Rattle.enc_handles.specs.declared.results.DecoderResult.{DecoderResult}
use Rattle.enc_handles.specs.declared.results.DecoderResult.TheVariants as result
use Rattle.enc_drivers.specs.declared.unit.Item.{Item}
use Rattle.enc_drivers.specs.declared.unit.Item.TheVariants as item
use Rattle.enc_drivers.specs.Resume.{malformed_of}
use Rattle.enc_drivers.specs.Steps.{MayFollow}
use Rattle.enc_front.specs.DecoderSteps.{tells_malformed}
use Rattle.enc_front.specs.DecoderCalls.{DecoderResumesWriting, Replaces, EndsMalformed}
use Rattle.enc_front.specs.DecoderCalls.{is_malformed, malformed_count, owed_count, room_for}
use Rattle.enc_front.specs.Decoder.{DecoderStanding, owed_in, to_come, encoding_to_come}
use Rattle.enc_front.specs.Decoder.{text_to_come_in}
use Rattle.enc_front.specs.Output.{Output, room_in, replacement_in, text_as}
use Rattle.enc_front.proofs.OutputLemmas.{text_in_output, text_as_nil, text_as-append, told_text}
use Rattle.enc_front.proofs.OutputLemmas.{small_room}

malformed_count-append : (a b : List (Item × ℕ))
    → malformed_count (a ++ b) ≡ malformed_count a + malformed_count b
malformed_count-append a b = sum_by-append (λ (u : Item × ℕ). cond (is_malformed u.0) 1 0) a b

abbrev well : Item × ℕ → Type 0
well u = ¬ (u.0 ≡ item.Malformed)

not_malformed : (i : Item) → ¬ (i ≡ item.Malformed) → is_malformed i ≡ false
not_malformed (item.One scalar) ne = refl
not_malformed (item.Two first second) ne = refl
not_malformed item.Malformed ne = absurd (ne refl)
not_malformed item.Silent ne = refl

well_formed_none : (us : List (Item × ℕ)) → All well us → malformed_count us ≡ 0
well_formed_none [] each = refl
well_formed_none (u ∷ us) each =
    let here : is_malformed u.0 ≡ false = not_malformed u.0 (All-head well u us each) in
    let rest = well_formed_none us (All-tail well u us each) in
    sum_by-cons (λ (v : Item × ℕ). cond (is_malformed v.0) 1 0) u us
    ∙ (ap (λ t. cond t 1 0 + malformed_count us) here ∙ (omega (arith, rest)))

told_count : (tells : DecoderResult)
    → malformed_count (malformed_of tells) ≡ (if tells_malformed tells then 1 else 0)
told_count result.InputEmpty = refl
told_count result.OutputFull = refl
told_count (result.Malformed n k) = refl

told_ends : (front : List (Item × ℕ)) (tells : DecoderResult) → tells_malformed tells ≡ true
    → EndsMalformed (front ++ malformed_of tells)
told_ends front result.InputEmpty e = cc e
told_ends front result.OutputFull e = cc e
told_ends front (result.Malformed n k) e = record { front = front; len = n; is = refl }

owed_before : (t b : Bool)
    → nat_lt (if t then 1 else 0) ((if t then 1 else 0) + (if b then 1 else 0)) ≡ b
owed_before true true = refl
owed_before true false = refl
owed_before false true = refl
owed_before false false = refl

-- nothing was done yet
pub replaces_nothing : {output : Output} (last : Bool) (a : DecoderStanding) (src : List ℕ)
    → Replaces output last a a src 0 [] false
replaces_nothing {output} last a src = record {
  decoded = [];
  equation = λ more follows. refl;
  text = ap (λ (l : List ℕ). owed_in output a ++ l) (text_as_nil output)
      ∙ append-nil (owed_in output a);
  owing = λ e. inr (refl, e);
  some_replaced = sym (le-ltb (owed_count a) (0 + owed_count a) (omega arith));
  same_encoding = λ more follows. refl;
  same_indexes = refl;
}

-- a turn
pub replaces_turn : {output : Output} (last : Bool) (a b : DecoderStanding) (src : List ℕ) (n : ℕ)
    (first second whole : List ℕ) (tells : DecoderResult) (owes : Bool)
    → DecoderResumesWriting output last a.place b.place src n second (malformed_of tells)
    → first ≡ owed_in output a → whole ≡ first ++ second → owes ≡ tells_malformed tells
    → Replaces output last a (record b { owes = owes }) src n whole a.owes
replaces_turn {output} last a b src n first second whole tells owes call paid joins told =
    let wrong = malformed_of tells in
    let behind : (if tells_malformed tells then replacement_in output else [])
    ≡ (if owes then replacement_in output else []) =
    ap (λ (t : Bool). if t then replacement_in output else []) (sym told) in
    let written : text_as output call.decoded ≡ second = sym (text_in_output output call.decoded)
    ∙ sym call.text in
    let count : malformed_count (call.decoded ++ wrong) ≡ (if tells_malformed tells then 1 else 0) =
    malformed_count-append call.decoded wrong
    ∙ (ap (λ k. k + malformed_count wrong)
    (well_formed_none call.decoded call.resumes.well_formed)
    ∙ (omega (arith, told_count tells))) in
    record {
      decoded = call.decoded ++ wrong;
      equation = λ more follows. call.resumes.equation more follows
          ∙ sym (append_assoc call.decoded wrong (to_come b.place (drop n src ++ more)));
      text =
          ap (λ (l : List ℕ). owed_in output a ++ l) (text_as-append output call.decoded wrong
          ∙ (ap (λ (l : List ℕ). l ++ text_as output wrong) written
          ∙ ap (λ (l : List ℕ). second ++ l) (told_text output tells ∙ behind)))
          ∙ (ap (λ (l : List ℕ). l ++ (second ++ (if owes then replacement_in output else [])))
          (sym paid)
          ∙ (sym (append_assoc first second (if owes then replacement_in output else []))
          ∙ ap (λ (l : List ℕ). l ++ (if owes then replacement_in output else []))
          (sym joins)));
      owing = λ e. inl (told_ends call.decoded tells (sym told ∙ e));
      some_replaced = sym (ap
          (λ (t : Bool). nat_lt (if t then 1 else 0)
          (malformed_count (call.decoded ++ wrong) + owed_count a)) told
          ∙ (ap (λ k. nat_lt (if tells_malformed tells then 1 else 0) (k + owed_count a)) count
          ∙ owed_before (tells_malformed tells) a.owes));
      same_encoding = call.resumes.same_encoding;
      same_indexes = call.resumes.same_indexes;
    }

-- what is owed was met or owed before
owed_within : (output : Output) (last : Bool) (a b : DecoderStanding) (src : List ℕ) (n : ℕ)
    (written : List ℕ) (replaced : Bool) (call : Replaces output last a b src n written replaced)
    → owed_count b ≤ malformed_count call.decoded + owed_count a
owed_within output last a b src n written replaced call = by_owes b.owes refl
  where
    ends : (us : List (Item × ℕ)) → EndsMalformed us → 1 ≤ malformed_count us
    ends us e = omega (
      arith,
      ap malformed_count e.is,
      malformed_count-append e.front
          ((item.Malformed, e.len) ∷ []),
    )

    by_owes : (owes : Bool) → b.owes ≡ owes
        → owed_count b ≤ malformed_count call.decoded + owed_count a
    by_owes false e = rw e (omega arith)
    by_owes true e =
        let one : owed_count b ≡ 1 = ap (λ (t : Bool). if t then 1 else 0) e in
        elim (call.owing e) [
          | inl met ↦ omega (arith, one, ends call.decoded met)
          | inr before ↦ let owed_one : owed_count a
              ≡ 1 = ap (λ (t : Bool). if t then 1 else 0) before.1 in omega (arith, one, owed_one)
        ]

lt_join : (a b c p q : ℕ) → b ≤ p + a → c ≤ q + b → (s t : Bool) → nat_lt b (p + a) ≡ s
    → nat_lt c (q + b) ≡ t → (s || t) ≡ nat_lt c ((p + q) + a)
lt_join a b c p q h k true t one two =
    sym (lt-ltb c ((p + q) + a) (omega (arith, ltb-true b (p + a) one)))
lt_join a b c p q h k false true one two =
    sym (lt-ltb c ((p + q) + a) (omega (arith, ltb-true c (q + b) two)))
lt_join a b c p q h k false false one two =
    sym (le-ltb c ((p + q) + a) (omega (arith, ltb-false b (p + a) one, ltb-false c (q + b) two)))

-- two turns in a row
pub replaces_more : {output : Output} (last : Bool) (a b c : DecoderStanding) (src : List ℕ)
    (n m : ℕ) (one two whole : List ℕ) (s t : Bool)
    → Replaces output last a b src n one s → Replaces output last b c (drop n src) m two t
    → whole ≡ one ++ two → Replaces output last a c src (n + m) whole (s || t)
replaces_more {output} last a b c src n m one two whole s t first second joins =
    rw joins record {
      decoded = first.decoded ++ second.decoded;
      equation = λ more follows.
          first.equation more follows
          ∙ (ap (λ (l : List (Item × ℕ)). first.decoded ++ l) (second.equation more follows)
          ∙ (sym (append_assoc first.decoded second.decoded
          (to_come c.place (drop m (drop n src) ++ more)))
          ∙ ap (λ (l : List ℕ). (first.decoded ++ second.decoded) ++ to_come c.place (l ++ more))
          (drop-drop m n src)));
      text =
          ap (λ (l : List ℕ). owed_in output a ++ l)
          (text_as-append output first.decoded second.decoded)
          ∙ (sym (append_assoc (owed_in output a) (text_as output first.decoded)
          (text_as output second.decoded))
          ∙ (ap (λ (l : List ℕ). l ++ text_as output second.decoded) first.text
          ∙ (append_assoc one (owed_in output b) (text_as output second.decoded)
          ∙ (ap (λ (l : List ℕ). one ++ l) second.text
          ∙ sym (append_assoc one two (owed_in output c))))));
      owing = λ e. elim (second.owing e) [
        | inl met ↦ inl (record {
          front = first.decoded ++ met.front;
          len = met.len;
          is = ap (λ (l : List (Item × ℕ)). first.decoded ++ l) met.is
              ∙ sym (append_assoc first.decoded met.front ((item.Malformed, met.len) ∷ []));
        })
        | inr before ↦ elim (first.owing before.1) [
          | inl met ↦ inl (record {
            front = met.front;
            len = met.len;
            is =
                ap (λ (l : List (Item × ℕ)). first.decoded ++ l) before.0
                ∙ (append-nil first.decoded ∙ met.is);
          })
          | inr start ↦ inr (
            ap (λ (l : List (Item × ℕ)). first.decoded ++ l) before.0
                ∙ (append-nil first.decoded ∙ start.0),
            start.1,
          )
        ]
      ];
      some_replaced =
          lt_join (owed_count a) (owed_count b) (owed_count c) (malformed_count first.decoded)
          (malformed_count second.decoded)
          (owed_within output last a b src n one s first)
          (owed_within output last b c (drop n src) m two t second) s t
          (sym first.some_replaced) (sym second.some_replaced)
          ∙ ap (λ k. nat_lt (owed_count c) (k + owed_count a))
          (sym (malformed_count-append first.decoded second.decoded));
      same_encoding = λ more follows.
          first.same_encoding more follows
          ∙ (second.same_encoding more follows
          ∙ ap (λ (l : List ℕ). encoding_to_come c.place (l ++ more)) (drop-drop m n src));
      same_indexes = second.same_indexes ∙ first.same_indexes;
    }

-- what was written and the text that is to come now are the text that was to come
pub replaces_text : {output : Output} (last : Bool) (a b : DecoderStanding) (src : List ℕ) (n : ℕ)
    (written : List ℕ) (replaced : Bool) → Replaces output last a b src n written replaced
    → (more : List ℕ) → MayFollow last more
    → text_to_come_in output a (src ++ more)
    ≡ written ++ text_to_come_in output b (drop n src ++ more)
replaces_text {output} last a b src n written replaced call more follows =
    let later = to_come b.place (drop n src ++ more) in
    ap (λ (l : List (Item × ℕ)). owed_in output a ++ text_as output l) (call.equation more follows)
    ∙ (ap (λ (l : List ℕ). owed_in output a ++ l) (text_as-append output call.decoded later)
    ∙ (sym (append_assoc (owed_in output a) (text_as output call.decoded) (text_as output later))
    ∙ (ap (λ (l : List ℕ). l ++ text_as output later) call.text
    ∙ append_assoc written (owed_in output b) (text_as output later))))

pub told_length : (tells : DecoderResult)
    → length (malformed_of tells) ≡ (if tells_malformed tells then 1 else 0)
told_length result.InputEmpty = refl
told_length result.OutputFull = refl
told_length (result.Malformed n k) = refl

pub and_false : (b : Bool) → false ≡ (b && false)
and_false true = refl
and_false false = refl

-- a call with room enough doesn't fill it
pub not_full : (output : Output) (before after : DecoderStanding) (src new : List ℕ) (n m : ℕ)
    → room_for before (length src) ≤ length new → length before.place.held ≤ 3 → n ≤ length src
    → m + 3 * (length after.place.held + owed_count after)
    ≤ 3 * (length before.place.held + n + owed_count before) → length new - m < room_in output
    → ⊥
not_full output before after src new n m wide few within short full =
    omega (arith, wide, few, within, short, full, small_room output)

-- a call that writes nothing into room enough doesn't fill it
pub not_stuck : {room free m : ℕ} → room ≤ free → m ≡ 0 → free - m < room → ⊥
not_stuck wide none full = omega (arith, wide, none, full)
