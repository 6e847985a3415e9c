use Rattle.std.proofs.Common.{rules, true, false, suc, ℕ, List, ◌∷◌, get_or, ◌+◌, ◌-◌, ◌≡◌, ◌++◌, [], drop}
use Rattle.std.proofs.Common.{ap, sym, ◌∙◌, arith, length-drop}
use Rattle.std.proofs.Math.Seq.{drop-cons}
use Rattle.std.proofs.lemmas.List.{nil_from_length}
use Rattle.std.proofs.lemmas.List.Elements.{All-nil}
use Rattle.enc_front.specs.Decoder.{DecoderPlace, to_come, encoding_to_come}
use Rattle.enc_front.specs.DecoderView.{place_of}
use Rattle.enc_front.specs.Variant.{standing_in}
use Rattle.enc_front.proofs.StartLemmas.{end_to_come, end_encoding, nothing_follows}
use Rattle.enc_front.proofs.decoder.Decoder.look_for_mark.Goals as goal

pub loop-byte-preserved : goal.loop-byte-preserved
loop-byte-preserved c =
    let so_far = c.loop-byte.invariant in
    let look = c.look_at.ensures in
    let front = place_of c.loop-byte.self in
    let src = c.args.src.now in
    let taken : c.look_at.result ≡ true = cc in
    let i = c.loop-byte.byte-index in
    let cut : drop i src ≡ get_or src i 0 ∷ drop (i + 1) src =
    let next : suc i ≡ i + 1 = omega arith in
    drop-cons src i 0 (omega arith) ∙ ap (λ k. get_or src i 0 ∷ drop k src) next in
    let behind : c.loop-byte.byte-index ≡ c.loop-byte.read + 1 - 1 = omega (arith, so_far.count) in
    record {
      count = search rules;
      same = λ more. so_far.same more
          ∙ (ap (λ (l : List ℕ). to_come front (l ++ more)) cut
          ∙ look.taken taken (drop (i + 1) src ++ more));
      same_encoding = λ more. so_far.same_encoding more
          ∙ (ap (λ (l : List ℕ). encoding_to_come front (l ++ more)) cut
          ∙ look.taken_encoding taken (drop (i + 1) src ++ more));
      same_indexes = search rules;
      held = omega (arith, so_far.held, look.held taken);
      needs = λ some held. record {
        front = front;
        decoded = [];
        resumes = record {
          well_formed = All-nil _;
          equation = λ more follows. so_far.same more
              ∙ ap (λ k. to_come front (drop k src ++ more)) behind;
          same_encoding = λ more follows. so_far.same_encoding more
              ∙ ap (λ k. encoding_to_come front (drop k src ++ more)) behind;
          same_indexes = so_far.same_indexes;
        };
        undecided = look.open_before taken;
        covers = look.held taken;
      };
      same_end = search rules;
    }

pub returns-then-last-clause-resumes : goal.returns-then-last-clause-resumes
returns-then-last-clause-resumes c =
    let i = c.loop-byte.byte-index in
    let src = c.args.src.now in
    let before = place_of c.loop-byte.self in
    let after = place_of c.end_start.new.self in
    let held = (standing_in c.loop-byte.self.variant).held ++ c.loop-byte.self.replay.now in
    let nothing : drop i src
    ≡ [] = nil_from_length (drop i src)
    (omega (arith, length-drop i src, c.loop-byte-test.false)) in
    let end = end_to_come _ _ held (standing_in c.loop-byte.self.variant).mode
    c.loop-byte.self.start
    ∙ sym (ap (λ (s : DecoderPlace). to_come s []) c.end_start.ensures.place) in
    let end_of_encoding = end_encoding _ held c.loop-byte.self.start
    ∙ sym (ap (λ (s : DecoderPlace). encoding_to_come s []) c.end_start.ensures.place) in
    record {
      well_formed = All-nil _;
      equation = λ more follows. c.loop-byte.invariant.same more
          ∙ (nothing_follows (λ bytes. to_come before bytes) (λ bytes. to_come after bytes)
          (drop i src) more nothing (follows.none c.if-last.true) end
          ∙ ap (λ k. to_come after (drop k src ++ more)) (sym c.loop-byte.invariant.count));
      same_encoding = λ more follows. c.loop-byte.invariant.same_encoding more
          ∙ (nothing_follows (λ bytes. encoding_to_come before bytes)
          (λ bytes. encoding_to_come after bytes) (drop i src) more nothing
          (follows.none c.if-last.true) end_of_encoding
          ∙ ap (λ k. encoding_to_come after (drop k src ++ more))
          (sym c.loop-byte.invariant.count));
      same_indexes = ap (λ (s : DecoderPlace). s.indexes) c.end_start.ensures.place
          ∙ c.loop-byte.invariant.same_indexes;
    }

pub returns-then-not-look_at-clause-resumes : goal.returns-then-not-look_at-clause-resumes
returns-then-not-look_at-clause-resumes c =
    let so_far = c.loop-byte.invariant in
    let look = c.look_at.ensures in
    let front = place_of c.loop-byte.self in
    let after = place_of c.look_at.new.self in
    let src = c.args.src.now in
    let refused : c.look_at.result ≡ false = cc in
    let i = c.loop-byte.byte-index in
    let cut : drop i src ≡ get_or src i 0 ∷ drop (i + 1) src =
    let next : suc i ≡ i + 1 = omega arith in
    drop-cons src i 0 (omega arith) ∙ ap (λ k. get_or src i 0 ∷ drop k src) next in
    let back : get_or src i 0 ∷ drop (i + 1) src ≡ drop c.loop-byte.read src =
    sym cut ∙ ap (λ k. drop k src) (sym so_far.count) in
    record {
      well_formed = All-nil _;
      equation = λ more follows. so_far.same more
          ∙ (ap (λ (l : List ℕ). to_come front (l ++ more)) cut
          ∙ (look.refused_units refused (drop (i + 1) src ++ more)
          ∙ ap (λ (l : List ℕ). to_come after (l ++ more)) back));
      same_encoding = λ more follows. so_far.same_encoding more
          ∙ (ap (λ (l : List ℕ). encoding_to_come front (l ++ more)) cut
          ∙ (look.refused_encoding refused (drop (i + 1) src ++ more)
          ∙ ap (λ (l : List ℕ). encoding_to_come after (l ++ more)) back));
      same_indexes = look.same_indexes ∙ so_far.same_indexes;
    }
