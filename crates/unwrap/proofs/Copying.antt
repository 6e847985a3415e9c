-- What a copy of a reader's text has done so far, and how it ends.
use Rattle.std.proofs.Common.{◌≡◌, ◌⊎◌, ℕ, ◌+◌, ◌-◌, ◌^◌, ◌<◌, ◌≤◌, min, true, Option, Some, None, IfSome, List, [], ◌∷◌, ◌++◌, length, take, drop, inl, inr, refl, sym, subst, ap, ◌∙◌, arith, append_assoc, append-nil, length-append, take-append-drop}
use Rattle.std.proofs.Math.Seq.{take-append_seam}
use Rattle.std.proofs.lemmas.List.Elements.{All-nil, All-tail}
use Rattle.std.proofs.KnownBytes.{Appends-nil, Appends-trans}
use Rattle.std.specs.Io.{StartsWith}
use Rattle.std.specs.Io.KnownBytes.{Appends, Consumes, IsAtEnd}
use Rattle.enc_drivers.specs.Units.{AreBytes}
use Rattle.enc_io.specs.Faults.{Rose}
use Rattle.enc_io.specs.Reader.{ReaderStanding, still, has_seen_end}
use Rattle.enc_io.specs.ReaderCalls.{Faults, GoesOn, HasGivenText, Moves, Passes}
use Rattle.enc_io.proofs.ReaderLemmas.{goes_trans, moves_trans}
use Rattle.unwrap.specs.Copies.{CopiesAll, GathersNothing, HandsOutPrefix, StopsAtFault, StopsAtLimit, StopsAtSink}

-- nothing is done yet, or the reader has handed out this text
abbrev pub HasDone : ReaderStanding → ReaderStanding → List ℕ → Type 0
HasDone before now text = ((now ≡ before) × (text ≡ [])) ⊎ GoesOn before now text

-- all that was handed out so far is written and counted
pub record Copying (before now : ReaderStanding) (taken taken' : Option (List ℕ)) (count : ℕ) : Type 0 where
  pub text : List ℕ
  pub done : HasDone before now text
  pub written : Appends taken taken' text
  pub counted : count ≡ min (length text) (2 ^ 64 - 1)

pub copying_start : (at : ReaderStanding) (taken : Option (List ℕ)) → Copying at at taken taken 0
copying_start at taken = record { text = []; done = inl (refl, refl); written = Appends-nil taken; counted = refl }

-- what a reader hands out next
goes_more : (a b c : ReaderStanding) (text more : List ℕ) → HasDone a b text → GoesOn b c more → GoesOn a c (text ++ more)
goes_more a b c text more (inl same) next =
    subst (λ (t : List ℕ). GoesOn a c (t ++ more)) (sym same.1) (subst (λ (x : ReaderStanding). GoesOn x c more) same.0 next)
goes_more a b c text more (inr first) next = goes_trans a b c text more first next

moves_more : (a b c : ReaderStanding) (text more : List ℕ) → HasDone a b text → Moves b c more → Moves a c (text ++ more)
moves_more a b c text more (inl same) next =
    subst (λ (t : List ℕ). Moves a c (t ++ more)) (sym same.1) (subst (λ (x : ReaderStanding). Moves x c more) same.0 next)
moves_more a b c text more (inr first) next = moves_trans a b c text more first.moves next

same_count : (a b : ReaderStanding) (text : List ℕ) → HasDone a b text → b.faults ≡ a.faults
same_count a b text (inl same) = ap (λ (x : ReaderStanding). x.faults) same.0
same_count a b text (inr first) = first.same_faults

-- one more piece was handed out and written
pub copying_more : (a b c : ReaderStanding) (t0 t1 t2 : Option (List ℕ)) (count count' : ℕ) (piece : List ℕ) → Copying a b t0 t1 count → GoesOn b c piece → Appends t1 t2 piece
    → count' ≡ min (count + length piece) (2 ^ 64 - 1) → Copying a c t0 t2 count'
copying_more a b c t0 t1 t2 count count' piece so_far next written counted = record {
  text = so_far.text ++ piece;
  done = inr (goes_more a b c so_far.text piece so_far.done next);
  written = Appends-trans t0 t1 t2 so_far.text piece so_far.written written;
  counted = let e : length (so_far.text ++ piece) ≡ length so_far.text + length piece = length-append so_far.text piece in omega (arith, e, counted, so_far.counted);
}

begins : (xs prefix rest : List ℕ) → xs ≡ prefix ++ rest → StartsWith xs prefix
begins xs prefix rest e = ap (take (length prefix)) e ∙ take-append_seam prefix rest

-- where bytes are bytes, so are those behind some of them
bytes_behind : (front rest : List ℕ) → AreBytes (front ++ rest) → AreBytes rest
bytes_behind [] rest are = are
bytes_behind (b ∷ front) rest are = bytes_behind front rest (All-tail (λ x. x < 256) b (front ++ rest) are)

at_end : (left : Option (List ℕ)) (rest : List ℕ) → left ≡ Some rest → IsAtEnd left → rest ≡ []
at_end None rest e end = cc
at_end (Some other) rest e end = let same : other ≡ rest = cc in sym same ∙ end

-- what was handed out is a prefix of what was still to give
pub hands_out : (a c : ReaderStanding) (text more : List ℕ) → Moves a c (text ++ more) → (has_seen_end c ≡ true → IsAtEnd c.left) → HandsOutPrefix a text
hands_out a c text more moves end = by_left a.left refl
  where
    by_rest : (s : List ℕ) (left' : Option (List ℕ)) → a.left ≡ Some s → c.left ≡ left' → AreBytes s → StartsWith (still a s) text
    by_rest s None before after are = absurd (subst (λ (l : Option (List ℕ)). Consumes (Some s) l moves.moved) after (subst (λ (l : Option (List ℕ)). Consumes l c.left moves.moved) before moves.consumed))
    by_rest s (Some rest) before after are =
        let cut : s ≡ moves.moved ++ rest = subst (λ (l : Option (List ℕ)). Consumes (Some s) l moves.moved) after (subst (λ (l : Option (List ℕ)). Consumes l c.left moves.moved) before moves.consumed) in
        let text_is : still a s ≡ (text ++ more) ++ still c rest =
        ap (still a) cut ∙ moves.equation rest (bytes_behind moves.moved rest (subst AreBytes cut are)) (λ e. at_end c.left rest after (end e)) in
        begins (still a s) text (more ++ still c rest) (text_is ∙ append_assoc text more (still c rest))

    by_left : (left : Option (List ℕ)) → a.left ≡ left → IfSome left (λ s. AreBytes s → StartsWith (still a s) text)
    by_left None before = tt
    by_left (Some s) before = λ are. by_rest s c.left before refl are

-- the end: all that was still to give is written
pub copying_end : (a b c : ReaderStanding) (t0 t1 : Option (List ℕ)) (count : ℕ) → Copying a b t0 t1 count → GoesOn b c [] → HasGivenText c → IsAtEnd c.left
    → CopiesAll a c t0 t1 count
copying_end a b c t0 t1 count so_far next given drained =
    let goes : GoesOn a c so_far.text = subst (GoesOn a c) (append-nil so_far.text) (goes_more a b c so_far.text [] so_far.done next) in
    record {
      text = so_far.text;
      goes_on = goes;
      whole = whole a.left refl goes;
      written = so_far.written;
      count = so_far.counted;
      end = given;
      drained = drained;
    }
  where
    whole : (left : Option (List ℕ)) → a.left ≡ left → GoesOn a c so_far.text → IfSome left (λ s. still a s ≡ so_far.text)
    whole None before goes = tt
    whole (Some s) before goes = by_rest c.left refl
      where
        by_rest : (left' : Option (List ℕ)) → c.left ≡ left' → still a s ≡ so_far.text
        by_rest None after = absurd (subst (λ (l : Option (List ℕ)). Consumes (Some s) l goes.moves.moved) after (subst (λ (l : Option (List ℕ)). Consumes l c.left goes.moves.moved) before goes.moves.consumed))
        by_rest (Some rest) after =
            let cut : s ≡ goes.moves.moved ++ rest = subst (λ (l : Option (List ℕ)). Consumes (Some s) l goes.moves.moved) after (subst (λ (l : Option (List ℕ)). Consumes l c.left goes.moves.moved) before goes.moves.consumed) in
            let none : rest ≡ [] = at_end c.left rest after drained in
            ap (still a) (cut ∙ ap (λ l. goes.moves.moved ++ l) none) ∙ goes.moves.equation [] (All-nil (λ x. x < 256)) (λ _. refl) ∙ ap (λ l. so_far.text ++ l) given.nothing ∙ append-nil so_far.text

-- a read failed
pub copying_fault : (a b c : ReaderStanding) (t0 t1 : Option (List ℕ)) (count : ℕ) → Copying a b t0 t1 count → Faults b c → (has_seen_end c ≡ true → IsAtEnd c.left)
    → GathersNothing c → length (still c []) ≤ 9 → StopsAtFault a c t0 t1
copying_fault a b c t0 t1 count so_far next end small few =
    let moves : Moves a c (so_far.text ++ []) = moves_more a b c so_far.text [] so_far.done next.moves in
    record {
      text = so_far.text;
      moves = subst (Moves a c) (append-nil so_far.text) moves;
      prefix = hands_out a c so_far.text [] moves end;
      written = so_far.written;
      rose = subst (λ n. Rose n c.faults) (same_count a b so_far.text so_far.done) next.rose;
      keeps = next.keeps;
      small = small;
      few = few;
      within = next.within;
    }

-- the source gave too much
pub copying_limit : (a b c : ReaderStanding) (t0 t1 : Option (List ℕ)) (count : ℕ) → Copying a b t0 t1 count → Passes b c → (has_seen_end c ≡ true → IsAtEnd c.left)
    → StopsAtLimit a c t0 t1
copying_limit a b c t0 t1 count so_far next end =
    let moves : Moves a c (so_far.text ++ next.lost) = moves_more a b c so_far.text next.lost so_far.done next.moves in
    record {
      text = so_far.text;
      lost = next.lost;
      moves = moves;
      prefix = hands_out a c so_far.text next.lost moves end;
      written = so_far.written;
      same_faults = next.same_faults ∙ same_count a b so_far.text so_far.done;
      passed = next.passed;
      at_most = next.at_most;
    }

-- the sink failed
pub copying_sink : (a b c : ReaderStanding) (t0 t1 t2 : Option (List ℕ)) (count room : ℕ) (piece front : List ℕ) → Copying a b t0 t1 count → GoesOn b c piece
    → (has_seen_end c ≡ true → IsAtEnd c.left) → StartsWith piece front → Appends t1 t2 front → length piece ≤ room → GathersNothing c
    → StopsAtSink a c t0 t2 room
copying_sink a b c t0 t1 t2 count room piece front so_far next end is_front written few small =
    let goes : GoesOn a c (so_far.text ++ piece) = goes_more a b c so_far.text piece so_far.done next in
    let cut : piece ≡ front ++ drop (length front) piece = sym (take-append-drop (length front) piece) ∙ ap (λ l. l ++ drop (length front) piece) is_front in
    record {
      text = so_far.text ++ piece;
      goes_on = goes;
      prefix = hands_out a c (so_far.text ++ piece) [] (subst (Moves a c) (sym (append-nil (so_far.text ++ piece))) goes.moves) end;
      front = so_far.text ++ front;
      front_prefix = begins (so_far.text ++ piece) (so_far.text ++ front) (drop (length front) piece)
          (ap (λ l. so_far.text ++ l) cut ∙ sym (append_assoc so_far.text front (drop (length front) piece)));
      written = Appends-trans t0 t1 t2 so_far.text front so_far.written written;
      behind = omega (arith, length-append so_far.text piece, length-append so_far.text front);
      small = small;
    }
