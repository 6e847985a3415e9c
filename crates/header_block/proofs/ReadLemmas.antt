-- What reads do, one after the other.
use Rattle.std.proofs.Common.{◌≡◌, ℕ, ◌<◌, true, List, [], ◌++◌, refl, sym, ap, ◌∙◌, arith, append_assoc, length-append}
use Rattle.std.proofs.lemmas.List.Elements.{All-nil}
use Rattle.std.specs.Io.KnownBytes.{IsAtEnd}
use Rattle.std.proofs.KnownBytes.{Consumes-nil, Consumes-trans}
use Rattle.enc_io.specs.Reader.{ReaderStanding, still, has_seen_end}
use Rattle.enc_io.specs.ReaderCalls.{Moves, HasGivenText}
use Rattle.enc_io.proofs.ReaderLemmas.{join_bytes}
use Rattle.header_block.specs.Reads.{Reads, MayCome}

-- no read
pub reads_none : (at : ReaderStanding) → Reads at at []
reads_none at = record {
  moved = [];
  bytes = All-nil (λ b. b < 256);
  consumed = Consumes-nil at.left;
  taken = omega arith;
  equation = λ rest are none. refl;
  falls = omega arith;
  behind_end = λ e. (refl, e, refl);
  drained = λ d. d;
  silent = λ e. e;
  same_options = refl;
  same_indexes = refl;
  same_buffer = refl;
}

-- one read
pub reads_moved : (a b : ReaderStanding) (text : List ℕ) → Moves a b text → (has_seen_end b ≡ true → IsAtEnd b.left) → Reads a b text
reads_moved a b text moves drained = record {
  moved = moves.moved;
  bytes = moves.bytes;
  consumed = moves.consumed;
  taken = moves.taken;
  equation = moves.equation;
  falls = moves.falls;
  behind_end = moves.behind_end;
  drained = λ d. drained;
  silent = moves.silent;
  same_options = moves.same_options;
  same_indexes = moves.same_indexes;
  same_buffer = moves.same_buffer;
}

-- reads, and more reads
pub reads_trans : (a b c : ReaderStanding) (text more : List ℕ) → Reads a b text → Reads b c more → Reads a c (text ++ more)
reads_trans a b c text more first next = record {
  moved = first.moved ++ next.moved;
  bytes = join_bytes first.moved next.moved first.bytes next.bytes;
  consumed = Consumes-trans a.left b.left c.left first.moved next.moved first.consumed next.consumed;
  taken = omega (arith, first.taken, next.taken, length-append first.moved next.moved);
  equation = λ rest are none.
      ap (still a) (append_assoc first.moved next.moved rest)
      ∙ first.equation (next.moved ++ rest) (join_bytes next.moved rest next.bytes are)
      (λ e. ap (λ l. l ++ rest) (next.behind_end e).0 ∙ none (next.behind_end e).1)
      ∙ ap (λ l. text ++ l) (next.equation rest are none)
      ∙ sym (append_assoc text more (still c rest));
  falls = omega (arith, first.falls, next.falls, length-append text more);
  behind_end = λ e.
      let f = first.behind_end e in let n = next.behind_end f.1 in
      (ap (λ l. l ++ next.moved) f.0 ∙ n.0, n.1, n.2 ∙ f.2);
  drained = λ d. next.drained (first.drained d);
  silent = λ none. next.silent (first.silent none);
  same_options = next.same_options ∙ first.same_options;
  same_indexes = next.same_indexes ∙ first.same_indexes;
  same_buffer = next.same_buffer ∙ first.same_buffer;
}

-- nothing may come where all is given
pub none_comes : (at : ReaderStanding) (more : List ℕ) → HasGivenText at → MayCome at more → more ≡ []
none_comes at more given may = may.is ∙ ap (still at) (may.end given.ended) ∙ given.nothing
