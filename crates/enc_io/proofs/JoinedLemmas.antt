-- Reads one after the other give what was still to give.
use Rattle.std.proofs.Common.{◌≡◌, ℕ, ◌<◌, true, List, [], ◌++◌, sym, ap, refl, ◌∙◌, append_assoc, append-nil}
use Rattle.std.specs.declared.option.Option.{Option}
use Rattle.std.proofs.lemmas.List.Elements.{All-nil}
use Rattle.enc_drivers.specs.Units.{AreBytes}
use Rattle.enc_front.specs.Indexes.{Indexes}
use Rattle.enc_io.specs.Joined.{Joined, no_read, reads}
use Rattle.enc_io.specs.Options.{Options}
use Rattle.enc_io.specs.Reader.{ReaderStanding, fresh, still, has_seen_end}
use Rattle.enc_io.specs.ReaderCalls.{HasGivenText}
use Rattle.enc_io.specs.Text.{stream_text}
use Rattle.enc_io.proofs.ReaderLemmas.{still_fresh, join_bytes}

-- reads give what was still to give of the bytes that they took; behind its end they take none
pub record Given (before after : ReaderStanding) (moved given : List ℕ) : Type 0 where
  pub bytes : AreBytes moved
  pub all : (rest : List ℕ) → AreBytes rest → (has_seen_end after ≡ true → rest ≡ []) → still before (moved ++ rest) ≡ given ++ still after rest
  pub behind_end : has_seen_end before ≡ true → (moved ≡ []) × (has_seen_end after ≡ true)

pub joined_given : (before after : ReaderStanding) (moved given : List ℕ) → Joined before after moved given → Given before after moved given
joined_given before after moved given (no_read at) = record {
  bytes = All-nil (λ b. b < 256);
  all = λ rest are none. refl;
  behind_end = λ e. (refl, e);
}
joined_given before after moved given (reads a b c here more text rest_text first later) =
    let next = joined_given b c more rest_text later in
    record {
      bytes = join_bytes here more first.bytes next.bytes;
      all = λ rest are none.
          ap (still a) (append_assoc here more rest)
          ∙ first.equation (more ++ rest) (join_bytes more rest next.bytes are) (λ e. ap (λ l. l ++ rest) (next.behind_end e).0 ∙ none (next.behind_end e).1)
          ∙ ap (λ l. text ++ l) (next.all rest are none)
          ∙ sym (append_assoc text rest_text (still c rest));
      behind_end = λ e.
          let f = first.behind_end e in let n = next.behind_end f.1 in
          (ap (λ l. l ++ more) f.0 ∙ n.0, n.1);
    }

pub joined_law : (options : Options) (indexes : Indexes) (buffer : ℕ) (left : Option (List ℕ)) (faults calls : ℕ) (last : ReaderStanding) (moved given : List ℕ)
    → Joined (fresh options indexes buffer left faults calls) last moved given → HasGivenText last → given ≡ stream_text options indexes moved
joined_law options indexes buffer left faults calls last moved given joined end =
    let all = joined_given (fresh options indexes buffer left faults calls) last moved given joined in
    sym (append-nil given)
    ∙ ap (λ l. given ++ l) (sym end.nothing)
    ∙ sym (all.all [] (All-nil (λ b. b < 256)) (λ e. refl))
    ∙ ap (still (fresh options indexes buffer left faults calls)) (append-nil moved)
    ∙ still_fresh options indexes buffer left faults calls moved
