-- What calls of a header block show in all.
use Rattle.std.proofs.Common.{◌≡◌, ℕ, ◌<◌, true, Option, Some, None, List, [], ◌∷◌, ◌++◌, Result, Ok, Err, map, refl, sym, subst, ap, ◌∙◌, IsSomeAnd, string_bytes}
use Rattle.std.proofs.lemmas.List.Elements.{All-tail}
use Rattle.std.specs.Io.KnownBytes.{Consumes, IsAtEnd}
use Rattle.enc_drivers.specs.Units.{AreBytes}
use Rattle.enc_front.specs.Indexes.{Indexes}
use Rattle.enc_io.specs.Options.{Options}
use Rattle.enc_io.specs.Reader.{ReaderStanding, still, has_seen_end}
use Rattle.enc_io.specs.Reader as reader
use Rattle.enc_io.specs.Text.{stream_text}
use Rattle.enc_io.proofs.ReaderLemmas.{still_fresh}
use Rattle.words.specs.declared.strategy.RecoverStrategy.{RecoverStrategy}
use Rattle.words.specs.Fault.{HeaderFault, fault_of}
use Rattle.words.specs.Header.{header}
use Rattle.header_block.specs.Block.{BlockStanding, block_still, fresh}
use Rattle.header_block.specs.BlockCalls.{Goes}
use Rattle.header_block.specs.Calls.{Calls, Shown, ends, shows, refuses, fails, lacks, shown_of, with_name}
use Rattle.header_block.specs.Fields.{fields}
use Rattle.header_block.specs.Parts.{name_of, value_of}
use Rattle.header_block.specs.Reads.{IsDrained}

-- what a source still gives behind the bytes that a call took
pub record Rest (before after : BlockStanding) (moved source : List ℕ) : Type 0 where
  pub rest : List ℕ
  pub left : after.held.reader.left ≡ Some rest
  pub cut : source ≡ moved ++ rest
  pub bytes : AreBytes rest
  pub end : has_seen_end after.held.reader ≡ true → rest ≡ []

bytes_behind : (front rest : List ℕ) → AreBytes (front ++ rest) → AreBytes rest
bytes_behind [] rest are = are
bytes_behind (b ∷ front) rest are = bytes_behind front rest (All-tail (λ x. x < 256) b (front ++ rest) are)

at_end : (left : Option (List ℕ)) (rest : List ℕ) → left ≡ Some rest → IsAtEnd left → rest ≡ []
at_end None rest e end = cc
at_end (Some other) rest e end = let same : other ≡ rest = cc in sym same ∙ end

rest_of : (before after : BlockStanding) (goes : Goes before after) (source : List ℕ) → before.held.reader.left ≡ Some source → AreBytes source → IsDrained before.held.reader → Rest before after goes.reads.moved source
rest_of before after goes source tells are drained = by_left after.held.reader.left refl
  where
    by_left : (left : Option (List ℕ)) → after.held.reader.left ≡ left → Rest before after goes.reads.moved source
    by_left None e = absurd (subst (λ (l : Option (List ℕ)). Consumes (Some source) l goes.reads.moved) e (subst (λ (l : Option (List ℕ)). Consumes l after.held.reader.left goes.reads.moved) tells goes.reads.consumed))
    by_left (Some rest) e =
        let cut : source ≡ goes.reads.moved ++ rest = subst (λ (l : Option (List ℕ)). Consumes (Some source) l goes.reads.moved) e (subst (λ (l : Option (List ℕ)). Consumes l after.held.reader.left goes.reads.moved) tells goes.reads.consumed) in
        record {
          rest = rest;
          left = e;
          cut = cut;
          bytes = bytes_behind goes.reads.moved rest (subst AreBytes cut are);
          end = λ seen. at_end after.held.reader.left rest e (goes.reads.drained drained seen);
        }

-- what a field shows, by an answer
shown_fault : (name : List ℕ) (text : Result (List ℕ) HeaderFault) (found : Option HeaderFault) (fault : HeaderFault) → found ≡ Some fault → IsSomeAnd found (λ f. text ≡ Err f) → with_name name text ≡ Err fault
shown_fault name text None fault e is = cc
shown_fault name text (Some other) fault e is = let same : other ≡ fault = cc in ap (with_name name) is ∙ ap (λ (f : HeaderFault). with_name name (Err f)) same

pub calls_show : (before : BlockStanding) (shown : List Shown) → Calls before shown → before.stopped ≡ None → (source : List ℕ) → before.held.reader.left ≡ Some source → AreBytes source → IsDrained before.held.reader
    → shown ≡ map (shown_of before.strategy before.indexes) (block_still before source)
calls_show before shown (ends b after does) none source tells are drained =
    let r = rest_of b after does.0.goes source tells are drained in
    sym (ap (λ fs. map (shown_of b.strategy b.indexes) fs) (ap (block_still b) r.cut ∙ does.0.equation r.rest r.bytes r.end))
calls_show before shown (shows b after field more does calls) none source tells are drained =
    let goes = does.0.passes.goes in
    let r = rest_of b after goes source tells are drained in
    let later = calls_show after more calls (does.0.passes.same_stopped ∙ none) r.rest r.left r.bytes (goes.reads.drained drained) in
    let first : shown_of b.strategy b.indexes does.0.field ≡ Ok (field.name.items, string_bytes field.text) =
    ap (with_name (name_of does.0.field)) does.0.text ∙ ap (λ n. Ok (n, string_bytes field.text)) (sym does.0.name) in
    ap (λ (l : List Shown). Ok (field.name.items, string_bytes field.text) ∷ l) later
    ∙ ap (λ (s : Shown). s ∷ map (shown_of after.strategy after.indexes) (block_still after r.rest)) (sym first)
    ∙ ap (λ (s : RecoverStrategy). shown_of b.strategy b.indexes does.0.field ∷ map (shown_of s after.indexes) (block_still after r.rest)) goes.same_strategy
    ∙ ap (λ (i : Indexes). shown_of b.strategy b.indexes does.0.field ∷ map (shown_of b.strategy i) (block_still after r.rest)) goes.same_indexes
    ∙ sym (ap (λ fs. map (shown_of b.strategy b.indexes) fs) (ap (block_still b) r.cut ∙ does.0.passes.equation r.rest r.bytes r.end))
calls_show before shown (refuses b after n error fault more does is calls) none source tells are drained =
    let goes = does.0.passes.goes in
    let r = rest_of b after goes source tells are drained in
    let later = calls_show after more calls (does.0.passes.same_stopped ∙ none) r.rest r.left r.bytes (goes.reads.drained drained) in
    let first : shown_of b.strategy b.indexes does.0.field ≡ Err fault =
    shown_fault (name_of does.0.field) (header b.strategy b.indexes (value_of does.0.field)) (fault_of error) fault is does.0.fault in
    ap (λ (l : List Shown). Err fault ∷ l) later
    ∙ ap (λ (s : Shown). s ∷ map (shown_of after.strategy after.indexes) (block_still after r.rest)) (sym first)
    ∙ ap (λ (s : RecoverStrategy). shown_of b.strategy b.indexes does.0.field ∷ map (shown_of s after.indexes) (block_still after r.rest)) goes.same_strategy
    ∙ ap (λ (i : Indexes). shown_of b.strategy b.indexes does.0.field ∷ map (shown_of b.strategy i) (block_still after r.rest)) goes.same_indexes
    ∙ sym (ap (λ fs. map (shown_of b.strategy b.indexes) fs) (ap (block_still b) r.cut ∙ does.0.passes.equation r.rest r.bytes r.end))
calls_show before shown (fails b after more does calls) none source tells are drained =
    let goes = does.0.goes in
    let r = rest_of b after goes source tells are drained in
    calls_show after more calls (does.0.same_stopped ∙ none) r.rest r.left r.bytes (goes.reads.drained drained)
    ∙ ap (λ (s : RecoverStrategy). map (shown_of s after.indexes) (block_still after r.rest)) goes.same_strategy
    ∙ ap (λ (i : Indexes). map (shown_of b.strategy i) (block_still after r.rest)) goes.same_indexes
    ∙ sym (ap (λ fs. map (shown_of b.strategy b.indexes) fs) (ap (block_still b) r.cut ∙ does.0.equation r.rest r.bytes r.end))
calls_show before shown (lacks b after more does calls) none source tells are drained =
    let goes = does.0.goes in
    let r = rest_of b after goes source tells are drained in
    calls_show after more calls (does.0.same_stopped ∙ none) r.rest r.left r.bytes (goes.reads.drained drained)
    ∙ ap (λ (s : RecoverStrategy). map (shown_of s after.indexes) (block_still after r.rest)) goes.same_strategy
    ∙ ap (λ (i : Indexes). map (shown_of b.strategy i) (block_still after r.rest)) goes.same_indexes
    ∙ sym (ap (λ fs. map (shown_of b.strategy b.indexes) fs) (ap (block_still b) r.cut ∙ does.0.equation r.rest r.bytes r.end))

-- over a fresh reader
pub calls_law : (options : Options) (known indexes : Indexes) (strategy : RecoverStrategy) (buffer faults calls : ℕ) (bytes : List ℕ) (shown : List Shown) → AreBytes bytes
    → Calls (fresh (reader.fresh options known buffer (Some bytes) faults calls) strategy indexes) shown → shown ≡ map (shown_of strategy indexes) (fields (stream_text options known bytes))
calls_law options known indexes strategy buffer faults calls bytes shown are all =
    calls_show (fresh (reader.fresh options known buffer (Some bytes) faults calls) strategy indexes) shown all refl bytes refl are (λ e. absurd (cc))
    ∙ ap (λ t. map (shown_of strategy indexes) (fields t)) (still_fresh options known buffer (Some bytes) faults calls bytes)
