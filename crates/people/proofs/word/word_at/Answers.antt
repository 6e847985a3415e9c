use Rattle.std.proofs.Common.{◌≡◌, ℕ, List, Option, Some, None, length, drop, refl, ap, sym, ◌∙◌, arith}
use Rattle.enc_front.specs.declared.encoding.Encoding.{Encoding}
use Rattle.enc_front.specs.Indexes.{Indexes, indexes_of}
use Rattle.people.specs.Frame.{Frame, frame_spelling}
use Rattle.people.specs.Names.{named}
use Rattle.people.specs.Slices.{sliced_frame}
use Rattle.people.specs.Word.{Word, frame_octets, resolved}
use Rattle.people.proofs.WordLemmas.{word-none, word-some, word_of-none, word_of-some, finds-none, finds-some, appended, kept, removed}
use Rattle.people.proofs.word.word_at.Goals as goal

pub returns-in_default : goal.returns-in_default
returns-in_default c =
    let T : Indexes = indexes_of c.args.tables.now in
    finds-none _ c.args.octets.now.items _ (word-none T c.args.bytes.now (sym c.in_default.ensures.value)) refl

pub returns-in-None : goal.returns-in-None
returns-in-None c =
    let T : Indexes = indexes_of c.args.tables.now in
    let s : List ℕ = c.args.bytes.now in
    let f : Frame = sliced_frame c.in-Some.frame in
    let old : List ℕ = c.args.octets.now.items in
    let v : List ℕ = frame_octets f in
    let start : c.len-start.result ≡ length old = omega arith in
    let slice = appended c.deref.result.now old v c.len-start.result (c.deref.ensures.value ∙ c.in_ok-push_octets.ensures) start in
    let found : Frame × List ℕ = (f, drop (length c.in-Some.frame.spelling.now) s) in
    let none : resolved (named f.charset T) f.text v ≡ None = (λ i. resolved (sym c.named-charset.ensures.value i) f.text (sym slice i)) ∙ sym c.in-None.ensures.value in
    finds-none _ old _ (word-some T s found (sym c.in-Some.ensures.value) ∙ word_of-none T f none)
    (c.truncate.ensures.items ∙ kept c.push_octets.new.octets.items old v c.len-start.result c.in_ok-push_octets.ensures start)

pub returns-in-Some-resolve : goal.returns-in-Some-resolve
returns-in-Some-resolve c =
    let T : Indexes = indexes_of c.args.tables.now in
    let s : List ℕ = c.args.bytes.now in
    let f : Frame = sliced_frame c.in-Some.frame in
    let old : List ℕ = c.args.octets.now.items in
    let v : List ℕ = frame_octets f in
    let mark : ℕ = c.in-Some-resolve.mark_len in
    let start : c.len-start.result ≡ length old = omega arith in
    let slice = appended c.deref.result.now old v c.len-start.result (c.deref.ensures.value ∙ c.in_ok-push_octets.ensures) start in
    let found : Frame × List ℕ = (f, drop (length c.in-Some.frame.spelling.now) s) in
    let some : List ℕ → Option (Encoding × List ℕ) = λ z. Some (c.in-Some-resolve.encoding, drop mark z) in
    let read : resolved (named f.charset T) f.text v ≡ some v =
    (λ i. resolved (sym c.named-charset.ensures.value i) f.text (sym slice i)) ∙ (sym c.in-Some-resolve.ensures.value ∙ ap some slice) in
    let w : Word = record { encoding = c.in-Some-resolve.encoding; octets = drop mark v; spelling = frame_spelling f } in
    finds-some _ w old _ _ (word-some T s found (sym c.in-Some.ensures.value) ∙ word_of-some T f (c.in-Some-resolve.encoding, drop mark v) read)
    (λ i. (c.in-Some-resolve.encoding, c.in-Some.ensures.spelled i))
    (c.remove_at.ensures ∙ removed c.push_octets.new.octets.items old v c.len-start.result mark c.in_ok-push_octets.ensures start)
