use Rattle.std.proofs.Common.{◌≡◌, ◌⊎◌, ℕ, List, Result, Ok, Err, Vec, sym, subst, ap}
use Rattle.std.specs.Prelude.{IsSomeAnd, string_bytes}
use Rattle.std.specs.declared.alloc.Global.{Global}
use Rattle.enc_front.specs.Indexes.{indexes_of}
use Rattle.words.specs.declared.decoder.Decoder.{Decoder}
use Rattle.words.specs.declared.decoder.Error.TheVariants as words
use Rattle.words.specs.declared.strategy.RecoverStrategy.{RecoverStrategy}
use Rattle.words.specs.Fault.{fault_of}
use Rattle.words.specs.Header.{header}
use Rattle.unwrap.specs.declared.header.HeaderError.{HeaderError}
use Rattle.unwrap.specs.declared.status.ReadError.{ReadError}
use Rattle.unwrap.specs.Unwraps.{ReadsStream, Shows, header_of}
use Rattle.unwrap.proofs.Unwrapping.{shows_error, shows_none, shows_text}
use Rattle.unwrap.proofs.header.unwrap_reader.Goals as goal

pub returns-in-Err : goal.returns-in-Err
returns-in-Err g c =
    λ o room left faults calls is.
    let i = indexes_of c.args.tables.now in
    let left' = g.S.Source.left c.read_text-text.result.source in
    let faults' = g.S.Source.faults c.read_text-text.result.source in
    let reads = subst (λ (t : Result (Vec ℕ Global) ReadError). ReadsStream o i left left' faults faults' t) c.in-Err.is (c.read_text-text.ensures o i room left faults calls is) in
    subst (λ (e : HeaderError). Shows (header_of c.args.strategy o i) o.limit left left' faults faults' (Err e)) (sym c.from.ensures)
    (shows_none c.args.strategy o i left left' faults faults' c.in-Err.error reads)

pub returns-in-Ok-decode : goal.returns-in-Ok-decode
returns-in-Ok-decode g c =
    λ o room left faults calls is.
    let i = indexes_of c.args.tables.now in
    let left' = g.S.Source.left c.read_text-text.result.source in
    let faults' = g.S.Source.faults c.read_text-text.result.source in
    let reads = subst (λ (t : Result (Vec ℕ Global) ReadError). ReadsStream o i left left' faults faults' t) c.in-Ok.is (c.read_text-text.ensures o i room left faults calls is) in
    let strategy = ap (λ (d : Decoder). d.too_long_encoded_word) c.too_long_encoded_word_strategy-decoder.ensures in
    let text = subst (λ (s : List ℕ). header c.args.strategy i s ≡ Ok (string_bytes c.in-Ok-decode.text)) c.as_slice.ensures.value
    (subst (λ (x : RecoverStrategy). header x i c.as_slice.result.now ≡ Ok (string_bytes c.in-Ok-decode.text)) strategy c.in-Ok-decode.ensures.text) in
    shows_text c.args.strategy o i left left' faults faults' c.in-Ok.text c.in-Ok-decode.text reads text

pub returns : goal.returns
returns g c =
    λ o room left faults calls is.
    let i = indexes_of c.args.tables.now in
    let left' = g.S.Source.left c.read_text-text.result.source in
    let faults' = g.S.Source.faults c.read_text-text.result.source in
    let e = c.in-Err-decode.error in
    let reads = subst (λ (t : Result (Vec ℕ Global) ReadError). ReadsStream o i left left' faults faults' t) c.in-Ok.is (c.read_text-text.ensures o i room left faults calls is) in
    let strategy = ap (λ (d : Decoder). d.too_long_encoded_word) c.too_long_encoded_word_strategy-decoder.ensures in
    let fault = subst (λ (s : List ℕ). (e ≡ words.Memory) ⊎ IsSomeAnd (fault_of e) (λ fault. header c.args.strategy i s ≡ Err fault)) c.as_slice.ensures.value
    (subst (λ (x : RecoverStrategy). (e ≡ words.Memory) ⊎ IsSomeAnd (fault_of e) (λ fault. header x i c.as_slice.result.now ≡ Err fault)) strategy c.in-Err-decode.ensures.fault) in
    subst (λ (x : HeaderError). Shows (header_of c.args.strategy o i) o.limit left left' faults faults' (Err x)) (sym c.from-in-Err-decode.ensures)
    (shows_error c.args.strategy o i left left' faults faults' c.in-Ok.text e reads fault)
