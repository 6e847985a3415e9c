use Rattle.std.proofs.Common.{◌≤◌, ℕ, List, Option, Err, sym, subst, ap, arith}
use Rattle.enc_front.specs.Indexes.{indexes_of}
use Rattle.enc_io.specs.BuilderView.{options_of}
use Rattle.enc_io.specs.Options.{unknown_encoding}
use Rattle.unwrap.specs.declared.header.HeaderError.{HeaderError}
use Rattle.unwrap.specs.HeaderErrors.{build_error}
use Rattle.unwrap.specs.Unwraps.{Unwraps, header_of}
use Rattle.unwrap.proofs.Streaming.{not_missing}
use Rattle.unwrap.proofs.Unwrapping.{shown_has_table, unwraps, unwraps_refused}
use Rattle.unwrap.proofs.header.unwrap_header.Goals as goal

pub returns-in-Ok-build_with_buffer : goal.returns-in-Ok-build_with_buffer
returns-in-Ok-build_with_buffer g c =
    let o = options_of c.args.builder.now in
    let i = indexes_of c.args.tables.now in
    let left = g.S.Source.left c.args.source in
    let faults = g.S.Source.faults c.args.source in
    record {
      unwraps = unwraps (unknown_encoding o i) (header_of c.args.strategy o i) o.limit left _ faults _ c.unwrap_reader.result.answer
          (sym (not_missing o i c.in-Ok.buffer.len c.in-Ok-build_with_buffer.ensures.built))
          (c.unwrap_reader.ensures o c.in-Ok.buffer.len left faults (g.S.Source.calls c.args.source) c.in-Ok-build_with_buffer.ensures.fresh);
      unread = shown_has_table (header_of c.args.strategy o i) o.limit left _ faults _ _ c.unwrap_reader.result.answer
          (c.unwrap_reader.ensures o c.in-Ok.buffer.len left faults (g.S.Source.calls c.args.source) c.in-Ok-build_with_buffer.ensures.fresh);
    }

pub returns : goal.returns
returns g c =
    let o = options_of c.args.builder.now in
    let i = indexes_of c.args.tables.now in
    let left = g.S.Source.left c.args.source in
    let faults = g.S.Source.faults c.args.source in
    let value = header_of c.args.strategy o i in
    let error = c.in-Err-build_with_buffer.refused.2 in
    let back = sym c.in-Err-build_with_buffer.ensures.handed_back.0 in
    let enough : 4 ≤ c.in-Ok.buffer.len = omega (arith, c.in-Ok.ensures, c.requires.buffer) in
    record {
      unwraps = subst (λ (e : HeaderError). Unwraps (unknown_encoding o i) value o.limit left (g.S.Source.left c.in-Err-build_with_buffer.refused.0) faults
          (g.S.Source.faults c.in-Err-build_with_buffer.refused.0) (Err e)) (sym c.from.ensures)
          (subst (λ (n : ℕ). Unwraps (unknown_encoding o i) value o.limit left (g.S.Source.left c.in-Err-build_with_buffer.refused.0) faults n (Err (build_error error))) (ap g.S.Source.faults back)
          (subst (λ (l : Option (List ℕ)). Unwraps (unknown_encoding o i) value o.limit left l faults faults (Err (build_error error))) (ap g.S.Source.left back)
          (unwraps_refused o i c.in-Ok.buffer.len value left faults error enough c.in-Err-build_with_buffer.ensures.refused)));
      unread = λ _. sym back;
    }
