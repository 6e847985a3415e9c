use Rattle.std.proofs.Common.{◌∙◌, refl, ap, rules}
use Rattle.enc_handles.specs.ByteDestination.{writing}
use Rattle.enc_handles.specs.CharSource.{reading}
use Rattle.std.specs.Str.{all_scalars}
use Rattle.enc_handles.specs.Reading.{Reading, left}
use Rattle.enc_handles.specs.Scalars.{scalars16, is_seam16}
use Rattle.enc_handles.specs.Lemmas.TextLaws.{whole16}
use Rattle.enc_handles.specs.Writing.{Writing}
use Rattle.enc_drivers.proofs.EncodeCalls.{Shows, encodes_raw}
use Rattle.enc_drivers.proofs.TextScalars.{scalars16_are}
use Rattle.enc_drivers.proofs.encoders.ascii_compatible_encode_from_utf16_raw.Goals as goal

pub returns : goal.returns
unfolding scalars16
returns g c =
    let buffer = ap (λ (w : Writing). w.buffer) c.encode_ascii-result.ensures.goes.writes ∙ ap (λ (w : Writing). w.buffer) c.new-dest.ensures.start in
    let shows : Shows c.args.src.now c.encode_ascii-result.new.dest.slice.now c.encode_ascii-result.new.dest.pos c.consumed.result c.written.result (reading c.new-source.result) (reading c.encode_ascii-result.new.source)
    (writing c.new-dest.result) (writing c.encode_ascii-result.new.dest) = record {
      start_is = c.new-source.ensures;
      read_is = c.consumed.ensures.place;
      read_within = c.consumed.ensures.within;
      before_is = ap (λ (w : Writing). w.text) c.new-dest.ensures.start;
      at_within = c.encode_ascii-result.new.dest.within;
      written_is = c.written.ensures;
      text = refl;
      free = refl;
    } in
    encodes_raw scalars16 is_seam16 (g.C.EncodeCode.bytes c.args.code.now) g.C.EncodeCode.max refl whole16 c.args.src.now c.args.dst.now _ c.encode_ascii-result.new.dest.slice.now c.encode_ascii-result.result
    c.encode_ascii-result.new.dest.pos c.consumed.result c.written.result (reading c.new-source.result) (reading c.encode_ascii-result.new.source) (writing c.new-dest.result) (writing c.encode_ascii-result.new.dest)
    shows c.consumed.ensures.seam (search rules) (search rules)
    c.encode_ascii-result.ensures.goes c.encode_ascii-result.ensures.ends

pub encode_ascii-result-requires-clause-scalars : goal.encode_ascii-result-requires-clause-scalars
encode_ascii-result-requires-clause-scalars g c =
    ap (λ (r : Reading). all_scalars (scalars16 (left r))) c.new-source.ensures ∙ scalars16_are c.args.src.now c.type_inv.src
