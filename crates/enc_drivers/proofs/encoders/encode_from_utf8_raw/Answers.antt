use Rattle.std.proofs.Common.{◌∙◌, refl, ap, rules}
use Rattle.enc_handles.specs.ByteDestination.{writing}
use Rattle.enc_handles.specs.CharSource.{reading}
use Rattle.std.specs.Str.{chars}
use Rattle.enc_handles.specs.Scalars.{is_seam8}
use Rattle.enc_handles.specs.Lemmas.TextLaws.{whole8}
use Rattle.enc_handles.specs.Writing.{Writing}
use Rattle.enc_drivers.proofs.EncodeCalls.{Shows, encodes_raw}
use Rattle.enc_drivers.proofs.encoders.encode_from_utf8_raw.Goals as goal

pub returns : goal.returns
unfolding chars
returns g c =
    let buffer = ap (λ (w : Writing). w.buffer) c.encode-result.ensures.goes.writes ∙ ap (λ (w : Writing). w.buffer) c.new-dest.ensures.start in
    let shows : Shows c.args.src.now c.encode-result.new.dest.slice.now c.encode-result.new.dest.pos c.consumed.result c.written.result (reading c.new-source.result) (reading c.encode-result.new.source)
    (writing c.new-dest.result) (writing c.encode-result.new.dest) = record {
      start_is = c.new-source.ensures;
      read_is = c.consumed.ensures.place;
      read_within = c.consumed.ensures.within;
      before_is = ap (λ (w : Writing). w.text) c.new-dest.ensures.start;
      at_within = c.encode-result.new.dest.within;
      written_is = c.written.ensures;
      text = refl;
      free = refl;
    } in
    encodes_raw chars is_seam8 (g.C.EncodeCode.bytes c.args.code.now) g.C.EncodeCode.max refl whole8 c.args.src.now c.args.dst.now _ c.encode-result.new.dest.slice.now c.encode-result.result
    c.encode-result.new.dest.pos c.consumed.result c.written.result (reading c.new-source.result) (reading c.encode-result.new.source) (writing c.new-dest.result) (writing c.encode-result.new.dest)
    shows c.consumed.ensures.seam (search rules) (search rules)
    c.encode-result.ensures.goes c.encode-result.ensures.ends
