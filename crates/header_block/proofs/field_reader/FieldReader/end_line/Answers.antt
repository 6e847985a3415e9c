use Rattle.std.proofs.Common.{arith, refl}
use Rattle.header_block.proofs.ViewLemmas.{Ended, line_ended_by, same_kept}
use Rattle.header_block.proofs.field_reader.FieldReader.end_line.Goals as goal

pub invariant_of-self : goal.invariant_of-self
invariant_of-self g c =
    let self = c.args.self.now in
    let now : Ended self.line_start self.text.items c.len-self.result c.truncate.new.self.items =
    line_ended_by self.line_start c.content_len-line_len.result self.text.items c.deref.result.now c.truncate.new.self.items c.len-self.result c.deref.ensures.value
    c.content_len-line_len.ensures.content c.truncate.ensures.items (omega (arith, c.len-self.ensures)) self.line_within self.no_lf self.few in
    record {
      start_within = self.start_within;
      end_within = self.end_within;
      room = self.room;
      line_within = now.within;
      no_lf = now.no_lf;
      continued = now.continued;
      few = now.few;
    }

pub returns : goal.returns
returns g c =
    let self = c.args.self.now in
    let now : Ended self.line_start self.text.items c.len-self.result c.truncate.new.self.items =
    line_ended_by self.line_start c.content_len-line_len.result self.text.items c.deref.result.now c.truncate.new.self.items c.len-self.result c.deref.ensures.value
    c.content_len-line_len.ensures.content c.truncate.ensures.items (omega (arith, c.len-self.ensures)) self.line_within self.no_lf self.few in
    same_kept _ _ _ _ _ _ _ now.field now.line refl
