use Rattle.std.proofs.Common.{◌≡◌, true, sym, ◌∙◌, arith}
use Rattle.std.proofs.lemmas.Grind.{common_steps}
use Rattle.base64.specs.Engines.{standard}
use Rattle.words.specs.Base64.{is_base64}
use Rattle.words.specs.SpareBits.{cleared}
use Rattle.words.proofs.b_text.decode.Goals as goal
use Rattle.words.proofs.BTexts.{standard-is, b_value-none, decoded-value, never_refused}

pub returns-then-not-is_base64 : goal.returns-then-not-is_base64
returns-then-not-is_base64 c =
    record { value = sym (b_value-none c.args.text.now (sym c.is_base64.ensures ∙ c.if-not-is_base64.true)) }

pub returns-in-Ok : goal.returns-in-Ok
returns-in-Ok c =
    let form : is_base64 c.args.text.now ≡ true = sym c.is_base64.ensures ∙ c.if-not-is_base64.false in
    let input : c.deref.result.now ≡ cleared c.args.text.now = grind (arith, common_steps) in
    record {
      value = decoded-value standard c.args.text.now c.in-Ok.value.items standard-is form
          (rw input at c.in-Ok.ensures.strict) (rw input at c.in-Ok.ensures.ok);
    }

pub unreachable-requires : goal.unreachable-requires
unreachable-requires c =
    let form : is_base64 c.args.text.now ≡ true = sym c.is_base64.ensures ∙ c.if-not-is_base64.false in
    let input : c.deref.result.now ≡ cleared c.args.text.now = grind (arith, common_steps) in
    never_refused standard c.args.text.now c.in-Err-DecodeError.field-0-0 standard-is form
    (rw input at c.in-Err-DecodeError.ensures.strict) (rw (c.in-Err-DecodeError.field-0-is, input) at c.in-Err-DecodeError.ensures.err)
