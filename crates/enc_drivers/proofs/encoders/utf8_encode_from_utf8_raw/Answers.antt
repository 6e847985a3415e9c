use Rattle.std.proofs.Common.{◌++◌, List, ℕ, take, drop, refl, ap, ◌∙◌}
use Rattle.enc_handles.specs.declared.results.EncoderResult.TheVariants.{InputEmpty, OutputFull}
use Rattle.enc_drivers.proofs.CopiedText.{CopiesText, copied_raw}
use Rattle.enc_drivers.proofs.encoders.utf8_encode_from_utf8_raw.Goals as goal
use Rattle.enc_drivers.proofs.encoders.utf8_encode_from_utf8_raw.Goals.{After-copy_from_slice}

copies : (c : After-copy_from_slice)
    → CopiesText c.args.src.now c.args.dst.now (c.copy_from_slice.new.self ++ drop c.floor_char_boundary-fitting.result c.args.dst.now) c.floor_char_boundary-fitting.result
copies c =
    let fitting = c.floor_char_boundary-fitting in
    record {
      utf8 = c.utf8.src;
      cut = record { within = fitting.ensures.bound; boundary = fitting.ensures.boundary; nearest = fitting.ensures.nearest };
      copied = ap (λ (l : List ℕ). l ++ drop fitting.result c.args.dst.now) (c.copy_from_slice.ensures.after ∙ ap (take fitting.result) c.as_bytes.ensures.value);
    }

pub returns-then-fitting-src : goal.returns-then-fitting-src
returns-then-fitting-src c =
    copied_raw _ _ _ _ (copies (goal.at.returns-then-fitting-src c).After-copy_from_slice) OutputFull refl (λ e. absurd cc) (λ e. c.if-fitting-src.true)

pub returns : goal.returns
returns c = copied_raw _ _ _ _ (copies (goal.at.returns c).After-copy_from_slice) InputEmpty refl (λ e. c.if-fitting-src.false) (λ e. absurd cc)
