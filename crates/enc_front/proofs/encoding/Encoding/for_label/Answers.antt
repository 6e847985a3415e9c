use Rattle.std.proofs.Common.{refl, ◌∙◌, ap}
use Rattle.std.proofs.lemmas.Str.Ascii.{trim_ascii_is}
use Rattle.enc_front.specs.Encoding.{find_label, label, labels}
use Rattle.enc_front.proofs.LabelSearch.{labels_rise}
use Rattle.enc_front.proofs.encoding.Encoding.for_label.Goals as goal

pub returns : goal.returns
unfolding label labels
returns c =
    let bytes = c.args.label.now in
    let is = trim_ascii_is bytes c.trim_ascii.result.now _ refl c.trim_ascii.ensures.value in
    c.find_label.ensures ∙ ap (λ t. find_label labels t) is

pub find_label-requires : goal.find_label-requires
unfolding labels
find_label-requires c = labels_rise
