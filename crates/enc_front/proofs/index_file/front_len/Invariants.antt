use Rattle.std.proofs.Common.{◌≡◌, ◌+◌, drop}
use Rattle.std.specs.List.{prefix_len}
use Rattle.enc_front.specs.IndexFile.{is_of_class}
use Rattle.enc_front.proofs.index_file.front_len.Given as goal

abbrev pub invariant-loop-i : goal.invariant-loop-i
invariant-loop-i l = prefix_len (is_of_class l.class) l.text
    ≡ l.i + prefix_len (is_of_class l.class) (drop l.i l.text)
