use Rattle.std.proofs.Common.{◌≡◌, drop}
use Rattle.enc_front.specs.Encoding.{label_rows, find_label}
use Rattle.people.proofs.names.find_name.Given as goal

abbrev pub invariant-loop-row : goal.invariant-loop-row
invariant-loop-row l = find_label (label_rows (drop l.row-index l.rows)) l.name ≡ find_label (label_rows l.rows) l.name
