use Rattle.std.proofs.Common.{◌≡◌, ℕ, ◌<◌, subst, sym}
use Rattle.word_writer.specs.Groups.{group_len}
use Rattle.word_writer.proofs.Fitting.{group_len-is, group_len-some}
use Rattle.word_writer.proofs.groups.group_len.Goals as goal

pub returns-clause-value : goal.returns-clause-value
returns-clause-value c =
    group_len-is c.args.text.now c.group_room.result c.floor_char_boundary.result c.group_room.ensures c.utf8.text
    c.floor_char_boundary.ensures.bound c.floor_char_boundary.ensures.boundary c.floor_char_boundary.ensures.nearest

pub returns-clause-some : goal.returns-clause-some
returns-clause-some c some =
    let is : c.floor_char_boundary.result ≡ group_len c.args.text.now =
    group_len-is c.args.text.now c.group_room.result c.floor_char_boundary.result c.group_room.ensures c.utf8.text
    c.floor_char_boundary.ensures.bound c.floor_char_boundary.ensures.boundary c.floor_char_boundary.ensures.nearest in
    let P : ℕ → Type 0 = λ n. 0 < n in subst P (sym is) (group_len-some c.args.text.now c.utf8.text some)
