use Rattle.std.proofs.Common.{◌≡◌, ◌++◌, take}
use Rattle.enc_front.specs.Charset.{ascii_text}
use Rattle.enc_front.proofs.charset.Charset.append_ascii.Given as goal

abbrev pub invariant-loop-byte : goal.invariant-loop-byte
invariant-loop-byte l = l.text.items ≡ l.initial.text.items ++ ascii_text (take l.byte-index l.bytes)
