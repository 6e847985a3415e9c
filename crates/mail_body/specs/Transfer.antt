-- What mail bodies stand for, by their transfer encoding (RFC 2045, section 6.1), and what is kept
-- between pieces of them.
use Rattle.std.specs.Prelude.{◌≡◌, ℕ, ◌+◌, ◌*◌, ◌≤◌, Bool, false, if◌then◌else◌, List, [], ◌++◌}
use Rattle.std.specs.Prelude.{length}
use Rattle.enc_front.specs.Charset.{charset_text}
use Rattle.enc_front.specs.Indexes.{Indexes}
use Rattle.qp.specs.Robust.{robust}
use Rattle.qp.specs.Text.{kept}
use Rattle.mail_body.specs.declared.transfer.Transfer.{Transfer}
use Rattle.mail_body.specs.declared.transfer.Transfer.TheVariants.{Plain, Quoted, Base64}
use Rattle.mail_body.specs.Base64.{base64_body}
use Rattle.mail_body.specs.Quoted.{Keeps, has_blank_run}

-- the octets that a body stands for: its own ("7bit", "8bit" and "binary"), those that
-- quoted-printable text says, or those of base64 letters
abbrev pub transfer : Transfer → List ℕ → List ℕ
transfer Plain body = body
transfer Quoted body = robust body
transfer Base64 body = base64_body body

-- the text of a body: these octets in its charset
unfoldable pub body_text : Transfer → List ℕ → Indexes → List ℕ → List ℕ
body_text kind label indexes body = charset_text label indexes (transfer kind body)

-- what is kept between pieces: bytes whose octets depend on what follows; of quoted-printable text
-- only such as may stand in it; and whether the end of base64 letters was seen
pub record Carry : Type 0 where
  pub kind : Transfer
  pub kept : List ℕ
  pub closed : Bool

-- nothing is kept
abbrev pub fresh_carry : Transfer → Carry
fresh_carry kind = record { kind = kind; kept = []; closed = false }

-- the octets that are still to come where these bytes follow and then the end
abbrev pub transferred : Carry → List ℕ → List ℕ
transferred at rest = if at.closed then [] else transfer at.kind (at.kept ++ rest)

-- a piece was read: whatever follows, the octets that were to come are these and those that are to
-- come now
pub record Steps (before after : Carry) (piece given : List ℕ) : Type 0 where
  pub same_kind : after.kind ≡ before.kind
  pub equation : (rest : List ℕ)
      → transferred before (piece ++ rest) ≡ given ++ transferred after rest
  pub keeps : before.kind ≡ Quoted → Keeps before.kept piece after.kept
  pub few_blanks : before.kind ≡ Quoted → has_blank_run (before.kept ++ kept piece) ≡ false
  pub count : length given + length after.kept ≤ length before.kept + 2 * length piece
