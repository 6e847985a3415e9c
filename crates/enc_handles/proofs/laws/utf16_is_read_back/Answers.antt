use Rattle.enc_handles.proofs.ReadBack.{read_back}
use Rattle.enc_handles.proofs.laws.utf16_is_read_back.Goals as goal

pub returns : goal.returns
returns c scalars each = read_back scalars each
