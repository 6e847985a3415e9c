use Rattle.enc_drivers.specs.Lemmas.Iso2022JpLaw.{iso_2022_jp_law}
use Rattle.enc_drivers.proofs.codes.iso_2022_jp.is_code.Goals as goal

pub returns : goal.returns
returns c = iso_2022_jp_law
