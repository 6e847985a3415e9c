use Rattle.std.proofs.Common.{subst, ap, ◌∙◌}
use Rattle.enc_drivers.specs.Lookup.{HasNoAstral}
use Rattle.enc_front.specs.declared.index.AnyIndex.{AnyIndex}
use Rattle.enc_front.specs.Index.{any_places}
use Rattle.enc_front.specs.Kinds.{is_bmp}
use Rattle.enc_front.proofs.tables.Tables.index.Goals as goal

pub returns-in-OfCells-clause-bmp : goal.returns-in-OfCells-clause-bmp
returns-in-OfCells-clause-bmp c h =
    let NoAstral : AnyIndex → Type 0 = λ index. HasNoAstral (any_places index) in
    subst NoAstral c.in-OfCells.is
    (c.in_ok-entry.entry.now.bmp (ap is_bmp c.in_ok-entry.ensures.kind ∙ h))
