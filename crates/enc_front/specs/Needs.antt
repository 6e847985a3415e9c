-- The kinds of index that an encoding needs, as code has them.
use Rattle.std.specs.Prelude.{List, [], ◌∷◌}
use Rattle.enc_front.specs.declared.encoding.Kinds.{Kinds}
use Rattle.enc_front.specs.declared.encoding.Kinds.TheVariants as kinds
use Rattle.enc_front.specs.declared.tables.IndexKind.{IndexKind}

abbrev pub kinds_in : Kinds → List IndexKind
kinds_in kinds.None = []
kinds_in (kinds.One kind) = kind ∷ []
kinds_in (kinds.Two kind other) = kind ∷ other ∷ []
