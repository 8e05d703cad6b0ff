-- The names of the variants of Error. Rules of this project.
use Rattle.std.specs.Prelude.{ℕ, List, codes}
use Rattle.smith_bytes.specs.declared.error.Error.{Error}
use Rattle.smith_bytes.specs.declared.error.Error.TheVariants.{EmptyChoose, NotEnoughData, IncorrectFormat, Config, Shape, Memory}

-- the name of a variant
abbrev pub refusal_name : Error → List ℕ
refusal_name EmptyChoose = codes "EmptyChoose"
refusal_name NotEnoughData = codes "NotEnoughData"
refusal_name (IncorrectFormat _) = codes "IncorrectFormat"
refusal_name (Config _) = codes "Config"
refusal_name (Shape _ _) = codes "Shape"
refusal_name Memory = codes "Memory"
