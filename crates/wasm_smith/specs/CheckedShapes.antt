-- The first shape of a configuration that fails its check, and the error. Rules of this project.
use Rattle.std.specs.Prelude.{⊤, IfSome, IsSomeAnd, Option}
use Rattle.wasm_smith.specs.Common.{Config, Error, Shape}
use Rattle.smith_bytes.specs.declared.error.Which.{Which}
use Rattle.smith_bytes.specs.declared.error.Which.TheVariants as which
use Rattle.smith_config.specs.ShapeFaults.{IsRefused}
use Rattle.smith_config.specs.Shapes.{IsShapeValid}
use Rattle.smith_module_rules.specs.Refusals.{shape_for}

-- the error of the shape for a use: its first fault, or lack of memory unless the shape is too long
abbrev pub IsFaultOf : Config → Option Shape → Which → Error → Type 0
IsFaultOf config given for_use e = IsSomeAnd given (λ shape. IsRefused for_use config shape e)

-- one use is checked before another; with a module shape, no other shape is used
abbrev pub ComesBefore : Which → Which → Type 0
ComesBefore which.ModuleShape which.AvailableImports = ⊤
ComesBefore which.ModuleShape which.Exports = ⊤
ComesBefore which.AvailableImports which.Exports = ⊤
ComesBefore _ _ = ⊥

-- the error of the first shape that fails its check, or lack of memory in its check or an earlier
-- one
pub record IsFirstFaulty (config : Config) (e : Error) : Type 0 where
  pub for_use : Which
  pub refused : IsFaultOf config (shape_for config for_use) for_use e
  pub earlier : (other : Which) → ComesBefore other for_use → IfSome (shape_for config other) (λ shape. IsShapeValid other config shape)
