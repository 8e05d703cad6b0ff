-- Shapes of the examples.
use Rattle.std.specs.Prelude.{[], ◌∷◌, false}
use Rattle.smith_types.specs.Syntax.entity_type.GlobalType.{GlobalType}
use Rattle.smith_types.specs.Syntax.value_type.ValType.TheVariants.{I32}
use Rattle.smith_config.specs.declared.shape.Shape.{Shape}
use Rattle.smith_decode.specs.ExampleModules.{ctz, no_item}
use Rattle.smith_decode.specs.declared.modules.Module.{Module}

-- a shape without parts
abbrev pub no_shape : Shape
no_shape = record { groups = []; imports = []; funcs = []; tags = []; tables = []; memories = []; globals = []; exports = [] }

-- the type of an immutable global, and a module with such a global
abbrev pub constant : GlobalType
constant = record { val_type = I32; mutable = false; shared = false }

abbrev pub of_a_global : Module
of_a_global = record no_item { globals = record { ty = constant; initial = ctz } ∷ [] }
