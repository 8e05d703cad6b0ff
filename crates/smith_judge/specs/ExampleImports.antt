-- Imports of the examples.
use Rattle.std.specs.Prelude.{List, [], ◌∷◌, false}
use Rattle.smith_types.specs.Syntax.entity_type.EntityType.TheVariants as entity
use Rattle.smith_types.specs.Syntax.entity_type.GlobalType.{GlobalType}
use Rattle.smith_types.specs.Syntax.imports.Imports.{Imports}
use Rattle.smith_types.specs.Syntax.imports.Imports.TheVariants.{Single, Compact2}
use Rattle.smith_types.specs.Syntax.value_type.ValType.TheVariants.{I32}
use Rattle.smith_types.specs.Imports.{import_of}

-- a function, and then a group of two globals
abbrev pub number : GlobalType
number = record { val_type = I32; mutable = false; shared = false }

abbrev pub function_and_globals : List Imports
function_and_globals = Single (import_of [] [] (entity.Func 0)) ∷ Compact2 [] (entity.Global number) ([] ∷ [] ∷ []) ∷ []
