-- Modules of the examples.
use Rattle.std.specs.Prelude.{List, [], ◌∷◌, true, false, None}
use Rattle.smith_types.specs.Syntax.composite_type.CompositeInnerType.TheVariants.{Func}
use Rattle.smith_types.specs.Syntax.composite_type.SubType.{SubType}
use Rattle.smith_check.specs.Common.{Syntax, ValType}
use Rattle.smith_types.specs.Syntax.value_type.ValType.TheVariants.{I32}
use Rattle.smith_check_module.specs.ExampleSyntax.{nothing}

-- a function type without parameters
abbrev pub function_type : List ValType → SubType
function_type results = record {
  is_final = true;
  supertype = None;
  composite_type = record { inner = Func (record { params = []; results = results }); shared = false };
}

-- a module with one function, whose type has these results and whose body is empty
abbrev pub with_function : List ValType → Syntax
with_function results = record nothing {
  types = (function_type results ∷ []) ∷ [];
  further_supertypes = ([] ∷ []) ∷ [];
  functions = 0 ∷ [];
  bodies = ([], []) ∷ [];
}

abbrev pub does_nothing : Syntax
does_nothing = with_function []

abbrev pub returns_nothing : Syntax
returns_nothing = with_function (I32 ∷ [])
