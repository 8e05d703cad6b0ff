-- Contexts used by the examples.
use Rattle.std.specs.Prelude.{ℕ, List, [], ◌∷◌}
use Rattle.smith_syntax.specs.declared.value_type.AbstractHeapType.TheVariants as heap
use Rattle.smith_types.specs.Common.{Array, Features, I16, I32, I64, I8, Ref, SubType, Val}
use Rattle.smith_types.specs.Expressions.{Context}
use Rattle.smith_types.specs.ExampleTypes.{final_type, plain_func, struct, constant, variable, not_null, plain}
use Rattle.smith_types.specs.ExampleEntities.{constant_global, variable_global}

-- a function type, a struct with one packed field, an array of numbers, a struct with a
-- non-nullable field, an array of references to functions, and a struct with a packed field and a
-- number
abbrev pub context_types : List SubType
context_types =
    final_type plain_func ∷ final_type (struct (constant I8 ∷ [])) ∷ final_type (Array (record { 0 = variable (Val I32) }))
    ∷ final_type (struct (constant (Val (Ref (not_null (plain heap.Func)))) ∷ [])) ∷ final_type
    (Array (record { 0 = constant (Val (Ref (not_null (plain heap.Func)))) }))
    ∷ final_type (struct (constant I16 ∷ variable (Val I64) ∷ [])) ∷ []

-- an imported and a defined function; two imported globals, one of them mutable, and a defined one
abbrev pub context_with : Features → ℕ → Context
context_with features visible = record {
  features = features;
  types = context_types;
  funcs = 0 ∷ 0 ∷ [];
  globals = constant_global I32 ∷ variable_global I32 ∷ constant_global I32 ∷ [];
  imported_funcs = 1;
  imported_globals = 2;
  visible = visible;
}

-- a context with these types and functions and without globals; functions below `imported` are
-- imported
abbrev pub context_of : Features → List SubType → List ℕ → ℕ → Context
context_of features types funcs imported = record {
  features = features;
  types = types;
  funcs = funcs;
  globals = [];
  imported_funcs = imported;
  imported_globals = 0;
  visible = 0;
}
