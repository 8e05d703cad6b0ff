-- The context in which constant expressions are checked.
use Rattle.std.specs.Prelude.{ℕ, ◌<◌, List, length, All}
use Rattle.smith_types.specs.Syntax.FeatureBits.{features_in}
use Rattle.smith_check_module.specs.Common.{Context, GlobalType, SubType}
use Rattle.smith_types.specs.Subtyping.{IsValInRange}
use Rattle.smith_types.specs.Types.{IsOrderly}
use Rattle.smith_types.specs.ValidTypes.{values_of}
use Rattle.smith_check_module.specs.declared.scope.Scope.{Scope}

-- the context of a scope (Validation, Contexts)
abbrev pub context_of : Scope → Context
context_of scope = record {
  features = features_in scope.features;
  types = scope.types.now.types;
  funcs = scope.funcs.now;
  globals = scope.globals.now;
  imported_funcs = scope.imported_funcs;
  imported_globals = scope.imported_globals;
  visible = scope.visible;
}

-- the types that types, functions and globals refer to exist, and supertypes precede their subtypes
-- (Validation, Modules)
pub record AreStanding (types : List SubType) (funcs : List ℕ) (globals : List GlobalType) : Type 0 where
  pub orderly : IsOrderly types
  pub values_stand : All (λ (t : SubType). All (IsValInRange types) (values_of t.composite_type.inner)) types
  pub funcs_stand : All (λ index. index < length types) funcs
  pub globals_stand : All (λ (global : GlobalType). IsValInRange types global.val_type) globals

abbrev pub IsScope : Context → Type 0
IsScope context = AreStanding context.types context.funcs context.globals
