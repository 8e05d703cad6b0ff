-- The context in which constant expressions are drawn.
use Rattle.std.specs.Prelude.{◌≡◌, ℕ, ◌<◌, ◌≤◌, ◌^◌, Bool, false, IsTrue, ◌&&◌, if◌then◌else◌, List, [], ◌∷◌, Some, length, slice_get, All}
use Rattle.smith_draw_consts.specs.Common.{CompositeInnerType, Config, Context, field_values, FieldType, GlobalType, IsValBelow}
use Rattle.smith_draw_consts.specs.Common.{IsValTypeValid, SubType, ValType}
use Rattle.smith_types.specs.Expressions.{IsVisible}
use Rattle.smith_types.specs.Types.{IsOrderly}
use Rattle.smith_types.specs.ValidTypes.{AreTypesValid}
use Rattle.smith_types.specs.Entities.{IsFuncTypeIndex, IsGlobalValid}
use Rattle.smith_draw_types.specs.declared.spaces.Spaces.{Spaces}
use Rattle.smith_types.specs.Syntax.composite_type.CompositeInnerType.TheVariants.{Array, Func, Struct}
use Rattle.smith_types.specs.Expressions.{IsStructAt}
use Rattle.smith_config.specs.Features.{features_of}
use Rattle.smith_draw_types.specs.HeldFields.{fields_of}
use Rattle.smith_draw_consts.specs.declared.scope.Scope.{Scope}

-- the context of a scope (Validation, Contexts)
abbrev pub context_of : Scope → Context
context_of scope = record {
  features = features_of scope.config.now;
  types = scope.spaces.now.types.now.types;
  funcs = scope.spaces.now.entities.funcs.now;
  globals = scope.spaces.now.entities.globals.now;
  imported_funcs = scope.spaces.now.entities.imported_funcs;
  imported_globals = scope.spaces.now.entities.imported_globals;
  visible = scope.visible;
}

-- the items defined so far are valid, and their indices have 32 bits
pub record IsScope (context : Context) : Type 0 where
  pub orderly : IsOrderly context.types
  pub few_types : length context.types < 2 ^ 32
  pub few_funcs : length context.funcs < 2 ^ 32
  pub few_globals : length context.globals < 2 ^ 32
  pub seen : context.visible ≤ length context.globals
  pub imported_seen : context.features.gc ≡ false → context.visible ≤ context.imported_globals
  pub funcs : All (λ index. index < length context.types) context.funcs
  pub globals : All (λ (global : GlobalType). IsValTypeValid context.features (length context.types) global.val_type) context.globals
  pub structs : (index : ℕ) (fields : List FieldType) → IsStructAt context.types index fields → IsTrue context.features.gc
  pub fields : (index : ℕ) (t : SubType) → slice_get context.types index ≡ Some t
      → All (IsValTypeValid context.features (length context.types)) (field_values (fields_of t.composite_type.inner))

-- the end of the globals that an expression may read: the imported globals, or with garbage
-- collection all globals if that is allowed (Validation, Modules; own rule)
abbrev pub visible_end : Config → Spaces → Bool → ℕ
visible_end config spaces allow_defined = if config.gc_enabled && allow_defined then length spaces.entities.globals.now else
    spaces.entities.imported_globals

-- the context of an expression over spaces (Validation, Contexts)
abbrev pub seen_by : Config → Spaces → Bool → Context
seen_by config spaces allow_defined = record {
  features = features_of config;
  types = spaces.types.now.types;
  funcs = spaces.entities.funcs.now;
  globals = spaces.entities.globals.now;
  imported_funcs = spaces.entities.imported_funcs;
  imported_globals = spaces.entities.imported_globals;
  visible = visible_end config spaces allow_defined;
}

-- the types defined so far are valid, the functions and globals are valid over them, and indices
-- have 32 bits
pub record AreSpacesValid (config : Config) (spaces : Spaces) : Type 0 where
  pub types : AreTypesValid (features_of config) spaces.types.now
  pub funcs : All (IsFuncTypeIndex spaces.types.now.types) spaces.entities.funcs.now
  pub globals : All (IsGlobalValid (features_of config) spaces.types.now.types) spaces.entities.globals.now
  pub imported : spaces.entities.imported_globals ≤ length spaces.entities.globals.now
  pub few_funcs : length spaces.entities.funcs.now < 2 ^ 32
  pub few_globals : length spaces.entities.globals.now < 2 ^ 32

-- the global is visible, and its type is a subtype of the wanted type (Validation, Constant
-- Expressions; own rules of subtyping as in `IsStep`)
abbrev pub IsReadable : Context → ValType → ℕ → Type 0
IsReadable context wanted index = (value : ValType) × IsVisible context index value × IsValBelow context.types value wanted
