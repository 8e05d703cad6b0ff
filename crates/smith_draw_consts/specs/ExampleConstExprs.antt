-- Contexts of constant expressions, and laws about them, used by the examples.
use Rattle.std.specs.Prelude.{◌≡◌, true, false, List, [], ◌∷◌, All}
use Rattle.smith_draw_consts.specs.Common.{Config, Context, GlobalType, SubType, ValType}
use Rattle.smith_types.specs.Syntax.composite_type.StorageType.TheVariants.{I8}
use Rattle.smith_types.specs.ExampleFeatures.{usual_features}
use Rattle.smith_types.specs.ExampleTypes.{final_type, struct, array, constant}
use Rattle.smith_types.specs.Syntax.value_type.ValType.TheVariants.{V128}
use Rattle.smith_types.specs.ExampleEntities.{constant_global}
use Rattle.smith_draw_types.specs.declared.spaces.Spaces.{Spaces}
use Rattle.smith_draw_consts.specs.ConstScopes.{AreSpacesValid}
use Rattle.smith_draw_consts.specs.ConstOffers.{readable_globals}

-- the context with only these types
abbrev pub context_of_types : List SubType → Context
context_of_types types = record {
  features = usual_features;
  types = types;
  funcs = [];
  globals = [];
  imported_funcs = 0;
  imported_globals = 0;
  visible = 0;
}

-- a struct with one packed field of a byte
abbrev pub packed_struct : SubType
packed_struct = final_type (struct (constant I8 ∷ []))

-- an array of bytes
abbrev pub packed_array : SubType
packed_array = final_type (array (constant I8))

-- if all globals are mutable, none is readable
abbrev pub MutableGlobalsAreNotRead : Type 0
MutableGlobalsAreNotRead = (context : Context) (wanted : ValType) → All (λ (global : GlobalType). global.mutable ≡ true) context.globals
    → readable_globals context wanted ≡ []

-- nothing is defined so far
pub record IsNothing (spaces : Spaces) : Type 0 where
  pub types : spaces.types.now.types ≡ []
  pub groups : spaces.types.now.groups ≡ []
  pub funcs : spaces.entities.funcs.now ≡ []
  pub globals : spaces.entities.globals.now ≡ []
  pub imported_globals : spaces.entities.imported_globals ≡ 0

-- spaces without items are valid
abbrev pub NothingIsValid : Type 0
NothingIsValid = (config : Config) (spaces : Spaces) → IsNothing spaces → AreSpacesValid config spaces

-- a function without its type is not valid
abbrev pub AFunctionNeedsItsType : Type 0
AFunctionNeedsItsType = (config : Config) (spaces : Spaces) → spaces.types.now.types ≡ [] → spaces.entities.funcs.now ≡ 0 ∷ []
    → ¬ AreSpacesValid config spaces

-- a global of a vector type is not valid without its feature
abbrev pub AGlobalNeedsItsFeature : Type 0
AGlobalNeedsItsFeature = (config : Config) (spaces : Spaces) → config.simd_enabled ≡ false → spaces.entities.globals.now
    ≡ constant_global V128 ∷ [] → ¬ AreSpacesValid config spaces

-- there are no more imported globals than globals
abbrev pub ImportedGlobalsStand : Type 0
ImportedGlobalsStand = (config : Config) (spaces : Spaces) → spaces.entities.globals.now ≡ [] → spaces.entities.imported_globals ≡ 1
    → ¬ AreSpacesValid config spaces
