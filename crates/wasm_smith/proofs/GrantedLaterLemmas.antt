-- References granted in one context are granted in another, if it has no ungrounded reference that
-- the first did not have.
use Rattle.wasm_smith.proofs.Common.{All, All-weaker, Config, Context, GlobalType, HasGranted, HasGroundedElements, HasGroundedValue}
use Rattle.wasm_smith.proofs.Common.{IsGranted, IsUngrounded, List, SubType, TableType, ValType, values_of}
use Rattle.smith_types.specs.Syntax.value_type.ValType.TheVariants.{Ref}

module _ (config : Config) (old new : Context)
    (before : (value : ValType) → IsUngrounded config new value → IsUngrounded config old value) where
  pub value_later : (value : ValType) → IsGranted config old value → IsGranted config new value
  value_later value granted lacks = granted (before value lacks)

  pub types_later : (types : List SubType) → All (HasGranted config old) types → All (HasGranted config new) types
  types_later types h =
      All-weaker (HasGranted config old) (HasGranted config new) (λ t each. All-weaker (IsGranted config old) (IsGranted config new)
      value_later (values_of t.composite_type.inner) each) types h

  pub elements_later : (tables : List TableType) → All (HasGroundedElements config old) tables
      → All (HasGroundedElements config new) tables
  elements_later tables h = All-weaker (HasGroundedElements config old) (HasGroundedElements config new)
      (λ table. value_later (Ref table.element_type)) tables h

  pub globals_later : (globals : List GlobalType) → All (HasGroundedValue config old) globals → All (HasGroundedValue config new) globals
  globals_later globals h = All-weaker (HasGroundedValue config old) (HasGroundedValue config new) (λ global. value_later global.val_type)
      globals h
