-- A non-nullable reference occurs in the types or the tables of a shape only if it is among the
-- shape's values. So a module begins with one, or is refused because of one, only if a shape in use
-- holds one.
use Rattle.wasm_smith.proofs.Common.{[], All, All-cons, All-contains, All-nil, All-weaker, arith, Config, Context, Count, drawn_beside}
use Rattle.wasm_smith.proofs.Common.{EntitySpaces, Error, GlobalType, HasGranted, HasGroundedElements, HasGroundedValue, HoldsNonNullable}
use Rattle.wasm_smith.proofs.Common.{imported_spaces, inl, inr, IsGranted, IsSomeAnd, IsUngrounded, items_of_module_shape, List, MayRefuse}
use Rattle.wasm_smith.proofs.Common.{None, nothing_defined, Option, refl, Shape, shape_for, shape_imports, shape_spaces, shape_types, Some}
use Rattle.wasm_smith.proofs.Common.{subst, SubType, sym, TableType, ValType, values_of, Which, ◌<◌, ◌≡◌, ◌⊎◌}
use Rattle.std.specs.List.{Any}
use Rattle.std.proofs.lemmas.List.Elements.{All-map, Contains-get_or}
use Rattle.smith_bytes.specs.declared.error.Count.TheVariants as counts
use Rattle.smith_bytes.specs.declared.error.Error.TheVariants as errors
use Rattle.smith_bytes.specs.declared.error.Which.TheVariants as which
use Rattle.smith_bytes.specs.declared.error.Why.TheVariants.{SeveralMemories, SeveralTables}
use Rattle.smith_validity.specs.Decided.{IsStored, AreHeld}
use Rattle.smith_types.specs.Expressions.{field_values, unpacked}
use Rattle.smith_types.specs.HeldValues.{values_in}
use Rattle.smith_types.specs.Syntax.composite_type.CompositeInnerType.{CompositeInnerType}
use Rattle.smith_types.specs.Syntax.composite_type.CompositeInnerType.TheVariants.{Array, Func, Struct}
use Rattle.smith_types.specs.Syntax.composite_type.FieldType.{FieldType}
use Rattle.smith_types.specs.Syntax.composite_type.StorageType.{StorageType}
use Rattle.smith_types.specs.Syntax.composite_type.StorageType.TheVariants.{I8, I16, Val}
use Rattle.smith_types.specs.Syntax.value_type.ValType.TheVariants.{Ref}
use Rattle.smith_validity.proofs.HeldValueLemmas.{held_from_values, all_values_apart}
use Rattle.smith_config.specs.Shapes.{shape_values}
use Rattle.smith_config.specs.Granted.{IsNonNullable}
use Rattle.smith_draw_types.specs.HeldFields.{fields_of}
use Rattle.smith_draw_types.specs.Grounding.{over}
use Rattle.smith_draw_types.proofs.FilledLemmas.{any_weaker}
use Rattle.smith_draw_types.proofs.NullableLemmas.{ungrounded_not_null}
use Rattle.wasm_smith.specs.FirstParts.{MayRefuseFirstParts}
use Rattle.wasm_smith.specs.DrawnSteps.{HoldsGrounded}
use Rattle.smith_module_rules.specs.Refusals.{Brings}
use Rattle.smith_draw_definitions.specs.Required.{MayLackIn, MayRefuseRequired}
use Rattle.wasm_smith.proofs.NonNullableLemmas.{holds_or_not}

-- not a non-nullable reference
abbrev MayBeNull : ValType → Type 0
MayBeNull value = ¬ IsNonNullable value

-- if no item has a property, each lacks it
none_has : {A : Type 0} (P : A → Type 0) (xs : List A) → ¬ Any P xs → All (λ (x : A). ¬ P x) xs
none_has P xs none = λ k d inside p. let (i, within, at) = Contains-get_or xs k d inside in none (i, _, within, at, p)

unpacked_null : (storage : StorageType) → IsStored MayBeNull storage → MayBeNull (unpacked storage)
unpacked_null I8 h = λ never. never
unpacked_null I16 h = λ never. never
unpacked_null (Val value) h = h

fields_null : (inner : CompositeInnerType) → AreHeld MayBeNull inner → All (λ (field : FieldType). MayBeNull (unpacked field.element_type))
    (fields_of inner)
fields_null (Struct structure) h = All-weaker (λ (field : FieldType). IsStored MayBeNull field.element_type)
    (λ (field : FieldType). MayBeNull (unpacked field.element_type)) (λ field. unpacked_null field.element_type) structure.fields h
fields_null (Array array) h = All-cons (λ (field : FieldType). MayBeNull (unpacked field.element_type)) array.0 []
    (unpacked_null array.0.element_type h) (All-nil (λ (field : FieldType). MayBeNull (unpacked field.element_type)))
fields_null (Func function) h = All-nil (λ (field : FieldType). MayBeNull (unpacked field.element_type))

no_field : (inner : CompositeInnerType) → All MayBeNull (values_of inner) → ¬ Any IsNonNullable (field_values (fields_of inner))
no_field inner values (k, value, inside, at, never) =
    All-contains MayBeNull (field_values (fields_of inner)) value
    (All-map MayBeNull (λ (field : FieldType). unpacked field.element_type) (fields_of inner)
    (fields_null inner (held_from_values MayBeNull inner values)))
    (k, inside, at) never

-- a nullable value is granted, whatever is grounded
granted_null : (config : Config) (context : Context) (value : ValType) → MayBeNull value → IsGranted config context value
granted_null config context value may lacks = may (ungrounded_not_null config context value lacks)

-- no value of types, tables and globals is ungrounded in a context, which may have other types
pub record AreValuesGranted (config : Config) (context : Context) (types : List SubType) (spaces : EntitySpaces) : Type 0 where
  pub of_types : All (HasGranted config context) types
  pub element_types : All (HasGroundedElements config context) spaces.tables
  pub globals : All (HasGroundedValue config context) spaces.globals

module _ (config : Config) (types : List SubType) (spaces : EntitySpaces) (none : ¬ Any IsNonNullable (values_in types spaces)) where
  apart : All (λ (t : SubType). All MayBeNull (values_of t.composite_type.inner)) types
      × All (λ (table : TableType). MayBeNull (Ref table.element_type)) spaces.tables
      × All (λ (global : GlobalType). MayBeNull global.val_type) spaces.globals
  apart = all_values_apart MayBeNull types spaces (none_has IsNonNullable (values_in types spaces) none)

  -- if no value is a non-nullable reference, none is ungrounded
  granted_values : (context : Context) → AreValuesGranted config context types spaces
  granted_values context =
      let (of_types, of_tables, of_globals) = apart in
      let granted = granted_null config context in
      record {
        of_types = All-weaker (λ (t : SubType). All MayBeNull (values_of t.composite_type.inner)) (HasGranted config context)
            (λ t h. All-weaker MayBeNull (IsGranted config context) granted (values_of t.composite_type.inner) h) types of_types;
        element_types = All-weaker (λ (table : TableType). MayBeNull (Ref table.element_type)) (HasGroundedElements config context)
            (λ table. granted (Ref table.element_type)) spaces.tables of_tables;
        globals = All-weaker (λ (global : GlobalType). MayBeNull global.val_type) (HasGroundedValue config context)
            (λ global. granted global.val_type) spaces.globals of_globals;
      }

  grounded_values : (functions : Context) → HoldsGrounded config (over functions types) spaces
  grounded_values functions =
      let (of_types, of_tables, of_globals) = apart in
      let context = over functions types in
      let all = granted_values context in
      record {
        fields = λ (k, t, inside, at, holds). no_field t.composite_type.inner
            (All-contains (λ (t : SubType). All MayBeNull (values_of t.composite_type.inner)) types t of_types (k, inside, at))
            (any_weaker (IsUngrounded config context) IsNonNullable (ungrounded_not_null config context)
            (field_values (fields_of t.composite_type.inner)) holds);
        types = all.of_types;
        element_types = all.element_types;
        globals = all.globals;
      }

module _ (config : Config) (context : Context) (for_use : Which) (shape : Shape) (used : shape_for config for_use ≡ Some shape)
    (none : HoldsNonNullable config → ⊥) where
  none_held : ¬ Any IsNonNullable (shape_values shape)
  none_held holds = none (
    for_use,
    subst (λ (one : Option Shape). IsSomeAnd one (λ each. Any IsNonNullable (shape_values each)))
        (sym used) holds,
  )

  -- a shape in use holds no such reference if no shape in use holds one
  pub shape_grounded : HoldsGrounded config (over context (shape_types shape)) (shape_spaces shape)
  shape_grounded = grounded_values config (shape_types shape) (shape_spaces shape) none_held context

  -- the shape holds no such reference over any types
  pub shape_granted : AreValuesGranted config context (shape_types shape) (shape_spaces shape)
  shape_granted = granted_values config (shape_types shape) (shape_spaces shape) none_held context

-- the context in which the exports of a module shape are made
abbrev beside_shape : Config → Shape → Context
beside_shape config shape = drawn_beside config (shape_types shape) (imported_spaces (shape_imports shape)) nothing_defined

-- if the exports of a module shape may have nothing to choose from, a shape in use holds such a
-- reference
shape_lacks : (config : Config) (shape : Shape) → config.module_shape ≡ Some shape → MayLackIn config (beside_shape config shape) shape
    → HoldsNonNullable config
shape_lacks config shape given (inl value) = (which.ModuleShape, rw given value)
shape_lacks config shape given (inr field) = elim (holds_or_not config) [
  | inl holds ↦ holds
  | inr none ↦ absurd ((shape_grounded config (beside_shape config shape) which.ModuleShape shape (rw given refl) none).fields field)
]

module_lacks : (config : Config) (shape : Shape) (e : Error) → config.module_shape ≡ Some shape → (e ≡ errors.Memory)
    ⊎ ((e ≡ errors.EmptyChoose) × MayLackIn config (beside_shape config shape) shape) → MayRefuse config e
module_lacks config shape e given (inl memory) = subst (MayRefuse config) (sym memory) tt
module_lacks config shape e given (inr (empty, lacks)) = subst (MayRefuse config) (sym empty) (shape_lacks config shape given lacks)

-- a module shape adds its exports
module_brings : (config : Config) (shape : Shape) (count : Count) → config.module_shape ≡ Some shape → 0 < items_of_module_shape count shape
    → Brings config count
module_brings config shape count given some = inr (rw given some)

module_refused : (config : Config) (shape : Shape) (e : Error) → config.module_shape ≡ Some shape
    → MayRefuseRequired config (beside_shape config shape) shape e → MayRefuse config e
module_refused config shape (errors.IncorrectFormat SeveralMemories) given (some, one) =
    (module_brings config shape counts.Memories given (omega (arith, some)), one)
module_refused config shape (errors.IncorrectFormat SeveralTables) given (some, one) =
    (module_brings config shape counts.Tables given (omega (arith, some)), one)
module_refused config shape e given h = module_lacks config shape e given h

refused_by_module : (config : Config) (e : Error) (of_module : Option Shape) → config.module_shape ≡ of_module
    → IsSomeAnd of_module (λ shape. MayRefuseRequired config (beside_shape config shape) shape e) → MayRefuse config e
refused_by_module config e (Some shape) given h = module_refused config shape e given h
refused_by_module config e None given h = absurd h

-- the first parts of a module are refused only as a module may be
pub first_parts_refused : (config : Config) (e : Error) → MayRefuseFirstParts config e → MayRefuse config e
first_parts_refused config e (inl memory) = subst (MayRefuse config) (sym memory) tt
first_parts_refused config e (inr by_module) = refused_by_module config e config.module_shape refl by_module
