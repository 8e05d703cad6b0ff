-- The value types of a composite type, together and part by part.
use Rattle.std.proofs.Common.{List, [], ◌∷◌, ◌++◌, map}
use Rattle.std.specs.Prelude.{All}
use Rattle.std.specs.List.{flat_map, AllByRecursion as Each}
use Rattle.std.proofs.lemmas.List.Elements.{All-nil, All-cons, All-head, All-append, All-map, All-weaker, All-from_recursion}
use Rattle.std.proofs.lemmas.List.Elements.{recursion_from_All}
use Rattle.smith_validity.specs.Decided.{IsStored, AreHeld}
use Rattle.smith_types.specs.HeldValues.{values_in}
use Rattle.smith_types.specs.Imports.{EntitySpaces}
use Rattle.smith_types.specs.Syntax.entity_type.GlobalType.{GlobalType}
use Rattle.smith_types.specs.Syntax.entity_type.TableType.{TableType}
use Rattle.smith_types.specs.Syntax.value_type.ValType.TheVariants.{Ref}
use Rattle.smith_types.specs.ValidTypes.{values_of, values_of_storage}
use Rattle.smith_types.specs.Syntax.value_type.ValType.{ValType}
use Rattle.smith_types.specs.Syntax.composite_type.StorageType.{StorageType}
use Rattle.smith_types.specs.Syntax.composite_type.StorageType.TheVariants.{I8, I16, Val}
use Rattle.smith_types.specs.Syntax.composite_type.FieldType.{FieldType}
use Rattle.smith_types.specs.Syntax.composite_type.SubType.{SubType}
use Rattle.smith_types.specs.Syntax.composite_type.CompositeInnerType.{CompositeInnerType}
use Rattle.smith_types.specs.Syntax.composite_type.CompositeInnerType.TheVariants.{Array, Func, Struct}

-- a property of all parts of each item holds for the parts of all items
pub all_of_parts : {A B : Type 0} (P : B → Type 0) (f : A → List B) (items : List A) → Each (λ item. All P (f item)) items
    → All P (flat_map f items)
all_of_parts P f [] each = All-nil P
all_of_parts P f (item ∷ items) each = All-append P (f item) (flat_map f items) each.0 (all_of_parts P f items each.1)

-- a property of all items of a concatenation holds for the items of both lists
pub each_apart : {A : Type 0} (P : A → Type 0) (xs ys : List A) → Each P (xs ++ ys) → Each P xs × Each P ys
each_apart P [] ys each = (tt, each)
each_apart P (x ∷ xs) ys each = let rest = each_apart P xs ys each.1 in ((each.0, rest.0), rest.1)

pub all_apart : {A : Type 0} (P : A → Type 0) (xs ys : List A) → All P (xs ++ ys) → All P xs × All P ys
all_apart P xs ys all =
    let apart = each_apart P xs ys (recursion_from_All P (xs ++ ys) all) in
    (All-from_recursion P xs apart.0, All-from_recursion P ys apart.1)

-- a property of the parts of all items holds for all parts of each item
pub parts_of_all : {A B : Type 0} (P : B → Type 0) (f : A → List B) (items : List A) → All P (flat_map f items)
    → Each (λ item. All P (f item)) items
parts_of_all P f [] all = tt
parts_of_all P f (item ∷ items) all = let apart = all_apart P (f item) (flat_map f items) all in (apart.0, parts_of_all P f items apart.1)

module _ (P : ValType → Type 0) where
  stored_values : (storage : StorageType) → IsStored P storage → All P (values_of_storage storage)
  stored_values I8 h = All-nil P
  stored_values I16 h = All-nil P
  stored_values (Val value) h = All-cons P value [] h (All-nil P)

  values_stored : (storage : StorageType) → All P (values_of_storage storage) → IsStored P storage
  values_stored I8 h = tt
  values_stored I16 h = tt
  values_stored (Val value) h = All-head P value [] h

  of_field : FieldType → List ValType
  of_field field = values_of_storage field.element_type

  pub values_from_held : (inner : CompositeInnerType) → AreHeld P inner → All P (values_of inner)
  values_from_held (Array array) h = stored_values array.0.element_type h
  values_from_held (Func function) h = All-append P function.params function.results h.0 h.1
  values_from_held (Struct structure) h =
      all_of_parts P (λ (field : FieldType). values_of_storage field.element_type) structure.fields
      (recursion_from_All (λ (field : FieldType). All P (values_of_storage field.element_type)) structure.fields
      (All-weaker (λ (field : FieldType). IsStored P field.element_type)
      (λ (field : FieldType). All P (values_of_storage field.element_type)) (λ field. stored_values field.element_type) structure.fields
      h))

  pub held_from_values : (inner : CompositeInnerType) → All P (values_of inner) → AreHeld P inner
  held_from_values (Array array) h = values_stored array.0.element_type h
  held_from_values (Func function) h = all_apart P function.params function.results h
  held_from_values (Struct structure) h =
      All-weaker (λ (field : FieldType). All P (values_of_storage field.element_type))
      (λ (field : FieldType). IsStored P field.element_type) (λ field. values_stored field.element_type) structure.fields
      (All-from_recursion (λ (field : FieldType). All P (values_of_storage field.element_type)) structure.fields
      (parts_of_all P (λ (field : FieldType). values_of_storage field.element_type) structure.fields h))

before_map : {A B : Type 0} (P : B → Type 0) (f : A → B) (items : List A) → Each P (map f items) → Each (λ item. P (f item)) items
before_map P f [] each = tt
before_map P f (item ∷ items) each = (each.0, before_map P f items each.1)

-- a property of the value types of types, tables and globals holds for all of them, and conversely
module _ (P : ValType → Type 0) (types : List SubType) (spaces : EntitySpaces) where
  of_table : TableType → ValType
  of_table table = Ref table.element_type

  pub all_values_joined : All (λ (t : SubType). All P (values_of t.composite_type.inner)) types
      → All (λ (table : TableType). P (Ref table.element_type)) spaces.tables
      → All (λ (global : GlobalType). P global.val_type) spaces.globals → All P (values_in types spaces)
  all_values_joined held tables globals =
      let of_types : List ValType = flat_map (λ (t : SubType). values_of t.composite_type.inner) types in
      let of_tables : List ValType = map (λ (table : TableType). Ref table.element_type) spaces.tables in
      let of_globals : List ValType = map (λ (global : GlobalType). global.val_type) spaces.globals in
      All-append P of_types (of_tables ++ of_globals)
      (all_of_parts P (λ (t : SubType). values_of t.composite_type.inner) types
      (recursion_from_All (λ (t : SubType). All P (values_of t.composite_type.inner)) types held))
      (All-append P of_tables of_globals (All-map P (λ (table : TableType). Ref table.element_type) spaces.tables tables)
      (All-map P (λ (global : GlobalType). global.val_type) spaces.globals globals))

  pub all_values_apart : All P (values_in types spaces)
      → All (λ (t : SubType). All P (values_of t.composite_type.inner)) types × All (λ (table : TableType). P (Ref table.element_type))
      spaces.tables × All (λ (global : GlobalType). P global.val_type) spaces.globals
  all_values_apart all =
      let of_types : List ValType = flat_map (λ (t : SubType). values_of t.composite_type.inner) types in
      let of_tables : List ValType = map (λ (table : TableType). Ref table.element_type) spaces.tables in
      let of_globals : List ValType = map (λ (global : GlobalType). global.val_type) spaces.globals in
      let first = all_apart P of_types (of_tables ++ of_globals) all in
      let second = all_apart P of_tables of_globals first.1 in (
        All-from_recursion (λ (t : SubType). All P (values_of t.composite_type.inner)) types
            (parts_of_all P (λ (t : SubType). values_of t.composite_type.inner) types first.0),
        All-from_recursion (λ (table : TableType). P (Ref table.element_type)) spaces.tables
            (before_map P (λ (table : TableType). Ref table.element_type) spaces.tables (recursion_from_All P of_tables second.0)),
        All-from_recursion (λ (global : GlobalType). P global.val_type) spaces.globals
            (before_map P (λ (global : GlobalType). global.val_type) spaces.globals (recursion_from_All P of_globals second.1)),
      )
