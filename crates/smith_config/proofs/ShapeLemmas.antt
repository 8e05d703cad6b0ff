-- A valid shape has no fault, and a shape without a fault is not invalid.
use Rattle.std.proofs.Common.{rules, ◌≡◌, ℕ, IsTrue, List, [], ◌∷◌, ◌++◌, map, length, get_or, refl, arith}
use Rattle.std.specs.List.{All, flat_map, AllByRecursion as Each}
use Rattle.std.specs.declared.ops.Range.{Range}
use Rattle.std.proofs.lemmas.List.Elements.{All-append, All-map, All-nil, All-weaker, All-from_recursion, recursion_from_All}
use Rattle.std.proofs.lemmas.Option.{slice_get-get_or}
use Rattle.smith_bytes.specs.declared.error.Which.{Which}
use Rattle.smith_bytes.specs.declared.error.Which.TheVariants.{AvailableImports, Exports, ModuleShape}
use Rattle.smith_bytes.specs.declared.error.ShapeFault.{ShapeFault}
use Rattle.smith_bytes.specs.declared.error.ShapeFault.TheVariants as fault
use Rattle.smith_types.specs.Syntax.Features.{Features, every_feature}
use Rattle.smith_types.specs.GroupedTypes.{GroupedTypes}
use Rattle.smith_types.specs.ValidTypes.{IsHeapTypeValid, IsRefTypeValid, IsValTypeValid, IsTypeValid, IsGroupValid, AreTypesValid}
use Rattle.smith_types.specs.ValidTypes.{IsShareable, values_of}
use Rattle.smith_types.specs.Entities.{AreLimitsValid, most_elements, IsTableValid, IsMemoryValid, IsGlobalValid}
use Rattle.smith_types.specs.Flags.{IsInnerEnabled}
use Rattle.smith_types.specs.Imports.{EntitySpaces}
use Rattle.smith_types.proofs.GroupGrowthLemmas.{AreTypesOpen-at, AreTypesOpen-start}
use Rattle.smith_types.specs.Syntax.value_type.AbstractHeapType.{AbstractHeapType}
use Rattle.smith_types.specs.Syntax.value_type.HeapType.{HeapType}
use Rattle.smith_types.specs.Syntax.value_type.HeapType.TheVariants.{Abstract, Concrete, Exact}
use Rattle.smith_types.specs.Syntax.value_type.RefType.{RefType}
use Rattle.smith_types.specs.Syntax.value_type.ValType.{ValType}
use Rattle.smith_types.specs.Syntax.value_type.ValType.TheVariants.{I32, I64, F32, F64, V128, Ref}
use Rattle.smith_types.specs.Syntax.composite_type.CompositeInnerType.{CompositeInnerType}
use Rattle.smith_types.specs.Syntax.composite_type.CompositeInnerType.TheVariants.{Array, Func, Struct}
use Rattle.smith_types.specs.Syntax.composite_type.SubType.{SubType}
use Rattle.smith_types.specs.Syntax.entity_type.MemoryType.{MemoryType}
use Rattle.smith_types.specs.Syntax.entity_type.TableType.{TableType}
use Rattle.smith_types.specs.Syntax.entity_type.GlobalType.{GlobalType}
use Rattle.smith_config.specs.declared.config.Config.{Config}
use Rattle.smith_config.specs.declared.shape.Shape.{Shape}
use Rattle.smith_config.specs.Features.{features_of}
use Rattle.smith_config.specs.Shapes.{IsShapeValid, AreCountsFit, IsPlain, space_of, shape_types, shape_spaces, shape_values}
use Rattle.smith_config.specs.ShapeFaults.{HasShapeFault, AreTypesRight, AreLimitsRight, AreFeaturesOn}

-- every abstract type is enabled if every feature is
abstract_on : (shared : _) (ty : AbstractHeapType) (end : ℕ) → IsHeapTypeValid every_feature end (Abstract shared ty)
abstract_on shared ty end = search rules

-- validity for some features implies validity with every feature enabled
module _ (features : Features) where
  heap_type_right : (end : ℕ) (heap_type : HeapType) → IsHeapTypeValid features end heap_type → IsHeapTypeValid every_feature end heap_type
  heap_type_right end (Abstract shared ty) h = abstract_on shared ty end
  heap_type_right end (Concrete index) h = (refl, h.1)
  heap_type_right end (Exact index) h = (refl, h.1)

  reference_right : (end : ℕ) (reference : RefType) → IsRefTypeValid features end reference → IsRefTypeValid every_feature end reference
  reference_right end reference h = record { heap_type = heap_type_right end reference.heap_type h.heap_type; nullable = λ _. refl }

  value_right : (end : ℕ) (value : ValType) → IsValTypeValid features end value → IsValTypeValid every_feature end value
  value_right end I32 h = tt
  value_right end I64 h = tt
  value_right end F32 h = tt
  value_right end F64 h = tt
  value_right end V128 h = refl
  value_right end (Ref reference) h = (refl, reference_right end reference h.1)

  inner_right : (inner : CompositeInnerType) → IsInnerEnabled every_feature inner
  inner_right (Array array) = refl
  inner_right (Func function) = λ _. refl
  inner_right (Struct structure) = refl

  type_right : (types : List SubType) (end : ℕ) (t : SubType) → IsTypeValid features types end t → IsTypeValid every_feature types end t
  type_right types end t h = record {
    enabled = record { inner = inner_right t.composite_type.inner; not_final = λ _. refl; supertype = λ _. refl; shared = λ _. refl };
    values = All-weaker (IsValTypeValid features end) (IsValTypeValid every_feature end) (value_right end)
        (values_of t.composite_type.inner) h.values;
    declared = h.declared;
    shareable = h.shareable;
  }

  group_right : (types : List SubType) (group : Range ℕ) → IsGroupValid features types group → IsGroupValid every_feature types group
  group_right types group h = record {
    members = λ i t low high at. type_right types group.end t (h.members i t low high at);
    single = λ never. cc never;
  }

  types_right : (space : GroupedTypes) → AreTypesValid features space → AreTypesValid every_feature space
  types_right space h = record {
    covered = h.covered;
    orderly = h.orderly;
    groups = All-weaker (IsGroupValid features space.types) (IsGroupValid every_feature space.types) (group_right space.types) space.groups
        h.groups;
  }

  memory_right : (memory : MemoryType) → IsMemoryValid features memory → IsMemoryValid every_feature memory
  memory_right memory h = search rules

-- a property of all parts of each item holds for the parts of all items
all_flat_map : {A B : Type 0} (P : B → Type 0) (f : A → List B) (items : List A) → Each (λ item. All P (f item)) items
    → All P (flat_map f items)
all_flat_map P f [] each = All-nil P
all_flat_map P f (item ∷ items) each = All-append P (f item) (flat_map f items) each.0 (all_flat_map P f items each.1)

-- a property of all items of a concatenation holds for the items of both parts
parts_of_all : {A : Type 0} (P : A → Type 0) (xs ys : List A) → Each P (xs ++ ys) → Each P xs × Each P ys
parts_of_all P [] ys each = (tt, each)
parts_of_all P (x ∷ xs) ys each = let rest = parts_of_all P xs ys each.1 in ((each.0, rest.0), rest.1)

before_map : {A B : Type 0} (P : B → Type 0) (f : A → B) (items : List A) → Each P (map f items) → Each (λ item. P (f item)) items
before_map P f [] each = tt
before_map P f (item ∷ items) each = (each.0, before_map P f items each.1)

-- each type is valid for the end of all types
types_valid : (features : Features) (space : GroupedTypes) → AreTypesValid features space
    → All (IsTypeValid features space.types (length space.types)) space.types
types_valid features space valid i d inside =
    AreTypesOpen-at features (length space.types) space (AreTypesOpen-start features (length space.types) space (omega arith) valid) i
    (get_or space.types i d) (slice_get-get_or space.types i d inside)

-- the value types of types, tables and globals are valid
values_valid : (features : Features) (shape : Shape) → AreTypesValid features (space_of shape.groups)
    → All (λ (table : TableType). IsValTypeValid features (length (shape_types shape)) (Ref table.element_type)) (shape_spaces shape).tables
    → All (λ (global : GlobalType). IsValTypeValid features (length (shape_types shape)) global.val_type) (shape_spaces shape).globals
    → All (IsValTypeValid features (length (shape_types shape))) (shape_values shape)
values_valid features shape types tables globals =
    let P : ValType → Type 0 = IsValTypeValid features (length (shape_types shape)) in
    let of_types : List ValType = flat_map (λ (t : SubType). values_of t.composite_type.inner) (shape_types shape) in
    let of_tables : List ValType = map (λ (table : TableType). Ref table.element_type) (shape_spaces shape).tables in
    let of_globals : List ValType = map (λ (global : GlobalType). global.val_type) (shape_spaces shape).globals in
    All-append P of_types (of_tables ++ of_globals)
    (all_flat_map P (λ (t : SubType). values_of t.composite_type.inner) (shape_types shape)
    (recursion_from_All (λ (t : SubType). All P (values_of t.composite_type.inner)) (shape_types shape)
    (λ i d inside. (types_valid features (space_of shape.groups) types i d inside).values)))
    (All-append P of_tables of_globals
    (All-map P (λ (table : TableType). Ref table.element_type) (shape_spaces shape).tables tables)
    (All-map P (λ (global : GlobalType). global.val_type) (shape_spaces shape).globals globals))

-- tables and globals, if their value types have a property
entity_values : (P : ValType → Type 0) (shape : Shape) → All P (shape_values shape)
    → All (λ (table : TableType). P (Ref table.element_type)) (shape_spaces shape).tables × All (λ (global : GlobalType). P global.val_type)
    (shape_spaces shape).globals
entity_values P shape values =
    let of_types : List ValType = flat_map (λ (t : SubType). values_of t.composite_type.inner) (shape_types shape) in
    let of_table : TableType → ValType = λ table. Ref table.element_type in
    let of_global : GlobalType → ValType = λ global. global.val_type in
    let tables = (shape_spaces shape).tables in
    let globals = (shape_spaces shape).globals in
    let following = (parts_of_all P of_types (map of_table tables ++ map of_global globals)
    (recursion_from_All P (shape_values shape) values)).1 in
    let apart = parts_of_all P (map of_table tables) (map of_global globals) following in (
      All-from_recursion (λ (table : TableType). P (Ref table.element_type)) tables (before_map P of_table tables apart.0),
      All-from_recursion (λ (global : GlobalType). P global.val_type) globals (before_map P of_global globals apart.1),
    )

-- with every feature, any number of each is permitted
counts_on : (which : Which) (shape : Shape) → AreCountsFit which every_feature shape
counts_on AvailableImports shape = tt
counts_on Exports shape = record { tags = λ _. refl; several_tables = λ _. refl; several_memories = λ _. refl }
counts_on ModuleShape shape = record { tags = λ _. refl; several_tables = λ _. refl; several_memories = λ _. refl }

plain_kept : (which : Which) (config : Config) (shape : Shape) → ¬ HasShapeFault which config shape fault.NotPlain
    → ¬ ¬ (which ≡ Exports → IsPlain shape)
plain_kept AvailableImports config shape none = λ no. no (λ other. cc other)
plain_kept Exports config shape none = λ no. none (refl, λ plain. no (λ _. plain))
plain_kept ModuleShape config shape none = λ no. no (λ other. cc other)

module _ (which : Which) (config : Config) (shape : Shape) where
  abbrev features : Features
  features = features_of config

  abbrev types : List SubType
  types = shape_types shape

  abbrev spaces : EntitySpaces
  spaces = shape_spaces shape

  types_are_right : IsShapeValid which config shape → AreTypesRight shape
  types_are_right valid =
      let entities = valid.consistent.entities in
      record {
        types = types_right features (space_of shape.groups) valid.consistent.types;
        values = values_valid every_feature shape (types_right features (space_of shape.groups) valid.consistent.types)
            (All-weaker (IsTableValid features types) (λ (table : TableType). IsValTypeValid every_feature (length types)
            (Ref table.element_type))
            (λ table h. (refl, reference_right features (length types) table.element_type h.element)) spaces.tables entities.tables)
            (All-weaker (IsGlobalValid features types) (λ (global : GlobalType). IsValTypeValid every_feature (length types)
            global.val_type)
            (λ global h. value_right features (length types) global.val_type h.value) spaces.globals entities.globals);
        tables = All-weaker (IsTableValid features types) (λ (table : TableType). IsTrue table.shared
            → IsShareable types (Ref table.element_type)) (λ table h shared. (h.shared shared).1) spaces.tables entities.tables;
        globals = All-weaker (IsGlobalValid features types) (λ (global : GlobalType). IsTrue global.shared
            → IsShareable types global.val_type) (λ global h shared. (h.shared shared).1) spaces.globals entities.globals;
      }

  limits_are_right : IsShapeValid which config shape → AreLimitsRight shape
  limits_are_right valid =
      let entities = valid.consistent.entities in
      record {
        tables = All-weaker (IsTableValid features types) (λ (table : TableType). AreLimitsValid (most_elements table.table64) table.minimum
            table.maximum) (λ table h. h.limits) spaces.tables entities.tables;
        memories = All-weaker (IsMemoryValid features) (IsMemoryValid every_feature) (memory_right features) spaces.memories
            entities.memories;
        shallow = valid.consistent.shallow;
      }

  features_are_on : IsShapeValid which config shape → AreFeaturesOn which features shape
  features_are_on valid =
      let entities = valid.consistent.entities in
      record {
        types = valid.consistent.types;
        tables = entities.tables;
        memories = entities.memories;
        globals = entities.globals;
        counts = valid.counts;
      }

  -- a valid shape has no fault
  pub no_fault : IsShapeValid which config shape → (found : ShapeFault) → ¬ HasShapeFault which config shape found
  no_fault valid fault.TooLong = λ wrong. wrong valid.short
  no_fault valid fault.BadType = λ wrong. wrong (types_are_right valid)
  no_fault valid fault.Index =
      λ wrong. wrong (record {
        funcs = valid.consistent.entities.funcs;
        tags = valid.consistent.entities.tags;
        exports = valid.consistent.exports.stand;
      })
  no_fault valid fault.Limit = λ wrong. wrong (limits_are_right valid)
  no_fault valid fault.Feature = λ wrong. wrong.1 (features_are_on valid)
  no_fault valid fault.DuplicateExport = λ wrong. wrong valid.consistent.exports.distinct
  no_fault valid fault.NotPlain = λ wrong. wrong.1 (valid.plain wrong.0)
  no_fault valid fault.LeftOut = λ wrong. wrong valid.nothing_left_out

  -- enabling every feature suffices if types and limits are right
  pub would_do : AreTypesRight shape → AreLimitsRight shape → AreFeaturesOn which every_feature shape
  would_do right limits =
      let values = entity_values (IsValTypeValid every_feature (length types)) shape right.values in
      record {
        types = right.types;
        tables = λ i d inside.
            let element = values.0 i d inside in
            record {
              limits = limits.tables i d inside;
              element = element.1;
              element_enabled = λ _. refl;
              table64 = λ _. refl;
              shared = λ shared. (refl, right.tables i d inside shared);
            };
        memories = limits.memories;
        globals = λ i d inside. record { value = values.1 i d inside; shared = λ shared. (refl, right.globals i d inside shared) };
        counts = counts_on which shape;
      }

  -- a shape without a fault is not invalid
  pub not_invalid : ((found : ShapeFault) → ¬ HasShapeFault which config shape found) → ¬ ¬ IsShapeValid which config shape
  not_invalid none = λ invalid.
      none fault.TooLong (λ short.
      none fault.BadType (λ right.
      none fault.Index (λ indices.
      none fault.Limit (λ limits.
      none fault.Feature (
        would_do right limits,
        λ on.
            none fault.DuplicateExport (λ distinct.
            none fault.LeftOut (λ nothing_left_out.
            plain_kept which config shape (none fault.NotPlain) (λ plain.
            invalid (record {
              short = short;
              nothing_left_out = nothing_left_out;
              consistent = record {
                types = on.types;
                shallow = limits.shallow;
                entities = record {
                  tags = indices.tags;
                  funcs = indices.funcs;
                  tables = on.tables;
                  memories = on.memories;
                  globals = on.globals;
                };
                exports = record { stand = indices.exports; distinct = distinct };
              };
              counts = on.counts;
              plain = plain;
            })))),
      )))))
