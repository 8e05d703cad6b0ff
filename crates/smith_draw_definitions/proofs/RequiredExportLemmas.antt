-- An export of a shape, of an entity that is defined for it, after the existing entities.
use Rattle.smith_draw_definitions.proofs.Common.{[], All, All-cons, All-nil, All-push, ap, AreEntitiesValid, AreTypesValid, arith, Bool}
use Rattle.smith_draw_definitions.proofs.Common.{Config, Count, EntitySpaces, EntityType, Error, Export, Extends, false, Features}
use Rattle.smith_draw_definitions.proofs.Common.{features_of, get_or_from_slice_get, GlobalType, GroupedTypes, inl, inr, IsContextGrown}
use Rattle.smith_draw_definitions.proofs.Common.{IsFuncTypeIndex, IsGlobalValid, IsMemoryValid, IsTableValid, IsTagValid, IsTrue, length}
use Rattle.smith_draw_definitions.proofs.Common.{length-append, List, map, MemoryType, None, Option, Ref, refl, SeveralMemories}
use Rattle.smith_draw_definitions.proofs.Common.{SeveralTables, Shape, shape_spaces, shape_types, slice_get, slice_get-grown}
use Rattle.smith_draw_definitions.proofs.Common.{slice_get-last, slice_get-push, slice_get_within, Some, subst, SubType, suc, sym}
use Rattle.smith_draw_definitions.proofs.Common.{TableType, true, ValType, with_entity, zero, ℕ, ◌++◌, ◌+◌, ◌-◌, ◌<◌, ◌∙◌, ◌∷◌, ◌≡◌, ◌≤◌}
use Rattle.smith_draw_definitions.proofs.Common.{◌⊎◌}
use Rattle.std.specs.Prelude.{option_map}
use Rattle.std.specs.List.{Any, flat_map}
use Rattle.std.proofs.lemmas.Option.{slice_get-get_or}
use Rattle.smith_bytes.specs.declared.error.Count.TheVariants as counts
use Rattle.smith_bytes.specs.declared.error.Error.TheVariants as errors
use Rattle.smith_types.specs.Exports.{IsEntityAt, entity_kind}
use Rattle.smith_types.specs.Expressions.{field_values}
use Rattle.smith_types.specs.HeldValues.{values_in}
use Rattle.smith_types.specs.Imports.{entity_spaces, tag_of}
use Rattle.smith_types.specs.Types.{next_group}
use Rattle.smith_types.specs.ValidTypes.{values_of}
use Rattle.smith_types.specs.Syntax.composite_type.CompositeInnerType.TheVariants.{Func}
use Rattle.smith_types.specs.Syntax.composite_type.FuncType.{FuncType}
use Rattle.smith_types.specs.Syntax.entity_type.EntityType.TheVariants as entity
use Rattle.smith_types.specs.Syntax.entity_type.ExportKind.{ExportKind}
use Rattle.smith_types.specs.Syntax.entity_type.ExportKind.TheVariants as kind
use Rattle.smith_config.specs.Shapes.{ArePlain, IsTypePlain, most_listed, shape_values, space_of}
use Rattle.smith_config.specs.Granted.{IsNonNullable, IsUngrounded}
use Rattle.smith_draw_types.specs.HeldFields.{HoldsUngroundedField}
use Rattle.smith_draw_types.specs.HeldFields.{fields_of}
use Rattle.smith_draw_types.specs.FuncSizes.{HasFewValues}
use Rattle.smith_draw_types.proofs.FuncSizeLemmas.{shape_few}
use Rattle.smith_module_rules.specs.Bounds.{counts_as}
use Rattle.smith_module_rules.specs.ShapeImports.{count_in}
use Rattle.smith_draw_definitions.proofs.RequiredLimitLemmas.{limits_more, no_types, type_more}
use Rattle.smith_draw_types.proofs.FilledLemmas.{any_weaker, fields_before, later_ungrounded}
use Rattle.smith_draw_definitions.specs.Defined.{AreWithin, HasRoom, drawn_beside}
use Rattle.smith_draw_definitions.specs.Required.{
  AddsTypesOf,
  MayDefineMore,
  HasNoSupertypes,
  IsKeptType,
  IsDefinedMore,
  IsInitialised,
  IsNeverNull,
  MayRequire,
  IsRequiredMore,
  MayRefuseInitial,
  MayRefuseEntity,
  MayRefuseExported,
}
use Rattle.smith_draw_definitions.specs.RequiredExports.{entity_of, next_index, with_table, with_global, types_over, entity_over}
use Rattle.smith_draw_definitions.specs.RequiredExports.{with_own_group}
use Rattle.smith_module_rules.specs.ShapesKept.{IsSameFuncType, IsSameType}
use Rattle.smith_draw_definitions.specs.declared.definitions.Definitions.{Definitions}
use Rattle.smith_draw_definitions.proofs.ExtensionLemmas.{all_kept}
use Rattle.smith_draw_definitions.proofs.GroupedTypeLemmas.{past_first}
use Rattle.smith_draw_definitions.proofs.PlainEntityLemmas.{all_at, table_over, global_over, types_over_valid}
use Rattle.smith_draw_definitions.proofs.StandsAfterLemmas.{one_more, spaces_grown, entities_more, entities_longer, stands_more}

made_some : {A B : Type 0} (f : A → B) (found : Option A) (y : B) → option_map f found ≡ Some y → (x : A) × (found ≡ Some x) × (y ≡ f x)
made_some f (Some x) y is = (x, refl, cc)
made_some f None y is = absurd cc

-- the entity that is found exists
pub entity_stands : (spaces : EntitySpaces) (of_kind : ExportKind) (index : ℕ) (one : EntityType) → entity_of spaces of_kind index
    ≡ Some one → IsEntityAt spaces of_kind index one
entity_stands spaces kind.Func index one is = made_some entity.Func (slice_get spaces.funcs index) one is
entity_stands spaces kind.Table index one is = made_some entity.Table (slice_get spaces.tables index) one is
entity_stands spaces kind.Memory index one is = made_some entity.Memory (slice_get spaces.memories index) one is
entity_stands spaces kind.Global index one is = made_some entity.Global (slice_get spaces.globals index) one is
entity_stands spaces kind.Tag index one is = made_some entity.Tag (slice_get spaces.tags index) one is

-- an entity by itself is valid
module _ (features : Features) (types : List SubType) where
  tag_alone : (index : ℕ) → IsTagValid types index → AreEntitiesValid features types (entity_spaces (entity.Tag index))
  tag_alone index h = record {
    tags = All-cons (IsTagValid types) index [] h (All-nil (IsTagValid types));
    funcs = All-nil (IsFuncTypeIndex types);
    tables = All-nil (IsTableValid features types);
    memories = All-nil (IsMemoryValid features);
    globals = All-nil (IsGlobalValid features types);
  }

  func_alone : (index : ℕ) → IsFuncTypeIndex types index → AreEntitiesValid features types (entity_spaces (entity.Func index))
  func_alone index h = record {
    tags = All-nil (IsTagValid types);
    funcs = All-cons (IsFuncTypeIndex types) index [] h (All-nil (IsFuncTypeIndex types));
    tables = All-nil (IsTableValid features types);
    memories = All-nil (IsMemoryValid features);
    globals = All-nil (IsGlobalValid features types);
  }

  table_alone : (table : TableType) → IsTableValid features types table
      → AreEntitiesValid features types (entity_spaces (entity.Table table))
  table_alone table h = record {
    tags = All-nil (IsTagValid types);
    funcs = All-nil (IsFuncTypeIndex types);
    tables = All-cons (IsTableValid features types) table [] h (All-nil (IsTableValid features types));
    memories = All-nil (IsMemoryValid features);
    globals = All-nil (IsGlobalValid features types);
  }

  memory_alone : (memory : MemoryType) → IsMemoryValid features memory
      → AreEntitiesValid features types (entity_spaces (entity.Memory memory))
  memory_alone memory h = record {
    tags = All-nil (IsTagValid types);
    funcs = All-nil (IsFuncTypeIndex types);
    tables = All-nil (IsTableValid features types);
    memories = All-cons (IsMemoryValid features) memory [] h (All-nil (IsMemoryValid features));
    globals = All-nil (IsGlobalValid features types);
  }

  global_alone : (global : GlobalType) → IsGlobalValid features types global
      → AreEntitiesValid features types (entity_spaces (entity.Global global))
  global_alone global h = record {
    tags = All-nil (IsTagValid types);
    funcs = All-nil (IsFuncTypeIndex types);
    tables = All-nil (IsTableValid features types);
    memories = All-nil (IsMemoryValid features);
    globals = All-cons (IsGlobalValid features types) global [] h (All-nil (IsGlobalValid features types));
  }

  one_alone : (spaces : EntitySpaces) (of_kind : ExportKind) (index : ℕ) (one : EntityType) → AreEntitiesValid features types spaces
      → IsEntityAt spaces of_kind index one → AreEntitiesValid features types (entity_spaces one)
  one_alone spaces kind.Func index one h (func, at, is) =
      rw is (func_alone func (all_at (IsFuncTypeIndex types) spaces.funcs index func h.funcs at))
  one_alone spaces kind.Table index one h (table, at, is) =
      rw is (table_alone table (all_at (IsTableValid features types) spaces.tables index table h.tables at))
  one_alone spaces kind.Memory index one h (memory, at, is) =
      rw is (memory_alone memory (all_at (IsMemoryValid features) spaces.memories index memory h.memories at))
  one_alone spaces kind.Global index one h (global, at, is) =
      rw is (global_alone global (all_at (IsGlobalValid features types) spaces.globals index global h.globals at))
  one_alone spaces kind.Tag index one h (tag, at, is) = rw is (tag_alone tag (all_at (IsTagValid types) spaces.tags index tag h.tags at))

-- a function type has no field that holds a reference
no_field : (config : Config) (types : List SubType) (t : SubType) (function : FuncType) → t.composite_type.inner ≡ Func function
    → (spaces : EntitySpaces) (defined : Definitions)
    → HoldsUngroundedField config (drawn_beside config (types ++ t ∷ []) spaces defined)
    → HoldsUngroundedField config (drawn_beside config types spaces defined)
no_field config types t function is spaces defined (k, one, below, at, holds) =
    let before = drawn_beside config types spaces defined in
    let Later = IsUngrounded config (drawn_beside config (types ++ t ∷ []) spaces defined) in
    let found : slice_get (types ++ t ∷ []) k ≡ Some one = slice_get-get_or (types ++ t ∷ []) k one below
    ∙ ap (λ (each : SubType). Some each) at in
    elim (slice_get-push types t k one found) [
      | inl was ↦ (
        k,
        one,
        slice_get_within types k one was,
        get_or_from_slice_get types k one one was,
        any_weaker Later (IsUngrounded config before) (later_ungrounded config before types (t ∷ []))
            (field_values (fields_of one.composite_type.inner)) holds,
      )
      | inr (last, same) ↦
          let none : Any Later (field_values (fields_of (Func function))) = subst (λ inner. Any Later (field_values (fields_of inner))) is
          (subst (λ (each : SubType). Any Later (field_values (fields_of each.composite_type.inner))) (sym same) holds) in
          let (place, value, inside, at, strict) = none in
          absurd (omega (arith, inside))
    ]

-- the number of imported functions stays the same with one more defined entity
pub still_imported : (config : Config) (types : List SubType) (spaces later : EntitySpaces) (defined fuller : Definitions)
    (added : EntityType) → later ≡ with_entity spaces added → IsInitialised config types spaces defined fuller added
    → length later.funcs - fuller.num_funcs ≡ length spaces.funcs - defined.num_funcs
still_imported config types spaces later defined fuller (entity.Func index) more is =
    let longer = length-append spaces.funcs (index ∷ []) in
    rw (more, is) (omega (arith, longer))
still_imported config types spaces later defined fuller (entity.Tag index) more is = rw (more, is) refl
still_imported config types spaces later defined fuller (entity.Memory memory) more is = rw (more, is) refl
still_imported config types spaces later defined fuller (entity.Table table) more (given, is, initialised) = rw (more, is) refl
still_imported config types spaces later defined fuller (entity.Global global) more (given, is, initialised) = rw (more, is) refl

-- if all references are grounded, so are those with one more entity
lacking_before : (config : Config) (types : List SubType) (spaces later : EntitySpaces) (defined fuller : Definitions) (added : EntityType)
    → IsDefinedMore config types spaces defined later fuller added
    → HoldsUngroundedField config (drawn_beside config types later fuller)
    → HoldsUngroundedField config (drawn_beside config types spaces defined)
lacking_before config types spaces later defined fuller added more =
    let funcs : Extends spaces.funcs later.funcs = rw more.spaces_are (spaces_grown spaces added).funcs in
    let growth : IsContextGrown (drawn_beside config types spaces defined) (drawn_beside config types later fuller) = record {
      features = refl;
      types = all_kept types;
      funcs = funcs;
      globals = all_kept [];
      imported_funcs = still_imported config types spaces later defined fuller added more.spaces_are more.initialised;
      imported_globals = refl;
      visible = omega arith;
    } in
    fields_before config (drawn_beside config types spaces defined) (drawn_beside config types later fuller) growth refl

-- types and an entity of a shape over the existing ones
pub record IsOver (own_types : Bool) (config : Config) (shape : Shape) (space types : GroupedTypes) (of_kind : ExportKind)
    (theirs added : EntityType) : Type 0 where
  pub valid : AreTypesValid (features_of config) types
  pub grown : Extends space.types types.types
  pub groups : Extends space.groups types.groups
  pub most : length types.types ≤ length space.types + 1
  pub counted : length types.types ≤ length space.types + counts_as counts.Types of_kind
  pub entity : AreEntitiesValid (features_of config) types.types (entity_spaces added)
  pub enabled : 0 < length (tag_of added) → IsTrue config.exceptions_enabled
  pub unchanged : own_types ≡ false → types ≡ space
  pub lacking : (spaces : EntitySpaces) (defined : Definitions)
      → HoldsUngroundedField config (drawn_beside config types.types spaces defined)
      → HoldsUngroundedField config (drawn_beside config space.types spaces defined)
  pub types_of : AddsTypesOf shape space.types types.types
  pub few_values : All (HasFewValues most_listed) space.types → All (HasFewValues most_listed) types.types
  pub same : IsKeptType own_types types.types (shape_types shape) added theirs
  pub kind : entity_kind added ≡ of_kind

kind_is : (spaces : EntitySpaces) (of_kind : ExportKind) (index : ℕ) (one : EntityType) → IsEntityAt spaces of_kind index one
    → entity_kind one ≡ of_kind
kind_is spaces kind.Func index one (func, at, is) = rw is refl
kind_is spaces kind.Table index one (table, at, is) = rw is refl
kind_is spaces kind.Memory index one (memory, at, is) = rw is refl
kind_is spaces kind.Global index one (global, at, is) = rw is refl
kind_is spaces kind.Tag index one (tag, at, is) = rw is refl

some_tag : (spaces : EntitySpaces) (of_kind : ExportKind) (index : ℕ) (one : EntityType) → IsEntityAt spaces of_kind index one
    → 0 < length (tag_of one) → 0 < length spaces.tags
some_tag spaces kind.Func index one (func, at, is) some = absurd (let none : 0 < 0 = rw is at some in omega arith)
some_tag spaces kind.Table index one (table, at, is) some = absurd (let none : 0 < 0 = rw is at some in omega arith)
some_tag spaces kind.Memory index one (memory, at, is) some = absurd (let none : 0 < 0 = rw is at some in omega arith)
some_tag spaces kind.Global index one (global, at, is) some = absurd (let none : 0 < 0 = rw is at some in omega arith)
some_tag spaces kind.Tag index one (tag, at, is) some = let inside = slice_get_within spaces.tags index tag at in omega (arith, inside)

-- if the shape's types exist already, its entities are unchanged
standing_over : (config : Config) (shape : Shape) (space : GroupedTypes) (of_kind : ExportKind) (index : ℕ) (theirs : EntityType)
    → MayRequire false config shape space → AreTypesValid (features_of config) space
    → IsEntityAt (shape_spaces shape) of_kind index theirs → IsOver false config shape space space of_kind theirs theirs
standing_over config shape space of_kind index theirs may valid at = record {
  valid = valid;
  grown = all_kept space.types;
  groups = all_kept space.groups;
  most = omega arith;
  counted = omega arith;
  entity = entities_longer (shape_types shape) space.types (entity_spaces theirs) (may.present refl)
      (one_alone (features_of config) (shape_types shape) (shape_spaces shape) of_kind index theirs may.valid.consistent.entities at);
  enabled = λ some. may.valid.counts.tags (some_tag (shape_spaces shape) of_kind index theirs at some);
  unchanged = λ off. refl;
  lacking = λ spaces defined holds. holds;
  types_of = no_types shape space.types;
  few_values = λ few. few;
  same = refl;
  kind = kind_is (shape_spaces shape) of_kind index theirs at;
}

-- if a function or a tag has its own type, that is the one more type, and is the same
module _ (config : Config) (shape : Shape) (space : GroupedTypes) (may : MayRequire true config shape space)
    (valid : AreTypesValid (features_of config) space) where
  abbrev features : Features
  features = features_of config

  plain : ArePlain (shape_types shape) (shape_spaces shape)
  plain = may.valid.plain refl

  module _ (other : ℕ) (t : SubType) (function : FuncType) (at : slice_get (shape_types shape) other ≡ Some t)
      (inner : t.composite_type.inner ≡ Func function) where
    own_types_valid : AreTypesValid features (with_own_group space (Some t))
    own_types_valid = types_over_valid features (space_of shape.groups) (shape_spaces shape) plain may.valid.nothing_left_out space other t
        at may.valid.consistent.types valid

    own_stands : slice_get (space.types ++ t ∷ []) (length space.types) ≡ Some t
    own_stands = slice_get-last space.types t

    own_same : IsSameFuncType (space.types ++ t ∷ []) (shape_types shape) (length space.types) other
    own_same =
        let one = all_at IsTypePlain (shape_types shape) other t plain.types at in
        record { mine = t; yours = t; stands = own_stands; stood = at; final = one.final; root = one.root; same = refl }

    own_most : length (space.types ++ t ∷ []) ≤ length space.types + 1
    own_most = let longer = length-append space.types (t ∷ []) in omega (arith, longer)

    own_few : All (HasFewValues most_listed) space.types → All (HasFewValues most_listed) (space.types ++ t ∷ [])
    own_few few = All-push (HasFewValues most_listed) space.types t few (all_at (HasFewValues most_listed) (shape_types shape) other t
        (shape_few shape may.valid.short) at)

    own_func : IsOver true config shape space (with_own_group space (Some t)) kind.Func (entity.Func other)
        (entity.Func (length space.types))
    own_func = record {
      valid = own_types_valid;
      grown = one_more space.types t;
      groups = one_more space.groups (next_group (space.types ++ t ∷ []) space.groups);
      most = own_most;
      counted = own_most;
      entity = func_alone features (space.types ++ t ∷ []) (length space.types) (function, (t, own_stands, inner));
      enabled = λ some. absurd (let none : 0 < 0 = some in omega arith);
      unchanged = λ off. absurd cc;
      lacking = no_field config space.types t function inner;
      types_of = type_more shape space.types other t at;
      few_values = own_few;
      same = own_same;
      kind = refl;
    }

    own_tag : function.results ≡ [] → 0 < length (shape_spaces shape).tags → IsOver true config shape space (with_own_group space (Some t))
        kind.Tag (entity.Tag other) (entity.Tag (length space.types))
    own_tag none some = record {
      valid = own_types_valid;
      grown = one_more space.types t;
      groups = one_more space.groups (next_group (space.types ++ t ∷ []) space.groups);
      most = own_most;
      counted = own_most;
      entity = tag_alone features (space.types ++ t ∷ []) (length space.types) (function, (t, own_stands, inner), none);
      enabled = λ one. may.valid.counts.tags some;
      unchanged = λ off. absurd cc;
      lacking = no_field config space.types t function inner;
      types_of = type_more shape space.types other t at;
      few_values = own_few;
      same = own_same;
      kind = refl;
    }

  -- other entities are unchanged
  as_it_is : (of_kind : ExportKind) (theirs : EntityType) → AreEntitiesValid features space.types (entity_spaces theirs)
      → (0 < length (tag_of theirs) → ⊥) → IsSameType space.types (shape_types shape) theirs theirs → entity_kind theirs ≡ of_kind
      → IsOver true config shape space space of_kind theirs theirs
  as_it_is of_kind theirs fits no_tag same kind = record {
    valid = valid;
    grown = all_kept space.types;
    groups = all_kept space.groups;
    most = omega arith;
    counted = omega arith;
    entity = fits;
    enabled = λ some. absurd (no_tag some);
    unchanged = λ off. refl;
    lacking = λ spaces defined holds. holds;
    types_of = no_types shape space.types;
    few_values = λ few. few;
    same = same;
    kind = kind;
  }

  own_over : (of_kind : ExportKind) (index : ℕ) (theirs : EntityType) → IsEntityAt (shape_spaces shape) of_kind index theirs
      → IsOver true config shape space (types_over true (shape_types shape) space theirs) of_kind theirs (entity_over true space theirs)
  own_over kind.Func index theirs (other, at, is) =
      let (function, (t, stood, inner)) = all_at (IsFuncTypeIndex (shape_types shape)) (shape_spaces shape).funcs index other
      may.valid.consistent.entities.funcs at in
      rw (is, stood) (own_func other t function stood inner)
  own_over kind.Tag index theirs (other, at, is) =
      let (function, (t, stood, inner), none) = all_at (IsTagValid (shape_types shape)) (shape_spaces shape).tags index other
      may.valid.consistent.entities.tags at in
      let inside = slice_get_within (shape_spaces shape).tags index other at in
      rw (is, stood) (own_tag other t function stood inner none (omega (arith, inside)))
  own_over kind.Table index theirs (table, at, is) =
      let h = all_at (IsTableValid features (shape_types shape)) (shape_spaces shape).tables index table
      may.valid.consistent.entities.tables at in
      let moved = table_over features (space_of shape.groups) (shape_spaces shape) plain may.valid.nothing_left_out space.types index table
      at h in
      rw is (as_it_is kind.Table (entity.Table table) (table_alone features space.types table moved) (λ some. omega arith) refl refl)
  own_over kind.Memory index theirs (memory, at, is) =
      let h = all_at (IsMemoryValid features) (shape_spaces shape).memories index memory may.valid.consistent.entities.memories at in
      rw is (as_it_is kind.Memory (entity.Memory memory) (memory_alone features space.types memory h) (λ some. omega arith) refl refl)
  own_over kind.Global index theirs (global, at, is) =
      let h = all_at (IsGlobalValid features (shape_types shape)) (shape_spaces shape).globals index global
      may.valid.consistent.entities.globals at in
      let moved = global_over features (space_of shape.groups) (shape_spaces shape) plain may.valid.nothing_left_out space.types index
      global at h in
      rw is (as_it_is kind.Global (entity.Global global) (global_alone features space.types global moved) (λ some. omega arith) refl refl)

-- the types and the entity for an entity of a shape are valid, and the same
over : (own_types : Bool) (config : Config) (shape : Shape) (space : GroupedTypes) (of_kind : ExportKind) (index : ℕ) (theirs : EntityType)
    → MayRequire own_types config shape space → AreTypesValid (features_of config) space
    → IsEntityAt (shape_spaces shape) of_kind index theirs → IsOver own_types config shape space
    (types_over own_types (shape_types shape) space theirs) of_kind theirs (entity_over own_types space theirs)
over true config shape space of_kind index theirs may valid at = own_over config shape space may valid of_kind index theirs at
over false config shape space of_kind index theirs may valid at = standing_over config shape space of_kind index theirs may valid at

pub is_over : (own_types : Bool) (config : Config) (shape : Shape) (space types : GroupedTypes) (of_kind : ExportKind) (index : ℕ)
    (theirs added : EntityType) → MayRequire own_types config shape space → AreTypesValid (features_of config) space
    → entity_of (shape_spaces shape) of_kind index ≡ Some theirs → types ≡ types_over own_types (shape_types shape) space theirs
    → added ≡ entity_over own_types space theirs → IsOver own_types config shape space types of_kind theirs added
is_over own_types config shape space types of_kind index theirs added may valid found types_are added_is =
    rw (types_are, added_is) (over own_types config shape space of_kind index theirs may valid
    (entity_stands (shape_spaces shape) of_kind index theirs found))

-- no type of a plain shape has a supertype
pub no_supertypes : (own_types : Bool) (config : Config) (shape : Shape) (space : GroupedTypes) → MayRequire own_types config shape space
    → own_types ≡ true → HasNoSupertypes (shape_types shape)
no_supertypes true config shape space may own =
    λ index t at. (all_at IsTypePlain (shape_types shape) index t (may.valid.plain refl).types at).root
no_supertypes false config shape space may own = absurd cc

-- a defined entity has the next index of its kind
pub stands_last : (spaces : EntitySpaces) (of_kind : ExportKind) (added : EntityType) → entity_kind added ≡ of_kind
    → IsEntityAt (with_entity spaces added) of_kind (next_index spaces of_kind) added
stands_last spaces kind.Func (entity.Func index) is = (index, slice_get-last spaces.funcs index, refl)
stands_last spaces kind.Table (entity.Table table) is = (table, slice_get-last spaces.tables table, refl)
stands_last spaces kind.Memory (entity.Memory memory) is = (memory, slice_get-last spaces.memories memory, refl)
stands_last spaces kind.Global (entity.Global global) is = (global, slice_get-last spaces.globals global, refl)
stands_last spaces kind.Tag (entity.Tag index) is = (index, slice_get-last spaces.tags index, refl)
stands_last spaces of_kind added is = absurd cc

-- more may be defined after one more entity
module _ (config : Config) (space types : GroupedTypes) (spaces : EntitySpaces) (defined : Definitions)
    (grown : Extends space.types types.types) (valid : AreTypesValid (features_of config) types) where
  module _ (added : EntityType) (one : AreEntitiesValid (features_of config) types.types (entity_spaces added)) (more : ℕ)
      (may : MayDefineMore config space spaces defined (more + 1)) where
    may_with : (fuller : Definitions) → AreWithin (with_entity spaces added) fuller → HasRoom (with_entity spaces added) more
        → MayDefineMore config types (with_entity spaces added) fuller more
    may_with fuller within room = record {
      sanitized = may.sanitized;
      valid = valid;
      entities = entities_more (features_of config) types.types spaces added
          (entities_longer space.types types.types spaces grown may.entities) one;
      within = within;
      room = room;
    }

  pub may_more : (added : EntityType) (later : EntitySpaces) (fuller : Definitions) → AreEntitiesValid (features_of config) types.types
      (entity_spaces added) → IsDefinedMore config types.types spaces defined later fuller added
      → (more : ℕ) → MayDefineMore config space spaces defined (more + 1) → MayDefineMore config types later fuller more
  may_more (entity.Tag index) later fuller one made more may =
      let longer = length-append spaces.tags (index ∷ []) in
      let within = may.within in
      let room = may.room in
      rw (made.spaces_are, made.initialised) (may_with (entity.Tag index) one more may (record defined { num_tags = defined.num_tags + 1 })
      (record { tags = omega (arith, longer, within.tags); funcs = within.funcs; memories = within.memories; globals = within.globals })
      (record {
        tags = omega (arith, longer, room.tags);
        funcs = omega (arith, room.funcs);
        tables = omega (arith, room.tables);
        memories = omega (arith, room.memories);
        globals = omega (arith, room.globals);
      }))
  may_more (entity.Func index) later fuller one made more may =
      let longer = length-append spaces.funcs (index ∷ []) in
      let within = may.within in
      let room = may.room in
      rw (made.spaces_are, made.initialised)
      (may_with (entity.Func index) one more may (record defined { num_funcs = defined.num_funcs + 1 })
      (record { tags = within.tags; funcs = omega (arith, longer, within.funcs); memories = within.memories; globals = within.globals })
      (record {
        tags = omega (arith, room.tags);
        funcs = omega (arith, longer, room.funcs);
        tables = omega (arith, room.tables);
        memories = omega (arith, room.memories);
        globals = omega (arith, room.globals);
      }))
  may_more (entity.Memory memory) later fuller one made more may =
      let longer = length-append spaces.memories (memory ∷ []) in
      let within = may.within in
      let room = may.room in
      rw (made.spaces_are, made.initialised)
      (may_with (entity.Memory memory) one more may (record defined { num_memories = defined.num_memories + 1 })
      (record { tags = within.tags; funcs = within.funcs; memories = omega (arith, longer, within.memories); globals = within.globals })
      (record {
        tags = omega (arith, room.tags);
        funcs = omega (arith, room.funcs);
        tables = omega (arith, room.tables);
        memories = omega (arith, longer, room.memories);
        globals = omega (arith, room.globals);
      }))
  may_more (entity.Table table) later fuller one made more may =
      let (given, is, initialised) = made.initialised in
      let longer = length-append spaces.tables (table ∷ []) in
      let room = may.room in
      rw (made.spaces_are, is) (may_with (entity.Table table) one more may (with_table defined given)
      (record { tags = may.within.tags; funcs = may.within.funcs; memories = may.within.memories; globals = may.within.globals })
      (record {
        tags = omega (arith, room.tags);
        funcs = omega (arith, room.funcs);
        tables = omega (arith, longer, room.tables);
        memories = omega (arith, room.memories);
        globals = omega (arith, room.globals);
      }))
  may_more (entity.Global global) later fuller one made more may =
      let (given, is, initialised) = made.initialised in
      let longer = length-append spaces.globals (global ∷ []) in
      let deeper = length-append defined.globals ((length spaces.globals, given) ∷ []) in
      let within = may.within in
      let room = may.room in
      rw (made.spaces_are, is) (may_with (entity.Global global) one more may (with_global defined (length spaces.globals) given)
      (record {
        tags = within.tags;
        funcs = within.funcs;
        memories = within.memories;
        globals = omega (arith, longer, deeper, within.globals);
      })
      (record {
        tags = omega (arith, room.tags);
        funcs = omega (arith, room.funcs);
        tables = omega (arith, room.tables);
        memories = omega (arith, room.memories);
        globals = omega (arith, longer, room.globals);
      }))

-- an entity counts as one of its kind
counted_more : (spaces : EntitySpaces) (added : EntityType) (count : Count) → (count ≡ counts.Types → ⊥)
    → count_in (with_entity spaces added) count ≡ count_in spaces count + counts_as count (entity_kind added)
counted_more spaces (entity.Tag index) counts.Types other = absurd (other refl)
counted_more spaces (entity.Tag index) counts.Tags other = length-append spaces.tags (index ∷ [])
counted_more spaces (entity.Tag index) count other = omega arith
counted_more spaces (entity.Func index) counts.Types other = absurd (other refl)
counted_more spaces (entity.Func index) counts.Funcs other = length-append spaces.funcs (index ∷ [])
counted_more spaces (entity.Func index) count other = omega arith
counted_more spaces (entity.Table table) counts.Types other = absurd (other refl)
counted_more spaces (entity.Table table) counts.Tables other = length-append spaces.tables (table ∷ [])
counted_more spaces (entity.Table table) count other = omega arith
counted_more spaces (entity.Memory memory) counts.Types other = absurd (other refl)
counted_more spaces (entity.Memory memory) counts.Memories other = length-append spaces.memories (memory ∷ [])
counted_more spaces (entity.Memory memory) count other = omega arith
counted_more spaces (entity.Global global) counts.Types other = absurd (other refl)
counted_more spaces (entity.Global global) counts.Globals other = length-append spaces.globals (global ∷ [])
counted_more spaces (entity.Global global) count other = omega arith

-- the properties kept by one more export of a shape
pub required_more : {own_types : Bool} {config : Config} {shape : Shape} {space types : GroupedTypes} {spaces later : EntitySpaces}
    {defined fuller : Definitions} {theirs added : EntityType} (one made : Export)
    → entity_of (shape_spaces shape) one.1 one.2 ≡ Some theirs → IsOver own_types config shape space types one.1 theirs added
    → IsDefinedMore config types.types spaces defined later fuller added
    → made.0 ≡ one.0 → made.1 ≡ one.1 → made.2 ≡ next_index spaces one.1 → IsRequiredMore own_types config shape space spaces defined types
    later fuller one made
required_more {own_types = own_types} {config = config} {shape = shape} {space = space} {types = types} {spaces = spaces} {later = later}
    {defined = defined} {fuller = fuller} {theirs = theirs} {added = added} one made found over more name of_kind index = record {
      same = record {
        name = name;
        kind = of_kind;
        mine = added;
        yours = theirs;
        mine_is = rw (of_kind, index, more.spaces_are) (stands_last spaces one.1 added over.kind);
        yours_is = entity_stands (shape_spaces shape) one.1 one.2 theirs found;
        same = over.same;
      };
      types_grown = over.grown;
      groups_grown = over.groups;
      types_most = over.most;
      spaces_grown = rw more.spaces_are (spaces_grown spaces added);
      counted = λ count other. ap (λ (all : EntitySpaces). count_in all count) more.spaces_are
          ∙ (counted_more spaces added count other ∙ ap (λ (of_one : ExportKind). count_in spaces count + counts_as count of_one)
          over.kind);
      types_counted = over.counted;
      limits = rw more.spaces_are (limits_more own_types types.types shape spaces one.2 theirs added over.same
          (rw over.kind (entity_stands (shape_spaces shape) one.1 one.2 theirs found)));
      unchanged = over.unchanged;
      lacking = λ holds. over.lacking spaces defined (lacking_before config types.types spaces later defined fuller added more holds);
      types_of = over.types_of;
      few_values = over.few_values;
      may = may_more config space types spaces defined over.grown over.valid added later fuller over.entity more;
      stands = λ imported now. stands_more config imported space types spaces defined now over.valid over.grown added later fuller
          over.entity
          over.enabled more;
    }

-- a reference that an entity of a shape holds is among those of the shape
mapped : {A B : Type 0} (f : A → B) (xs : List A) (i : ℕ) (x : A) → slice_get xs i ≡ Some x → slice_get (map f xs) i ≡ Some (f x)
mapped f [] i x at = absurd cc
mapped f (y ∷ xs) zero x at = ap (option_map f) at
mapped f (y ∷ xs) (suc i) x at = mapped f xs i x at

found_further : {A : Type 0} (xs ys : List A) (i : ℕ) (x : A) → slice_get ys i ≡ Some x → slice_get (xs ++ ys) (length xs + i) ≡ Some x
found_further xs ys i x at = let same : length xs + i - length xs ≡ i = omega arith in past_first xs ys (length xs + i) (omega arith)
    ∙ (ap (λ (n : ℕ). slice_get ys n) same ∙ at)

module _ (types : List SubType) (spaces : EntitySpaces) where
  abbrev of_types : List ValType
  of_types = flat_map (λ (t : SubType). values_of t.composite_type.inner) types

  abbrev of_tables : List ValType
  of_tables = map (λ (table : TableType). Ref table.element_type) spaces.tables

  abbrev of_globals : List ValType
  of_globals = map (λ (global : GlobalType). global.val_type) spaces.globals

  any_at : (i : ℕ) (value : ValType) → slice_get (values_in types spaces) i ≡ Some value → IsNonNullable value
      → Any IsNonNullable (values_in types spaces)
  any_at i value at strict = (
    i,
    value,
    slice_get_within (values_in types spaces) i value at,
    get_or_from_slice_get (values_in types spaces)
        i value value at,
    strict,
  )

  held : (of_kind : ExportKind) (index : ℕ) (one : EntityType) → IsEntityAt spaces of_kind index one → IsNeverNull one
      → Any IsNonNullable (values_in types spaces)
  held kind.Func index one (func, at, is) strict = absurd (subst IsNeverNull is strict)
  held kind.Tag index one (tag, at, is) strict = absurd (subst IsNeverNull is strict)
  held kind.Memory index one (memory, at, is) strict = absurd (subst IsNeverNull is strict)
  held kind.Table index one (table, at, is) strict =
      let value = Ref table.element_type in
      any_at (length of_types + index) value
      (found_further of_types (of_tables ++ of_globals) index value (slice_get-grown of_tables of_globals index value
      (mapped (λ (each : TableType). Ref each.element_type) spaces.tables index table at))) (subst IsNeverNull is strict)
  held kind.Global index one (global, at, is) strict =
      any_at (length of_types + (length of_tables + index)) global.val_type
      (found_further of_types (of_tables ++ of_globals) (length of_tables + index) global.val_type
      (found_further of_tables of_globals index global.val_type (mapped (λ (each : GlobalType). each.val_type) spaces.globals index global
      at))) (subst IsNeverNull is strict)

never_null : (own_types : Bool) (space : GroupedTypes) (theirs : EntityType) → IsNeverNull (entity_over own_types space theirs)
    → IsNeverNull theirs
never_null false space theirs strict = strict
never_null true space (entity.Table table) strict = strict
never_null true space (entity.Global global) strict = strict
never_null true space (entity.Memory memory) strict = strict
never_null true space (entity.Func index) strict = strict
never_null true space (entity.Tag index) strict = strict

-- the reason why an export is refused if its entity is
module _ (own_types : Bool) (config : Config) (shape : Shape) (space types : GroupedTypes) (spaces : EntitySpaces) (defined : Definitions)
    (one : Export) (theirs added : EntityType) (found : entity_of (shape_spaces shape) one.1 one.2 ≡ Some theirs)
    (is : added ≡ entity_over own_types space theirs) (over : IsOver own_types config shape space types one.1 theirs added) where
  initial_refused : (e : Error) → MayRefuseInitial config (drawn_beside config types.types spaces defined) added e
      → (e ≡ errors.Memory)
      ⊎ ((e ≡ errors.EmptyChoose)
      × (Any IsNonNullable (shape_values shape) ⊎ HoldsUngroundedField config (drawn_beside config space.types spaces defined)))
  initial_refused e (inl memory) = inl memory
  initial_refused e (inr (empty, inl strict)) =
      inr (
        empty,
        inl (held (shape_types shape) (shape_spaces shape) one.1 one.2 theirs
            (entity_stands (shape_spaces shape) one.1 one.2 theirs found)
            (never_null own_types space theirs (subst IsNeverNull is strict))),
      )
  initial_refused e (inr (empty, inr holds)) = inr (empty, inr (over.lacking spaces defined holds))

  pub export_refused : (e : Error) → MayRefuseEntity config (drawn_beside config types.types spaces defined) added e
      → MayRefuseExported config (drawn_beside config space.types spaces defined) shape one e
  export_refused (errors.IncorrectFormat SeveralMemories) (counted, few) = (rw over.kind at counted, few)
  export_refused (errors.IncorrectFormat SeveralTables) (counted, few) = (rw over.kind at counted, few)
  export_refused e refused = initial_refused e refused
