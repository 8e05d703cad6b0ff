-- The state after the exports of a module are made: those of a module shape, those of a shape for
-- exports, or drawn ones.
use Rattle.wasm_smith.proofs.Common.{[], AddsLimitsOf, All, All-contains, all_kept, ap, AreShapesValid, AreSpacesGrown, arith, Config}
use Rattle.wasm_smith.proofs.Common.{Count, count_in, defined_end, Definitions, drawn_beside, Err, Error, Export, Exports, Extends, false}
use Rattle.wasm_smith.proofs.Common.{FixesExports, flattened, GroupedTypes, HasGranted, HasGroundedElements, HasGroundedValue}
use Rattle.wasm_smith.proofs.Common.{HoldsNonNullable, HoldsUngroundedField, IfErr, IfErr-weaker, IfSome, if◌then◌else◌, imported_spaces}
use Rattle.wasm_smith.proofs.Common.{inl, inr, is_memory, is_some, IsContextGrown, IsSanitized, IsShapeValid, IsSome, IsTrue}
use Rattle.wasm_smith.proofs.Common.{items_of_exports, length, List, MayRefuse, MayRefuseExports, None, Ok, Option, Passes, refl, Result}
use Rattle.wasm_smith.proofs.Common.{Returns, ReturnsWhy, Shape, shape_for, shape_spaces, shape_types, Some, spaces_in, StandsAfter, subst}
use Rattle.wasm_smith.proofs.Common.{SubType, sym, true, ungrounded_before, ℕ, ◌+◌, ◌<◌, ◌^◌, ◌∙◌, ◌≡◌, ◌≤◌, ◌⊎◌}
use Rattle.std.proofs.Common.{◌||◌}
use Rattle.std.specs.Prelude.{IfOk}
use Rattle.smith_bytes.specs.declared.error.Count.TheVariants as counts
use Rattle.smith_bytes.specs.declared.error.Error.TheVariants as errors
use Rattle.smith_bytes.specs.declared.error.Which.TheVariants as which
use Rattle.smith_bytes.specs.declared.error.Why.TheVariants.{SeveralMemories, SeveralTables}
use Rattle.smith_types.specs.declared.entity_spaces.EntitySpaces.{EntitySpaces as Held}
use Rattle.smith_types.proofs.EntityGrowthLemmas.{no_fewer}
use Rattle.smith_config.specs.Shapes.{most_listed}
use Rattle.smith_draw_types.specs.FuncSizes.{HasFewValues}
use Rattle.smith_module_rules.specs.ExportedItems.{exported_size}
use Rattle.smith_draw_contents.specs.AllExports.{exports_at}
use Rattle.smith_draw_contents.proofs.SizedLemmas.{few_sized}
use Rattle.wasm_smith.specs.FirstParts.{ModuleSoFar, IsOfEntities, StandsSoFar, module_so_far, size_of_imports}
use Rattle.wasm_smith.specs.Build.{exported_at, exported_for, exports_of, size_so_far}
use Rattle.wasm_smith.specs.Contents.{MayHoldContents}
use Rattle.wasm_smith.specs.DrawnSteps.{AreEntitiesDrawn, AreExportsDrawn, HoldsGrounded, IsBeyond, MayGoOn, drawn_next}
use Rattle.smith_draw_definitions.specs.Required.{AddsTypesOf, MayDefineMore, MayLackIn, MayRefuseRequired}
use Rattle.wasm_smith.specs.declared.build.parts_so_far.PartsSoFar.{PartsSoFar}
use Rattle.wasm_smith.proofs.ShapeItemLemmas.{few_items_of_export_shape, few_items_of_shapes}
use Rattle.smith_draw_definitions.proofs.DefinedGrowthLemmas.{stands_within}
use Rattle.wasm_smith.proofs.GrantedLaterLemmas.{elements_later, globals_later, types_later}
use Rattle.wasm_smith.proofs.LackingLemmas.{shape_granted}
use Rattle.wasm_smith.proofs.NonNullableLemmas.{holds_or_not}
use Rattle.wasm_smith.proofs.ReasonLemmas.{changed_in_full, exports_choose}
use Rattle.wasm_smith.proofs.StandsWholeLemmas.{either_kept, not_types, stands_required, stands_whole}

-- a shape for exports is used if there is no module shape
pub exports_used : (config : Config) (shape : Shape) → config.module_shape ≡ None → config.exports ≡ Some shape → AreShapesValid config
    → IsShapeValid which.Exports config shape
exports_used config shape none given valid =
    let used : shape_for config which.Exports ≡ Some shape = rw (none, given) refl in
    subst (λ (one : Option Shape). IfSome one (λ each. IsShapeValid which.Exports config each)) used (valid which.Exports)

-- without either no shape fixes the exports
pub exports_free : (config : Config) → config.module_shape ≡ None → config.exports ≡ None → FixesExports config → ⊥
exports_free config none free (inl given) = let never = subst (λ (one : Option Shape). IsSome one) free given in absurd cc
exports_free config none free (inr given) = let never = subst (λ (one : Option Shape). IsSome one) none given in absurd cc

-- an option without a value is none
pub none_given : {A : Type 0} (given : Option A) → is_some given ≡ false → given ≡ None
none_given None off = refl
none_given (Some one) off = absurd cc

-- if no exports are added, the state is whole
pub stands_already : (config : Config) (drawn : PartsSoFar) → AreEntitiesDrawn config drawn → AreExportsDrawn config drawn
stands_already config drawn now = record {
  whole = stands_whole config drawn now.may.so_far;
  few_values = now.may.few_values;
  grounded = now.may.grounded;
  least_types = now.may.least_types;
  least = now.least;
  small = now.small;
  floats = now.floats;
}

-- contents may be drawn over the parts with exports
pub may_hold_contents : (config : Config) (drawn : PartsSoFar) → Passes config → IsSanitized config → AreShapesValid config
    → AreExportsDrawn config drawn → MayHoldContents config drawn.types (spaces_in drawn.imported.spaces) drawn.imported.type_size
may_hold_contents config drawn passes sanitized valid now =
    let few : (count : Count) → IsOfEntities count → count_in (spaces_in drawn.imported.spaces) count < 2 ^ 32 =
    λ count is. omega (
      arith,
      now.whole.most count is,
      passes.few count,
      few_items_of_shapes config valid count,
      few_items_of_export_shape config valid count,
    ) in
    record {
      passes = passes;
      sanitized = sanitized;
      types = now.whole.stands.types;
      sized = few_sized drawn.types.types now.few_values;
      small = λ none. (now.small none).types;
      entities = now.whole.stands.entities;
      few = record {
        funcs = few counts.Funcs tt;
        tables = few counts.Tables tt;
        memories = few counts.Memories tt;
        globals = few counts.Globals tt;
        tags = few counts.Tags tt;
      };
      tables = now.least counts.Tables tt;
      memories = now.least counts.Memories tt;
      globals = now.least counts.Globals tt;
      within = now.whole.within;
      small_imports = λ none. (now.small none).imports;
    }

-- the exports of a shape add nothing to the type size
nothing_more : {A : Type 0} (size more : ℕ) (of_module exports : Option A) (one : A) → of_module ≡ None → exports ≡ Some one
    → size ≡ size + (if is_some of_module || is_some exports then 0 else more)
nothing_more size more of_module exports one none given = rw (none, given) (omega arith)

pub required_size : (config : Config) (shape : Shape) (so_far : ModuleSoFar) (type_size : ℕ) → config.module_shape ≡ None
    → config.exports ≡ Some shape → type_size ≡ size_of_imports config so_far.types.types (flattened so_far.groups)
    → ◌≡◌ {A = Exports} (record { exports = so_far.exports; type_size = type_size }) (exports_of config so_far)
required_size config shape so_far type_size none given is =
    let size = size_so_far config so_far in
    let whole : type_size ≡ size + (if is_some config.module_shape || is_some config.exports then 0 else exported_size so_far.types.types
    so_far.spaces so_far.exports) =
    is ∙ nothing_more size (exported_size so_far.types.types so_far.spaces so_far.exports) config.module_shape config.exports shape none
    given in
    ap (λ (n : ℕ). record { exports = so_far.exports; type_size = n }) whole

module _ (config : Config) (shape : Shape) (drawn : PartsSoFar) (passes : Passes config) (valid : AreShapesValid config)
    (one : IsShapeValid which.Exports config shape) (now : StandsSoFar config drawn) where
  room_for : (count : Count) → IsOfEntities count → count_in (spaces_in drawn.imported.spaces) count + length shape.exports < 2 ^ 32
  room_for count is = omega (arith, now.most count is, passes.few count, few_items_of_shapes config valid count, one.short.exports)

  -- the exports of a shape may be defined after the existing entities
  pub may_require : IsSanitized config → MayDefineMore config drawn.types (spaces_in drawn.imported.spaces) drawn.definitions
      (length shape.exports)
  may_require sanitized = record {
    sanitized = sanitized;
    valid = now.stands.types;
    entities = now.stands.entities;
    within = stands_within now.stands;
    room = record {
      tags = room_for counts.Tags tt;
      funcs = room_for counts.Funcs tt;
      tables = room_for counts.Tables tt;
      memories = room_for counts.Memories tt;
      globals = room_for counts.Globals tt;
    };
  }

  -- there is room for the types of these exports after the existing types
  pub types_room : length drawn.types.types + length shape.exports < 2 ^ 32
  types_room = omega (arith, now.most_types, passes.few counts.Types, few_items_of_shapes config valid counts.Types, one.short.exports)

module _ (config : Config) (shape : Shape) (drawn : PartsSoFar) (none : config.module_shape ≡ None) (given : config.exports ≡ Some shape)
    (may : MayGoOn config drawn) where
  lacks : MayLackIn config (drawn_next config drawn) shape → HoldsNonNullable config
  lacks (inl value) = (which.Exports, rw (none, given) value)
  lacks (inr field) = elim (holds_or_not config) [
    | inl holds ↦ holds
    | inr never ↦ absurd ((may.grounded never).fields field)
  ]

  lacks_so : (e : Error) → (e ≡ errors.Memory) ⊎ ((e ≡ errors.EmptyChoose) × MayLackIn config (drawn_next config drawn) shape)
      → MayRefuse config e
  lacks_so e (inl memory) = subst (MayRefuse config) (sym memory) tt
  lacks_so e (inr (empty, lacking)) = subst (MayRefuse config) (sym empty) (lacks lacking)

  -- the exports of a shape are refused only as a module may be
  pub required_refuses : (e : Error) → MayRefuseRequired config (drawn_next config drawn) shape e → MayRefuse config e
  required_refuses (errors.IncorrectFormat SeveralMemories) (some, few) = (inl (rw (none, given) some), few)
  required_refuses (errors.IncorrectFormat SeveralTables) (some, off) = (inl (rw (none, given) some), off)
  required_refuses e refused = lacks_so e refused

  required_grounded : (types : GroupedTypes) (spaces : Held) (defined : Definitions) → Extends drawn.types.types types.types
      → AreSpacesGrown (spaces_in drawn.imported.spaces) (spaces_in spaces)
      → (HoldsUngroundedField config (drawn_beside config types.types (spaces_in spaces) defined)
      → HoldsUngroundedField config (drawn_next config drawn)) → AddsTypesOf shape drawn.types.types types.types
      → AddsLimitsOf shape (spaces_in drawn.imported.spaces) (spaces_in spaces)
      → StandsAfter config (imported_spaces (flattened drawn.imported.groups)) types (spaces_in spaces) defined
      → (HoldsNonNullable config → ⊥) → HoldsGrounded config (drawn_beside config types.types (spaces_in spaces) defined)
      (spaces_in spaces)
  required_grounded types spaces defined longer grown lacking listed limits stands never =
      let old = drawn_next config drawn in
      let new = drawn_beside config types.types (spaces_in spaces) defined in
      let before = may.grounded never in
      let theirs = shape_granted config new which.Exports shape (rw (none, given) refl) never in
      let growth : IsContextGrown old new = record {
        features = refl;
        types = longer;
        funcs = grown.funcs;
        globals = all_kept [];
        imported_funcs = omega (arith, defined_end stands.funcs, defined_end may.so_far.stands.funcs);
        imported_globals = refl;
        visible = omega arith;
      } in
      let was = ungrounded_before config old new growth in
      let Types = HasGranted config new in
      let Elements = HasGroundedElements config new in
      let Values = HasGroundedValue config new in
      record {
        fields = λ field. before.fields (lacking field);
        types =
            either_kept Types drawn.types.types (shape_types shape) types.types
            (types_later config old new was drawn.types.types before.types)
            (λ t h. All-contains Types (shape_types shape) t theirs.of_types h) listed;
        element_types =
            either_kept Elements drawn.imported.spaces.tables (shape_spaces shape).tables spaces.tables
            (elements_later config old new was drawn.imported.spaces.tables before.element_types)
            (λ table h. All-contains Elements (shape_spaces shape).tables table theirs.element_types h) limits.tables;
        globals =
            either_kept Values drawn.imported.spaces.globals (shape_spaces shape).globals spaces.globals
            (globals_later config old new was drawn.imported.spaces.globals before.globals)
            (λ global h. All-contains Values (shape_spaces shape).globals global theirs.globals h) limits.globals;
      }

-- the exports of a shape are made after the existing entities
module _ (config : Config) (shape : Shape) (drawn : PartsSoFar) (types : GroupedTypes) (spaces : Held) (defined : Definitions)
    (none : config.module_shape ≡ None) (given : config.exports ≡ Some shape) where
  pub required_drawn : AreEntitiesDrawn config drawn → Extends drawn.types.types types.types
      → length types.types ≤ length drawn.types.types + items_of_exports counts.Types shape
      → (HoldsUngroundedField config (drawn_beside config types.types (spaces_in spaces) defined)
      → HoldsUngroundedField config (drawn_next config drawn)) → (All (HasFewValues most_listed) drawn.types.types
      → All (HasFewValues most_listed) types.types)
      → ((count : Count) → (count ≡ counts.Types → ⊥) → count_in (spaces_in spaces) count ≡ count_in (spaces_in drawn.imported.spaces) count
      + items_of_exports count shape)
      → AreSpacesGrown (spaces_in drawn.imported.spaces) (spaces_in spaces)
      → AddsTypesOf shape drawn.types.types types.types
      → AddsLimitsOf shape (spaces_in drawn.imported.spaces) (spaces_in spaces)
      → StandsAfter config (imported_spaces (flattened drawn.imported.groups)) types (spaces_in spaces) defined
      → AreExportsDrawn config (record drawn { types = types; imported = record drawn.imported { spaces = spaces }; definitions = defined })
  required_drawn now longer most lacking few counted grown listed limits stands = record {
    whole = stands_required config shape drawn types spaces defined none given now.may.so_far longer most counted limits stands;
    few_values = few now.may.few_values;
    grounded = required_grounded config shape drawn none given now.may types spaces defined longer grown lacking listed limits stands;
    least_types = let before = now.may.least_types in let fewer = no_fewer drawn.types.types longer.more in
        let end = ap (λ (all : List SubType). length all) longer.parts in omega (arith, before, fewer, end);
    least = λ count is. let before = now.least count is in let here = counted count (not_types count is) in omega (arith, before, here);
    small = λ without. let shapeless = without.exports in absurd cc;
    floats = λ off without. let shapeless = without.exports in absurd cc;
  }

  pub required_beyond : (exports : List Export) → Extends drawn.types.types types.types → Extends drawn.types.groups types.groups
      → AreSpacesGrown (spaces_in drawn.imported.spaces) (spaces_in spaces)
      → IsBeyond config (module_so_far drawn) (record {
        types = types;
        groups = drawn.imported.groups;
        spaces = spaces_in spaces;
        defined = defined;
        exports = exports;
      })
  required_beyond exports longer groups grown = record {
    types = longer;
    groups = groups;
    imports = λ fixes. refl;
    spaces = grown;
    exports = λ shaped. let never : false ≡ true = rw none at shaped in absurd cc;
  }

-- nothing is added if the exports were made before
pub exports_beyond : (config : Config) (drawn : PartsSoFar) (exports : List Export)
    → (IsTrue (is_some config.module_shape) → exports ≡ drawn.contents.exports) → IsBeyond config (module_so_far drawn)
    (record (module_so_far drawn) { exports = exports })
exports_beyond config drawn exports same =
    let spaces = spaces_in drawn.imported.spaces in
    record {
      types = all_kept drawn.types.types;
      groups = all_kept drawn.types.groups;
      imports = λ fixes. refl;
      spaces = record {
        tags = all_kept spaces.tags;
        funcs = all_kept spaces.funcs;
        tables = all_kept spaces.tables;
        memories = all_kept spaces.memories;
        globals = all_kept spaces.globals;
      };
      exports = same;
    }

pub nothing_beyond : (config : Config) (drawn : PartsSoFar) (exports : List Export) → exports ≡ drawn.contents.exports
    → IsBeyond config (module_so_far drawn) (record (module_so_far drawn) { exports = exports })
nothing_beyond config drawn exports same = exports_beyond config drawn exports (λ shaped. same)

-- drawn exports change nothing else
pub drawn_beyond : (config : Config) (drawn : PartsSoFar) (made : Result Exports Error) → config.module_shape ≡ None
    → IfOk made (λ made. IsBeyond config (module_so_far drawn) (record (module_so_far drawn) { exports = made.exports }))
drawn_beyond config drawn (Ok made) none = exports_beyond config drawn made.exports
    (λ shaped. let never = subst (λ (one : Option Shape). IsTrue (is_some one)) none shaped in absurd cc)
drawn_beyond config drawn (Err e) none = tt

-- the exports of a module are drawn if no shape fixes them
pub freely_exported : (config : Config) (so_far : ModuleSoFar) (bytes : List ℕ) → config.module_shape ≡ None → config.exports ≡ None
    → exported_at config so_far bytes ≡ exported_for config None None so_far bytes
unfolding exported_at
freely_exported config so_far bytes none free =
    ap (λ (given : Option Shape). exported_for config given config.exports so_far bytes) none
    ∙ ap (λ (given : Option Shape). exported_for config None given so_far bytes) free

-- the parts with drawn exports are those that the bytes produce, or the refusal is theirs
pub exports_read : (config : Config) (drawn : PartsSoFar) (bytes left : List ℕ) (result : Result Exports Error) → config.module_shape ≡ None
    → config.exports ≡ None → StandsSoFar config drawn
    → ReturnsWhy (λ made. (made.exports, left)) result (exports_at config drawn.types.types (spaces_in drawn.imported.spaces)
    drawn.imported.type_size bytes) → IfErr result (MayRefuseExports config)
    → Returns is_memory (λ made. (record (module_so_far drawn) { exports = made.exports }, left)) result
    (exported_at config (module_so_far drawn) bytes)
exports_read config drawn bytes left result none free now given may =
    let read = λ (size : ℕ). exports_at config drawn.types.types (spaces_in drawn.imported.spaces) size bytes in
    let size = size_so_far config (module_so_far drawn) in
    let sized : ReturnsWhy (λ made. (made.exports, left)) result (read size) =
    subst (λ (n : ℕ). ReturnsWhy (λ made. (made.exports, left)) result (read n)) now.type_size given in
    let with_exports = λ (exports : List Export). record (module_so_far drawn) { exports = exports } in
    subst (λ (whole : Result (ModuleSoFar × List ℕ) Error). Returns is_memory (λ made. (with_exports made.exports, left)) result whole)
    (sym (freely_exported config (module_so_far drawn) bytes none free))
    (changed_in_full with_exports (λ made. made.exports) left result (read size) sized
    (IfErr-weaker result _ _ (λ e. exports_choose config e) may))
