-- More may be drawn over the first parts of a module, with types drawn after those of its shapes.
use Rattle.wasm_smith.proofs.Common.{[], All, All-contains, All-nil, All-weaker, all_kept, ap, AreShapesValid, AreTypesValid, arith, Config}
use Rattle.wasm_smith.proofs.Common.{Contains, Context, EntitySpaces, EntityType, Err, Error, ExportKind, Extends, false, features_of}
use Rattle.wasm_smith.proofs.Common.{FixesImports, GroupedTypes, HasGranted, HasGroundedElements, HasGroundedValue, HasNoFloat}
use Rattle.wasm_smith.proofs.Common.{HoldsNonNullable, HoldsUngroundedField, IfSome, inl, inr, IsContextGrown, length, List, max, None, Ok}
use Rattle.wasm_smith.proofs.Common.{OnOk, Option, refl, Result, rules, Shape, shape_spaces, shape_types, Some, space_of, spaces_in, subst}
use Rattle.wasm_smith.proofs.Common.{SubType, sym, ungrounded_before, ℕ, ◌≡◌, ◌≤◌}
use Rattle.smith_bytes.specs.declared.error.Which.TheVariants as which
use Rattle.smith_types.specs.Exports.{AreExportsValid, IsEntityAt}
use Rattle.smith_config.specs.Shapes.{most_listed}
use Rattle.smith_draw_types.specs.FuncSizes.{HasFewValues, IsSmall}
use Rattle.smith_config.specs.Granted.{AreTypesGranted}
use Rattle.smith_draw_types.specs.Grounding.{over}
use Rattle.smith_draw_types.proofs.FuncSizeLemmas.{shape_few}
use Rattle.wasm_smith.specs.FirstParts.{ModuleSoFar, HasNothing, AreFirstParts, AreFirstPartsByModule, AreFirstPartsByImports}
use Rattle.wasm_smith.specs.DrawnSteps.{AreTypesDrawn, HoldsGrounded, drawn_next}
use Rattle.wasm_smith.specs.declared.build.parts_so_far.PartsSoFar.{PartsSoFar}
use Rattle.wasm_smith.proofs.FirstPartsLemmas.{module_used, imports_used}
use Rattle.wasm_smith.proofs.FirstPartsStandLemmas.{first_parts_stand}
use Rattle.wasm_smith.proofs.GrownSizeLemmas.{stands_typed}
use Rattle.wasm_smith.proofs.GrantedLaterLemmas.{elements_later, globals_later}
use Rattle.wasm_smith.proofs.LackingLemmas.{shape_grounded}

-- properties of the types, the tables and the exports that a module begins with
record MayBegin (config : Config) (drawn : PartsSoFar) : Type 0 where
  few_values : All (HasFewValues most_listed) drawn.types.types
  grounded : (HoldsNonNullable config → ⊥) → HoldsGrounded config (drawn_next config drawn) (spaces_in drawn.imported.spaces)
  exports : AreExportsValid (spaces_in drawn.imported.spaces) drawn.contents.exports

no_exports : (spaces : EntitySpaces) → AreExportsValid spaces []
no_exports spaces = record {
  stand = All-nil (λ (one : List ℕ × ExportKind × ℕ). (ty : EntityType) × IsEntityAt spaces one.1 one.2 ty);
  distinct = record { once = λ i j item one other. absurd cc };
}

-- the references of a shape's types, tables and globals
of_shape : (config : Config) (functions : Context) (shape : Shape) (types : GroupedTypes) (spaces : EntitySpaces)
    → types ≡ space_of shape.groups → All (Contains (shape_spaces shape).tables) spaces.tables
    → All (Contains (shape_spaces shape).globals) spaces.globals
    → HoldsGrounded config (over functions (shape_types shape)) (shape_spaces shape) → HoldsGrounded config (over functions types.types)
    spaces
of_shape config functions shape types spaces same tables globals h =
    let Elements = HasGroundedElements config (over functions (shape_types shape)) in
    let Values = HasGroundedValue config (over functions (shape_types shape)) in
    rw same (record {
      fields = h.fields;
      types = h.types;
      element_types = All-weaker (Contains (shape_spaces shape).tables) Elements
          (λ table one. All-contains Elements (shape_spaces shape).tables table h.element_types one) spaces.tables tables;
      globals = All-weaker (Contains (shape_spaces shape).globals) Values (λ global one. All-contains Values (shape_spaces shape).globals
          global h.globals one) spaces.globals globals;
    })

by_module : (config : Config) (shape : Shape) (drawn : PartsSoFar) → config.module_shape ≡ Some shape → AreShapesValid config
    → AreFirstPartsByModule config shape drawn → MayBegin config drawn
by_module config shape drawn given valid first = record {
  few_values = rw first.types (shape_few shape (module_used config shape given valid).short);
  grounded = λ none. of_shape config (drawn_next config drawn) shape drawn.types (spaces_in drawn.imported.spaces) first.types first.tables
      first.globals (shape_grounded config (drawn_next config drawn) which.ModuleShape shape (rw given refl) none);
  exports = first.exports_valid;
}

by_imports : (config : Config) (shape : Shape) (bytes : List ℕ) (drawn : PartsSoFar) → config.module_shape ≡ None → config.available_imports
    ≡ Some shape → AreShapesValid config → AreFirstPartsByImports config shape bytes drawn → MayBegin config drawn
by_imports config shape bytes drawn none given valid first = record {
  few_values = rw first.types (shape_few shape (imports_used config shape none given valid).short);
  grounded = λ never. of_shape config (drawn_next config drawn) shape drawn.types (spaces_in drawn.imported.spaces) first.types first.tables
      first.globals (shape_grounded config (drawn_next config drawn) which.AvailableImports shape (rw (none, given) refl) never);
  exports = rw first.exports (no_exports (spaces_in drawn.imported.spaces));
}

freely : (config : Config) (drawn : PartsSoFar) → HasNothing drawn → MayBegin config drawn
freely config drawn nothing =
    let types : drawn.types.types ≡ [] = ap (λ (b : ModuleSoFar). b.types.types) nothing.so_far in
    let tables : drawn.imported.spaces.tables ≡ [] = ap (λ (b : ModuleSoFar). b.spaces.tables) nothing.so_far in
    let globals : drawn.imported.spaces.globals ≡ [] = ap (λ (b : ModuleSoFar). b.spaces.globals) nothing.so_far in
    let exports : drawn.contents.exports ≡ [] = ap (λ (b : ModuleSoFar). b.exports) nothing.so_far in
    let context = drawn_next config drawn in
    record {
      few_values = rw types (All-nil (HasFewValues most_listed));
      grounded = λ never. record {
        fields = rw types (λ h. absurd (omega (arith, h.2)));
        types = subst (All (HasGranted config context)) (sym types) (All-nil (HasGranted config context));
        element_types = rw tables (All-nil (HasGroundedElements config context));
        globals = rw globals (All-nil (HasGroundedValue config context));
      };
      exports = rw exports (no_exports (spaces_in drawn.imported.spaces));
    }

-- without these shapes none fixes imports
none_fixes : (config : Config) → config.module_shape ≡ None → config.available_imports ≡ None → FixesImports config → ⊥
none_fixes config none free (inl fixed) = let given = rw free at fixed in search rules
none_fixes config none free (inr fixed) = let given = rw none at fixed in search rules

by_shapes : (config : Config) (bytes : List ℕ) (drawn : PartsSoFar) (of_module available : Option Shape) → config.module_shape ≡ of_module
    → config.available_imports ≡ available → AreShapesValid config → AreFirstParts config bytes drawn → MayBegin config drawn
by_shapes config bytes drawn (Some shape) available given also valid first = by_module config shape drawn given valid
    (subst (λ (one : Option Shape). IfSome one (λ each. AreFirstPartsByModule config each drawn)) given first.by_module)
by_shapes config bytes drawn None (Some shape) none given valid first = by_imports config shape bytes drawn none given valid
    (subst (λ (one : Option Shape). IfSome one (λ each. AreFirstPartsByImports config each bytes drawn)) given first.by_imports)
by_shapes config bytes drawn None None none free valid first = freely config drawn (first.freely (none_fixes config none free))

-- types after those that a module begins with: the properties that drawing these types preserves
pub record AreTypesAfter (config : Config) (functions : Context) (old new : GroupedTypes) : Type 0 where
  valid : AreTypesValid (features_of config) new
  longer : Extends old.types new.types
  most : length new.types ≤ max config.max_types (length old.types)
  least : config.min_types ≤ length new.types
  floats : config.allow_floats ≡ false → All HasNoFloat old.types → All HasNoFloat new.types
  few_values : (most : ℕ) → 20 ≤ most → All (HasFewValues most) old.types → All (HasFewValues most) new.types
  grounded : ¬ HoldsUngroundedField config (over functions old.types) → ¬ HoldsUngroundedField config (over functions new.types)
  granted : AreTypesGranted config (over functions old.types) → AreTypesGranted config (over functions new.types)

-- grounded references stay grounded as types are added, and the references of the added types are
-- grounded
grounded_later : (config : Config) (functions : Context) (old new : GroupedTypes) (spaces : EntitySpaces)
    → AreTypesAfter config functions old new → HoldsGrounded config (over functions old.types) spaces
    → HoldsGrounded config (over functions new.types) spaces
grounded_later config functions old new spaces more h =
    let before = over functions old.types in
    let later = over functions new.types in
    let growth : IsContextGrown before later = record {
      features = refl;
      types = more.longer;
      funcs = all_kept functions.funcs;
      globals = all_kept functions.globals;
      imported_funcs = refl;
      imported_globals = refl;
      visible = omega arith;
    } in
    record {
      fields = more.grounded h.fields;
      types = more.granted h.types;
      element_types = elements_later config before later (ungrounded_before config before later growth) spaces.tables h.element_types;
      globals = globals_later config before later (ungrounded_before config before later growth) spaces.globals h.globals;
    }

-- more may be drawn over the first parts of a module after such types are added
types_drawn : (config : Config) (bytes : List ℕ) (drawn : PartsSoFar) (types : GroupedTypes) → AreShapesValid config
    → AreFirstParts config bytes drawn → AreTypesAfter config (drawn_next config drawn) drawn.types types
    → AreTypesDrawn config (record drawn { types = types })
types_drawn config bytes drawn types valid first more =
    let may = by_shapes config bytes drawn config.module_shape config.available_imports refl refl valid first in
    record {
      may = record {
        so_far = stands_typed config drawn types (first_parts_stand config bytes drawn first) more.valid more.longer more.most;
        few_values = more.few_values most_listed (omega arith) may.few_values;
        grounded = λ none. grounded_later config (drawn_next config drawn) drawn.types types (spaces_in drawn.imported.spaces) more
            (may.grounded none);
        exports = may.exports;
        least_types = more.least;
      };
      free = λ none. let nothing = first.freely none in record {
        imports = nothing.imports;
        nothing = ap (λ (b : ModuleSoFar). b.defined) nothing.so_far;
        small = more.few_values 20 (omega arith) (subst (λ (all : List SubType). All IsSmall all)
            (sym (ap (λ (b : ModuleSoFar). b.types.types) nothing.so_far)) (All-nil IsSmall));
      };
      floats = λ off none. let nothing = first.freely (none_fixes config none.module_shape none.available_imports) in
          more.floats off (subst (λ (all : List SubType). All HasNoFloat all) (sym (ap (λ (b : ModuleSoFar). b.types.types) nothing.so_far))
          (All-nil HasNoFloat));
    }

stays_within : (most old new : ℕ) → (old ≤ most → new ≤ most) → (most ≤ old → new ≡ old) → new ≤ max most old
stays_within most old new few full = grind arith

-- properties of drawn types, if drawing succeeds
module _ {X : Type 0} (config : Config) (functions : Context) (old new : GroupedTypes) where
  pub types_after : (result : Result X Error) → OnOk result (AreTypesValid (features_of config) new)
      → OnOk result (Extends old.types new.types)
      → (length old.types ≤ config.max_types → OnOk result (length new.types ≤ config.max_types))
      → (config.max_types ≤ length old.types → OnOk result (new ≡ old)) → OnOk result (config.min_types ≤ length new.types)
      → (config.allow_floats ≡ false → All HasNoFloat old.types → OnOk result (All HasNoFloat new.types))
      → ((most : ℕ) → 20 ≤ most → All (HasFewValues most) old.types → OnOk result (All (HasFewValues most) new.types))
      → (¬ HoldsUngroundedField config (over functions old.types) → OnOk result (¬ HoldsUngroundedField config (over functions new.types)))
      → (AreTypesGranted config (over functions old.types) → OnOk result (AreTypesGranted config (over functions new.types)))
      → OnOk result (AreTypesAfter config functions old new)
  types_after (Ok made) valid longer most full least floats few_values grounded granted =
      let same : config.max_types ≤ length old.types → length new.types ≡ length old.types =
      λ filled. ap (λ (space : GroupedTypes). length space.types) (full filled) in
      record {
        valid = valid;
        longer = longer;
        most = stays_within config.max_types (length old.types) (length new.types) most same;
        least = least;
        floats = floats;
        few_values = few_values;
        grounded = grounded;
        granted = granted;
      }
  types_after (Err e) valid longer most full least floats few_values grounded granted = tt

-- after drawn types, more may be drawn over the first parts of a module
pub drawn_after : {X : Type 0} (config : Config) (bytes : List ℕ) (drawn : PartsSoFar) (types : GroupedTypes) (result : Result X Error)
    → AreShapesValid config → AreFirstParts config bytes drawn
    → OnOk result (AreTypesAfter config (drawn_next config drawn) drawn.types types)
    → OnOk result (AreTypesDrawn config (record drawn { types = types }))
drawn_after config bytes drawn types (Ok made) valid first more = types_drawn config bytes drawn types valid first more
drawn_after config bytes drawn types (Err e) valid first more = tt
