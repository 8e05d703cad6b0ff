-- The sizes of imports, and the properties of the state, stay the same as types are added after the
-- existing ones.
use Rattle.wasm_smith.proofs.Common.{[], All, ap, AreTypesValid, arith, Config, EntityType, Extends, features_of, flattened, GroupedTypes}
use Rattle.wasm_smith.proofs.Common.{if◌then◌else◌, Import, imported_spaces, is_some, IsFuncTypeIndex, length, List, max, Option, refl}
use Rattle.wasm_smith.proofs.Common.{slice_get, spaces_in, SubType, suc, sum_by, sym, zero, ℕ, ◌++◌, ◌+◌, ◌<◌, ◌∙◌, ◌∷◌, ◌≡◌, ◌≤◌}
use Rattle.std.specs.Prelude.{option_map, unwrap_or}
use Rattle.std.proofs.lemmas.List.Elements.{All-head}
use Rattle.std.proofs.lemmas.List.Sums.{sum_by-cons}
use Rattle.std.proofs.lemmas.Option.{slice_get_within}
use Rattle.smith_types.specs.Imports.{func_of, imported}
use Rattle.smith_types.specs.Sizes.{IsTyped, size_in, value_count}
use Rattle.smith_types.specs.Syntax.entity_type.EntityType.TheVariants as entity
use Rattle.smith_validity.proofs.HeldValueLemmas.{all_apart}
use Rattle.wasm_smith.specs.FirstParts.{StandsSoFar, size_of_imports}
use Rattle.wasm_smith.specs.declared.build.parts_so_far.PartsSoFar.{PartsSoFar}
use Rattle.smith_draw_definitions.proofs.StandsAfterLemmas.{stands_over}

same_place : {A : Type 0} (xs more : List A) (i : ℕ) → i < length xs → slice_get (xs ++ more) i ≡ slice_get xs i
same_place [] more i inside = absurd (omega arith)
same_place (x ∷ xs) more zero inside = refl
same_place (x ∷ xs) more (suc i) inside = same_place xs more i (omega (arith, inside))

abbrev size_of_found : Option SubType → ℕ
size_of_found found = 1 + unwrap_or (option_map (λ (t : SubType). value_count t.composite_type.inner) found) 0

-- an entity whose type exists keeps its size
pub size_grown : (types more : List SubType) (one : EntityType) → Extends types more → IsTyped types one
    → size_in more one ≡ size_in types one
size_grown types more (entity.Func index) longer typed = ap (λ (all : List SubType). size_of_found (slice_get all index)) longer.parts
    ∙ ap size_of_found (same_place types longer.more index typed)
size_grown types more (entity.Tag index) longer typed = refl
size_grown types more (entity.Table table) longer typed = refl
size_grown types more (entity.Memory memory) longer typed = refl
size_grown types more (entity.Global global) longer typed = refl

-- valid imports have existing types
typed_by : (types : List SubType) (one : EntityType) → All (IsFuncTypeIndex types) (func_of one) → IsTyped types one
typed_by types (entity.Func index) valid = let (function, (t, at, is)) = All-head (IsFuncTypeIndex types) index [] valid in
    slice_get_within types index t at
typed_by types (entity.Tag index) valid = tt
typed_by types (entity.Table table) valid = tt
typed_by types (entity.Memory memory) valid = tt
typed_by types (entity.Global global) valid = tt

-- imports together keep any count of their sizes
sizes_grown : (count : ℕ → ℕ) (types more : List SubType) (imports : List Import) → Extends types more
    → All (IsFuncTypeIndex types) (imported func_of imports)
    → sum_by (λ (one : Import). count (size_in more one.entity_type)) imports
    ≡ sum_by (λ (one : Import). count (size_in types one.entity_type)) imports
sizes_grown count types more [] longer valid = refl
sizes_grown count types more (one ∷ imports) longer valid =
    let both = all_apart (IsFuncTypeIndex types) (func_of one.entity_type) (imported func_of imports) valid in
    let here = ap count (size_grown types more one.entity_type longer (typed_by types one.entity_type both.0)) in
    let rest = sizes_grown count types more imports longer both.1 in
    let new = sum_by-cons (λ (each : Import). count (size_in more each.entity_type)) one imports in
    let old = sum_by-cons (λ (each : Import). count (size_in types each.entity_type)) one imports in
    omega (arith, here, rest, new, old)

-- the amount that imports add to the type size stays the same
pub imports_grown : (config : Config) (types more : List SubType) (imports : List Import) → Extends types more
    → All (IsFuncTypeIndex types) (imported func_of imports) → size_of_imports config more imports ≡ size_of_imports config types imports
imports_grown config types more imports longer valid =
    let plain = sizes_grown (λ n. n) types more imports longer valid in
    let one_more = sizes_grown (λ n. n + 1) types more imports longer valid in
    λ i. if is_some config.module_shape then 0 else if is_some config.available_imports then plain i else one_more i

-- with more types at the end, the parts stay valid and within the bounds
pub stands_typed : (config : Config) (drawn : PartsSoFar) (types : GroupedTypes) → StandsSoFar config drawn
    → AreTypesValid (features_of config) types → Extends drawn.types.types types.types → length types.types ≤ max config.max_types
    (length drawn.types.types) → StandsSoFar config (record drawn { types = types })
stands_typed config drawn types now valid longer few =
    let spaces = spaces_in drawn.imported.spaces in
    let all = imported_spaces (flattened drawn.imported.groups) in
    let funcs : All (IsFuncTypeIndex drawn.types.types) (all.funcs ++ now.stands.funcs.defined) =
    rw now.stands.funcs.parts at now.stands.entities.funcs in
    record {
      groups = now.groups;
      count = now.count;
      stands = stands_over config all drawn.types types spaces drawn.definitions now.stands valid longer;
      most = now.most;
      most_types = let before = now.most_types in omega (arith, before, few);
      most_imports = now.most_imports;
      tables = now.tables;
      memories = now.memories;
      type_size = now.type_size ∙ sym (imports_grown config drawn.types.types types.types (flattened drawn.imported.groups) longer
          (all_apart (IsFuncTypeIndex drawn.types.types) all.funcs now.stands.funcs.defined funcs).0);
      within = now.within;
    }
