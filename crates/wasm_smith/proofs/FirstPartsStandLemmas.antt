-- The parts of a module after it begins with its shapes are valid, and no more than these and the
-- configuration allow.
use Rattle.wasm_smith.proofs.Common.{[], All, All-nil, All-weaker, ap, AreNumbersWithin, arith, Config, Contains, Contains-append_left}
use Rattle.wasm_smith.proofs.Common.{Count, count_in, EntitySpaces, features_of, flattened, GroupedTypes, IfSome, Import, imported_spaces}
use Rattle.wasm_smith.proofs.Common.{inl, inr, IsFuncTypeIndex, IsSome, items_of_module_shape, items_of_shapes, length, List, maximum_of}
use Rattle.wasm_smith.proofs.Common.{None, Option, refl, Shape, shape_spaces, Some, spaces_in, subst, sym, ℕ, ◌∙◌, ◌≡◌, ◌≤◌}
use Rattle.smith_bytes.specs.declared.error.Count.TheVariants as counts
use Rattle.smith_types.specs.Entities.{AreCountsEnabled, AreEntitiesValid, IsMemoryValid, IsTableValid, IsTagValid}
use Rattle.smith_types.specs.Entities.{IsGlobalValid}
use Rattle.smith_types.specs.Imports.{IsImportsValid}
use Rattle.smith_types.proofs.ValidityLemmas.{no_types}
use Rattle.wasm_smith.specs.FirstParts.{ModuleSoFar, HasNothing, AreFirstParts, AreFirstPartsByModule, AreFirstPartsByImports, IsOfEntities}
use Rattle.wasm_smith.specs.FirstParts.{IsTableKept, IsMemoryKept, StandsSoFar}
use Rattle.smith_module_rules.specs.Bounds.{items_of_available_imports}
use Rattle.wasm_smith.specs.declared.build.parts_so_far.PartsSoFar.{PartsSoFar}
use Rattle.wasm_smith.proofs.FirstPartsLemmas.{stands_alone}

-- a module shape is the only shape in use, and adds its items
module_brings : (config : Config) (shape : Shape) (count : Count) → config.module_shape ≡ Some shape → items_of_shapes config count
    ≡ items_of_module_shape count shape
module_brings config shape count given = rw given (omega arith)

imports_bring : (config : Config) (shape : Shape) (count : Count) → config.module_shape ≡ None → config.available_imports ≡ Some shape
    → items_of_shapes config count ≡ items_of_available_imports count shape
imports_bring config shape count none given = rw (none, given) (omega arith)

module_entities : (shape : Shape) (spaces : EntitySpaces) → ((count : Count) → (count ≡ counts.Types → ⊥) → (count ≡ counts.Imports → ⊥)
    → count_in spaces count ≡ items_of_module_shape count shape) → (count : Count) → IsOfEntities count
    → count_in spaces count ≡ items_of_module_shape count shape
module_entities shape spaces counted counts.Tags is = counted counts.Tags (λ e. cc) (λ e. cc)
module_entities shape spaces counted counts.Funcs is = counted counts.Funcs (λ e. cc) (λ e. cc)
module_entities shape spaces counted counts.Tables is = counted counts.Tables (λ e. cc) (λ e. cc)
module_entities shape spaces counted counts.Memories is = counted counts.Memories (λ e. cc) (λ e. cc)
module_entities shape spaces counted counts.Globals is = counted counts.Globals (λ e. cc) (λ e. cc)
module_entities shape spaces counted _ is = absurd is

module _ (config : Config) (shape : Shape) (drawn : PartsSoFar) where
  by_module : config.module_shape ≡ Some shape → AreFirstPartsByModule config shape drawn → StandsSoFar config drawn
  by_module given first = record {
    groups = first.valid;
    count = first.count ∙ sym (ap (λ (imports : List Import). length imports) first.flat);
    stands = rw first.flat first.stands;
    most = λ count is. let brings = module_brings config shape count given in
        let here = module_entities shape (spaces_in drawn.imported.spaces) first.counted count is in omega (arith, brings, here);
    most_types = let brings = module_brings config shape counts.Types given in let here = ap (λ (space : GroupedTypes). length space.types)
        first.types in omega (arith, brings, here);
    most_imports = let brings = module_brings config shape counts.Imports given in
        let here = ap (λ (imports : List Import). length imports) first.flat in omega (arith, brings, here);
    tables = All-weaker (Contains (shape_spaces shape).tables) (IsTableKept config) (λ table h. inl (rw given h))
        drawn.imported.spaces.tables first.tables;
    memories = All-weaker (Contains (shape_spaces shape).memories) (IsMemoryKept config) (λ memory h. inl (rw given h))
        drawn.imported.spaces.memories first.memories;
    type_size = rw given first.type_size;
    within = omega (arith, first.type_size);
  }

-- of each kind there are no more than allowed
pub taken_most : (config : Config) (imports : List Import) (spaces : EntitySpaces) → AreNumbersWithin config (imported_spaces imports)
    → spaces ≡ imported_spaces imports → (count : Count) → IsOfEntities count → count_in spaces count ≤ maximum_of config count
taken_most config imports spaces within are counts.Tags is = rw are within.tags
taken_most config imports spaces within are counts.Funcs is = rw are within.funcs
taken_most config imports spaces within are counts.Tables is = rw are within.tables
taken_most config imports spaces within are counts.Memories is = rw are within.memories
taken_most config imports spaces within are counts.Globals is = rw are within.globals
taken_most config imports spaces within are _ is = absurd is

module _ (config : Config) (shape : Shape) (bytes : List ℕ) (drawn : PartsSoFar) where
  by_imports : config.module_shape ≡ None → config.available_imports ≡ Some shape → AreFirstPartsByImports config shape bytes drawn
      → StandsSoFar config drawn
  by_imports none given first = record {
    groups = first.valid;
    count = first.count;
    stands = first.stands;
    most = λ count is. let here = taken_most config (flattened drawn.imported.groups) (spaces_in drawn.imported.spaces) first.within.numbers
        first.spaces count is in omega (arith, here);
    most_types = let brings = imports_bring config shape counts.Types none given in
        let here = ap (λ (space : GroupedTypes). length space.types) first.types in omega (arith, brings, here);
    most_imports = let here = first.within.most in omega (arith, here);
    tables = All-weaker (Contains (shape_spaces shape).tables) (IsTableKept config)
        (λ table h. inl (rw (none, given) (Contains-append_left (shape_spaces shape).tables _ table h))) drawn.imported.spaces.tables
        first.tables;
    memories = All-weaker (Contains (shape_spaces shape).memories) (IsMemoryKept config)
        (λ memory h. inl (rw (none, given) (Contains-append_left (shape_spaces shape).memories _ memory h))) drawn.imported.spaces.memories
        first.memories;
    type_size = rw (none, given, first.types) first.type_size;
    within = let here = first.within.type_size in let is = first.type_size in omega (arith, here, is);
  }

no_entities : (config : Config) → AreEntitiesValid (features_of config) [] (imported_spaces [])
no_entities config = record {
  tags = All-nil (IsTagValid []);
  funcs = All-nil (IsFuncTypeIndex []);
  tables = All-nil (IsTableValid (features_of config) []);
  memories = All-nil (IsMemoryValid (features_of config));
  globals = All-nil (IsGlobalValid (features_of config) []);
}

none_counted : (config : Config) → AreCountsEnabled (features_of config) (imported_spaces [])
none_counted config = record {
  tags = λ some. absurd (omega (arith, some));
  several_tables = λ some. absurd (omega (arith, some));
  several_memories = λ some. absurd (omega (arith, some));
}

nothing_in : (count : Count) → IsOfEntities count → count_in (imported_spaces []) count ≡ 0
nothing_in counts.Tags is = refl
nothing_in counts.Funcs is = refl
nothing_in counts.Tables is = refl
nothing_in counts.Memories is = refl
nothing_in counts.Globals is = refl
nothing_in _ is = absurd is

-- nothing exists yet
freely : (config : Config) (drawn : PartsSoFar) → config.module_shape ≡ None → config.available_imports ≡ None → HasNothing drawn
    → StandsSoFar config drawn
freely config drawn none free first =
    let groups : drawn.imported.groups ≡ [] = ap (λ (b : ModuleSoFar). b.groups) first.so_far in
    let spaces : spaces_in drawn.imported.spaces ≡ imported_spaces [] = ap (λ (b : ModuleSoFar). b.spaces) first.so_far in
    let types : drawn.types ≡ record { types = []; groups = [] } = ap (λ (b : ModuleSoFar). b.types) first.so_far in
    let defined = ap (λ (b : ModuleSoFar). b.defined) first.so_far in
    record {
      groups = rw groups (All-nil (IsImportsValid (features_of config)));
      count = rw groups first.imports.count;
      stands = rw (groups, spaces, types, defined) (stands_alone config (record { types = []; groups = [] }) (imported_spaces [])
          (no_types (features_of config)) (no_entities config) (none_counted config));
      most = λ count is. let none_there = nothing_in count is in let here = ap (λ (all : EntitySpaces). count_in all count) spaces in
          omega (arith, here, none_there);
      most_types = let here = ap (λ (space : GroupedTypes). length space.types) types in omega (arith, here);
      most_imports = rw groups (omega arith);
      tables = subst (λ (all : EntitySpaces). All (IsTableKept config) all.tables) (sym spaces) (All-nil (IsTableKept config));
      memories = subst (λ (all : EntitySpaces). All (IsMemoryKept config) all.memories) (sym spaces) (All-nil (IsMemoryKept config));
      type_size = rw (none, free, groups) first.imports.type_size;
      within = omega (arith, first.imports.type_size);
    }

by_shapes : (config : Config) (bytes : List ℕ) (drawn : PartsSoFar) (of_module available : Option Shape) → config.module_shape ≡ of_module
    → config.available_imports ≡ available → AreFirstParts config bytes drawn → StandsSoFar config drawn
by_shapes config bytes drawn (Some shape) available given also first =
    by_module config shape drawn given (subst (λ (one : Option Shape). IfSome one (λ each. AreFirstPartsByModule config each drawn)) given
    first.by_module)
by_shapes config bytes drawn None (Some shape) none given first = by_imports config shape bytes drawn none given
    (subst (λ (one : Option Shape). IfSome one (λ each. AreFirstPartsByImports config each bytes drawn)) given first.by_imports)
by_shapes config bytes drawn None None none free first = freely config drawn none free (first.freely (λ fixes. elim fixes [
  | inl available ↦ let none_given = subst (λ (one : Option Shape). IsSome one) free available in absurd cc
  | inr of_module ↦ let none_given = subst (λ (one : Option Shape). IsSome one) none of_module in absurd cc
]))

-- whichever shapes a module begins with, its parts are valid and within the bounds
pub first_parts_stand : (config : Config) (bytes : List ℕ) (drawn : PartsSoFar) → AreFirstParts config bytes drawn
    → StandsSoFar config drawn
first_parts_stand config bytes drawn first = by_shapes config bytes drawn config.module_shape config.available_imports refl refl first
