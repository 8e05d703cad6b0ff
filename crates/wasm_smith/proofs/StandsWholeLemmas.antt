-- The parts after the exports of a shape are made are valid, and no more than shapes and
-- configuration allow.
use Rattle.wasm_smith.proofs.Common.{[], AddsLimitsOf, All, All-contains, All-weaker, arith, Config, Contains, Contains-append_left, Count}
use Rattle.wasm_smith.proofs.Common.{count_in, Definitions, Extends, flattened, GroupedTypes, imported_spaces, inl, inr, IsFuncTypeIndex}
use Rattle.wasm_smith.proofs.Common.{items_of_export_shape, items_of_exports, length, List, None, refl, Shape, shape_spaces, Some}
use Rattle.wasm_smith.proofs.Common.{spaces_in, StandsAfter, sym, ◌++◌, ◌+◌, ◌∙◌, ◌≡◌, ◌≤◌, ◌⊎◌}
use Rattle.std.proofs.lemmas.List.Elements.{Contains-append_right}
use Rattle.smith_bytes.specs.declared.error.Count.TheVariants as counts
use Rattle.smith_types.specs.declared.entity_spaces.EntitySpaces.{EntitySpaces as Held}
use Rattle.smith_validity.proofs.HeldValueLemmas.{all_apart}
use Rattle.wasm_smith.specs.FirstParts.{IsMemoryKept, IsOfEntities, IsTableKept, StandsSoFar, StandsWhole}
use Rattle.wasm_smith.specs.declared.build.parts_so_far.PartsSoFar.{PartsSoFar}
use Rattle.wasm_smith.proofs.GrownSizeLemmas.{imports_grown}

-- if no exports of a shape are made, the state is whole
pub stands_whole : (config : Config) (drawn : PartsSoFar) → StandsSoFar config drawn → StandsWhole config drawn
stands_whole config drawn now = record {
  groups = now.groups;
  count = now.count;
  stands = now.stands;
  most = λ count is. let here = now.most count is in omega (arith, here);
  most_types = let here = now.most_types in omega (arith, here);
  most_imports = now.most_imports;
  tables = now.tables;
  memories = now.memories;
  type_size = now.type_size;
  within = now.within;
}

-- the additions of the exports of a shape are counted
exports_add : (config : Config) (shape : Shape) (count : Count) → config.module_shape ≡ None → config.exports ≡ Some shape
    → items_of_export_shape config count ≡ items_of_exports count shape
exports_add config shape count none given = rw (none, given) refl

-- no kind of entities is that of types
pub not_types : (count : Count) → IsOfEntities count → count ≡ counts.Types → ⊥
not_types counts.Types is same = is
not_types counts.Tags is same = cc
not_types counts.Funcs is same = cc
not_types counts.Tables is same = cc
not_types counts.Memories is same = cc
not_types counts.Globals is same = cc
not_types _ is same = is

-- items of either list are kept if those of both are
pub either_kept : {A : Type 0} (Kept : A → Type 0) (before theirs space : List A) → All Kept before → ((x : A) → Contains theirs x → Kept x)
    → All (λ x. Contains before x ⊎ Contains theirs x) space → All Kept space
either_kept {A = A} Kept before theirs space stood shape either =
    All-weaker (λ (x : A). Contains before x ⊎ Contains theirs x) Kept
    (λ x h. elim h [
      | inl was ↦ All-contains Kept before x stood was
      | inr given ↦ shape x given
    ]) space either

module _ (config : Config) (shape : Shape) (drawn : PartsSoFar) (types : GroupedTypes) (spaces : Held) (defined : Definitions) where
  pub stands_required : config.module_shape ≡ None → config.exports ≡ Some shape → StandsSoFar config drawn
      → Extends drawn.types.types types.types → length types.types ≤ length drawn.types.types + items_of_exports counts.Types shape
      → ((count : Count) → (count ≡ counts.Types → ⊥) → count_in (spaces_in spaces) count ≡ count_in (spaces_in drawn.imported.spaces) count
      + items_of_exports count shape)
      → AddsLimitsOf shape (spaces_in drawn.imported.spaces) (spaces_in spaces)
      → StandsAfter config (imported_spaces (flattened drawn.imported.groups)) types (spaces_in spaces) defined
      → StandsWhole config (record drawn { types = types; imported = record drawn.imported { spaces = spaces }; definitions = defined })
  stands_required none given now longer few counted limits stands =
      let all = imported_spaces (flattened drawn.imported.groups) in
      let funcs : All (IsFuncTypeIndex drawn.types.types) (all.funcs ++ now.stands.funcs.defined) =
      rw now.stands.funcs.parts at now.stands.entities.funcs in
      record {
        groups = now.groups;
        count = now.count;
        stands = stands;
        most = λ count is. let before = now.most count is in let here = counted count (not_types count is) in
            let more = exports_add config shape count none given in omega (arith, before, here, more);
        most_types = let before = now.most_types in let more = exports_add config shape counts.Types none given in
            omega (arith, before, few, more);
        most_imports = now.most_imports;
        tables =
            either_kept (IsTableKept config) drawn.imported.spaces.tables (shape_spaces shape).tables spaces.tables now.tables
            (λ table h. inl (rw (none, given)
            (Contains-append_right _ _ table (Contains-append_left (shape_spaces shape).tables [] table h)))) limits.tables;
        memories =
            either_kept (IsMemoryKept config) drawn.imported.spaces.memories (shape_spaces shape).memories spaces.memories now.memories
            (λ memory h. inl (rw (none, given)
            (Contains-append_right _ _ memory (Contains-append_left (shape_spaces shape).memories [] memory h)))) limits.memories;
        type_size = now.type_size ∙ sym (imports_grown config drawn.types.types types.types (flattened drawn.imported.groups) longer
            (all_apart (IsFuncTypeIndex drawn.types.types) all.funcs now.stands.funcs.defined funcs).0);
        within = now.within;
      }
