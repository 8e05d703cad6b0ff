-- Whether the types of a module are valid: the sections Validation, Types, Recursive Types, and
-- Validation, Modules, of the WebAssembly Core Specification 3.0. References between types and the
-- order of types are checked with the module's own indices. Everything else is checked with
-- canonical indices, so that equal types are one type. The conditions on features and sharedness
-- are rules of this project.
use Rattle.std.specs.Prelude.{◌≡◌, ℕ, ◌+◌, ◌<◌, List, [], ◌∷◌, Some, length, map, slice_get, unwrap_or, All}
use Rattle.smith_types.specs.Syntax.Features.{Features}
use Rattle.smith_types.specs.Syntax.composite_type.SubType.{SubType}
use Rattle.smith_types.specs.Syntax.value_type.HeapType.{HeapType}
use Rattle.smith_types.specs.Syntax.value_type.HeapType.TheVariants.{Abstract, Concrete, Exact}
use Rattle.smith_types.specs.Syntax.value_type.ValType.{ValType}
use Rattle.smith_types.specs.Syntax.value_type.ValType.TheVariants.{Ref}
use Rattle.smith_types.specs.Groups.{space_of}
use Rattle.smith_types.specs.ValidTypes.{values_of, AreTypesValid}
use Rattle.smith_check_types.specs.Renamed.{renamed}
use Rattle.smith_check_types.specs.Canonical.{AreCanonical}

-- the canonical index of a type; an index above all types is unchanged
abbrev pub canonical_index : List ℕ → ℕ → ℕ
canonical_index indices index = unwrap_or (slice_get indices index) index

-- groups with canonical indices in place of their own
abbrev pub canonical_groups : List ℕ → List (List SubType) → List (List SubType)
canonical_groups indices groups = map (map (renamed (canonical_index indices))) groups

-- a heap type refers only to types before `end` (Validation, Heap Types)
abbrev pub IsHeapInScope : ℕ → HeapType → Type 0
IsHeapInScope end (Abstract shared ty) = Unit {0}
IsHeapInScope end (Concrete index) = index < end
IsHeapInScope end (Exact index) = index < end

-- a value type refers only to types before `end` (Validation, Value Types)
abbrev pub IsInScope : ℕ → ValType → Type 0
IsInScope end (Ref reference) = IsHeapInScope end reference.heap_type
IsInScope end _ = Unit {0}

-- a type with this index, in a group that ends at `end`, refers only to types before `end`, and its
-- declared supertype, if any, precedes it (Validation, Recursive Types)
pub record IsTypeInScope (end index : ℕ) (t : SubType) : Type 0 where
  pub values : All (IsInScope end) (values_of t.composite_type.inner)
  pub before : (supertype : ℕ) → t.supertype ≡ Some supertype → supertype < index

-- each type of a group from `index` on is in scope (Validation, Recursive Types)
abbrev pub AreMembersInScope : ℕ → ℕ → List SubType → Type 0
AreMembersInScope end index [] = Unit {0}
AreMembersInScope end index (t ∷ types) = IsTypeInScope end index t × AreMembersInScope end (index + 1) types

-- each type of the groups, the first of which starts at `start`, is in scope (Validation, Modules)
abbrev pub AreGroupsInScope : ℕ → List (List SubType) → Type 0
AreGroupsInScope start [] = Unit {0}
AreGroupsInScope start (group ∷ groups) = AreMembersInScope (start + length group) start group × AreGroupsInScope (start + length group)
    groups

-- a type section is valid: its types are in scope, and by canonical indices they are valid
-- (Validation, Modules)
pub record IsTypeSectionValid (features : Features) (groups : List (List SubType)) : Type 0 where
  pub scope : AreGroupsInScope 0 groups
  pub indices : List ℕ
  pub canonical : AreCanonical groups indices
  pub valid : AreTypesValid features (space_of (canonical_groups indices groups))
