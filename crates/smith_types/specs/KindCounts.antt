-- The types of a kind and sharedness, and the function types, in a list of types.
use Rattle.std.specs.Prelude.{◌≡◌, ℕ, ◌+◌, Bool, true, false, not, ◌==◌, List, [], ◌∷◌, length, if◌then◌else◌}
use Rattle.smith_types.specs.Common.{AbstractHeapType, Array, CompositeInnerType, Func, FuncType, shared, Struct, SubType}
use Rattle.smith_syntax.specs.declared.value_type.AbstractHeapType.TheVariants as heap
use Rattle.smith_types.specs.declared.kind_counts.KindCounts.{KindCounts}
use Rattle.smith_types.specs.declared.kind_counts.TypeSet.{TypeSet}
use Rattle.smith_types.specs.declared.kind_counts.TypeSet.TheVariants.{OfKind, Functions, WithoutResults}

-- whether a composite type has this kind, and its sharedness, the third argument, is that of the
-- first
abbrev pub is_inner_of_kind : Bool → AbstractHeapType → Bool → CompositeInnerType → Bool
is_inner_of_kind false heap.Array is_shared (Array a) = not is_shared
is_inner_of_kind true heap.Array is_shared (Array a) = is_shared
is_inner_of_kind false heap.Func is_shared (Func f) = not is_shared
is_inner_of_kind true heap.Func is_shared (Func f) = is_shared
is_inner_of_kind false heap.Struct is_shared (Struct s) = not is_shared
is_inner_of_kind true heap.Struct is_shared (Struct s) = is_shared
is_inner_of_kind _ _ is_shared _ = false

-- whether a type has this kind and sharedness
abbrev pub is_of_kind : Bool → AbstractHeapType → SubType → Bool
is_of_kind is_shared kind t = is_inner_of_kind is_shared kind (shared t) t.composite_type.inner

-- whether a composite type is a function
abbrev pub is_function : CompositeInnerType → Bool
is_function (Func function) = true
is_function _ = false

-- whether a function type has no results
abbrev pub has_no_results : FuncType → Bool
has_no_results function = length function.results == 0

-- whether a composite type is a function without results
abbrev pub gives_nothing : CompositeInnerType → Bool
gives_nothing (Func function) = has_no_results function
gives_nothing _ = false

-- whether a type is in a set
abbrev pub is_in : TypeSet → SubType → Bool
is_in (OfKind is_shared kind) = is_of_kind is_shared kind
is_in Functions = λ t. is_function t.composite_type.inner
is_in WithoutResults = λ t. gives_nothing t.composite_type.inner

-- the indices of the types that satisfy a test, in order; the first type has the index `first`
abbrev pub indices_from : (SubType → Bool) → ℕ → List SubType → List ℕ
indices_from test first [] = []
indices_from test first (t ∷ types) = if test t then first ∷ indices_from test (first + 1) types else indices_from test (first + 1) types

-- the indices of the types of a kind and sharedness, in order
abbrev pub indices_of_kind : List SubType → Bool → AbstractHeapType → List ℕ
indices_of_kind types is_shared kind = indices_from (is_of_kind is_shared kind) 0 types

-- the indices of the types in a set, in order
abbrev pub indices_in : List SubType → TypeSet → List ℕ
indices_in types set = indices_from (is_in set) 0 types

-- the number of types that satisfy a test
abbrev pub count_where : (SubType → Bool) → List SubType → ℕ
count_where test [] = 0
count_where test (t ∷ types) = if test t then count_where test types + 1 else count_where test types

-- the count of a kind and sharedness
abbrev pub kind_count_at : KindCounts → Bool → AbstractHeapType → ℕ
kind_count_at counts false heap.Array = counts.arrays
kind_count_at counts true heap.Array = counts.shared_arrays
kind_count_at counts false heap.Func = counts.funcs
kind_count_at counts true heap.Func = counts.shared_funcs
kind_count_at counts false heap.Struct = counts.structs
kind_count_at counts true heap.Struct = counts.shared_structs
kind_count_at counts _ _ = 0

-- the count of a set
abbrev pub count_in : KindCounts → TypeSet → ℕ
count_in counts (OfKind is_shared kind) = kind_count_at counts is_shared kind
count_in counts Functions = counts.funcs + counts.shared_funcs
count_in counts WithoutResults = counts.without_results

-- a count with one more type, if that type is counted
abbrev pub one_more_if : Bool → ℕ → ℕ
one_more_if counted count = if counted then count + 1 else count

-- the counts with one more type
abbrev pub counts_with : Bool → CompositeInnerType → KindCounts → KindCounts
counts_with false (Array a) counts = record counts { arrays = counts.arrays + 1 }
counts_with true (Array a) counts = record counts { shared_arrays = counts.shared_arrays + 1 }
counts_with false (Func f) counts =
    record counts { funcs = counts.funcs + 1; without_results = one_more_if (has_no_results f) counts.without_results }
counts_with true (Func f) counts =
    record counts { shared_funcs = counts.shared_funcs + 1; without_results = one_more_if (has_no_results f) counts.without_results }
counts_with false (Struct s) counts = record counts { structs = counts.structs + 1 }
counts_with true (Struct s) counts = record counts { shared_structs = counts.shared_structs + 1 }

-- each set has the count of these types that it contains
pub record AreCounts (types : List SubType) (counts : KindCounts) : Type 0 where
  pub each : (set : TypeSet) → count_in counts set ≡ count_where (is_in set) types
