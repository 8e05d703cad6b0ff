-- Lists of the concrete types that functions ground.
use Rattle.std.specs.Prelude.{◌≡◌, ℕ, ◌≤◌, Bool, true, false, ◌&&◌, Option, Some, None, List, [], length, slice_get, Vec}
use Rattle.std.specs.declared.alloc.Global.{Global}
use Rattle.smith_draw_types.specs.Common.{AbstractHeapType, Concrete, SubType}
use Rattle.smith_types.specs.Syntax.value_type.AbstractHeapType.TheVariants as heap
use Rattle.smith_types.specs.FuncGrounds.{is_noted}
use Rattle.smith_types.specs.Grounds.{indices_where}
use Rattle.smith_types.specs.MarkedFamilies.{is_directly_below_at}
use Rattle.smith_types.specs.declared.func_grounds.FuncGrounds.{FuncGrounds}
use Rattle.smith_draw_types.specs.Offered.{is_kind}
use Rattle.smith_draw_types.specs.declared.function_families.FunctionFamilies.{FunctionFamilies}

-- whether a type exists and has this kind and sharedness
abbrev pub is_kind_in : Bool → AbstractHeapType → Option SubType → Bool
is_kind_in is_shared kind None = false
is_kind_in is_shared kind (Some t) = is_kind is_shared kind t

-- whether the type at index j exists and has this kind and sharedness
abbrev pub is_kind_at : List SubType → Bool → AbstractHeapType → ℕ → Bool
is_kind_at types is_shared kind j = is_kind_in is_shared kind (slice_get types j)

-- whether functions ground the type at j, and the type at `index` is its declared supertype
abbrev pub is_noted_below : List SubType → FuncGrounds → ℕ → ℕ → Bool
is_noted_below types grounds index j = is_noted grounds (Concrete j) && is_directly_below_at types index j

-- whether functions ground the type at j, and it is a function type of this sharedness
abbrev pub is_noted_function : List SubType → FuncGrounds → Bool → ℕ → Bool
is_noted_function types grounds is_shared j = is_noted grounds (Concrete j) && is_kind_at types is_shared heap.Func j

-- list `s` has the indices below `count` that pass the test for `s`, in order; without a list, no
-- index passes
pub record AreListed (test : ℕ → ℕ → Bool) (count : ℕ) (lists : List (Vec ℕ Global)) : Type 0 where
  pub each : (s : ℕ) (list : Vec ℕ Global) → slice_get lists s ≡ Some list → list.items ≡ indices_where (test s) 0 count
  pub others : (s : ℕ) → length lists ≤ s → indices_where (test s) 0 count ≡ []

-- the lists of the types that functions ground, among the first `count` types
pub record AreFunctionFamilies (types : List SubType) (grounds : FuncGrounds) (count : ℕ) (families : FunctionFamilies) : Type 0 where
  pub direct : AreListed (is_noted_below types grounds) count families.direct.items
  pub plain : families.plain.items ≡ indices_where (is_noted_function types grounds false) 0 count
  pub shared : families.shared.items ≡ indices_where (is_noted_function types grounds true) 0 count
