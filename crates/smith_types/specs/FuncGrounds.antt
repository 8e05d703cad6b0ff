-- A record of functions, which decides the heap types that they ground.
use Rattle.std.specs.Prelude.{◌≡◌, ◌↔◌, ℕ, ◌<◌, ◌⊎◌, Bool, true, false, ◌&&◌, ◌||◌, IsTrue, List, [], ◌∷◌, ◌++◌, length, Some}
use Rattle.std.specs.Prelude.{if◌then◌else◌}
use Rattle.smith_types.specs.Subtyping.{is_abstract_below, IsInRange}
use Rattle.smith_types.specs.Expressions.{Context, reference_to, function_reference}
use Rattle.smith_types.specs.Grounded.{IsGroundedByFuncs}
use Rattle.smith_types.specs.Grounds.{own_at, below_at, IsFrom}
use Rattle.smith_types.specs.Common.{Abstract, AbstractHeapType, Array, CompositeInnerType, Concrete, Exact, Func, HeapType, Struct}
use Rattle.smith_types.specs.Common.{SubType}
use Rattle.smith_syntax.specs.declared.value_type.AbstractHeapType.TheVariants as heap
use Rattle.smith_types.specs.declared.ground.Ground.{Ground}
use Rattle.smith_types.specs.declared.noted_kinds.Kinds.{Kinds}
use Rattle.smith_types.specs.declared.noted_kinds.NotedKinds.{NotedKinds}
use Rattle.smith_types.specs.declared.func_grounds.FuncGrounds.{FuncGrounds}

-- whether one of the kinds is a subtype of an abstract heap type
abbrev pub are_below : Kinds → AbstractHeapType → Bool
are_below kinds b = ((kinds.arrays && is_abstract_below heap.Array b) || (kinds.funcs && is_abstract_below heap.Func b)) ||
    (kinds.structs && is_abstract_below heap.Struct b)

-- the kinds and the kind of a composite type
abbrev pub kinds_with : CompositeInnerType → Kinds → Kinds
kinds_with (Array a) kinds = record kinds { arrays = true }
kinds_with (Func f) kinds = record kinds { funcs = true }
kinds_with (Struct s) kinds = record kinds { structs = true }

-- the kinds with this sharedness
abbrev pub kinds_of : NotedKinds → Bool → Kinds
kinds_of kinds false = kinds.plain
kinds_of kinds true = kinds.shared

-- the kinds and the kind of a composite type of this sharedness
abbrev pub noted_with : Bool → CompositeInnerType → NotedKinds → NotedKinds
noted_with false inner kinds = record kinds { plain = kinds_with inner kinds.plain }
noted_with true inner kinds = record kinds { shared = kinds_with inner kinds.shared }

-- whether a function in the record grounds a heap type
abbrev pub is_noted : FuncGrounds → HeapType → Bool
is_noted grounds (Abstract s b) = are_below (kinds_of grounds.kinds s) b
is_noted grounds (Concrete j) = below_at grounds.marks.items j
is_noted grounds (Exact j) = own_at grounds.marks.items j

-- the record decides which heap types the functions of a context ground
pub record AreFuncGrounds (context : Context) (grounds : FuncGrounds) : Type 0 where
  pub long : length grounds.marks.items ≡ length context.types
  pub each : (ty : HeapType) → IsInRange context.types ty → IsTrue (is_noted grounds ty) ↔ IsGroundedByFuncs context ty

-- a context with one more function, which has this type index and a reference that is exact or not;
-- the references of the other functions are unchanged
pub record IsFunctionAdded (old new : Context) (index : ℕ) (exact : Bool) : Type 0 where
  pub types : new.types ≡ old.types
  pub funcs : new.funcs ≡ old.funcs ++ index ∷ []
  pub same : (function i : ℕ) → function < length old.funcs → function_reference new function i ≡ function_reference old function i
  pub added : function_reference new (length old.funcs) index ≡ reference_to (if exact then Exact index else Concrete index)

-- a type and its supertypes are marked, and its own entry is set if the reference is exact
pub record IsTypeNoted (types : List SubType) (index : ℕ) (exact : Bool) (old new : List Ground) : Type 0 where
  pub long : length new ≡ length old
  pub own : (j : ℕ) → IsTrue (own_at new j) ↔ (IsTrue (own_at old j) ⊎ (IsTrue exact × (index ≡ j)))
  pub below : (j : ℕ) → IsTrue (below_at new j) ↔ (IsTrue (below_at old j) ⊎ IsFrom types (Some index) j)
