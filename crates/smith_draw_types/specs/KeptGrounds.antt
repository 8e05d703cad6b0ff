-- The record of functions that is reused in several draws.
use Rattle.std.specs.Prelude.{◌≡◌, ℕ, ◌<◌, ◌≤◌, List, Some, slice_get, take, length, IfSome, IsSome}
use Rattle.smith_draw_types.specs.Common.{Context}
use Rattle.smith_types.specs.FuncGrounds.{AreFuncGrounds}
use Rattle.smith_types.specs.declared.func_grounds.FuncGrounds.{FuncGrounds}
use Rattle.smith_draw_types.specs.FunctionFamilies.{AreFunctionFamilies}
use Rattle.smith_draw_types.specs.Grounding.{over}
use Rattle.smith_draw_types.specs.declared.early_grounds.EarlyGrounds.{EarlyGrounds}
use Rattle.smith_draw_types.specs.declared.function_families.FunctionFamilies.{FunctionFamilies}
use Rattle.smith_draw_types.specs.declared.kept_grounds.KeptGrounds.{KeptGrounds}

-- if there is a record, it is correct for the functions of a context
abbrev pub AreKeptGrounds : Context → KeptGrounds → Type 0
AreKeptGrounds context grounds = IfSome grounds.kept (AreFuncGrounds context)

-- there is a record, so that functions are noted in it
abbrev pub HasBegun : KeptGrounds → Type 0
HasBegun grounds = IsSome grounds.kept

-- the context over which one call draws references, and its record of functions
pub record CallOver : Type 0 where
  pub context : Context
  pub grounds : KeptGrounds

-- the record is correct for the first `count` types, and each function whose type exists has one of
-- these types
pub record IsRecordOver (context : Context) (grounds : FuncGrounds) : Type 0 where
  pub count : ℕ
  pub within : count ≤ length context.types
  pub right : AreFuncGrounds (over context (take count context.types)) grounds
  pub named : (function index : ℕ) → slice_get context.funcs function ≡ Some index → index < length context.types → index < count

-- the type of each function is among the first `count` types
abbrev pub HaveTypes : List ℕ → ℕ → Type 0
HaveTypes funcs count = (function index : ℕ) → slice_get funcs function ≡ Some index → index < count

-- the record is correct for the types before the last ones were added, and each function has one of
-- these types
pub record IsEarlyRecord (context : Context) (grounds : FuncGrounds) : Type 0 where
  pub count : ℕ
  pub within : count ≤ length context.types
  pub right : AreFuncGrounds (over context (take count context.types)) grounds
  pub named : HaveTypes context.funcs count

-- the lists have the types that functions ground by that record
pub record AreEarlyFamilies (context : Context) (families : FunctionFamilies) : Type 0 where
  pub grounds : FuncGrounds
  pub early : IsEarlyRecord context grounds
  pub listed : AreFunctionFamilies context.types grounds (length context.types) families

-- the record and the lists, if there are any, are correct for the types before the last ones were
-- added
pub record AreEarlyGrounds (context : Context) (grounds : EarlyGrounds) : Type 0 where
  pub kept : IfSome grounds.kept (IsEarlyRecord context)
  pub families : IfSome grounds.families (AreEarlyFamilies context)
