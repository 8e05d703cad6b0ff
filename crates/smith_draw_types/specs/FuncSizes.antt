-- The numbers of parameters and results of drawn function types. A rule of this project.
use Rattle.std.specs.Prelude.{ℕ, ◌≤◌, length}
use Rattle.smith_draw_types.specs.Common.{CompositeInnerType, Func, FuncType, SubType}

-- a function type has at most `most` parameters and at most `most` results
pub record IsFunctionWithin (most : ℕ) (function : FuncType) : Type 0 where
  pub params : length function.params ≤ most
  pub results : length function.results ≤ most

-- a composite type is not a function type, or has at most `most` parameters and at most `most`
-- results
abbrev pub IsInnerWithin : ℕ → CompositeInnerType → Type 0
IsInnerWithin most (Func function) = IsFunctionWithin most function
IsInnerWithin most _ = Unit {0}

-- a subtype is not a function type, or has at most `most` parameters and at most `most` results
abbrev pub HasFewValues : ℕ → SubType → Type 0
HasFewValues most t = IsInnerWithin most t.composite_type.inner

-- a composite type is not a function type, or has at most 20 parameters and at most 20 results, as
-- each drawn function type has
abbrev pub IsSmallInner : CompositeInnerType → Type 0
IsSmallInner inner = IsInnerWithin 20 inner

-- a subtype is not a function type, or has at most 20 parameters and at most 20 results
abbrev pub IsSmall : SubType → Type 0
IsSmall t = HasFewValues 20 t
