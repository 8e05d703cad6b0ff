-- Function types by their indices.
use Rattle.smith_check_operands.proofs.Common.{ap, List, Some, subst, SubType, sym, ℕ, ◌∙◌, ◌≡◌}
use Rattle.std.specs.Prelude.{MatchOption, None, Option, unwrap_or}
use Rattle.smith_types.specs.Syntax.composite_type.CompositeInnerType.{CompositeInnerType}
use Rattle.smith_types.specs.Syntax.composite_type.CompositeInnerType.TheVariants.{Func}
use Rattle.smith_types.specs.Syntax.composite_type.FuncType.{FuncType}
use Rattle.smith_types.specs.Entities.{IsFuncAt}

pub some_same : {A : Type 0} (x y : A) → Some x ≡ Some y → x ≡ y
some_same x y e = ap (λ o. unwrap_or o x) e

pub none_not_some : {A : Type 0} (x : A) (o : Option A) → o ≡ None → o ≡ Some x → ⊥
none_not_some x o e f = subst (λ p. MatchOption p (Unit {0}) (λ y. ⊥)) (sym e ∙ f) tt

function_or : FuncType → CompositeInnerType → FuncType
function_or d (Func function) = function
function_or d _ = d

pub func_same : (types : List SubType) (index : ℕ) (f g : FuncType) → IsFuncAt types index f → IsFuncAt types index g → f ≡ g
unfolding function_or
func_same types index f g (t, at, is) (u, there, also) =
    let same : t ≡ u = some_same t u (sym at ∙ there) in
    ap (λ inner. function_or f inner) (sym is ∙ ap (λ (v : SubType). v.composite_type.inner) same ∙ also)
