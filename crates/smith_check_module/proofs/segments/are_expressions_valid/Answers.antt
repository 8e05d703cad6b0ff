use Rattle.smith_check_module.proofs.Common.{All, All-more, refl, subst, take_all, ◌∙◌}
use Rattle.smith_check_module.specs.ConstScopes.{context_of}
use Rattle.smith_check_module.specs.Items.{IsItemValid}
use Rattle.smith_check_module.proofs.segments.are_expressions_valid.Goals as goal

pub loop-item-preserved : goal.loop-item-preserved
loop-item-preserved c =
    All-more (IsItemValid (context_of c.args.scope.now) c.args.scope.now.indices.now c.args.ty) c.args.items.now c.loop-item.item-index
    c.item-item.result c.loop-item-test.true c.loop-item.invariant
    (subst (λ item. IsItemValid (context_of c.args.scope.now) c.args.scope.now.indices.now c.args.ty item)
    (c.as_slice.ensures ∙ c.item-item.is) (c.in_ok-valid.ensures.decided.0 c.if-not-valid.false))

pub returns-clause-decided : goal.returns-clause-decided
returns-clause-decided c = (
  λ _. subst (All (IsItemValid (context_of c.args.scope.now) c.args.scope.now.indices.now c.args.ty))
      (take_all _ c.args.items.now c.loop-item-test.false) c.loop-item.invariant,
  λ _. refl,
)
