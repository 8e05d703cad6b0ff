use Rattle.smith_check_module.proofs.Common.{false, false≢true, sym, true, ◌∙◌}
use Rattle.smith_types.specs.Syntax.value_type.HeapType.TheVariants.{Abstract}
use Rattle.smith_types.specs.Subtyping.{IsBelow}
use Rattle.smith_check_module.proofs.conversion.sharedness_below.Goals as goal

pub returns : goal.returns
returns c = λ shared.
    elim shared as (λ s. IsBelow c.args.scope.now.types.now.types c.args.lower (Abstract s c.args.ty) → ⊥) [
      | true ↦ λ below. false≢true (sym c.if-heap_type_is_sub_type-2.false ∙ c.heap_type_is_sub_type-2.ensures.1 below)
      | false ↦ λ below. false≢true (sym c.if-heap_type_is_sub_type.false ∙ c.heap_type_is_sub_type.ensures.1 below)
    ]
