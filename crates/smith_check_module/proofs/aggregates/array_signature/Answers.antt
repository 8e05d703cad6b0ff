use Rattle.smith_check_module.proofs.Common.{[], ap, I32, IsArrayAt, subst, ◌∙◌, ◌∷◌}
use Rattle.smith_types.specs.Syntax.const_instr.ConstInstr.TheVariants as constant
use Rattle.smith_check_module.specs.ConstScopes.{context_of}
use Rattle.smith_check_module.specs.Typings.{HasNoArray}
use Rattle.smith_check_module.proofs.AggregateLemmas.{array_none, array_only}
use Rattle.smith_check_module.proofs.SignatureLemmas.{same_only}
use Rattle.smith_check_module.proofs.aggregates.array_signature.Goals as goal

pub returns-in-None-clause-ok : goal.returns-in-None-clause-ok
returns-in-None-clause-ok c = array_none (context_of c.args.scope.now) c.args.index
    (subst (λ ts. HasNoArray ts c.args.index) c.types.ensures.value c.in-None.ensures)

pub returns-clause-ok : goal.returns-clause-ok
returns-clause-ok c =
    same_only (context_of c.args.scope.now) (constant.ArrayNew c.args.index) _ _ _ _
    (c.in_ok-from_slice.ensures.ok ∙ ap (λ v. v ∷ I32 ∷ []) c.unpack.ensures) c.created.ensures
    (array_only (context_of c.args.scope.now) c.args.index c.in-Some.element c.requires
    (subst (λ ts. IsArrayAt ts c.args.index c.in-Some.element) c.types.ensures.value c.in-Some.ensures))
