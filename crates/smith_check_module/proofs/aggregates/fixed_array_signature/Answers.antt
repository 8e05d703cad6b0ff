use Rattle.smith_check_module.proofs.Common.{ap, arith, IsArrayAt, replicate, subst, ◌∙◌}
use Rattle.smith_types.specs.Syntax.const_instr.ConstInstr.TheVariants as constant
use Rattle.smith_check_module.specs.ConstScopes.{context_of}
use Rattle.smith_check_module.specs.Typings.{HasNoArray}
use Rattle.smith_check_module.proofs.AggregateLemmas.{fixed_array_more, fixed_array_none, fixed_array_only}
use Rattle.smith_check_module.proofs.SignatureLemmas.{same_only}
use Rattle.smith_check_module.proofs.aggregates.fixed_array_signature.Goals as goal

pub returns-in-None-clause-ok : goal.returns-in-None-clause-ok
returns-in-None-clause-ok c = fixed_array_none (context_of c.args.scope.now) c.args.index c.args.size c.args.most
    (subst (λ ts. HasNoArray ts c.args.index) c.types.ensures.value c.in-None.ensures)

pub returns-then-size-most-clause-ok : goal.returns-then-size-most-clause-ok
returns-then-size-most-clause-ok c = fixed_array_more (context_of c.args.scope.now) c.args.index c.args.size c.args.most (omega arith)

pub returns-clause-ok : goal.returns-clause-ok
returns-clause-ok c =
    same_only (context_of c.args.scope.now) (constant.ArrayNewFixed c.args.index c.args.size) _ _ _ _
    (c.in_ok-repeated.ensures.ok ∙ ap (λ v. replicate c.args.size v) c.unpack.ensures) c.created.ensures
    (fixed_array_only (context_of c.args.scope.now) c.args.index c.args.size c.in-Some.element c.requires
    (subst (λ ts. IsArrayAt ts c.args.index c.in-Some.element) c.types.ensures.value c.in-Some.ensures))
