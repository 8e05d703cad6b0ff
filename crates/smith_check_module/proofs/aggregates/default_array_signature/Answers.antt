use Rattle.smith_check_module.proofs.Common.{ap, IsArrayAt, subst, sym, ◌∙◌}
use Rattle.smith_types.specs.Grounded.{is_defaultable}
use Rattle.smith_types.specs.Syntax.const_instr.ConstInstr.TheVariants as constant
use Rattle.smith_check_module.specs.ConstScopes.{context_of}
use Rattle.smith_check_module.specs.Typings.{HasNoArray}
use Rattle.smith_check_module.proofs.AggregateLemmas.{default_array_none, default_array_only, no_default_array}
use Rattle.smith_check_module.proofs.SignatureLemmas.{same_only}
use Rattle.smith_check_module.proofs.aggregates.default_array_signature.Goals as goal

pub returns-in-None-clause-ok : goal.returns-in-None-clause-ok
returns-in-None-clause-ok c = default_array_none (context_of c.args.scope.now) c.args.index
    (subst (λ ts. HasNoArray ts c.args.index) c.types.ensures.value c.in-None.ensures)

pub returns-then-not-is_defaultable-clause-ok : goal.returns-then-not-is_defaultable-clause-ok
returns-then-not-is_defaultable-clause-ok c =
    no_default_array (context_of c.args.scope.now) c.args.index c.in-Some.element
    (subst (λ ts. IsArrayAt ts c.args.index c.in-Some.element) c.types.ensures.value c.in-Some.ensures)
    (ap is_defaultable (sym c.unpack.ensures) ∙ sym c.is_defaultable.ensures ∙ c.if-not-is_defaultable.true)

pub returns-clause-ok : goal.returns-clause-ok
returns-clause-ok c =
    same_only (context_of c.args.scope.now) (constant.ArrayNewDefault c.args.index) _ _ _ _ c.in_ok-from_slice.ensures.ok c.created.ensures
    (default_array_only (context_of c.args.scope.now) c.args.index c.in-Some.element c.requires
    (subst (λ ts. IsArrayAt ts c.args.index c.in-Some.element) c.types.ensures.value c.in-Some.ensures)
    (ap is_defaultable (sym c.unpack.ensures) ∙ sym c.is_defaultable.ensures ∙ c.if-not-is_defaultable.false))
