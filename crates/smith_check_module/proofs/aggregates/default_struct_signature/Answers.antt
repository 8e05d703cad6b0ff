use Rattle.smith_check_module.proofs.Common.{IsStructAt, subst, sym, ◌∙◌}
use Rattle.smith_types.specs.Syntax.const_instr.ConstInstr.TheVariants as constant
use Rattle.smith_check_module.specs.ConstScopes.{context_of}
use Rattle.smith_check_module.specs.Typings.{HasNoStruct}
use Rattle.smith_check_module.proofs.AggregateLemmas.{default_struct_none, default_struct_only, no_default_struct}
use Rattle.smith_check_module.proofs.SignatureLemmas.{same_only}
use Rattle.smith_check_module.proofs.aggregates.default_struct_signature.Goals as goal

pub returns-in-None : goal.returns-in-None
returns-in-None c = default_struct_none (context_of c.args.scope.now) c.args.index
    (subst (λ ts. HasNoStruct ts c.args.index) c.types.ensures.value c.in-None.ensures)

pub returns-then-not-are_defaultable : goal.returns-then-not-are_defaultable
returns-then-not-are_defaultable c =
    no_default_struct (context_of c.args.scope.now) c.args.index c.in-Some.fields.now
    (subst (λ ts. IsStructAt ts c.args.index c.in-Some.fields.now) c.types.ensures.value c.in-Some.ensures)
    (sym c.are_defaultable.ensures ∙ c.if-not-are_defaultable.true)

pub returns-else-not-are_defaultable : goal.returns-else-not-are_defaultable
returns-else-not-are_defaultable c =
    same_only (context_of c.args.scope.now) (constant.StructNewDefault c.args.index) _ _ _ _ c.new.ensures c.created.ensures
    (default_struct_only (context_of c.args.scope.now) c.args.index c.in-Some.fields.now c.requires
    (subst (λ ts. IsStructAt ts c.args.index c.in-Some.fields.now) c.types.ensures.value c.in-Some.ensures)
    (sym c.are_defaultable.ensures ∙ c.if-not-are_defaultable.false))
