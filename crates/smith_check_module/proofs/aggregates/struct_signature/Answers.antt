use Rattle.smith_check_module.proofs.Common.{arith, IsStructAt, subst}
use Rattle.smith_types.specs.Syntax.const_instr.ConstInstr.TheVariants as constant
use Rattle.smith_check_module.specs.ConstScopes.{context_of}
use Rattle.smith_check_module.specs.Typings.{HasNoStruct}
use Rattle.smith_check_module.proofs.AggregateLemmas.{struct_more, struct_none, struct_only}
use Rattle.smith_check_module.proofs.SignatureLemmas.{same_only}
use Rattle.smith_check_module.proofs.aggregates.struct_signature.Goals as goal

pub returns-in-None-clause-ok : goal.returns-in-None-clause-ok
returns-in-None-clause-ok c = struct_none (context_of c.args.scope.now) c.args.index c.args.most
    (subst (λ ts. HasNoStruct ts c.args.index) c.types.ensures.value c.in-None.ensures)

pub returns-then-fields-most-clause-ok : goal.returns-then-fields-most-clause-ok
returns-then-fields-most-clause-ok c =
    struct_more (context_of c.args.scope.now) c.args.index c.in-Some.fields.now c.args.most
    (subst (λ ts. IsStructAt ts c.args.index c.in-Some.fields.now) c.types.ensures.value c.in-Some.ensures)
    (omega arith)

pub returns-clause-ok : goal.returns-clause-ok
returns-clause-ok c =
    same_only (context_of c.args.scope.now) (constant.StructNew c.args.index) _ _ _ _ c.in_ok-field_values.ensures.ok c.created.ensures
    (struct_only (context_of c.args.scope.now) c.args.index c.in-Some.fields.now c.requires
    (subst (λ ts. IsStructAt ts c.args.index c.in-Some.fields.now) c.types.ensures.value c.in-Some.ensures))
