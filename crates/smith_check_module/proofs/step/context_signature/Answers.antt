use Rattle.smith_check_module.proofs.Common.{length, refl}
use Rattle.smith_types.specs.Syntax.const_instr.ConstInstr.TheVariants as constant
use Rattle.smith_check_module.specs.ConstScopes.{context_of}
use Rattle.smith_check_module.proofs.StepLemmas.{answered, answered_more, answered_result, converts_any, converts_extern, nothing_else}
use Rattle.smith_check_module.proofs.step.context_signature.Goals as goal

pub returns-in-GlobalGet-clause-ok : goal.returns-in-GlobalGet-clause-ok
returns-in-GlobalGet-clause-ok c =
    answered (context_of c.args.scope.now) c.args.instruction (constant.GlobalGet c.in-GlobalGet.index) c.args.before.now
    c.global_signature.result c.in-GlobalGet.is
    c.global_signature.ensures

pub returns-in-RefNull-clause-ok : goal.returns-in-RefNull-clause-ok
returns-in-RefNull-clause-ok c =
    answered (context_of c.args.scope.now) c.args.instruction (constant.RefNull c.in-RefNull.heap_type) c.args.before.now
    c.null_signature.result c.in-RefNull.is
    c.null_signature.ensures

pub returns-in-RefFunc-clause-ok : goal.returns-in-RefFunc-clause-ok
returns-in-RefFunc-clause-ok c =
    answered (context_of c.args.scope.now) c.args.instruction (constant.RefFunc c.in-RefFunc.function) c.args.before.now
    c.function_signature.result c.in-RefFunc.is
    c.function_signature.ensures

pub returns-in-StructNewDefault-clause-ok : goal.returns-in-StructNewDefault-clause-ok
returns-in-StructNewDefault-clause-ok c =
    answered (context_of c.args.scope.now) c.args.instruction (constant.StructNewDefault c.in-StructNewDefault.index) c.args.before.now
    c.default_struct_signature.result c.in-StructNewDefault.is
    c.default_struct_signature.ensures

pub returns-in-ArrayNew-clause-ok : goal.returns-in-ArrayNew-clause-ok
returns-in-ArrayNew-clause-ok c =
    answered_result (context_of c.args.scope.now) c.args.instruction (constant.ArrayNew c.in-ArrayNew.index) c.args.before.now
    c.array_signature.result
    c.in-ArrayNew.is c.array_signature.ensures.ok

pub returns-in-ArrayNewDefault-clause-ok : goal.returns-in-ArrayNewDefault-clause-ok
returns-in-ArrayNewDefault-clause-ok c =
    answered_result (context_of c.args.scope.now) c.args.instruction (constant.ArrayNewDefault c.in-ArrayNewDefault.index) c.args.before.now
    c.default_array_signature.result
    c.in-ArrayNewDefault.is c.default_array_signature.ensures.ok

pub returns-in-StructNew-clause-ok : goal.returns-in-StructNew-clause-ok
returns-in-StructNew-clause-ok c =
    answered_more (context_of c.args.scope.now) c.args.instruction (constant.StructNew c.in-StructNew.index) c.args.before.now
    (length c.args.before.now) c.struct_signature.result c.in-StructNew.is refl c.struct_signature.ensures.ok

pub returns-in-ArrayNewFixed-clause-ok : goal.returns-in-ArrayNewFixed-clause-ok
returns-in-ArrayNewFixed-clause-ok c =
    answered_more (context_of c.args.scope.now) c.args.instruction
    (constant.ArrayNewFixed c.in-ArrayNewFixed.array_type_index c.in-ArrayNewFixed.array_size) c.args.before.now
    (length c.args.before.now) c.fixed_array_signature.result c.in-ArrayNewFixed.is refl c.fixed_array_signature.ensures.ok

pub returns-in-AnyConvertExtern-clause-ok : goal.returns-in-AnyConvertExtern-clause-ok
returns-in-AnyConvertExtern-clause-ok c =
    converts_extern (context_of c.args.scope.now) c.args.instruction c.args.before.now c.conversion_signature.result
    c.in-AnyConvertExtern.is
    c.conversion_signature.ensures.ok

pub returns-in-ExternConvertAny-clause-ok : goal.returns-in-ExternConvertAny-clause-ok
returns-in-ExternConvertAny-clause-ok c =
    converts_any (context_of c.args.scope.now) c.args.instruction c.args.before.now c.conversion_signature-in-ExternConvertAny.result
    c.in-ExternConvertAny.is c.conversion_signature-in-ExternConvertAny.ensures.ok

pub returns-in_default : goal.returns-in_default
returns-in_default c = record {
  ok = nothing_else (context_of c.args.scope.now) c.args.instruction c.args.before.now c.requires.depends c.in_default.not-GlobalGet
      c.in_default.not-RefNull c.in_default.not-RefFunc c.in_default.not-StructNew c.in_default.not-StructNewDefault
      c.in_default.not-ArrayNew c.in_default.not-ArrayNewDefault c.in_default.not-ArrayNewFixed c.in_default.not-AnyConvertExtern
      c.in_default.not-ExternConvertAny;
  memory = tt;
}
