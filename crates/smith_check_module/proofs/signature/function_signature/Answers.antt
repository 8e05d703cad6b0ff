use Rattle.smith_check_module.proofs.Common.{sym}
use Rattle.smith_types.specs.Syntax.const_instr.ConstInstr.TheVariants as constant
use Rattle.smith_check_module.specs.ConstScopes.{context_of}
use Rattle.smith_check_module.proofs.SignatureLemmas.{func_none, func_only, same_only}
use Rattle.smith_check_module.proofs.signature.function_signature.Goals as goal

pub returns-in-Some : goal.returns-in-Some
returns-in-Some c =
    same_only (context_of c.args.scope.now) (constant.RefFunc c.args.function) _ _ _ _ c.new.ensures c.function_reference.ensures
    (func_only (context_of c.args.scope.now) c.args.function c.in-Some.index c.requires (sym c.in-Some.ensures))

pub returns-in-None : goal.returns-in-None
returns-in-None c = func_none (context_of c.args.scope.now) c.args.function (sym c.in-None.ensures)
