use Rattle.smith_check_module.proofs.Common.{arith, refl, sym}
use Rattle.smith_types.specs.Syntax.const_instr.ConstInstr.TheVariants as constant
use Rattle.smith_check_module.specs.ConstScopes.{context_of}
use Rattle.smith_check_module.proofs.SignatureLemmas.{global_missing, global_none, global_only, global_unseen, same_only}
use Rattle.smith_check_module.proofs.signature.global_signature.Goals as goal

pub returns-then-index-scope : goal.returns-then-index-scope
returns-then-index-scope c = global_unseen (context_of c.args.scope.now) c.args.index (omega arith)

pub returns-then-global : goal.returns-then-global
returns-then-global c = global_none (context_of c.args.scope.now) c.args.index c.in-Some.global (sym c.in-Some.ensures) c.if-global.true

pub returns-else-global : goal.returns-else-global
returns-else-global c =
    same_only (context_of c.args.scope.now) (constant.GlobalGet c.args.index) _ _ _ _ c.new.ensures refl
    (global_only (context_of c.args.scope.now) c.args.index c.in-Some.global c.requires (sym c.in-Some.ensures) (omega arith)
    c.if-global.false)

pub returns-in-None : goal.returns-in-None
returns-in-None c = global_missing (context_of c.args.scope.now) c.args.index (sym c.in-None.ensures)
