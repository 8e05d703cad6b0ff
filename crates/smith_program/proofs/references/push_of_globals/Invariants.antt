use Rattle.smith_program.proofs.Common.{flat_map, List, take, ℕ, ◌++◌, ◌≡◌}
use Rattle.smith_types.specs.Syntax.const_instr.ConstInstr.{ConstInstr}
use Rattle.smith_program.specs.References.{named_in}
use Rattle.smith_program.proofs.references.push_of_globals.Given as goal

abbrev pub invariant-loop-global : goal.invariant-loop-global
invariant-loop-global l = l.named ≡ l.fn.named ++ flat_map (λ (global : ℕ × List ConstInstr). named_in global.1)
    (take l.global-index l.globals)
