use Rattle.smith_check.proofs.Common.{flat_map, take, ◌++◌, ◌≡◌}
use Rattle.smith_decode.specs.declared.definitions.GlobalDefinition.{GlobalDefinition}
use Rattle.smith_check.specs.References.{named_in}
use Rattle.smith_check.proofs.references.push_of_globals.Given as goal

abbrev pub invariant-loop-global : goal.invariant-loop-global
invariant-loop-global l = l.named ≡ l.fn.named ++ flat_map (λ (global : GlobalDefinition). named_in global.initial)
    (take l.global-index l.globals)
