use Rattle.smith_check_module.proofs.Common.{take}
use Rattle.std.specs.List.{All}
use Rattle.smith_check_module.specs.ConstScopes.{context_of}
use Rattle.smith_check_module.specs.Items.{IsItemValid}
use Rattle.smith_check_module.proofs.segments.are_expressions_valid.Given as goal

abbrev pub invariant-loop-item : goal.invariant-loop-item
invariant-loop-item l = All (IsItemValid (context_of l.scope) l.scope.indices.now l.ty) (take l.item-index l.items)
