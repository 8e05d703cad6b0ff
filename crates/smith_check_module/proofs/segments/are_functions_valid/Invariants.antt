use Rattle.smith_check_module.proofs.Common.{IsItem, take}
use Rattle.std.specs.List.{All}
use Rattle.smith_check_module.specs.ConstScopes.{context_of}
use Rattle.smith_check_module.proofs.segments.are_functions_valid.Given as goal

abbrev pub invariant-loop-function : goal.invariant-loop-function
invariant-loop-function l = All (IsItem (context_of l.scope) l.ty) (take l.function-index l.functions)
