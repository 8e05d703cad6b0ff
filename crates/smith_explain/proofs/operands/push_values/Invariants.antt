use Rattle.std.proofs.Common.{◌≡◌, ◌++◌, take}
use Rattle.smith_check_rules.specs.Slots.{values}
use Rattle.smith_explain.proofs.operands.push_values.Given as goal

abbrev pub invariant-loop-ty : goal.invariant-loop-ty
invariant-loop-ty l = l.slots.items ≡ l.fn.slots.items ++ values (take l.ty-index l.types)
