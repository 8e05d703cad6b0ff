use Rattle.std.proofs.Common.{◌+◌, ◌-◌, length, string_bytes}
use Rattle.smith_bytes.proofs.MadeNewLemmas.{IsMaking, longest}
use Rattle.smith_bytes.proofs.names.made_new.Given as goal

abbrev pub invariant-loop-name : goal.invariant-loop-name
invariant-loop-name l = IsMaking l.names (string_bytes l.fn.text) (string_bytes l.name)

abbrev pub decreases-loop-name : goal.decreases-loop-name
decreases-loop-name l = longest l.names.keys + 1 - length (string_bytes l.name)
