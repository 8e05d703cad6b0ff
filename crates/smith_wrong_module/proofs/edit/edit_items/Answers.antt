use Rattle.std.proofs.Common.{arith}
use Rattle.smith_wrong_module.proofs.SpliceLemmas.{inserts, removes, replaces}
use Rattle.smith_wrong_module.proofs.edit.edit_items.Goals as goal

pub returns-in_ok-insert-in-Insert-clause-ok : goal.returns-in_ok-insert-in-Insert-clause-ok
returns-in_ok-insert-in-Insert-clause-ok g c = grind (arith, inserts)

pub returns-in-Remove-clause-ok : goal.returns-in-Remove-clause-ok
returns-in-Remove-clause-ok g c = grind (arith, removes)

pub returns-in-Replace-clause-ok : goal.returns-in-Replace-clause-ok
returns-in-Replace-clause-ok g c = grind (arith, replaces)
