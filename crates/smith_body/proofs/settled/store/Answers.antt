use Rattle.smith_body.proofs.Common.{arith, ◌-◌}
use Rattle.std.proofs.lemmas.Bool.{le-ltb, lt-ltb}
use Rattle.smith_body.proofs.SettledLemmas.{global_settler, local_settler}
use Rattle.smith_body.proofs.settled.store.Goals as goal

pub returns-then-is_allowed-clause-settles : goal.returns-then-is_allowed-clause-settles
returns-then-is_allowed-clause-settles c = λ labels.
    let before = rw c.local_count-locals.ensures at (lt-ltb c.args.place c.local_count-locals.result (omega arith)) in
    local_settler c.args.scope.now labels c.args.value c.args.place before c.requires.offered (c.is_allowed.ensures.allowed
    c.if-is_allowed.true)

pub returns-then-is_allowed-2-clause-settles : goal.returns-then-is_allowed-2-clause-settles
returns-then-is_allowed-2-clause-settles c = λ labels.
    let after = rw c.local_count-locals.ensures at (le-ltb c.args.place c.local_count-locals.result (omega arith)) in
    let allowed = rw c.local_count-locals.ensures at (c.is_allowed-2.ensures.allowed c.if-is_allowed-2.true) in
    rw c.local_count-locals.ensures (global_settler c.args.scope.now labels c.args.value c.args.place after c.requires.offered allowed)
