use Rattle.std.proofs.Common.{arith}
use Rattle.smith_instr.proofs.SetLocalLemmas.{absent, entry_is}
use Rattle.smith_instr.proofs.set_locals.SetLocals.contains.Goals as goal

pub returns-in_default : goal.returns-in_default
returns-in_default c =
    let past = rw c.deref.ensures.value at c.in_default.ensures.lookup.3 in
    rw (← c.self.view_is) (absent c.self.invariant c.args.local (λ found. omega (arith, found.there, past)))

pub returns-in-Some-get : goal.returns-in-Some-get
returns-in-Some-get c =
    let first = rw c.deref.ensures.value at c.in-Some.ensures.lookup.3 in
    let entry = rw c.deref-2.ensures.value at c.in-Some-get.ensures.lookup.3 in
    rw (← c.self.view_is) (entry_is c.self.invariant c.args.local _ _ (first.1 0) entry.0 (entry.1 0))

pub returns-in-None : goal.returns-in-None
returns-in-None c =
    let first = rw c.deref.ensures.value at c.in-Some.ensures.lookup.3 in
    let past = rw c.deref-2.ensures.value at c.in-None.ensures.lookup.3 in
    rw (← c.self.view_is) (absent c.self.invariant c.args.local (λ found. omega (arith, found.entry, first.1 0, past)))
