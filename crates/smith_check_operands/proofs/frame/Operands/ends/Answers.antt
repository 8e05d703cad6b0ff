use Rattle.smith_check_operands.proofs.Common.{arith, length, ◌-◌}
use Rattle.smith_check_operands.specs.Scopes.{bare}
use Rattle.smith_check_operands.proofs.EndLemmas.{ends_even, ends_beyond, ends_long, ends_short}
use Rattle.smith_check_operands.proofs.RangeLemmas.{all_in_range, slots_whole, values_part}
use Rattle.smith_check_operands.proofs.frame.Operands.ends.Goals as goal

pub returns-then-known-wanted : goal.returns-then-known-wanted
returns-then-known-wanted c =
    ends_even (bare c.args.scope.now) c.args.self.now.known.items c.deref.result.now c.args.results.now c.args.self.now.dead
    c.slots_fit.result c.requires.known c.requires.valid c.deref.ensures.value
    (omega arith) c.slots_fit.ensures

pub returns-then-wanted-known : goal.returns-then-wanted-known
returns-then-wanted-known c =
    ends_long (bare c.args.scope.now) c.args.self.now.known.items c.args.results.now c.args.self.now.dead (omega arith)

pub returns-then-not-self : goal.returns-then-not-self
returns-then-not-self c =
    ends_short (bare c.args.scope.now) c.args.self.now.known.items c.args.results.now c.args.self.now.dead c.if-not-self.true (omega arith)

pub returns : goal.returns
returns c =
    ends_beyond (bare c.args.scope.now) c.args.self.now.known.items c.deref-2.result.now c.args.results.now
    (length c.args.results.now - c.len-known.result) c.args.self.now.dead c.slots_fit-2.result
    c.requires.known c.requires.valid c.deref-2.ensures.value c.if-not-self.false (omega arith) (omega arith) c.slots_fit-2.ensures

pub slots_fit-requires-clause-lower : goal.slots_fit-requires-clause-lower
slots_fit-requires-clause-lower c = slots_whole (bare c.args.scope.now) c.args.self.now.known.items c.deref.result.now c.deref.ensures.value
    c.requires.known

pub slots_fit-requires-clause-upper : goal.slots_fit-requires-clause-upper
slots_fit-requires-clause-upper c = all_in_range (bare c.args.scope.now) c.args.results.now c.requires.valid

pub slots_fit-requires-2-clause-lower : goal.slots_fit-requires-2-clause-lower
slots_fit-requires-2-clause-lower c = slots_whole (bare c.args.scope.now) c.args.self.now.known.items c.deref-2.result.now
    c.deref-2.ensures.value c.requires.known

pub slots_fit-requires-2-clause-upper : goal.slots_fit-requires-2-clause-upper
slots_fit-requires-2-clause-upper c = values_part c.args.scope.now.types.now.types c.args.results.now _ _
    (all_in_range (bare c.args.scope.now) c.args.results.now c.requires.valid)
