use Rattle.smith_check_branches.proofs.Common.{arith, bare, length, ◌-◌}
use Rattle.smith_check_operands.proofs.EndLemmas.{by_test}
use Rattle.smith_check_operands.proofs.FitLemmas.{refused_enough, refused_beyond, refused_short}
use Rattle.smith_check_operands.proofs.RangeLemmas.{slots_part, slots_whole, values_part}
use Rattle.smith_check_branches.proofs.TopLemmas.{on_top_enough, on_top_beyond}
use Rattle.smith_check_branches.proofs.branch_tables.is_on_top.Goals as goal

pub returns-then-wanted-known : goal.returns-then-wanted-known
returns-then-wanted-known c =
    let n = c.len-known.result - length c.args.expected.now in
    by_test c.slots_fit.result _ _
    (λ h. on_top_enough (bare c.args.scope.now) c.args.operands.now.known.items c.deref.result.now c.args.expected.now n
    c.args.operands.now.dead c.deref.ensures.value (omega arith) (omega arith) (c.slots_fit.ensures.0 h))
    (λ never. refused_enough (bare c.args.scope.now) c.args.operands.now.known.items c.deref.result.now c.args.expected.now n
    c.args.operands.now.dead c.deref.ensures.value (omega arith) (omega arith) (λ fit. never (c.slots_fit.ensures.1 fit)))

pub returns-then-not-operands : goal.returns-then-not-operands
returns-then-not-operands c =
    refused_short (bare c.args.scope.now) c.args.operands.now.known.items c.args.expected.now c.args.operands.now.dead
    c.if-not-operands.true (omega arith)

pub returns : goal.returns
returns c =
    let n = length c.args.expected.now - c.len-known.result in
    by_test c.slots_fit-2.result _ _
    (λ h. on_top_beyond (bare c.args.scope.now) c.args.operands.now.known.items c.deref-2.result.now c.args.expected.now n
    c.args.operands.now.dead c.deref-2.ensures.value c.if-not-operands.false (omega arith) (omega arith) (c.slots_fit-2.ensures.0 h))
    (λ never. refused_beyond (bare c.args.scope.now) c.args.operands.now.known.items c.deref-2.result.now c.args.expected.now n
    c.args.operands.now.dead c.deref-2.ensures.value (omega arith) (omega arith) (λ fit. never (c.slots_fit-2.ensures.1 fit)))

pub slots_fit-requires-clause-lower : goal.slots_fit-requires-clause-lower
slots_fit-requires-clause-lower c = slots_part (bare c.args.scope.now) c.args.operands.now.known.items c.deref.result.now _ _
    c.deref.ensures.value c.requires.known

pub slots_fit-requires-2-clause-lower : goal.slots_fit-requires-2-clause-lower
slots_fit-requires-2-clause-lower c = slots_whole (bare c.args.scope.now) c.args.operands.now.known.items c.deref-2.result.now
    c.deref-2.ensures.value c.requires.known

pub slots_fit-requires-2-clause-upper : goal.slots_fit-requires-2-clause-upper
slots_fit-requires-2-clause-upper c = values_part c.args.scope.now.types.now.types c.args.expected.now _ _ c.requires.expected
