use Rattle.smith_check_references.proofs.Common.{arith, bare, false≢true, replicate, sym, ◌-◌, ◌∙◌}
use Rattle.std.proofs.lemmas.List.{length-replicate}
use Rattle.smith_check_operands.proofs.FitLemmas.{refused_short}
use Rattle.smith_check_operands.proofs.RangeLemmas.{slots_part, slots_whole}
use Rattle.smith_check_references.proofs.CopyLemmas.{copied_enough, uncopied_enough, copied_beyond, uncopied_beyond}
use Rattle.smith_check_references.proofs.arrays.pop_copies.Goals as goal

pub returns-then-not-all_fit : goal.returns-then-not-all_fit
returns-then-not-all_fit c =
    uncopied_enough (bare c.args.scope.now) c.args.operands.now.known.items c.deref.result.now c.args.value c.args.count
    (c.len-known.result - c.args.count) c.args.operands.now.dead c.deref.ensures.value (omega arith) (omega arith)
    (λ all. false≢true (sym c.if-not-all_fit.true ∙ c.all_fit.ensures.1 all))

pub returns-then-count-known : goal.returns-then-count-known
returns-then-count-known c =
    let e = c.truncate.ensures.items in
    rw e (copied_enough (bare c.args.scope.now) c.args.operands.now.known.items c.deref.result.now c.args.value c.args.count
    (c.len-known.result - c.args.count) c.args.operands.now.dead c.deref.ensures.value (omega arith)
    (omega arith) c.requires.known (c.all_fit.ensures.0 c.if-not-all_fit.false))

pub returns-then-not-operands : goal.returns-then-not-operands
returns-then-not-operands c =
    refused_short (bare c.args.scope.now) c.args.operands.now.known.items (replicate c.args.count c.args.value) c.args.operands.now.dead
    c.if-not-operands.true (omega (arith, length-replicate c.args.count c.args.value))

pub returns-then-not-all_fit-2 : goal.returns-then-not-all_fit-2
returns-then-not-all_fit-2 c =
    uncopied_beyond (bare c.args.scope.now) c.args.operands.now.known.items c.deref-2.result.now c.args.value c.args.count
    c.args.operands.now.dead c.deref-2.ensures.value (omega arith)
    (λ all. false≢true (sym c.if-not-all_fit-2.true ∙ c.all_fit-2.ensures.1 all))

pub returns : goal.returns
returns c =
    copied_beyond (bare c.args.scope.now) c.args.operands.now.known.items c.deref-2.result.now c.args.value c.args.count
    c.args.operands.now.dead c.deref-2.ensures.value (omega arith) _ c.requires.known
    c.if-not-operands.false c.clear.ensures.items (c.all_fit-2.ensures.0 c.if-not-all_fit-2.false)

pub all_fit-requires-clause-lower : goal.all_fit-requires-clause-lower
all_fit-requires-clause-lower c = slots_part (bare c.args.scope.now) c.args.operands.now.known.items c.deref.result.now _ _
    c.deref.ensures.value c.requires.known

pub all_fit-requires-2-clause-lower : goal.all_fit-requires-2-clause-lower
all_fit-requires-2-clause-lower c = slots_whole (bare c.args.scope.now) c.args.operands.now.known.items c.deref-2.result.now
    c.deref-2.ensures.value c.requires.known
