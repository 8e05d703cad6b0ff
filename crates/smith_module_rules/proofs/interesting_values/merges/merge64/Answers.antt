use Rattle.std.proofs.Common.{◌++◌, sym, subst, ◌∙◌}
use Rattle.smith_module_rules.specs.CollectedValues.{IsSortedSet}
use Rattle.smith_module_rules.proofs.MergeLemmas.{IsMerging, merging_begins, merging_ends, merging_goes_on, rest_rises}
use Rattle.smith_module_rules.proofs.interesting_values.merges.merge64.Goals as goal

pub put64-requires : goal.put64-requires
put64-requires c = rest_rises c.args.constants.now c.args.near.now c.loop-number.number-index c.loop-number.made.items
    c.loop-number.rest.now c.loop-number.invariant

pub loop-number-init : goal.loop-number-init
loop-number-init c =
    subst (λ made. IsMerging c.args.constants.now c.args.near.now 0 made c.args.constants.now) (sym c.in_ok-made.ensures.items)
    (merging_begins c.args.constants.now c.args.near.now c.requires.constants)

pub loop-number-preserved : goal.loop-number-preserved
loop-number-preserved c =
    merging_goes_on c.args.constants.now c.args.near.now c.loop-number.number-index c.loop-number.made.items c.loop-number.rest.now
    c.put64.new.made.items c.in_ok-rest.rest.now
    c.requires.near c.loop-number-test.true c.loop-number.invariant c.in_ok-rest.ensures.put

pub returns-clause-order : goal.returns-clause-order
returns-clause-order c =
    subst (IsSortedSet (c.args.constants.now ++ c.args.near.now)) (sym (c.from_vec.ensures ∙ c.in_ok-extend_from_slice.ensures.items))
    (merging_ends c.args.constants.now c.args.near.now c.loop-number.number-index c.loop-number.made.items c.loop-number.rest.now
    c.loop-number-test.false c.loop-number.invariant)
