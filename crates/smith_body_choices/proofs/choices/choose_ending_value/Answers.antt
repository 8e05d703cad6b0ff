use Rattle.smith_body_choices.proofs.Common.{arith, ok_by, where_stands, ◌≡◌}
use Rattle.smith_body_nodes.proofs.NodeLemmas.{one_valid}
use Rattle.smith_body_nodes.specs.Scopes.{bare}
use Rattle.smith_body_choices.proofs.ChoiceLemmas.{ending_value_block, ending_value_ends}
use Rattle.smith_body_choices.proofs.choices.choose_ending_value.Goals as goal

pub returns-then-number-lt7-clause-exact : goal.returns-then-number-lt7-clause-exact
returns-then-number-lt7-clause-exact c =
    let drawn = rw (c.new.ensures.start, c.new.ensures.end) at c.int_in_range-number.ensures.exact in
    ok_by c.choose_block.result _ _ _ (ending_value_block (where_stands c.args.scope.now c.args.draft.now) c.args.wanted c.args.u.now _
    c.int_in_range-number.result drawn (omega (arith, c.if-number-lt7.true))) c.choose_block.ensures.exact

pub returns-clause-exact : goal.returns-clause-exact
returns-clause-exact c =
    let is : c.int_in_range-number.result ≡ 7 = omega (
      arith,
      c.int_in_range-number.ensures.within,
      c.new.ensures.start,
      c.new.ensures.end,
      c.if-number-lt7.false,
    ) in
    let drawn = rw (c.new.ensures.start, c.new.ensures.end, is) at c.int_in_range-number.ensures.exact in
    ok_by c.choose_ending.result _ _ _ (ending_value_ends (where_stands c.args.scope.now c.args.draft.now) c.args.wanted c.args.u.now _
    drawn) c.choose_ending.ensures.exact

pub returns-clause-offer : goal.returns-clause-offer
returns-clause-offer c = c.choose_ending.ensures.offer _ (one_valid (bare c.args.scope.now) c.args.wanted c.requires.wanted)
