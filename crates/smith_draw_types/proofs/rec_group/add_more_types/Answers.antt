use Rattle.smith_draw_types.proofs.Common.{ap, arith, Bool, length, refl, rules, ◌+◌, ◌∙◌}
use Rattle.smith_draw_types.specs.Grounding.{functions_of}
use Rattle.smith_draw_types.proofs.EarlyGroundLemmas.{early_grown, extends_self, extends_both}
use Rattle.smith_draw_types.proofs.GroupsLoop.{bool_takes, piece_short, more_go, more_stop, more_full}
use Rattle.smith_draw_types.proofs.rec_group.add_more_types.Goals as goal

pub loop-types-init : goal.loop-types-init
loop-types-init c = record {
  so_far = record { turns = length c.args.u.now + 1; enough = omega arith; so_far = refl; left = λ whole h. h };
  longer = extends_self c.args.types.now.types;
}

pub add_rec_group-requires-clause-grounds : goal.add_rec_group-requires-clause-grounds
add_rec_group-requires-clause-grounds c = early_grown (functions_of c.args.config.now c.args.grounds.now) c.args.types.now.types
    c.loop-types.types.types c.args.grounds.now c.loop-types.invariant.longer c.requires.grounds

pub loop-types-smaller : goal.loop-types-smaller
loop-types-smaller c =
    let taken = bool_takes c.loop-types.u c.arbitrary.new.self (c.arbitrary.ensures.exact ∙ ap (λ (b : Bool). (b, c.arbitrary.new.self))
    c.if-not-arbitrary.false) in
    let rest = piece_short c.in_ok-add_rec_group.ensures.draws.left in
    omega arith

pub loop-types-preserved : goal.loop-types-preserved
loop-types-preserved c = record {
  so_far = more_go c.loop-types.invariant.so_far (rw c.types.ensures.value at c.loop-types-test.true) c.arbitrary.ensures.exact
      c.if-not-arbitrary.false c.in_ok-add_rec_group.ensures.draws.exact c.arbitrary.ensures.left c.in_ok-add_rec_group.ensures.draws.left;
  longer = extends_both c.loop-types.invariant.longer c.in_ok-add_rec_group.ensures.grown;
}

pub returns-then-not-arbitrary : goal.returns-then-not-arbitrary
returns-then-not-arbitrary c = record {
  exact = more_stop c.loop-types.invariant.so_far (rw c.types.ensures.value at c.loop-types-test.true)
      c.arbitrary.ensures.exact c.if-not-arbitrary.true;
  memory = search rules;
  left = search rules;
}

pub returns : goal.returns
returns c = record {
  exact = more_full c.loop-types.invariant.so_far (rw c.types.ensures.value at c.loop-types-test.false);
  memory = search rules;
  left = search rules;
}
