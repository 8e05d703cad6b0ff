use Rattle.smith_draw_types.proofs.Common.{ap, arith, GroupedTypes, grow_full, rules, ◌∙◌}
use Rattle.smith_draw_types.specs.SubTypes.{HasSuperType}
use Rattle.smith_draw_types.specs.Grounding.{functions_of}
use Rattle.smith_draw_types.proofs.EarlyGroundLemmas.{early_grown, extends_one}
use Rattle.smith_draw_types.proofs.UntilLoop.{until_go}
use Rattle.smith_draw_types.proofs.ValueTypeLemmas.{drawn_is}
use Rattle.smith_draw_types.proofs.SubTypeLemmas.{sub_type_follows}
use Rattle.smith_draw_types.proofs.rec_group.add_types.Goals as goal

pub draw_sub_type-requires : goal.draw_sub_type-requires
draw_sub_type-requires c = early_grown (functions_of c.args.config.now c.args.grounds.now) c.args.types.now.types c.loop-made.types.types
    c.args.grounds.now c.loop-made.invariant.longer c.requires.grounds

pub add_type-requires : goal.add_type-requires
add_type-requires c = record {
  below = (drawn_is (HasSuperType c.loop-made.types.types) _ (sub_type_follows _ _ _ _) c.in_ok-added.ensures.exact).below;
  room = let len = c.loop-made.invariant.grown.len in omega arith;
}

pub loop-made-preserved : goal.loop-made-preserved
loop-made-preserved c = record {
  grown = until_go c.loop-made.invariant.grown c.loop-made-test.true c.in_ok-added.ensures.exact
      (ap (λ (s : GroupedTypes). s.types) c.in_ok-add_type.ensures.ok) c.in_ok-added.ensures.left;
  groups = ap (λ (s : GroupedTypes). s.groups) c.in_ok-add_type.ensures.ok ∙ c.loop-made.invariant.groups;
  longer = extends_one _ c.loop-made.invariant.longer (ap (λ (s : GroupedTypes). s.types) c.in_ok-add_type.ensures.ok);
}

pub returns-clause-draws : goal.returns-clause-draws
returns-clause-draws c = record {
  exact = grow_full c.loop-made.invariant.grown c.loop-made-test.false;
  memory = search rules;
  left = search rules;
}
