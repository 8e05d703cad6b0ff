use Rattle.smith_draw_types.proofs.Common.{arith, length, refl, rules, ◌<◌}
use Rattle.smith_draw_types.specs.Grounding.{functions_of}
use Rattle.smith_draw_types.proofs.EarlyGroundLemmas.{early_grown, extends_self, extends_both}
use Rattle.smith_draw_types.proofs.GroupsLoop.{group_adds, least_go, least_full}
use Rattle.smith_draw_types.proofs.rec_group.add_least_types.Goals as goal

pub loop-types-init : goal.loop-types-init
loop-types-init c = record {
  so_far = record { turns = c.args.config.now.min_types; enough = omega arith; so_far = refl; left = λ whole h. h };
  longer = extends_self c.args.types.now.types;
}

pub add_rec_group-requires-clause-grounds : goal.add_rec_group-requires-clause-grounds
add_rec_group-requires-clause-grounds c = early_grown (functions_of c.args.config.now c.args.grounds.now) c.args.types.now.types
    c.loop-types.types.types c.args.grounds.now c.loop-types.invariant.longer c.requires.grounds

pub loop-types-smaller : goal.loop-types-smaller
loop-types-smaller c =
    let sound = c.types.ensures.sound in
    let few = rw c.types.ensures.value at c.loop-types-test.true in
    let longer : length c.loop-types.types.types < length c.add_rec_group.new.types.types =
    group_adds c.args.config.now (functions_of c.args.config.now c.args.grounds.now) c.loop-types.types c.add_rec_group.new.types
    c.loop-types.u c.add_rec_group.new.u (record { consecutive = sound.consecutive; within = sound.within }) (omega arith)
    c.in_ok-add_rec_group.ensures.draws.exact in
    omega arith

pub loop-types-preserved : goal.loop-types-preserved
loop-types-preserved c =
    let sound = c.types.ensures.sound in
    let few = rw c.types.ensures.value at c.loop-types-test.true in
    let longer : length c.loop-types.types.types < length c.add_rec_group.new.types.types =
    group_adds c.args.config.now (functions_of c.args.config.now c.args.grounds.now) c.loop-types.types c.add_rec_group.new.types
    c.loop-types.u c.add_rec_group.new.u (record { consecutive = sound.consecutive; within = sound.within }) (omega arith)
    c.in_ok-add_rec_group.ensures.draws.exact in
    record {
      so_far = least_go c.loop-types.invariant.so_far few c.in_ok-add_rec_group.ensures.draws.exact longer
          c.in_ok-add_rec_group.ensures.draws.left;
      longer = extends_both c.loop-types.invariant.longer c.in_ok-add_rec_group.ensures.grown;
    }

pub returns-clause-draws : goal.returns-clause-draws
returns-clause-draws c = record {
  exact = least_full c.loop-types.invariant.so_far (rw c.types.ensures.value at c.loop-types-test.false);
  memory = search rules;
  left = search rules;
}
