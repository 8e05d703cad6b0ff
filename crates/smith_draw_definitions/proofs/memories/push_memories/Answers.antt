use Rattle.smith_draw_definitions.proofs.Common.{All-push, features_of, IsMemoryValid, memtype_at, rules}
use Rattle.smith_config.specs.EntityBounds.{IsMemoryWithin}
use Rattle.smith_draw_types.proofs.CallerLemmas.{passes_but_imports}
use Rattle.smith_draw_definitions.specs.Definitions.{memories_at}
use Rattle.smith_draw_definitions.proofs.DefinedLemmas.{none_added, one_added}
use Rattle.smith_draw_definitions.proofs.DefinedLoop.{after_start, after_go, after_stop, after_full}
use Rattle.smith_draw_definitions.proofs.memories.push_memories.Goals as goal

pub loop-made-init : goal.loop-made-init
loop-made-init c = record {
  following = after_start (λ _. memtype_at c.args.config.now) c.args.config.now.min_memories c.args.config.now.max_memories
      c.args.memories.now c.args.u.now;
  valid = λ before. before;
  within = none_added (IsMemoryWithin c.args.config.now) c.args.memories.now;
}

pub returns-then-not-goes_on-clause-draws : goal.returns-then-not-goes_on-clause-draws
unfolding memories_at
returns-then-not-goes_on-clause-draws c =
    let count = c.len-before.ensures in
    record {
      exact = after_stop c.loop-made.invariant.following (rw (c.saturating_sub-made-end.ensures, count) at c.loop-made-test.true)
          (rw (c.saturating_sub-needed.ensures, count) at c.goes_on.ensures.exact) c.if-not-goes_on.true;
      memory = search rules;
      left = search rules;
    }

pub loop-made-preserved : goal.loop-made-preserved
loop-made-preserved c =
    let count = c.len-before.ensures in
    let pushed = c.in_ok-push.ensures.ok in
    record {
      following = after_go c.loop-made.invariant.following (rw (c.saturating_sub-made-end.ensures, count) at c.loop-made-test.true)
          (rw (c.saturating_sub-needed.ensures, count) at c.goes_on.ensures.exact) c.if-not-goes_on.false c.in_ok-memory.ensures.draws.exact
          pushed c.goes_on.ensures.left c.in_ok-memory.ensures.draws.left;
      valid = λ before. rw pushed (All-push (IsMemoryValid (features_of c.args.config.now)) _ _ (c.loop-made.invariant.valid before)
          (c.in_ok-memory.ensures.valid (passes_but_imports c.args.config.now c.requires.passes)));
      within = one_added (IsMemoryWithin c.args.config.now) c.in_ok-memory.memory c.loop-made.invariant.within pushed
          c.in_ok-memory.ensures.within;
    }

pub returns-clause-draws : goal.returns-clause-draws
unfolding memories_at
returns-clause-draws c =
    let count = c.len-before.ensures in
    record {
      exact = after_full c.loop-made.invariant.following (rw (c.saturating_sub-made-end.ensures, count) at c.loop-made-test.false)
          (rw count at c.discard_past_maximum.ensures.exact);
      memory = search rules;
      left = search rules;
    }
