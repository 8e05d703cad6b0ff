use Rattle.smith_spell.proofs.Common.{arith, subst, SubType, sym}
use Rattle.smith_spell.specs.Family.{IsMemberType}
use Rattle.smith_spell.specs.Written.{OverSome}
use Rattle.smith_spell.proofs.SubTypesLoop.{leads_sub_types, summary_more, sub_types_written}
use Rattle.smith_spell.proofs.sub_types.write_sub_types.Goals as goal

pub write_sub_type-requires : goal.write_sub_type-requires
write_sub_type-requires c = subst (λ (t : SubType). OverSome c.args.limit (λ types. IsMemberType c.args.config.now types t))
    (sym c.t-item.is) (c.requires.members _ _ c.loop-t-test.true)

pub loop-t-preserved : goal.loop-t-preserved
loop-t-preserved c =
    let i = c.loop-t.t-index in
    let types = c.args.types.now in
    let so_far = c.loop-t.invariant in
    let inside = c.loop-t-test.true in
    record {
      counted = omega (arith, so_far.counted, c.with_type-before.ensures.counted);
      summary = λ others h. summary_more others types i _ _ c.with_type-before.result inside c.t-item.is
          (c.with_type-before.ensures.summary _ (so_far.summary others h));
      leads = λ others h.
          leads_sub_types c.args.config.now others c.args.limit i types _ _ inside c.t-item.is (so_far.leads others h)
          (c.in_ok-write_sub_type.ensures.writes _ (so_far.summary others h));
    }

pub returns-clause-writes : goal.returns-clause-writes
returns-clause-writes c = λ others h. sub_types_written c.args.config.now others c.args.limit c.loop-t.t-index c.args.types.now
    c.loop-t-test.false (c.loop-t.invariant.leads others h)
