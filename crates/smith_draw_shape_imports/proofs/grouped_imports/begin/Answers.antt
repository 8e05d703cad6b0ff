use Rattle.std.proofs.lemmas.Result.{IfOk-weaker}
use Rattle.smith_draw_shape_imports.proofs.Common.{arith, features_of}
use Rattle.smith_draw_shape_imports.proofs.GroupedImportsLoop.{begun_one, begun_enabled}
use Rattle.smith_draw_shape_imports.proofs.grouped_imports.begin.Goals as goal

pub returns-clause-one : goal.returns-clause-one
returns-clause-one c = IfOk-weaker c.start_group.result _ _ (λ group is. rw is (begun_one c.draw_group_kind-kind.result c.args.first.now))
    c.start_group.ensures.group

pub returns-clause-valid : goal.returns-clause-valid
returns-clause-valid c = IfOk-weaker c.start_group.result _ _
    (λ group is. rw is (record {
      filled = rw (begun_one c.draw_group_kind-kind.result c.args.first.now) (omega arith);
      enabled = begun_enabled (features_of c.args.config.now) c.draw_group_kind-kind.result c.args.first.now
          c.draw_group_kind-kind.ensures.enabled;
    })) c.start_group.ensures.group
