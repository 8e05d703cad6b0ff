use Rattle.smith_spell.proofs.Common.{on_ok_weaker}
use Rattle.smith_spell.proofs.SubTypesLoop.{declared_written}
use Rattle.smith_spell.proofs.sub_types.write_sub_type.Goals as goal

pub returns-clause-writes : goal.returns-clause-writes
returns-clause-writes c =
    on_ok_weaker c.write_inner.result
    (λ inner types summary. declared_written c.args.config.now types c.args.before c.args.limit c.args.t.now c.if-not-config.false
    c.requires summary c.in_ok-write_refusal.ensures.writes c.in_ok-write_bool.ensures.writes c.in_ok-write_unshared.ensures.writes
    inner)
    c.write_inner.ensures.writes
