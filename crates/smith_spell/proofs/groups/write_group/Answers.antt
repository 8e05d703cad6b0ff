use Rattle.smith_spell.proofs.Common.{on_ok_weaker}
use Rattle.smith_spell.proofs.GroupsWrittenLoop.{group_written}
use Rattle.smith_spell.proofs.groups.write_group.Goals as goal

pub returns-clause-writes : goal.returns-clause-writes
returns-clause-writes c =
    on_ok_weaker c.write_sub_types.result (λ members types summary. group_written c.args.config.now types c.args.before c.args.stands
    c.args.group.now summary c.in_ok-write_size.ensures.writes (members types summary))
    c.write_sub_types.ensures.writes
