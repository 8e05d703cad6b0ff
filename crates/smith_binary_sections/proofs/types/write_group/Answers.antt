use Rattle.smith_binary_sections.proofs.Common.{joined_written, on_ok_weaker}
use Rattle.smith_binary_sections.proofs.FormLemmas.{group_written}
use Rattle.smith_binary_sections.proofs.types.write_group.Goals as goal

pub returns-clause-writes : goal.returns-clause-writes
returns-clause-writes c =
    on_ok_weaker c.write_list.result
    (λ last. group_written c.args.group.now c.if-group-eq1.false (joined_written c.in_ok-write_byte.ensures.writes last))
    c.write_list.ensures.writes
