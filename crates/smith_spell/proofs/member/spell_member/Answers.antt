use Rattle.smith_spell.proofs.WrittenLemmas.{written_whole}
use Rattle.smith_spell.proofs.MemberWrittenLemmas.{member_unshared, member_written}
use Rattle.smith_spell.proofs.member.spell_member.Goals as goal

pub write_funcs-requires-clause-unshared : goal.write_funcs-requires-clause-unshared
write_funcs-requires-clause-unshared c =
    rw c.requires.types (member_unshared c.args.config.now c.args.groups.now c.args.funcs.now c.requires.member)

pub write_funcs-requires-clause-valid : goal.write_funcs-requires-clause-valid
write_funcs-requires-clause-valid c = rw c.requires.types c.requires.member.each_func

pub returns-clause-spelled : goal.returns-clause-spelled
returns-clause-spelled c =
    written_whole
    (member_written c.args.config.now c.args.groups.now c.args.funcs.now (rw c.new-bytes.ensures at c.in_ok-write_groups.ensures.writes)
    c.in_ok-write_no_imports.ensures.writes
    (rw c.requires.types at c.in_ok-write_no_tag.ensures.writes) (rw c.requires.types at c.in_ok-write_funcs.ensures.writes))
