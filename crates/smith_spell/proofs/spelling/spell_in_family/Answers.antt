use Rattle.smith_spell.proofs.AnsweredLemmas.{on_refusal}
use Rattle.smith_spell.proofs.MemberLemmas.{groups_of_family, groups_alone}
use Rattle.smith_spell.proofs.spelling.spell_in_family.Goals as goal

pub returns-in_err-spell_member-clause-allowed : goal.returns-in_err-spell_member-clause-allowed
returns-in_err-spell_member-clause-allowed c =
    let found = rw c.in-Some.is at c.in_ok-space.ensures.found in
    on_refusal _ c.from_residual-in_err-spell_member.result (
      groups_alone c.args.config.now c.args.groups.now
          (groups_of_family c.args.config.now c.args.groups.now c.args.funcs.now found.1),
      found.1.few_funcs,
    )
