use Rattle.smith_spell.proofs.Common.{arith, lt-ltb}
use Rattle.smith_draw_types.specs.TypeUses.{is_tag_type}
use Rattle.smith_spell.proofs.MemberWrittenLemmas.{some_passes}
use Rattle.smith_spell.proofs.member.may_have_tags.Goals as goal

pub returns : goal.returns
returns c =
    let on = c.if-not-config.false in
    let some = lt-ltb 0 c.args.config.now.max_tags (omega (arith, c.if-config-eq0.false)) in
    rw (on, some, c.count_types.ensures) (some_passes is_tag_type 0 c.args.types.now)
