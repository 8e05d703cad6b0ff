use Rattle.smith_draw_contents.proofs.Common.{arith, spaces_in}
use Rattle.smith_draw_contents.proofs.CandidateLemmas.{other_place}
use Rattle.smith_draw_contents.proofs.export_kinds.candidate_at.Goals as goal

pub overflow_cast-result : goal.overflow_cast-result
overflow_cast-result c =
    let own = other_place c.args.types.now.types (spaces_in c.args.spaces.now) c.args.left c.args.kind c.args.place c.requires.may.items
    c.in_default.not-Func c.requires.within in
    omega (arith, own.few)

pub returns-in_default : goal.returns-in_default
returns-in_default c = (other_place c.args.types.now.types (spaces_in c.args.spaces.now) c.args.left c.args.kind c.args.place
    c.requires.may.items c.in_default.not-Func c.requires.within).same
