use Rattle.std.proofs.lemmas.Result.{IfErr-weaker, IfOk-weaker}
use Rattle.smith_wrong.proofs.WrongLemmas.{made, refused, twin_valid}
use Rattle.smith_wrong.proofs.wrong.Wrong.new.Goals as goal

pub break_twin-requires : goal.break_twin-requires
break_twin-requires c = twin_valid c.args.config c.args.u.now c.draw_twin.new.u c.in-Ok.twin.items c.in-Ok.ensures.twin

pub returns-in-Ok-clause-invalid : goal.returns-in-Ok-clause-invalid
returns-in-Ok-clause-invalid c =
    IfOk-weaker c.break_twin.result _ _ (λ wrong h. h.broken.invalid)
    (made c.args.config c.args.u.now c.draw_twin.new.u c.in-Ok.twin.items _ c.break_twin.result c.features-features.ensures.flags
    c.in-Ok.ensures.twin c.break_twin.ensures.twin c.break_twin.ensures.change c.break_twin.ensures.broken)

pub returns-in-Ok-clause-made : goal.returns-in-Ok-clause-made
returns-in-Ok-clause-made c =
    made c.args.config c.args.u.now c.draw_twin.new.u c.in-Ok.twin.items _ c.break_twin.result c.features-features.ensures.flags
    c.in-Ok.ensures.twin c.break_twin.ensures.twin c.break_twin.ensures.change c.break_twin.ensures.broken

pub returns-in-Ok-clause-refused : goal.returns-in-Ok-clause-refused
returns-in-Ok-clause-refused c =
    IfErr-weaker c.break_twin.result _ _
    (λ e why. refused c.args.config c.args.u.now c.draw_twin.new.u c.in-Ok.twin.items e c.in-Ok.ensures.twin why)
    c.break_twin.ensures.refused
