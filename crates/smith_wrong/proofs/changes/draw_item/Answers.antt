use Rattle.smith_wrong.proofs.ChangeLemmas.{item_change, item_family}
use Rattle.smith_wrong.proofs.changes.draw_item.Goals as goal

pub returns-in-Ok-Some-clause-change : goal.returns-in-Ok-Some-clause-change
returns-in-Ok-Some-clause-change c =
    item_change c.args.family c.in-Ok-Some.field-0 c.in-Ok-Some.place c.args.twin.now c.in-Ok.module c.draw_change.new.module
    c.write_file.result c.in-Ok-Some.field-0-is (record { spelled = c.in-Ok.ensures.sound; read = c.in-Ok.ensures.exact.0 })
    c.in-Ok-Some.ensures.drawn c.write_file.ensures.spelled c.write_file.ensures.same

pub returns-in-Ok-Some-clause-family : goal.returns-in-Ok-Some-clause-family
returns-in-Ok-Some-clause-family c = item_family c.args.family c.in-Ok-Some.place c.write_file.result c.write_file.ensures.same
