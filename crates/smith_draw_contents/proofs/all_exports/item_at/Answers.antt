use Rattle.smith_draw_contents.proofs.Common.{arith, spaces_in}
use Rattle.smith_draw_contents.proofs.AllExportsLemmas.{length-every_item, func_at, table_at, memory_at, global_at, tag_at}
use Rattle.smith_draw_contents.proofs.all_exports.item_at.Goals as goal

pub returns-then-place-tables : goal.returns-then-place-tables
returns-then-place-tables c = func_at (spaces_in c.args.spaces.now) c.args.place (omega arith)

pub returns-then-place-memories : goal.returns-then-place-memories
returns-then-place-memories c = table_at (spaces_in c.args.spaces.now) c.args.place _ (omega arith) (omega arith)

pub returns-then-place-globals : goal.returns-then-place-globals
returns-then-place-globals c = memory_at (spaces_in c.args.spaces.now) c.args.place _ (omega arith) (omega arith)

pub returns-then-place-tags : goal.returns-then-place-tags
returns-then-place-tags c = global_at (spaces_in c.args.spaces.now) c.args.place _ (omega arith) (omega arith)

pub overflow_cast-result-2 : goal.overflow_cast-result-2
overflow_cast-result-2 c = omega (arith, length-every_item (spaces_in c.args.spaces.now))

pub returns : goal.returns
returns c = tag_at (spaces_in c.args.spaces.now) c.args.place _ (omega arith)
    (omega (arith, length-every_item (spaces_in c.args.spaces.now)))
