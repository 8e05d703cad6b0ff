use Rattle.smith_draw_contents.proofs.Common.{arith, spaces_in}
use Rattle.smith_draw_contents.proofs.AllExportsLemmas.{length-every_item}
use Rattle.smith_draw_contents.proofs.all_exports.count_items.Goals as goal

pub returns : goal.returns
returns c = omega (arith, length-every_item (spaces_in c.args.spaces.now))
