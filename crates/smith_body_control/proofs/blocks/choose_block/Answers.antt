use Rattle.smith_body_control.proofs.Common.{where_stands}
use Rattle.smith_body_control.proofs.BlockNodeLemmas.{value_block}
use Rattle.smith_body_control.proofs.BlockChoiceLemmas.{block_by}
use Rattle.smith_body_control.proofs.blocks.choose_block.Goals as goal

pub returns-clause-offer : goal.returns-clause-offer
returns-clause-offer c =
    rw c.in_ok-node.ensures.exact (value_block (where_stands c.args.scope.now c.args.draft.now) c.args.draft.now.set.items
    c.draw_opening-opening.result c.args.wanted c.requires.wanted)

pub returns-clause-exact : goal.returns-clause-exact
returns-clause-exact c = rw c.in_ok-node.ensures.exact (block_by c.args.wanted c.args.u.now _ c.draw_opening-opening.result
    c.draw_opening-opening.ensures.exact)
