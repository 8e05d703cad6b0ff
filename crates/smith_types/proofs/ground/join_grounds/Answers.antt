use Rattle.smith_types.proofs.Common.{◌∙◌}
use Rattle.smith_types.specs.declared.ground.Ground.{Ground}
use Rattle.smith_types.proofs.GroundLemmas.{grounds_closed, grounds_more}
use Rattle.smith_types.proofs.MarkLemmas.{said_last}
use Rattle.smith_types.proofs.ground.join_grounds.Goals as goal

pub returns-clause-grounds : goal.returns-clause-grounds
returns-clause-grounds c =
    rw c.push_reserved.ensures.items
    (grounds_more c.args.types.now c.args.added.now c.requires.orderly c.requires.follows c.args.grounds.now.items
    c.mark_above.new.grounds.items c.args.own c.supertype_if.result c.requires.own c.supertype_if.ensures c.requires.grounds
    (c.mark_above.ensures.marked (grounds_closed c.args.types.now c.args.grounds.now.items c.requires.grounds)))

pub returns-clause-last : goal.returns-clause-last
returns-clause-last c =
    let marks = c.mark_above.ensures.marked (grounds_closed c.args.types.now c.args.grounds.now.items c.requires.grounds) in
    rw c.push_reserved.ensures.items
    (said_last (λ (ground : Ground). ground.below) c.mark_above.new.grounds.items (record { own = c.args.own; below = c.args.own }) _
    (marks.long ∙ c.requires.grounds.long))
