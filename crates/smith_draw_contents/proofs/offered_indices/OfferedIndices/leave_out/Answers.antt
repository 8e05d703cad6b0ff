use Rattle.std.proofs.lemmas.Result.{on_ok_weaker}
use Rattle.smith_draw_contents.proofs.OfferedIndexLemmas.{one_left_out}
use Rattle.smith_draw_contents.proofs.offered_indices.OfferedIndices.leave_out.Goals as goal

pub returns-clause-ok : goal.returns-clause-ok
returns-clause-ok c =
    rw (← c.self.view_is)
    (on_ok_weaker c.push.result (one_left_out c.self.inside.count c.self.inside.skipped c.self.invariant c.push.new.self)
    c.push.ensures.ok)
