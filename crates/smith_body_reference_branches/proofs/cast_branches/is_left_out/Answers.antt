use Rattle.smith_body_reference_branches.proofs.Common.{sym, ◌∙◌}
use Rattle.smith_body_reference_branches.proofs.CastBranchLemmas.{left_out_by, left_out_never}
use Rattle.smith_body_reference_branches.proofs.cast_branches.is_left_out.Goals as goal

pub returns-then-not-is_exception-clause-exact : goal.returns-then-not-is_exception-clause-exact
returns-then-not-is_exception-clause-exact c = left_out_never c.args.to.heap_type c.args.u.now
    (sym c.is_exception.ensures ∙ c.if-not-is_exception.true)

pub returns-clause-exact : goal.returns-clause-exact
returns-clause-exact c =
    left_out_by c.args.to.heap_type c.args.u.now _ c.int_in_range.result (sym c.is_exception.ensures ∙ c.if-not-is_exception.false)
    (rw (c.new.ensures.start, c.new.ensures.end) at c.int_in_range.ensures.exact)
