use Rattle.smith_draw_contents.proofs.Common.{arith, nat_le, rules}
use Rattle.std.proofs.lemmas.List.Sorted.{IsPartitionPoint-from_clause, IsPartitionedBy-leb}
use Rattle.smith_draw_contents.proofs.OfferedIndexLemmas.{length_offered, found_at}
use Rattle.smith_draw_contents.proofs.offered_indices.OfferedIndices.at.Goals as goal

pub overflow_cast-result : goal.overflow_cast-result
overflow_cast-result c =
    let inside = rw (← c.self.view_is) at c.requires in
    omega (arith, inside, length_offered c.self.inside.skipped c.self.inside.count, c.self.invariant.few)

pub overflow_add-result : goal.overflow_add-result
overflow_add-result c =
    let inside = rw (← c.self.view_is) at c.requires in
    let few = rw c.as_slice.ensures at c.partition_point-below.ensures.bound in
    omega (arith, inside, few, length_offered c.self.inside.skipped c.self.inside.count, c.self.invariant.few)

pub returns : goal.returns
returns c =
    let inside = rw (← c.self.view_is) at c.requires in
    let few = rw c.as_slice.ensures at c.partition_point-below.ensures.bound in
    let divided = IsPartitionPoint-from_clause (λ x. nat_le x c.args.place) _ _ c.partition_point-below.ensures.partitioned
    (rw (← c.as_slice.ensures) at (IsPartitionedBy-leb (λ x. x) c.self.inside.skipped c.args.place c.self.invariant.ordered))
    (λ a r f k. search rules) in
    rw (← c.self.view_is) (found_at c.self.inside.count c.self.inside.skipped c.self.invariant c.args.place _
    (omega (arith, inside, length_offered c.self.inside.skipped c.self.inside.count)) few (rw c.as_slice.ensures at divided))
