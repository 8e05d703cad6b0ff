use Rattle.std.proofs.Common.{rules}
use Rattle.smith_config.proofs.FaultLemmas.{passes_by, ordered_counts, few_counts}
use Rattle.smith_config.proofs.config.Config.passes.Goals as goal

pub returns-then-are_ordered : goal.returns-then-are_ordered
returns-then-are_ordered c =
    let ordered = c.are_ordered.ensures.0 c.if-are_ordered.true in
    (λ e. passes_by _ ordered (c.are_few.ensures.0 e), λ p. c.are_few.ensures.1 (few_counts _ p))

pub returns-else-are_ordered : goal.returns-else-are_ordered
returns-else-are_ordered c = (λ e. search rules, λ p. let yes = c.are_ordered.ensures.1 (ordered_counts _ p) in search rules)
