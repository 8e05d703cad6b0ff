use Rattle.smith_draw_consts.proofs.Common.{ℕ, ◌+◌, ◌≡◌, ◌≤◌}
use Rattle.smith_draw_consts.specs.KeptOffers.{IsTally}
use Rattle.smith_draw_consts.proofs.classes.Classes.count.Given as goal

abbrev pub invariant-loop-index : goal.invariant-loop-index
invariant-loop-index l = record {
  counted : (before : ℕ → ℕ) → IsTally before l.self.of l.flags → before l.index ≡ before l.first + l.count;
  few : l.first + l.count ≤ l.index;
}
