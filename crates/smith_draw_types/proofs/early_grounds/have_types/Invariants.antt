use Rattle.smith_draw_types.proofs.Common.{slice_get, Some, ℕ, ◌<◌, ◌≡◌}
use Rattle.smith_draw_types.proofs.early_grounds.have_types.Given as goal

abbrev pub invariant-loop-function : goal.invariant-loop-function
invariant-loop-function l = (function index : ℕ) → function < l.function → slice_get l.funcs function ≡ Some index → index < l.count
