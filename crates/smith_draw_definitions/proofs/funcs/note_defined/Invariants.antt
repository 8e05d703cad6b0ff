use Rattle.smith_draw_definitions.proofs.Common.{AreKeptGrounds, features_of, function_context, take, ℕ, ◌≤◌}
use Rattle.smith_draw_definitions.proofs.funcs.note_defined.Given as goal

abbrev pub invariant-loop-function : goal.invariant-loop-function
invariant-loop-function l =
    (imported : ℕ) → imported ≤ l.before
    → AreKeptGrounds (function_context (features_of l.config) l.types.types (take l.before l.funcs) imported) l.fn.grounds
    → AreKeptGrounds (function_context (features_of l.config) l.types.types (take l.function l.funcs) imported) l.grounds
