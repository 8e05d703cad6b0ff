-- A property of all drawn values holds for the result of a call.
use Rattle.smith_draw_types.proofs.Common.{IfOk-weaker, List, on_ok_weaker, OnOk, ℕ}
use Rattle.std.proofs.Common.{Result}
use Rattle.std.specs.Prelude.{IfOk}
use Rattle.smith_bytes.specs.declared.error.Error.{Error}
use Rattle.smith_draw_types.specs.Drawing.{Draws, DrawsInto}
use Rattle.smith_draw_types.proofs.ValueTypeLemmas.{drawn_is}

-- for a value that a call returns
pub of_drawn : {A : Type 0} (P : A → Type 0) {drawn : A × List ℕ} {result : Result A Error} {old new : List ℕ} → Draws drawn result old new
    → P drawn.0 → IfOk result P
of_drawn P {result = result} draws h = IfOk-weaker result _ P (λ _. drawn_is P _ h) draws.exact

-- for a state that a call leaves
pub of_state : {A : Type 0} (P : A → Type 0) {drawn : A × List ℕ} {state : A} {result : Result (Unit {0}) Error} {old new : List ℕ}
    → DrawsInto drawn state result old new → P drawn.0 → OnOk result (P state)
of_state P {result = result} draws h = on_ok_weaker result (drawn_is P _ h) draws.exact
