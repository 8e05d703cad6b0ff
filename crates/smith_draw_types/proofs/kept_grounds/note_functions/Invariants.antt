use Rattle.smith_draw_types.proofs.Common.{AreFuncGrounds, take}
use Rattle.smith_draw_types.specs.Grounding.{standing_in, with_functions}
use Rattle.smith_draw_types.proofs.kept_grounds.note_functions.Given as goal

abbrev pub invariant-loop-function : goal.invariant-loop-function
invariant-loop-function l = AreFuncGrounds (with_functions (standing_in l.config l.spaces) (take l.function l.funcs)) l.grounds
