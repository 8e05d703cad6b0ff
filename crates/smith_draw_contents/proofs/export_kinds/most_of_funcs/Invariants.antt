use Rattle.smith_draw_contents.proofs.Common.{All, take}
use Rattle.smith_draw_contents.specs.Exported.{IsFuncWithin}
use Rattle.smith_draw_contents.proofs.export_kinds.most_of_funcs.Given as goal

abbrev pub invariant-loop-func : goal.invariant-loop-func
invariant-loop-func l = All (IsFuncWithin l.types.types l.most) (take l.func-index l.funcs)
