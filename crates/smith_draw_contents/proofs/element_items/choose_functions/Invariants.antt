use Rattle.smith_draw_contents.proofs.Common.{chosen_at, IsGrowing}
use Rattle.smith_draw_contents.specs.ElementSegments.{chosen_functions_at}
use Rattle.smith_draw_contents.proofs.element_items.choose_functions.Given as goal

abbrev pub invariant-loop-made : goal.invariant-loop-made
invariant-loop-made l = IsGrowing (λ _. chosen_at 0 l.funcs.offered) l.config.min_elements l.most l.made l.items l.fn.u l.u
    (chosen_functions_at l.config l.funcs.offered l.most l.fn.u)
