use Rattle.smith_bytes.proofs.GrowingLoop.{IsGrowing}
use Rattle.smith_custom_sections.specs.CustomDraws.{custom_section_at, custom_sections_at}
use Rattle.smith_custom_sections.proofs.draws.draw_sections.Given as goal

abbrev pub invariant-loop-made : goal.invariant-loop-made
invariant-loop-made l = IsGrowing (λ _. custom_section_at) 0 8 l.made l.customs l.fn.u l.u (custom_sections_at l.fn.u)
