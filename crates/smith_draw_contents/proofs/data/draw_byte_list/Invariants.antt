use Rattle.smith_bytes.specs.ByteLists.{byte_list_at}
use Rattle.smith_bytes.specs.Draws.{whole_at}
use Rattle.smith_draw_contents.proofs.Common.{IsGrowing, length}
use Rattle.smith_draw_contents.proofs.data.draw_byte_list.Given as goal

abbrev pub invariant-loop-made : goal.invariant-loop-made
invariant-loop-made l = IsGrowing (λ _. whole_at 1) 0 (length l.fn.u) l.made l.bytes l.fn.u l.u (byte_list_at l.fn.u)
