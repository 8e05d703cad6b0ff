-- The chosen block, by the drawn places.
use Rattle.smith_body_control.proofs.Common.{[], BodyContext, false, FuncType, indexed, length, List, None, Option, range_at, refl}
use Rattle.smith_body_control.proofs.Common.{slice_get, Some, ValType, ℕ, ◌∷◌, ◌≡◌}
use Rattle.std.specs.Prelude.{slice_index_or, ◌%◌}
use Rattle.smith_instr.specs.declared.control.BlockType.TheVariants as block
use Rattle.smith_body_nodes.specs.Nodes.{blocked}
use Rattle.smith_body_nodes.specs.Offered.{func_in}
use Rattle.smith_body_nodes.specs.declared.node.Opening.{Opening}
use Rattle.smith_body_control.specs.BlockChoices.{any_block_at, any_block_node, block_at, is_of_handler, opening_at, openings}

-- a block
pub block_by : (wanted : ValType) (bytes left : List ℕ) (opening : Option Opening) → opening_at bytes ≡ (opening, left)
    → block_at wanted bytes ≡ (Some (blocked opening (block.Value wanted) [] (wanted ∷ []) 0), left)
unfolding block_at
block_by wanted bytes left opening drawn = rw drawn refl

pub any_block_by : (context : BodyContext) (bytes middle left : List ℕ) (number : ℕ) (opening : Option Opening) (index : ℕ)
    (o : Option FuncType) → range_at 0 255 bytes ≡ (number, middle) → is_of_handler context.features number ≡ false
    → slice_index_or openings (number % 6) None ≡ opening → range_at 0 (indexed (length context.types)) middle ≡ (index, left)
    → func_in (slice_get context.types index) ≡ o → any_block_at context bytes ≡ (Some (any_block_node opening index o), left)
unfolding any_block_at
any_block_by context bytes middle left number opening index o drawn not_handler opened drawn' at =
    rw (drawn, not_handler, opened, drawn', at) refl
