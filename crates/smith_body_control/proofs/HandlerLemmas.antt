-- Handlers leave a reference to an exception, which is dropped.
use Rattle.std.specs.Prelude.{nat_le}
use Rattle.smith_body_control.proofs.Common.{[], arith, BodyContext, both, IsNode, IsValBelow-refl, IsValid, List, no_valid, one_valid}
use Rattle.smith_body_control.proofs.Common.{range_at, refl, Some, three_wide, true, ℕ, ◌∷◌, ◌≡◌}
use Rattle.smith_instr.specs.declared.control.BlockType.TheVariants as block
use Rattle.smith_body_nodes.specs.declared.node.Opening.TheVariants as opening
use Rattle.smith_body_nodes.proofs.ReferenceChoiceLemmas.{nullable_valid}
use Rattle.smith_body_control.specs.BlockChoices.{any_block_at, exnref, handler, is_of_handler}
use Rattle.smith_body_control.specs.ThrowChoices.{exn, refers_to_exceptions}
use Rattle.smith_body_control.specs.TryChoices.{refers_to_caught}
use Rattle.smith_body_control.proofs.BlockNodeLemmas.{block_node}

pub handler_by : (context : BodyContext) (bytes left : List ℕ) (number : ℕ) → range_at 0 255 bytes ≡ (number, left)
    → is_of_handler context.features number ≡ true → any_block_at context bytes ≡ (Some handler, left)
unfolding any_block_at
handler_by context bytes left number drawn is = rw (drawn, is) refl

exnref_valid : (context : BodyContext) → refers_to_caught context.features ≡ true → IsValid context exnref
exnref_valid context refers =
    let (caught, not_null) = both (refers_to_exceptions context.features) context.features.function_references refers in
    let (on, exceptions) = both context.features.reference_types context.features.exceptions caught in
    nullable_valid context exn on (exceptions, λ h. cc)

pub handler_gives : (context : BodyContext) (set : List ℕ) (number : ℕ) → is_of_handler context.features number ≡ true
    → IsNode context set [] handler
handler_gives context set number is =
    let (high, refers) = both (nat_le 240 number) (refers_to_caught context.features) is in
    let valid = exnref_valid context refers in
    let one = one_valid context exnref valid in
    let none = no_valid context in
    let wide = three_wide context.types in
    block_node context set [] (exnref ∷ []) (Some opening.Block) (block.Value exnref) [] (exnref ∷ []) (valid, refl, refl)
    (IsValBelow-refl context.types exnref, tt)
    none one none one (omega arith) (omega arith)
