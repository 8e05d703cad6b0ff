-- What a correct record of few items says of one global.
use Rattle.std.proofs.Common.{◌≡◌, ℕ, ◌<◌, List, ap, sym, ◌∙◌, arith, length}
use Rattle.std.specs.Prelude.{Option, Some, slice_get}
use Rattle.smith_types.specs.Expressions.{Context}
use Rattle.smith_types.specs.Syntax.entity_type.GlobalType.{GlobalType}
use Rattle.smith_types.specs.Syntax.value_type.ValType.{ValType}
use Rattle.smith_draw_consts.specs.KeptOffers.{AreFewRead, readable}
use Rattle.smith_draw_consts.specs.declared.few_items.FewItems.{FewItems}
use Rattle.smith_draw_examples.specs.ExampleKeptOffers.{HasFew}

pub global_at : (context : Context) (few : FewItems) (kinds : List (Option ValType)) (funcs : List ℕ) (i : ℕ) (global : GlobalType)
    → HasFew few kinds funcs → AreFewRead context few → i < length kinds → slice_get context.globals i ≡ Some global
    → slice_get kinds i ≡ Some (readable global)
global_at context few kinds funcs i global has are inside at =
    ap (λ (all : List (Option ValType)). slice_get all i) (sym has.0) ∙ are.globals.same i global (omega (arith, inside, ap length has.0))
    at
