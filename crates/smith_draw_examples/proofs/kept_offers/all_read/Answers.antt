use Rattle.std.proofs.Common.{rules, ◌≡◌, List, refl, subst, sym, ◌∙◌}
use Rattle.std.specs.Prelude.{IfSome, Option, None, Some, slice_get}
use Rattle.smith_types.specs.Expressions.{Context}
use Rattle.smith_types.specs.ExampleContexts.{context_with}
use Rattle.smith_types.specs.ExampleFeatures.{usual_features}
use Rattle.smith_types.specs.Syntax.value_type.ValType.TheVariants.{I32}
use Rattle.smith_draw_types.specs.Below.{is_heap_below}
use Rattle.smith_draw_types.specs.Offered.{ancestors}
use Rattle.smith_draw_consts.specs.KeptOffers.{AreAllRead, IsWhole, IsWholeAt}
use Rattle.smith_draw_consts.specs.declared.kept_offers.KeptOffer.{KeptOffer}
use Rattle.smith_draw_consts.specs.declared.kept_offers.ManyItems.{ManyItems}
use Rattle.smith_draw_examples.specs.ExampleKeptOffers.{numbers}
use Rattle.smith_draw_examples.proofs.kept_offers.all_read.Goals as goal

abbrev context : Context
context = context_with usual_features 3

numbers_whole : IsWhole context I32 numbers
unfolding is_heap_below ancestors
numbers_whole = search rules

pub returns-clause-many : goal.returns-clause-many
returns-clause-many c = λ kept many is all are.
    let there : slice_get many.kept.items 1 ≡ Some numbers = subst (λ (entries : List KeptOffer). slice_get entries 1 ≡ Some numbers)
    (sym are) refl in
    record {
      few = λ none. let wrong : None ≡ Some many = sym none ∙ is in cc;
      many = subst (λ (o : Option ManyItems). IfSome o (λ many. AreAllRead context many.items)) (sym is) all;
      counted = subst (λ (o : Option ManyItems). IfSome o (λ many. IsWholeAt context many.kept.items 1 I32)) (sym is)
          (numbers, there, numbers_whole);
    }
