use Rattle.std.proofs.Common.{rules, List, [], ◌∷◌, refl, subst, sym}
use Rattle.std.specs.Prelude.{All, Some}
use Rattle.std.proofs.lemmas.List.Elements.{All-head, All-nil, All-tail, All-from_recursion}
use Rattle.smith_types.specs.Expressions.{Context, function_reference}
use Rattle.smith_types.specs.ExampleContexts.{context_with}
use Rattle.smith_types.specs.ExampleFeatures.{usual_features}
use Rattle.smith_draw_types.specs.Below.{is_heap_below}
use Rattle.smith_draw_consts.specs.KeptOffers.{AreManyKept, IsEntry, IsKeptOffer, readable}
use Rattle.smith_draw_consts.specs.declared.kept_offers.KeptOffer.{KeptOffer}
use Rattle.smith_draw_consts.specs.declared.kept_offers.ManyItems.{ManyItems}
use Rattle.smith_draw_consts.proofs.ClassLemmas.{no_classes, no_flags}
use Rattle.smith_draw_examples.specs.ExampleKeptOffers.{HasEntries, numbers, functions, too_few_functions}
use Rattle.smith_draw_examples.proofs.kept_offers.offers.Goals as goal

abbrev context : Context
context = context_with usual_features 3

numbers_kept : IsKeptOffer context numbers
unfolding is_heap_below
numbers_kept = search rules

functions_kept : IsKeptOffer context functions
unfolding is_heap_below
functions_kept = search rules

too_few_not_kept : ¬ IsKeptOffer context too_few_functions
unfolding is_heap_below
too_few_not_kept = search rules

-- a record in which no item has been read is correct if its entries are
kept_of : (kept : ManyItems) (entries : List KeptOffer) → HasEntries kept entries → All (IsEntry context kept.items) entries
    → AreManyKept context kept
kept_of kept entries (globals, funcs, are) correct = record {
  items = record {
    globals = no_classes context.types (λ index global. readable global) context.globals kept.items.globals globals.0 globals.1;
    funcs = no_classes context.types (λ function index. Some (function_reference context function index)) context.funcs kept.items.funcs
        funcs.0 funcs.1;
  };
  entries = subst (λ (offers : List KeptOffer). All (IsEntry context kept.items) offers) (sym are) correct;
}

pub returns-clause-nothing_kept : goal.returns-clause-nothing_kept
returns-clause-nothing_kept c = λ kept is. kept_of kept [] is (All-nil (IsEntry context kept.items))

pub returns-clause-of_two_types : goal.returns-clause-of_two_types
returns-clause-of_two_types c = λ kept is.
    let first : IsEntry context kept.items numbers = record {
      kept = numbers_kept;
      globals = no_flags context.types numbers.wanted kept.items.globals.kinds [] refl;
      funcs = no_flags context.types numbers.wanted kept.items.funcs.kinds [] refl;
    } in
    let second : IsEntry context kept.items functions = record {
      kept = functions_kept;
      globals = no_flags context.types functions.wanted kept.items.globals.kinds [] refl;
      funcs = no_flags context.types functions.wanted kept.items.funcs.kinds [] refl;
    } in
    kept_of kept (numbers ∷ functions ∷ []) is (All-from_recursion (IsEntry context kept.items) (numbers ∷ functions ∷ [])
    (first, (second, tt)))

pub returns-clause-of_which_one_is_wrong : goal.returns-clause-of_which_one_is_wrong
returns-clause-of_which_one_is_wrong c = λ kept is all.
    let entries : All (IsEntry context kept.items) (numbers ∷ too_few_functions ∷ []) =
    subst (λ (offers : List KeptOffer). All (IsEntry context kept.items) offers) is.2 all.entries in
    too_few_not_kept (All-head (IsEntry context kept.items) too_few_functions []
    (All-tail (IsEntry context kept.items) numbers (too_few_functions ∷ []) entries)).kept
