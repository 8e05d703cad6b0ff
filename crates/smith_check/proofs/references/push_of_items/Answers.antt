use Rattle.smith_check.proofs.Common.{ap, flat_map, List, subst, sym, ℕ, ◌++◌, ◌∙◌, ◌≡◌}
use Rattle.std.specs.Prelude.{OnOk}
use Rattle.smith_decode.specs.ElementReadings.{items_view}
use Rattle.smith_decode.specs.declared.elements.ElementItems.{ElementItems}
use Rattle.smith_check.specs.References.{named_in}
use Rattle.smith_check.proofs.ReferenceLemmas.{named_in_functions}
use Rattle.smith_check.proofs.references.push_of_items.Goals as goal

pub returns-in-Functions-clause-named : goal.returns-in-Functions-clause-named
returns-in-Functions-clause-named c =
    let same : c.as_slice.result.now ≡ flat_map named_in (items_view c.args.items.now) =
    c.as_slice.ensures ∙ sym (named_in_functions c.in-Functions.functions)
    ∙ ap (λ (items : ElementItems). flat_map named_in (items_view items)) (sym c.in-Functions.is) in
    subst (λ (fs : List ℕ). OnOk c.extend_from_slice.result (c.extend_from_slice.new.self ≡ c.args.named.now ++ fs)) same
    c.extend_from_slice.ensures.ok
