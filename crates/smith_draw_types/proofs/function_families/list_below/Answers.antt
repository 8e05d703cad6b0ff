use Rattle.smith_draw_types.proofs.Common.{ap, false, is_index, ℕ, ◌∙◌, ◌≡◌}
use Rattle.smith_draw_types.proofs.FunctionListLemmas.{index_itself, index_other, listed_joined, listed_passed}
use Rattle.smith_draw_types.proofs.function_families.list_below.Goals as goal

pub returns-in_ok-push-clause-listed : goal.returns-in_ok-push-clause-listed
returns-in_ok-push-clause-listed c = λ test is h.
    let above = c.in-Some.above in
    let on = is above ∙ ap (is_index above) c.in-Some.is ∙ index_itself above in
    let off : (s : ℕ) → (s ≡ above → ⊥) → test s c.args.index ≡ false =
    λ s other. is s ∙ ap (is_index s) c.in-Some.is ∙ index_other s above other in
    listed_joined test c.args.index above c.extend_lists.new.lists.items c.index_mut.result.now c.push.new.self _ on off
    c.in_ok-extend_lists.ensures.long c.index_mut.ensures.value c.in_ok-push.ensures.items (c.extend_lists.ensures.kept test c.args.index h)

pub returns-in_default-clause-listed : goal.returns-in_default-clause-listed
returns-in_default-clause-listed c = λ test is h.
    listed_passed test c.args.index c.args.lists.now.items (λ s. is s ∙ ap (is_index s) c.in_default.is) h
