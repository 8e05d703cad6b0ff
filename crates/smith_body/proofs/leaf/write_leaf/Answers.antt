use Rattle.smith_body.proofs.Common.{[], false, on_ok_weaker, sym, true, where_stands, ◌∙◌, ◌∷◌}
use Rattle.smith_body.proofs.CreatedLemmas.{drawn_permitted, preferred_drawn, spare_drawn}
use Rattle.smith_body.proofs.ExactLemmas.{leaf_state}
use Rattle.smith_body_leaves.proofs.LeafChoiceLemmas.{leaf_permitted, leaf_preferred}
use Rattle.smith_body_leaves.proofs.PreferredLemmas.{preferred_is_found}
use Rattle.smith_body.proofs.leaf.write_leaf.Goals as goal

pub returns-in-Some-clause-exact : goal.returns-in-Some-clause-exact
returns-in-Some-clause-exact c =
    let drawn = leaf_preferred c.args.scope.now.config.now (where_stands c.args.scope.now c.args.draft.now) c.args.draft.now.set.items
    c.args.wanted c.args.u.now _ _ c.draw_any_leaf-leaf.result c.in-Some.preferred c.draw_any_leaf-leaf.ensures.exact
    c.in-Some.ensures.exact in
    on_ok_weaker c.write_instructions.result
    (λ longer. leaf_state c.args.scope.now c.args.wanted c.args.draft.now c.write_instructions.new.draft c.args.u.now _ _ drawn longer
    c.write_instructions.ensures.set c.write_instructions.ensures.same c.write_instructions.ensures.budget)
    c.write_instructions.ensures.out

pub returns-in-Some-clause-drawn : goal.returns-in-Some-clause-drawn
returns-in-Some-clause-drawn c =
    let found = preferred_is_found c.args.scope.now.config.now (where_stands c.args.scope.now c.args.draft.now) c.args.draft.now.set.items
    c.args.wanted c.draw_any_leaf-leaf.result _ _ c.in-Some.preferred c.in-Some.ensures.exact in
    on_ok_weaker c.write_instructions.result
    (λ longer. preferred_drawn c.in-Some.preferred c.requires.wanted c.in-Some.ensures.brief found longer c.write_instructions.ensures.set
    c.write_instructions.ensures.same c.write_instructions.ensures.budget)
    c.write_instructions.ensures.out

pub returns-then-is_allowed-clause-exact : goal.returns-then-is_allowed-clause-exact
returns-then-is_allowed-clause-exact c =
    let drawn = leaf_permitted c.args.scope.now.config.now (where_stands c.args.scope.now c.args.draft.now) c.args.draft.now.set.items
    c.args.wanted c.args.u.now _ _ c.draw_any_leaf-leaf.result true c.draw_any_leaf-leaf.ensures.exact c.in_default.ensures.exact
    (sym c.is_allowed.ensures.exact ∙ c.if-is_allowed.true) in
    on_ok_weaker c.write_instructions-then-is_allowed.result
    (λ longer. leaf_state c.args.scope.now c.args.wanted c.args.draft.now c.write_instructions-then-is_allowed.new.draft c.args.u.now _
    (c.draw_any_leaf-leaf.result ∷ []) drawn longer c.write_instructions-then-is_allowed.ensures.set
    c.write_instructions-then-is_allowed.ensures.same c.write_instructions-then-is_allowed.ensures.budget)
    (rw c.only.ensures at c.write_instructions-then-is_allowed.ensures.out)

pub returns-clause-exact : goal.returns-clause-exact
returns-clause-exact c =
    let drawn = leaf_permitted c.args.scope.now.config.now (where_stands c.args.scope.now c.args.draft.now) c.args.draft.now.set.items
    c.args.wanted c.args.u.now _ _ c.draw_any_leaf-leaf.result false c.draw_any_leaf-leaf.ensures.exact c.in_default.ensures.exact
    (sym c.is_allowed.ensures.exact ∙ c.if-is_allowed.false) in
    on_ok_weaker c.write_spare.result
    (λ longer. leaf_state c.args.scope.now c.args.wanted c.args.draft.now c.write_spare.new.draft c.args.u.now _ _ drawn longer
    c.write_spare.ensures.set c.write_spare.ensures.same c.write_spare.ensures.budget)
    c.write_spare.ensures.out

pub returns-then-is_allowed-clause-drawn : goal.returns-then-is_allowed-clause-drawn
returns-then-is_allowed-clause-drawn c =
    on_ok_weaker c.write_instructions-then-is_allowed.result
    (λ longer. drawn_permitted c.draw_any_leaf-leaf.result c.requires.wanted c.draw_any_leaf-leaf.ensures.typed
    (sym c.is_allowed.ensures.exact ∙ c.if-is_allowed.true) longer c.write_instructions-then-is_allowed.ensures.set
    c.write_instructions-then-is_allowed.ensures.same c.write_instructions-then-is_allowed.ensures.budget)
    (rw c.only.ensures at c.write_instructions-then-is_allowed.ensures.out)

pub returns-clause-drawn : goal.returns-clause-drawn
returns-clause-drawn c =
    on_ok_weaker c.write_spare.result
    (λ longer. spare_drawn c.requires.scope c.requires.wanted longer c.write_spare.ensures.set c.write_spare.ensures.same
    c.write_spare.ensures.budget)
    c.write_spare.ensures.out
