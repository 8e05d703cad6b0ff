use Rattle.smith_spell.proofs.Common.{ap, List, rules, space_of, subst, SubType, sym, ◌∙◌, ◌≡◌}
use Rattle.smith_validity.specs.Decided.{AreFuncsValid}
use Rattle.smith_spell.proofs.AnsweredLemmas.{on_refusal}
use Rattle.smith_spell.proofs.MemberLemmas.{groups_of_family, family_of_groups, groups_alone}
use Rattle.smith_spell.proofs.family.member_space.Goals as goal

pub returns-then-not-are_groups_in_family-clause-found : goal.returns-then-not-are_groups_in_family-clause-found
returns-then-not-are_groups_in_family-clause-found c = λ h.
    let yes = c.are_groups_in_family.ensures.1 (groups_of_family c.args.config.now c.args.groups.now c.args.funcs.now h) in
    let no = c.if-not-are_groups_in_family.true in
    search rules

pub returns-then-not-are_funcs_valid-clause-found : goal.returns-then-not-are_funcs_valid-clause-found
returns-then-not-are_funcs_valid-clause-found c = λ h.
    let found : c.in-Some.space ≡ space_of c.args.groups.now = rw c.in-Some.is at c.in_ok-space.ensures.found in
    let same : c.types.result.now ≡ (space_of c.args.groups.now).types = c.types.ensures.value ∙ ap (λ space. space.types) found in
    let yes = c.are_funcs_valid.ensures.1 (subst (λ (types : List SubType). AreFuncsValid types c.args.funcs.now) (sym same)
    (record { each = h.each_func })) in
    let no = c.if-not-are_funcs_valid.true in
    search rules

pub returns-clause-found : goal.returns-clause-found
returns-clause-found c =
    let found : c.in-Some.space ≡ space_of c.args.groups.now = rw c.in-Some.is at c.in_ok-space.ensures.found in
    let same : c.types.result.now ≡ (space_of c.args.groups.now).types = c.types.ensures.value ∙ ap (λ space. space.types) found in
    let valid = subst (λ (types : List SubType). AreFuncsValid types c.args.funcs.now) same
    (c.are_funcs_valid.ensures.0 c.if-not-are_funcs_valid.false) in
    let parts = c.are_groups_in_family.ensures.0 c.if-not-are_groups_in_family.false in
    (found, family_of_groups c.args.config.now c.args.groups.now c.args.funcs.now parts c.if-funcs-config.false valid.each)

pub returns-in_err-space-clause-allowed : goal.returns-in_err-space-clause-allowed
returns-in_err-space-clause-allowed c =
    let parts = c.are_groups_in_family.ensures.0 c.if-not-are_groups_in_family.false in
    on_refusal _ c.from_residual.result (groups_alone c.args.config.now c.args.groups.now parts, c.if-funcs-config.false)
