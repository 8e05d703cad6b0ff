use Rattle.smith_check_module.proofs.Common.{ap, IfOk, IsTrue, seeing, seen_by_segments, spaces_in, subst, sym, ℕ, ◌↔◌, ◌∙◌, ◌≡◌}
use Rattle.smith_decode.specs.ElementReadings.{element_view}
use Rattle.smith_check_module.specs.ConstScopes.{IsScope, context_of}
use Rattle.smith_check_module.specs.ValidModules.{IsElementValid}
use Rattle.smith_check_module.specs.declared.scope.Scope.{Scope}
use Rattle.smith_check_module.proofs.JudgeLemmas.{judge_standing, mapped_decided}
use Rattle.smith_check_module.proofs.judge.Judge.is_element_right.Goals as goal

pub is_element_valid-requires : goal.is_element_valid-requires
is_element_valid-requires c =
    subst (λ (s : Scope). IsScope (context_of s)) (sym c.seeing-scope.ensures)
    (judge_standing c.args.self.now c.requires.judge c.requires.valid)

pub returns-clause-decided : goal.returns-clause-decided
returns-clause-decided c =
    let seen : c.seeing-scope.result ≡ record c.args.self.now.scope { visible = seen_by_segments (context_of c.args.self.now.scope) } =
    c.seeing-scope.ensures ∙ ap (λ (n : ℕ). record c.args.self.now.scope { visible = n }) c.visible_to.ensures in
    mapped_decided (IsElementValid (seeing (context_of c.args.self.now.scope) (seen_by_segments (context_of c.args.self.now.scope)))
    c.args.self.now.scope.indices.now (spaces_in c.args.self.now.spaces.now)) element_view c.args.self.now.module.now.elements c.args.index
    c.index-as_slice-index.result c.requires.inside (rw c.as_slice.ensures at c.index-as_slice-index.is) c.is_element_valid.result
    (subst (λ (s : Scope). IfOk c.is_element_valid.result (λ yes. IsTrue yes
    ↔ IsElementValid (context_of s) s.indices.now (spaces_in c.args.self.now.spaces.now) (element_view c.index-as_slice-index.result)))
    seen c.is_element_valid.ensures.decided)
