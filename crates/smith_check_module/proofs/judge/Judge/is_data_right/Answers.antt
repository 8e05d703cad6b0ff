use Rattle.smith_check_module.proofs.Common.{ap, IfOk, IsTrue, seeing, seen_by_segments, spaces_in, subst, sym, ℕ, ◌↔◌, ◌∙◌, ◌≡◌}
use Rattle.smith_decode.specs.Data.{Data}
use Rattle.smith_decode.specs.DataReadings.{mode_view, segment_view}
use Rattle.smith_decode.specs.declared.data.DataSegment.{DataSegment}
use Rattle.smith_check_module.specs.ConstScopes.{IsScope, context_of}
use Rattle.smith_check_module.specs.ValidModules.{IsDataModeValid}
use Rattle.smith_check_module.specs.declared.scope.Scope.{Scope}
use Rattle.smith_check_module.proofs.JudgeLemmas.{judge_standing, mapped_decided}
use Rattle.smith_check_module.proofs.judge.Judge.is_data_right.Goals as goal

pub is_data_mode_valid-requires : goal.is_data_mode_valid-requires
is_data_mode_valid-requires c =
    subst (λ (s : Scope). IsScope (context_of s)) (sym c.seeing-scope.ensures)
    (judge_standing c.args.self.now c.requires.judge c.requires.valid)

pub returns-clause-decided : goal.returns-clause-decided
returns-clause-decided c =
    let seen : c.seeing-scope.result ≡ record c.args.self.now.scope { visible = seen_by_segments (context_of c.args.self.now.scope) } =
    c.seeing-scope.ensures ∙ ap (λ (n : ℕ). record c.args.self.now.scope { visible = n }) c.visible_to.ensures in
    mapped_decided (λ (segment : Data). IsDataModeValid (seeing (context_of c.args.self.now.scope)
    (seen_by_segments (context_of c.args.self.now.scope))) c.args.self.now.scope.indices.now (spaces_in c.args.self.now.spaces.now)
    segment.mode) segment_view c.args.self.now.module.now.datas c.args.index c.index-as_slice-index.result c.requires.inside
    (rw c.as_slice.ensures at c.index-as_slice-index.is) c.is_data_mode_valid.result
    (subst (λ (s : Scope). IfOk c.is_data_mode_valid.result (λ yes. IsTrue yes
    ↔ IsDataModeValid (context_of s) s.indices.now (spaces_in c.args.self.now.spaces.now) (mode_view c.index-as_slice-index.result.mode)))
    seen (subst (λ (item : DataSegment). IfOk c.is_data_mode_valid.result (λ yes. IsTrue yes
    ↔ IsDataModeValid (context_of c.seeing-scope.result) c.seeing-scope.result.indices.now (spaces_in c.args.self.now.spaces.now)
    (mode_view item.mode))) (sym c.index-as_slice-index.is) c.is_data_mode_valid.ensures.decided))
