use Rattle.smith_check_module.proofs.Common.{ap, arith, canonical_index, features_in, global_pair, GlobalType, IfOk, imported_spaces, Instr}
use Rattle.smith_check_module.proofs.Common.{IsTrue, length, List, seeing, subst, sym, syntax_of, ℕ, ◌+◌, ◌-◌, ◌↔◌, ◌∙◌, ◌≡◌}
use Rattle.std.specs.Prelude.{if◌then◌else◌}
use Rattle.smith_types.specs.Expressions.{seen_by_global}
use Rattle.smith_check_types.specs.Renamed.{renamed_val}
use Rattle.smith_check_module.specs.ConstScopes.{IsScope, context_of}
use Rattle.smith_check_module.specs.ValidModules.{IsConstant}
use Rattle.smith_check_module.specs.declared.scope.Scope.{Scope}
use Rattle.smith_check_module.proofs.JudgeLemmas.{judge_standing, mapped_decided}
use Rattle.smith_check_module.proofs.judge.Judge.is_global_initial_right.Goals as goal

pub is_global_initialised-requires : goal.is_global_initialised-requires
is_global_initialised-requires c =
    subst (λ (s : Scope). IsScope (context_of s)) (sym c.seeing-scope.ensures)
    (judge_standing c.args.self.now c.requires.judge c.requires.valid)

pub returns-clause-decided : goal.returns-clause-decided
returns-clause-decided c =
    let counted = c.requires.judge.counted in
    let known = c.requires.judge.imported_globals in
    let all : c.len.result ≡ length c.args.self.now.module.now.globals = c.len.ensures in
    let end : length c.args.self.now.scope.globals.now - c.len.result + c.args.index
    ≡ length (imported_spaces (syntax_of c.args.self.now.module.now).imports).globals + c.args.index = omega arith in
    let seen : c.seeing-scope.result ≡ record c.args.self.now.scope {
      visible = seen_by_global (context_of c.args.self.now.scope)
          (length (imported_spaces (syntax_of c.args.self.now.module.now).imports).globals + c.args.index);
    } =
    c.seeing-scope.ensures ∙ ap (λ (n : ℕ). record c.args.self.now.scope { visible = n }) (c.visible_to.ensures
    ∙ ap (λ (n : ℕ). if (features_in c.args.self.now.scope.features).gc then n else c.args.self.now.scope.imported_globals) end) in
    mapped_decided (λ (global : GlobalType × List Instr). IsConstant (seeing (context_of c.args.self.now.scope)
    (seen_by_global (context_of c.args.self.now.scope)
    (length (imported_spaces (syntax_of c.args.self.now.module.now).imports).globals + c.args.index))) c.args.self.now.scope.indices.now
    (renamed_val (canonical_index c.args.self.now.scope.indices.now) global.0.val_type) global.1) global_pair
    c.args.self.now.module.now.globals c.args.index c.index-as_slice-index.result c.requires.inside
    (rw c.as_slice.ensures at c.index-as_slice-index.is) c.is_global_initialised.result
    (subst (λ (s : Scope). IfOk c.is_global_initialised.result (λ yes. IsTrue yes ↔ IsConstant (context_of s) s.indices.now
    (renamed_val (canonical_index s.indices.now) c.index-as_slice-index.result.ty.val_type) c.index-as_slice-index.result.initial))
    seen c.is_global_initialised.ensures.decided)
