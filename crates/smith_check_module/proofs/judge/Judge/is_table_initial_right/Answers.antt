use Rattle.smith_check_module.proofs.Common.{IfOk, IsTrue, seeing, subst, sym, table_pair, ◌↔◌}
use Rattle.smith_types.specs.Expressions.{seen_by_tables}
use Rattle.smith_check_module.specs.ConstScopes.{IsScope, context_of}
use Rattle.smith_check_module.specs.ValidModules.{IsTableInitialised}
use Rattle.smith_check_module.specs.declared.scope.Scope.{Scope}
use Rattle.smith_check_module.proofs.JudgeLemmas.{judge_standing, mapped_decided}
use Rattle.smith_check_module.proofs.judge.Judge.is_table_initial_right.Goals as goal

pub is_table_initialised-requires : goal.is_table_initialised-requires
is_table_initialised-requires c =
    subst (λ (s : Scope). IsScope (context_of s)) (sym c.seeing-scope.ensures)
    (judge_standing c.args.self.now c.requires.judge c.requires.valid)

pub returns-clause-decided : goal.returns-clause-decided
returns-clause-decided c =
    mapped_decided (IsTableInitialised (seeing (context_of c.args.self.now.scope) (seen_by_tables (context_of c.args.self.now.scope)))
    c.args.self.now.scope.indices.now) table_pair c.args.self.now.module.now.tables c.args.index c.index-as_slice-index.result
    c.requires.inside (rw c.as_slice.ensures at c.index-as_slice-index.is) c.is_table_initialised.result
    (subst (λ (s : Scope). IfOk c.is_table_initialised.result (λ yes. IsTrue yes
    ↔ IsTableInitialised (context_of s) s.indices.now (table_pair c.index-as_slice-index.result))) c.seeing-scope.ensures
    c.is_table_initialised.ensures.decided)
