use Rattle.smith_encode.proofs.Common.{[], IsNestedExpr, on_ok_weaker, written_plain, ℕ, ◌∷◌}
use Rattle.smith_binary_sections.proofs.ListLemmas.{list_mapped}
use Rattle.smith_instr.specs.declared.instr.Instr.TheVariants.{Reference}
use Rattle.smith_instr.specs.declared.reference.ReferenceInstr.TheVariants.{Func}
use Rattle.smith_encode.specs.Nesting.{is_nested}
use Rattle.smith_encode.proofs.CheckedLemmas.{list_passes}
use Rattle.smith_encode.proofs.elements.write_exprs.Goals as goal

pub returns-in-Functions-clause-writes : goal.returns-in-Functions-clause-writes
returns-in-Functions-clause-writes c =
    rw c.in-Functions.is (on_ok_weaker c.encode.result (written_plain (λ piece h all.
    list_mapped IsNestedExpr (λ (index : ℕ). Reference (Func index) ∷ []) _ piece h))
    (rw c.as_slice.ensures at c.encode.ensures.writes))

pub returns-in-Expressions-clause-writes : goal.returns-in-Expressions-clause-writes
returns-in-Expressions-clause-writes c =
    rw c.in-Expressions.is (on_ok_weaker c.encode-in-Expressions.result (written_plain (λ piece h all.
    list_passes is_nested IsNestedExpr _ piece all h))
    (rw c.as_slice-in-Expressions.ensures at c.encode-in-Expressions.ensures.writes))
