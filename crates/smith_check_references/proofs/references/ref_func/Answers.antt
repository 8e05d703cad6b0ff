use Rattle.smith_check_references.proofs.Common.{[], all_at, bare, false≢true, held, refl, some_same, subst, sym, To, ℕ, ◌∙◌, ◌∷◌}
use Rattle.smith_instr.specs.Contexts.{reference_to_function}
use Rattle.smith_instr.specs.declared.instr.Instr.TheVariants as instr
use Rattle.smith_check_references.proofs.RowLemmas.{tried_row, popped_given}
use Rattle.smith_instr.specs.declared.reference.ReferenceInstr.TheVariants as reference
use Rattle.smith_types.specs.Entities.{IsFuncTypeIndex}
use Rattle.smith_check_references.proofs.RowLemmas.{pops_none}
use Rattle.smith_check_references.proofs.references.ref_func.Goals as goal

pub push_function-requires-clause-index : goal.push_function-requires-clause-index
push_function-requires-clause-index c =
    all_at (IsFuncTypeIndex c.args.scope.now.types.now.types) c.args.scope.now.funcs.now c.args.function c.in-Some.index
    c.requires.scope.funcs (sym c.in-Some.ensures)

pub returns-then-not-is_declared-clause-ok : goal.returns-then-not-is_declared-clause-ok
returns-then-not-is_declared-clause-ok c = λ labels set before after covered s.
    let (these, those, has, is, also) = s.typed in
    false≢true (sym c.if-not-is_declared.true ∙ c.is_declared.ensures.1 has.2)

pub returns-clause-ok : goal.returns-clause-ok
returns-clause-ok c = λ labels set.
    let index = c.in-Some.index in
    tried_row (bare c.args.scope.now) labels (instr.Reference (reference.Func c.args.function)) set []
    (reference_to_function (bare c.args.scope.now) c.args.function index ∷ []) []
    (held c.args.operands.now) _ c.push_function.result (λ os rs t. t) (λ os rs t. t)
    (index, sym c.in-Some.ensures, c.is_declared.ensures.0 c.if-not-is_declared.false, (refl, refl))
    (λ os rs t. let (other, at, declared, fits) = t in
    subst (λ (i : ℕ). To os rs [] (reference_to_function (bare c.args.scope.now) c.args.function i ∷ []))
    (some_same other index (sym at ∙ sym c.in-Some.ensures)) fits)
    refl
    (popped_given (bare c.args.scope.now) [] (reference_to_function (bare c.args.scope.now) c.args.function index)
    (held c.args.operands.now) (held c.args.operands.now) _
    c.push_function.result (pops_none (bare c.args.scope.now) (held c.args.operands.now) c.requires.known) c.push_function.ensures.ok)
