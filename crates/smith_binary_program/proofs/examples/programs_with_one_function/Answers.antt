use Rattle.smith_binary_program.proofs.Common.{[], All-from_recursion, Any, arith, Body, Code, Each, inl, inr, refl, subst, sym, ◌∷◌}
use Rattle.smith_types.specs.Syntax.code.Instructions.TheVariants.{Unreachable}
use Rattle.smith_binary_sections.specs.Codes.{IsRun}
use Rattle.smith_binary_sections.specs.Long.{IsNeverLong}
use Rattle.smith_binary_sections.proofs.SizeLemmas.{AtMost, bytes_within, joined_within, none_within, not_long, no_long_items}
use Rattle.smith_binary_sections.proofs.SizeLemmas.{one_long_item, one_within, sized_within}
use Rattle.smith_binary_module.specs.ExampleModules.{one_function}
use Rattle.smith_binary_module.proofs.ExampleLemmas.{one_function_short}
use Rattle.smith_instr.specs.declared.instr.Instr.TheVariants as instr
use Rattle.smith_binary_instr.specs.Bodies.{IsFuncWritten}
use Rattle.smith_binary_instr.specs.Long.{IsLongInstr}
use Rattle.smith_program.specs.declared.program.Body.TheVariants as body
use Rattle.smith_binary_program.specs.Bodies.{IsBodyOf}
use Rattle.smith_binary_program.specs.Long.{IsLongBodyOf, IsLongDrawn, IsLongProgram}
use Rattle.smith_binary_program.proofs.examples.programs_with_one_function.Goals as goal

-- a function and its body
abbrev given : Code × Body
given = (record { locals = []; instructions = Unreachable }, body.Drawn (instr.Nop ∷ []))

content_within : AtMost 7 (IsFuncWritten [] (instr.Nop ∷ []))
unfolding Each
content_within = joined_within 5 2 (none_within (λ local. IsRun (1, local)))
    (joined_within 1 1 (joined_within 1 0 (bytes_within (0x01 ∷ [])) (bytes_within [])) (bytes_within (0x0B ∷ [])))

-- the format has a form of `nop`
nop_short : Any IsLongInstr (instr.Nop ∷ []) → ⊥
nop_short (k, x, inside, is, long) = All-from_recursion (λ y. IsLongInstr y → ⊥) (instr.Nop ∷ []) ((λ h. h), tt) k x inside
    (subst IsLongInstr (sym is) long)

body_short : IsLongDrawn [] [] (instr.Nop ∷ []) → ⊥
body_short (inl long) = no_long_items IsNeverLong long
body_short (inr (inl long)) = nop_short long
body_short (inr (inr long)) = not_long 7 (omega arith) content_within long

program_short : IsLongProgram (one_function (record { locals = []; instructions = Unreachable })) (body.Drawn (instr.Nop ∷ []) ∷ []) → ⊥
program_short (inl long) = one_function_short long
program_short (inr (inl long)) = one_long_item (IsLongBodyOf []) given body_short long
program_short (inr (inr long)) = not_long 17 (omega arith) (one_within (IsBodyOf []) given 12 (sized_within 7 content_within)) long

pub returns-clause-short : goal.returns-clause-short
returns-clause-short c = program_short

pub returns-clause-with_many_locals : goal.returns-clause-with_many_locals
returns-clause-with_many_locals c =
    λ locals many. inr (inl (inr (
      0,
      (record { locals = locals; instructions = Unreachable }, body.Drawn (instr.Nop ∷ [])),
      omega arith,
      refl,
      inl (inl many),
    )))
