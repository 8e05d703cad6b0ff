use Rattle.smith_binary_law.proofs.Common.{[], All-from_recursion, arith, Each, I32, inl, inr, IsRun, refl, subst, sym, ◌∷◌}
use Rattle.std.specs.Prelude.{Any}
use Rattle.smith_binary_sections.specs.Long.{IsNeverLong}
use Rattle.smith_binary_sections.proofs.SizeLemmas.{AtMost, bytes_within, joined_within, none_within, not_long, no_long_items}
use Rattle.smith_binary_sections.proofs.SizeLemmas.{number_within, one_long_item, one_within}
use Rattle.smith_instr.specs.declared.instr.Instr.TheVariants as instr
use Rattle.smith_binary_instr.specs.Instructions.{IsExprWritten}
use Rattle.smith_binary_instr.specs.Long.{IsLongFunc, IsLongInstr}
use Rattle.smith_binary_law.specs.ExampleInstructions.{load_word}
use Rattle.smith_binary_law.proofs.examples.bodies.lengths_of_bodies.Goals as goal

nop_within : AtMost 2 (IsExprWritten (instr.Nop ∷ []))
unfolding Each
nop_within = joined_within 1 1 (joined_within 1 0 (bytes_within (0x01 ∷ [])) (bytes_within [])) (bytes_within (0x0B ∷ []))

run_within : AtMost 6 (IsRun (1, I32))
run_within = joined_within 5 1 (number_within 1) (bytes_within (0x7F ∷ []))

-- the format has a form of `nop`
nop_short : Any IsLongInstr (instr.Nop ∷ []) → ⊥
nop_short (k, x, inside, is, long) = All-from_recursion (λ y. IsLongInstr y → ⊥) (instr.Nop ∷ []) ((λ h. h), tt) k x inside
    (subst IsLongInstr (sym is) long)

no_local_short : IsLongFunc [] (instr.Nop ∷ []) → ⊥
no_local_short (inl long) = no_long_items IsNeverLong long
no_local_short (inr (inl long)) = nop_short long
no_local_short (inr (inr long)) = not_long 7 (omega arith) (joined_within 5 2 (none_within (λ local. IsRun (1, local))) nop_within) long

one_local_short : IsLongFunc (I32 ∷ []) (instr.Nop ∷ []) → ⊥
one_local_short (inl long) = one_long_item IsNeverLong I32 (λ never. never) long
one_local_short (inr (inl long)) = nop_short long
one_local_short (inr (inr long)) = not_long 13 (omega arith) (joined_within 11 2 (one_within (λ local. IsRun (1, local)) I32 6 run_within)
    nop_within) long

pub returns-clause-no_local : goal.returns-clause-no_local
returns-clause-no_local c = no_local_short

pub returns-clause-one_local : goal.returns-clause-one_local
returns-clause-one_local c = one_local_short

pub returns-clause-many_locals : goal.returns-clause-many_locals
returns-clause-many_locals c = λ locals many. inl (inl many)

pub returns-clause-too_wide : goal.returns-clause-too_wide
returns-clause-too_wide c = inr (inl (0, load_word 64 0 0, omega arith, refl, omega arith))
