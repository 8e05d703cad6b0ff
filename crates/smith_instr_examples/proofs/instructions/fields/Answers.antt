use Rattle.smith_instr_examples.proofs.Common.{[], ◌∷◌, refl, I64, I8, Val, final_type, struct, constant, variable, IsStructAt, function_of}
use Rattle.smith_instr_examples.proofs.instructions.fields.Goals as goal

struct_at : IsStructAt (function_of [] []).types 2 (constant I8 ∷ variable (Val I64) ∷ [])
struct_at = (final_type (struct (constant I8 ∷ variable (Val I64) ∷ [])), refl, refl)

pub returns-clause-packed : goal.returns-clause-packed
returns-clause-packed c = (
  constant I8,
  record { fields = constant I8 ∷ variable (Val I64) ∷ []; structure = struct_at; there = refl },
  tt,
  (refl, refl),
)

pub returns-clause-variable_is_set : goal.returns-clause-variable_is_set
returns-clause-variable_is_set c =
    (variable (Val I64), record { fields = constant I8 ∷ variable (Val I64) ∷ []; structure = struct_at; there = refl }, refl, (refl, refl))
