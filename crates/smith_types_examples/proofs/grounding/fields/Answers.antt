use Rattle.smith_types_examples.proofs.Common.{[], ◌∷◌, false, refl, inl, Concrete, I64, I8, Val, itself, final_type, struct, constant}
use Rattle.smith_types_examples.proofs.Common.{variable, anyref, grounded_at}
use Rattle.smith_types_examples.proofs.grounding.fields.Goals as goal

pub returns-clause-with_defaults : goal.returns-clause-with_defaults
returns-clause-with_defaults c =
    inl (
      0,
      grounded_at (final_type (struct (constant I8 ∷ variable (Val I64) ∷ constant (Val anyref) ∷ [])) ∷ []) false (Concrete 0) 0
          (final_type (struct (constant I8 ∷ variable (Val I64) ∷ constant (Val anyref) ∷ []))) refl refl itself,
    )
