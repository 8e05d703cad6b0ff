use Rattle.wasm_smith_examples.proofs.Common.{[], ◌∷◌, length, length-append, ap, arith, refl, Listed, SpellsRest, joined, any_byte}
use Rattle.wasm_smith_examples.proofs.ReachedExamples.{function_first}
use Rattle.wasm_smith_examples.proofs.reach.sources.Goals as goal

pub returns-clause-a_function : goal.returns-clause-a_function
returns-clause-a_function c = function_first (255 ∷ [])

pub returns-clause-too_few_bytes : goal.returns-clause-too_few_bytes
returns-clause-too_few_bytes c = λ h. let short = ap length h.parts in omega (arith, short, length-append h.piece (255 ∷ []))

pub returns-clause-a_flag_after : goal.returns-clause-a_flag_after
unfolding SpellsRest Listed
returns-clause-a_flag_after c = record {
  may_stand = record { few_globals = omega arith; few_segments = omega arith; bulk = λ off. refl };
  piece = 1 ∷ [];
  after = 255 ∷ [];
  spelled = joined [] (1 ∷ []) refl
      (joined [] (1 ∷ []) refl
      (joined [] (1 ∷ []) refl (joined [] (1 ∷ []) refl (joined (1 ∷ []) [] (any_byte 1) (joined [] [] refl (joined [] [] refl refl))))));
  parts = refl;
}
