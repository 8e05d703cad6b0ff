use Rattle.wasm_smith_examples.proofs.Common.{◌≡◌, ℕ, [], ◌∷◌, refl, inr, slice_get, IsTrue, All-from_recursion, shared_type, plain_func}
use Rattle.wasm_smith_examples.proofs.Common.{shared, SubType, Some}
use Rattle.wasm_smith_examples.proofs.element_segments.enough.Goals as goal

pub returns-clause-of_shared_functions : goal.returns-clause-of_shared_functions
returns-clause-of_shared_functions c =
    inr (
      refl,
      All-from_recursion (λ (index : ℕ). (t : SubType) × (slice_get (shared_type plain_func ∷ []) index ≡ Some t)
          × IsTrue (shared t)) (0 ∷ []) ((shared_type plain_func, refl, refl), tt),
    )
