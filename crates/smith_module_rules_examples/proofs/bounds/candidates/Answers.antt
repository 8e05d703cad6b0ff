use Rattle.smith_module_rules_examples.proofs.Common.{◌≡◌, ℕ, [], ◌∷◌, Some, true, refl, slice_get, IsTrue, All-from_recursion, shared}
use Rattle.smith_module_rules_examples.proofs.Common.{SubType, foo_type, plain_function}
use Rattle.smith_module_rules_examples.proofs.bounds.candidates.Goals as goal

pub returns-clause-shared_functions : goal.returns-clause-shared_functions
returns-clause-shared_functions c =
    let function = record foo_type { composite_type = record { inner = plain_function; shared = true } } in
    All-from_recursion (λ (index : ℕ). (t : SubType) × (slice_get (function ∷ []) index ≡ Some t) × IsTrue (shared t)) (0 ∷ [])
    ((function, refl, refl), tt)
