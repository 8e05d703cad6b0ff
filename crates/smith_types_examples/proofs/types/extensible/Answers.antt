use Rattle.smith_types_examples.proofs.Common.{◌≡◌, ℕ, zero, suc, ◌<◌, List, [], ◌∷◌, None, refl, arith, slice_index, HasDepth, root}
use Rattle.smith_types_examples.proofs.Common.{extensible_from, open_type, final_type, empty_struct}
use Rattle.smith_types_examples.proofs.types.extensible.Goals as goal

alone : (i : ℕ) → i < 1 → HasDepth (open_type None empty_struct ∷ []) i (slice_index (1 ∷ []) i)
alone zero inside = root {t = open_type None empty_struct} refl refl
alone (suc i) inside = absurd (omega (arith, inside))

pub returns-clause-a_type_on_its_own : goal.returns-clause-a_type_on_its_own
returns-clause-a_type_on_its_own c = record { depths = 1 ∷ []; known = record { long = refl; each = alone }; exact = refl }

none_final : (depths : List ℕ) → 0 ∷ [] ≡ extensible_from 0 (final_type empty_struct ∷ []) depths → ⊥
none_final [] e = cc
none_final (d ∷ depths) e = cc

pub returns-clause-a_final_one : goal.returns-clause-a_final_one
returns-clause-a_final_one c = λ kept. none_final kept.depths kept.exact
