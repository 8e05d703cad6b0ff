-- The operands of a branch to a label.
use Rattle.smith_body_nodes.proofs.Common.{AreValid, get_or, length, List, refl, slice_get, Some, subst, sym, ValType, ℕ, ◌<◌, ◌≡◌, ◌≤◌}
use Rattle.std.proofs.lemmas.Option.{slice_get_read}
use Rattle.smith_body_nodes.specs.Scopes.{AreLabels, bare, widest}
use Rattle.smith_body_nodes.specs.declared.scope.Scope.{Scope}

pub label_at : (scope : Scope) (labels : List (List ValType)) → AreLabels scope labels → (index : ℕ) (taken : List ValType)
    → index < length labels → taken ≡ get_or labels index taken
    → (slice_get labels index ≡ Some taken) × AreValid (bare scope) taken × (length taken ≤ widest scope.types.now.types)
label_at scope labels are index taken inside is = (
  slice_get_read labels (length labels) index taken refl inside is,
  subst (AreValid (bare scope)) (sym is)
      (are.valid index taken inside),
  subst (λ (values : List ValType). length values ≤ widest scope.types.now.types) (sym is)
      (are.few index taken inside),
)
