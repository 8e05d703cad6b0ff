-- The bodies that are observed one after another.
use Rattle.smith_program.proofs.Common.{[], ap, arith, Code, FuncType, get_or, get_or_from_slice_get, inl, inr, length, List, ModuleParts}
use Rattle.smith_program.proofs.Common.{same_Some, slice_get, slice_get-grown, slice_get_within, Some, subst, sym, ℕ, ◌++◌, ◌+◌, ◌<◌, ◌∙◌}
use Rattle.smith_program.proofs.Common.{◌∷◌, ◌≡◌, ◌≤◌}
use Rattle.std.proofs.Math.Nat.{eq-or-lt_of_le}
use Rattle.smith_types.proofs.ListLemmas.{slice_get-last}
use Rattle.smith_program.specs.Bodies.{HasDefinedType}
use Rattle.smith_program.specs.Observed.{AreObserved, observed_body}
use Rattle.smith_program.specs.declared.program.Body.{Body}
use Rattle.smith_program.proofs.DrawnBodiesLemmas.{defined_there}

-- a body at a place is observed, whatever is known of its function
abbrev pub IsObservedAt : ℕ → ModuleParts → ℕ → Body → Body → Type 0
IsObservedAt first m place before after =
    (code : Code) (function : FuncType) → slice_get m.code place ≡ Some code → HasDefinedType m place function
    → after ≡ observed_body first (function.params ++ code.locals) before

-- the bodies before a place are observed
abbrev pub AreObservedTo : ℕ → ℕ → ModuleParts → List Body → List Body → Type 0
AreObservedTo end first m old new =
    (place : ℕ) (before : Body) → place < end → slice_get old place ≡ Some before
    → (after : Body) × (slice_get new place ≡ Some after) × IsObservedAt first m place before after

-- the code and the type of a function are known
pub is_observed : (first : ℕ) (m : ModuleParts) (place : ℕ) (given : Code) (known : FuncType) (before after : Body)
    → given ≡ get_or m.code place given → HasDefinedType m place known
    → after ≡ observed_body first (known.params ++ given.locals) before → IsObservedAt first m place before after
is_observed first m place given known before after read there exact code function at typed =
    let code_is : given ≡ code = read ∙ get_or_from_slice_get m.code place code given at in
    let function_is : known ≡ function =
    same_Some known function (sym (defined_there m place known there) ∙ defined_there m place function typed) in
    exact ∙ (ap (λ (f : FuncType). observed_body first (f.params ++ given.locals) before) function_is
    ∙ ap (λ (c : Code). observed_body first (function.params ++ c.locals) before) code_is)

pub none_observed : (first : ℕ) (m : ModuleParts) (old new : List Body) → AreObservedTo 0 first m old new
none_observed first m old new place before within at = absurd (omega arith)

-- one more
pub one_observed : (end first : ℕ) (m : ModuleParts) (old new : List Body) (given made : Body) → length new ≡ end
    → given ≡ get_or old end given → AreObservedTo end first m old new → IsObservedAt first m end given made
    → AreObservedTo (end + 1) first m old (new ++ made ∷ [])
one_observed end first m old new given made each read before this place other within at =
    let most : place ≤ end = omega arith in
    elim (eq-or-lt_of_le most) [
      | inl is ↦
          let same : given ≡ other = read
          ∙ get_or_from_slice_get old end other given (subst (λ (n : ℕ). slice_get old n ≡ Some other) is at) in
          let here : length new ≡ place = each ∙ sym is in (
            made,
            subst (λ (n : ℕ). slice_get (new ++ made ∷ []) n ≡ Some made) here (slice_get-last new made),
            subst (λ (b : Body). IsObservedAt first m place b made) same
                (subst (λ (n : ℕ). IsObservedAt first m n given made) (sym is) this),
          )
      | inr less ↦
          let (after, there, observes) = before place other less at in
          (after, slice_get-grown new (made ∷ []) place after there, observes)
    ]

-- all bodies
pub all_observed : (end first : ℕ) (m : ModuleParts) (old new : List Body) → length old ≡ end → length new ≡ end
    → AreObservedTo end first m old new → AreObserved first m old new
all_observed end first m old new long each observed = record {
  each = each ∙ sym long;
  in_place = λ place code function before at typed was.
      let within : place < length old = slice_get_within old place before was in
      let (after, there, observes) = observed place before (omega arith) was in
      there ∙ ap (λ (b : Body). Some b) (observes code function at typed);
}
