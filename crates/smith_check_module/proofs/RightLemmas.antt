-- Items at an index.
use Rattle.smith_check_module.proofs.Common.{[], All, All-cons, All-head, All-nil, ap, Bool, get_or, IsFuncTypeIndex, IsTrue, length, List}
use Rattle.smith_check_module.proofs.Common.{map, refl, same_Some, slice_get, Some, subst, SubType, sym, ℕ, ◌<◌, ◌↔◌, ◌∙◌, ◌∷◌, ◌≡◌}
use Rattle.std.specs.Option.{option_map}
use Rattle.std.proofs.lemmas.Option.{slice_get-map, slice_get_read}
use Rattle.smith_validity.specs.Decided.{AreFuncsValid}
use Rattle.smith_check_module.specs.SectionFaults.{IsRightAt}

-- a property of one item
all_of_one : {A : Type 0} (P : A → Type 0) (x : A) → All P (x ∷ []) ↔ P x
all_of_one P x = (λ all. All-head P x [] all, λ p. All-cons P x [] p (All-nil P))

pub one_decided : {A : Type 0} (P : A → Type 0) (x : A) (b : Bool) → IsTrue b ↔ All P (x ∷ []) → IsTrue b ↔ P x
one_decided P x b decides = (λ yes. (all_of_one P x).0 (decides.0 yes), λ p. decides.1 ((all_of_one P x).1 p))

pub func_decided : (types : List SubType) (index : ℕ) (b : Bool) → IsTrue b ↔ AreFuncsValid types (index ∷ [])
    → IsTrue b ↔ IsFuncTypeIndex types index
func_decided types index b decides = (
  λ yes. (all_of_one (IsFuncTypeIndex types) index).0 (decides.0 yes).each,
  λ p. decides.1 (record { each = (all_of_one (IsFuncTypeIndex types) index).1 p }),
)

pub right_at : {A : Type 0} (P : A → Type 0) (xs : List A) (i : ℕ) (x : A) (b : Bool) → slice_get xs i ≡ Some x → IsTrue b ↔ P x
    → IsTrue b ↔ IsRightAt xs i P
right_at P xs i x b at decides = (
  λ yes. λ item there. subst P (same_Some x item (sym at ∙ there)) (decides.0 yes),
  λ right. decides.1 (right x at),
)

pub mapped_at : {A B : Type 0} (f : A → B) (xs : List A) (i : ℕ) (x : A) → i < length xs → x ≡ get_or xs i x
    → slice_get (map f xs) i ≡ Some (f x)
mapped_at f xs i x inside read = slice_get-map f xs i ∙ ap (option_map f) (slice_get_read xs (length xs) i x refl inside read)
