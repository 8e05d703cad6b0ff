-- Matching of slots is reflexive and transitive.
use Rattle.smith_check_operands.proofs.Common.{[], AreBelow, Bottom, IsBelow, List, refl, Slot, subst, SubType, sym, ValType, Value, ◌∷◌}
use Rattle.smith_types.specs.Syntax.value_type.HeapType.TheVariants.{Abstract}
use Rattle.smith_types.specs.Syntax.value_type.ValType.TheVariants.{Ref}
use Rattle.smith_types.specs.Expressions.{reference_to}
use Rattle.smith_types.specs.Subtyping.{IsValBelow}
use Rattle.smith_types.proofs.GrowthLemmas.{IsValBelow-refl, IsValBelow-trans}
use Rattle.smith_check_rules.specs.Slots.{IsReference}
use Rattle.smith_check_rules.specs.declared.slot.Slot.TheVariants.{EitherRef, SomeRef}

reference_above : (types : List SubType) (a b : ValType) → IsReference a → IsValBelow types a b → IsReference b
reference_above types (Ref a) (Ref b) r p = tt
reference_above types (Ref a) b r p = absurd p
reference_above types a b r p = absurd r

pub below_refl : (types : List SubType) (a : Slot) → IsBelow types a a
below_refl types Bottom = tt
below_refl types SomeRef = tt
below_refl types (EitherRef ty) = refl
below_refl types (Value a) = IsValBelow-refl types a

pub below_trans : (types : List SubType) (a b c : Slot) → IsBelow types a b → IsBelow types b c → IsBelow types a c
below_trans types Bottom b c p q = tt
below_trans types SomeRef SomeRef c p q = q
below_trans types SomeRef Bottom c p q = absurd p
below_trans types SomeRef (EitherRef b) (EitherRef c) p q = tt
below_trans types SomeRef (EitherRef b) (Value c) p (shared, q) = reference_above types (reference_to (Abstract shared b)) c tt q
below_trans types SomeRef (EitherRef b) c p q = absurd q
below_trans types SomeRef (Value b) (Value c) p q = reference_above types b c p q
below_trans types SomeRef (Value b) c p q = absurd q
below_trans types (EitherRef a) (EitherRef b) c p q = subst (λ ty. IsBelow types (EitherRef ty) c) (sym p) q
below_trans types (EitherRef a) (Value b) (Value c) (shared, p) q =
    (shared, IsValBelow-trans types (reference_to (Abstract shared a)) b c p q)
below_trans types (EitherRef a) (Value b) c p q = absurd q
below_trans types (EitherRef a) b c p q = absurd p
below_trans types (Value a) (Value b) (Value c) p q = IsValBelow-trans types a b c p q
below_trans types (Value a) (Value b) c p q = absurd q
below_trans types (Value a) b c p q = absurd p

pub below_themselves : (types : List SubType) (xs : List Slot) → AreBelow types xs xs
below_themselves types [] = tt
below_themselves types (x ∷ xs) = (below_refl types x, below_themselves types xs)

pub below_all : (types : List SubType) (xs ys zs : List Slot) → AreBelow types xs ys → AreBelow types ys zs → AreBelow types xs zs
below_all types [] [] zs first second = second
below_all types [] (y ∷ ys) zs first second = absurd first
below_all types (x ∷ xs) [] zs first second = absurd first
below_all types (x ∷ xs) (y ∷ ys) [] first second = absurd second
below_all types (x ∷ xs) (y ∷ ys) (z ∷ zs) (p, first) (q, second) = (below_trans types x y z p q, below_all types xs ys zs first second)
