-- Lengths of lists that match.
use Rattle.smith_types.proofs.Common.{[], ap, arith, FieldType, length, List, refl, SubType, suc, ValType, ◌∷◌, ◌≡◌, ◌≤◌}
use Rattle.smith_types.specs.Matching.{AreBelow, AreFieldsMatched}

pub AreBelow-length : (types : List SubType) (xs ys : List ValType) → AreBelow types xs ys → length xs ≡ length ys
AreBelow-length types [] [] below = refl
AreBelow-length types (x ∷ xs) (y ∷ ys) (first, rest) = ap suc (AreBelow-length types xs ys rest)
AreBelow-length types xs ys below = absurd below

pub AreFieldsMatched-length : (types : List SubType) (fs gs : List FieldType) → AreFieldsMatched types fs gs → length gs ≤ length fs
AreFieldsMatched-length types fs [] matched = omega arith
AreFieldsMatched-length types [] (g ∷ gs) matched = absurd matched
AreFieldsMatched-length types (f ∷ fs) (g ∷ gs) (first, rest) = let fewer = AreFieldsMatched-length types fs gs rest in omega (arith, fewer)
