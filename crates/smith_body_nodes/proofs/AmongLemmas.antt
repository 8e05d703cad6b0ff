-- Tests of lists.
use Rattle.smith_body_nodes.proofs.Common.{[], ap, Bool, false, is_val_below, length, List, refl, SubType, suc, true, ValType, ◌&&◌, ◌∙◌}
use Rattle.smith_body_nodes.proofs.Common.{◌∷◌, ◌≡◌}
use Rattle.smith_body_nodes.specs.Offered.{are_below}

and_false : (b : Bool) → false ≡ (b && false)
and_false true = refl
and_false false = refl

pub lengths_differ : (types : List SubType) (xs ys : List ValType) → (length xs ≡ length ys → ⊥) → false ≡ are_below types xs ys
lengths_differ types [] [] differs = absurd (differs refl)
lengths_differ types [] (y ∷ ys) differs = refl
lengths_differ types (x ∷ xs) [] differs = refl
lengths_differ types (x ∷ xs) (y ∷ ys) differs = and_false (is_val_below types x y) ∙ ap (λ (b : Bool). is_val_below types x y && b)
    (lengths_differ types xs ys (λ e. differs (ap suc e)))
