-- A value that one instruction leaves, and that the next one takes.
use Rattle.std.proofs.lemmas.List.{same_from_push}
use Rattle.smith_instr.proofs.CompositionLemmas.{zip_parts}
use Rattle.smith_types.proofs.GrowthLemmas.{IsValBelow-trans}
use Rattle.smith_instr_examples.proofs.Common.{◌≡◌, ℕ, List, [], ◌∷◌, ◌++◌, refl, sym, subst, ap, ◌∙◌, append_assoc, AllZip, IsValBelow}
use Rattle.smith_instr_examples.proofs.Common.{SubType, ValType, BodyContext, Stacked, stacked, CountsAs, count_as_themselves}
use Rattle.smith_instr.specs.Sequences.{IsFramed}

pub one_above : (types : List SubType) (x : ValType) (ys : List ValType) → AllZip (IsValBelow types) (x ∷ []) ys → (y : ValType)
    × (ys ≡ y ∷ []) × IsValBelow types x y
one_above types x [] below = absurd below
one_above types x (y ∷ []) (below, none) = (y, refl, below)
one_above types x (y ∷ z ∷ ys) (below, more) = absurd more

one_below : (types : List SubType) (xs : List ValType) (y : ValType) → AllZip (IsValBelow types) xs (y ∷ []) → (x : ValType) × (xs ≡ x ∷ [])
    × IsValBelow types x y
one_below types [] y below = absurd below
one_below types (x ∷ []) y (below, none) = (x, refl, below)
one_below types (x ∷ z ∷ xs) y (below, more) = absurd more

-- the only result of an instruction is below the last operand of the next
pub passed : {context : BodyContext} {takes gives needs leaves : List ValType} {set reset : List ℕ} {a b c : Stacked}
    → IsFramed context takes gives set a b → IsFramed context needs leaves reset b c
    → (given wanted : ValType) (others : List ValType) → gives ≡ given ∷ [] → needs ≡ others ++ wanted ∷ []
    → IsValBelow context.types given wanted
passed {context = context} {b = b} f s given wanted others results operands =
    let types = context.types in
    let (left, leaves, up) = one_above types given f.given (subst (λ (xs : List ValType). AllZip (IsValBelow types) xs f.given) results
    f.offered.below) in
    let (front, top, is, low, high) = zip_parts (IsValBelow types) s.taken others (wanted ∷ [])
    (subst (AllZip (IsValBelow types) s.taken) operands s.accepted) in
    let (found, takes, down) = one_below types top wanted high in
    let before : b.stack ≡ f.rest ++ left ∷ [] = f.over ∙ ap (λ (xs : List ValType). f.rest ++ xs) leaves in
    let tops : s.taken ≡ front ++ found ∷ [] = is ∙ ap (λ (xs : List ValType). front ++ xs) takes in
    let after : b.stack ≡ s.rest ++ (front ++ found ∷ []) = s.under ∙ ap (λ (xs : List ValType). s.rest ++ xs) tops in
    let same : f.rest ++ left ∷ [] ≡ (s.rest ++ front) ++ found ∷ [] =
    (sym before ∙ after) ∙ sym (append_assoc s.rest front (found ∷ [])) in
    let (rests, alike) = same_from_push f.rest (s.rest ++ front) left found same in
    IsValBelow-trans types given found wanted (subst (IsValBelow types given) alike up) down

-- the end of a sequence, as if an instruction took and left the values
pub ending : {context : BodyContext} {values results : List ValType} {set : List ℕ} → CountsAs context values results
    → IsFramed context results results [] (stacked values set) (stacked results (set ++ []))
ending {context = context} {values = values} {results = results} counts = record {
  rest = [];
  taken = values;
  given = results;
  under = refl;
  accepted = counts.below;
  offered = count_as_themselves context results counts.valid;
  over = refl;
  set_then = refl;
}
