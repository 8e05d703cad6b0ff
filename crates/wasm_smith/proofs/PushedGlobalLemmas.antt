-- Globals that are pushed one by one.
use Rattle.wasm_smith.proofs.Common.{[], ap, arith, ConstInstr, GlobalType, length, List, refl, sym, ValType, ℕ, ◌++◌, ◌+◌, ◌<◌, ◌∙◌, ◌∷◌}
use Rattle.wasm_smith.proofs.Common.{◌≡◌}
use Rattle.std.proofs.Common.{get_or, take}
use Rattle.std.proofs.lemmas.List.{append_assoc, length-append, take_more, map-append, length-map, length-take}
use Rattle.wasm_smith.specs.Sinks.{sink}
use Rattle.wasm_smith.specs.AddedGlobals.{added_types, added_definitions}

-- the definitions of a list and one more
definitions_more : (first : ℕ) (added : List (ValType × ConstInstr)) (one : ValType × ConstInstr)
    → added_definitions first (added ++ one ∷ []) ≡ added_definitions first added ++ (first + length added, one.1 ∷ []) ∷ []
definitions_more first [] one = let same : first + 0 ≡ first = omega arith in rw same refl
definitions_more first (other ∷ rest) one =
    let same : first + 1 + length rest ≡ first + length (other ∷ rest) = omega arith in
    ap (λ xs. (first, other.1 ∷ []) ∷ xs)
    (definitions_more (first + 1) rest one
    ∙ ap (λ n. added_definitions (first + 1) rest ++ (n, one.1 ∷ []) ∷ []) same)

-- as many globals as there are pushed ones
length_so_far : (before now : List GlobalType) (added : List (ValType × ConstInstr)) → now ≡ before ++ added_types added
    → length now ≡ length before + length added
length_so_far before now added is = ap length is ∙ length-append before (added_types added)
    ∙ ap (λ n. length before + n) (length-map added (λ (one : ValType × ConstInstr). sink one.0))

-- one more type
pub types_pushed : (before now after : List GlobalType) (added : List (ValType × ConstInstr)) (i : ℕ) (default : ValType × ConstInstr)
    → i < length added → now ≡ before ++ added_types (take i added) → after ≡ now ++ sink (get_or added i default).0 ∷ []
    → after ≡ before ++ added_types (take (i + 1) added)
types_pushed before now after added i default within is pushed =
    let one = get_or added i default in
    let more = map-append (λ (one : ValType × ConstInstr). sink one.0) (take i added) (one ∷ []) in
    pushed ∙ ap (λ xs. xs ++ sink one.0 ∷ []) is ∙ append_assoc before (added_types (take i added)) (sink one.0 ∷ [])
    ∙ ap (λ xs. before ++ xs) (sym (ap (λ xs. added_types xs) (take_more added i default within) ∙ more))

-- one more definition
pub definitions_pushed : (before now : List GlobalType) (defined defined_now after : List (ℕ × List ConstInstr))
    (added : List (ValType × ConstInstr)) (i : ℕ) (default : ValType × ConstInstr) → i < length added
    → now ≡ before ++ added_types (take i added) → defined_now ≡ defined ++ added_definitions (length before) (take i added)
    → after ≡ defined_now ++ (length now, (get_or added i default).1 ∷ []) ∷ []
    → after ≡ defined ++ added_definitions (length before) (take (i + 1) added)
definitions_pushed before now defined defined_now after added i default within is defined_is pushed =
    let one = get_or added i default in
    let so_far = added_definitions (length before) (take i added) in
    let more = definitions_more (length before) (take i added) one in
    pushed ∙ ap (λ xs. xs ++ (length now, one.1 ∷ []) ∷ []) defined_is ∙ append_assoc defined so_far ((length now, one.1 ∷ []) ∷ [])
    ∙ ap (λ xs. defined ++ xs)
    (ap (λ n. so_far ++ (n, one.1 ∷ []) ∷ []) (length_so_far before now (take i added) is)
    ∙ sym (ap (λ xs. added_definitions (length before) xs) (take_more added i default within) ∙ more))

-- while an item is left, there is room for it
pub room_left : (before now : List GlobalType) (added : List (ValType × ConstInstr)) (i most : ℕ) → i < length added
    → length before + length added < most → now ≡ before ++ added_types (take i added) → length now < most
room_left before now added i most within room is =
    let so_far = length_so_far before now (take i added) is in
    let few = length-take i added in
    omega (arith, so_far, few, within, room)
