-- Operands that are the fields of a struct, or copies of one value.
use Rattle.smith_check_references.proofs.Common.{[], All, ap, AreFit, arith, BodyContext, Bool, drop, field_values, FieldType, IsBelow}
use Rattle.smith_check_references.proofs.Common.{length, List, refl, replicate, Slot, subst, SubType, sym, true, ValType, Value, values, ℕ}
use Rattle.smith_check_references.proofs.Common.{◌-◌, ◌∙◌, ◌∷◌, ◌≡◌}
use Rattle.std.proofs.Common.{take, ◌+◌, ◌≤◌}
use Rattle.std.specs.List.{AllByRecursion as Each}
use Rattle.std.proofs.lemmas.List.{take-map, drop-map, length-map, take-replicate, drop-replicate, length-replicate, length-take}
use Rattle.std.proofs.lemmas.List.{length-drop}
use Rattle.std.proofs.lemmas.List.Elements.{All-take, All-drop}
use Rattle.smith_types.specs.Expressions.{unpacked}
use Rattle.smith_check_rules.specs.Slots.{AreSlotsValid}
use Rattle.smith_check_operands.specs.Covers.{holding, Pops, PopsNothing}
use Rattle.smith_check_operands.proofs.FitLemmas.{taken_enough, refused_enough, taken_beyond, refused_beyond}

-- the values of the last fields are the last values
pub last_fields : (n : ℕ) (fields : List FieldType)
    → field_values (take (length fields - n) (drop n fields)) ≡ take (length (field_values fields) - n) (drop n (field_values fields))
last_fields n fields =
    let value = λ (field : FieldType). unpacked field.element_type in
    sym (take-map value (length fields - n) (drop n fields))
    ∙ ap (λ vs. take (length fields - n) vs) (sym (drop-map value n fields))
    ∙ ap (λ k. take (k - n) (drop n (field_values fields))) (sym (length-map fields value))

pub length_values : (fields : List FieldType) → length (field_values fields) ≡ length fields
length_values fields = length-map fields (λ (field : FieldType). unpacked field.element_type)

pub part_of : {A : Type 0} (P : A → Type 0) (xs : List A) (n m : ℕ) → All P xs → All P (take n (drop m xs))
part_of P xs n m all = All-take P n (drop m xs) (All-drop P m xs all)

-- values that fit copies of one type
fit_copies : (types : List SubType) (slots : List Slot) (value : ValType) (count : ℕ) → length slots ≡ count
    → Each (λ slot. IsBelow types slot (Value value)) slots → AreFit types slots (replicate count value)
fit_copies types [] value count is all = subst (λ n. AreFit types [] (replicate n value)) is tt
fit_copies types (s ∷ ss) value count is (first, all) =
    subst (λ n. AreFit types (s ∷ ss) (replicate n value)) is (first, fit_copies types ss value (length ss) refl all)

copies_fit : (types : List SubType) (slots : List Slot) (value : ValType) (count : ℕ) → length slots ≡ count
    → AreFit types slots (replicate count value) → Each (λ slot. IsBelow types slot (Value value)) slots
copies_fit types [] value count is fit = tt
copies_fit types (s ∷ ss) value count is fit =
    let parts : AreFit types (s ∷ ss) (replicate (length (s ∷ ss)) value) =
    subst (λ n. AreFit types (s ∷ ss) (replicate n value)) (sym is) fit in
    (parts.0, copies_fit types ss value (length ss) refl parts.1)

-- the last of copies are fewer copies
last_copies : (n k count : ℕ) (value : ValType) → n + k ≡ count
    → take (length (replicate count value) - n) (drop n (replicate count value)) ≡ replicate k value
last_copies n k count value is =
    ap (λ vs. take (length (replicate count value) - n) vs) (drop-replicate n count value)
    ∙ ap (λ m. take m (replicate (count - n) value)) (ap (λ m. m - n) (length-replicate count value))
    ∙ take-replicate (count - n) (count - n) value (omega arith)
    ∙ ap (λ m. replicate m value) (omega arith)

-- as many copies are known as are expected
module _ (context : BodyContext) (known whole : List Slot) (value : ValType) (count n : ℕ) (dead : Bool) (same : whole ≡ known)
    (few : count ≤ length known) (at : n ≡ length known - count) where
  last_length : length (take (length whole - n) (drop n whole)) ≡ count
  last_length =
      let sizes : length whole ≡ length known = ap (λ (xs : List Slot). length xs) same in
      omega (arith, length-take (length whole - n) (drop n whole), length-drop n whole)

  pub copied_enough : AreSlotsValid context known
      → Each (λ slot. IsBelow context.types slot (Value value)) (take (length whole - n) (drop n whole))
      → Pops context (values (replicate count value)) (holding known dead) (holding (take n known) dead)
  copied_enough valid all = taken_enough context known whole (replicate count value) n dead valid same
      (fit_copies context.types (take (length whole - n) (drop n whole)) value count last_length all)

  pub uncopied_enough : (Each (λ slot. IsBelow context.types slot (Value value)) (take (length whole - n) (drop n whole)) → ⊥)
      → PopsNothing context (values (replicate count value)) (holding known dead)
  uncopied_enough never = refused_enough context known whole (replicate count value) n dead same
      (subst (λ k. k ≤ length known) (sym (length-replicate count value)) few)
      (at ∙ ap (λ k. length known - k) (sym (length-replicate count value)))
      (λ fit. never (copies_fit context.types (take (length whole - n) (drop n whole)) value count last_length fit))

-- fewer copies are known than are expected
module _ (context : BodyContext) (known whole : List Slot) (value : ValType) (count : ℕ) (dead : Bool) (same : whole ≡ known)
    (few : length known ≤ count) where
  part : take (length (replicate count value) - (count - length known)) (drop (count - length known) (replicate count value))
      ≡ replicate (length whole) value
  part =
      let sizes : length whole ≡ length known = ap (λ (xs : List Slot). length xs) same in
      last_copies (count - length known) (length whole) count value (omega arith)

  pub copied_beyond : (after : List Slot) → AreSlotsValid context known → dead ≡ true → after ≡ []
      → Each (λ slot. IsBelow context.types slot (Value value)) whole
      → Pops context (values (replicate count value)) (holding known dead) (holding after dead)
  copied_beyond after valid is none all =
      taken_beyond context known whole (replicate count value) (count - length known) dead after valid same is none
      (subst (λ vs. AreFit context.types whole vs) (sym part) (fit_copies context.types whole value (length whole) refl all))

  pub uncopied_beyond : (Each (λ slot. IsBelow context.types slot (Value value)) whole → ⊥)
      → PopsNothing context (values (replicate count value)) (holding known dead)
  uncopied_beyond never =
      refused_beyond context known whole (replicate count value) (count - length known) dead same
      (subst (λ k. length known ≤ k) (sym (length-replicate count value)) few)
      (ap (λ k. k - length known) (sym (length-replicate count value)))
      (λ fit. never (copies_fit context.types whole value (length whole) refl (subst (λ vs. AreFit context.types whole vs) part fit)))
