-- Results that are pushed, and a value that is popped.
use Rattle.smith_check_operands.proofs.Common.{[], All-append, All-cons, All-nil, ap, append-nil, append_assoc, AreBelow, AreSlotsValid}
use Rattle.smith_check_operands.proofs.Common.{AreValid, arith, BodyContext, Bool, Bottom, false, false≢true, inl, inr, IsBelow}
use Rattle.smith_check_operands.proofs.Common.{IsSlotValid, length, length-append, List, refl, Slot, subst, SubType, sym, true, ValType}
use Rattle.smith_check_operands.proofs.Common.{Value, values, ◌++◌, ◌∙◌, ◌∷◌, ◌≡◌}
use Rattle.std.proofs.lemmas.List.{same_from_push}
use Rattle.std.proofs.lemmas.List.Elements.{All-head, All-map}
use Rattle.smith_check_operands.specs.Covers.{holding, Pushes, Tops, TopsNothing}
use Rattle.smith_check_operands.proofs.ListLemmas.{all_left, all_right, zip_split, zip_join}
use Rattle.smith_check_operands.proofs.CoverLemmas.{push_all}

pub values_valid : (context : BodyContext) (types : List ValType) → AreValid context types → AreSlotsValid context (values types)
values_valid context types valid = All-map (IsSlotValid context) Value types valid

pub pushed : (context : BodyContext) (known after : List Slot) (results : List ValType) (dead then : Bool) → AreSlotsValid context known
    → AreValid context results
    → after ≡ known ++ values results → then ≡ dead → Pushes context (values results) (holding known dead) (holding after then)
pushed context known after results dead then known_valid valid is same =
    subst (λ b. Pushes context (values results) (holding known dead) (holding after b)) (sym same)
    (subst (λ xs. Pushes context (values results) (holding known dead) (holding xs dead)) (sym is)
    (push_all context known (values results) dead known_valid (values_valid context results valid)))

pub valid_last : (context : BodyContext) (rest : List Slot) (value : Slot) → AreSlotsValid context (rest ++ value ∷ [])
    → IsSlotValid context value
valid_last context rest value valid = All-head (IsSlotValid context) value [] (all_right (IsSlotValid context) rest (value ∷ []) valid)

-- the last of two lists
same_last : (under front rest : List Slot) (x value : Slot) → rest ++ value ∷ [] ≡ under ++ (front ++ x ∷ []) → (rest ≡ under ++ front)
    × (value ≡ x)
same_last under front rest x value is = same_from_push rest (under ++ front) value x (is ∙ sym (append_assoc under front (x ∷ [])))

-- the value that one value matches
pub single : (types : List SubType) (top : Slot) (ys : List Slot) → AreBelow types (top ∷ []) ys → (y : Slot) × (ys ≡ y ∷ [])
    × IsBelow types top y
single types top [] below = absurd below
single types top (y ∷ []) (first, below) = (y, refl, first)
single types top (y ∷ z ∷ ys) (first, below) = absurd below

-- a known value is on top
pub popped_known : (context : BodyContext) (known : List Slot) (top : Slot) (dead : Bool) → AreSlotsValid context (known ++ top ∷ [])
    → Tops context top (holding (known ++ top ∷ []) dead) (holding known dead)
popped_known context known top dead valid = record {
  sound = λ rest value t. record {
    under = t.covered.under;
    top = t.covered.top ++ value ∷ [];
    is = ap (λ xs. xs ++ value ∷ []) t.covered.is ∙ append_assoc t.covered.under t.covered.top (value ∷ []);
    below = zip_join (IsBelow context.types) known (top ∷ []) t.covered.top (value ∷ []) t.covered.below (t.above, tt);
    reached = t.covered.reached;
    valid = All-append (IsSlotValid context) rest (value ∷ []) t.covered.valid (All-cons (IsSlotValid context) value [] t.valid
        (All-nil (IsSlotValid context)));
  };
  complete = λ rest value c.
      let (front, back, is, left, right) = zip_split (IsBelow context.types) known (top ∷ []) c.top c.below in
      let (y, one, above) = single context.types top back right in
      let (before, same) = same_last c.under front rest y value (c.is ∙ ap (λ xs. c.under ++ xs) is ∙ ap (λ xs. c.under ++ (front ++ xs))
      one) in
      record {
        covered = record {
          under = c.under;
          top = front;
          is = before;
          below = left;
          reached = c.reached;
          valid = all_left (IsSlotValid context) rest (value ∷ []) c.valid;
        };
        above = subst (λ v. IsBelow context.types top v) (sym same) above;
        valid = valid_last context rest value c.valid;
      };
  valid = all_left (IsSlotValid context) known (top ∷ []) valid;
  top_valid = valid_last context known top valid;
}

-- nothing is known in dead code
pub popped_dead : (context : BodyContext) → Tops context Bottom (holding [] true) (holding [] true)
popped_dead context = record {
  sound = λ rest value t. record {
    under = rest ++ value ∷ [];
    top = [];
    is = sym (append-nil (rest ++ value ∷ []));
    below = tt;
    reached = inl refl;
    valid = All-append (IsSlotValid context) rest (value ∷ []) t.covered.valid (All-cons (IsSlotValid context) value [] t.valid
        (All-nil (IsSlotValid context)));
  };
  complete = λ rest value c. record {
    covered = record {
      under = rest;
      top = [];
      is = sym (append-nil rest);
      below = tt;
      reached = inl refl;
      valid = all_left (IsSlotValid context) rest (value ∷ []) c.valid;
    };
    above = tt;
    valid = valid_last context rest value c.valid;
  };
  valid = All-nil (IsSlotValid context);
  top_valid = tt;
}

nothing_on_top : (types : List SubType) (top : List Slot) → AreBelow types [] top → (rest : List Slot) (value : Slot)
    → rest ++ value ∷ [] ≡ top → ⊥
nothing_on_top types [] below rest value e =
    let long : length (rest ++ value ∷ []) ≡ 0 = ap (λ xs. length xs) e in
    omega (arith, length-append rest (value ∷ []))
nothing_on_top types (y ∷ ys) below rest value e = absurd below

pub popped_none : (context : BodyContext) → TopsNothing context (holding [] false)
popped_none context rest value c =
    elim c.reached [
      | inl dead ↦ false≢true dead
      | inr none ↦ absurd (nothing_on_top context.types c.top c.below rest value (c.is ∙ ap (λ xs. xs ++ c.top) none))
    ]

pub popped_some : (context : BodyContext) (old new : List Slot) (top : Slot) (dead : Bool) → AreSlotsValid context old
    → old ≡ new ++ top ∷ []
    → Tops context top (holding old dead) (holding new dead)
popped_some context old new top dead valid is =
    subst (λ xs. Tops context top (holding xs dead) (holding new dead)) (sym is)
    (popped_known context new top dead (subst (λ xs. AreSlotsValid context xs) is valid))

no_items : (xs : List Slot) → length xs ≡ 0 → xs ≡ []
no_items [] e = refl
no_items (x ∷ xs) e = absurd (omega (arith, e))

pub popped_bottom : (context : BodyContext) (old new : List Slot) (dead : Bool) → length old ≡ 0 → length new ≡ 0 → dead ≡ true
    → Tops context Bottom (holding old dead) (holding new dead)
popped_bottom context old new dead none after is =
    subst (λ b. Tops context Bottom (holding old b) (holding new b)) (sym is)
    (subst (λ xs. Tops context Bottom (holding xs true) (holding new true)) (sym (no_items old none))
    (subst (λ xs. Tops context Bottom (holding [] true) (holding xs true)) (sym (no_items new after)) (popped_dead context)))

pub popped_nothing : (context : BodyContext) (old : List Slot) (dead : Bool) → length old ≡ 0 → dead ≡ false
    → TopsNothing context (holding old dead)
popped_nothing context old dead none is =
    subst (λ b. TopsNothing context (holding old b)) (sym is) (subst (λ xs. TopsNothing context (holding xs false))
    (sym (no_items old none)) (popped_none context))
