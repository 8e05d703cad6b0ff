-- Operands that are popped, and results that are pushed.
use Rattle.smith_check_operands.proofs.Common.{[], All-append, All-cons, All-nil, ap, append-nil, append_assoc, AreBelow, AreSlotsValid}
use Rattle.smith_check_operands.proofs.Common.{arith, BodyContext, Bool, Bottom, false, false≢true, inl, inr, IsBelow, IsSlotValid, length}
use Rattle.smith_check_operands.proofs.Common.{length-append, List, refl, Slot, subst, SubType, sym, true, ◌++◌, ◌<◌, ◌∙◌, ◌∷◌, ◌≡◌}
use Rattle.std.proofs.lemmas.List.Elements.{length_all_zip}
use Rattle.smith_check_operands.specs.Covers.{holding, Pops, PopsNothing, Pushes}
use Rattle.smith_check_operands.proofs.ListLemmas.{left_part, right_part, all_left, all_right, zip_parts, zip_split, zip_join}
use Rattle.smith_check_operands.proofs.BelowLemmas.{below_themselves, below_all}

same_size : (types : List SubType) (xs ys : List Slot) → AreBelow types xs ys → length xs ≡ length ys
same_size types xs ys below = length_all_zip (IsBelow types) xs ys below

-- as many bottom types
bottoms : List Slot → List Slot
bottoms [] = []
bottoms (x ∷ xs) = Bottom ∷ bottoms xs

bottoms_below : (types : List SubType) (xs : List Slot) → AreBelow types (bottoms xs) xs
unfolding bottoms
bottoms_below types [] = tt
bottoms_below types (x ∷ xs) = (tt, bottoms_below types xs)

bottoms_valid : (context : BodyContext) (xs : List Slot) → AreSlotsValid context (bottoms xs)
unfolding bottoms
bottoms_valid context [] = All-nil (IsSlotValid context)
bottoms_valid context (x ∷ xs) = All-cons (IsSlotValid context) Bottom (bottoms xs) tt (bottoms_valid context xs)

-- as many operands are known as are expected
pub pop_enough : (context : BodyContext) (base covered expected : List Slot) (dead : Bool)
    → AreSlotsValid context (base ++ covered) → AreBelow context.types covered expected
    → Pops context expected (holding (base ++ covered) dead) (holding base dead)
pop_enough context base covered expected dead valid fits = record {
  sound = λ rest c. record {
    before = rest ++ covered;
    covered = record {
      under = c.under;
      top = c.top ++ covered;
      is = ap (λ xs. xs ++ covered) c.is ∙ append_assoc c.under c.top covered;
      below = zip_join (IsBelow context.types) base covered c.top covered c.below (below_themselves context.types covered);
      reached = c.reached;
      valid = All-append (IsSlotValid context) rest covered c.valid (all_right (IsSlotValid context) base covered valid);
    };
    takes = record { taken = covered; is = refl; accepted = fits };
  };
  complete = λ rest before c t.
      let (front, back, is, left, right) = zip_split (IsBelow context.types) base covered c.top c.below in
      let whole : rest ++ t.taken ≡ (c.under ++ front) ++ back = sym t.is ∙ c.is ∙ ap (λ xs. c.under ++ xs) is
      ∙ sym (append_assoc c.under front back) in
      let size : length t.taken ≡ length back = same_size context.types t.taken expected t.accepted
      ∙ sym (same_size context.types covered expected fits) ∙ same_size context.types covered back right in
      record {
        under = c.under;
        top = front;
        is = left_part rest (c.under ++ front) t.taken back whole size;
        below = left;
        reached = c.reached;
        valid = all_left (IsSlotValid context) rest t.taken (subst (λ xs. AreSlotsValid context xs) t.is c.valid);
      };
  valid = all_left (IsSlotValid context) base covered valid;
}

-- fewer operands are known than are expected, in dead code
pub pop_beyond : (context : BodyContext) (known missing covered : List Slot)
    → AreSlotsValid context known → AreBelow context.types known covered → Pops context (missing ++ covered) (holding known true)
    (holding [] true)
pop_beyond context known missing covered valid fits = record {
  sound = λ rest c. record {
    before = rest ++ (bottoms missing ++ known);
    covered = record {
      under = rest ++ bottoms missing;
      top = known;
      is = sym (append_assoc rest (bottoms missing) known);
      below = below_themselves context.types known;
      reached = inl refl;
      valid = All-append (IsSlotValid context) rest (bottoms missing ++ known) c.valid
          (All-append (IsSlotValid context) (bottoms missing) known (bottoms_valid context missing) valid);
    };
    takes = record {
      taken = bottoms missing ++ known;
      is = refl;
      accepted = zip_join (IsBelow context.types) (bottoms missing) known missing covered (bottoms_below context.types missing) fits;
    };
  };
  complete = λ rest before c t. record {
    under = rest;
    top = [];
    is = sym (append-nil rest);
    below = tt;
    reached = inl refl;
    valid = all_left (IsSlotValid context) rest t.taken (subst (λ xs. AreSlotsValid context xs) t.is c.valid);
  };
  valid = All-nil (IsSlotValid context);
}

pub pop_apart : (context : BodyContext) (base covered expected : List Slot) (dead : Bool)
    → length covered ≡ length expected → (AreBelow context.types covered expected → ⊥)
    → PopsNothing context expected (holding (base ++ covered) dead)
pop_apart context base covered expected dead long apart rest before c t =
    let (front, back, is, left, right) = zip_split (IsBelow context.types) base covered c.top c.below in
    let whole : rest ++ t.taken ≡ (c.under ++ front) ++ back = sym t.is ∙ c.is ∙ ap (λ xs. c.under ++ xs) is
    ∙ sym (append_assoc c.under front back) in
    let size : length t.taken ≡ length back = same_size context.types t.taken expected t.accepted ∙ sym long ∙ same_size context.types
    covered back right in
    let same : t.taken ≡ back = right_part rest (c.under ++ front) t.taken back whole size in
    apart (below_all context.types covered back expected right (subst (λ xs. AreBelow context.types xs expected) same t.accepted))

pub pop_apart_beyond : (context : BodyContext) (known missing covered : List Slot) (dead : Bool)
    → length known ≡ length covered → (AreBelow context.types known covered → ⊥) → PopsNothing context (missing ++ covered)
    (holding known dead)
pop_apart_beyond context known missing covered dead long apart rest before c t =
    let (front, back, is, left, right) = zip_parts (IsBelow context.types) t.taken missing covered t.accepted in
    let whole : c.under ++ c.top ≡ (rest ++ front) ++ back = sym c.is ∙ t.is ∙ ap (λ xs. rest ++ xs) is
    ∙ sym (append_assoc rest front back) in
    let size : length c.top ≡ length back = sym (same_size context.types known c.top c.below) ∙ long
    ∙ sym (same_size context.types back covered right) in
    let same : c.top ≡ back = right_part c.under (rest ++ front) c.top back whole size in
    apart (below_all context.types known back covered (subst (λ xs. AreBelow context.types known xs) same c.below) right)

pub pop_short : (context : BodyContext) (known expected : List Slot) → length known < length expected
    → PopsNothing context expected (holding known false)
pop_short context known expected few rest before c t =
    elim c.reached [
      | inl dead ↦ absurd (false≢true dead)
      | inr none ↦
          let whole : length before ≡ length (c.under ++ c.top) = ap (λ xs. length xs) c.is in
          let other : length before ≡ length (rest ++ t.taken) = ap (λ xs. length xs) t.is in
          let nothing : length c.under ≡ 0 = ap (λ xs. length xs) none in
          omega (
            arith,
            length-append c.under c.top,
            length-append rest t.taken,
            same_size context.types known c.top c.below,
            same_size context.types t.taken expected t.accepted,
          )
    ]

pub push_all : (context : BodyContext) (known results : List Slot) (dead : Bool)
    → AreSlotsValid context known → AreSlotsValid context results → Pushes context results (holding known dead)
    (holding (known ++ results) dead)
push_all context known results dead known_valid results_valid = record {
  sound = λ after c.
      let (front, back, is, left, right) = zip_split (IsBelow context.types) known results c.top c.below in
      let whole : after ≡ (c.under ++ front) ++ back = c.is ∙ ap (λ xs. c.under ++ xs) is ∙ sym (append_assoc c.under front back) in
      let valid : AreSlotsValid context ((c.under ++ front) ++ back) = subst (λ xs. AreSlotsValid context xs) whole c.valid in
      record {
        rest = c.under ++ front;
        covered = record {
          under = c.under;
          top = front;
          is = refl;
          below = left;
          reached = c.reached;
          valid = all_left (IsSlotValid context) (c.under ++ front) back valid;
        };
        gives = record {
          given = back;
          is = whole;
          offered = record { below = right; valid = all_right (IsSlotValid context) (c.under ++ front) back valid };
        };
      };
  complete = λ after rest c g. record {
    under = c.under;
    top = c.top ++ g.given;
    is = g.is ∙ ap (λ xs. xs ++ g.given) c.is ∙ append_assoc c.under c.top g.given;
    below = zip_join (IsBelow context.types) known results c.top g.given c.below g.offered.below;
    reached = c.reached;
    valid = subst (λ xs. AreSlotsValid context xs) (sym g.is) (All-append (IsSlotValid context) rest g.given c.valid g.offered.valid);
  };
  valid = All-append (IsSlotValid context) known results known_valid results_valid;
}
