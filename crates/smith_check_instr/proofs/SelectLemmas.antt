-- `select` without a type, with the types of dead code.
use Rattle.smith_check_instr.proofs.Common.{[], All-cons, All-nil, ap, arith, BodyContext, F32, F64, I32, I64, IsSlotValid, List}
use Rattle.smith_check_instr.proofs.Common.{MatchOption, refl, subst, SubType, sym, V128, ValType, with_labels, ℕ, ◌∙◌, ◌∷◌, ◌≡◌}
use Rattle.std.proofs.Common.{append_assoc, length, rules, ◌++◌}
use Rattle.std.specs.Prelude.{Bool, None, slice_index_or}
use Rattle.smith_types.specs.Syntax.value_type.ValType.TheVariants.{Ref}
use Rattle.smith_types.specs.Syntax.value_type.RefType.{RefType}
use Rattle.smith_types.specs.Syntax.value_type.AbstractHeapType.{AbstractHeapType}
use Rattle.smith_instr.specs.declared.instr.Instr.TheVariants as instr
use Rattle.smith_check_rules.specs.declared.slot.Slot.{Slot}
use Rattle.smith_check_rules.specs.declared.slot.Slot.TheVariants.{Bottom, SomeRef, EitherRef, Value}
use Rattle.smith_check_rules.specs.Slots.{AreBelow, AreSlotsValid, IsBelow}
use Rattle.smith_check_operands.proofs.CoverLemmas.{push_all}
use Rattle.smith_check_rules.specs.StackTypes.{IsNumeric}
use Rattle.smith_check_instr.specs.Selects.{IsJoin, HaveNoJoin, number, both, join}
use Rattle.smith_check_rules.specs.Sequences.{Stacked, stacked, IsFramed, IsStep}
use Rattle.smith_check_operands.specs.Covers.{Held, holding, Covers, Pops, PopsNothing, Pushes, Tops, TopsNothing}
use Rattle.smith_check_operands.specs.Closes.{StepsNowhere}
use Rattle.smith_check_operands.specs.Applies.{IsTaken}
use Rattle.smith_check_operands.proofs.ApplyLemmas.{nothing_above}
use Rattle.smith_check_operands.proofs.BelowLemmas.{below_refl, below_trans, below_all}

pub join_right : (types : List SubType) (a : Slot) → IsNumeric a → IsJoin types Bottom a a
join_right types a numeric = record { numeric = numeric; above_first = tt; above_second = below_refl types a; least = λ v n p q. q }

pub join_left : (types : List SubType) (a : Slot) → IsNumeric a → IsJoin types a Bottom a
join_left types a numeric = record { numeric = numeric; above_first = below_refl types a; above_second = tt; least = λ v n p q. p }

pub join_same : (types : List SubType) (a : Slot) → IsNumeric a → IsJoin types a a a
join_same types a numeric = record {
  numeric = numeric;
  above_first = below_refl types a;
  above_second = below_refl types a;
  least = λ v n p q. p;
}

-- what `select` takes and gives
pub record SelectsFrom (context : BodyContext) (old : Held) (after : List Slot) : Type 0 where
  pub before : List Slot
  pub given : Slot
  pub numeric : IsNumeric given
  pub covered : Covers context old before
  pub framed : IsFramed context (given ∷ given ∷ Value I32 ∷ []) (given ∷ []) [] (stacked before []) (stacked after [])

pub record Selects (context : BodyContext) (old new : Held) : Type 0 where
  pub sound : (after : List Slot) → Covers context new after → SelectsFrom context old after
  pub complete : (before after : List Slot) (given : Slot) → IsNumeric given → Covers context old before
      → IsFramed context (given ∷ given ∷ Value I32 ∷ []) (given ∷ []) [] (stacked before []) (stacked after []) → Covers context new after

record Three (types : List SubType) (xs : List Slot) (p q r : Slot) : Type 0 where
  a : Slot
  b : Slot
  c : Slot
  is : xs ≡ a ∷ b ∷ c ∷ []
  first : IsBelow types a p
  second : IsBelow types b q
  third : IsBelow types c r

three : (types : List SubType) (xs : List Slot) (p q r : Slot) → AreBelow types xs (p ∷ q ∷ r ∷ []) → Three types xs p q r
three types [] p q r below = absurd below
three types (a ∷ []) p q r (x, below) = absurd below
three types (a ∷ b ∷ []) p q r (x, (y, below)) = absurd below
three types (a ∷ b ∷ c ∷ []) p q r (x, (y, (z, below))) = record { a = a; b = b; c = c; is = refl; first = x; second = y; third = z }
three types (a ∷ b ∷ c ∷ d ∷ xs) p q r (x, (y, (z, below))) = absurd below

pub selects : (context : BodyContext) (old middle lower rest new : Held) (first second given : Slot)
    → Pops context (Value I32 ∷ []) old middle → Tops context second middle lower
    → Tops context first lower rest → IsJoin context.types first second given → Pushes context (given ∷ []) rest new
    → Selects context old new
selects context old middle lower rest new first second given pops seconds firsts join pushes = record {
  sound = λ after c.
      let p = pushes.sound after c in
      let one = firsts.sound p.rest first (record { covered = p.covered; above = below_refl context.types first; valid = firsts.top_valid })
      in
      let two = seconds.sound (p.rest ++ first ∷ []) second
      (record { covered = one; above = below_refl context.types second; valid = seconds.top_valid }) in
      let t = pops.sound ((p.rest ++ first ∷ []) ++ second ∷ []) two in
      record {
        before = t.before;
        given = given;
        numeric = join.numeric;
        covered = t.covered;
        framed = record {
          rest = p.rest;
          taken = first ∷ second ∷ t.takes.taken;
          given = p.gives.given;
          under = t.takes.is ∙ append_assoc (p.rest ++ first ∷ []) (second ∷ []) t.takes.taken ∙ append_assoc p.rest (first ∷ [])
              (second ∷ t.takes.taken);
          accepted = (join.above_first, (join.above_second, t.takes.accepted));
          offered = p.gives.offered;
          over = p.gives.is;
          set_then = refl;
        };
      };
  complete = λ before after v numeric c f.
      let t = three context.types f.taken v v (Value I32) f.accepted in
      let whole : before ≡ f.rest ++ (t.a ∷ t.b ∷ t.c ∷ []) = f.under ∙ ap (λ xs. f.rest ++ xs) t.is in
      let one = pops.complete (f.rest ++ t.a ∷ t.b ∷ []) before c
      (record { taken = t.c ∷ []; is = whole ∙ sym (append_assoc f.rest (t.a ∷ t.b ∷ []) (t.c ∷ [])); accepted = (t.third, tt) }) in
      let two = seconds.complete (f.rest ++ t.a ∷ []) t.b
      (subst (λ xs. Covers context middle xs) (sym (append_assoc f.rest (t.a ∷ []) (t.b ∷ []))) one) in
      let three = firsts.complete f.rest t.a two.covered in
      let low = join.least v numeric (below_trans context.types first t.a v three.above t.first)
      (below_trans context.types second t.b v two.above t.second) in
      pushes.complete after f.rest three.covered (record {
        given = f.given;
        is = f.over;
        offered = record {
          below = below_all context.types (given ∷ []) (v ∷ []) f.given (low, tt) f.offered.below;
          valid = f.offered.valid;
        };
      });
}

-- no number type is above a reference
no_number_above : (types : List SubType) (reference : RefType) (v : Slot) → IsNumeric v → IsBelow types (Value (Ref reference)) v → ⊥
no_number_above types reference Bottom n p = absurd p
no_number_above types reference SomeRef n p = absurd n
no_number_above types reference (EitherRef ty) n p = absurd n
no_number_above types reference (Value (Ref other)) n p = absurd n
no_number_above types reference (Value v) n p = absurd p

no_number_at_all : (types : List SubType) (v : Slot) → IsNumeric v → IsBelow types SomeRef v → ⊥
no_number_at_all types Bottom n p = absurd p
no_number_at_all types SomeRef n p = absurd n
no_number_at_all types (EitherRef ty) n p = absurd n
no_number_at_all types (Value (Ref other)) n p = absurd n
no_number_at_all types (Value v) n p = absurd p

no_number_of_either : (types : List SubType) (ty : AbstractHeapType) (v : Slot) → IsNumeric v → IsBelow types (EitherRef ty) v → ⊥
no_number_of_either types ty Bottom n p = absurd p
no_number_of_either types ty SomeRef n p = absurd n
no_number_of_either types ty (EitherRef other) n p = absurd n
no_number_of_either types ty (Value (Ref other)) n p = absurd n
no_number_of_either types ty (Value v) n (shared, p) = absurd p

apart : (types : List SubType) (a b : ValType) (v : Slot) → both a b ≡ None → IsNumeric v → IsBelow types (Value a) v
    → IsBelow types (Value b) v → ⊥
apart types a b Bottom is n p q = absurd p
apart types a b SomeRef is n p q = absurd n
apart types a b (EitherRef ty) is n p q = absurd n
apart types a b (Value (Ref r)) is n p q = absurd n
apart types I32 I32 (Value I32) is n p q = cc
apart types I64 I64 (Value I64) is n p q = cc
apart types F32 F32 (Value F32) is n p q = cc
apart types F64 F64 (Value F64) is n p q = cc
apart types V128 V128 (Value V128) is n p q = cc
apart types a b (Value v) is n p q = search rules

number_right : (types : List SubType) (value : ValType) → MatchOption (number value) (HaveNoJoin types Bottom (Value value))
    (λ given. IsJoin types Bottom (Value value) given)
number_right types I32 = join_right types (Value I32) tt
number_right types I64 = join_right types (Value I64) tt
number_right types F32 = join_right types (Value F32) tt
number_right types F64 = join_right types (Value F64) tt
number_right types V128 = join_right types (Value V128) tt
number_right types (Ref reference) = λ v n p q. no_number_above types reference v n q

number_left : (types : List SubType) (value : ValType) → MatchOption (number value) (HaveNoJoin types (Value value) Bottom)
    (λ given. IsJoin types (Value value) Bottom given)
number_left types I32 = join_left types (Value I32) tt
number_left types I64 = join_left types (Value I64) tt
number_left types F32 = join_left types (Value F32) tt
number_left types F64 = join_left types (Value F64) tt
number_left types V128 = join_left types (Value V128) tt
number_left types (Ref reference) = λ v n p q. no_number_above types reference v n p

both_joined : (types : List SubType) (a b : ValType) → MatchOption (both a b) (HaveNoJoin types (Value a) (Value b))
    (λ given. IsJoin types (Value a) (Value b) given)
both_joined types I32 I32 = join_same types (Value I32) tt
both_joined types I64 I64 = join_same types (Value I64) tt
both_joined types F32 F32 = join_same types (Value F32) tt
both_joined types F64 F64 = join_same types (Value F64) tt
both_joined types V128 V128 = join_same types (Value V128) tt
both_joined types a b = λ v n p q. apart types a b v refl n p q

-- the table is right
pub joined : (types : List SubType) (first second : Slot) → MatchOption (join first second) (HaveNoJoin types first second)
    (λ given. IsJoin types first second given)
joined types Bottom Bottom = join_same types Bottom tt
joined types Bottom SomeRef = λ v n p q. no_number_at_all types v n q
joined types Bottom (EitherRef ty) = λ v n p q. no_number_of_either types ty v n q
joined types Bottom (Value value) = number_right types value
joined types SomeRef second = λ v n p q. no_number_at_all types v n p
joined types (EitherRef ty) second = λ v n p q. no_number_of_either types ty v n p
joined types (Value value) Bottom = number_left types value
joined types (Value value) SomeRef = λ v n p q. no_number_at_all types v n q
joined types (Value value) (EitherRef ty) = λ v n p q. no_number_of_either types ty v n q
joined types (Value value) (Value other) = both_joined types value other

-- `select` steps as it selects
pub selects_as : (context : BodyContext) (labels : List (List ValType)) (set : List ℕ) (old new : Held) → Selects context old new
    → AreSlotsValid context new.known
    → IsTaken context labels instr.Select set old new
selects_as context labels set old new selects valid = record {
  steps = record {
    sound = λ after c.
        let s = selects.sound after c in
        record {
          before = s.before;
          covered = s.covered;
          step = record {
            operands = s.given ∷ s.given ∷ Value I32 ∷ [];
            results = s.given ∷ [];
            typed = (s.given, s.numeric, refl, refl);
            framed = record {
              rest = s.framed.rest;
              taken = s.framed.taken;
              given = s.framed.given;
              under = s.framed.under;
              accepted = s.framed.accepted;
              offered = record { below = s.framed.offered.below; valid = s.framed.offered.valid };
              over = s.framed.over;
              set_then = refl;
            };
          };
        };
    complete = λ before after c s.
        let (given, numeric, is, also) = s.typed in
        selects.complete before after.stack given numeric c (record {
          rest = s.framed.rest;
          taken = s.framed.taken;
          given = s.framed.given;
          under = s.framed.under;
          accepted = subst (λ xs. AreBelow context.types s.framed.taken xs) is s.framed.accepted;
          offered = record {
            below = subst (λ xs. AreBelow context.types xs s.framed.given) also s.framed.offered.below;
            valid = s.framed.offered.valid;
          };
          over = s.framed.over;
          set_then = refl;
        });
  };
  valid = valid;
}

pub select_unindexed : (context : BodyContext) (labels : List (List ValType)) (set : List ℕ) (old : Held)
    → PopsNothing context (Value I32 ∷ []) old → StepsNowhere context labels instr.Select set old
select_unindexed context labels set old never before after c s =
    let (given, numeric, is, also) = s.typed in
    nothing_above context (given ∷ given ∷ []) (Value I32 ∷ []) old never s.framed.rest before c (record {
      taken = s.framed.taken;
      is = s.framed.under;
      accepted = subst (λ xs. AreBelow context.types s.framed.taken xs) is s.framed.accepted;
    })

-- two values below an index
record IsSeen (context : BodyContext) (middle : Held) : Type 0 where
  given : Slot
  numeric : IsNumeric given
  rest : List Slot
  a : Slot
  b : Slot
  covered : Covers context middle ((rest ++ a ∷ []) ++ b ∷ [])
  first : IsBelow context.types a given
  second : IsBelow context.types b given

seen : (context : BodyContext) (labels : List (List ValType)) (set : List ℕ) (old middle : Held) (before : List Slot) (after : Stacked)
    → Pops context (Value I32 ∷ []) old middle
    → Covers context old before → IsStep (with_labels context labels) instr.Select (stacked before set) after → IsSeen context middle
seen context labels set old middle before after pops c s =
    let (v, numeric, is, also) = s.typed in
    let t = three context.types s.framed.taken v v (Value I32) (subst (λ xs. AreBelow context.types s.framed.taken xs) is s.framed.accepted)
    in
    let whole : before ≡ s.framed.rest ++ (t.a ∷ t.b ∷ t.c ∷ []) = s.framed.under ∙ ap (λ xs. s.framed.rest ++ xs) t.is in
    let one = pops.complete (s.framed.rest ++ t.a ∷ t.b ∷ []) before c
    (record { taken = t.c ∷ []; is = whole ∙ sym (append_assoc s.framed.rest (t.a ∷ t.b ∷ []) (t.c ∷ [])); accepted = (t.third, tt) }) in
    record {
      given = v;
      numeric = numeric;
      rest = s.framed.rest;
      a = t.a;
      b = t.b;
      covered = subst (λ xs. Covers context middle xs) (sym (append_assoc s.framed.rest (t.a ∷ []) (t.b ∷ []))) one;
      first = t.first;
      second = t.second;
    }

pub select_without_second : (context : BodyContext) (labels : List (List ValType)) (set : List ℕ) (old middle : Held)
    → Pops context (Value I32 ∷ []) old middle → TopsNothing context middle
    → StepsNowhere context labels instr.Select set old
select_without_second context labels set old middle pops never before after c s =
    let x = seen context labels set old middle before after pops c s in never (x.rest ++ x.a ∷ []) x.b x.covered

pub select_without_first : (context : BodyContext) (labels : List (List ValType)) (set : List ℕ) (old middle lower : Held) (second : Slot)
    → Pops context (Value I32 ∷ []) old middle
    → Tops context second middle lower → TopsNothing context lower → StepsNowhere context labels instr.Select set old
select_without_first context labels set old middle lower second pops seconds never before after c s =
    let x = seen context labels set old middle before after pops c s in
    never x.rest x.a (seconds.complete (x.rest ++ x.a ∷ []) x.b x.covered).covered

pub select_unjoined : (context : BodyContext) (labels : List (List ValType)) (set : List ℕ) (old middle lower rest : Held)
    (first second : Slot) → Pops context (Value I32 ∷ []) old middle
    → Tops context second middle lower → Tops context first lower rest → HaveNoJoin context.types first second
    → StepsNowhere context labels instr.Select set old
select_unjoined context labels set old middle lower rest first second pops seconds firsts never before after c s =
    let x = seen context labels set old middle before after pops c s in
    let two = seconds.complete (x.rest ++ x.a ∷ []) x.b x.covered in
    let one = firsts.complete x.rest x.a two.covered in
    never x.given x.numeric (below_trans context.types first x.a x.given one.above x.first)
    (below_trans context.types second x.b x.given two.above x.second)

-- what holds of both types holds of that above them
number_keeps : (P : Slot → Type 0) (value : ValType) → P (Value value) → MatchOption (number value) (Unit {0}) P
number_keeps P I32 p = p
number_keeps P I64 p = p
number_keeps P F32 p = p
number_keeps P F64 p = p
number_keeps P V128 p = p
number_keeps P (Ref reference) p = tt

both_keeps : (P : Slot → Type 0) (a b : ValType) → P (Value a) → MatchOption (both a b) (Unit {0}) P
both_keeps P I32 I32 p = p
both_keeps P I64 I64 p = p
both_keeps P F32 F32 p = p
both_keeps P F64 F64 p = p
both_keeps P V128 V128 p = p
both_keeps P a b p = tt

pub join_keeps : (P : Slot → Type 0) (first second : Slot) → P first → P second → MatchOption (join first second) (Unit {0}) P
join_keeps P Bottom Bottom p q = p
join_keeps P Bottom SomeRef p q = tt
join_keeps P Bottom (EitherRef ty) p q = tt
join_keeps P Bottom (Value value) p q = number_keeps P value q
join_keeps P SomeRef second p q = tt
join_keeps P (EitherRef ty) second p q = tt
join_keeps P (Value value) Bottom p q = number_keeps P value p
join_keeps P (Value value) SomeRef p q = tt
join_keeps P (Value value) (EitherRef ty) p q = tt
join_keeps P (Value value) (Value other) p q = both_keeps P value other p

pub pushed_one : (context : BodyContext) (known after : List Slot) (slot : Slot) (dead : Bool) → AreSlotsValid context known
    → IsSlotValid context slot → after ≡ known ++ slot ∷ []
    → Pushes context (slot ∷ []) (holding known dead) (holding after dead)
pushed_one context known after slot dead known_valid valid is =
    subst (λ xs. Pushes context (slot ∷ []) (holding known dead) (holding xs dead)) (sym is)
    (push_all context known (slot ∷ []) dead known_valid (All-cons (IsSlotValid context) slot [] valid (All-nil (IsSlotValid context))))

-- a list of one item
pub one_item : {A : Type 0} (xs : List A) (x : A) → length xs ≡ 1 → x ≡ slice_index_or xs 0 x → xs ≡ x ∷ []
one_item [] x one is = absurd (omega (arith, one))
one_item (y ∷ []) x one is = ap (λ z. z ∷ []) (sym is)
one_item (y ∷ z ∷ xs) x one is = absurd (omega (arith, one))

pub item_same : {A : Type 0} (x y : A) → x ∷ [] ≡ y ∷ [] → x ≡ y
item_same x y same = ap (λ xs. slice_index_or xs 0 x) same
