-- Instructions whose operands have several types.
use Rattle.smith_check_references.proofs.Common.{[], Abstract, AbstractHeapType, All-cons, All-head, All-nil, ap, AreBelow, below_trans}
use Rattle.smith_check_references.proofs.Common.{BodyContext, Bool, Bottom, EitherRef, false, false≢true, HasNonNull, HeapType, Held, I32}
use Rattle.smith_check_references.proofs.Common.{inl, inr, IsBelow, IsHeapValid, IsSlotValid, itself, List, not, nullable_to, Ref}
use Rattle.smith_check_references.proofs.Common.{reference_to, refl, RefType, Slot, SomeRef, subst, SubType, sym, To, ValType, Value}
use Rattle.smith_check_references.proofs.Common.{values, with_labels, ℕ, ◌∙◌, ◌∷◌, ◌≡◌}
use Rattle.std.proofs.Common.{append_assoc, ◌++◌}
use Rattle.smith_types.specs.Syntax.value_type.AbstractHeapType.TheVariants as abstract
use Rattle.smith_types.proofs.GrowthLemmas.{IsBelow-trans}
use Rattle.smith_instr.specs.InstrTypes.{HasInstrType}
use Rattle.smith_instr.specs.declared.instr.Instr.{Instr}
use Rattle.smith_instr.proofs.AmongLemmas.{true_from_not}
use Rattle.smith_instr.specs.declared.instr.Instr.TheVariants as instr
use Rattle.smith_instr.specs.declared.reference.ReferenceInstr.TheVariants as reference
use Rattle.smith_check_rules.specs.Sequences.{Stacked, stacked, IsStep}
use Rattle.smith_check_rules.specs.StackTypes.{HasStackType, HasValueType, IsBottomRef}
use Rattle.smith_check_operands.proofs.BelowLemmas.{below_refl}
use Rattle.smith_check_operands.proofs.RangeLemmas.{slots_in_range}
use Rattle.smith_check_operands.specs.Applies.{IsTaken}
use Rattle.smith_check_operands.specs.Closes.{StepsNowhere}
use Rattle.smith_check_operands.specs.Covers.{Covers, Pushes, Tops, TopsNothing}
use Rattle.smith_check_operands.specs.Fits.{IsSlotInRange}
use Rattle.smith_check_references.proofs.OfferLemmas.{above_ref, must_be_nullable}
use Rattle.smith_check_references.specs.Choices.{FitsEither, ReadsEither, ReadsAny}
use Rattle.smith_check_references.specs.Rows.{HasRow, IsLeastOf, HasNoneOf}

-- a number counts as one of each type above it
number_of : (context : BodyContext) (Row : Slot → Slot → Type 0) (top from : Slot) → Row from (Value I32) → IsBelow context.types top from
    → ((from to : Slot) → Row from to → to ≡ Value I32) → IsLeastOf context Row top (Value I32)
number_of context Row top from row fits only = record {
  sound = λ other valid above. (from, Value I32, row, fits, above);
  least = λ operand to other same below valid above. subst (λ s. IsBelow context.types s other) (only operand to same) above;
  valid = tt;
}

-- any reference is of a valid type, made nullable
any_read : (context : BodyContext) (top : Slot) (heap_type : HeapType) → IsHeapValid context heap_type
    → IsBelow context.types top (Value (nullable_to heap_type)) → IsLeastOf context (ReadsAny context) top (Value I32)
any_read context top heap_type valid fits =
    number_of context (ReadsAny context) top (Value (nullable_to heap_type)) ((heap_type, valid, refl), refl) fits (λ from to row. row.1)

-- functions are always valid
function_valid : (context : BodyContext) → IsHeapValid context (Abstract false abstract.Func)
function_valid context = (tt, λ n. absurd (false≢true n))

pub bottom_read : (context : BodyContext) → IsLeastOf context (ReadsAny context) Bottom (Value I32)
bottom_read context = any_read context Bottom (Abstract false abstract.Func) (function_valid context) tt

pub some_ref_read : (context : BodyContext) → IsLeastOf context (ReadsAny context) SomeRef (Value I32)
some_ref_read context = any_read context SomeRef (Abstract false abstract.Func) (function_valid context) tt

pub either_ref_read : (context : BodyContext) (ty : AbstractHeapType) → IsSlotValid context (EitherRef ty)
    → IsLeastOf context (ReadsAny context) (EitherRef ty) (Value I32)
either_ref_read context ty valid =
    any_read context (EitherRef ty) (Abstract false ty) valid.1 (false, record { heap = itself; nullable = λ n. refl })

pub ref_read : (context : BodyContext) (reference : RefType) → IsSlotValid context (Value (Ref reference))
    → IsLeastOf context (ReadsAny context) (Value (Ref reference)) (Value I32)
ref_read context reference valid =
    any_read context (Value (Ref reference)) reference.heap_type valid.1.heap_type (record { heap = itself; nullable = λ n. refl })

no_bottom_above : (types : List SubType) (value : ValType) (from : Slot) → IsBottomRef from → IsBelow types (Value value) from → ⊥
no_bottom_above types value SomeRef bottom below = below
no_bottom_above types value (EitherRef ty) bottom below = below
no_bottom_above types value from bottom below = absurd bottom

non_null_least : (context : BodyContext) (reference : RefType) (nullable : Bool) → nullable ≡ not context.features.function_references
    → (from to other : Slot) → HasNonNull context from to → IsBelow context.types (Value (Ref reference)) from → IsSlotValid context other
    → IsBelow context.types to other
    → IsBelow context.types (Value (Ref (record { nullable = nullable; heap_type = reference.heap_type }))) other
non_null_least context reference nullable is from to other row below valid above =
    elim row [
      | inl named ↦
          let (heap_type, heap_valid, from_is, to_is) = named in
          let under = subst (λ s. IsBelow context.types (Value (Ref reference)) s) from_is below in
          let a = above_ref context (record { nullable = false; heap_type = heap_type }) other valid
          (subst (λ s. IsBelow context.types s other) to_is above) in
          subst (λ s. IsBelow context.types (Value (Ref (record { nullable = nullable; heap_type = reference.heap_type }))) s) (sym a.is)
          (record {
            heap = IsBelow-trans context.types under.heap a.below.heap;
            nullable = λ n. must_be_nullable context a.upper a.valid (sym n ∙ is);
          })
      | inr bottom ↦ absurd (no_bottom_above context.types (Ref reference) from bottom.0 below)
    ]

-- a reference that is not null
pub ref_non_null : (context : BodyContext) (reference : RefType) (nullable : Bool) → nullable ≡ not context.features.function_references
    → IsSlotValid context (Value (Ref reference))
    → IsLeastOf context (HasNonNull context) (Value (Ref reference))
    (Value (Ref (record { nullable = nullable; heap_type = reference.heap_type })))
ref_non_null context reference nullable is valid = record {
  sound = λ other other_valid above. (
    Value (nullable_to reference.heap_type),
    Value (reference_to reference.heap_type),
    inl (reference.heap_type, valid.1.heap_type, refl, refl),
    record { heap = itself; nullable = λ n. refl },
    below_trans context.types (Value (reference_to reference.heap_type))
        (Value (Ref (record { nullable = nullable; heap_type = reference.heap_type }))) other
        (record { heap = itself; nullable = λ n. absurd (false≢true n) }) above,
  );
  least = λ from to other row below other_valid above.
      non_null_least context reference nullable is from to other row below other_valid above;
  valid = (
    valid.0,
    record {
      heap_type = valid.1.heap_type;
      nullable = λ n. true_from_not context.features.function_references
          (sym is ∙ n);
    },
  );
}

-- a reference that is shared or not is not null
either_ref_least : (context : BodyContext) (ty : AbstractHeapType) (from to : Slot) → HasNonNull context from to
    → IsBelow context.types (EitherRef ty) from → IsBelow context.types (EitherRef ty) to
either_ref_least context ty from to (inl (heap_type, valid, is, also)) below =
    let (shared, under) = subst (λ s. IsBelow context.types (EitherRef ty) s) is below in
    subst (λ s. IsBelow context.types (EitherRef ty) s) (sym also) (shared, record { heap = under.heap; nullable = λ n. n })
either_ref_least context ty from to (inr (bottom, same)) below = subst (λ s. IsBelow context.types (EitherRef ty) s) (sym same) below

pub either_ref_non_null : (context : BodyContext) (ty : AbstractHeapType) → IsSlotValid context (EitherRef ty)
    → IsLeastOf context (HasNonNull context) (EitherRef ty) (EitherRef ty)
either_ref_non_null context ty valid = record {
  sound = λ other other_valid above. (EitherRef ty, EitherRef ty, inr (tt, refl), refl, above);
  least = λ from to other row below other_valid above.
      below_trans context.types (EitherRef ty) to other (either_ref_least context ty from to row below) above;
  valid = valid;
}

-- references to a heap type, shared or not
pub either_read : (context : BodyContext) (ty : AbstractHeapType) (top : Slot) → FitsEither context.types ty top
    → IsLeastOf context (ReadsEither ty) top (Value I32)
either_read context ty top (shared, fits) =
    number_of context (ReadsEither ty) top (Value (nullable_to (Abstract shared ty))) ((shared, refl), refl) fits (λ from to row. row.1)

pub either_not_read : (context : BodyContext) (ty : AbstractHeapType) (top : Slot) → (FitsEither context.types ty top → ⊥)
    → HasNoneOf context (ReadsEither ty) top
either_not_read context ty top never from to other ((shared, is), also) fits valid above =
    never (shared, subst (λ s. IsBelow context.types top s) is fits)

-- an instruction that reads a reference to a heap type, shared or not
pub either_row : (ty : AbstractHeapType) (context : BodyContext) (labels : List (List ValType)) (x : Instr) (set : List ℕ)
    → ((os rs : List Slot) → HasValueType (with_labels context labels) set x os rs → HasStackType (with_labels context labels) set x os rs)
    → ((os rs : List Slot) → HasStackType (with_labels context labels) set x os rs → HasValueType (with_labels context labels) set x os rs)
    → ((os rs : List ValType) → (shared : Bool) × To os rs (nullable_to (Abstract shared ty) ∷ []) (I32 ∷ [])
    → HasInstrType (with_labels context labels) set x os rs)
    → ((os rs : List ValType) → HasInstrType (with_labels context labels) set x os rs
    → (shared : Bool) × To os rs (nullable_to (Abstract shared ty) ∷ []) (I32 ∷ []))
    → HasRow (with_labels context labels) set x (ReadsEither ty)
either_row ty context labels x set lift lower make take = record {
  typed = λ from to row.
      let ((shared, is), also) = row in
      lift (from ∷ []) (to ∷ []) (
        nullable_to (Abstract shared ty) ∷ [],
        I32 ∷ [],
        make (nullable_to (Abstract shared ty) ∷ []) (I32 ∷ []) (shared, (refl, refl)),
        ap (λ (v : Slot). v ∷ []) is,
        ap (λ (v : Slot). v ∷ []) also,
      );
  only = λ os rs t.
      let (these, those, has, is, also) = lower os rs t in
      let (shared, (one, other)) = take these those has in (
        Value (nullable_to (Abstract shared ty)),
        Value I32,
        ((shared, refl), refl),
        is ∙ ap (λ ts. values ts) one,
        also ∙ ap (λ ts. values ts) other,
      );
}

pub is_null_row : (context : BodyContext) (labels : List (List ValType)) (set : List ℕ)
    → HasRow (with_labels context labels) set (instr.Reference reference.IsNull) (ReadsAny context)
is_null_row context labels set = record {
  typed = λ from to row.
      let ((heap_type, valid, is), also) = row in (
        nullable_to heap_type ∷ [],
        I32 ∷ [],
        (heap_type, valid, (refl, refl)),
        ap (λ (v : Slot). v ∷ []) is,
        ap (λ (v : Slot). v ∷ []) also,
      );
  only = λ os rs t.
      let (these, those, (heap_type, valid, (one, other)), is, also) = t in (
        Value (nullable_to heap_type),
        Value I32,
        ((heap_type, valid, refl), refl),
        is ∙ ap (λ ts. values ts) one,
        also ∙ ap (λ ts. values ts) other,
      );
}

pub as_non_null_row : (context : BodyContext) (labels : List (List ValType)) (set : List ℕ)
    → HasRow (with_labels context labels) set (instr.Reference reference.AsNonNull) (HasNonNull context)
as_non_null_row context labels set = record {
  typed = λ from to row. (from, to, row, refl, refl);
  only = λ os rs t. t;
}

-- a known type that is valid is in range
pub top_in_range : (context : BodyContext) (top : Slot) → IsSlotValid context top → IsSlotInRange context.types top
top_in_range context top valid = All-head (IsSlotInRange context.types) top []
    (slots_in_range context (top ∷ []) (All-cons (IsSlotValid context) top [] valid (All-nil (IsSlotValid context))))

-- two references that are compared
record IsSeen (context : BodyContext) (old : Held) (rest : List Slot) : Type 0 where
  one : Bool
  other : Bool
  a : Slot
  b : Slot
  covered : Covers context old ((rest ++ a ∷ []) ++ b ∷ [])
  first : IsBelow context.types a (Value (nullable_to (Abstract one abstract.Eq)))
  second : IsBelow context.types b (Value (nullable_to (Abstract other abstract.Eq)))

two : (context : BodyContext) (xs : List Slot) (p q : Slot) → AreBelow context.types xs (p ∷ q ∷ [])
    → (a : Slot) × (b : Slot) × (xs ≡ a ∷ b ∷ []) × IsBelow context.types a p × IsBelow context.types b q
two context [] p q below = absurd below
two context (a ∷ []) p q (x, below) = absurd below
two context (a ∷ b ∷ []) p q (x, (y, below)) = (a, b, refl, x, y)
two context (a ∷ b ∷ c ∷ xs) p q (x, (y, below)) = absurd below

seen : (context : BodyContext) (labels : List (List ValType)) (set : List ℕ) (old : Held) (before : List Slot) (after : Stacked)
    → Covers context old before → (s : IsStep (with_labels context labels) (instr.Reference reference.Eq) (stacked before set) after)
    → IsSeen context old s.framed.rest
seen context labels set old before after c s =
    let (these, those, (one, other, (is, also)), to, results) = s.typed in
    let (a, b, both, first, second) = two context s.framed.taken (Value (nullable_to (Abstract one abstract.Eq)))
    (Value (nullable_to (Abstract other abstract.Eq)))
    (subst (λ xs. AreBelow context.types s.framed.taken xs) (to ∙ ap (λ ts. values ts) is) s.framed.accepted) in
    record {
      one = one;
      other = other;
      a = a;
      b = b;
      covered = subst (λ xs. Covers context old xs)
          (s.framed.under ∙ ap (λ xs. s.framed.rest ++ xs) both ∙ sym (append_assoc s.framed.rest (a ∷ []) (b ∷ []))) c;
      first = first;
      second = second;
    }

pub eq_without_second : (context : BodyContext) (labels : List (List ValType)) (set : List ℕ) (old : Held) → TopsNothing context old
    → StepsNowhere context labels (instr.Reference reference.Eq) set old
eq_without_second context labels set old never before after c s =
    let x = seen context labels set old before after c s in never (s.framed.rest ++ x.a ∷ []) x.b x.covered

pub eq_without_first : (context : BodyContext) (labels : List (List ValType)) (set : List ℕ) (old middle : Held) (second : Slot)
    → Tops context second old middle → TopsNothing context middle → StepsNowhere context labels (instr.Reference reference.Eq) set old
eq_without_first context labels set old middle second seconds never before after c s =
    let x = seen context labels set old before after c s in
    never s.framed.rest x.a (seconds.complete (s.framed.rest ++ x.a ∷ []) x.b x.covered).covered

pub eq_unfit : (context : BodyContext) (labels : List (List ValType)) (set : List ℕ) (old middle rest : Held) (first second : Slot)
    → Tops context second old middle → Tops context first middle rest
    → (FitsEither context.types abstract.Eq first → FitsEither context.types abstract.Eq second → ⊥)
    → StepsNowhere context labels (instr.Reference reference.Eq) set old
eq_unfit context labels set old middle rest first second seconds firsts never before after c s =
    let x = seen context labels set old before after c s in
    let two = seconds.complete (s.framed.rest ++ x.a ∷ []) x.b x.covered in
    let one = firsts.complete s.framed.rest x.a two.covered in
    never (x.one, below_trans context.types first x.a (Value (nullable_to (Abstract x.one abstract.Eq))) one.above x.first)
    (x.other, below_trans context.types second x.b (Value (nullable_to (Abstract x.other abstract.Eq))) two.above x.second)

pub compared : (context : BodyContext) (labels : List (List ValType)) (set : List ℕ) (old middle rest new : Held) (first second : Slot)
    → Tops context second old middle → Tops context first middle rest → FitsEither context.types abstract.Eq first
    → FitsEither context.types abstract.Eq second → Pushes context (Value I32 ∷ []) rest new
    → IsTaken context labels (instr.Reference reference.Eq) set old new
compared context labels set old middle rest new first second seconds firsts (one, fits) (other, also) pushes = record {
  steps = record {
    sound = λ after c.
        let p = pushes.sound after c in
        let lower = firsts.sound p.rest first
        (record { covered = p.covered; above = below_refl context.types first; valid = firsts.top_valid }) in
        let upper = seconds.sound (p.rest ++ first ∷ []) second
        (record { covered = lower; above = below_refl context.types second; valid = seconds.top_valid }) in
        record {
          before = (p.rest ++ first ∷ []) ++ second ∷ [];
          covered = upper;
          step = record {
            operands = values (nullable_to (Abstract one abstract.Eq) ∷ nullable_to (Abstract other abstract.Eq) ∷ []);
            results = values (I32 ∷ []);
            typed = (
              nullable_to (Abstract one abstract.Eq) ∷ nullable_to (Abstract other abstract.Eq) ∷ [],
              I32 ∷ [],
              (one, other, (refl, refl)),
              refl,
              refl,
            );
            framed = record {
              rest = p.rest;
              taken = first ∷ second ∷ [];
              given = p.gives.given;
              under = append_assoc p.rest (first ∷ []) (second ∷ []);
              accepted = (fits, (also, tt));
              offered = record { below = p.gives.offered.below; valid = p.gives.offered.valid };
              over = p.gives.is;
              set_then = refl;
            };
          };
        };
    complete = λ before after c s.
        let x = seen context labels set old before after c s in
        let (these, those, (p, q, (is, results)), to, gives) = s.typed in
        let upper = seconds.complete (s.framed.rest ++ x.a ∷ []) x.b x.covered in
        let lower = firsts.complete s.framed.rest x.a upper.covered in
        pushes.complete after.stack s.framed.rest lower.covered (record {
          given = s.framed.given;
          is = s.framed.over;
          offered = record {
            below = subst (λ xs. AreBelow context.types xs s.framed.given) (gives ∙ ap (λ ts. values ts) results) s.framed.offered.below;
            valid = s.framed.offered.valid;
          };
        });
  };
  valid = pushes.valid;
}
