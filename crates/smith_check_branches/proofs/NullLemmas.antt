-- Branches by whether a reference is null.
use Rattle.smith_check_branches.proofs.Common.{[], All-head, all_right, ap, append_assoc, Applies, AreBelow, AreSlotsValid}
use Rattle.smith_check_branches.proofs.Common.{below_themselves, BodyContext, Bool, Covers, false, false≢true, Held, I32, inl, IsBelow}
use Rattle.smith_check_branches.proofs.Common.{IsSlotValid, IsTrue, IsValid, List, None, none_not_some, nullable_to, PopsNothing, Ref, refl}
use Rattle.smith_check_branches.proofs.Common.{RefType, slice_get, Slot, Some, some_same, subst, SubType, sym, true, ValType, values}
use Rattle.smith_check_branches.proofs.Common.{with_labels, zip_join, zip_split, ℕ, ◌++◌, ◌∙◌, ◌∷◌, ◌≡◌}
use Rattle.std.proofs.Common.{inr}
use Rattle.std.specs.Prelude.{if◌then◌else◌, MatchOption}
use Rattle.smith_types.specs.Expressions.{reference_to}
use Rattle.smith_types.specs.Subtyping.{itself, IsRefBelow}
use Rattle.smith_types.specs.Syntax.value_type.AbstractHeapType.{AbstractHeapType}
use Rattle.smith_types.specs.Syntax.value_type.ValType.TheVariants.{F32, F64, I64, V128}
use Rattle.smith_instr.specs.Contexts.{IsHeapValid}
use Rattle.smith_instr.specs.declared.instr.Instr.TheVariants as instr
use Rattle.smith_check_rules.specs.Sequences.{Stacked, stacked, IsStep}
use Rattle.smith_check_rules.specs.StackTypes.{HasNonNull, IsBottomRef}
use Rattle.smith_check_rules.specs.declared.slot.Slot.TheVariants as slot
use Rattle.smith_check_operands.specs.Applies.{IsTaken}
use Rattle.smith_check_operands.specs.Closes.{StepsNowhere}
use Rattle.smith_check_operands.specs.Covers.{Tops, TopsNothing}
use Rattle.smith_check_operands.proofs.BelowLemmas.{below_all, below_refl, below_trans}
use Rattle.smith_check_operands.proofs.ListLemmas.{zip_parts}
use Rattle.smith_check_operands.proofs.PushLemmas.{single}
use Rattle.smith_check_branches.specs.References.{least_valid, least_non_null}
use Rattle.smith_check_branches.proofs.OperandLemmas.{single_above}

-- a value may be a reference that is not null, of this least valid type
pub record IsLeastNonNull (context : BodyContext) (top least : Slot) : Type 0 where
  pub from : Slot
  pub to : Slot
  pub related : HasNonNull context from to
  pub below : IsBelow context.types top from
  pub above : IsBelow context.types to least
  pub valid : IsSlotValid context least
  pub smallest : (other made given : Slot) → HasNonNull context other made → IsBelow context.types top other
      → IsBelow context.types made given → IsSlotValid context given → IsBelow context.types least given

-- a value is no reference
abbrev pub HasNoNonNull : BodyContext → Slot → Type 0
HasNoNonNull context top = (from to : Slot) → HasNonNull context from to → IsBelow context.types top from → ⊥

-- what a nullable type allows, the least valid type allows
allowed : (feature kept given : Bool) → (IsTrue kept → IsTrue given) → (given ≡ false → IsTrue feature)
    → IsTrue (if feature then kept else true) → IsTrue given
allowed true kept given so valid h = so h
allowed false kept true so valid h = refl
allowed false kept false so valid h = absurd (false≢true (valid refl))

-- a valid type above a reference type is above the least valid one
pub above_least : (context : BodyContext) (reference : RefType) (given : ValType) → IsBelow context.types (slot.Value (Ref reference))
    (slot.Value given) → IsValid context given
    → IsBelow context.types (slot.Value (Ref (least_valid context reference))) (slot.Value given)
above_least context reference (Ref given) below valid = record {
  heap = below.heap;
  nullable = allowed context.features.function_references reference.nullable given.nullable below.nullable valid.1.nullable;
}
above_least context reference I32 below valid = absurd below
above_least context reference I64 below valid = absurd below
above_least context reference F32 below valid = absurd below
above_least context reference F64 below valid = absurd below
above_least context reference V128 below valid = absurd below

pub slot_above_least : (context : BodyContext) (reference : RefType) (given : Slot)
    → IsBelow context.types (slot.Value (Ref reference)) given → IsSlotValid context given
    → IsBelow context.types (slot.Value (Ref (least_valid context reference))) given
slot_above_least context reference (slot.Value given) below valid = above_least context reference given below valid
slot_above_least context reference slot.Bottom below valid = absurd below
slot_above_least context reference slot.SomeRef below valid = absurd below
slot_above_least context reference (slot.EitherRef ty) below valid = absurd below

kept_null : (feature kept : Bool) → IsTrue kept → IsTrue (if feature then kept else true)
kept_null true kept h = h
kept_null false kept h = refl

pub least_above : (context : BodyContext) (reference : RefType)
    → IsBelow context.types (slot.Value (Ref reference)) (slot.Value (Ref (least_valid context reference)))
least_above context reference = record {
  heap = itself;
  nullable = kept_null context.features.function_references reference.nullable;
}

feature_needed : (feature kept : Bool) → (if feature then kept else true) ≡ false → IsTrue feature
feature_needed true kept h = refl
feature_needed false kept h = absurd (false≢true (sym h))

pub least_is_valid : (context : BodyContext) (reference : RefType) → IsTrue context.features.reference_types
    → IsHeapValid context reference.heap_type → IsValid context (Ref (least_valid context reference))
least_is_valid context reference on heap = (
  on,
  record { heap_type = heap; nullable = feature_needed context.features.function_references reference.nullable },
)

some_reference_under : (types : List SubType) (from : Slot) → IsBottomRef from → IsBelow types slot.SomeRef from
some_reference_under types slot.SomeRef bottom = tt
some_reference_under types (slot.EitherRef ty) bottom = tt
some_reference_under types from bottom = absurd bottom

no_bottom_above : (types : List SubType) (value : ValType) (from : Slot) → IsBottomRef from → IsBelow types (slot.Value value) from → ⊥
no_bottom_above types value slot.SomeRef bottom below = below
no_bottom_above types value (slot.EitherRef ty) bottom below = below
no_bottom_above types value from bottom below = absurd bottom

some_reference_below : (context : BodyContext) (from to given : Slot) → HasNonNull context from to → IsBelow context.types to given
    → IsBelow context.types slot.SomeRef given
some_reference_below context from to given (inl (heap_type, valid, is, made)) below =
    below_trans context.types slot.SomeRef to given (subst (λ s. IsBelow context.types slot.SomeRef s) (sym made) tt) below
some_reference_below context from to given (inr (bottom, made)) below =
    below_trans context.types slot.SomeRef to given
    (subst (λ s. IsBelow context.types slot.SomeRef s) (sym made) (some_reference_under context.types from bottom)) below

some_reference : (context : BodyContext) (top : Slot) → IsBelow context.types top slot.SomeRef
    → IsLeastNonNull context top slot.SomeRef
some_reference context top below = record {
  from = slot.SomeRef;
  to = slot.SomeRef;
  related = inr (tt, refl);
  below = below;
  above = tt;
  valid = tt;
  smallest = λ other made given related p q v. some_reference_below context other made given related q;
}

either_reference_below : (context : BodyContext) (ty : AbstractHeapType) (from to given : Slot) → HasNonNull context from to
    → IsBelow context.types (slot.EitherRef ty) from → IsBelow context.types to given → IsBelow context.types (slot.EitherRef ty) given
either_reference_below context ty from to given (inl (heap_type, valid, is, made)) below above =
    let (shared, under) = subst (λ s. IsBelow context.types (slot.EitherRef ty) s) is below in
    below_trans context.types (slot.EitherRef ty) to given
    (subst (λ s. IsBelow context.types (slot.EitherRef ty) s) (sym made) (shared, record { heap = under.heap; nullable = λ h. h })) above
either_reference_below context ty from to given (inr (bottom, made)) below above =
    below_trans context.types (slot.EitherRef ty) to given (subst (λ s. IsBelow context.types (slot.EitherRef ty) s) (sym made) below) above

either_reference : (context : BodyContext) (ty : AbstractHeapType) → IsSlotValid context (slot.EitherRef ty)
    → IsLeastNonNull context (slot.EitherRef ty) (slot.EitherRef ty)
either_reference context ty valid = record {
  from = slot.EitherRef ty;
  to = slot.EitherRef ty;
  related = inr (tt, refl);
  below = refl;
  above = refl;
  valid = valid;
  smallest = λ other made given related p q v. either_reference_below context ty other made given related p q;
}

smallest_reference : (context : BodyContext) (reference : RefType) (other made given : Slot) → HasNonNull context other made
    → IsBelow context.types (slot.Value (Ref reference)) other → IsBelow context.types made given → IsSlotValid context given
    → IsBelow context.types (slot.Value (Ref (least_valid context (record { nullable = false; heap_type = reference.heap_type })))) given
smallest_reference context reference other made given (inr (bottom, same)) p q v =
    absurd (no_bottom_above context.types (Ref reference) other bottom p)
smallest_reference context reference other made given (inl (heap_type, valid, is, same)) p q v =
    let types = context.types in
    let lower : RefType = record { nullable = false; heap_type = reference.heap_type } in
    let upper : IsRefBelow types reference (record { nullable = true; heap_type = heap_type }) =
    subst (λ s. IsBelow types (slot.Value (Ref reference)) s) is p in
    let below : IsBelow types (slot.Value (Ref lower)) made = subst (λ s. IsBelow types (slot.Value (Ref lower)) s) (sym same)
    (record { heap = upper.heap; nullable = λ h. absurd (false≢true h) }) in
    slot_above_least context lower given (below_trans types (slot.Value (Ref lower)) made given below q) v

least_reference : (context : BodyContext) (reference : RefType) → IsValid context (Ref reference) → IsLeastNonNull context
    (slot.Value (Ref reference))
    (slot.Value (Ref (least_valid context (record { nullable = false; heap_type = reference.heap_type }))))
least_reference context reference valid = record {
  from = slot.Value (nullable_to reference.heap_type);
  to = slot.Value (reference_to reference.heap_type);
  related = inl (reference.heap_type, valid.1.heap_type, refl, refl);
  below = record { heap = itself; nullable = λ h. refl };
  above = least_above context (record { nullable = false; heap_type = reference.heap_type });
  valid = least_is_valid context (record { nullable = false; heap_type = reference.heap_type }) valid.0 valid.1.heap_type;
  smallest = smallest_reference context reference;
}

-- a number or a vector is no reference
no_reference : (context : BodyContext) (value : ValType)
    → ((reference : RefType) → IsBelow context.types (slot.Value value) (slot.Value (Ref reference)) → ⊥)
    → HasNoNonNull context (slot.Value value)
no_reference context value never from to (inl (heap_type, valid, is, made)) below =
    never (record { nullable = true; heap_type = heap_type }) (subst (λ s. IsBelow context.types (slot.Value value) s) is below)
no_reference context value never from to (inr (bottom, made)) below = no_bottom_above context.types value from bottom below

-- the table is right
pub least_found : (context : BodyContext) (top : Slot) → IsSlotValid context top
    → MatchOption (least_non_null context top) (HasNoNonNull context top) (λ least. IsLeastNonNull context top least)
least_found context slot.Bottom valid = some_reference context slot.Bottom tt
least_found context slot.SomeRef valid = some_reference context slot.SomeRef tt
least_found context (slot.EitherRef ty) valid = either_reference context ty valid
least_found context (slot.Value (Ref reference)) valid = least_reference context reference valid
least_found context (slot.Value I32) valid = no_reference context I32 (λ reference below. below)
least_found context (slot.Value I64) valid = no_reference context I64 (λ reference below. below)
least_found context (slot.Value F32) valid = no_reference context F32 (λ reference below. below)
least_found context (slot.Value F64) valid = no_reference context F64 (λ reference below. below)
least_found context (slot.Value V128) valid = no_reference context V128 (λ reference below. below)

-- what a step takes: a reference above the values of the label
record IsSeen (context : BodyContext) (labels : List (List ValType)) (index : ℕ) (old : Held) (given : List Slot) : Type 0 where
  types : List ValType
  from : Slot
  to : Slot
  there : slice_get labels index ≡ Some types
  related : HasNonNull context from to
  offered : AreBelow context.types (values types ++ to ∷ []) given
  rest : List Slot
  lower : List Slot
  top : Slot
  covered : Covers context old ((rest ++ lower) ++ top ∷ [])
  below : AreBelow context.types lower (values types)
  fits : IsBelow context.types top from

seen : (context : BodyContext) (labels : List (List ValType)) (set : List ℕ) (index : ℕ) (old : Held) (before : List Slot)
    (after : Stacked) → Covers context old before
    → (s : IsStep (with_labels context labels) (instr.BrOnNull index) (stacked before set) after)
    → (x : IsSeen context labels index old s.framed.given) × (x.rest ≡ s.framed.rest)
seen context labels set index old before after c s =
    let (taken, from, to, at, related, is, also) = s.typed in
    let types = context.types in
    let (front, back, same, left, right) = zip_parts (IsBelow types) s.framed.taken (values taken) (from ∷ [])
    (subst (λ xs. AreBelow types s.framed.taken xs) is s.framed.accepted) in
    let (top, one, fits) = single_above types back from right in
    let rest = s.framed.rest in
    let whole : before ≡ (rest ++ front) ++ top ∷ [] =
    s.framed.under ∙ ap (λ xs. rest ++ xs) (same ∙ ap (λ ys. front ++ ys) one) ∙ sym (append_assoc rest front (top ∷ [])) in (
      record {
        types = taken;
        from = from;
        to = to;
        there = at;
        related = related;
        offered = subst (λ xs. AreBelow types xs s.framed.given) also s.framed.offered.below;
        rest = rest;
        lower = front;
        top = top;
        covered = subst (λ xs. Covers context old xs) whole c;
        below = left;
        fits = fits;
      },
      refl,
    )

pub null_unlabelled : (context : BodyContext) (labels : List (List ValType)) (set : List ℕ) (index : ℕ) (old : Held)
    → slice_get labels index ≡ None → StepsNowhere context labels (instr.BrOnNull index) set old
null_unlabelled context labels set index old none before after c s =
    let x = (seen context labels set index old before after c s).0 in none_not_some x.types (slice_get labels index) none x.there

pub null_without_top : (context : BodyContext) (labels : List (List ValType)) (set : List ℕ) (index : ℕ) (old : Held)
    → TopsNothing context old → StepsNowhere context labels (instr.BrOnNull index) set old
null_without_top context labels set index old never before after c s =
    let x = (seen context labels set index old before after c s).0 in never (x.rest ++ x.lower) x.top x.covered

pub null_of_no_reference : (context : BodyContext) (labels : List (List ValType)) (set : List ℕ) (index : ℕ) (top : Slot)
    (old middle : Held) → Tops context top old middle → HasNoNonNull context top
    → StepsNowhere context labels (instr.BrOnNull index) set old
null_of_no_reference context labels set index top old middle tops never before after c s =
    let x = (seen context labels set index old before after c s).0 in
    let t = tops.complete (x.rest ++ x.lower) x.top x.covered in
    never x.from x.to x.related (below_trans context.types top x.top x.from t.above x.fits)

pub null_apart : (context : BodyContext) (labels : List (List ValType)) (set : List ℕ) (index : ℕ) (taken : List ValType) (top : Slot)
    (old middle : Held) → slice_get labels index ≡ Some taken → Tops context top old middle → PopsNothing context (values taken) middle
    → StepsNowhere context labels (instr.BrOnNull index) set old
null_apart context labels set index taken top old middle there tops never before after c s =
    let x = (seen context labels set index old before after c s).0 in
    let t = tops.complete (x.rest ++ x.lower) x.top x.covered in
    let same : x.types ≡ taken = some_same x.types taken (sym x.there ∙ there) in
    never x.rest (x.rest ++ x.lower) t.covered (record {
      taken = x.lower;
      is = refl;
      accepted = subst (λ ts. AreBelow context.types x.lower (values ts)) same x.below;
    })

-- the values of a label with another on top match what the label's values with a lower one match
pub lower_last : (context : BodyContext) (taken : List Slot) (made least : Slot) (given : List Slot) → AreSlotsValid context given
    → ((g : Slot) → IsBelow context.types made g → IsSlotValid context g → IsBelow context.types least g)
    → AreBelow context.types (taken ++ made ∷ []) given → AreBelow context.types (taken ++ least ∷ []) given
lower_last context taken made least given valid smallest below =
    let types = context.types in
    let (front, back, is, left, right) = zip_split (IsBelow types) taken (made ∷ []) given below in
    let (g, one, above) = single types made back right in
    let whole : given ≡ front ++ g ∷ [] = is ∙ ap (λ xs. front ++ xs) one in
    let last : IsSlotValid context g = All-head (IsSlotValid context) g []
    (all_right (IsSlotValid context) front (g ∷ []) (subst (λ xs. AreSlotsValid context xs) whole valid)) in
    subst (λ xs. AreBelow types (taken ++ least ∷ []) xs) (sym whole)
    (zip_join (IsBelow types) taken (least ∷ []) front (g ∷ []) left (smallest g above last, tt))

pub null_taken : (context : BodyContext) (labels : List (List ValType)) (set : List ℕ) (index : ℕ) (taken : List ValType)
    (top least : Slot) (old middle new : Held) → slice_get labels index ≡ Some taken → Tops context top old middle
    → IsLeastNonNull context top least → Applies context (values taken) (values taken ++ least ∷ []) middle new
    → IsTaken context labels (instr.BrOnNull index) set old new
null_taken context labels set index taken top least old middle new there tops l applies = record {
  steps = record {
    sound = λ after c.
        let types = context.types in
        let a = applies.sound after c in
        let f = a.framed in
        record {
          before = a.before ++ top ∷ [];
          covered = tops.sound a.before top (record { covered = a.covered; above = below_refl types top; valid = tops.top_valid });
          step = record {
            operands = values taken ++ l.from ∷ [];
            results = values taken ++ l.to ∷ [];
            typed = (taken, l.from, l.to, there, l.related, refl, refl);
            framed = record {
              rest = f.rest;
              taken = f.taken ++ top ∷ [];
              given = f.given;
              under = ap (λ xs. xs ++ top ∷ []) f.under ∙ append_assoc f.rest f.taken (top ∷ []);
              accepted = zip_join (IsBelow types) f.taken (top ∷ []) (values taken) (l.from ∷ []) f.accepted (l.below, tt);
              offered = record {
                below = below_all types (values taken ++ l.to ∷ []) (values taken ++ least ∷ []) f.given
                    (zip_join (IsBelow types) (values taken) (l.to ∷ []) (values taken) (least ∷ []) (below_themselves types (values taken))
                    (l.above, tt)) f.offered.below;
                valid = f.offered.valid;
              };
              over = f.over;
              set_then = refl;
            };
          };
        };
    complete = λ before after c s.
        let types = context.types in
        let (x, at) = seen context labels set index old before after c s in
        let t = tops.complete (x.rest ++ x.lower) x.top x.covered in
        let same : x.types ≡ taken = some_same x.types taken (sym x.there ∙ there) in
        applies.complete (x.rest ++ x.lower) after.stack t.covered (record {
          rest = x.rest;
          taken = x.lower;
          given = s.framed.given;
          under = refl;
          accepted = subst (λ ts. AreBelow types x.lower (values ts)) same x.below;
          offered = record {
            below = lower_last context (values taken) x.to least s.framed.given s.framed.offered.valid
                (λ g p v. l.smallest x.from x.to g x.related (below_trans types top x.top x.from t.above x.fits) p v)
                (subst (λ ts. AreBelow types (values ts ++ x.to ∷ []) s.framed.given) same x.offered);
            valid = s.framed.offered.valid;
          };
          over = s.framed.over ∙ ap (λ xs. xs ++ s.framed.given) (sym at);
          set_then = refl;
        });
  };
  valid = applies.valid;
}
