-- Steps of instructions.
use Rattle.smith_check_operands.proofs.Common.{[], All, All-append, All-cons, All-nil, ap, append-nil, AreBelow, AreSlotsValid, AreValid}
use Rattle.smith_check_operands.proofs.Common.{BodyContext, Bool, false, inl, inr, IsBelow, IsSlotValid, List, MatchBool, refl, Slot, Some}
use Rattle.smith_check_operands.proofs.Common.{subst, SubType, sym, true, ValType, values, ℕ, ◌++◌, ◌∙◌, ◌∷◌, ◌≡◌}
use Rattle.std.specs.Prelude.{Err, IfOk, is_some, MatchOption, None, Ok, Option, Result, slice_get}
use Rattle.std.proofs.lemmas.Option.{slice_get_within, get_or_from_slice_get}
use Rattle.smith_bytes.specs.declared.error.Error.{Error}
use Rattle.smith_instr.specs.declared.instr.Instr.{Instr}
use Rattle.smith_instr.specs.declared.instr.Instr.TheVariants as instr
use Rattle.smith_instr.specs.Contexts.{IsValid}
use Rattle.smith_check_rules.specs.StackTypes.{HasValueType, HasStackType}
use Rattle.smith_instr.specs.InstrTypes.{HasInstrType}
use Rattle.smith_instr.specs.Contexts.{To}
use Rattle.smith_check_operands.specs.Covers.{Held, Covers, Pops, PopsNothing, Tops, TopsNothing}
use Rattle.smith_check_operands.specs.Closes.{with_labels, StepsNowhere}
use Rattle.smith_check_operands.specs.Applies.{Applies, HasOnly, IsTaken, IsTried, LeavesBy, HasLeaving}
use Rattle.smith_check_operands.proofs.ListLemmas.{all_left, zip_join}
use Rattle.smith_check_operands.proofs.BelowLemmas.{below_refl, below_themselves}
use Rattle.smith_check_operands.proofs.ApplyLemmas.{tried_as, nothing_above, nothing_below, applies_after, pops_then}
use Rattle.smith_check_operands.proofs.FitLemmas.{values_append}

-- what is known is a stack that it covers
pub covers_itself : (context : BodyContext) (old : Held) → AreSlotsValid context old.known → Covers context old old.known
covers_itself context old valid = record {
  under = [];
  top = old.known;
  is = refl;
  below = below_themselves context.types old.known;
  reached = inr refl;
  valid = valid;
}

pub left : (context : BodyContext) (taken : List Slot) (old middle new : Held) → Pops context taken old middle → new.known ≡ []
    → new.dead ≡ true → LeavesBy context taken old new
left context taken old middle new pops known dead =
    let p = pops.sound middle.known (covers_itself context middle pops.valid) in
    record { known = known; dead = dead; some = (middle.known, p.before, p.covered, p.takes) }

-- everything valid is covered in dead code
covers_all : (context : BodyContext) (new : Held) (stack : List Slot) → new.known ≡ [] → new.dead ≡ true → AreSlotsValid context stack
    → Covers context new stack
covers_all context new stack known dead valid = record {
  under = stack;
  top = [];
  is = sym (append-nil stack);
  below = subst (λ xs. AreBelow context.types xs []) (sym known) tt;
  reached = inl dead;
  valid = valid;
}

leaves_as : (context : BodyContext) (labels : List (List ValType)) (x : Instr) (set : List ℕ) (taken : List Slot) (old new : Held)
    → HasLeaving (with_labels context labels) set x taken → LeavesBy context taken old new → IsTaken context labels x set old new
leaves_as context labels x set taken old new has by =
    let (rest, before, covered, takes) = by.some in
    record {
      steps = record {
        sound = λ after c. record {
          before = before;
          covered = covered;
          step = record {
            operands = rest ++ taken;
            results = after;
            typed = has.typed (rest ++ taken) after (rest, refl, c.valid);
            framed = record {
              rest = [];
              taken = before;
              given = after;
              under = refl;
              accepted = subst (λ xs. AreBelow context.types xs (rest ++ taken)) (sym takes.is)
                  (zip_join (IsBelow context.types) rest takes.taken rest taken (below_themselves context.types rest) takes.accepted);
              offered = record { below = below_themselves context.types after; valid = c.valid };
              over = refl;
              set_then = refl;
            };
          };
        };
        complete = λ start after c s.
            covers_all context new after.stack by.known by.dead
            (subst (λ xs. AreSlotsValid context xs) (sym s.framed.over)
            (All-append (IsSlotValid context) s.framed.rest s.framed.given
            (all_left (IsSlotValid context) s.framed.rest s.framed.taken (subst (λ xs. AreSlotsValid context xs) s.framed.under c.valid))
            s.framed.offered.valid));
      };
      valid = subst (λ xs. AreSlotsValid context xs) (sym by.known) (All-nil (IsSlotValid context));
    }

leaves_nowhere : (context : BodyContext) (labels : List (List ValType)) (x : Instr) (set : List ℕ) (taken : List Slot) (old : Held)
    → HasLeaving (with_labels context labels) set x taken → PopsNothing context taken old → StepsNowhere context labels x set old
leaves_nowhere context labels x set taken old has never before after c s =
    let (below, is, valid) = has.only s.operands s.results s.typed in
    nothing_above context below taken old never s.framed.rest before c (record {
      taken = s.framed.taken;
      is = s.framed.under;
      accepted = subst (λ xs. AreBelow context.types s.framed.taken xs) is s.framed.accepted;
    })

-- an instruction that leaves, tried
pub tried_leaving : (context : BodyContext) (labels : List (List ValType)) (x : Instr) (set : List ℕ) (taken : List Slot) (there : Bool)
    (old new : Held)
    → HasLeaving (with_labels context labels) set x taken → MatchBool there (LeavesBy context taken old new) (PopsNothing context taken old)
    → IsTried context labels x set there old new
tried_leaving context labels x set taken true old new has by = leaves_as context labels x set taken old new has by
tried_leaving context labels x set taken false old new has never = leaves_nowhere context labels x set taken old has never

-- an instruction of one signature, tried with memory that may be refused
pub tried_result : (context : BodyContext) (labels : List (List ValType)) (x : Instr) (set : List ℕ) (operands results : List Slot)
    (old new : Held) (r : Result Bool Error)
    → HasOnly (with_labels context labels) set x operands results
    → IfOk r (λ there. MatchBool there (Applies context operands results old new) (PopsNothing context operands old))
    → IfOk r (λ there. IsTried context labels x set there old new)
tried_result context labels x set operands results old new (Ok there) has applies = tried_as context labels x set operands results there old
    new has applies
tried_result context labels x set operands results old new (Err e) has applies = tt

-- a list that one value matches
pub single_above : (types : List SubType) (xs : List Slot) (y : Slot) → AreBelow types xs (y ∷ []) → (x : Slot) × (xs ≡ x ∷ [])
    × IsBelow types x y
single_above types [] y below = absurd below
single_above types (x ∷ []) y (first, below) = (x, refl, first)
single_above types (x ∷ z ∷ xs) y (first, below) = absurd below

empty_above : (types : List SubType) (ys : List Slot) → AreBelow types [] ys → ys ≡ []
empty_above types [] below = refl
empty_above types (y ∷ ys) below = absurd below

pub dropped : (context : BodyContext) (labels : List (List ValType)) (set : List ℕ) (top : Slot) (old new : Held) → Tops context top old new
    → IsTaken context labels instr.Drop set old new
dropped context labels set top old new tops = record {
  steps = record {
    sound = λ after c. record {
      before = after ++ top ∷ [];
      covered = tops.sound after top (record { covered = c; above = below_refl context.types top; valid = tops.top_valid });
      step = record {
        operands = top ∷ [];
        results = [];
        typed = (top, refl, refl);
        framed = record {
          rest = after;
          taken = top ∷ [];
          given = [];
          under = refl;
          accepted = (below_refl context.types top, tt);
          offered = record { below = tt; valid = All-nil (IsSlotValid context) };
          over = sym (append-nil after);
          set_then = refl;
        };
      };
    };
    complete = λ before after c s.
        let (given, is, none) = s.typed in
        let (x, one, below) = single_above context.types s.framed.taken given
        (subst (λ xs. AreBelow context.types s.framed.taken xs) is s.framed.accepted) in
        let t = tops.complete s.framed.rest x (subst (λ xs. Covers context old xs) (s.framed.under ∙ ap (λ xs. s.framed.rest ++ xs) one) c)
        in
        let nothing : s.framed.given ≡ [] = empty_above context.types s.framed.given
        (subst (λ xs. AreBelow context.types xs s.framed.given) none s.framed.offered.below) in
        subst (λ xs. Covers context new xs) (sym (s.framed.over ∙ ap (λ xs. s.framed.rest ++ xs) nothing ∙ append-nil s.framed.rest))
        t.covered;
  };
  valid = tops.valid;
}

pub drops_nothing : (context : BodyContext) (labels : List (List ValType)) (set : List ℕ) (old : Held) → TopsNothing context old
    → StepsNowhere context labels instr.Drop set old
drops_nothing context labels set old never before after c s =
    let (given, is, none) = s.typed in
    let (x, one, below) = single_above context.types s.framed.taken given
    (subst (λ xs. AreBelow context.types s.framed.taken xs) is s.framed.accepted) in
    never s.framed.rest x (subst (λ xs. Covers context old xs) (s.framed.under ∙ ap (λ xs. s.framed.rest ++ xs) one) c)

-- an instruction whose rule for value types names its operands and results has only these
pub has_only : (context : BodyContext) (set : List ℕ) (x : Instr) (these those operands results : List ValType)
    → ((os rs : List Slot) → HasValueType context set x os rs → HasStackType context set x os rs)
    → ((os rs : List Slot) → HasStackType context set x os rs → HasValueType context set x os rs)
    → HasInstrType context set x these those → ((os rs : List ValType) → HasInstrType context set x os rs → To os rs these those)
    → operands ≡ these → results ≡ those → HasOnly context set x (values operands) (values results)
has_only context set x these those operands results lift lower typed only same also = record {
  typed = lift (values operands) (values results) (these, those, typed, ap (λ ts. values ts) same, ap (λ ts. values ts) also);
  only = λ os rs t.
      let (inputs, outputs, has, is, as_well) = lower os rs t in
      let (p, q) = only inputs outputs has in
      (is ∙ ap (λ ts. values ts) (p ∙ sym same), as_well ∙ ap (λ ts. values ts) (q ∙ sym also));
}

-- such an instruction, tried
pub tried_values : (context : BodyContext) (labels : List (List ValType)) (x : Instr) (set : List ℕ)
    (these those operands results : List ValType) (old new : Held) (r : Result Bool Error)
    → ((os rs : List Slot) → HasValueType (with_labels context labels) set x os rs → HasStackType (with_labels context labels) set x os rs)
    → ((os rs : List Slot) → HasStackType (with_labels context labels) set x os rs → HasValueType (with_labels context labels) set x os rs)
    → HasInstrType (with_labels context labels) set x these those
    → ((os rs : List ValType) → HasInstrType (with_labels context labels) set x os rs → To os rs these those)
    → operands ≡ these → results ≡ those
    → IfOk r (λ there. MatchBool there (Applies context (values operands) (values results) old new)
    (PopsNothing context (values operands) old))
    → IfOk r (λ there. IsTried context labels x set there old new)
tried_values context labels x set these those operands results old new r lift lower typed only same also applies =
    tried_result context labels x set (values operands) (values results) old new r
    (has_only (with_labels context labels) set x these those operands results lift lower typed only same also) applies

pub tried_drop : (context : BodyContext) (labels : List (List ValType)) (set : List ℕ) (top : Option Slot) (there : Bool) (old new : Held)
    → there ≡ is_some top
    → MatchOption top (TopsNothing context old) (λ value. Tops context value old new) → IsTried context labels instr.Drop set there old new
tried_drop context labels set (Some value) there old new is tops =
    subst (λ b. IsTried context labels instr.Drop set b old new) (sym is) (dropped context labels set value old new tops)
tried_drop context labels set None there old new is never =
    subst (λ b. IsTried context labels instr.Drop set b old new) (sym is) (drops_nothing context labels set old never)

-- operands above others, tried
pub applied_below : (context : BodyContext) (operands top results : List ValType) (old middle new : Held) (there : Bool)
    → Pops context (values top) old middle
    → MatchBool there (Applies context (values operands) (values results) middle new) (PopsNothing context (values operands) middle)
    → MatchBool there (Applies context (values (operands ++ top)) (values results) old new)
    (PopsNothing context (values (operands ++ top)) old)
applied_below context operands top results old middle new true pops applies =
    subst (λ os. Applies context os (values results) old new) (sym (values_append operands top))
    (applies_after context (values operands) (values top) (values results) old middle new pops applies)
applied_below context operands top results old middle new false pops never =
    subst (λ os. PopsNothing context os old) (sym (values_append operands top))
    (nothing_below context (values operands) (values top) old middle pops never)

pub applied_below_result : (context : BodyContext) (operands top results : List ValType) (old middle new : Held) (r : Result Bool Error)
    → Pops context (values top) old middle
    → IfOk r (λ there. MatchBool there (Applies context (values operands) (values results) middle new)
    (PopsNothing context (values operands) middle))
    → IfOk r (λ there. MatchBool there (Applies context (values (operands ++ top)) (values results) old new)
    (PopsNothing context (values (operands ++ top)) old))
applied_below_result context operands top results old middle new (Ok there) pops applies =
    applied_below context operands top results old middle new there pops applies
applied_below_result context operands top results old middle new (Err e) pops applies = tt

pub nothing_above_values : (context : BodyContext) (operands top : List ValType) (old : Held) → PopsNothing context (values top) old
    → PopsNothing context (values (operands ++ top)) old
nothing_above_values context operands top old never =
    subst (λ os. PopsNothing context os old) (sym (values_append operands top))
    (nothing_above context (values operands) (values top) old never)

-- what holds of all items holds of one
pub all_at : {A : Type 0} (P : A → Type 0) (xs : List A) (i : ℕ) (x : A) → All P xs → slice_get xs i ≡ Some x → P x
all_at P xs i x all at = subst P (get_or_from_slice_get xs i x x at) (all i x (slice_get_within xs i x at))

pub one_valid : (context : BodyContext) (value : ValType) → IsValid context value → AreValid context (value ∷ [])
one_valid context value valid = All-cons (IsValid context) value [] valid (All-nil (IsValid context))

-- operands below others, which were taken off first
pub popped_below : (context : BodyContext) (operands top : List ValType) (old middle new : Held) (there : Bool)
    → Pops context (values top) old middle
    → MatchBool there (Pops context (values operands) middle new) (PopsNothing context (values operands) middle)
    → MatchBool there (Pops context (values (operands ++ top)) old new) (PopsNothing context (values (operands ++ top)) old)
popped_below context operands top old middle new true first second =
    subst (λ os. Pops context os old new) (sym (values_append operands top)) (pops_then context (values operands) (values top) old middle
    new first second)
popped_below context operands top old middle new false first never =
    subst (λ os. PopsNothing context os old) (sym (values_append operands top))
    (nothing_below context (values operands) (values top) old middle first never)
