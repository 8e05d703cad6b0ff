-- Instructions that apply, or apply to no stack.
use Rattle.smith_check_references.proofs.Common.{[], All-cons, All-head, All-nil, ap, AreBelow, below_trans, BodyContext, Bool, false, Held}
use Rattle.smith_check_references.proofs.Common.{IfOk, IsBelow, IsSlotValid, List, Ok, refl, Slot, subst, SubType, sym, To, true, ValType}
use Rattle.smith_check_references.proofs.Common.{Value, values, with_labels, ℕ, ◌∙◌, ◌∷◌, ◌≡◌}
use Rattle.std.proofs.Common.{MatchBool, ◌++◌}
use Rattle.std.specs.Prelude.{Err, Result}
use Rattle.std.proofs.lemmas.List.{append-nil}
use Rattle.smith_bytes.specs.declared.error.Error.{Error}
use Rattle.smith_instr.specs.InstrTypes.{HasInstrType}
use Rattle.smith_instr.specs.declared.instr.Instr.{Instr}
use Rattle.smith_check_rules.specs.Slots.{AreSlotsValid}
use Rattle.smith_check_rules.specs.StackTypes.{HasValueType, HasStackType}
use Rattle.smith_check_operands.specs.Applies.{Applies, HasOnly, IsTried}
use Rattle.smith_check_operands.specs.Covers.{Covers, holding, Pops, PopsNothing, Pushes, Tops, TopsNothing}
use Rattle.smith_check_operands.proofs.ApplyLemmas.{applied}
use Rattle.smith_check_operands.proofs.BelowLemmas.{below_all, below_refl, below_themselves}
use Rattle.smith_check_operands.proofs.CoverLemmas.{push_all}
use Rattle.smith_check_operands.proofs.PushLemmas.{single}
use Rattle.smith_check_operands.proofs.StepLemmas.{has_only, single_above}
use Rattle.smith_check_references.specs.Offers.{HasNoOffer, IsGiven}
use Rattle.smith_check_references.specs.Rows.{AppliesNowhere, IsApplied, HasWidest, HasRow, IsLeastOf, HasNoneOf, AppliesOne}
use Rattle.smith_check_references.specs.Rows.{AppliesOneNowhere}
use Rattle.smith_check_references.specs.Rows.{IsOneApplied}

-- operands that are not there
pub unpopped : (context : BodyContext) (operands results : List Slot) (old : Held) → PopsNothing context operands old
    → AppliesNowhere context operands results old
unpopped context operands results old never before after c f =
    never f.rest before c (record { taken = f.taken; is = f.under; accepted = f.accepted })

pub as_applied : (context : BodyContext) (operands results : List Slot) (old new : Held) (r : Result Bool Error)
    → IfOk r (λ there. MatchBool there (Applies context operands results old new) (PopsNothing context operands old))
    → IfOk r (λ there. IsApplied context operands results there old new)
as_applied context operands results old new (Ok true) applies = applies
as_applied context operands results old new (Ok false) never = unpopped context operands results old never
as_applied context operands results old new (Err e) applies = tt

-- what is put on the stack counts as one of a valid type
pub ungiven : (context : BodyContext) (operands : List Slot) (value : ValType) (old : Held) → HasNoOffer context value
    → AppliesNowhere context operands (values (value ∷ [])) old
ungiven context operands value old never before after c f =
    let (slot, one, above) = single context.types (Value value) f.given f.offered.below in
    never slot (All-head (IsSlotValid context) slot [] (subst (λ xs. AreSlotsValid context xs) one f.offered.valid)) above

-- a value that is put on the stack as one of the least valid type
pub given_as : (context : BodyContext) (value given : ValType) (old new : Held) → IsBelow context.types (Value value) (Value given)
    → ((other : Slot) → IsSlotValid context other → IsBelow context.types (Value value) other → IsBelow context.types (Value given) other)
    → Pushes context (values (given ∷ [])) old new → Pushes context (values (value ∷ [])) old new
given_as context value given old new up least pushes = record {
  sound = λ after c.
      let p = pushes.sound after c in
      record {
        rest = p.rest;
        covered = p.covered;
        gives = record {
          given = p.gives.given;
          is = p.gives.is;
          offered = record {
            below = below_all context.types (Value value ∷ []) (Value given ∷ []) p.gives.given (up, tt) p.gives.offered.below;
            valid = p.gives.offered.valid;
          };
        };
      };
  complete = λ after rest c g.
      let (slot, one, above) = single context.types (Value value) g.given g.offered.below in
      let valid : IsSlotValid context slot = All-head (IsSlotValid context) slot []
      (subst (λ xs. AreSlotsValid context xs) one g.offered.valid) in
      pushes.complete after rest c (record {
        given = g.given;
        is = g.is;
        offered = record {
          below = subst (λ xs. AreBelow context.types (Value given ∷ []) xs) (sym one) (least slot valid above, tt);
          valid = g.offered.valid;
        };
      });
  valid = pushes.valid;
}

-- operands taken off, then a value put on
pub popped_given : (context : BodyContext) (operands : List Slot) (value : ValType) (old middle new : Held) (r : Result Bool Error)
    → Pops context operands old middle → IfOk r (λ there. IsGiven context value there middle new)
    → IfOk r (λ there. IsApplied context operands (values (value ∷ [])) there old new)
popped_given context operands value old middle new (Ok true) pops pushes =
    applied context operands (values (value ∷ [])) old middle new pops pushes
popped_given context operands value old middle new (Ok false) pops never = ungiven context operands value old never
popped_given context operands value old middle new (Err e) pops given = tt

-- an instruction with widest operands steps as these apply
steps_widest : (context : BodyContext) (labels : List (List ValType)) (x : Instr) (set : List ℕ) (operands results : List Slot)
    (there : Bool) (old new : Held) → HasWidest (with_labels context labels) set x operands results
    → IsApplied context operands results there old new → IsTried context labels x set there old new
steps_widest context labels x set operands results true old new has applies = record {
  steps = record {
    sound = λ after c.
        let a = applies.sound after c in
        record {
          before = a.before;
          covered = a.covered;
          step = record {
            operands = operands;
            results = results;
            typed = has.typed;
            framed = record {
              rest = a.framed.rest;
              taken = a.framed.taken;
              given = a.framed.given;
              under = a.framed.under;
              accepted = a.framed.accepted;
              offered = record { below = a.framed.offered.below; valid = a.framed.offered.valid };
              over = a.framed.over;
              set_then = refl;
            };
          };
        };
    complete = λ before after c s.
        applies.complete before after.stack c (record {
          rest = s.framed.rest;
          taken = s.framed.taken;
          given = s.framed.given;
          under = s.framed.under;
          accepted = below_all context.types s.framed.taken s.operands operands s.framed.accepted
              (has.operands_below s.operands s.results s.typed);
          offered = record {
            below = below_all context.types results s.results s.framed.given (has.results_above s.operands s.results s.typed)
                s.framed.offered.below;
            valid = s.framed.offered.valid;
          };
          over = s.framed.over;
          set_then = refl;
        });
  };
  valid = applies.valid;
}
steps_widest context labels x set operands results false old new has never = λ before after c s.
    never before after.stack c (record {
      rest = s.framed.rest;
      taken = s.framed.taken;
      given = s.framed.given;
      under = s.framed.under;
      accepted = below_all context.types s.framed.taken s.operands operands s.framed.accepted
          (has.operands_below s.operands s.results s.typed);
      offered = record {
        below = below_all context.types results s.results s.framed.given (has.results_above s.operands s.results s.typed)
            s.framed.offered.below;
        valid = s.framed.offered.valid;
      };
      over = s.framed.over;
      set_then = refl;
    })

pub tried_widest : (context : BodyContext) (labels : List (List ValType)) (x : Instr) (set : List ℕ) (operands results : List Slot)
    (old new : Held) (r : Result Bool Error) → HasWidest (with_labels context labels) set x operands results
    → IfOk r (λ there. IsApplied context operands results there old new) → IfOk r (λ there. IsTried context labels x set there old new)
tried_widest context labels x set operands results old new (Ok there) has applies =
    steps_widest context labels x set operands results there old new has applies
tried_widest context labels x set operands results old new (Err e) has applies = tt

only_widest : (context : BodyContext) (set : List ℕ) (x : Instr) (operands results : List Slot) → HasOnly context set x operands results
    → HasWidest context set x operands results
only_widest context set x operands results has = record {
  typed = has.typed;
  operands_below = λ these those t. subst (λ xs. AreBelow context.types xs operands) (sym (has.only these those t).0)
      (below_themselves context.types operands);
  results_above = λ these those t. subst (λ xs. AreBelow context.types results xs) (sym (has.only these those t).1)
      (below_themselves context.types results);
}

-- an instruction whose rule names its operands and results, tried
pub tried_row : (context : BodyContext) (labels : List (List ValType)) (x : Instr) (set : List ℕ) (these those operands : List ValType)
    (old new : Held) (r : Result Bool Error)
    → ((os rs : List Slot) → HasValueType (with_labels context labels) set x os rs → HasStackType (with_labels context labels) set x os rs)
    → ((os rs : List Slot) → HasStackType (with_labels context labels) set x os rs → HasValueType (with_labels context labels) set x os rs)
    → HasInstrType (with_labels context labels) set x these those
    → ((os rs : List ValType) → HasInstrType (with_labels context labels) set x os rs → To os rs these those)
    → operands ≡ these
    → IfOk r (λ there. IsApplied context (values operands) (values those) there old new)
    → IfOk r (λ there. IsTried context labels x set there old new)
tried_row context labels x set these those operands old new r lift lower typed only same applies =
    tried_widest context labels x set (values operands) (values those) old new r
    (only_widest (with_labels context labels) set x (values operands) (values those)
    (has_only (with_labels context labels) set x these those operands those lift lower typed only same refl)) applies

-- one operand taken off, then one result put on
pub one_applied : (context : BodyContext) (Row : Slot → Slot → Type 0) (top given : Slot) (old middle new : Held)
    → Tops context top old middle → IsLeastOf context Row top given → Pushes context (given ∷ []) middle new
    → AppliesOne context Row old new
one_applied context Row top given old middle new tops least pushes = record {
  sound = λ after c.
      let p = pushes.sound after c in
      let (slot, one, above) = single context.types given p.gives.given p.gives.offered.below in
      let valid : IsSlotValid context slot = All-head (IsSlotValid context) slot []
      (subst (λ xs. AreSlotsValid context xs) one p.gives.offered.valid) in
      let (from, to, row, fits, counts) = least.sound slot valid above in
      record {
        from = from;
        to = to;
        row = row;
        applies = record {
          before = p.rest ++ top ∷ [];
          covered = tops.sound p.rest top (record { covered = p.covered; above = below_refl context.types top; valid = tops.top_valid });
          framed = record {
            rest = p.rest;
            taken = top ∷ [];
            given = p.gives.given;
            under = refl;
            accepted = (fits, tt);
            offered = record {
              below = subst (λ xs. AreBelow context.types (to ∷ []) xs) (sym one) (counts, tt);
              valid = p.gives.offered.valid;
            };
            over = p.gives.is;
            set_then = refl;
          };
        };
      };
  complete = λ from to before after row c f.
      let (value, one, fits) = single_above context.types f.taken from f.accepted in
      let (slot, also, counts) = single context.types to f.given f.offered.below in
      let valid : IsSlotValid context slot = All-head (IsSlotValid context) slot []
      (subst (λ xs. AreSlotsValid context xs) also f.offered.valid) in
      let t = tops.complete f.rest value (subst (λ xs. Covers context old xs) (f.under ∙ ap (λ xs. f.rest ++ xs) one) c) in
      pushes.complete after f.rest t.covered (record {
        given = f.given;
        is = f.over;
        offered = record {
          below = subst (λ xs. AreBelow context.types (given ∷ []) xs) (sym also)
              (least.least from to slot row (below_trans context.types top value from t.above fits) valid counts, tt);
          valid = f.offered.valid;
        };
      });
  valid = pushes.valid;
}

pub none_topped : (context : BodyContext) (Row : Slot → Slot → Type 0) (old : Held) → TopsNothing context old
    → AppliesOneNowhere context Row old
none_topped context Row old never from to before after row c f =
    let (value, one, fits) = single_above context.types f.taken from f.accepted in
    never f.rest value (subst (λ xs. Covers context old xs) (f.under ∙ ap (λ xs. f.rest ++ xs) one) c)

pub none_fits : (context : BodyContext) (Row : Slot → Slot → Type 0) (top : Slot) (old middle : Held) → Tops context top old middle
    → HasNoneOf context Row top → AppliesOneNowhere context Row old
none_fits context Row top old middle tops never from to before after row c f =
    let (value, one, fits) = single_above context.types f.taken from f.accepted in
    let (slot, also, counts) = single context.types to f.given f.offered.below in
    let t = tops.complete f.rest value (subst (λ xs. Covers context old xs) (f.under ∙ ap (λ xs. f.rest ++ xs) one) c) in
    never from to slot row (below_trans context.types top value from t.above fits)
    (All-head (IsSlotValid context) slot [] (subst (λ xs. AreSlotsValid context xs) also f.offered.valid)) counts

-- an instruction of one operand and one result, tried
steps_one : (context : BodyContext) (labels : List (List ValType)) (x : Instr) (set : List ℕ) (Row : Slot → Slot → Type 0)
    (there : Bool) (old new : Held) → HasRow (with_labels context labels) set x Row → IsOneApplied context Row there old new
    → IsTried context labels x set there old new
steps_one context labels x set Row true old new has applies = record {
  steps = record {
    sound = λ after c.
        let a = applies.sound after c in
        record {
          before = a.applies.before;
          covered = a.applies.covered;
          step = record {
            operands = a.from ∷ [];
            results = a.to ∷ [];
            typed = has.typed a.from a.to a.row;
            framed = record {
              rest = a.applies.framed.rest;
              taken = a.applies.framed.taken;
              given = a.applies.framed.given;
              under = a.applies.framed.under;
              accepted = a.applies.framed.accepted;
              offered = record { below = a.applies.framed.offered.below; valid = a.applies.framed.offered.valid };
              over = a.applies.framed.over;
              set_then = refl;
            };
          };
        };
    complete = λ before after c s.
        let (from, to, row, is, also) = has.only s.operands s.results s.typed in
        applies.complete from to before after.stack row c (record {
          rest = s.framed.rest;
          taken = s.framed.taken;
          given = s.framed.given;
          under = s.framed.under;
          accepted = subst (λ xs. AreBelow context.types s.framed.taken xs) is s.framed.accepted;
          offered = record {
            below = subst (λ xs. AreBelow context.types xs s.framed.given) also s.framed.offered.below;
            valid = s.framed.offered.valid;
          };
          over = s.framed.over;
          set_then = refl;
        });
  };
  valid = applies.valid;
}
steps_one context labels x set Row false old new has never = λ before after c s.
    let (from, to, row, is, also) = has.only s.operands s.results s.typed in
    never from to before after.stack row c (record {
      rest = s.framed.rest;
      taken = s.framed.taken;
      given = s.framed.given;
      under = s.framed.under;
      accepted = subst (λ xs. AreBelow context.types s.framed.taken xs) is s.framed.accepted;
      offered = record {
        below = subst (λ xs. AreBelow context.types xs s.framed.given) also s.framed.offered.below;
        valid = s.framed.offered.valid;
      };
      over = s.framed.over;
      set_then = refl;
    })

pub tried_one : (context : BodyContext) (labels : List (List ValType)) (x : Instr) (set : List ℕ) (Row : Slot → Slot → Type 0)
    (old new : Held) (r : Result Bool Error) → HasRow (with_labels context labels) set x Row
    → IfOk r (λ there. IsOneApplied context Row there old new) → IfOk r (λ there. IsTried context labels x set there old new)
tried_one context labels x set Row old new (Ok there) has applies = steps_one context labels x set Row there old new has applies
tried_one context labels x set Row old new (Err e) has applies = tt

nothing_under : (types : List SubType) (xs : List Slot) → AreBelow types xs [] → xs ≡ []
nothing_under types [] below = refl
nothing_under types (x ∷ xs) below = absurd below

-- no operands taken off
pub pops_none : (context : BodyContext) (old : Held) → AreSlotsValid context old.known → Pops context [] old old
pops_none context old valid = record {
  sound = λ rest c. record { before = rest; covered = c; takes = record { taken = []; is = sym (append-nil rest); accepted = tt } };
  complete = λ rest before c t.
      let none : t.taken ≡ [] = nothing_under context.types t.taken t.accepted in
      subst (λ xs. Covers context old xs) (t.is ∙ ap (λ xs. rest ++ xs) none ∙ append-nil rest) c;
  valid = valid;
}

pub pushed_one : (context : BodyContext) (known after : List Slot) (slot : Slot) (dead : Bool) → AreSlotsValid context known
    → IsSlotValid context slot → after ≡ known ++ slot ∷ [] → Pushes context (slot ∷ []) (holding known dead) (holding after dead)
pushed_one context known after slot dead known_valid valid is =
    subst (λ xs. Pushes context (slot ∷ []) (holding known dead) (holding xs dead)) (sym is)
    (push_all context known (slot ∷ []) dead known_valid (All-cons (IsSlotValid context) slot [] valid (All-nil (IsSlotValid context))))
