-- Results that are put on above others, or that count as the same.
use Rattle.smith_check_branches.proofs.Common.{[], all_left, all_right, ap, append_assoc, Applies, AreSlotsValid, BodyContext, Bool}
use Rattle.smith_check_branches.proofs.Common.{CountsAs, false, Held, IsBelow, IsSlotValid, List, MatchBool, PopsNothing, refl, Slot, subst}
use Rattle.smith_check_branches.proofs.Common.{sym, true, ValType, Value, values, values_append, zip_join, zip_split, ◌++◌, ◌↔◌, ◌∙◌, ◌∷◌}
use Rattle.std.specs.Prelude.{Result, Ok, Err, IfOk}
use Rattle.std.proofs.lemmas.List.Elements.{All-append}
use Rattle.smith_bytes.specs.declared.error.Error.{Error}
use Rattle.smith_check_operands.specs.Covers.{Pushes}

-- more results above others
pub applies_then : (context : BodyContext) (operands results more : List Slot) (old middle new : Held)
    → Applies context operands results old middle → Pushes context more middle new → Applies context operands (results ++ more) old new
applies_then context operands results more old middle new applies pushes = record {
  sound = λ after c.
      let p = pushes.sound after c in
      let a = applies.sound p.rest p.covered in
      record {
        before = a.before;
        covered = a.covered;
        framed = record {
          rest = a.framed.rest;
          taken = a.framed.taken;
          given = a.framed.given ++ p.gives.given;
          under = a.framed.under;
          accepted = a.framed.accepted;
          offered = record {
            below = zip_join (IsBelow context.types) results more a.framed.given p.gives.given a.framed.offered.below
                p.gives.offered.below;
            valid = All-append (IsSlotValid context) a.framed.given p.gives.given a.framed.offered.valid p.gives.offered.valid;
          };
          over = p.gives.is ∙ ap (λ xs. xs ++ p.gives.given) a.framed.over ∙ append_assoc a.framed.rest a.framed.given p.gives.given;
          set_then = refl;
        };
      };
  complete = λ before after c f.
      let (front, back, is, left, right) = zip_split (IsBelow context.types) results more f.given f.offered.below in
      let valid : AreSlotsValid context (front ++ back) = subst (λ xs. AreSlotsValid context xs) is f.offered.valid in
      pushes.complete after (f.rest ++ front)
      (applies.complete before (f.rest ++ front) c (record {
        rest = f.rest;
        taken = f.taken;
        given = front;
        under = f.under;
        accepted = f.accepted;
        offered = record { below = left; valid = all_left (IsSlotValid context) front back valid };
        over = refl;
        set_then = refl;
      }))
      (record {
        given = back;
        is = f.over ∙ ap (λ xs. f.rest ++ xs) is ∙ sym (append_assoc f.rest front back);
        offered = record { below = right; valid = all_right (IsSlotValid context) front back valid };
      });
  valid = pushes.valid;
}

-- a value above others is taken, and one is put in its place
pub replaced : (context : BodyContext) (others : List ValType) (top given : ValType) (old middle new : Held)
    → Applies context (values (others ++ top ∷ [])) (values others) old middle → Pushes context (Value given ∷ []) middle new
    → Applies context (values (others ++ top ∷ [])) (values (others ++ given ∷ [])) old new
replaced context others top given old middle new applies pushes =
    subst (λ rs. Applies context (values (others ++ top ∷ [])) rs old new) (sym (values_append others (given ∷ [])))
    (applies_then context (values (others ++ top ∷ [])) (values others) (Value given ∷ []) old middle new applies pushes)

-- results that count as the same values as others
pub applies_as : (context : BodyContext) (operands results others : List Slot) (old new : Held)
    → ((given : List Slot) → CountsAs context results given ↔ CountsAs context others given)
    → Applies context operands results old new → Applies context operands others old new
applies_as context operands results others old new same applies = record {
  sound = λ after c.
      let a = applies.sound after c in
      record {
        before = a.before;
        covered = a.covered;
        framed = record {
          rest = a.framed.rest;
          taken = a.framed.taken;
          given = a.framed.given;
          under = a.framed.under;
          accepted = a.framed.accepted;
          offered = (same a.framed.given).0 a.framed.offered;
          over = a.framed.over;
          set_then = refl;
        };
      };
  complete = λ before after c f.
      applies.complete before after c (record {
        rest = f.rest;
        taken = f.taken;
        given = f.given;
        under = f.under;
        accepted = f.accepted;
        offered = (same f.given).1 f.offered;
        over = f.over;
        set_then = refl;
      });
  valid = applies.valid;
}

-- the same where memory may be refused
pub applied_as : (context : BodyContext) (operands results others : List Slot) (old new : Held) (r : Result Bool Error)
    → ((given : List Slot) → CountsAs context results given ↔ CountsAs context others given)
    → IfOk r (λ there. MatchBool there (Applies context operands results old new) (PopsNothing context operands old))
    → IfOk r (λ there. MatchBool there (Applies context operands others old new) (PopsNothing context operands old))
applied_as context operands results others old new (Ok true) same applies = applies_as context operands results others old new same applies
applied_as context operands results others old new (Ok false) same never = never
applied_as context operands results others old new (Err e) same applies = tt
