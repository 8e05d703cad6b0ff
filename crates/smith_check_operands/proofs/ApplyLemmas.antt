-- Instructions whose operands and results are known.
use Rattle.smith_check_operands.proofs.Common.{ap, append_assoc, AreBelow, BodyContext, Bool, false, IsBelow, List, MatchBool, refl, Slot}
use Rattle.smith_check_operands.proofs.Common.{subst, sym, true, ValType, ℕ, ◌++◌, ◌∙◌, ◌≡◌}
use Rattle.smith_instr.specs.declared.instr.Instr.{Instr}
use Rattle.smith_check_rules.specs.StackTypes.{HasStackType}
use Rattle.smith_check_operands.specs.Covers.{Held, Pops, PopsNothing, Pushes}
use Rattle.smith_check_operands.specs.Closes.{with_labels, StepsNowhere}
use Rattle.smith_check_operands.specs.Applies.{Applies, HasOnly, HasNone, IsTaken, IsTried}
use Rattle.smith_check_operands.proofs.ListLemmas.{zip_parts, zip_join}

pub applied : (context : BodyContext) (operands results : List Slot) (old middle new : Held) → Pops context operands old middle
    → Pushes context results middle new
    → Applies context operands results old new
applied context operands results old middle new pops pushes = record {
  sound = λ after c.
      let p = pushes.sound after c in
      let t = pops.sound p.rest p.covered in
      record {
        before = t.before;
        covered = t.covered;
        framed = record {
          rest = p.rest;
          taken = t.takes.taken;
          given = p.gives.given;
          under = t.takes.is;
          accepted = t.takes.accepted;
          offered = p.gives.offered;
          over = p.gives.is;
          set_then = refl;
        };
      };
  complete = λ before after c f.
      pushes.complete after f.rest (pops.complete f.rest before c (record { taken = f.taken; is = f.under; accepted = f.accepted }))
      (record { given = f.given; is = f.over; offered = f.offered });
  valid = pushes.valid;
}

-- operands above others
pub pops_then : (context : BodyContext) (operands top : List Slot) (old middle new : Held) → Pops context top old middle
    → Pops context operands middle new
    → Pops context (operands ++ top) old new
pops_then context operands top old middle new first second = record {
  sound = λ rest c.
      let s = second.sound rest c in
      let f = first.sound s.before s.covered in
      record {
        before = f.before;
        covered = f.covered;
        takes = record {
          taken = s.takes.taken ++ f.takes.taken;
          is = f.takes.is ∙ ap (λ xs. xs ++ f.takes.taken) s.takes.is ∙ append_assoc rest s.takes.taken f.takes.taken;
          accepted = zip_join (IsBelow context.types) s.takes.taken f.takes.taken operands top s.takes.accepted f.takes.accepted;
        };
      };
  complete = λ rest before c t.
      let (front, back, is, left, right) = zip_parts (IsBelow context.types) t.taken operands top t.accepted in
      second.complete rest (rest ++ front)
      (first.complete (rest ++ front) before c
      (record { taken = back; is = t.is ∙ ap (λ xs. rest ++ xs) is ∙ sym (append_assoc rest front back); accepted = right }))
      (record { taken = front; is = refl; accepted = left });
  valid = second.valid;
}

pub nothing_above : (context : BodyContext) (operands top : List Slot) (old : Held) → PopsNothing context top old
    → PopsNothing context (operands ++ top) old
nothing_above context operands top old never rest before c t =
    let (front, back, is, left, right) = zip_parts (IsBelow context.types) t.taken operands top t.accepted in
    never (rest ++ front) before c (record {
      taken = back;
      is = t.is ∙ ap (λ xs. rest ++ xs) is ∙ sym (append_assoc rest front back);
      accepted = right;
    })

pub nothing_below : (context : BodyContext) (operands top : List Slot) (old middle : Held) → Pops context top old middle
    → PopsNothing context operands middle
    → PopsNothing context (operands ++ top) old
nothing_below context operands top old middle first never rest before c t =
    let (front, back, is, left, right) = zip_parts (IsBelow context.types) t.taken operands top t.accepted in
    never rest (rest ++ front)
    (first.complete (rest ++ front) before c
    (record { taken = back; is = t.is ∙ ap (λ xs. rest ++ xs) is ∙ sym (append_assoc rest front back); accepted = right }))
    (record { taken = front; is = refl; accepted = left })

-- an instruction of one signature steps as the signature applies
pub steps_as : (context : BodyContext) (labels : List (List ValType)) (x : Instr) (set : List ℕ) (operands results : List Slot)
    (old new : Held)
    → HasOnly (with_labels context labels) set x operands results → Applies context operands results old new
    → IsTaken context labels x set old new
steps_as context labels x set operands results old new has applies = record {
  steps = record {
    sound = λ after c.
        let a = applies.sound after c in
        record {
          before = a.before;
          covered = a.covered;
          step = record {
            operands = operands;
            results = results;
            typed = has.typed;
            framed = record {
              rest = a.framed.rest;
              taken = a.framed.taken;
              given = a.framed.given;
              under = a.framed.under;
              accepted = a.framed.accepted;
              offered = record { below = a.framed.offered.below; valid = a.framed.offered.valid };
              over = a.framed.over;
              set_then = refl;
            };
          };
        };
    complete = λ before after c s.
        let (these, those) = has.only s.operands s.results s.typed in
        applies.complete before after.stack c (record {
          rest = s.framed.rest;
          taken = s.framed.taken;
          given = s.framed.given;
          under = s.framed.under;
          accepted = subst (λ xs. AreBelow context.types s.framed.taken xs) these s.framed.accepted;
          offered = record {
            below = subst (λ xs. AreBelow context.types xs s.framed.given) those s.framed.offered.below;
            valid = s.framed.offered.valid;
          };
          over = s.framed.over;
          set_then = refl;
        });
  };
  valid = applies.valid;
}

pub nowhere_as : (context : BodyContext) (labels : List (List ValType)) (x : Instr) (set : List ℕ) (operands : List Slot) (old : Held)
    → ((these those : List Slot) → HasStackType (with_labels context labels) set x these those → these ≡ operands)
    → PopsNothing context operands old
    → StepsNowhere context labels x set old
nowhere_as context labels x set operands old only never before after c s =
    never s.framed.rest before c (record {
      taken = s.framed.taken;
      is = s.framed.under;
      accepted = subst (λ xs. AreBelow context.types s.framed.taken xs) (only s.operands s.results s.typed) s.framed.accepted;
    })

pub nowhere_untyped : (context : BodyContext) (labels : List (List ValType)) (x : Instr) (set : List ℕ) (old : Held)
    → HasNone (with_labels context labels) set x
    → StepsNowhere context labels x set old
nowhere_untyped context labels x set old none before after c s = none s.operands s.results s.typed

-- an instruction of one signature, tried
pub tried_as : (context : BodyContext) (labels : List (List ValType)) (x : Instr) (set : List ℕ) (operands results : List Slot)
    (taken : Bool) (old new : Held)
    → HasOnly (with_labels context labels) set x operands results → MatchBool taken (Applies context operands results old new)
    (PopsNothing context operands old)
    → IsTried context labels x set taken old new
tried_as context labels x set operands results true old new has applies = steps_as context labels x set operands results old new has applies
tried_as context labels x set operands results false old new has never =
    nowhere_as context labels x set operands old (λ these those t. (has.only these those t).0) never

-- operands that are below others, which are taken off first
pub applies_after : (context : BodyContext) (operands top results : List Slot) (old middle new : Held) → Pops context top old middle
    → Applies context operands results middle new
    → Applies context (operands ++ top) results old new
applies_after context operands top results old middle new pops applies = record {
  sound = λ after c.
      let a = applies.sound after c in
      let t = pops.sound a.before a.covered in
      record {
        before = t.before;
        covered = t.covered;
        framed = record {
          rest = a.framed.rest;
          taken = a.framed.taken ++ t.takes.taken;
          given = a.framed.given;
          under = t.takes.is ∙ ap (λ xs. xs ++ t.takes.taken) a.framed.under ∙ append_assoc a.framed.rest a.framed.taken t.takes.taken;
          accepted = zip_join (IsBelow context.types) a.framed.taken t.takes.taken operands top a.framed.accepted t.takes.accepted;
          offered = a.framed.offered;
          over = a.framed.over;
          set_then = refl;
        };
      };
  complete = λ before after c f.
      let (front, back, is, left, right) = zip_parts (IsBelow context.types) f.taken operands top f.accepted in
      applies.complete (f.rest ++ front) after
      (pops.complete (f.rest ++ front) before c
      (record { taken = back; is = f.under ∙ ap (λ xs. f.rest ++ xs) is ∙ sym (append_assoc f.rest front back); accepted = right }))
      (record {
        rest = f.rest;
        taken = front;
        given = f.given;
        under = refl;
        accepted = left;
        offered = f.offered;
        over = f.over;
        set_then = refl;
      });
  valid = applies.valid;
}
