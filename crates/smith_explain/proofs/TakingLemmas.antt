-- Operands that an instruction is tried on.
use Rattle.std.proofs.Common.{◌≡◌, ℕ, Bool, true, false, List, [], ◌++◌, Result, Ok, Err, refl, sym, ◌∙◌, ap, subst, inl, inr}
use Rattle.std.specs.Prelude.{◌⊎◌, IfOk, IsTrue}
use Rattle.std.proofs.lemmas.Bool.{false≢true}
use Rattle.smith_bytes.specs.declared.error.Error.{Error}
use Rattle.smith_types.specs.Syntax.value_type.ValType.{ValType}
use Rattle.smith_instr.specs.Contexts.{BodyContext}
use Rattle.smith_instr.specs.InstrTypes.{sets}
use Rattle.smith_instr.specs.declared.instr.Instr.{Instr}
use Rattle.smith_instr.specs.declared.instr.Instr.TheVariants as instr
use Rattle.smith_check_rules.specs.Sequences.{IsStep, Stacked, stacked}
use Rattle.smith_check_rules.specs.Slots.{AreBelow, IsBelow}
use Rattle.smith_check_rules.specs.declared.slot.Slot.{Slot}
use Rattle.smith_check_operands.specs.Applies.{IsTried}
use Rattle.smith_check_operands.specs.Closes.{IsPlain, with_labels}
use Rattle.smith_check_operands.specs.Covers.{Covers, Held, holding}
use Rattle.smith_check_operands.proofs.BelowLemmas.{below_all}
use Rattle.smith_check_operands.proofs.ListLemmas.{zip_parts}
use Rattle.smith_check_operands.proofs.StepLemmas.{covers_itself}
use Rattle.smith_check_body.specs.declared.checker.Checker.{Checker}
use Rattle.smith_explain.specs.Causes.{IsTaking, labels_in}

module _ (context : BodyContext) (labels : List (List ValType)) (x : Instr) (set : List ℕ) (wanted : List Slot) where
  all_covered : (under : List Slot) → IsTrue false ⊎ (under ≡ []) → under ≡ []
  all_covered under (inl h) = absurd (false≢true h)
  all_covered under (inr nil) = nil

  covered_below : (before : List Slot) → Covers context (holding wanted false) before → AreBelow context.types wanted before
  covered_below before c =
      let whole : before ≡ c.top = c.is ∙ ap (λ (xs : List Slot). xs ++ c.top) (all_covered c.under c.reached) in
      subst (λ (xs : List Slot). AreBelow context.types wanted xs) (sym whole) c.below

  -- an instruction that takes a stack takes one of types below
  step_below : (before : List Slot) (after : Stacked) → AreBelow context.types wanted before
      → IsStep (with_labels context labels) x (stacked before set) after
      → (other : Stacked) × IsStep (with_labels context labels) x (stacked wanted set) other
  step_below before after below step =
      let f = step.framed in
      let (front, rest, is, left, right) = zip_parts (IsBelow context.types) wanted f.rest f.taken
      (subst (λ (xs : List Slot). AreBelow context.types wanted xs) f.under below) in (
        stacked (front ++ f.given) (set ++ sets x),
        record {
          operands = step.operands;
          results = step.results;
          typed = step.typed;
          framed = record {
            rest = front;
            taken = rest;
            given = f.given;
            under = is;
            accepted = below_all context.types rest f.taken step.operands right f.accepted;
            offered = f.offered;
            over = refl;
            set_then = refl;
          };
        },
      )

  pub tried_step : (there : Bool) (new : Held) → IsTrue there → IsTried context labels x set there (holding wanted false) new
      → (other : Stacked) × IsStep (with_labels context labels) x (stacked wanted set) other
  tried_step true new told taken =
      let r = taken.steps.sound new.known (covers_itself context new taken.valid) in
      step_below r.before (stacked new.known (set ++ sets x)) (covered_below r.before r.covered) r.step
  tried_step false new told never = absurd (false≢true told)

plain_taking : (context : BodyContext) (checker : Checker) (x : Instr) (wanted : List Slot) → IsPlain x
    → ((after : Stacked) × IsStep (with_labels context (labels_in checker)) x (stacked wanted checker.log.items) after)
    → IsTaking context checker x wanted
plain_taking context checker (instr.Block ty) wanted plain taken = absurd plain
plain_taking context checker (instr.Loop ty) wanted plain taken = absurd plain
plain_taking context checker (instr.If ty) wanted plain taken = absurd plain
plain_taking context checker (instr.TryTable ty clauses) wanted plain taken = absurd plain
plain_taking context checker instr.Else wanted plain taken = absurd plain
plain_taking context checker instr.End wanted plain taken = absurd plain
plain_taking context checker x wanted plain taken = taken

pub tried_taking : (context : BodyContext) (checker : Checker) (x : Instr) (wanted : List Slot) (found : Result Bool Error) (new : Held)
    → IsPlain x
    → IfOk found (λ there. IsTried context (labels_in checker) x checker.log.items there (holding wanted false) new)
    → IfOk found (λ taken. IsTrue taken → IsTaking context checker x wanted)
tried_taking context checker x wanted (Ok there) new plain tried = λ told.
    plain_taking context checker x wanted plain (tried_step context (labels_in checker) x checker.log.items wanted there new told tried)
tried_taking context checker x wanted (Err e) new plain tried = tt
