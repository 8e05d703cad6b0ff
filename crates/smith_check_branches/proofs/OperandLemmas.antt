-- Operands of instructions after which control does not continue, and the range of references.
use Rattle.smith_check_branches.proofs.Common.{[], all_left, AreBelow, AreSlotsValid, arith, below_themselves, BodyContext, Concrete}
use Rattle.smith_check_branches.proofs.Common.{Covers, drop, Held, inl, IsBelow, IsInRange, IsSlotValid, Leaves, length, List, refl, Slot}
use Rattle.smith_check_branches.proofs.Common.{subst, SubType, sym, take, take_all, true, ValType, with_labels, zip_join, ℕ, ◌++◌, ◌-◌, ◌∷◌}
use Rattle.smith_check_branches.proofs.Common.{◌≡◌}
use Rattle.std.proofs.lemmas.List.{append-nil, length-drop}
use Rattle.std.proofs.lemmas.List.Elements.{All-nil, All-append}
use Rattle.smith_types.specs.Syntax.value_type.HeapType.{HeapType}
use Rattle.smith_types.specs.Syntax.value_type.HeapType.TheVariants.{Abstract, Exact}
use Rattle.smith_instr.specs.Contexts.{IsHeapValid}
use Rattle.smith_instr.specs.declared.instr.Instr.{Instr}
use Rattle.smith_check_rules.specs.StackTypes.{HasStackType}
use Rattle.smith_check_operands.specs.Applies.{IsTaken, LeavesBy}

-- the rest of a list, as a slice is read
pub as_rest : {A : Type 0} (n : ℕ) (xs : List A) → take (length xs - n) (drop n xs) ≡ drop n xs
as_rest n xs = take_all (length xs - n) (drop n xs) (omega (arith, length-drop n xs))

pub heap_in_range : (context : BodyContext) (heap_type : HeapType) → IsHeapValid context heap_type → IsInRange context.types heap_type
heap_in_range context (Abstract shared ty) valid = tt
heap_in_range context (Concrete index) valid = valid.1
heap_in_range context (Exact index) valid = valid.1

-- values of which the last matches one type
pub single_above : (types : List SubType) (xs : List Slot) (y : Slot) → AreBelow types xs (y ∷ [])
    → (x : Slot) × (xs ≡ x ∷ []) × IsBelow types x y
single_above types [] y below = absurd below
single_above types (x ∷ []) y (first, below) = (x, refl, first)
single_above types (x ∷ z ∷ xs) y (first, below) = absurd below

-- everything valid is covered in dead code
covers_all : (context : BodyContext) (new : Held) (stack : List Slot) → new.known ≡ [] → new.dead ≡ true → AreSlotsValid context stack
    → Covers context new stack
covers_all context new stack known dead valid = record {
  under = stack;
  top = [];
  is = sym (append-nil stack);
  below = subst (λ xs. AreBelow context.types xs []) (sym known) tt;
  reached = inl dead;
  valid = valid;
}

-- an instruction that may take these operands, and then goes on in dead code
pub leaves_as : (context : BodyContext) (labels : List (List ValType)) (x : Instr) (set : List ℕ) (taken : List Slot) (old new : Held)
    → ((these those : List Slot) → Leaves (with_labels context labels) these those taken
    → HasStackType (with_labels context labels) set x these those)
    → LeavesBy context taken old new → IsTaken context labels x set old new
leaves_as context labels x set taken old new typed by =
    let (rest, before, covered, takes) = by.some in
    record {
      steps = record {
        sound = λ after c. record {
          before = before;
          covered = covered;
          step = record {
            operands = rest ++ taken;
            results = after;
            typed = typed (rest ++ taken) after (rest, refl, c.valid);
            framed = record {
              rest = [];
              taken = before;
              given = after;
              under = refl;
              accepted = subst (λ xs. AreBelow context.types xs (rest ++ taken)) (sym takes.is)
                  (zip_join (IsBelow context.types) rest takes.taken rest taken (below_themselves context.types rest) takes.accepted);
              offered = record { below = below_themselves context.types after; valid = c.valid };
              over = refl;
              set_then = refl;
            };
          };
        };
        complete = λ start after c s.
            covers_all context new after.stack by.known by.dead
            (subst (λ xs. AreSlotsValid context xs) (sym s.framed.over)
            (All-append (IsSlotValid context) s.framed.rest s.framed.given
            (all_left (IsSlotValid context) s.framed.rest s.framed.taken (subst (λ xs. AreSlotsValid context xs) s.framed.under c.valid))
            s.framed.offered.valid));
      };
      valid = subst (λ xs. AreSlotsValid context xs) (sym by.known) (All-nil (IsSlotValid context));
    }
