-- A sequence that is typed from values is typed from values that match them.
use Rattle.smith_check_body.proofs.Common.{[], AreSlotsValid, AreTyped, below_themselves, block, BodyContext, ClosesWith, if_alone, if_else}
use Rattle.smith_check_body.proofs.Common.{Instr, IsFramed, IsSlotValid, List, loop, nothing, refl, Slot, Stacked, stacked, step, subst}
use Rattle.smith_check_body.proofs.Common.{sym, try_table, ValType, ℕ, ◌++◌}
use Rattle.std.specs.List.{AllZip}
use Rattle.std.proofs.lemmas.List.Elements.{All-append}
use Rattle.smith_check_rules.specs.Slots.{IsBelow}
use Rattle.smith_check_rules.specs.Sequences.{CountsAs}
use Rattle.smith_check_operands.proofs.ListLemmas.{all_left, zip_parts, zip_join}
use Rattle.smith_check_operands.proofs.BelowLemmas.{below_all}

-- the stack after an instruction that applies to values that match those before it
pub record IsLower (context : BodyContext) (operands results : List Slot) (set : List ℕ) (before between : Stacked) : Type 0 where
  pub stack : List Slot
  pub framed : IsFramed context operands results set before (stacked stack between.set)
  pub counts : CountsAs context stack between.stack

pub lower : (context : BodyContext) (operands results : List Slot) (set : List ℕ) (stack : List Slot) (before between : Stacked)
    → CountsAs context stack before.stack → IsFramed context operands results set before between → IsLower context operands results set
    (stacked stack before.set) between
lower context operands results set stack before between counts f =
    let types = context.types in
    let (front, top, is, left, right) = zip_parts (IsBelow types) stack f.rest f.taken
    (subst (λ values. AllZip (IsBelow types) stack values) f.under counts.below) in
    let rest_valid = all_left (IsSlotValid context) f.rest f.taken (subst (AreSlotsValid context) f.under counts.valid) in
    record {
      stack = front ++ f.given;
      framed = record {
        rest = front;
        taken = top;
        given = f.given;
        under = is;
        accepted = below_all types top f.taken operands right f.accepted;
        offered = f.offered;
        over = refl;
        set_then = f.set_then;
      };
      counts = record {
        below = subst (λ values. AllZip (IsBelow types) (front ++ f.given) values) (sym f.over)
            (zip_join (IsBelow types) front f.given f.rest f.given left (below_themselves types f.given));
        valid = subst (AreSlotsValid context) (sym f.over) (All-append (IsSlotValid context) f.rest f.given rest_valid f.offered.valid);
      };
    }

-- a sequence from values that match those before it
pub from_below : {context : BodyContext} {xs : List Instr} {before after : Stacked} (stack : List Slot)
    → CountsAs context stack before.stack
    → AreTyped context xs before after → AreTyped context xs (stacked stack before.set) after
from_below {context = context} {before = before} {after = after} stack counts (nothing others same) =
    nothing (record { below = below_all context.types stack before.stack after.stack counts.below others.below; valid = others.valid }) same
from_below {context = context} {before = before} stack counts (step {between = between} s more) =
    let l = lower context s.operands s.results _ stack before between counts s.framed in
    step (record { operands = s.operands; results = s.results; typed = s.typed; framed = l.framed }) (from_below l.stack l.counts more)
from_below {context = context} {before = before} stack counts (block params results {between = between} is fits inner framed more) =
    let l = lower context _ _ [] stack before between counts framed in
    block params results is fits inner l.framed (from_below l.stack l.counts more)
from_below {context = context} {before = before} stack counts (loop params results {between = between} is fits inner framed more) =
    let l = lower context _ _ [] stack before between counts framed in
    loop params results is fits inner l.framed (from_below l.stack l.counts more)
from_below {context = context} {before = before} stack counts (if_alone params results {between = between} is fits inner same framed more) =
    let l = lower context _ _ [] stack before between counts framed in if_alone params results is fits inner same l.framed
    (from_below l.stack l.counts more)
from_below {context = context} {before = before} stack counts (if_else params results {between = between} is fits inner other framed more) =
    let l = lower context _ _ [] stack before between counts framed in if_else params results is fits inner other l.framed
    (from_below l.stack l.counts more)
from_below {context = context} {before = before} stack counts (try_table params results {between = between} is fits caught inner framed
    more) =
    let l = lower context _ _ [] stack before between counts framed in try_table params results is fits caught inner l.framed
    (from_below l.stack l.counts more)

-- what closes blocks from values closes them from values that match these
pub closes_below : (context : BodyContext) (results : List ValType) (Tail : List Instr → Type 0) (stack : List Slot) (before : Stacked)
    (rest : List Instr)
    → CountsAs context stack before.stack → ClosesWith context results Tail before rest
    → ClosesWith context results Tail (stacked stack before.set) rest
closes_below context results Tail stack before rest counts c = record {
  body = c.body;
  tail = c.tail;
  end = c.end;
  is = c.is;
  typed = from_below stack counts c.typed;
  after = c.after;
}
