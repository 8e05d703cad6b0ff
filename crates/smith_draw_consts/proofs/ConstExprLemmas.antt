-- The definition of a constant expression, after each kind of choice.
use Rattle.smith_draw_consts.proofs.Common.{[], ap, arith, choose_at, Config, ConstInstr, Context, Err, Error, false, inl, inr, IsErrAnd}
use Rattle.smith_draw_consts.proofs.Common.{length, List, Ok, option_map, refl, Result, subst, suc, sym, true, ValType, zero, ℕ, ◌++◌, ◌-◌}
use Rattle.smith_draw_consts.proofs.Common.{◌<◌, ◌∙◌, ◌∷◌, ◌≡◌, ◌⊎◌}
use Rattle.std.proofs.Common.{None, Option, Some}
use Rattle.smith_bytes.specs.declared.error.Error.TheVariants as errors
use Rattle.smith_draw_consts.specs.Constants.{extended_at}
use Rattle.smith_draw_consts.specs.ConstOffers.{offers}
use Rattle.smith_draw_consts.specs.ConstNodes.{is_extended, node_at}
use Rattle.smith_draw_consts.specs.ConstExprs.{State, state_of, add_instruction, operand_at, operands_at, after_choice, expression_at}
use Rattle.smith_draw_consts.specs.ConstExprs.{expression_alone_at}
use Rattle.smith_draw_consts.specs.ConstSteps.{Reads, ReadsValue}
use Rattle.smith_draw_consts.specs.declared.node_choice.Choice.{Choice}
use Rattle.smith_draw_consts.specs.declared.node.Node.{Node}

-- an error passed on by `?`: a failed allocation, or the definition returns none
pub reads_refused : (r : Result (Unit {0}) Error) (e : Error) (new : State) (read : Option State) → IsErrAnd r (λ y. y ≡ e)
    → (e ≡ errors.Memory) ⊎ ((e ≡ errors.EmptyChoose) × (read ≡ None)) → Reads r new read
reads_refused (Ok done) e new read h why = absurd h
reads_refused (Err y) e new read h (inl memory) = subst (λ (z : Error). Reads (Err z) new read) (sym (h ∙ memory)) tt
reads_refused (Err y) e new read h (inr (empty, none)) = subst (λ (z : Error). Reads (Err z) new read) (sym (h ∙ empty)) none

module _ (context : Context) (config : Config) where
  -- one level of the depth
  turn : (depth : ℕ) (wanted : ValType) (s : State) → 0 < depth → (choice : Option Choice) (after : List ℕ)
      → choose_at (offers config context wanted s.fuel) s.bytes ≡ (choice, after)
      → expression_at context config depth wanted s ≡ after_choice context config (expression_at context config (depth - 1)) wanted
      (state_of s.made s.fuel after) choice
  unfolding expression_at
  turn zero wanted s some choice after chosen = absurd (omega arith)
  turn (suc depth) wanted s some choice after chosen =
      let less : suc depth - 1 ≡ depth = omega arith in
      rw (less, chosen) refl

  -- no choice is offered
  pub none_chosen : (wanted : ValType) (s : State) (depth : ℕ) → (choose_at (offers config context wanted s.fuel) s.bytes).0 ≡ None
      → s.fuel < depth → expression_at context config depth wanted s ≡ None
  none_chosen wanted s depth none deep =
      let drawn = choose_at (offers config context wanted s.fuel) s.bytes in
      turn depth wanted s (omega arith) drawn.0 drawn.1 refl ∙ ap (after_choice context config (expression_at context config (depth - 1))
      wanted (state_of s.made s.fuel drawn.1)) none

  -- an extended constant
  pub extended_read : (wanted : ValType) (s new : State) (choice : Choice) (after : List ℕ) (depth : ℕ)
      → choose_at (offers config context wanted s.fuel) s.bytes ≡ (Some choice, after) → is_extended choice ≡ true
      → new.made ≡ s.made ++ (extended_at wanted after).0 → new.bytes ≡ (extended_at wanted after).1 → new.fuel ≡ s.fuel - 1
      → s.fuel < depth → expression_at context config depth wanted s ≡ Some new
  extended_read wanted s new choice after depth chosen is longer left spent deep =
      turn depth wanted s (omega arith) (Some choice) after chosen ∙ (rw (is, ← longer, ← left, ← spent) refl)

  -- a node
  pub node_read : (wanted : ValType) (s : State) (choice : Choice) (node : Node) (after bytes : List ℕ) (depth : ℕ)
      → choose_at (offers config context wanted s.fuel) s.bytes ≡ (Some choice, after) → is_extended choice ≡ false
      → node_at context.types wanted choice after ≡ (node, bytes) → s.fuel < depth
      → expression_at context config depth wanted s ≡ option_map (add_instruction node.instruction)
      (operands_at (operand_at config (expression_at context config (depth - 1))) node.operands (state_of s.made (s.fuel - 1) bytes))
  node_read wanted s choice node after bytes depth chosen other drawn deep =
      turn depth wanted s (omega arith) (Some choice) after chosen ∙ (rw (other, drawn) refl)

-- an empty list offers no choice
pub none_at : {A : Type 0} (items all : List A) (bytes : List ℕ) → items ≡ all → length items ≡ 0 → (choose_at all bytes).0 ≡ None
unfolding choose_at
none_at [] all bytes is none = rw (← is) refl
none_at (x ∷ items) all bytes is none = absurd (omega arith)

-- an expression from an empty start
pub whole_read : (context : Context) (config : Config) (fuel : ℕ) (wanted : ValType) (bytes after : List ℕ) (drawn : List ConstInstr)
    (left : ℕ) → ReadsValue context config wanted (state_of [] fuel bytes) (state_of drawn left after) (Ok tt)
    → expression_alone_at context config fuel wanted bytes ≡ Some (drawn, after)
unfolding expression_alone_at
whole_read context config fuel wanted bytes after drawn left reads = ap (option_map (λ (s : State). (s.made, s.bytes)))
    (reads.exact (suc fuel) (omega arith))

pub whole_refused : (context : Context) (config : Config) (fuel : ℕ) (wanted : ValType) (bytes : List ℕ) (new : State) (e : Error)
    → ReadsValue context config wanted (state_of [] fuel bytes) new (Err e) → e ≡ errors.EmptyChoose
    → expression_alone_at context config fuel wanted bytes ≡ None
unfolding expression_alone_at
whole_refused context config fuel wanted bytes new e reads empty =
    let none : expression_at context config (suc fuel) wanted (state_of [] fuel bytes) ≡ None =
    subst (λ (y : Error). Reads (Err y) new (expression_at context config (suc fuel) wanted (state_of [] fuel bytes))) empty
    (reads.exact (suc fuel) (omega arith)) in
    ap (option_map (λ (s : State). (s.made, s.bytes))) none
