-- Constant expressions, instruction by instruction, by the stacks of the least types.
use Rattle.smith_check_module.proofs.Common.{[], All, All-cons, All-head, All-nil, AllZip, ap, as_instr, canonical_index, ConstInstr}
use Rattle.smith_check_module.proofs.Common.{Context, drop, Err, Error, get_or, IfOk, Instr, IsInstrEnabled, IsValBelow, IsValBelow-refl}
use Rattle.smith_check_module.proofs.Common.{length, List, map, MatchBool, None, Ok, refl, Result, Some, subst, sym, ValType, ℕ, ◌++◌, ◌+◌}
use Rattle.smith_check_module.proofs.Common.{◌<◌, ◌↔◌, ◌∙◌, ◌∷◌, ◌≡◌, ◌≤◌}
use Rattle.std.specs.Prelude.{Bool, false, true}
use Rattle.std.proofs.lemmas.List.{drop_more, drop_all}
use Rattle.std.proofs.lemmas.List.Elements.{All-tail, AllZip-push}
use Rattle.smith_types.specs.Expressions.{AreStackSteps, IsStackStep}
use Rattle.smith_types.proofs.GrowthLemmas.{IsValBelow-trans}
use Rattle.smith_decode.specs.Constants.{as_expr}
use Rattle.smith_check_module.specs.CanonicalModules.{renamed_const}
use Rattle.smith_check_module.specs.ConstInstrs.{Goes, IsConstInstr, Stops, const_of}
use Rattle.smith_check_module.specs.Typings.{HasNoStep, IsBestStep}
use Rattle.smith_check_module.specs.ValidModules.{IsConstant}
use Rattle.smith_check_module.proofs.ConstantLemmas.{not_spelled, one_constant, spelled}
use Rattle.smith_check_module.proofs.StackLemmas.{zip_parts, zip_through}

module _ (context : Context) where
  step_weaker : (c : ConstInstr) (small before after : List ValType) → AllZip (IsValBelow context.types) small before
      → IsStackStep context c before after
      → (other : List ValType) × IsStackStep context c small other × AllZip (IsValBelow context.types) other after
  step_weaker c small before after below s =
      let (front, back, is, left, right) = zip_parts (IsValBelow context.types) small s.rest s.taken
      (subst (λ (vs : List ValType). AllZip (IsValBelow context.types) small vs) s.on_top below) in (
        front ++ s.result ∷ [],
        record {
          operands = s.operands;
          result = s.result;
          typed = s.typed;
          rest = front;
          taken = back;
          on_top = is;
          accepted = zip_through (IsValBelow context.types) (IsValBelow-trans context.types) back s.taken s.operands right s.accepted;
          pushed = refl;
        },
        subst (λ (vs : List ValType). AllZip (IsValBelow context.types) (front ++ s.result ∷ []) vs) (sym s.pushed)
            (AllZip-push (IsValBelow context.types) front s.rest s.result s.result left (IsValBelow-refl context.types s.result)),
      )

  alone : (small : List ValType) (value : ValType) → AllZip (IsValBelow context.types) small (value ∷ [])
      → (other : ValType) × (small ≡ other ∷ []) × IsValBelow context.types other value
  alone [] value below = absurd below
  alone (x ∷ []) value below = (x, refl, below.0)
  alone (x ∷ y ∷ xs) value below = absurd below.1

  -- what takes a stack to one value takes a stack of lesser types to a lesser value
  steps_weaker : (cs : List ConstInstr) (small before : List ValType) (value : ValType) → AllZip (IsValBelow context.types) small before
      → AreStackSteps context cs before (value ∷ [])
      → (other : ValType) × AreStackSteps context cs small (other ∷ []) × IsValBelow context.types other value
  steps_weaker [] small before value below is =
      alone small value (subst (λ (vs : List ValType). AllZip (IsValBelow context.types) small vs) is below)
  steps_weaker (c ∷ cs) small before value below (between, step, steps) =
      let (next, taken, under) = step_weaker c small before between below step in
      let (other, more, lesser) = steps_weaker cs next between value under steps in
      (other, (next, taken, more), lesser)

-- the rest of a constant expression, from a stack
pub record IsRest (context : Context) (indices : List ℕ) (wanted : ValType) (stack : List ValType) (rest : List Instr) : Type 0 where
  pub constants : List ConstInstr
  pub spelled : rest ≡ as_expr constants
  pub value : ValType
  pub steps : AreStackSteps context (map (renamed_const (canonical_index indices)) constants) stack (value ∷ [])
  pub below : IsValBelow context.types value wanted
  pub enabled : All (IsInstrEnabled context.features context.imported_globals) (map (renamed_const (canonical_index indices)) constants)

module _ (context : Context) (indices : List ℕ) (wanted : ValType) where
  pub all_rest : (expression : List Instr) → IsRest context indices wanted [] expression ↔ IsConstant context indices wanted expression
  all_rest expression = (
    λ r. record {
      constants = r.constants;
      spelled = r.spelled;
      typed = record { value = r.value; steps = r.steps; below = r.below; enabled = r.enabled };
    },
    λ e. record {
      constants = e.constants;
      spelled = e.spelled;
      value = e.typed.value;
      steps = e.typed.steps;
      below = e.typed.below;
      enabled = e.typed.enabled;
    },
  )

  rest_more : (instruction : Instr) (rest : List Instr) (before after : List ValType) → Goes context indices instruction before after
      → IsRest context indices wanted after rest → IsRest context indices wanted before (instruction ∷ rest)
  rest_more instruction rest before after g r = record {
    constants = g.constant ∷ r.constants;
    spelled = λ i. g.is.spelled i ∷ r.spelled i;
    value = r.value;
    steps = (after, g.step.step, r.steps);
    below = r.below;
    enabled = All-cons (IsInstrEnabled context.features context.imported_globals)
        (renamed_const (canonical_index indices) g.constant)
        (map (renamed_const (canonical_index indices)) r.constants) g.is.enabled r.enabled;
  }

  less : (instruction : Instr) (rest : List Instr) (before after : List ValType) (constants : List ConstInstr) (value : ValType)
      → Goes context indices instruction before after → instruction ∷ rest ≡ as_expr constants
      → AreStackSteps context (map (renamed_const (canonical_index indices)) constants) before (value ∷ [])
      → IsValBelow context.types value wanted
      → All (IsInstrEnabled context.features context.imported_globals) (map (renamed_const (canonical_index indices)) constants)
      → IsRest context indices wanted after rest
  less instruction rest before after [] value g is steps below enabled = absurd cc
  less instruction rest before after (c ∷ cs) value g is (between, step, steps) below enabled =
      let first : instruction ≡ as_instr c = cc in
      let others : rest ≡ as_expr cs = cc in
      let same : c ≡ g.constant = one_constant c g.constant (sym first ∙ g.is.spelled) in
      let mine : IsStackStep context (renamed_const (canonical_index indices) g.constant) before between =
      subst (λ (d : ConstInstr). IsStackStep context (renamed_const (canonical_index indices) d) before between) same step in
      let (other, more, lesser) = steps_weaker context (map (renamed_const (canonical_index indices)) cs) after between value
      (g.step.least between mine) steps in
      record {
        constants = cs;
        spelled = others;
        value = other;
        steps = more;
        below = IsValBelow-trans context.types other value wanted lesser below;
        enabled = All-tail (IsInstrEnabled context.features context.imported_globals) (renamed_const (canonical_index indices) c)
            (map (renamed_const (canonical_index indices)) cs) enabled;
      }

  rest_less : (instruction : Instr) (rest : List Instr) (before after : List ValType) → Goes context indices instruction before after
      → IsRest context indices wanted before (instruction ∷ rest) → IsRest context indices wanted after rest
  rest_less instruction rest before after g r = less instruction rest before after r.constants r.value g r.spelled r.steps r.below r.enabled

  stops : (instruction : Instr) (rest : List Instr) (before : List ValType) (constants : List ConstInstr) (value : ValType)
      → Stops context indices instruction before → instruction ∷ rest ≡ as_expr constants
      → AreStackSteps context (map (renamed_const (canonical_index indices)) constants) before (value ∷ [])
      → All (IsInstrEnabled context.features context.imported_globals) (map (renamed_const (canonical_index indices)) constants)
      → ⊥
  stops instruction rest before [] value none is steps enabled = absurd cc
  stops instruction rest before (c ∷ cs) value none is (between, step, steps) enabled =
      let first : instruction ≡ as_instr c = cc in
      none c (record {
        spelled = first;
        enabled = All-head (IsInstrEnabled context.features context.imported_globals) (renamed_const (canonical_index indices) c)
            (map (renamed_const (canonical_index indices)) cs) enabled;
      }) between step

  rest_stops : (instruction : Instr) (rest : List Instr) (before : List ValType) → Stops context indices instruction before
      → IsRest context indices wanted before (instruction ∷ rest) → ⊥
  rest_stops instruction rest before none r = stops instruction rest before r.constants r.value none r.spelled r.steps r.enabled

  ended : (stack : List ValType) (constants : List ConstInstr) (value : ValType) → [] ≡ as_expr constants
      → AreStackSteps context (map (renamed_const (canonical_index indices)) constants) stack (value ∷ [])
      → stack ≡ value ∷ []
  ended stack [] value is steps = steps
  ended stack (c ∷ cs) value is steps = absurd cc

  rest_end : (stack : List ValType) → IsRest context indices wanted stack []
      ↔ ((value : ValType) × (stack ≡ value ∷ []) × IsValBelow context.types value wanted)
  rest_end stack = (
    λ r. (r.value, ended stack r.constants r.value r.spelled r.steps, r.below),
    λ (value, is, below). record {
      constants = [];
      spelled = refl;
      value = value;
      steps = is;
      below = below;
      enabled = All-nil (IsInstrEnabled context.features context.imported_globals);
    },
  )

  module _ (expression : List Instr) (i : ℕ) (instruction : Instr) (inside : i < length expression)
      (read : instruction ≡ get_or expression i instruction) (before : List ValType)
      (known : IsRest context indices wanted before (drop i expression) ↔ IsConstant context indices wanted expression) where
    split : drop i expression ≡ instruction ∷ drop (i + 1) expression
    split = drop_more expression i instruction inside ∙ ap (λ (x : Instr). x ∷ drop (i + 1) expression) (sym read)

    pub onward : (after : List ValType) → Goes context indices instruction before after
        → IsRest context indices wanted after (drop (i + 1) expression) ↔ IsConstant context indices wanted expression
    onward after g = (
      λ r. known.0 (subst (λ (xs : List Instr). IsRest context indices wanted before xs) (sym split)
          (rest_more instruction (drop (i + 1) expression) before after g r)),
      λ e. rest_less instruction (drop (i + 1) expression) before after g
          (subst (λ (xs : List Instr). IsRest context indices wanted before xs) split (known.1 e)),
    )

    pub stopped : Stops context indices instruction before → IsConstant context indices wanted expression → ⊥
    stopped none e = rest_stops instruction (drop (i + 1) expression) before none
        (subst (λ (xs : List Instr). IsRest context indices wanted before xs) split (known.1 e))

  pub begun : (expression : List Instr) (stack : List ValType) → stack ≡ []
      → IsRest context indices wanted stack expression ↔ IsConstant context indices wanted expression
  begun expression stack none = subst (λ (vs : List ValType). IsRest context indices wanted vs expression
      ↔ IsConstant context indices wanted expression) (sym none) (all_rest expression)

  pub finished : (expression : List Instr) (i : ℕ) (stack : List ValType) → length expression ≤ i
      → IsRest context indices wanted stack (drop i expression) ↔ IsConstant context indices wanted expression
      → ((value : ValType) × (stack ≡ value ∷ []) × IsValBelow context.types value wanted)
      ↔ IsConstant context indices wanted expression
  finished expression i stack past known =
      let none : drop i expression ≡ [] = drop_all i expression past in
      let both = rest_end stack in (
        λ v. known.0 (subst (λ (xs : List Instr). IsRest context indices wanted stack xs) (sym none) (both.1 v)),
        λ e. both.0 (subst (λ (xs : List Instr). IsRest context indices wanted stack xs) none (known.1 e)),
      )

module _ (context : Context) (indices : List ℕ) (instruction : Instr) where
  same_constant : (c found : ConstInstr) → Some found ≡ const_of instruction → IsConstInstr context indices instruction c → c ≡ found
  same_constant c found at is = one_constant c found (sym is.spelled ∙ spelled instruction found (sym at))

  -- an instruction that is no constant one, or is not enabled, stops
  pub stops_other : (before : List ValType) → None ≡ const_of instruction → Stops context indices instruction before
  stops_other before none = λ c is. absurd (not_spelled instruction c (sym none) is.spelled)

  pub stops_off : (before : List ValType) (found : ConstInstr) → Some found ≡ const_of instruction
      → (IsInstrEnabled context.features context.imported_globals (renamed_const (canonical_index indices) found) → ⊥)
      → Stops context indices instruction before
  stops_off before found at off = λ c is. absurd (off (subst (λ (d : ConstInstr).
      IsInstrEnabled context.features context.imported_globals (renamed_const (canonical_index indices) d))
      (same_constant c found at is) is.enabled))

  -- what is returned after a step
  pub gone : (before after : List ValType) (found : ConstInstr) (done : Result Bool Error) → Some found ≡ const_of instruction
      → IsInstrEnabled context.features context.imported_globals (renamed_const (canonical_index indices) found)
      → IfOk done (λ d. MatchBool d (IsBestStep context (renamed_const (canonical_index indices) found) before after)
      (HasNoStep context (renamed_const (canonical_index indices) found) before))
      → IfOk done (λ d. MatchBool d (Goes context indices instruction before after) (Stops context indices instruction before))
  gone before after found (Ok true) at enabled step =
      record { constant = found; is = record { spelled = spelled instruction found (sym at); enabled = enabled }; step = step }
  gone before after found (Ok false) at enabled none = λ c is.
      subst (λ (d : ConstInstr). HasNoStep context (renamed_const (canonical_index indices) d) before)
      (sym (same_constant c found at is)) none
  gone before after found (Err e) at enabled answer = tt
