-- Lists of tasks, the next one first: their outcome, their amount of work, and the effect of each
-- step.
use Rattle.smith_draw_consts.proofs.Common.{[], ap, arith, Bool, choose_at, Config, Context, drop, Err, Error, false, get_or, I32, IfSome}
use Rattle.smith_draw_consts.proofs.Common.{inl, inr, IsErrAnd, IsTrue, IsValTypeValid, length, List, map, Ok, OnOk, option_map}
use Rattle.smith_draw_consts.proofs.Common.{recursion_from_All, refl, Result, reverse, slice_get, subst, suc, true, ValType, zero, ℕ, ◌*◌}
use Rattle.smith_draw_consts.proofs.Common.{◌++◌, ◌+◌, ◌-◌, ◌<◌, ◌∙◌, ◌∷◌, ◌≡◌, ◌≤◌, ◌⊎◌}
use Rattle.std.proofs.Common.{Option}
use Rattle.std.proofs.Common.{None, Some}
use Rattle.std.specs.Prelude.{option_and_then, ◌↔◌}
use Rattle.std.specs.List.{AllByRecursion as Each}
use Rattle.std.proofs.lemmas.List.{reverse-append, length-reverse, drop_more}
use Rattle.smith_bytes.specs.declared.error.Error.TheVariants as errors
use Rattle.smith_draw_consts.specs.Putting.{Puts}
use Rattle.smith_draw_consts.specs.Constants.{extended_at}
use Rattle.smith_draw_consts.specs.ConstOffers.{offers}
use Rattle.smith_draw_consts.specs.ConstNodes.{is_extended, node_at}
use Rattle.smith_draw_consts.specs.ConstBounds.{widest, MayLack, MayRefuseConstExpr}
use Rattle.smith_draw_consts.specs.ConstExprs.{State, state_of, add_instruction, length_at, operand_at, operands_at, expression_at}
use Rattle.smith_draw_consts.specs.ConstSteps.{operand_type, IsDrawn, IsNode, ReadsValue}
use Rattle.smith_draw_consts.specs.ConstTasks.{IsOperandBegun, IsStep, IsGrowthPaid, MayRefuseTask}
use Rattle.smith_draw_consts.specs.declared.node.Operand.{Operand}
use Rattle.smith_draw_consts.specs.declared.node.Operand.TheVariants.{Value, Length}
use Rattle.smith_draw_consts.specs.declared.node.Node.{Node}
use Rattle.smith_draw_consts.specs.declared.task.Task.{Task}
use Rattle.smith_draw_consts.specs.declared.task.Task.TheVariants.{Draw, Write}
use Rattle.smith_draw_consts.specs.declared.node_choice.Choice.{Choice}
use Rattle.smith_draw_consts.proofs.ConstStepLemmas.{drawn_none, drawn_more, drawn_by, drawn_extended}
use Rattle.smith_draw_consts.proofs.ConstExprLemmas.{reads_refused, none_chosen, extended_read, node_read}

-- the outcome of an operand, a state or none, by its definition at any depth above the fuel
pub record Gives (context : Context) (config : Config) (operand : Operand) (old : State) (given : Option State) : Type 0 where
  pub read : (depth : ℕ) → old.fuel < depth → operand_at config (expression_at context config depth) operand old ≡ given
  pub drawn : IfSome given (λ (new : State). IsDrawn context (operand_type operand ∷ []) old.made old.fuel new.made new.fuel)

-- the outcome of operands; without fuel there are none
record GivesAll (context : Context) (config : Config) (operands : List Operand) (old : State) (given : Option State) : Type 0 where
  read : (depth : ℕ) → (0 < length operands → old.fuel < depth) → operands_at (operand_at config (expression_at context config depth))
      operands old ≡ given
  drawn : IfSome given (λ (new : State). IsDrawn context (map operand_type operands) old.made old.fuel new.made new.fuel)

-- an outcome leads on to the end, which is none if the outcome is none
abbrev pub LeadsTo : Option State → (State → Type 0) → Option State → Type 0
LeadsTo end next None = end ≡ None
LeadsTo end next (Some now) = next now

-- tasks take a state to the end
abbrev pub Ends : Context → Config → Option State → List Task → State → Type 0
Ends context config end [] now = end ≡ Some now
Ends context config end (Draw operand ∷ tasks) now = (given : Option State) × Gives context config operand now given
    × LeadsTo end (Ends context config end tasks) given
Ends context config end (Write instruction ∷ tasks) now = Ends context config end tasks (add_instruction instruction now)

more_drawn : (context : Context) (value : ValType) (values : List ValType) (old middle : State) (given : Option State)
    → IsDrawn context (value ∷ []) old.made old.fuel middle.made middle.fuel
    → IfSome given (λ (new : State). IsDrawn context values middle.made middle.fuel new.made new.fuel)
    → IfSome given (λ (new : State). IsDrawn context (value ∷ values) old.made old.fuel new.made new.fuel)
more_drawn context value values old middle None first h = tt
more_drawn context value values old middle (Some new) first h = drawn_more first h

-- operands at the front of the tasks are drawn in order
operands_end : (context : Context) (config : Config) (end : Option State) (operands : List Operand) (tasks : List Task) (now : State)
    → Ends context config end (map Draw operands ++ tasks) now
    → (given : Option State) × GivesAll context config operands now given × LeadsTo end (Ends context config end tasks) given
operands_end context config end [] tasks now h =
    (Some now, record { read = λ depth deep. refl; drawn = drawn_none context now.made now.fuel }, h)
operands_end context config end (operand ∷ operands) tasks now (None, gives, next) = (
  None,
  record {
    read = λ depth deep. ap (option_and_then (operands_at (operand_at config (expression_at context config depth)) operands))
        (gives.read depth (deep (omega arith)));
    drawn = tt;
  },
  next,
)
operands_end context config end (operand ∷ operands) tasks now (Some middle, gives, next) =
    let (given, all, onward) = operands_end context config end operands tasks middle next in
    let spent = gives.drawn.spent in (
      given,
      record {
        read = λ depth deep.
            let deeper : now.fuel < depth = deep (omega arith) in
            ap (option_and_then (operands_at (operand_at config (expression_at context config depth)) operands)) (gives.read depth deeper)
            ∙ all.read depth (λ some. omega arith);
        drawn = more_drawn context (operand_type operand) (map operand_type operands) now middle given gives.drawn all.drawn;
      },
      onward,
    )

-- a node was added to the tasks
begun_ends : (context : Context) (config : Config) (end : Option State) (operand : Operand) (todo todo' : List Task) (old new : State)
    → IsOperandBegun context config operand todo old todo' new → Ends context config end todo' new
    → Ends context config end (Draw operand ∷ todo) old
begun_ends context config end operand todo todo' old new begun h =
    let node = begun.node in
    let fits = begun.fits in
    let (given, all, onward) = operands_end context config end node.operands (Write node.instruction ∷ todo)
    (state_of old.made (old.fuel - 1) begun.bytes) (rw (begun.tasks, begun.state) at h) in (
      option_map (add_instruction node.instruction) given,
      record {
        read = λ depth deep. begun.read depth deep ∙ ap (option_map (add_instruction node.instruction))
            (all.read (depth - 1) (λ some. let positive = fits.paid some in omega arith));
        drawn = node_drawn given all.drawn;
      },
      written given onward,
    )
  where
    node_drawn : (given : Option State) → IfSome given (λ (new : State). IsDrawn context (map operand_type begun.node.operands) old.made
        (old.fuel - 1) new.made new.fuel)
        → IfSome (option_map (add_instruction begun.node.instruction) given) (λ (new : State). IsDrawn context (operand_type operand ∷ [])
        old.made old.fuel new.made new.fuel)
    node_drawn None h = tt
    node_drawn (Some middle) h = drawn_by begun.fits h refl

    written : (given : Option State) → LeadsTo end (Ends context config end (Write begun.node.instruction ∷ todo)) given
        → LeadsTo end (Ends context config end todo) (option_map (add_instruction begun.node.instruction) given)
    written None h = h
    written (Some middle) h = h

-- the tasks after a step have the same end as the tasks before it
step_ends : (context : Context) (config : Config) (end : Option State) (task : Task) (todo todo' : List Task) (old new : State)
    → IsStep context config task todo old todo' new → Ends context config end todo' new → Ends context config end (task ∷ todo) old
step_ends context config end (Draw operand) todo todo' old new (inl (same, drawn)) h =
    (Some new, record { read = drawn.read; drawn = drawn.drawn }, rw same at h)
step_ends context config end (Draw operand) todo todo' old new (inr begun) h = begun_ends context config end operand todo todo' old new
    begun h
step_ends context config end (Write instruction) todo todo' old new (same, made) h = rw (same, made) at h

-- an upper bound of the work of tasks
abbrev pub work : List Task → ℕ
work [] = 0
work (Draw operand ∷ tasks) = 2 + work tasks
work (Write instruction ∷ tasks) = 1 + work tasks

-- the work of tasks, and of nodes that may still be paid for with fuel
abbrev pub ahead : Context → List Task → ℕ → ℕ
ahead context tasks fuel = work tasks + (2 * widest context.types + 2) * fuel

work_operands : (operands : List Operand) (tasks : List Task) → work (map Draw operands ++ tasks) ≡ 2 * length operands + work tasks
work_operands [] tasks = omega arith
work_operands (operand ∷ operands) tasks = let more = work_operands operands tasks in omega arith

spent_work : (w k f t : ℕ) → k ≤ w → (0 < k → 0 < f) → 2 * k + (1 + t) + (2 * w + 2) * (f - 1) < 2 + t + (2 * w + 2) * f
spent_work w zero zero t few paid = omega arith
spent_work w zero (suc f) t few paid = let one : suc f - 1 ≡ f = omega arith in rw one (omega arith)
spent_work w (suc k) zero t few paid = let never : 0 < 0 = paid (omega arith) in absurd (omega arith)
spent_work w (suc k) (suc f) t few paid = let one : suc f - 1 ≡ f = omega arith in rw one (omega arith)

times_less : (w f g : ℕ) → g ≤ f → w * g ≤ w * f
times_less w f g less = grind (arith)

pub step_less : (context : Context) (config : Config) (task : Task) (todo todo' : List Task) (old new : State)
    → IsStep context config task todo old todo' new → ahead context todo' new.fuel < ahead context (task ∷ todo) old.fuel
step_less context config (Draw operand) todo todo' old new (inl (same, drawn)) =
    let spent = drawn.drawn.spent in
    let less : (2 * widest context.types + 2) * new.fuel ≤ (2 * widest context.types + 2) * old.fuel =
    times_less (2 * widest context.types + 2) old.fuel new.fuel spent in
    rw same (omega arith)
step_less context config (Draw operand) todo todo' old new (inr begun) =
    let node = begun.node in
    rw (begun.tasks, begun.state, work_operands node.operands (Write node.instruction ∷ todo))
    (spent_work (widest context.types) (length node.operands) old.fuel (work todo) begun.fits.few begun.fits.paid)
step_less context config (Write instruction) todo todo' old new (same, made) = rw (same, made) (omega arith)

length_operands : (operands : List Operand) (tasks : List Task) → length (map Draw operands ++ tasks) ≡ length operands + length tasks
length_operands [] tasks = omega arith
length_operands (operand ∷ operands) tasks = let more = length_operands operands tasks in omega arith

step_growth : (context : Context) (config : Config) (task : Task) (todo todo' : List Task) (old new : State)
    → IsStep context config task todo old todo' new → IsGrowthPaid context todo old.fuel todo' new.fuel
step_growth context config (Draw operand) todo todo' old new (inl (same, drawn)) =
    rw same (record { few = omega arith; paid = λ more. absurd (omega arith) })
step_growth context config (Draw operand) todo todo' old new (inr begun) =
    let node = begun.node in
    let few = begun.fits.few in
    let some = begun.some in
    let fuel = begun.fits.paid some in
    let long = length_operands node.operands (Write node.instruction ∷ todo) in
    rw (begun.tasks, begun.state) (record { few = omega arith; paid = λ more. omega arith })
step_growth context config (Write instruction) todo todo' old new (same, made) =
    rw same (record { few = omega arith; paid = λ more. absurd (omega arith) })

-- as above, for tasks of which the last is the next
pub step_grown : (context : Context) (config : Config) (task : Task) (todo todo' : List Task) (old new : State)
    → IsStep context config task (reverse todo) old (reverse todo') new → IsGrowthPaid context todo old.fuel todo' new.fuel
step_grown context config task todo todo' old new step =
    let growth = step_growth context config task (reverse todo) (reverse todo') old new step in
    let few = growth.few in
    let before = length-reverse todo in
    let after = length-reverse todo' in
    record { few = rw (before, after) at few; paid = λ more. growth.paid (rw (before, after) more) }

-- a task draws a valid value, which lacks choices only if the wanted value may
abbrev pub IsFor : Config → Context → ValType → Task → Type 0
IsFor config context wanted (Draw operand) = IsValTypeValid context.features (length context.types) (operand_type operand)
    × (MayLack config context (operand_type operand) → MayLack config context wanted)
IsFor config context wanted (Write instruction) = Unit {0}

tasks_join : (config : Config) (context : Context) (wanted : ValType) (operands : List Operand) (tasks : List Task)
    → Each (λ (operand : Operand). IsFor config context wanted (Draw operand)) operands → Each (IsFor config context wanted) tasks
    → Each (IsFor config context wanted) (map Draw operands ++ tasks)
tasks_join config context wanted [] tasks h k = k
tasks_join config context wanted (operand ∷ operands) tasks (p, h) k = (p, tasks_join config context wanted operands tasks h k)

node_tasks : (config : Config) (context : Context) (wanted own : ValType) (operands rest : List Operand) (start : ℕ)
    → (MayLack config context own → MayLack config context wanted)
    → ((operand : Operand) (place : ℕ) → slice_get operands place ≡ Some operand → MayLack config context (operand_type operand)
    → MayLack config context own)
    → ((j : ℕ) (operand : Operand) → slice_get rest j ≡ Some operand → slice_get operands (start + j) ≡ Some operand)
    → Each (λ (operand : Operand). IsValTypeValid context.features (length context.types) (operand_type operand)) rest
    → Each (λ (operand : Operand). IsFor config context wanted (Draw operand)) rest
node_tasks config context wanted own operands [] start lacks calm stands h = tt
node_tasks config context wanted own operands (operand ∷ rest) start lacks calm stands (p, h) =
    let first : start + 0 ≡ start = omega arith in (
      (p, λ lack. lacks (calm operand start (subst (λ (n : ℕ). slice_get operands n ≡ Some operand) first (stands 0 operand refl)) lack)),
      node_tasks config context wanted own operands rest (start + 1) lacks calm (λ j w at.
          let later : start + suc j ≡ start + 1 + j = omega arith in
          subst (λ (n : ℕ). slice_get operands n ≡ Some w) later (stands (suc j) w at)) h,
    )

step_tasks : (context : Context) (config : Config) (wanted : ValType) (task : Task) (todo todo' : List Task) (old new : State)
    → IsStep context config task todo old todo' new → IsFor config context wanted task → Each (IsFor config context wanted) todo
    → Each (IsFor config context wanted) todo'
step_tasks context config wanted (Draw operand) todo todo' old new (inl (same, drawn)) own rest = rw same rest
step_tasks context config wanted (Draw operand) todo todo' old new (inr begun) (valid, lacks) rest =
    let node = begun.node in
    let each = recursion_from_All (λ (o : Operand). IsValTypeValid context.features (length context.types) (operand_type o)) node.operands
    begun.fits.valid in
    let there = λ (j : ℕ) (o : Operand) (at : slice_get node.operands j ≡ Some o). let same : j ≡ 0 + j = omega arith in
    subst (λ (n : ℕ). slice_get node.operands n ≡ Some o) same at in
    rw begun.tasks (tasks_join config context wanted node.operands (Write node.instruction ∷ todo)
    (node_tasks config context wanted (operand_type operand) node.operands node.operands 0 lacks begun.fits.lacks there each)
    (tt, rest))
step_tasks context config wanted (Write instruction) todo todo' old new (same, made) own rest = rw same rest

-- the remaining tasks produce the wanted value from the start
pub record IsCarrying (context : Context) (config : Config) (wanted : ValType) (todo : List Task) (start now : State) : Type 0 where
  pub gives : (end : Option State) → Ends context config end todo now → Gives context config (Value wanted) start end
  pub tasks : Each (IsFor config context wanted) todo

pub carrying_more : (context : Context) (config : Config) (wanted : ValType) (task : Task) (todo todo' : List Task) (start old new : State)
    → IsCarrying context config wanted (task ∷ todo) start old → IsStep context config task todo old todo' new
    → IsCarrying context config wanted todo' start new
carrying_more context config wanted task todo todo' start old new now step = record {
  gives = λ end h. now.gives end (step_ends context config end task todo todo' old new step h);
  tasks = step_tasks context config wanted task todo todo' old new step now.tasks.0 now.tasks.1;
}

-- the first task is to draw the wanted value
pub carrying_begun : (context : Context) (config : Config) (wanted : ValType) (none todo : List Task) (start now : State) → none ≡ []
    → IsValTypeValid context.features (length context.types) wanted → IsStep context config (Draw (Value wanted)) none start todo now
    → IsCarrying context config wanted todo start now
carrying_begun context config wanted none todo start now empty valid step = carrying_more context config wanted (Draw (Value wanted)) none
    todo start start now first step
  where
    first_gives : (end : Option State) → Ends context config end (Draw (Value wanted) ∷ []) start
        → Gives context config (Value wanted) start end
    first_gives end (None, gives, is) = rw is gives
    first_gives end (Some last, gives, is) = rw is gives

    first : IsCarrying context config wanted (Draw (Value wanted) ∷ none) start start
    first = rw empty (record { gives = first_gives; tasks = ((valid, λ lack. lack), tt) })

-- no task remains
pub carrying_done : (context : Context) (config : Config) (wanted : ValType) (todo : List Task) (start now : State)
    → IsCarrying context config wanted todo start now → todo ≡ [] → Gives context config (Value wanted) start (Some now)
carrying_done context config wanted todo start now h none = h.gives (Some now) (rw none refl)

-- a task fails
carrying_refused : (context : Context) (config : Config) (wanted : ValType) (task : Task) (todo : List Task) (start now : State) (e : Error)
    → IsCarrying context config wanted (task ∷ todo) start now → MayRefuseTask context config task now e
    → (e ≡ errors.Memory) ⊎ ((e ≡ errors.EmptyChoose) × MayLack config context wanted × Gives context config (Value wanted) start None)
carrying_refused context config wanted (Draw operand) todo start now e h (inl memory) = inl memory
carrying_refused context config wanted (Draw operand) todo start now e h (inr (empty, lacking)) =
    inr (empty, h.tasks.0.1 lacking.lacks, h.gives None (None, record { read = lacking.none; drawn = tt }, refl))
carrying_refused context config wanted (Write instruction) todo start now e h memory = inl memory

pub refusal_read : (context : Context) (config : Config) (wanted : ValType) (task : Task) (todo : List Task) (start now new : State)
    (r : Result (Unit {0}) Error) (e : Error) → IsCarrying context config wanted (task ∷ todo) start now
    → MayRefuseTask context config task now e → IsErrAnd r (λ y. y ≡ e)
    → ReadsValue context config wanted start new r
refusal_read context config wanted task todo start now new r e h refusal passed =
    elim (carrying_refused context config wanted task todo start now e h refusal) [
      | inl memory ↦ record {
        exact = λ depth deep. reads_refused r e new (expression_at context config depth wanted start) passed
            (inl memory);
      }
      | inr (empty, lacks, gives) ↦ record {
        exact = λ depth deep. reads_refused r e new (expression_at context config depth wanted start)
            passed (inr (empty, gives.read depth deep));
      }
    ]

-- the last task is the next
pub popped : (old new : List Task) (task : Task) → old ≡ new ++ task ∷ [] → reverse old ≡ task ∷ reverse new
popped old new task e = ap reverse e ∙ reverse-append new (task ∷ [])

pub nothing_left : (tasks : List Task) → length tasks ≡ 0 → reverse tasks ≡ []
nothing_left [] none = refl
nothing_left (task ∷ tasks) none = absurd (omega arith)

-- one more operand added to the tasks, from the last
pub pushed_turn : (operands : List Operand) (index : ℕ) (d : Operand) (old now new : List Task) → index < length operands
    → reverse now ≡ map Draw (drop (length operands - index) operands) ++ reverse old
    → new ≡ now ++ Draw (get_or operands (length operands - 1 - index) d) ∷ []
    → reverse new ≡ map Draw (drop (length operands - (index + 1)) operands) ++ reverse old
pushed_turn operands index d old now new inside so_far longer =
    let at : length operands - (index + 1) ≡ length operands - 1 - index = omega arith in
    let next : length operands - 1 - index + 1 ≡ length operands - index = omega arith in
    let within : length operands - 1 - index < length operands = omega arith in
    let here = drop_more operands (length operands - 1 - index) d within in
    ap reverse longer ∙ reverse-append now (Draw (get_or operands (length operands - 1 - index) d) ∷ [])
    ∙ ap (λ (ts : List Task). Draw (get_or operands (length operands - 1 - index) d) ∷ ts) so_far
    ∙ (rw (at, here, next) refl)

-- an extended constant is drawn at once
pub extended_step : (context : Context) (config : Config) (wanted : ValType) (choice : Choice) (after : List ℕ) (todo : List Task)
    (old new : State) (r : Result (Unit {0}) Error) → choose_at (offers config context wanted old.fuel) old.bytes ≡ (Some choice, after)
    → is_extended choice ≡ true
    → new.fuel ≡ old.fuel - 1 → OnOk r ((new.made ≡ old.made ++ (extended_at wanted after).0) × (new.bytes ≡ (extended_at wanted after).1))
    → OnOk r (Puts context (wanted ∷ []) old.made new.made) → OnOk r (length new.made ≤ length old.made + 23)
    → OnOk r (IsStep context config (Draw (Value wanted)) todo old todo new)
extended_step context config wanted choice after todo old new (Ok done) chosen is spent (longer, left) puts short =
    inl (
      refl,
      record {
        read = λ depth deep. extended_read context config wanted old new choice after depth chosen is longer left spent
            deep;
        drawn = drawn_extended puts short (omega arith);
      },
    )
extended_step context config wanted choice after todo old new (Err e) chosen is spent made puts short = tt

-- a node without operands is written at once
pub leaf_step : (context : Context) (config : Config) (wanted : ValType) (choice : Choice) (node : Node) (after : List ℕ) (todo : List Task)
    (old new : State) → choose_at (offers config context wanted old.fuel) old.bytes ≡ (Some choice, after) → is_extended choice ≡ false
    → node_at context.types wanted choice after ≡ (node, new.bytes) → length node.operands ≡ 0 → IsNode config context wanted old.fuel node
    → new.made ≡ old.made ++ node.instruction ∷ [] → new.fuel ≡ old.fuel - 1 → IsStep context config (Draw (Value wanted)) todo old todo
    new
leaf_step context config wanted choice node after todo old new chosen other drawn none fits longer spent =
    let empty : node.operands ≡ [] = nothing node.operands none in
    inl (
      refl,
      record {
        read = λ depth deep. node_read context config wanted old choice node after new.bytes depth chosen other drawn deep
            ∙ (rw (empty, ← longer, ← spent) refl);
        drawn = rw spent (drawn_by {node = node} fits (rw empty (drawn_none context old.made (old.fuel - 1))) longer);
      },
    )
  where
    nothing : (operands : List Operand) → length operands ≡ 0 → operands ≡ []
    nothing [] none = refl
    nothing (operand ∷ operands) none = absurd (omega arith)

pub not_empty : (n : ℕ) {empty : Bool} → (IsTrue empty ↔ (n ≡ 0)) → empty ≡ false → 0 < n
not_empty zero (told, tells) none = let empty = tells refl in cc
not_empty (suc n) h none = omega arith

-- a node is added to the tasks
pub node_step : (context : Context) (config : Config) (wanted : ValType) (choice : Choice) (node : Node) (after : List ℕ)
    (todo todo' : List Task) (old new : State) → choose_at (offers config context wanted old.fuel) old.bytes ≡ (Some choice, after)
    → is_extended choice ≡ false
    → node_at context.types wanted choice after ≡ (node, new.bytes) → new ≡ state_of old.made (old.fuel - 1) new.bytes
    → IsNode config context wanted old.fuel node → 0 < length node.operands → todo' ≡ map Draw node.operands ++ Write node.instruction
    ∷ todo → IsStep context config (Draw (Value wanted)) todo old todo' new
node_step context config wanted choice node after todo todo' old new chosen other drawn state fits some tasks = inr (record {
  node = node;
  bytes = new.bytes;
  state = state;
  tasks = tasks;
  fits = fits;
  some = some;
  read = λ depth deep. node_read context config wanted old choice node after new.bytes depth chosen other drawn deep;
})

-- no choice is offered
pub choice_refused : (context : Context) (config : Config) (wanted : ValType) (s : State) (e : Error)
    → MayRefuseConstExpr config context wanted e → (e ≡ errors.EmptyChoose → (choose_at (offers config context wanted s.fuel) s.bytes).0
    ≡ None) → MayRefuseTask context config (Draw (Value wanted)) s e
choice_refused context config wanted s e (inl memory) chosen = inl memory
choice_refused context config wanted s e (inr (empty, lacks)) chosen =
    inr (empty, record { lacks = lacks; none = λ depth deep. none_chosen context config wanted s depth (chosen empty) deep })

-- a limited length is drawn at once
pub length_step : (context : Context) (config : Config) (task : Task) (operand : Operand) (todo : List Task) (old new : State)
    → task ≡ Draw operand → operand ≡ Length → config.limit_arrays_in_const_exprs ≡ true → new ≡ length_at old
    → IsDrawn context (I32 ∷ []) old.made old.fuel new.made new.fuel
    → IsStep context config task todo old todo new
length_step context config task operand todo old new draws length is same drawn =
    rw (draws, length) (inl (refl, record { read = λ depth deep. rw (is, ← same) refl; drawn = drawn }))
