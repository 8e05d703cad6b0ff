-- The drawn instructions are those that the bytes produce, one part after another.
use Rattle.smith_body.proofs.Common.{[], ap, arith, BlockType, BodyContext, Bool, Config, context_of, Draft, drop, drop-cons, false, get_or}
use Rattle.smith_body.proofs.Common.{Head, Instr, label_of, length, List, Node, None, not_zero, opened, Opening, Option, option_to_list}
use Rattle.smith_body.proofs.Common.{refl, replicate, Scope, Some, suc, sym, take, true, ValType, zero, ℕ, ◌++◌, ◌+◌, ◌-◌, ◌<◌, ◌∙◌, ◌∷◌}
use Rattle.smith_body.proofs.Common.{◌≡◌, ◌≤◌}
use Rattle.std.proofs.Common.{◌%◌}
use Rattle.std.specs.Prelude.{nat_le, ◌==◌}
use Rattle.std.proofs.lemmas.Bool.{ne_eqb}
use Rattle.smith_bytes.specs.Draws.{range_at}
use Rattle.smith_instr.specs.Contexts.{labelled}
use Rattle.smith_instr.specs.declared.control.Catch.{Catch}
use Rattle.smith_instr.specs.declared.instr.Instr.TheVariants as instr
use Rattle.smith_body.specs.Bodies.{Drawing, State, begun, body_at, drawing_at, dropped, enclosed_at, ended, ended_by, ending_at, head_at}
use Rattle.smith_body.specs.Bodies.{in_block, inside_at, interval, leaf_in, node_at, opened_at, operands_at, repeated_at, results_at}
use Rattle.smith_body.specs.Bodies.{settled_all, statement_at, statements_within, value_at, values_at, written}
use Rattle.smith_body_choices.specs.Choices.{allowed_choice_at, ending_choice_at, statement_choice_at}
use Rattle.smith_body.specs.DraftSteps.{IsDrawn, IsEnded, IsOpened, IsWritten, state_of}
use Rattle.smith_body.specs.Left.{spare_of}
use Rattle.smith_body.specs.Repeats.{repeat_at}
use Rattle.smith_body.specs.declared.repeats.Repeat.{Repeat}
use Rattle.smith_body_leaves.specs.DrawnLeaves.{leaf_at}
use Rattle.smith_body_nodes.specs.Nodes.{is_node_allowed}
use Rattle.smith_body_nodes.specs.declared.node.Head.TheVariants as heads
use Rattle.smith_body_nodes.specs.declared.node.Sides.{Sides}
use Rattle.smith_body.proofs.DrawnLemmas.{height_left}

-- a state of these labels, instructions, locals, budget and bytes
abbrev pub made : Scope → List (List ValType) → List Instr → List ℕ → ℕ → List ℕ → State
made scope labels out set budget bytes = record { context = context_of scope labels; out = out; set = set; budget = budget; bytes = bytes }

pub state_is : (scope : Scope) (draft : Draft) (labels : List (List ValType)) (out : List Instr) (set : List ℕ) (budget : ℕ)
    (bytes : List ℕ)
    → draft.labels.items ≡ labels → draft.out ≡ out → draft.set.items ≡ set → draft.budget ≡ budget → made scope labels out set budget bytes
    ≡ state_of scope draft bytes
state_is scope draft labels out set budget bytes labels_are out_is set_is budget_is = rw (← labels_are, ← out_is, ← set_is, ← budget_is)
    refl

-- a value: one that takes no budget at the last level and once the budget is spent, else the chosen
-- node
pub last_value : (config : Config) (depth : ℕ) (wanted : ValType) (s : State) → depth ≡ 0 → (drawing_at config depth).value wanted s
    ≡ leaf_in config wanted s
unfolding drawing_at
last_value config zero wanted s last = refl
last_value config (suc depth) wanted s last = absurd (omega arith)

pub unpaid_value : (config : Config) (depth : ℕ) (wanted : ValType) (s : State) → s.budget ≡ 0 → (drawing_at config depth).value wanted s
    ≡ leaf_in config wanted s
unfolding drawing_at value_at
unpaid_value config zero wanted s none = refl
unpaid_value config (suc depth) wanted s none = let test : (s.budget == 0) ≡ true = ap (λ (n : ℕ). n == 0) none in rw test refl

pub chosen_value : (config : Config) (depth : ℕ) (wanted : ValType) (s : State) (node : Node) (left : List ℕ) → 0 < depth → 0 < s.budget
    → allowed_choice_at config s.context wanted s.bytes ≡ (Some node, left)
    → (drawing_at config depth).value wanted s ≡ node_at config (drawing_at config (depth - 1)) node (record s { bytes = left })
unfolding drawing_at value_at
chosen_value config zero wanted s node left deep paid chosen = absurd (omega arith)
chosen_value config (suc depth) wanted s node left deep paid chosen =
    let less : suc depth - 1 ≡ depth = omega arith in
    rw (less, not_zero s.budget paid, chosen) refl

pub other_value : (config : Config) (depth : ℕ) (wanted : ValType) (s : State) (left : List ℕ) → 0 < depth → 0 < s.budget
    → allowed_choice_at config s.context wanted s.bytes ≡ (None, left)
    → (drawing_at config depth).value wanted s ≡ leaf_in config wanted (record s { bytes = left })
unfolding drawing_at value_at
other_value config zero wanted s left deep paid chosen = absurd (omega arith)
other_value config (suc depth) wanted s left deep paid chosen = rw (not_zero s.budget paid, chosen) refl

leaf_written : (config : Config) (wanted : ValType) (s : State) (instructions out : List Instr) (left : List ℕ)
    → leaf_at config s.context s.set wanted s.bytes ≡ (instructions, left) → out ≡ s.out ++ instructions
    → leaf_in config wanted s ≡ record s { out = out; bytes = left }
unfolding leaf_in
leaf_written config wanted s instructions out left drawn is =
    ap (λ (leaf : List Instr × List ℕ). record s { out = s.out ++ leaf.0; bytes = leaf.1 }) drawn
    ∙ ap (λ (out : List Instr). record s { out = out; bytes = left }) (sym is)

pub leaf_state : (scope : Scope) (wanted : ValType) (old new : Draft) (bytes left : List ℕ) (instructions : List Instr)
    → leaf_at scope.config.now (context_of scope old.labels.items) old.set.items wanted bytes ≡ (instructions, left)
    → new.out ≡ old.out ++ instructions
    → new.set.items ≡ old.set.items → new.labels.items ≡ old.labels.items → new.budget ≡ old.budget
    → leaf_in scope.config.now wanted (state_of scope old bytes) ≡ state_of scope new left
leaf_state scope wanted old new bytes left instructions drawn out set labels budget =
    leaf_written scope.config.now wanted (state_of scope old bytes) instructions (old.out ++ instructions) left drawn refl
    ∙ state_is scope new old.labels.items (old.out ++ instructions) old.set.items old.budget left labels out set budget

pub drops_written : (scope : Scope) (count : ℕ) (old new : Draft) (bytes : List ℕ) → new.out ≡ old.out ++ replicate count instr.Drop
    → new.set.items ≡ old.set.items → new.labels.items ≡ old.labels.items → new.budget ≡ old.budget
    → dropped count (state_of scope old bytes) ≡ state_of scope new bytes
drops_written scope count old new bytes out set labels budget = state_is scope new old.labels.items (old.out ++ replicate count instr.Drop)
    old.set.items old.budget bytes labels out set budget

-- a node: its operands, its head, and the results that nothing takes
pub node_exact : (config : Config) (draw : Drawing) (node : Node) (s operands after settling : State) (spare : List ValType)
    → operands_at config draw node.head node.operands (record s { budget = s.budget - 1 }) ≡ operands
    → head_at config draw node.head node.sets operands ≡ after → spare ≡ spare_of s.context node.head node.drops
    → settled_all config spare after ≡ settling → node_at config draw node s ≡ dropped (node.drops - length spare) settling
unfolding node_at
node_exact config draw node s operands after settling spare first second is third =
    rw (← is)
    (ap (λ (s : State). dropped (node.drops - length spare) (settled_all config spare (head_at config draw node.head node.sets s))) first
    ∙ (ap (λ (s : State). dropped (node.drops - length spare) (settled_all config spare s)) second
    ∙ ap (λ (s : State). dropped (node.drops - length spare) s) third))

pub plain_exact : (scope : Scope) (config : Config) (draw : Drawing) (head : Head) (instruction : Instr) (sets : Option ℕ) (old new :
    Draft) (bytes : List ℕ) → head ≡ heads.Plain instruction → IsWritten instruction sets old new
    → head_at config draw head sets (state_of scope old bytes) ≡ state_of scope new bytes
unfolding head_at
plain_exact scope config draw head instruction sets old new bytes is done =
    rw is (state_is scope new old.labels.items (old.out ++ instruction ∷ []) (old.set.items ++ option_to_list sets) old.budget bytes
    done.same done.out done.set_more done.budget)

pub head_enclosed : (config : Config) (draw : Drawing) (head : Head) (opening : Opening) (ty : BlockType) (sides : Sides) (sets : Option
    ℕ) (s : State) → head ≡ heads.Enclosed opening ty sides
    → head_at config draw head sets s ≡ opened_at config draw opening ty sides s
unfolding head_at
head_enclosed config draw head opening ty sides sets s is = rw is refl

-- a loop that is repeated, or a block that is not
pub opened_again : (config : Config) (draw : Drawing) (opening : Opening) (ty : BlockType) (sides : Sides) (s : State) (repeat : Repeat)
    (left : List ℕ) → repeat_at config s.context opening sides.params s.budget s.bytes ≡ (Some repeat, left)
    → opened_at config draw opening ty sides s ≡ repeated_at draw repeat ty sides.results (record s { bytes = left })
unfolding opened_at
opened_again config draw opening ty sides s repeat left drawn = rw drawn refl

pub opened_once : (config : Config) (draw : Drawing) (opening : Opening) (ty : BlockType) (sides : Sides) (s : State) (left : List ℕ)
    → repeat_at config s.context opening sides.params s.budget s.bytes ≡ (None, left)
    → opened_at config draw opening ty sides s ≡ written instr.End (enclosed_at config draw (label_of opening sides.params sides.results)
    sides
    (written (opened opening ty) (record s { bytes = left })))
unfolding opened_at
opened_once config draw opening ty sides s left drawn = rw drawn refl

pub head_try : (config : Config) (draw : Drawing) (head : Head) (ty : BlockType) (clauses : List Catch) (sides : Sides) (sets : Option ℕ)
    (s : State) → head ≡ heads.Try ty clauses sides
    → head_at config draw head sets s ≡ written instr.End
    (enclosed_at config draw sides.results sides (written (instr.TryTable ty clauses) s))
unfolding head_at
head_try config draw head ty clauses sides sets s is = rw is refl

pub head_if : (config : Config) (draw : Drawing) (head : Head) (ty : BlockType) (sides : Sides) (sets : Option ℕ) (s : State)
    → head ≡ heads.If ty sides
    → head_at config draw head sets s ≡ written instr.End
    (enclosed_at config draw sides.results sides (written instr.Else (enclosed_at config draw
    sides.results sides (written (instr.If ty) s))))
unfolding head_at
head_if config draw head ty sides sets s is = rw is refl

-- an instruction after which nothing is reached, if one was chosen that is allowed
chosen_end : (config : Config) (depth : ℕ) (s : State) (rest : List ℕ) (chosen : Option Node) → 0 < depth
    → ending_choice_at s.context s.bytes ≡ (chosen, rest)
    → (drawing_at config depth).ending s ≡ ended_by config (drawing_at config (depth - 1)) chosen (record s { bytes = rest })
unfolding drawing_at ending_at
chosen_end config zero s rest chosen deep is = absurd (omega arith)
chosen_end config (suc depth) s rest chosen deep is = let less : suc depth - 1 ≡ depth = omega arith in rw (less, is) refl

pub no_ending : (config : Config) (depth : ℕ) (s : State) (rest : List ℕ) → 0 < depth → ending_choice_at s.context s.bytes ≡ (None, rest)
    → (drawing_at config depth).ending s ≡ (false, record s { bytes = rest })
no_ending config depth s rest deep is = chosen_end config depth s rest None deep is

pub forbidden_ending : (config : Config) (depth : ℕ) (s : State) (rest : List ℕ) (node : Node) → 0 < depth
    → ending_choice_at s.context s.bytes ≡ (Some node, rest) → is_node_allowed s.context.features config node ≡ false
    → (drawing_at config depth).ending s ≡ (false, record s { bytes = rest })
forbidden_ending config depth s rest node deep is forbidden = chosen_end config depth s rest (Some node) deep is ∙ rw forbidden refl

pub chosen_ending : (config : Config) (depth : ℕ) (s t : State) (rest : List ℕ) (node : Node) → 0 < depth
    → ending_choice_at s.context s.bytes ≡ (Some node, rest) → is_node_allowed s.context.features config node ≡ true
    → node_at config (drawing_at config (depth - 1)) node (record s { bytes = rest }) ≡ t → (drawing_at config depth).ending s ≡ (true, t)
chosen_ending config depth s t rest node deep is allowed after = chosen_end config depth s rest (Some node) deep is
    ∙ rw (allowed, after) refl

-- statements and the results, or an ending in their place
pub results_drawn : (draw : Drawing) (results : List ValType) (s t : State) → draw.statements s ≡ (false, t) → results_at draw results s
    ≡ values_at draw results t
unfolding results_at
results_drawn draw results s t stopped = rw stopped refl

pub results_still : (draw : Drawing) (results : List ValType) (s t u : State) → draw.statements s ≡ (true, t) → draw.ending t ≡ (false, u)
    → results_at draw results s ≡ values_at draw results u
unfolding results_at
results_still draw results s t u stopped is = rw (stopped, is) refl

pub results_ended : (draw : Drawing) (results : List ValType) (s t u : State) (number : ℕ) (left : List ℕ) → draw.statements s ≡ (true, t)
    → draw.ending t ≡ (true, u) → range_at 0 7 u.bytes ≡ (number, left) → number < 7
    → results_at draw results s ≡ record u { bytes = left }
unfolding results_at
results_ended draw results s t u number left stopped is drawn less = rw (stopped, is, drawn, ne_eqb number 7 (λ same. absurd (omega arith)))
    refl

pub results_dead : (draw : Drawing) (results : List ValType) (s t u v : State) (left : List ℕ) (ends : Bool) → draw.statements s ≡ (true, t)
    → draw.ending t ≡ (true, u) → range_at 0 7 u.bytes ≡ (7, left)
    → draw.statements (record u { bytes = left }) ≡ (ends, v) → results_at draw results s ≡ values_at draw results v
unfolding results_at
results_dead draw results s t u v left ends stopped is drawn after = rw (stopped, is, drawn, after) refl

-- the inside of a block
pub inside_exact : (config : Config) (draw : Drawing) (sides : Sides) (s settling : State) → settled_all config sides.params s ≡ settling
    → inside_at config draw sides s ≡ results_at draw sides.results settling
unfolding inside_at
inside_exact config draw sides s settling is = ap (λ (s : State). results_at draw sides.results s) is

-- a block that was opened
entered_exact : (scope : Scope) (opening : Instr) (label : List ValType) (old entered : Draft) (bytes : List ℕ)
    → IsOpened opening label old entered
    → record (written opening (state_of scope old bytes)) { context = labelled (context_of scope old.labels.items) label }
    ≡ state_of scope entered bytes
entered_exact scope opening label old entered bytes start =
    state_is scope entered (label ∷ old.labels.items) (old.out ++ opening ∷ []) old.set.items old.budget bytes start.labels start.out
    start.set start.budget

-- the instructions drawn in a block, and the end of the block
closed_exact : (scope : Scope) (closing : Instr) (s : State) (old inside new : Draft) (bytes left : List ℕ) → s ≡ state_of scope inside left
    → new.out ≡ inside.out ++ closing ∷ [] → new.set.items ≡ old.set.items → new.labels.items ≡ old.labels.items
    → new.budget ≡ inside.budget
    → written closing (record s { context = context_of scope old.labels.items; set = old.set.items }) ≡ state_of scope new left
closed_exact scope closing s old inside new bytes left is out set labels budget =
    ap (λ (s : State). written closing (record s { context = context_of scope old.labels.items; set = old.set.items })) is
    ∙ state_is scope new old.labels.items (inside.out ++ closing ∷ []) old.set.items inside.budget left labels out set budget

-- the locals that are set after a block are those before it
set_again : {scope : Scope} {a b : List ValType} {n : ℕ} (old entered inside new : Draft) (height : ℕ) → IsDrawn scope a b n entered inside
    → entered.set.items ≡ old.set.items → height ≡ length old.set.items → new.set.items ≡ take height inside.set.items
    → new.set.items ≡ old.set.items
set_again old entered inside new height drawn same high taken =
    let taken' : new.set.items ≡ take (length old.set.items) inside.set.items = rw high at taken in
    taken' ∙ height_left old.set.items drawn.set inside.set.items (drawn.set_more ∙ ap (λ (xs : List ℕ). xs ++ drawn.set) same)

pub block_exact : {a b : List ValType} {n : ℕ} (scope : Scope) (inside : State → State) (opening : Instr) (label : List ValType) (old
    entered within new : Draft) (bytes left : List ℕ) (height : ℕ)
    → IsOpened opening label old entered → inside (state_of scope entered bytes) ≡ state_of scope within left
    → IsDrawn scope a b n entered within
    → height ≡ length old.set.items → IsEnded instr.End height within new → new.labels.items ≡ old.labels.items
    → written instr.End (in_block inside label (written opening (state_of scope old bytes))) ≡ state_of scope new left
block_exact scope inside opening label old entered within new bytes left height start exact drawn high end labels =
    let begin = entered_exact scope opening label old entered bytes start in
    closed_exact scope instr.End _ old within new bytes left (ap inside begin ∙ exact) end.out (set_again old entered within new height
    drawn start.set high end.set) labels end.budget

pub enclosed_exact : {a b : List ValType} {n : ℕ} (scope : Scope) (draw : Drawing) (opening : Instr) (label : List ValType) (sides :
    Sides) (old entered inside new : Draft) (bytes left : List ℕ) (height : ℕ)
    → IsOpened opening label old entered → inside_at scope.config.now draw sides (state_of scope entered bytes) ≡ state_of scope inside left
    → IsDrawn scope a b n entered inside
    → height ≡ length old.set.items → IsEnded instr.End height inside new → new.labels.items ≡ old.labels.items
    → written instr.End (enclosed_at scope.config.now draw label sides (written opening (state_of scope old bytes)))
    ≡ state_of scope new left
unfolding enclosed_at
enclosed_exact scope draw opening label sides old entered inside new bytes left height start exact drawn high end labels =
    block_exact scope (inside_at scope.config.now draw sides) opening label old entered inside new bytes left height start exact drawn high
    end labels

pub if_exact : {a b c d : List ValType} {m n : ℕ} (scope : Scope) (draw : Drawing) (ty : BlockType) (sides : Sides)
    (old entered first other last new : Draft) (bytes middle left : List ℕ) (height : ℕ)
    → IsOpened (instr.If ty) sides.results old entered → inside_at scope.config.now draw sides (state_of scope entered bytes)
    ≡ state_of scope first middle → IsDrawn scope a b m entered first
    → height ≡ length old.set.items → IsEnded instr.Else height first other → other.labels.items ≡ first.labels.items
    → inside_at scope.config.now draw sides (state_of scope other middle) ≡ state_of scope last left → IsDrawn scope c d n other last
    → IsEnded instr.End height last new → new.labels.items ≡ old.labels.items
    → written instr.End (enclosed_at scope.config.now draw sides.results sides
    (written instr.Else (enclosed_at scope.config.now draw sides.results sides (written (instr.If ty) (state_of scope old bytes)))))
    ≡ state_of scope new left
unfolding enclosed_at
if_exact scope draw ty sides old entered first other last new bytes middle left height start exact drawn high split between exact' drawn'
    end labels =
    let begin = entered_exact scope (instr.If ty) sides.results old entered bytes start in
    let once = ap (λ (s : State). inside_at scope.config.now draw sides s) begin ∙ exact in
    let set : other.set.items ≡ old.set.items = set_again old entered first other height drawn start.set high split.set in
    let set' : new.set.items ≡ old.set.items = set_again old other last new height drawn' set high end.set in
    let labels' : other.labels.items ≡ sides.results ∷ old.labels.items = between ∙ (drawn.same ∙ start.labels) in
    let begin' : made scope (sides.results ∷ old.labels.items) (first.out ++ instr.Else ∷ []) old.set.items first.budget middle
    ≡ state_of scope other middle =
    state_is scope other (sides.results ∷ old.labels.items) (first.out ++ instr.Else ∷ []) old.set.items first.budget middle labels'
    split.out set split.budget in
    let again : inside_at scope.config.now draw sides (made scope (sides.results ∷ old.labels.items) (first.out ++ instr.Else ∷ [])
    old.set.items first.budget middle) ≡ state_of scope last left =
    ap (λ (s : State). inside_at scope.config.now draw sides s) begin' ∙ exact' in
    ap (λ (s : State). written instr.End (enclosed_at scope.config.now draw sides.results sides
    (written instr.Else (record s { context = context_of scope old.labels.items; set = old.set.items })))) once
    ∙ closed_exact scope instr.End _ old last new middle left again end.out set' labels end.budget

-- values, one after another
pub next_value : (draw : Drawing) (wanted : List ValType) (place : ℕ) (d : ValType) (s t : State) → place < length wanted
    → draw.value (get_or wanted place d) s ≡ t → values_at draw (drop place wanted) s ≡ values_at draw (drop (place + 1) wanted) t
next_value draw wanted place d s t inside is =
    let first : drop place wanted ≡ get_or wanted place d ∷ drop (suc place) wanted = drop-cons wanted place d inside in
    let next : place + 1 ≡ suc place = omega arith in
    rw (first, next) (ap (λ (s : State). values_at draw (drop (suc place) wanted) s) is)

pub no_values : (draw : Drawing) (wanted : List ValType) (place : ℕ) (s : State) → length wanted ≤ place
    → values_at draw (drop place wanted) s ≡ s
no_values draw [] zero s past = refl
no_values draw [] (suc place) s past = refl
no_values draw (value ∷ wanted) zero s past = absurd (omega arith)
no_values draw (value ∷ wanted) (suc place) s past = no_values draw wanted place s (omega arith)

-- a statement
pub chosen_statement : (config : Config) (below : Drawing) (s : State) (node : Node) (left : List ℕ)
    → statement_choice_at config s.context s.bytes ≡ (node, left) → is_node_allowed s.context.features config node ≡ true
    → statement_at config below s ≡ node_at config below node (record s { bytes = left })
unfolding statement_at
chosen_statement config below s node left chosen allowed = rw (chosen, allowed) refl

pub forbidden_statement : (config : Config) (below : Drawing) (s : State) (node : Node) (left : List ℕ)
    → statement_choice_at config s.context s.bytes ≡ (node, left) → is_node_allowed s.context.features config node ≡ false
    → statement_at config below s ≡ record s { budget = s.budget - 1; bytes = left }
unfolding statement_at
forbidden_statement config below s node left chosen forbidden = rw (chosen, forbidden) refl

-- the remaining statements, at most one for each unit of the budget
pub record AreLeft (statement : State → State) (whole : Bool × State) (s : State) : Type 0 where
  pub most : ℕ
  pub few : s.budget ≤ most
  pub same : whole ≡ statements_within statement most s

pub all_left : (statement : State → State) (s : State) → AreLeft statement (statements_within statement s.budget s) s
all_left statement s = record { most = s.budget; few = omega arith; same = refl }

without_budget : (statement : State → State) (most : ℕ) (s : State) → s.budget ≡ 0 → statements_within statement most s ≡ (false, s)
without_budget statement zero s none = refl
without_budget statement (suc most) s none = let test : (s.budget == 0) ≡ true = ap (λ (n : ℕ). n == 0) none in rw test refl

pub none_left : (statement : State → State) (whole : Bool × State) (s : State) → s.budget ≡ 0 → AreLeft statement whole s
    → whole ≡ (false, s)
none_left statement whole s none all = all.same ∙ without_budget statement all.most s none

one_statement : (statement : State → State) (most number : ℕ) (s : State) (left : List ℕ) → 0 < s.budget → s.budget ≤ most
    → range_at 0 255 s.bytes ≡ (number, left) → 0 < number % interval (length s.context.labels) s.budget
    → statements_within statement most s ≡ statements_within statement (most - 1) (statement (record s { bytes = left }))
one_statement statement zero number s left paid few drawn more = absurd (omega arith)
one_statement statement (suc most) number s left paid few drawn more =
    let less : suc most - 1 ≡ most = omega arith in
    rw (less, not_zero s.budget paid, drawn, not_zero (number % interval (length s.context.labels) s.budget) more) refl

last_statement : (statement : State → State) (most number : ℕ) (s : State) (left : List ℕ) → 0 < s.budget → s.budget ≤ most
    → range_at 0 255 s.bytes ≡ (number, left) → number % interval (length s.context.labels) s.budget ≡ 0
    → statements_within statement most s ≡ (nat_le 248 number, record s { bytes = left })
last_statement statement zero number s left paid few drawn none = absurd (omega arith)
last_statement statement (suc most) number s left paid few drawn none =
    let test : (number % interval (length s.context.labels) s.budget == 0) ≡ true = ap (λ (n : ℕ). n == 0) none in
    rw (not_zero s.budget paid, drawn, test) refl

pub one_less : (statement : State → State) (whole : Bool × State) (s t : State) (number : ℕ) (left : List ℕ) → 0 < s.budget
    → range_at 0 255 s.bytes ≡ (number, left) → 0 < number % interval (length s.context.labels) s.budget
    → statement (record s { bytes = left }) ≡ t → t.budget < s.budget → AreLeft statement whole s → AreLeft statement whole t
one_less statement whole s t number left paid drawn more is less all =
    let few = all.few in
    record {
      most = all.most - 1;
      few = omega arith;
      same = all.same ∙ (one_statement statement all.most number s left paid all.few drawn more
          ∙ ap (λ (s : State). statements_within statement (all.most - 1) s) is);
    }

pub stopped : (statement : State → State) (whole : Bool × State) (s : State) (number : ℕ) (left : List ℕ) → 0 < s.budget
    → range_at 0 255 s.bytes ≡ (number, left) → number % interval (length s.context.labels) s.budget ≡ 0
    → AreLeft statement whole s → whole ≡ (nat_le 248 number, record s { bytes = left })
stopped statement whole s number left paid drawn none all = all.same ∙ last_statement statement all.most number s left paid all.few drawn
    none

-- the statements of a depth
pub last_statements : (config : Config) (depth : ℕ) (s : State) → depth ≡ 0 → (drawing_at config depth).statements s ≡ (false, s)
unfolding drawing_at
last_statements config zero s last = refl
last_statements config (suc depth) s last = absurd (omega arith)

pub deep_statements : (config : Config) (depth : ℕ) (s : State) → 0 < depth → (drawing_at config depth).statements s ≡ statements_within
    (statement_at config (drawing_at config (depth - 1))) s.budget s
unfolding drawing_at
deep_statements config zero s deep = absurd (omega arith)
deep_statements config (suc depth) s deep = let less : suc depth - 1 ≡ depth = omega arith in rw less refl

-- a body
pub body_exact : (config : Config) (context : BodyContext) (budget : ℕ) (bytes : List ℕ) (start rest : State) → 0 < budget
    → results_at (drawing_at config 40) context.results start ≡ rest → start ≡ begun context budget bytes
    → body_at config context budget bytes ≡ ended rest
unfolding body_at
body_exact config context budget bytes start rest some drawn begin =
    let whole : ended (results_at (drawing_at config 40) context.results (begun context budget bytes)) ≡ ended rest =
    ap (λ (s : State). ended (results_at (drawing_at config 40) context.results s)) (sym begin) ∙ ap (λ (s : State). ended s) drawn in
    rw (not_zero budget some) whole

pub body_stops : (config : Config) (context : BodyContext) (budget : ℕ) (bytes : List ℕ) → budget ≡ 0 → body_at config context budget bytes
    ≡ (instr.Unreachable ∷ [], bytes)
unfolding body_at
body_stops config context budget bytes none = let test : (budget == 0) ≡ true = ap (λ (n : ℕ). n == 0) none in rw test refl
