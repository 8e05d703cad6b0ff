-- Nodes: chosen instructions, with the operands that are drawn before them.
use Rattle.std.specs.Prelude.{◌≡◌, ℕ, ◌+◌, ◌*◌, ◌≤◌, ◌<◌, ◌==◌, ◌&&◌, ◌||◌, Bool, Option, Some, None, Result, IfOk, IfSome, List, [], ◌∷◌}
use Rattle.std.specs.Prelude.{◌++◌, length, option_to_list, All, if◌then◌else◌}
use Rattle.std.specs.Cmp.Lexicographic.{pointwise}
use Rattle.smith_bytes.specs.declared.error.Error.{Error}
use Rattle.smith_body_nodes.specs.Common.{AreValid, BodyContext, Config, Features, I32, Instr, SubType, ValType}
use Rattle.smith_types.specs.ValidTypes.{IsValTypeValid}
use Rattle.smith_syntax.specs.contracts.value_type.ValTypePartialEq.TheImpl.{ghosts as val_same}
use Rattle.smith_instr.specs.Contexts.{AreBelow, IsBlockType}
use Rattle.smith_instr.specs.InstrTypes.{sets, HasInstrType, IsCatch}
use Rattle.smith_instr.specs.declared.aggregate.AggregateInstr.{AggregateInstr}
use Rattle.smith_instr.specs.declared.control.BlockType.{BlockType}
use Rattle.smith_instr.specs.declared.control.Catch.{Catch}
use Rattle.smith_instr.specs.declared.instr.Instr.TheVariants as instr
use Rattle.smith_body_nodes.specs.Scopes.{is_permitted, widest, IsAllowedIn}
use Rattle.smith_body_nodes.specs.declared.node.Head.{Head}
use Rattle.smith_body_nodes.specs.declared.node.Head.TheVariants as head
use Rattle.smith_body_nodes.specs.declared.node.Node.{Node}
use Rattle.smith_body_nodes.specs.declared.node.Opening.{Opening}
use Rattle.smith_body_nodes.specs.declared.node.Opening.TheVariants as opening
use Rattle.smith_body_nodes.specs.declared.node.Sides.{Sides}
use Rattle.smith_body_nodes.specs.declared.scope.Scope.{Scope}

-- the instruction that opens a block, and the types of the operands of a branch to its label
abbrev pub opened : Opening → BlockType → Instr
opened opening.Block ty = instr.Block ty
opened opening.Loop ty = instr.Loop ty
opened opening.IfAlone ty = instr.If ty

abbrev pub label_of : Opening → List ValType → List ValType → List ValType
label_of opening.Block params results = results
label_of opening.Loop params results = params
label_of opening.IfAlone params results = results

-- the types of the operands of a block: an `if` takes a number above its parameters
abbrev pub taken_by : Opening → List ValType → List ValType
taken_by opening.Block params = params
taken_by opening.Loop params = params
taken_by opening.IfAlone params = params ++ I32 ∷ []

-- a block of these types may be opened in this way: an `if` without `else` leaves the values that
-- it took (Validation, Control Instructions, if, whose `else` is then empty; own rule that the
-- types are the same)
abbrev pub MayOpen : Opening → List ValType → List ValType → Type 0
MayOpen opening.IfAlone params results = params ≡ results
MayOpen _ params results = Unit {0}

-- the opening of a block, if the block may have it; else an `if` with its `else`
abbrev pub fitting : Option Opening → List ValType → List ValType → Option Opening
fitting (Some opening.IfAlone) params results = if pointwise val_same.eq params results then Some opening.IfAlone else None
fitting opening params results = opening

-- the instructions of a node after its operands have the type [operands] → [results], if these
-- locals are set
abbrev pub HasHeadType : BodyContext → List ℕ → Head → List ValType → List ValType → Type 0
HasHeadType context set (head.Plain instruction) operands results = HasInstrType context set instruction operands results
HasHeadType context set (head.Enclosed opening ty sides) operands results =
    IsBlockType context ty sides.params sides.results × MayOpen opening sides.params sides.results
    × (operands ≡ taken_by opening sides.params) × (results ≡ sides.results)
HasHeadType context set (head.If ty sides) operands results =
    IsBlockType context ty sides.params sides.results × (operands ≡ sides.params ++ I32 ∷ []) × (results ≡ sides.results)
HasHeadType context set (head.Try ty clauses sides) operands results =
    IsBlockType context ty sides.params sides.results × All (IsCatch context) clauses × (operands ≡ sides.params)
    × (results ≡ sides.results)

-- the parameters and results of a block are valid, and not more than those of a function
pub record AreSidesValid (features : Features) (types : List SubType) (sides : Sides) : Type 0 where
  pub params : All (IsValTypeValid features (length types)) sides.params
  pub results : All (IsValTypeValid features (length types)) sides.results
  pub few : length sides.params + length sides.results ≤ widest types

-- the parameters and results of the block of a node, if it has one
abbrev pub IsHeadValid : Features → List SubType → Head → Type 0
IsHeadValid features types (head.Plain instruction) = Unit {0}
IsHeadValid features types (head.Enclosed opening ty sides) = AreSidesValid features types sides
IsHeadValid features types (head.If ty sides) = AreSidesValid features types sides
IsHeadValid features types (head.Try ty clauses sides) = AreSidesValid features types sides

-- the greatest number of instructions of a block, except those drawn inside it
abbrev pub block_cost : List SubType → ℕ
block_cost types = 2 * widest types + 3

-- the locals that the instructions after the operands set
abbrev pub head_sets : Head → List ℕ
head_sets (head.Plain instruction) = sets instruction
head_sets _ = []

-- the first instruction after the operands
abbrev pub head_instruction : Head → Instr
head_instruction (head.Plain instruction) = instruction
head_instruction (head.Enclosed opening ty sides) = opened opening ty
head_instruction (head.If ty sides) = instr.If ty
head_instruction (head.Try ty clauses sides) = instr.TryTable ty clauses

-- the parameters of the block, which are dropped in it
abbrev pub head_params : Head → List ValType
head_params (head.Plain instruction) = []
head_params (head.Enclosed opening ty sides) = sides.params
head_params (head.If ty sides) = sides.params
head_params (head.Try ty clauses sides) = sides.params

-- the instructions of a head may be used, including `drop` if it drops anything
pub record IsHeadAllowed (scope : Scope) (head : Head) : Type 0 where
  pub instruction : IsAllowedIn scope (head_instruction head)
  pub drops : 0 < length (head_params head) → IsAllowedIn scope instr.Drop

-- the instructions of a node may be used, including `drop` if it drops anything
pub record IsNodeAllowed (scope : Scope) (node : Node) : Type 0 where
  pub head : IsHeadAllowed scope node.head
  pub drops : 0 < node.drops → IsAllowedIn scope instr.Drop

-- whether `count` values may be dropped
abbrev pub is_drop_allowed : Features → Config → ℕ → Bool
is_drop_allowed features config count = (count == 0) || is_permitted features config instr.Drop

-- whether the instructions of a node may be used, except its operands: including `drop` if it drops
-- anything
abbrev pub is_head_allowed : Features → Config → Head → Bool
is_head_allowed features config head = is_permitted features config (head_instruction head) && is_drop_allowed features config
    (length (head_params head))

abbrev pub is_node_allowed : Features → Config → Node → Bool
is_node_allowed features config node = is_head_allowed features config node.head && is_drop_allowed features config node.drops

-- a node gives values of these types, and above them some that are dropped, if at least these
-- locals are set
pub record IsNode (context : BodyContext) (set : List ℕ) (values : List ValType) (node : Node) : Type 0 where
  pub results : List ValType
  pub dropped : List ValType
  pub typed : (more : List ℕ) → HasHeadType context (set ++ more) node.head node.operands results
  pub below : AreBelow context results (values ++ dropped)
  pub given : AreValid context values
  pub spare : AreValid context dropped
  pub drops : length dropped ≡ node.drops
  pub sets_local : head_sets node.head ≡ option_to_list node.sets
  pub few : length node.operands + node.drops ≤ 2 * widest context.types + 1
  pub valid : AreValid context node.operands
  pub inside : IsHeadValid context.features context.types node.head

-- the chosen node, if any, gives values of these types
abbrev pub IsOffer : BodyContext → List ℕ → List ValType → Result (Option Node) Error → Type 0
IsOffer context set values result = IfOk result (λ chosen. IfSome chosen (IsNode context set values))

-- a node of an instruction, some of whose results are dropped
abbrev pub node_of : List ValType → Instr → ℕ → Node
node_of operands instruction drops = record { operands = operands; head = head.Plain instruction; sets = None; drops = drops }

-- a node of an aggregate instruction
abbrev pub aggregate_of : List ValType → AggregateInstr → Node
aggregate_of operands op = node_of operands (instr.Aggregate op) 0

-- a node that sets a local
abbrev pub setting : ℕ → ValType → Instr → Node
setting index value instruction = record { operands = value ∷ []; head = head.Plain instruction; sets = Some index; drops = 0 }

-- a node of a block with these parameters and results, some of which are dropped; without an
-- opening, an `if` with `else`
abbrev pub opened_by : Option Opening → BlockType → Sides → ℕ → Node
opened_by (Some opening) ty sides drops =
    record { operands = taken_by opening sides.params; head = head.Enclosed opening ty sides; sets = None; drops = drops }
opened_by None ty sides drops = record { operands = sides.params ++ I32 ∷ []; head = head.If ty sides; sets = None; drops = drops }

abbrev pub blocked : Option Opening → BlockType → List ValType → List ValType → ℕ → Node
blocked opening ty params results drops = opened_by (fitting opening params results) ty (record { params = params; results = results })
    drops

-- a node of a `try_table` with these clauses, parameters and results, some of which are dropped
abbrev pub trying : BlockType → List Catch → List ValType → List ValType → ℕ → Node
trying ty clauses params results drops =
    record { operands = params; head = head.Try ty clauses (record { params = params; results = results }); sets = None; drops = drops }
