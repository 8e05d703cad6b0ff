-- The chosen node, by the drawn places.
use Rattle.std.specs.Prelude.{slice_get, slice_index_or, option_map}
use Rattle.smith_body_choices.proofs.Common.{ap, arith, Some, ◌∙◌, ◌≡◌}
use Rattle.std.proofs.Common.{[], false, get_or, length, List, None, Option, refl, suc, true, zero, ℕ, ◌+◌, ◌-◌, ◌<◌, ◌∷◌, ◌≤◌}
use Rattle.std.proofs.lemmas.Bool.{ne_eqb}
use Rattle.std.proofs.lemmas.Option.{slice_get-get_or, slice_get_past}
use Rattle.smith_bytes.specs.Draws.{choose_at, range_at}
use Rattle.smith_types.specs.Syntax.value_type.ValType.{ValType}
use Rattle.smith_types.specs.Syntax.value_type.ValType.TheVariants.{I32}
use Rattle.smith_types.specs.Syntax.composite_type.FuncType.{FuncType}
use Rattle.smith_types.specs.Syntax.entity_type.GlobalType.{GlobalType}
use Rattle.smith_config.specs.declared.config.Config.{Config}
use Rattle.smith_draw_types.specs.Choices.{chosen_at}
use Rattle.smith_instr.specs.Contexts.{BodyContext}
use Rattle.smith_instr.specs.declared.instr.Instr.TheVariants as instr
use Rattle.smith_body_control.specs.BlockChoices.{block_at}
use Rattle.smith_body_control.specs.CallChoices.{called_at}
use Rattle.smith_body_nodes.specs.Chosen.{or_nop, giving}
use Rattle.smith_body_nodes.specs.Items.{index_at}
use Rattle.smith_body_nodes.specs.Nodes.{is_node_allowed, node_of, setting}
use Rattle.smith_body_nodes.specs.Offered.{chunk_at, function_at, is_callable, is_local_below, is_mutable, offered}
use Rattle.smith_body_nodes.specs.Scopes.{indexed}
use Rattle.smith_body_nodes.specs.declared.node.Node.{Node}
use Rattle.smith_body_nodes.proofs.ChosenLemmas.{same_item, chosen_by, no_count, no_index}
use Rattle.smith_body_nodes.proofs.ItemLemmas.{given_none, given_some}
use Rattle.smith_body_choices.specs.Choices.{allowed_choice_at, any_call_at, any_call_node, any_statement_at, is_kept, call_at, call_node}
use Rattle.smith_body_choices.specs.Choices.{drop_at, dropped_at, dropped_types, ending_choice_at, ending_families, ending_of}
use Rattle.smith_body_choices.specs.Choices.{ending_value_at, global_set_at, global_set_node, set_at, set_node, statement_choice_at}
use Rattle.smith_body_choices.specs.Choices.{statement_families, statement_of, tee_at, tee_node, value_choice_at, value_families, value_of}
use Rattle.smith_body_choices.specs.declared.families.EndingFamily.{EndingFamily}
use Rattle.smith_body_choices.specs.declared.families.EndingFamily.TheVariants as ending
use Rattle.smith_body_choices.specs.declared.families.StatementFamily.{StatementFamily}
use Rattle.smith_body_choices.specs.declared.families.StatementFamily.TheVariants as statement
use Rattle.smith_body_choices.specs.declared.families.ValueFamily.{ValueFamily}
use Rattle.smith_body_choices.specs.declared.families.ValueFamily.TheVariants as value

-- a local that is set and read again
pub tee_none : (context : BodyContext) (wanted : ValType) (bytes left : List ℕ)
    → choose_at (offered (is_local_below context wanted) (indexed (length context.locals))) bytes ≡ (None, left)
    → tee_at context wanted bytes ≡ (None, left)
unfolding tee_at
tee_none context wanted bytes left drawn = ap (λ (drawn : Option ℕ × List ℕ). giving (tee_node context) drawn) drawn

pub tee_there : (context : BodyContext) (wanted : ValType) (bytes left : List ℕ) (index : ℕ) (d : ValType)
    → choose_at (offered (is_local_below context wanted) (indexed (length context.locals))) bytes ≡ (Some index, left)
    → index < length context.locals
    → tee_at context wanted bytes ≡ (Some (setting index (get_or context.locals index d) (instr.LocalTee index)), left)
unfolding tee_at
tee_there context wanted bytes left index d drawn inside =
    ap (λ (drawn : Option ℕ × List ℕ). giving (tee_node context) drawn) drawn
    ∙ ap (λ (o : Option ValType). (option_map (λ value. setting index value (instr.LocalTee index)) o, left))
    (slice_get-get_or context.locals index d inside)

-- a function that is called for a value
pub call_none : (context : BodyContext) (wanted : ValType) (bytes left : List ℕ)
    → called_at context (chunk_at (is_callable context wanted) (indexed (length context.funcs))) bytes ≡ (None, left)
    → call_at context wanted bytes ≡ (None, left)
unfolding call_at
call_none context wanted bytes left drawn = given_none (call_node context) _ left drawn

pub call_there : (context : BodyContext) (wanted : ValType) (bytes left : List ℕ) (index : ℕ) (function : FuncType)
    → called_at context (chunk_at (is_callable context wanted) (indexed (length context.funcs))) bytes ≡ (Some index, left)
    → function_at context index ≡ Some function
    → call_at context wanted bytes ≡ (Some (node_of function.params (instr.Call index) (length function.results - 1)), left)
unfolding call_at
call_there context wanted bytes left index function drawn at =
    given_some (call_node context) _ left index _ drawn
    (ap (option_map (λ (function : FuncType). node_of function.params (instr.Call index) (length function.results - 1))) at)

-- a function whose results are dropped
pub any_call_none : (context : BodyContext) (bytes left : List ℕ) → called_at context (index_at (length context.funcs)) bytes ≡ (None, left)
    → any_call_at context bytes ≡ (None, left)
unfolding any_call_at
any_call_none context bytes left drawn = given_none (any_call_node context) _ left drawn

pub any_call_by : (context : BodyContext) (bytes left : List ℕ) (index : ℕ) (function : Option FuncType)
    → called_at context (index_at (length context.funcs)) bytes ≡ (Some index, left) → function_at context index ≡ function
    → any_call_at context bytes
    ≡ (option_map (λ (function : FuncType). node_of function.params (instr.Call index) (length function.results)) function, left)
unfolding any_call_at
any_call_by context bytes left index function drawn at =
    given_some (any_call_node context) _ left index _ drawn
    (ap (option_map (λ (function : FuncType). node_of function.params (instr.Call index) (length function.results))) at)

-- a local that is set
pub set_none : (context : BodyContext) (bytes : List ℕ) → indexed (length context.locals) ≡ 0 → set_at context bytes ≡ (None, bytes)
unfolding set_at
set_none context bytes none =
    let past : slice_get context.locals 0 ≡ None = slice_get_past context.locals 0 (no_count (length context.locals) none) in
    rw (no_index (length context.locals) bytes none, past) refl

pub set_there : (context : BodyContext) (bytes left : List ℕ) (index : ℕ) (d : ValType) → range_at 0 (indexed (length context.locals) - 1)
    bytes ≡ (index, left) → index < length context.locals
    → set_at context bytes ≡ (Some (setting index (get_or context.locals index d) (instr.LocalSet index)), left)
unfolding set_at
set_there context bytes left index d drawn inside =
    ap (λ (r : ℕ × List ℕ). (set_node context r.0, r.1)) drawn
    ∙ ap (λ (o : Option ValType). (option_map (λ value. setting index value (instr.LocalSet index)) o, left))
    (slice_get-get_or context.locals index d inside)

-- a global that is set
pub global_set_none : (context : BodyContext) (bytes left : List ℕ) → chunk_at (is_mutable context) (indexed (length context.globals)) bytes
    ≡ (None, left) → global_set_at context bytes ≡ (None, left)
unfolding global_set_at
global_set_none context bytes left drawn = ap (λ (drawn : Option ℕ × List ℕ). giving (global_set_node context) drawn) drawn

pub global_set_there : (context : BodyContext) (bytes left : List ℕ) (index : ℕ) (d : GlobalType)
    → chunk_at (is_mutable context) (indexed (length context.globals)) bytes ≡ (Some index, left) → index < length context.globals
    → global_set_at context bytes ≡ (Some (node_of ((get_or context.globals index d).val_type ∷ []) (instr.GlobalSet index) 0), left)
unfolding global_set_at
global_set_there context bytes left index d drawn inside =
    ap (λ (drawn : Option ℕ × List ℕ). giving (global_set_node context) drawn) drawn
    ∙ ap (λ (o : Option GlobalType). (
      option_map (λ (global : GlobalType). node_of (global.val_type ∷ []) (instr.GlobalSet index) 0) o,
      left,
    )) (slice_get-get_or context.globals index d inside)

-- a value that is dropped
pub dropped_by : (config : Config) (locals : List ValType) (bytes left : List ℕ) (place : ℕ) (value : ValType)
    → range_at 0 (length locals + 3) bytes ≡ (place, left) → slice_index_or (dropped_types config locals) place I32 ≡ value
    → dropped_at config locals bytes ≡ (value, left)
unfolding dropped_at chosen_at
dropped_by config locals bytes left place value drawn is =
    let count : length (dropped_types config locals) - 1 ≡ length locals + 3 = omega arith in
    let drawn' : range_at 0 (length (dropped_types config locals) - 1) bytes ≡ (place, left) = ap (λ (n : ℕ). range_at 0 n bytes) count
    ∙ drawn in
    rw (drawn', is) refl

pub dropped_local : (config : Config) (locals : List ValType) (place : ℕ) (d : ValType) → 4 ≤ place → place - 4 < length locals
    → slice_index_or (dropped_types config locals) place I32 ≡ get_or locals (place - 4) d
dropped_local config locals zero d above inside = absurd (omega arith)
dropped_local config locals (suc zero) d above inside = absurd (omega arith)
dropped_local config locals (suc (suc zero)) d above inside = absurd (omega arith)
dropped_local config locals (suc (suc (suc zero))) d above inside = absurd (omega arith)
dropped_local config locals (suc (suc (suc (suc k)))) d above inside =
    let same : suc (suc (suc (suc k))) - 4 ≡ k = omega arith in
    let inside' : k < length locals = rw same at inside in
    rw same (same_item locals k I32 d inside')

pub drop_by : (config : Config) (context : BodyContext) (bytes left : List ℕ) (value : ValType) → dropped_at config context.locals bytes
    ≡ (value, left) → drop_at config context bytes ≡ (Some (node_of (value ∷ []) instr.Drop 0), left)
unfolding drop_at
drop_by config context bytes left value drawn = ap (λ (d : ValType × List ℕ). (Some (node_of (d.0 ∷ []) instr.Drop 0), d.1)) drawn

pub value_by : (config : Config) (context : BodyContext) (wanted : ValType) (bytes left : List ℕ) (families : List ValueFamily)
    (drawn_family family : ValueFamily) → families ≡ value_families wanted → chosen_at value.Leaf families bytes ≡ (drawn_family, left)
    → drawn_family ≡ family
    → value_choice_at config context wanted bytes ≡ value_of config context wanted family left
unfolding value_choice_at
value_by config context wanted bytes left families drawn_family family are drawn is = chosen_by (value_of config context wanted) value.Leaf
    (value_families wanted) families bytes left drawn_family family are drawn is

pub statement_by : (config : Config) (context : BodyContext) (bytes left : List ℕ) (families : List StatementFamily)
    (drawn_family family : StatementFamily) → families ≡ statement_families → chosen_at statement.Nop families bytes ≡ (drawn_family, left)
    → drawn_family ≡ family
    → any_statement_at config context bytes ≡ or_nop (statement_of config context family left)
unfolding any_statement_at
statement_by config context bytes left families drawn_family family are drawn is =
    chosen_by (λ family bytes. or_nop (statement_of config context family bytes)) statement.Nop statement_families families bytes left
    drawn_family family are drawn is

-- a statement that is chosen once, or twice
pub chosen_once : (config : Config) (context : BodyContext) (bytes left : List ℕ) (node : Node) → any_statement_at config context bytes
    ≡ (node, left) → is_kept context.features config node ≡ true
    → statement_choice_at config context bytes ≡ (node, left)
unfolding statement_choice_at
chosen_once config context bytes left node drawn kept = rw (drawn, kept) refl

pub chosen_twice : (config : Config) (context : BodyContext) (bytes left : List ℕ) (node : Node) → any_statement_at config context bytes
    ≡ (node, left) → is_kept context.features config node ≡ false
    → statement_choice_at config context bytes ≡ any_statement_at config context left
unfolding statement_choice_at
chosen_twice config context bytes left node drawn refused = rw (drawn, refused) refl

-- an instruction after which nothing is reached, by its drawn family, and in place of a value
pub ending_by : (context : BodyContext) (bytes left : List ℕ) (families : List EndingFamily) (drawn_family family : EndingFamily)
    → families ≡ ending_families → chosen_at ending.Leaving families bytes ≡ (drawn_family, left) → drawn_family ≡ family
    → ending_choice_at context bytes ≡ ending_of context family left
unfolding ending_choice_at
ending_by context bytes left families drawn_family family are drawn is = chosen_by (ending_of context) ending.Leaving ending_families
    families bytes left drawn_family family are drawn is

pub ending_value_block : (context : BodyContext) (wanted : ValType) (bytes left : List ℕ) (number : ℕ) → range_at 0 7 bytes ≡ (number, left)
    → number < 7 → ending_value_at context wanted bytes ≡ block_at wanted left
unfolding ending_value_at
ending_value_block context wanted bytes left number drawn less = rw (drawn, ne_eqb number 7 (λ same. absurd (omega arith))) refl

pub ending_value_ends : (context : BodyContext) (wanted : ValType) (bytes left : List ℕ) → range_at 0 7 bytes ≡ (7, left)
    → ending_value_at context wanted bytes ≡ ending_choice_at context left
unfolding ending_value_at
ending_value_ends context wanted bytes left drawn = rw drawn refl

-- the chosen node is allowed, or there is none
pub allowed_node : (config : Config) (context : BodyContext) (wanted : ValType) (bytes left : List ℕ) (node : Node)
    → value_choice_at config context wanted bytes ≡ (Some node, left) → is_node_allowed context.features config node ≡ true
    → allowed_choice_at config context wanted bytes ≡ (Some node, left)
unfolding allowed_choice_at
allowed_node config context wanted bytes left node drawn allowed = rw (drawn, allowed) refl

pub forbidden_node : (config : Config) (context : BodyContext) (wanted : ValType) (bytes left : List ℕ) (node : Node)
    → value_choice_at config context wanted bytes ≡ (Some node, left) → is_node_allowed context.features config node ≡ false
    → allowed_choice_at config context wanted bytes ≡ (None, left)
unfolding allowed_choice_at
forbidden_node config context wanted bytes left node drawn forbidden = rw (drawn, forbidden) refl

pub allowed_none : (config : Config) (context : BodyContext) (wanted : ValType) (bytes left : List ℕ)
    → value_choice_at config context wanted bytes ≡ (None, left) → allowed_choice_at config context wanted bytes ≡ (None, left)
unfolding allowed_choice_at
allowed_none config context wanted bytes left drawn = rw drawn refl
