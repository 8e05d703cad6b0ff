-- Blocks that catch exceptions, and their clauses.
use Rattle.smith_body_control.proofs.Common.{[], All, All-push, ap, append-nil, AreDrawnSoFar, AreValid, arith, below_themselves}
use Rattle.smith_body_control.proofs.Common.{BodyContext, both, false, func_wide, FuncType, indexed, IsCatch, IsFuncAt, IsNode, IsTaken}
use Rattle.smith_body_control.proofs.Common.{IsValBelow-refl, IsValid, label_count, length, List, no_valid, None, one_valid, Option}
use Rattle.smith_body_control.proofs.Common.{range_at, refl, slice_get, Some, three_wide, true, ValType, ℕ, ◌++◌, ◌+◌, ◌<◌, ◌∙◌, ◌∷◌, ◌≡◌}
use Rattle.smith_body_control.proofs.Common.{◌≤◌}
use Rattle.std.specs.Prelude.{IfSome, IsTrue, option_map, option_to_list, ◌&&◌}
use Rattle.std.proofs.Common.{Bool, subst}
use Rattle.smith_bytes.specs.Draws.{bool_at, choose_at}
use Rattle.smith_types.specs.Expressions.{reference_to}
use Rattle.smith_types.specs.Syntax.Features.{Features}
use Rattle.smith_instr.specs.Contexts.{AreBelow, IsBlockType}
use Rattle.smith_instr.specs.declared.control.BlockType.{BlockType}
use Rattle.smith_instr.specs.declared.control.BlockType.TheVariants as block
use Rattle.smith_instr.specs.declared.control.Catch.{Catch}
use Rattle.smith_body_nodes.specs.Nodes.{AreSidesValid, trying}
use Rattle.smith_body_nodes.specs.Offered.{func_in, is_target, offered}
use Rattle.smith_body_nodes.proofs.RepeatLemmas.{all_turns, one_turn}
use Rattle.smith_body_control.specs.ThrowChoices.{exn, refers_to_exceptions, tag_at, tag_type_at}
use Rattle.smith_body_control.specs.TryChoices.{IsCaught, any_try_at, any_try_node, passed_values, clause_at, clause_of, clause_to}
use Rattle.smith_body_control.specs.TryChoices.{clauses_at, referenced_at, refers_to_caught, some_clauses_at, tagged_by, tagged_clause_at}
use Rattle.smith_body_control.specs.TryChoices.{tagged_to, try_at}

-- the values that a clause passes to its label are valid
pub passed_values_valid : (context : BodyContext) (values : List ValType) (referenced : Bool) → AreValid context values
    → (IsTrue referenced → IsTrue (refers_to_caught context.features)) → AreValid context (passed_values values referenced)
passed_values_valid context values false valid possible = valid
passed_values_valid context values true valid possible =
    let (refers, not_null) = both (refers_to_exceptions context.features) context.features.function_references (possible refl) in
    let (on, exceptions) = both context.features.reference_types context.features.exceptions refers in
    All-push (IsValid context) values (reference_to exn) valid (on, record { heap_type = (exceptions, λ h. cc); nullable = λ h. not_null })

pub clause_fits : (context : BodyContext) (tag : Option ℕ) (referenced : Bool) (values : List ValType) (label : ℕ)
    → IsCaught context tag values → IsTaken context (passed_values values referenced) label
    → IsCatch context (clause_of tag referenced label)
clause_fits context (Some tag) false values label caught taken = (values, caught, taken)
clause_fits context (Some tag) true values label caught taken = (values, caught, taken)
clause_fits context None false values label caught taken =
    subst (λ (values : List ValType). IsTaken context (passed_values values false) label) caught taken
clause_fits context None true values label caught taken =
    subst (λ (values : List ValType). IsTaken context (passed_values values true) label) caught taken

pub clause_added : (context : BodyContext) (clauses : List Catch) (clause : Option Catch) → All (IsCatch context) clauses
    → IfSome clause (IsCatch context) → All (IsCatch context) (clauses ++ option_to_list clause)
clause_added context clauses (Some clause) all fits = All-push (IsCatch context) clauses clause all fits
clause_added context clauses None all fits = rw (append-nil clauses) all

-- clauses that are chosen
pub referenced_by : (features : Features) (bytes left : List ℕ) (wanted : Bool) → bool_at bytes ≡ (wanted, left)
    → referenced_at features bytes ≡ (wanted && refers_to_caught features, left)
unfolding referenced_at
referenced_by features bytes left wanted drawn = rw drawn refl

pub clause_to_by : (context : BodyContext) (tag : Option ℕ) (referenced : Bool) (values : List ValType) (bytes left : List ℕ)
    (label : Option ℕ)
    → choose_at (offered (is_target context.types context.labels (passed_values values referenced)) (label_count context)) bytes
    ≡ (label, left) → clause_to context tag referenced values bytes ≡ (option_map (clause_of tag referenced) label, left)
clause_to_by context tag referenced values bytes left label drawn =
    ap (λ (label : Option ℕ × List ℕ). (option_map (clause_of tag referenced) label.0, label.1)) drawn

pub clause_untagged : (context : BodyContext) (bytes middle left : List ℕ) (referenced : Bool) → bool_at bytes ≡ (false, middle)
    → referenced_at context.features middle ≡ (referenced, left) → clause_at context bytes ≡ clause_to context None referenced [] left
unfolding clause_at
clause_untagged context bytes middle left referenced drawn drawn' = rw (drawn, drawn') refl

pub clause_by_tag : (context : BodyContext) (bytes middle left : List ℕ) (referenced : Bool) → bool_at bytes ≡ (true, middle)
    → referenced_at context.features middle ≡ (referenced, left) → clause_at context bytes ≡ tagged_clause_at context referenced left
unfolding clause_at
clause_by_tag context bytes middle left referenced drawn drawn' = rw (drawn, drawn') refl

pub tagless_clause : (context : BodyContext) (referenced : Bool) (bytes left : List ℕ) → tag_at context.tags bytes ≡ (None, left)
    → tagged_clause_at context referenced bytes ≡ (None, left)
unfolding tagged_clause_at
tagless_clause context referenced bytes left drawn = ap (λ (tag : Option ℕ × List ℕ). tagged_by context referenced tag.0 tag.1) drawn

pub tagged_clause : (context : BodyContext) (referenced : Bool) (bytes left : List ℕ) (tag : ℕ) (o : Option FuncType)
    → tag_at context.tags bytes ≡ (Some tag, left) → tag_type_at context tag ≡ o → tagged_clause_at context referenced bytes
    ≡ tagged_to context referenced tag o left
unfolding tagged_clause_at
tagged_clause context referenced bytes left tag o drawn at =
    ap (λ (tag : Option ℕ × List ℕ). tagged_by context referenced tag.0 tag.1) drawn
    ∙ ap (λ (o : Option FuncType). tagged_to context referenced tag o left) at

-- clauses, one after another
pub clauses_more : (context : BodyContext) (count turns : ℕ) (start bytes left : List ℕ) (clauses : List Catch) (clause : Option Catch)
    → turns < count → clause_at context bytes ≡ (clause, left)
    → AreDrawnSoFar (clauses_at context) count start turns clauses bytes → AreDrawnSoFar (clauses_at context) count start (turns + 1)
    (clauses ++ option_to_list clause) left
unfolding clauses_at
clauses_more context count turns start bytes left clauses clause more drawn so_far = one_turn (clauses_at context) count turns start bytes
    left clauses (option_to_list clause) more (λ n. rw drawn refl) so_far

pub clauses_all : (context : BodyContext) (count turns : ℕ) (start bytes : List ℕ) (clauses : List Catch) → count ≤ turns
    → AreDrawnSoFar (clauses_at context) count start turns clauses bytes → clauses_at context count start ≡ (clauses, bytes)
unfolding clauses_at
clauses_all context count turns start bytes clauses all so_far = all_turns (clauses_at context) count turns start bytes clauses all refl
    so_far

pub clauses_by : (context : BodyContext) (bytes start left : List ℕ) (count : ℕ) (clauses : List Catch)
    → range_at 0 3 bytes ≡ (count, start) → clauses_at context count start ≡ (clauses, left) → some_clauses_at context bytes
    ≡ (clauses, left)
clauses_by context bytes start left count clauses drawn is = ap (λ (r : ℕ × List ℕ). clauses_at context r.0 r.1) drawn ∙ is

-- the blocks
try_node : (context : BodyContext) (set : List ℕ) (values dropped : List ValType) (ty : BlockType) (clauses : List Catch)
    (params results : List ValType) → IsBlockType context ty params results → All (IsCatch context) clauses
    → AreBelow context results (values ++ dropped)
    → AreValid context values → AreValid context dropped → AreSidesValid context.features context.types
    (record { params = params; results = results }) → length dropped ≤ length results
    → IsNode context set values (trying ty clauses params results (length dropped))
try_node context set values dropped ty clauses params results fits caught below given spare valid less = record {
  results = results;
  dropped = dropped;
  typed = λ more. (fits, caught, refl, refl);
  below = below;
  given = given;
  spare = spare;
  drops = refl;
  sets_local = refl;
  few = let few = valid.few in omega arith;
  valid = valid.params;
  inside = valid;
}

pub value_try : (context : BodyContext) (set : List ℕ) (clauses : List Catch) (wanted : ValType) → All (IsCatch context) clauses
    → IsValid context wanted → IsNode context set (wanted ∷ []) (trying (block.Value wanted) clauses [] (wanted ∷ []) 0)
value_try context set clauses wanted caught valid =
    let one = one_valid context wanted valid in
    try_node context set (wanted ∷ []) [] (block.Value wanted) clauses [] (wanted ∷ []) (valid, refl, refl) caught
    (IsValBelow-refl context.types wanted, tt) one (no_valid context)
    (record { params = no_valid context; results = one; few = let wide = three_wide context.types in omega arith }) (omega arith)

pub empty_try : (context : BodyContext) (set : List ℕ) (clauses : List Catch) → All (IsCatch context) clauses
    → IsNode context set [] (trying block.Empty clauses [] [] 0)
empty_try context set clauses caught =
    let none = no_valid context in
    try_node context set [] [] block.Empty clauses [] [] (refl, refl) caught tt none none
    (record { params = none; results = none; few = omega arith }) (omega arith)

pub func_try : (context : BodyContext) (set : List ℕ) (clauses : List Catch) (index : ℕ) (function : FuncType)
    → All (IsCatch context) clauses → IsFuncAt context.types index function → AreValid context function.params
    → AreValid context function.results
    → IsNode context set [] (trying (block.Func index) clauses function.params function.results (length function.results))
func_try context set clauses index function caught there params results =
    try_node context set [] function.results (block.Func index) clauses function.params function.results (function, there, refl, refl)
    caught (below_themselves context.types function.results) (no_valid context) results
    (record { params = params; results = results; few = func_wide context.types index function there }) (omega arith)

pub try_by : (context : BodyContext) (wanted : ValType) (bytes left : List ℕ) (clauses : List Catch) → some_clauses_at context bytes
    ≡ (clauses, left) → try_at context wanted bytes ≡ (Some (trying (block.Value wanted) clauses [] (wanted ∷ []) 0), left)
unfolding try_at
try_by context wanted bytes left clauses drawn =
    ap (λ (clauses : List Catch × List ℕ). (Some (trying (block.Value wanted) clauses.0 [] (wanted ∷ []) 0), clauses.1)) drawn

pub any_try_by : (context : BodyContext) (bytes middle left : List ℕ) (clauses : List Catch) (index : ℕ) (o : Option FuncType)
    → some_clauses_at context bytes ≡ (clauses, middle) → range_at 0 (indexed (length context.types)) middle ≡ (index, left)
    → func_in (slice_get context.types index) ≡ o → any_try_at context bytes ≡ (Some (any_try_node clauses index o), left)
unfolding any_try_at
any_try_by context bytes middle left clauses index o drawn drawn' at =
    ap (λ (clauses : List Catch × List ℕ). let index = range_at 0 (indexed (length context.types)) clauses.1 in
    (Some (any_try_node clauses.0 index.0 (func_in (slice_get context.types index.0))), index.1)) drawn
    ∙ (ap (λ (index : ℕ × List ℕ). (Some (any_try_node clauses index.0 (func_in (slice_get context.types index.0))), index.1)) drawn'
    ∙ ap (λ (o : Option FuncType). (Some (any_try_node clauses index o), left)) at)
