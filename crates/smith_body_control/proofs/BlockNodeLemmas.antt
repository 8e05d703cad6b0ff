-- Blocks leave the values of their types.
use Rattle.std.specs.Prelude.{IfSome, if◌then◌else◌}
use Rattle.std.specs.Cmp.Lexicographic.{pointwise}
use Rattle.smith_body_control.proofs.Common.{[], All-push, AreValid, arith, below_themselves, BodyContext, false, func_wide, FuncType, I32}
use Rattle.smith_body_control.proofs.Common.{IsFuncAt, IsNode, IsValBelow-refl, IsValid, length, List, no_valid, None, one_valid, Option}
use Rattle.smith_body_control.proofs.Common.{refl, Some, three_wide, true, ValType, ℕ, ◌++◌, ◌+◌, ◌∷◌, ◌≡◌, ◌≤◌}
use Rattle.std.proofs.Common.{Bool, length-append}
use Rattle.smith_syntax.specs.Same.{exact_items, exact_val}
use Rattle.smith_syntax.specs.contracts.value_type.ValTypePartialEq.TheImpl.{ghosts as val_same}
use Rattle.smith_instr.specs.Contexts.{AreBelow, IsBlockType}
use Rattle.smith_instr.specs.declared.control.BlockType.{BlockType}
use Rattle.smith_instr.specs.declared.control.BlockType.TheVariants as block
use Rattle.smith_body_nodes.specs.Scopes.{widest}
use Rattle.smith_body_nodes.specs.Nodes.{AreSidesValid, blocked, fitting, MayOpen, opened_by, taken_by}
use Rattle.smith_body_nodes.specs.declared.node.Opening.{Opening}
use Rattle.smith_body_nodes.specs.declared.node.Opening.TheVariants as opening
use Rattle.smith_body_nodes.specs.declared.node.Sides.{Sides}

-- the operands of a block are valid
pub taken_valid : (context : BodyContext) (opening : Opening) (params : List ValType) → AreValid context params
    → AreValid context (taken_by opening params)
taken_valid context opening.Block params valid = valid
taken_valid context opening.Loop params valid = valid
taken_valid context opening.IfAlone params valid = All-push (IsValid context) params I32 valid tt

taken_few : (opening : Opening) (params : List ValType) → length (taken_by opening params) ≤ length params + 1
taken_few opening.Block params = omega arith
taken_few opening.Loop params = omega arith
taken_few opening.IfAlone params = simp length-append (omega arith)

-- an `if` without `else` may be opened if its parameters are its results
alone : (same : Bool) (params results : List ValType) → (same ≡ true → params ≡ results)
    → IfSome (if same then Some opening.IfAlone else None) (λ opening. MayOpen opening params results)
alone true params results is = is refl
alone false params results is = tt

may_open : (opening : Option Opening) (params results : List ValType) → IfSome (fitting opening params results)
    (λ opening. MayOpen opening params results)
may_open (Some opening.Block) params results = tt
may_open (Some opening.Loop) params results = tt
may_open (Some opening.IfAlone) params results = alone (pointwise val_same.eq params results) params results
    (exact_items exact_val params results).0
may_open None params results = tt

-- a block
opened_node : (context : BodyContext) (set : List ℕ) (values dropped : List ValType) (opening : Option Opening) (ty : BlockType)
    (sides : Sides) → IfSome opening (λ opening. MayOpen opening sides.params sides.results)
    → IsBlockType context ty sides.params sides.results
    → AreBelow context sides.results (values ++ dropped) → AreValid context values → AreValid context dropped
    → AreSidesValid context.features context.types sides → length dropped ≤ length sides.results
    → IsNode context set values (opened_by opening ty sides (length dropped))
opened_node context set values dropped (Some opening) ty sides may fits below given spare valid less = record {
  results = sides.results;
  dropped = dropped;
  typed = λ more. (fits, may, refl, refl);
  below = below;
  given = given;
  spare = spare;
  drops = refl;
  sets_local = refl;
  few = let few = valid.few in let taken = taken_few opening sides.params in omega arith;
  valid = taken_valid context opening sides.params valid.params;
  inside = valid;
}
opened_node context set values dropped None ty sides may fits below given spare valid less = record {
  results = sides.results;
  dropped = dropped;
  typed = λ more. (fits, refl, refl);
  below = below;
  given = given;
  spare = spare;
  drops = refl;
  sets_local = refl;
  few = let few = valid.few in simp length-append (omega arith);
  valid = All-push (IsValid context) sides.params I32 valid.params tt;
  inside = valid;
}

pub block_node : (context : BodyContext) (set : List ℕ) (values dropped : List ValType) (opening : Option Opening) (ty : BlockType)
    (params results : List ValType) → IsBlockType context ty params results → AreBelow context results (values ++ dropped)
    → AreValid context values → AreValid context dropped → AreValid context params → AreValid context results
    → length params + length results ≤ widest context.types → length dropped ≤ length results
    → IsNode context set values (blocked opening ty params results (length dropped))
block_node context set values dropped opening ty params results fits below given spare params_valid results_valid few less =
    opened_node context set values dropped (fitting opening params results) ty (record { params = params; results = results })
    (may_open opening params results) fits below given spare
    (record { params = params_valid; results = results_valid; few = few }) less

pub value_block : (context : BodyContext) (set : List ℕ) (opening : Option Opening) (wanted : ValType) → IsValid context wanted
    → IsNode context set (wanted ∷ []) (blocked opening (block.Value wanted) [] (wanted ∷ []) 0)
value_block context set opening wanted valid =
    let wide = three_wide context.types in
    block_node context set (wanted ∷ []) [] opening (block.Value wanted) [] (wanted ∷ []) (valid, refl, refl)
    (IsValBelow-refl context.types wanted, tt)
    (one_valid context wanted valid) (no_valid context) (no_valid context) (one_valid context wanted valid) (omega arith) (omega arith)

pub empty_block : (context : BodyContext) (set : List ℕ) (opening : Option Opening)
    → IsNode context set [] (blocked opening block.Empty [] [] 0)
empty_block context set opening = block_node context set [] [] opening block.Empty [] [] (refl, refl) tt (no_valid context)
    (no_valid context) (no_valid context) (no_valid context) (omega arith) (omega arith)

-- a block of a function type
pub func_block : (context : BodyContext) (set : List ℕ) (opening : Option Opening) (index : ℕ) (function : FuncType)
    → IsFuncAt context.types index function → AreValid context function.params → AreValid context function.results
    → IsNode context set [] (blocked opening (block.Func index) function.params function.results (length function.results))
func_block context set opening index function there params results =
    block_node context set [] function.results opening (block.Func index) function.params function.results (function, there, refl, refl)
    (below_themselves context.types function.results) (no_valid context) results params results
    (func_wide context.types index function there) (omega arith)
