-- Unconditional branches leave any values.
use Rattle.smith_body_control.proofs.Common.{[], All, All-push, append-nil, AreValid, arith, bare, below_themselves, BodyContext}
use Rattle.smith_body_control.proofs.Common.{context_of, get_or, I32, IsNode, IsTaken, IsValid, length, List, no_valid, node_of, refl}
use Rattle.smith_body_control.proofs.Common.{ValType, ℕ, ◌++◌, ◌<◌, ◌∷◌, ◌≡◌, ◌≤◌}
use Rattle.std.proofs.Common.{length-append}
use Rattle.smith_instr.specs.declared.instr.Instr.TheVariants as instr
use Rattle.smith_body_nodes.specs.Scopes.{AreLabels, widest}
use Rattle.smith_body_nodes.specs.declared.scope.Scope.{Scope}
use Rattle.smith_body_nodes.proofs.LabelLemmas.{label_at}
use Rattle.smith_body_control.proofs.BlockNodeLemmas.{taken_valid}

pub br_node : (scope : Scope) (labels : List (List ValType)) (set : List ℕ) (index : ℕ) (taken values : List ValType)
    → AreLabels scope labels → index < length labels → taken ≡ get_or labels index taken → AreValid (bare scope) values
    → IsNode (context_of scope labels) set values (node_of taken (instr.Br index) 0)
br_node scope labels set index taken values are inside is valid =
    let (at, taken_valid, few) = label_at scope labels are index taken inside is in
    record {
      results = values;
      dropped = [];
      typed = λ more. (taken, at, ([], refl, valid));
      below = rw append-nil (below_themselves scope.types.now.types values);
      given = valid;
      spare = no_valid (bare scope);
      drops = refl;
      sets_local = refl;
      few = omega arith;
      valid = taken_valid;
      inside = tt;
    }

pub return_node : (context : BodyContext) (set : List ℕ) (values : List ValType) → AreValid context context.results
    → length context.results ≤ widest context.types → AreValid context values
    → IsNode context set values (node_of context.results instr.Return 0)
return_node context set values results few valid = record {
  results = values;
  dropped = [];
  typed = λ more. ([], refl, valid);
  below = rw append-nil (below_themselves context.types values);
  given = valid;
  spare = no_valid context;
  drops = refl;
  sets_local = refl;
  few = omega arith;
  valid = results;
  inside = tt;
}

pub br_if_node : (scope : Scope) (labels : List (List ValType)) (set : List ℕ) (index : ℕ) (taken : List ValType) → AreLabels scope labels
    → index < length labels → taken ≡ get_or labels index taken
    → IsNode (context_of scope labels) set [] (node_of (taken ++ I32 ∷ []) (instr.BrIf index) (length taken))
br_if_node scope labels set index taken are inside is =
    let (at, taken_valid, few) = label_at scope labels are index taken inside is in
    record {
      results = taken;
      dropped = taken;
      typed = λ more. (taken, at, (refl, refl));
      below = below_themselves scope.types.now.types taken;
      given = no_valid (bare scope);
      spare = taken_valid;
      drops = refl;
      sets_local = refl;
      few = simp length-append (omega arith);
      valid = All-push (IsValid (bare scope)) taken I32 taken_valid tt;
      inside = tt;
    }

pub table_node : (scope : Scope) (labels : List (List ValType)) (set targets : List ℕ) (index : ℕ) (taken values : List ValType)
    → AreLabels scope labels → index < length labels → taken ≡ get_or labels index taken
    → All (IsTaken (context_of scope labels) taken) targets → AreValid (bare scope) values
    → IsNode (context_of scope labels) set values (node_of (taken ++ I32 ∷ []) (instr.BrTable targets index) 0)
table_node scope labels set targets index taken values are inside is all valid =
    let (at, taken_valid, few) = label_at scope labels are index taken inside is in
    record {
      results = values;
      dropped = [];
      typed = λ more. (taken, all, (taken, at, below_themselves scope.types.now.types taken), ([], refl, valid));
      below = rw append-nil (below_themselves scope.types.now.types values);
      given = valid;
      spare = no_valid (bare scope);
      drops = refl;
      sets_local = refl;
      few = simp length-append (omega arith);
      valid = All-push (IsValid (bare scope)) taken I32 taken_valid tt;
      inside = tt;
    }
