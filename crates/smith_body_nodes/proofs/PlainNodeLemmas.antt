-- Instructions whose results are just the wanted types: rows of them, and their nodes.
use Rattle.smith_body_nodes.proofs.Common.{[], AllPass-from_list_all, ap, append-nil, AreValid, arith, below_themselves, BodyContext}
use Rattle.smith_body_nodes.proofs.Common.{choose_at, get_or, Instr, length, List, list_all, None, range_at, refl, Some, subst, sym, true}
use Rattle.smith_body_nodes.proofs.Common.{ValType, ℕ, ◌++◌, ◌-◌, ◌<◌, ◌∙◌, ◌∷◌, ◌≡◌, ◌≤◌}
use Rattle.std.specs.Cmp.Lexicographic.{pointwise}
use Rattle.smith_syntax.specs.Same.{exact_items, exact_val}
use Rattle.smith_syntax.specs.contracts.value_type.ValTypePartialEq.TheImpl.{ghosts as val_same}
use Rattle.smith_instr.specs.InstrTypes.{sets, HasInstrType}
use Rattle.smith_body_nodes.specs.Nodes.{IsNode, node_of}
use Rattle.smith_body_nodes.proofs.ChosenLemmas.{choose_none, choose_there}
use Rattle.smith_body_nodes.proofs.NodeLemmas.{no_valid, three_wide}

-- no row is chosen from an empty table
pub row_none : {A : Type 0} (rows table : List A) (bytes : List ℕ) → rows ≡ table → length rows ≡ 0 → choose_at table bytes ≡ (None, bytes)
row_none {A = A} rows table bytes are none = choose_none table bytes (ap (λ (rows : List A). length rows) (sym are) ∙ none)

-- a row by its place
pub row_there : {A : Type 0} (rows table : List A) (bytes left : List ℕ) (place : ℕ) (d : A) → rows ≡ table
    → range_at 0 (length rows - 1) bytes ≡ (place, left) → place < length rows → choose_at table bytes ≡ (Some (get_or rows place d), left)
row_there {A = A} rows table bytes left place d are drawn inside =
    subst (λ (rows' : List A). choose_at rows' bytes ≡ (Some (get_or rows place d), left)) are
    (choose_there rows bytes left place d drawn inside)

-- a row has the results that all rows have
pub row_gives : {A : Type 0} (results : A → List ValType) (rows table : List A) (wanted : ValType) (place : ℕ) (d : A) → rows ≡ table
    → list_all (λ (row : A). pointwise val_same.eq (results row) (wanted ∷ [])) table ≡ true → place < length rows
    → results (get_or rows place d) ≡ wanted ∷ []
row_gives {A = A} results rows table wanted place d are all inside =
    let all' : list_all (λ (row : A). pointwise val_same.eq (results row) (wanted ∷ [])) rows ≡ true = rw are all in
    (exact_items exact_val (results (get_or rows place d)) (wanted ∷ [])).0
    (AllPass-from_list_all (λ (row : A). pointwise val_same.eq (results row) (wanted ∷ [])) rows all' place d inside)

-- the node of an instruction whose results are just these
pub plain_node : (context : BodyContext) (set : List ℕ) (operands values : List ValType) (instruction : Instr)
    → ((more : List ℕ) → HasInstrType context (set ++ more) instruction operands values) → sets instruction ≡ []
    → AreValid context operands → AreValid context values → length operands ≤ 7 → IsNode context set values (node_of operands instruction 0)
plain_node context set operands values instruction typed sets_none valid given few = record {
  results = values;
  dropped = [];
  typed = typed;
  below = rw append-nil (below_themselves context.types values);
  given = given;
  spare = no_valid context;
  drops = refl;
  sets_local = sets_none;
  few = let wide = three_wide context.types in omega arith;
  valid = valid;
  inside = tt;
}
