-- Numeric instructions, and `select`, leave the values of their types.
use Rattle.smith_body_nodes.proofs.Common.{[], AllPass-from_list_all, ap, AreValid, arith, below_themselves, BodyContext, drop, F32, F64}
use Rattle.smith_body_nodes.proofs.Common.{get_or, I32, I64, IsValid, length, List, list_all, Ref, refl, subst, suc, sym, true, V128}
use Rattle.smith_body_nodes.proofs.Common.{ValType, ℕ, ◌+◌, ◌-◌, ◌<◌, ◌∙◌, ◌∷◌, ◌≡◌, ◌≤◌}
use Rattle.std.proofs.Common.{rules}
use Rattle.smith_types.proofs.GrowthLemmas.{IsValBelow-refl}
use Rattle.smith_instr.specs.Contexts.{AreBelow}
use Rattle.smith_instr.specs.InstrTypes.{IsNumberOrVector}
use Rattle.smith_instr.specs.NumericTypes.{signature}
use Rattle.smith_instr.specs.declared.instr.Instr.TheVariants as instr
use Rattle.smith_instr.specs.declared.numeric.NumericInstr.{NumericInstr}
use Rattle.smith_body_nodes.specs.Nodes.{IsNode, node_of}
use Rattle.smith_body_nodes.specs.NumericRows.{numeric_rows}
use Rattle.smith_body_nodes.proofs.NodeLemmas.{begins, begins_with, is_number, more_valid, no_valid, numbers_valid, one_valid, three_wide}
use Rattle.smith_body_nodes.proofs.ChosenLemmas.{same_item}

signature_numbers : (op : NumericInstr) → list_all is_number (signature op).operands ≡ true
unfolding is_number
signature_numbers op = search rules

results_numbers : (op : NumericInstr) → list_all is_number (signature op).results ≡ true
unfolding is_number
results_numbers op = search rules

signature_few : (op : NumericInstr) → length (signature op).operands ≤ 4
signature_few op = search rules

results_few : (op : NumericInstr) → length (signature op).results ≤ 2
results_few op = search rules

rows_begin : (wanted : ValType) → list_all (λ (op : NumericInstr). begins wanted (signature op).results) (numeric_rows wanted) ≡ true
unfolding begins
rows_begin I32 = refl
rows_begin I64 = refl
rows_begin F32 = refl
rows_begin F64 = refl
rows_begin V128 = refl
rows_begin (Ref reference) = refl

numeric_node : (op : NumericInstr) (wanted : ValType) → (signature op).results ≡ wanted ∷ drop 1 (signature op).results
    → (context : BodyContext) (set : List ℕ)
    → IsNode context set (wanted ∷ []) (node_of (signature op).operands (instr.Numeric op) (length (signature op).results - 1))
numeric_node op wanted first context set =
    let results = (signature op).results in
    let spare = drop 1 results in
    let len : length results ≡ length spare + 1 = ap length first ∙ omega arith in
    let all = numbers_valid context results (results_numbers op) in
    let all' : AreValid context (wanted ∷ spare) = subst (AreValid context) first all in
    record {
      results = results;
      dropped = spare;
      typed = λ more. (refl, refl);
      below = subst (λ (values : List ValType). AreBelow context results values) first (below_themselves context.types results);
      given = one_valid context wanted (all' 0 wanted (omega arith));
      spare = λ k d inside. all' (suc k) d (omega arith);
      drops = omega arith;
      sets_local = refl;
      few = let few = signature_few op in let few' = results_few op in let wide = three_wide context.types in omega arith;
      valid = numbers_valid context (signature op).operands (signature_numbers op);
      inside = tt;
    }

pub numeric_at : (rows : List NumericInstr) (index : ℕ) (op : NumericInstr) (wanted : ValType) → rows ≡ numeric_rows wanted
    → index < length rows → op ≡ get_or rows index op
    → (context : BodyContext) (set : List ℕ) → IsNode context set (wanted ∷ []) (node_of (signature op).operands (instr.Numeric op)
    (length (signature op).results - 1))
numeric_at rows index op wanted are inside is =
    let all : list_all (λ (op : NumericInstr). begins wanted (signature op).results) rows ≡ true = rw are (rows_begin wanted) in
    let test : begins wanted (signature (get_or rows index op)).results ≡ true =
    AllPass-from_list_all (λ (op : NumericInstr). begins wanted (signature op).results) rows all index op inside in
    let test' : begins wanted (signature op).results ≡ true = subst (λ (o : NumericInstr). begins wanted (signature o).results ≡ true)
    (sym is) test in
    numeric_node op wanted (begins_with wanted (signature op).results test')

pub select_node : (wanted : ValType) → IsNumberOrVector wanted → (context : BodyContext) (set : List ℕ) → IsValid context wanted
    → IsNode context set (wanted ∷ []) (node_of (wanted ∷ wanted ∷ I32 ∷ []) instr.Select 0)
select_node wanted numeric context set valid = record {
  results = wanted ∷ [];
  dropped = [];
  typed = λ more. (wanted, numeric, (refl, refl));
  below = (IsValBelow-refl context.types wanted, tt);
  given = one_valid context wanted valid;
  spare = no_valid context;
  drops = refl;
  sets_local = refl;
  few = let wide = three_wide context.types in omega arith;
  valid = more_valid context wanted (wanted ∷ I32 ∷ []) valid (more_valid context wanted (I32 ∷ []) valid (one_valid context I32 tt));
  inside = tt;
}

pub numeric_row : (rows : List NumericInstr) (index : ℕ) (d : NumericInstr) (wanted : ValType) → rows ≡ numeric_rows wanted
    → index < length rows → (context : BodyContext) (set : List ℕ)
    → IsNode context set (wanted ∷ []) (node_of (signature (get_or rows index d)).operands (instr.Numeric (get_or rows index d))
    (length (signature (get_or rows index d)).results - 1))
numeric_row rows index d wanted are inside context set = numeric_at rows index (get_or rows index d) wanted are inside
    (same_item rows index d (get_or rows index d) inside) context set
