-- Loads, stores, and the size and growth of memories leave the values of their types.
use Rattle.smith_body_memory.proofs.Common.{[], address, address_valid, ap, arith, BodyContext, Bool, F32, F64, get_or, I32, I64, IsAccess}
use Rattle.smith_body_memory.proofs.Common.{IsNode, IsValid, length, List, list_all, MemArg, more_valid, no_valid, node_of, one_valid, Ref}
use Rattle.smith_body_memory.proofs.Common.{refl, rules, subst, sym, true, V128, ValType, ℕ, ◌<◌, ◌∷◌, ◌≡◌, ◌≤◌}
use Rattle.std.proofs.lemmas.List.Sums.{AllPass-from_list_all}
use Rattle.smith_types.specs.Subtyping.{IsValBelow}
use Rattle.smith_types.proofs.GrowthLemmas.{IsValBelow-refl}
use Rattle.smith_instr.specs.MemoryTypes.{loaded, stored}
use Rattle.smith_instr.specs.declared.instr.Instr.TheVariants as instr
use Rattle.smith_instr.specs.declared.memory.Load.{Load}
use Rattle.smith_instr.specs.declared.memory.Store.{Store}
use Rattle.smith_instr.specs.declared.memory.MemoryInstr.TheVariants as memory
use Rattle.smith_body_nodes.specs.Offered.{is_addressed}
use Rattle.smith_body_nodes.proofs.OfferLemmas.{addressed}
use Rattle.smith_body_nodes.proofs.NodeLemmas.{begins, begins_with, three_wide}
use Rattle.smith_body_nodes.proofs.ChosenLemmas.{same_item}
use Rattle.smith_body_memory.specs.MemoryRows.{loads_of}

first_same : {a b : ValType} {xs ys : List ValType} → a ∷ xs ≡ b ∷ ys → a ≡ b
first_same is = cc

loads_give : (wanted : ValType) → list_all (λ (op : Load). begins wanted ((loaded op).0 ∷ [])) (loads_of wanted) ≡ true
unfolding begins
loads_give I32 = refl
loads_give I64 = refl
loads_give F32 = refl
loads_give F64 = refl
loads_give V128 = refl
loads_give (Ref reference) = refl

loaded_value : (rows : List Load) (index : ℕ) (op : Load) (wanted : ValType) → rows ≡ loads_of wanted → index < length rows
    → op ≡ get_or rows index op → (loaded op).0 ≡ wanted
loaded_value rows index op wanted are inside is =
    let all : list_all (λ (op : Load). begins wanted ((loaded op).0 ∷ [])) rows ≡ true = rw are (loads_give wanted) in
    let test : begins wanted ((loaded (get_or rows index op)).0 ∷ []) ≡ true =
    AllPass-from_list_all (λ (op : Load). begins wanted ((loaded op).0 ∷ [])) rows all index op inside in
    let test' : begins wanted ((loaded op).0 ∷ []) ≡ true = subst (λ (o : Load). begins wanted ((loaded o).0 ∷ []) ≡ true) (sym is) test in
    first_same (begins_with wanted ((loaded op).0 ∷ []) test')

pub load_node : (rows : List Load) (index : ℕ) (op : Load) (wanted : ValType) → rows ≡ loads_of wanted → index < length rows
    → op ≡ get_or rows index op
    → (context : BodyContext) (set : List ℕ) (at : MemArg) (wide : Bool) → IsValid context wanted → IsAccess context.memories at wide
    → at.align ≤ (loaded op).1
    → IsNode context set (wanted ∷ []) (node_of (address wide ∷ []) (instr.Load op at) 0)
load_node rows index op wanted are inside is context set at wide valid access aligned =
    let given : (loaded op).0 ≡ wanted = loaded_value rows index op wanted are inside is in
    record {
      results = (loaded op).0 ∷ [];
      dropped = [];
      typed = λ more. (wide, (access, aligned), (refl, refl));
      below = (
        subst (λ (value : ValType). IsValBelow context.types (loaded op).0 value) given
            (IsValBelow-refl context.types (loaded op).0),
        tt,
      );
      given = one_valid context wanted valid;
      spare = no_valid context;
      drops = refl;
      sets_local = refl;
      few = let many = three_wide context.types in omega arith;
      valid = one_valid context (address wide) (address_valid context wide);
      inside = tt;
    }

stored_valid : (context : BodyContext) (op : Store) → IsValid context (stored op).0
stored_valid context op = search rules

pub store_node : (context : BodyContext) (set : List ℕ) (op : Store) (at : MemArg) (wide : Bool) → IsAccess context.memories at wide
    → at.align ≤ (stored op).1
    → IsNode context set [] (node_of (address wide ∷ (stored op).0 ∷ []) (instr.Store op at) 0)
store_node context set op at wide access aligned = record {
  results = [];
  dropped = [];
  typed = λ more. (wide, (access, aligned), (refl, refl));
  below = tt;
  given = no_valid context;
  spare = no_valid context;
  drops = refl;
  sets_local = refl;
  few = let many = three_wide context.types in omega arith;
  valid = more_valid context (address wide) ((stored op).0 ∷ []) (address_valid context wide)
      (one_valid context (stored op).0 (stored_valid context op));
  inside = tt;
}

-- the size of a memory, and its growth
pub size_node : (context : BodyContext) (set : List ℕ) (wanted : ValType) (index : ℕ) → is_addressed context wanted index ≡ true
    → IsNode context set (wanted ∷ []) (node_of [] (instr.Memory (memory.Size index)) 0)
size_node context set wanted index is =
    let (ty, at, of) = addressed context wanted index is in
    record {
      results = wanted ∷ [];
      dropped = [];
      typed = λ more. (ty, at, (refl, ap (λ (v : ValType). v ∷ []) of));
      below = (IsValBelow-refl context.types wanted, tt);
      given = one_valid context wanted (subst (IsValid context) (sym of) (address_valid context ty.memory64));
      spare = no_valid context;
      drops = refl;
      sets_local = refl;
      few = let many = three_wide context.types in omega arith;
      valid = no_valid context;
      inside = tt;
    }

pub grow_node : (context : BodyContext) (set : List ℕ) (wanted : ValType) (index : ℕ) → is_addressed context wanted index ≡ true
    → IsNode context set (wanted ∷ []) (node_of (wanted ∷ []) (instr.Memory (memory.Grow index)) 0)
grow_node context set wanted index is =
    let (ty, at, of) = addressed context wanted index is in
    let same : wanted ∷ [] ≡ address ty.memory64 ∷ [] = ap (λ (v : ValType). v ∷ []) of in
    let valid = one_valid context wanted (subst (IsValid context) (sym of) (address_valid context ty.memory64)) in
    record {
      results = wanted ∷ [];
      dropped = [];
      typed = λ more. (ty, at, (same, same));
      below = (IsValBelow-refl context.types wanted, tt);
      given = valid;
      spare = no_valid context;
      drops = refl;
      sets_local = refl;
      few = let many = three_wide context.types in omega arith;
      valid = valid;
      inside = tt;
    }

pub load_row : (rows : List Load) (index : ℕ) (d : Load) (wanted : ValType) → rows ≡ loads_of wanted → index < length rows
    → (context : BodyContext) (set : List ℕ) (at : MemArg) (wide : Bool)
    → IsValid context wanted → IsAccess context.memories at wide → at.align ≤ (loaded (get_or rows index d)).1
    → IsNode context set (wanted ∷ []) (node_of (address wide ∷ []) (instr.Load (get_or rows index d) at) 0)
load_row rows index d wanted are inside context set at wide valid access aligned =
    load_node rows index (get_or rows index d) wanted are inside (same_item rows index d (get_or rows index d) inside) context set at wide
    valid access aligned
