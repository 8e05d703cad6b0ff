-- A body stays typed with the checks of counters of fuel in it.
use Rattle.smith_program.proofs.Common.{[], append-nil, append_assoc, AreTyped, AreValid, BodyContext, I32, if_alone, Instr, IsBodyTyped}
use Rattle.smith_program.proofs.Common.{List, nothing, pos, refl, slice_get, Some, Stacked, stacked, step, subst, sym, ValType, ℕ, ◌++◌}
use Rattle.smith_program.proofs.Common.{◌∷◌, ◌≡◌}
use Rattle.std.specs.List.{flat_map, AllByRecursion as Each}
use Rattle.smith_instr.specs.declared.control.BlockType.TheVariants as block_type
use Rattle.smith_instr.specs.declared.instr.Instr.TheVariants as instr
use Rattle.smith_instr.specs.declared.numeric.IntBinary.TheVariants as int_binary
use Rattle.smith_instr.specs.declared.numeric.NumericInstr.TheVariants as numeric
use Rattle.smith_instr.proofs.SequenceLemmas.{count_as_themselves}
use Rattle.smith_body_nodes.proofs.NodeLemmas.{one_valid, no_valid}
use Rattle.wasm_smith.specs.Termination.{counter}
use Rattle.smith_program.specs.Counted.{check_of, checks_of, checked_after, counted}
use Rattle.smith_program.proofs.InsertedLemmas.{IsAmong, inserted_typed, neutral_follow, none_neutral}
use Rattle.smith_program.proofs.StepLemmas.{framed_by, step_by}

-- a global of this index counts fuel
abbrev pub IsCounter : BodyContext → ℕ → Type 0
IsCounter context index = slice_get context.globals index ≡ Some counter

-- the value of a counter
abbrev number : List ValType
number = I32 ∷ []

number_valid : (context : BodyContext) → AreValid context number
number_valid context = one_valid context I32 tt

-- `unreachable` alone
trap : (context : BodyContext) (set : List ℕ) → AreTyped context (instr.Unreachable ∷ []) (stacked [] set) (stacked [] set)
trap context set =
    step (step_by context instr.Unreachable [] [] [] [] [] set ([], refl, no_valid context) refl refl refl (no_valid context))
    (nothing (count_as_themselves context [] (no_valid context)) refl)

-- the second half of a check, before other instructions
taken_off : (context : BodyContext) (index : ℕ) (rest : List Instr) (base : List ValType) (set : List ℕ) (after : Stacked)
    → IsCounter context index → AreTyped context rest (stacked base set) after
    → AreTyped context (instr.GlobalGet index ∷ instr.I32Const (pos 1) ∷ instr.Numeric (numeric.I32Binary int_binary.Sub) ∷ instr.GlobalSet
    index ∷ rest) (stacked base set) after
taken_off context index rest base set after counts more =
    let valid = number_valid context in
    let one = base ++ number in
    let two = one ++ number in
    step (step_by context (instr.GlobalGet index) [] number base base one set (counter, counts, (refl, refl)) refl (sym (append-nil base))
    refl valid)
    (step (step_by context (instr.I32Const (pos 1)) [] number one one two set (refl, refl) refl (sym (append-nil one)) refl valid)
    (step (step_by context (instr.Numeric (numeric.I32Binary int_binary.Sub)) (I32 ∷ I32 ∷ []) number base two one set (refl, refl) refl
    (append_assoc base number number) refl valid)
    (step (step_by context (instr.GlobalSet index) number [] base one base set (counter, counts, refl, (refl, refl)) refl refl
    (sym (append-nil base)) (no_valid context)) more)))

-- the check of a counter, before other instructions
check_then : (context : BodyContext) (index : ℕ) (rest : List Instr) (base : List ValType) (set : List ℕ) (after : Stacked)
    → IsCounter context index → AreTyped context rest (stacked base set) after
    → AreTyped context (check_of index ++ rest) (stacked base set) after
check_then context index rest base set after counts more =
    let valid = number_valid context in
    let one = base ++ number in
    step (step_by context (instr.GlobalGet index) [] number base base one set (counter, counts, (refl, refl)) refl (sym (append-nil base))
    refl valid)
    (step (step_by context (instr.Numeric numeric.I32Eqz) number number base one one set (refl, refl) refl refl refl valid)
    (if_alone {ty = block_type.Empty} {body = instr.Unreachable ∷ []} {params = []} {results = []} refl (refl, refl)
    (trap (record context { labels = [] ∷ context.labels }) set)
    (count_as_themselves context [] (no_valid context))
    (framed_by context number [] base one base set refl (sym (append-nil base)) (no_valid context))
    (taken_off context index rest base set after counts more)))

-- the checks of counters, before other instructions
checks_then : (context : BodyContext) (counters : List ℕ) (rest : List Instr) (base : List ValType) (set : List ℕ) (after : Stacked)
    → Each (IsCounter context) counters → AreTyped context rest (stacked base set) after
    → AreTyped context (checks_of counters ++ rest) (stacked base set) after
checks_then context [] rest base set after count more = more
checks_then context (index ∷ counters) rest base set after (counts, count) more =
    subst (λ (all : List Instr). AreTyped context all (stacked base set) after)
    (sym (append_assoc (checks_of counters) (check_of index) rest))
    (checks_then context counters (check_of index ++ rest) base set after count (check_then context index rest base set after counts more))

-- each instruction, with the checks after it if it starts a loop
in_place : (context : BodyContext) (counters : List ℕ) → Each (IsCounter context) counters → (instruction : Instr)
    → IsAmong context instruction (checked_after counters instruction)
in_place context counters count (instr.Loop ty) = (
  [],
  checks_of counters,
  refl,
  none_neutral context,
  neutral_follow context (instr.Loop ty) (checks_of counters)
      (λ labels rest base set after more. checks_then (record context { labels = labels }) counters rest base set after count more),
)
in_place context counters count instruction =
    ([], [], refl, none_neutral context, neutral_follow context instruction [] (none_neutral context))

-- a body with the checks of globals that count fuel
pub counted_typed : (context : BodyContext) (counters : List ℕ) (body : List Instr) → Each (IsCounter context) counters
    → IsBodyTyped context body → IsBodyTyped context (counted counters body)
counted_typed context counters body count typed = record {
  set = typed.set;
  typed = checks_then (record context { labels = context.results ∷ [] }) counters (flat_map (checked_after counters) body) [] []
      (stacked context.results typed.set) count
      (inserted_typed (checked_after counters) (in_place context counters count, refl, refl) typed.typed);
}
