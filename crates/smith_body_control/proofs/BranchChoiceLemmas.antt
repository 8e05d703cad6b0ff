-- The chosen branch, by the drawn places.
use Rattle.smith_body_control.proofs.Common.{[], ap, arith, BodyContext, false, I32, label_count, length, List, node_of, None, range_at}
use Rattle.smith_body_control.proofs.Common.{refl, slice_get, Some, true, ValType, ℕ, ◌++◌, ◌-◌, ◌<◌, ◌∙◌, ◌∷◌, ◌≡◌}
use Rattle.std.proofs.lemmas.Option.{slice_get_past}
use Rattle.smith_bytes.specs.Draws.{bool_at}
use Rattle.smith_instr.specs.declared.instr.Instr.TheVariants as instr
use Rattle.smith_body_nodes.proofs.ChosenLemmas.{no_range, not_zero}
use Rattle.smith_body_control.specs.BranchChoices.{branch_at, label_at, leaving_at, return_node, some_targets_at, table_at}

-- labels
pub no_label : (context : BodyContext) → label_count context ≡ 0 → slice_get context.labels 0 ≡ None
no_label context none = slice_get_past context.labels 0 (omega arith)

no_label_drawn : (context : BodyContext) (bytes : List ℕ) → label_count context ≡ 0 → label_at context bytes ≡ (0, bytes)
no_label_drawn context bytes none = ap (λ (n : ℕ). range_at 0 (n - 1) bytes) none ∙ no_range bytes

pub branch_none : (context : BodyContext) (bytes : List ℕ) → label_count context ≡ 0 → branch_at context bytes ≡ (None, bytes)
unfolding branch_at
branch_none context bytes none = rw (no_label_drawn context bytes none, no_label context none) refl

pub branch_there : (context : BodyContext) (bytes left : List ℕ) (label : ℕ) (taken : List ValType) → label_at context bytes ≡ (label, left)
    → slice_get context.labels label ≡ Some taken
    → branch_at context bytes ≡ (Some (node_of (taken ++ I32 ∷ []) (instr.BrIf label) (length taken)), left)
unfolding branch_at
branch_there context bytes left label taken drawn at = rw (drawn, at) refl

pub leaving_none : (context : BodyContext) (bytes : List ℕ) → label_count context ≡ 0 → leaving_at context bytes
    ≡ (Some (return_node context), bytes)
unfolding leaving_at
leaving_none context bytes none = rw none refl

pub leaving_out : (context : BodyContext) (bytes left : List ℕ) → 0 < label_count context → bool_at bytes ≡ (true, left)
    → leaving_at context bytes ≡ (Some (return_node context), left)
unfolding leaving_at
leaving_out context bytes left some drawn = rw (not_zero (label_count context) some, drawn) refl

pub leaving_there : (context : BodyContext) (bytes middle left : List ℕ) (label : ℕ) (taken : List ValType) → 0 < label_count context
    → bool_at bytes ≡ (false, middle) → label_at context middle ≡ (label, left)
    → slice_get context.labels label ≡ Some taken → leaving_at context bytes ≡ (Some (node_of taken (instr.Br label) 0), left)
unfolding leaving_at
leaving_there context bytes middle left label taken some drawn drawn' at = rw (not_zero (label_count context) some, drawn, drawn', at) refl

pub table_none : (context : BodyContext) (bytes : List ℕ) → label_count context ≡ 0 → table_at context bytes
    ≡ (Some (return_node context), bytes)
unfolding table_at
table_none context bytes none = rw (no_label_drawn context bytes none, no_label context none) refl

pub table_there : (context : BodyContext) (bytes middle left targets : List ℕ) (label : ℕ) (taken : List ValType) → label_at context bytes
    ≡ (label, middle) → slice_get context.labels label ≡ Some taken → some_targets_at context taken middle ≡ (targets, left)
    → table_at context bytes ≡ (Some (node_of (taken ++ I32 ∷ []) (instr.BrTable targets label) 0), left)
unfolding table_at
table_there context bytes middle left targets label taken drawn at all = rw (drawn, at, all) refl
