-- Draws of items, and the chosen node.
use Rattle.std.specs.Prelude.{Result, Ok, Err, IfOk, ◌==◌}
use Rattle.std.specs.Cmp.{unsigned_Decides}
use Rattle.smith_body_nodes.proofs.Common.{[], ap, arith, choose_at, false, get_or, length, List, None, range_at, refl, same_Some}
use Rattle.smith_body_nodes.proofs.Common.{slice_get-get_or, Some, sym, ℕ, ◌-◌, ◌<◌, ◌∙◌, ◌∷◌, ◌≡◌, ◌≤◌}
use Rattle.smith_bytes.specs.Draws.{digit_count}
use Rattle.smith_bytes.specs.declared.error.Error.{Error}
use Rattle.smith_draw_types.specs.Choices.{chosen_at}
use Rattle.smith_instr.specs.declared.instr.Instr.TheVariants as instr
use Rattle.smith_body_nodes.specs.Nodes.{node_of}
use Rattle.smith_body_nodes.specs.Chosen.{or_nop, Chosen}
use Rattle.smith_body_nodes.specs.Scopes.{indexed}
use Rattle.smith_body_nodes.specs.declared.node.Node.{Node}
use Rattle.smith_instr.proofs.AmongLemmas.{false_from}
use Rattle.smith_body_nodes.proofs.OfferedLemmas.{chosen_at_place}

-- an item in range does not depend on the default
pub same_item : {A : Type 0} (xs : List A) (i : ℕ) (d e : A) → i < length xs → get_or xs i d ≡ get_or xs i e
same_item xs i d e inside = same_Some (get_or xs i d) (get_or xs i e) (sym (slice_get-get_or xs i d inside) ∙ slice_get-get_or xs i e
    inside)

-- a result of one draw is a result of an equal draw
pub ok_by : {A : Type 0} (result : Result A Error) (inner outer : A × List ℕ) (left : List ℕ) → outer ≡ inner
    → IfOk result (λ x. inner ≡ (x, left)) → IfOk result (λ x. outer ≡ (x, left))
ok_by (Ok x) inner outer left same is = same ∙ is
ok_by (Err e) inner outer left same is = tt

-- a node that was chosen for a statement
pub ok_node : (result : Result Node Error) (chosen : Chosen) (left : List ℕ) → IfOk result (λ node. chosen ≡ (Some node, left))
    → IfOk result (λ node. or_nop chosen ≡ (node, left))
ok_node (Ok node) chosen left is = ap (λ (c : Chosen). or_nop c) is
ok_node (Err e) chosen left is = tt

-- the chosen node, or `nop` if there is none
pub as_node : (chosen : Chosen) (node : Node) (left : List ℕ) → chosen ≡ (Some node, left) → or_nop chosen ≡ (node, left)
as_node chosen node left is = ap (λ (c : Chosen). or_nop c) is

pub as_nop : (chosen : Chosen) (left : List ℕ) → chosen ≡ (None, left) → or_nop chosen ≡ (node_of [] instr.Nop 0, left)
as_nop chosen left is = ap (λ (c : Chosen). or_nop c) is

-- the only number of a range takes no byte
pub no_range : (bytes : List ℕ) → range_at 0 0 bytes ≡ (0, bytes)
unfolding range_at digit_count
no_range bytes = refl

pub choose_none : {A : Type 0} (items : List A) (bytes : List ℕ) → length items ≡ 0 → choose_at items bytes ≡ (None, bytes)
unfolding choose_at range_at digit_count
choose_none [] bytes none = refl
choose_none (x ∷ xs) bytes none = absurd (omega arith)

pub choose_there : {A : Type 0} (items : List A) (bytes left : List ℕ) (place : ℕ) (d : A) → range_at 0 (length items - 1) bytes
    ≡ (place, left) → place < length items → choose_at items bytes ≡ (Some (get_or items place d), left)
choose_there items bytes left place d drawn inside = chosen_at_place items bytes left place (Some (get_or items place d)) drawn
    (sym (slice_get-get_or items place d inside))

-- without items there is no index
pub no_count : (count : ℕ) → indexed count ≡ 0 → count ≤ 0
no_count count none = omega arith

pub no_index : (count : ℕ) (bytes : List ℕ) → indexed count ≡ 0 → range_at 0 (indexed count - 1) bytes ≡ (0, bytes)
no_index count bytes none = ap (λ (n : ℕ). range_at 0 (n - 1) bytes) none ∙ no_range bytes

pub not_zero : (n : ℕ) → 0 < n → (n == 0) ≡ false
not_zero n some = false_from (n == 0) (λ e. let none : n ≡ 0 = (unsigned_Decides n 0).0 e in absurd (omega arith))

-- a choice by its drawn family
pub chosen_by : {F B : Type 0} (of : F → List ℕ → B) (first : F) (families rows : List F) (bytes left : List ℕ) (drawn family : F)
    → rows ≡ families → chosen_at first rows bytes ≡ (drawn, left) → drawn ≡ family
    → of (chosen_at first families bytes).0 (chosen_at first families bytes).1 ≡ of family left
chosen_by {F = F} of first families rows bytes left drawn family are is same =
    let is' : chosen_at first families bytes ≡ (family, left) = rw (are, same) at is in
    ap (λ (r : F × List ℕ). of r.0 r.1) is'
