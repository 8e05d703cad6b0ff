-- A value is `unreachable` only if no other instructions that take no budget produce one.
use Rattle.smith_body_leaves.proofs.Common.{[], BodyContext, Bool, Config, false, if◌then◌else◌, Instr, is_permitted, IsOrderly, List, refl}
use Rattle.smith_body_leaves.proofs.Common.{subst, true, ValType, ℕ, ◌∷◌, ◌≡◌}
use Rattle.smith_instr.specs.declared.instr.Instr.TheVariants as instr
use Rattle.smith_body_leaves.specs.DrawnLeaves.{leaf_at, permitted_or_spare, preferred_to}
use Rattle.smith_body_leaves.specs.Laws.{HasNoOther}
use Rattle.smith_body_leaves.specs.Leaves.{any_leaf_at, first_leaf, spare_leaf}
use Rattle.smith_body_nodes.proofs.StopLemmas.{stop_forbidden}
use Rattle.smith_body_leaves.proofs.LawLemmas.{apart, both_none, heads, none_other}
use Rattle.smith_body_leaves.proofs.PreferredLemmas.{preferred_found}

-- so a drawn `unreachable` is the last that is tried
drawn_apart : (config : Config) (context : BodyContext) (instruction : Instr) (spare : List Instr) (permitted : Bool)
    → config.disallow_traps ≡ true → is_permitted context.features config instruction ≡ permitted
    → (if permitted then instruction ∷ [] else spare) ≡ instr.Unreachable ∷ []
    → spare ≡ instr.Unreachable ∷ []
drawn_apart config context instruction spare true trapless is stop =
    absurd (stop_forbidden context.features config trapless (subst (λ (i : Instr). is_permitted context.features config i ≡ true)
    (heads instruction instr.Unreachable [] [] stop) is))
drawn_apart config context instruction spare false trapless is stop = stop

chosen_on : {A : Type 0} (on : Bool) (a b x : A) → on ≡ true → (if on then a else b) ≡ x → a ≡ x
chosen_on true a b x is same = same
chosen_on false a b x is same = cc

spared : (config : Config) (context : BodyContext) (set : List ℕ) (wanted : ValType) (bytes : List ℕ) → config.disallow_traps ≡ true
    → (leaf_at config context set wanted bytes).0 ≡ instr.Unreachable ∷ []
    → first_leaf config context set wanted ≡ instr.Unreachable ∷ []
unfolding leaf_at spare_leaf
spared config context set wanted bytes trapless stop =
    let drawn = any_leaf_at context set wanted bytes in
    let (_, rest) = apart config context (preferred_to config context set wanted drawn.0 drawn.1).0
    (permitted_or_spare config context set wanted drawn.0) trapless (preferred_found config context set wanted drawn.0 drawn.1) stop in
    let spare = drawn_apart config context drawn.0 (spare_leaf config context set wanted) (is_permitted context.features config drawn.0)
    trapless refl rest in
    chosen_on config.disallow_traps (first_leaf config context set wanted) (instr.Unreachable ∷ []) (instr.Unreachable ∷ []) trapless spare

pub no_other : (config : Config) (context : BodyContext) (set : List ℕ) (wanted : ValType) (bytes : List ℕ) → IsOrderly context.types
    → config.disallow_traps ≡ true → (leaf_at config context set wanted bytes).0 ≡ instr.Unreachable ∷ []
    → HasNoOther config context set wanted
no_other config context set wanted bytes orderly trapless stop =
    let (brief, created) = both_none config context set wanted trapless (spared config context set wanted bytes trapless stop) in
    none_other config context set wanted orderly brief created
