-- The instruction without operands that is chosen.
use Rattle.smith_body_leaves.proofs.Common.{[], ap, arith, BodyContext, Bool, Config, false, get_or, if◌then◌else◌, Instr, is_permitted}
use Rattle.smith_body_leaves.proofs.Common.{is_reference, length, List, None, Option, option_map, refl, slice_get, slice_get-get_or, Some}
use Rattle.smith_body_leaves.proofs.Common.{subst, SubType, sym, true, ValType, ℕ, ◌++◌, ◌+◌, ◌<◌, ◌∙◌, ◌∷◌, ◌≡◌, ◌≤◌}
use Rattle.std.specs.Prelude.{option_to_list}
use Rattle.smith_draw_types.specs.Choices.{chosen_at}
use Rattle.smith_instr.specs.declared.instr.Instr.TheVariants as instr
use Rattle.smith_body_nodes.specs.Chosen.{giving}
use Rattle.smith_body_leaves.specs.DrawnLeaves.{leaf_at, preferred_to}
use Rattle.smith_body_leaves.specs.Leaves.{any_leaf_at, constant_instr_at, created_from, created_type, first_leaf, first_of, if_permitted}
use Rattle.smith_body_leaves.specs.Leaves.{instructions_of, leaf_choice_at, leaf_families, leaf_of, leaf_within, longest_leaf, named_at}
use Rattle.smith_body_leaves.specs.Leaves.{or_constant, spare_leaf, widest_struct}
use Rattle.smith_body_nodes.specs.Offered.{within_at}
use Rattle.smith_body_nodes.specs.declared.offer.Reach.{Reach}
use Rattle.smith_body_nodes.specs.declared.offer.Reach.TheVariants as reach
use Rattle.smith_body_leaves.specs.declared.families.LeafFamily.{LeafFamily}
use Rattle.smith_body_leaves.specs.declared.families.LeafFamily.TheVariants as leaf
use Rattle.smith_body_leaves.specs.declared.leaf.Leaf.{Leaf}
use Rattle.smith_body_nodes.proofs.ChosenLemmas.{chosen_by}

-- a function that may be named, by its place among those offered
pub named_none : (context : BodyContext) (reach : Reach) (wanted : ValType) (bytes left : List ℕ)
    → within_at reach (is_reference context wanted) (length context.references) bytes ≡ (None, left) → named_at context reach wanted bytes
    ≡ (None, left)
unfolding named_at
named_none context reach wanted bytes left drawn = ap (λ (d : Option ℕ × List ℕ). giving (λ place. slice_get context.references place) d)
    drawn

pub named_there : (context : BodyContext) (reach : Reach) (wanted : ValType) (bytes left : List ℕ) (place d : ℕ)
    → within_at reach (is_reference context wanted) (length context.references) bytes ≡ (Some place, left)
    → place < length context.references
    → named_at context reach wanted bytes ≡ (Some (get_or context.references place d), left)
unfolding named_at
named_there context reach wanted bytes left place d drawn inside =
    ap (λ (d : Option ℕ × List ℕ). giving (λ place. slice_get context.references place) d) drawn ∙ ap (λ (o : Option ℕ). (o, left))
    (slice_get-get_or context.references place d inside)

-- an instruction without operands, by its drawn family
pub leaf_by : (context : BodyContext) (set : List ℕ) (wanted : ValType) (bytes left : List ℕ) (families : List LeafFamily)
    (drawn_family family : LeafFamily) → families ≡ leaf_families → chosen_at leaf.Constant families bytes ≡ (drawn_family, left)
    → drawn_family ≡ family → leaf_choice_at context set wanted bytes ≡ leaf_of context set reach.Chunk wanted family left
unfolding leaf_choice_at
leaf_by context set wanted bytes left families drawn_family family are drawn is = chosen_by (leaf_of context set reach.Chunk wanted)
    leaf.Constant leaf_families families bytes left drawn_family family are drawn is

pub leaf_chosen : (context : BodyContext) (set : List ℕ) (wanted : ValType) (bytes left : List ℕ) (instruction : Instr)
    → leaf_choice_at context set wanted bytes ≡ (Some instruction, left) → any_leaf_at context set wanted bytes ≡ (instruction, left)
unfolding any_leaf_at
leaf_chosen context set wanted bytes left instruction drawn = ap (λ (d : Option Instr × List ℕ). or_constant wanted d.0 d.1) drawn

pub leaf_constant : (context : BodyContext) (set : List ℕ) (wanted : ValType) (bytes middle left : List ℕ) (instruction : Instr)
    → leaf_choice_at context set wanted bytes ≡ (None, middle) → constant_instr_at wanted middle ≡ (instruction, left)
    → any_leaf_at context set wanted bytes ≡ (instruction, left)
unfolding any_leaf_at
leaf_constant context set wanted bytes middle left instruction drawn is = ap (λ (d : Option Instr × List ℕ). or_constant wanted d.0 d.1)
    drawn ∙ is

-- the drawn instruction if it is permitted, else its replacement, where nothing is preferred to it
pub leaf_permitted : (config : Config) (context : BodyContext) (set : List ℕ) (wanted : ValType) (bytes middle left : List ℕ)
    (instruction : Instr) (permitted : Bool) → any_leaf_at context set wanted bytes ≡ (instruction, middle)
    → preferred_to config context set wanted instruction middle ≡ (None, left) → is_permitted context.features config instruction
    ≡ permitted
    → leaf_at config context set wanted bytes ≡ (if permitted then instruction ∷ [] else spare_leaf config context set wanted, left)
unfolding leaf_at
leaf_permitted config context set wanted bytes middle left instruction permitted drawn none is = rw (drawn, none, is) refl

-- the value that is preferred to it
pub leaf_preferred : (config : Config) (context : BodyContext) (set : List ℕ) (wanted : ValType) (bytes middle left : List ℕ)
    (instruction : Instr) (leaf : Leaf) → any_leaf_at context set wanted bytes ≡ (instruction, middle)
    → preferred_to config context set wanted instruction middle ≡ (Some leaf, left) → leaf_at config context set wanted bytes
    ≡ (instructions_of leaf, left)
unfolding leaf_at
leaf_preferred config context set wanted bytes middle left instruction leaf drawn preferred = rw (drawn, preferred) refl

-- what is not some value is none
pub not_some : {A : Type 0} (o p : Option A) → ((x : A) → o ≡ Some x → ⊥) → o ≡ p → None ≡ p
not_some None p never is = is
not_some (Some x) p never is = absurd (never x refl)

-- the first value
pub first_brief : (config : Config) (context : BodyContext) (set : List ℕ) (wanted : ValType) (leaf : Leaf)
    → Some leaf ≡ leaf_within config context set 2 true wanted → first_leaf config context set wanted ≡ instructions_of leaf
unfolding first_leaf
first_brief config context set wanted leaf is = rw (← is) refl

pub first_created : (config : Config) (context : BodyContext) (set : List ℕ) (wanted : ValType) (ty : ℕ)
    → None ≡ leaf_within config context set 2 true wanted → Some ty ≡ created_type config context set wanted
    → first_leaf config context set wanted ≡ created_from config context set ty
unfolding first_leaf
first_created config context set wanted ty brief is = rw (← brief, ← is) refl

pub first_stop : (config : Config) (context : BodyContext) (set : List ℕ) (wanted : ValType)
    → None ≡ leaf_within config context set 2 true wanted → None ≡ created_type config context set wanted
    → first_leaf config context set wanted ≡ instr.Unreachable ∷ []
unfolding first_leaf
first_stop config context set wanted brief created = rw (← brief, ← created) refl

-- the number of its instructions
three : (value : Instr) (next last : Option Instr) → length (value ∷ (option_to_list next ++ option_to_list last)) ≤ 3
three value None None = omega arith
three value None (Some last) = omega arith
three value (Some next) None = omega arith
three value (Some next) (Some last) = omega arith

two_wide : (types : List SubType) → 2 ≤ widest_struct types
unfolding widest_struct
two_wide [] = omega arith
two_wide (t ∷ types) = let rest = two_wide types in omega arith

at_most : (on : Bool) (n w : ℕ) → on ≡ true → n ≤ 1 + w → n ≤ (if on then 1 + w else 2)
at_most true n w is few = few
at_most false n w is few = cc

pub created_few : (config : Config) (types : List SubType) (n : ℕ) → config.disallow_traps ≡ true → n ≤ 1 + widest_struct types
    → n ≤ longest_leaf config types
unfolding longest_leaf
created_few config types n trapless few = at_most config.disallow_traps n (widest_struct types) trapless few

pub brief_few : (config : Config) (types : List SubType) (leaf : Leaf) → config.disallow_traps ≡ true
    → length (instructions_of leaf) ≤ longest_leaf config types
brief_few config types leaf trapless =
    let few = three leaf.value leaf.next leaf.last in
    let wide = two_wide types in
    created_few config types (length (instructions_of leaf)) trapless (omega arith)

at_least_two : (on : Bool) (w : ℕ) → 2 ≤ w → 2 ≤ (if on then 1 + w else 2)
at_least_two true w wide = omega arith
at_least_two false w wide = omega arith

two_longest : (config : Config) (types : List SubType) → 2 ≤ longest_leaf config types
unfolding longest_leaf
two_longest config types = at_least_two config.disallow_traps (widest_struct types) (two_wide types)

pub some_leaf : (config : Config) (types : List SubType) → 1 ≤ longest_leaf config types
some_leaf config types = let two = two_longest config types in omega arith

two : (value : Instr) (next last : Option Instr) → next ≡ None → length (value ∷ (option_to_list next ++ option_to_list last)) ≤ 2
two value None None is = omega arith
two value None (Some last) is = omega arith
two value (Some next) last is = cc

pub pair_few : (config : Config) (types : List SubType) (leaf : Leaf) → leaf.next ≡ None
    → length (instructions_of leaf) ≤ longest_leaf config types
pair_few config types leaf brief =
    let few = two leaf.value leaf.next leaf.last brief in
    let longest = two_longest config types in
    omega arith

-- the first instruction of a family, if it is permitted
pub first_none : (config : Config) (context : BodyContext) (set : List ℕ) (wanted : ValType) (family : LeafFamily) (bytes left : List ℕ)
    → bytes ≡ [] → leaf_of context set reach.Whole wanted family bytes ≡ (None, left) → None ≡ first_of config context set wanted family
first_none config context set wanted family bytes left empty drawn =
    let drawn' : leaf_of context set reach.Whole wanted family [] ≡ (None, left) =
    subst (λ (bytes : List ℕ). leaf_of context set reach.Whole wanted family bytes ≡ (None, left)) empty drawn in
    ap (λ (d : Option Instr × List ℕ). if_permitted config context d.0) (sym drawn')

pub first_there : (config : Config) (context : BodyContext) (set : List ℕ) (wanted : ValType) (family : LeafFamily) (bytes left : List ℕ)
    (instruction : Instr) (permitted : Bool) → bytes ≡ [] → leaf_of context set reach.Whole wanted family bytes ≡ (Some instruction, left)
    → is_permitted context.features config instruction ≡ permitted → (if permitted then Some instruction else None)
    ≡ first_of config context set wanted family
first_there config context set wanted family bytes left instruction permitted empty drawn is =
    let drawn' : leaf_of context set reach.Whole wanted family [] ≡ (Some instruction, left) =
    subst (λ (bytes : List ℕ). leaf_of context set reach.Whole wanted family bytes ≡ (Some instruction, left)) empty drawn in
    ap (λ (b : Bool). if b then Some instruction else None) (sym is) ∙ ap (λ (d : Option Instr × List ℕ). if_permitted config context d.0)
    (sym drawn')

-- the instruction of an index, if there is one and it is permitted
pub made_none : (config : Config) (context : BodyContext) (make : ℕ → Instr) (o : Option ℕ) → None ≡ o → None ≡ if_permitted config context
    (option_map make o)
made_none config context make o is = ap (λ (o : Option ℕ). if_permitted config context (option_map make o)) is

pub made_some : (config : Config) (context : BodyContext) (make : ℕ → Instr) (o : Option ℕ) (index : ℕ) (permitted : Bool) → Some index ≡ o
    → is_permitted context.features config (make index) ≡ permitted
    → (if permitted then Some (make index) else None) ≡ if_permitted config context (option_map make o)
made_some config context make o index permitted at is =
    ap (λ (b : Bool). if b then Some (make index) else None) (sym is)
    ∙ ap (λ (o : Option ℕ). if_permitted config context (option_map make o)) at
