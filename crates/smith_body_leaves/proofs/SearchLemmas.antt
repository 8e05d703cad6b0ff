-- The search for a value.
use Rattle.smith_body_leaves.proofs.Common.{arith, BodyContext, Bool, Config, false, IfSome, Instr, is_some, length, List, None, Option}
use Rattle.smith_body_leaves.proofs.Common.{refl, Some, subst, suc, true, ValType, zero, ℕ, ◌<◌, ◌≡◌}
use Rattle.std.proofs.Common.{inl, inr, ◌-◌}
use Rattle.std.specs.Option.{option_or}
use Rattle.std.proofs.lemmas.Bool.{cases_lt, false≢true}
use Rattle.smith_body_leaves.specs.Laws.{IsTriedBy}
use Rattle.smith_body_leaves.specs.Leaves.{created_leaf, created_over, default_struct, empty_array, first_below, first_constant, first_of}
use Rattle.smith_body_leaves.specs.Leaves.{first_single, first_tried, leaf_within, named_type, only, searches_on, unary_leaf}
use Rattle.smith_body_leaves.specs.declared.families.LeafFamily.TheVariants as leaf
use Rattle.smith_body_leaves.specs.declared.leaf.Leaf.{Leaf}
use Rattle.smith_body_nodes.specs.Scopes.{indexed}

-- the first of two
pub or_some : {A : Type 0} (P : A → Type 0) (a b : Option A) → IfSome a P → IfSome b P → IfSome (option_or a b) P
or_some P None b first second = second
or_some P (Some x) b first second = first

pub none_both : {A : Type 0} (a b : Option A) → option_or a b ≡ None → (a ≡ None) × (b ≡ None)
none_both None b none = (refl, none)
none_both (Some x) b none = cc

first_is_some : {A : Type 0} (a b : Option A) → is_some a ≡ true → is_some (option_or a b) ≡ true
first_is_some None b is = cc
first_is_some (Some x) b is = refl

second_is_some : {A : Type 0} (a b : Option A) → is_some b ≡ true → is_some (option_or a b) ≡ true
second_is_some None b is = is
second_is_some (Some x) b is = refl

-- a constant is a value of one instruction
pub constant_is_single : (config : Config) (context : BodyContext) (set : List ℕ) (wanted : ValType)
    → is_some (first_constant config context wanted) ≡ true → is_some (first_single config context set wanted) ≡ true
unfolding first_single
constant_is_single config context set wanted is =
    let rest = option_or (default_struct config context wanted) (empty_array config context wanted) in
    let constant = option_or (first_constant config context wanted) rest in
    let function = option_or (first_of config context set wanted leaf.Reference) constant in
    let global = option_or (first_of config context set wanted leaf.Global) function in
    second_is_some (first_of config context set wanted leaf.Local) global
    (second_is_some (first_of config context set wanted leaf.Global) function
    (second_is_some (first_of config context set wanted leaf.Reference) constant
    (first_is_some (first_constant config context wanted) rest is)))

-- a value of one instruction, and one of more
pub within_single : (config : Config) (context : BodyContext) (set : List ℕ) (more : ℕ) (search : Bool) (wanted : ValType)
    (instruction : Instr) → Some instruction ≡ first_single config context set wanted → Some (only instruction) ≡ leaf_within config context
    set more search wanted
unfolding leaf_within
within_single config context set zero search wanted instruction is = rw (← is) refl
within_single config context set (suc more) search wanted instruction is = rw (← is) refl

pub within_none : (config : Config) (context : BodyContext) (set : List ℕ) (more : ℕ) (search : Bool) (wanted : ValType) → more ≡ 0
    → None ≡ first_single config context set wanted → None ≡ leaf_within config context set more search wanted
unfolding leaf_within
within_none config context set zero search wanted none is = rw (← is) refl
within_none config context set (suc more) search wanted none is = cc

pub within_more : (config : Config) (context : BodyContext) (set : List ℕ) (more : ℕ) (search : Bool) (wanted : ValType) → ¬ (more ≡ 0)
    → None ≡ first_single config context set wanted
    → unary_leaf config context set search (leaf_within config context set (more - 1)) wanted ≡ leaf_within config context set more search
    wanted
unfolding leaf_within
within_more config context set zero search wanted some is = absurd (some refl)
within_more config context set (suc more) search wanted some is = let same : suc more - 1 ≡ more = omega arith in rw (same, ← is) refl

-- what the first index has
pub first_found : {A : Type 0} (found : ℕ → Option A) (n k : ℕ) (x : A) → k < n → None ≡ first_below found k → Some x ≡ found k
    → Some x ≡ first_below found n
first_found found zero k x inside none is = absurd (omega arith)
first_found found (suc n) k x inside none is = elim (cases_lt k n) [
  | inl before ↦ rw (← first_found found n k x before none is) refl
  | inr past ↦
      let same : k ≡ n = omega arith in
      let none' : None ≡ first_below found n = subst (λ (i : ℕ). None ≡ first_below found i) same none in
      let is' : Some x ≡ found n = subst (λ (i : ℕ). Some x ≡ found i) same is in
      rw (← none', ← is') refl
]

pub first_next : {A : Type 0} (found : ℕ → Option A) (k next : ℕ) → next ≡ suc k → None ≡ first_below found k → None ≡ found k
    → None ≡ first_below found next
first_next found k next is none none' = rw (is, ← none, ← none') refl

pub never_first : {A : Type 0} (found : ℕ → Option A) (n k : ℕ) → k < n → first_below found n ≡ None → found k ≡ None
never_first found zero k inside none = absurd (omega arith)
never_first found (suc n) k inside none =
    let (before, last) = none_both (first_below found n) (found n) none in
    elim (cases_lt k n) [
      | inl less ↦ never_first found n k less before
      | inr past ↦ let same : n ≡ k = omega arith in subst (λ (i : ℕ). found i ≡ None) same last
    ]

-- what holds of each holds of the first
first_each : {A : Type 0} (P : A → Type 0) (found : ℕ → Option A) (n : ℕ) → ((k : ℕ) → IfSome (found k) P) → IfSome (first_below found n) P
first_each P found zero all = tt
first_each P found (suc n) all = or_some P (first_below found n) (found n) (first_each P found n all) (all n)

pub tried_each : {A : Type 0} (P : A → Type 0) (context : BodyContext) (search : Bool) (named : Option ℕ) (found : ℕ → Option A)
    → ((k : ℕ) → IfSome (found k) P) → IfSome (first_tried context search named found) P
tried_each P context search (Some ty) found all = all ty
tried_each P context true None found all = first_each P found (indexed (length context.types)) all
tried_each P context false None found all = tt

-- if no type that is tried has a value, this one has none
pub none_tried : {A : Type 0} (context : BodyContext) (search : Bool) (named : Option ℕ) (found : ℕ → Option A) (ty : ℕ)
    → first_tried context search named found ≡ None → IsTriedBy search named ty → ty < length context.types → found ty ≡ None
none_tried context search (Some other) found ty none tried inside = subst (λ (i : ℕ). found i ≡ None) tried none
none_tried context true None found ty none (on, few) inside = never_first found (indexed (length context.types)) ty
    (omega (arith, few, inside)) none
none_tried context false None found ty none (on, few) inside = absurd (false≢true on)

-- what a type has that is found by a search
pub tried_found : {A : Type 0} (context : BodyContext) (search : Bool) (named : Option ℕ) (found : Bool → ℕ → Option A) (k : ℕ) (x : A)
    → None ≡ named → search ≡ true → k < indexed (length context.types) → None ≡ first_below (found false) k → Some x ≡ found false k
    → Some x ≡ first_tried context search named (found (searches_on search named))
tried_found context true None found k x unnamed on inside none is = first_found (found false) (indexed (length context.types)) k x inside
    none is
tried_found context false None found k x unnamed on inside none is = absurd (false≢true on)
tried_found context search (Some ty) found k x unnamed on inside none is = cc

pub created_found : (config : Config) (context : BodyContext) (search : Bool) (wanted : ValType) (operand : Bool → ValType → Option Leaf)
    (k : ℕ) (leaf : Leaf) → None ≡ named_type wanted → search ≡ true → k < indexed (length context.types)
    → None ≡ first_below (created_over config context (operand false) wanted) k → Some leaf ≡ created_over config context (operand false)
    wanted k → Some leaf ≡ created_leaf config context search operand wanted
created_found config context search wanted operand k leaf unnamed on inside none is =
    tried_found context search (named_type wanted) (λ on. created_over config context (operand on) wanted) k leaf unnamed on inside none is
