-- The drawn bodies are those that the bytes produce.
use Rattle.smith_program.proofs.Common.{[], ap, append_assoc, arith, Code, drop, FuncType, get_or, get_or_from_slice_get, inl, inr, Instr}
use Rattle.smith_program.proofs.Common.{length, List, ModuleParts, refl, slice_get, Some, subst, suc, sym, ℕ, ◌++◌, ◌+◌, ◌<◌, ◌∙◌, ◌∷◌, ◌≡◌}
use Rattle.smith_program.proofs.Common.{◌≤◌}
use Rattle.std.proofs.Common.{drop-cons, zero}
use Rattle.std.proofs.lemmas.List.{append-nil, drop_all}
use Rattle.smith_types.proofs.ListLemmas.{slice_get-push}
use Rattle.smith_types.specs.Syntax.code.Instructions.{Instructions}
use Rattle.smith_types.specs.Syntax.code.Instructions.TheVariants.{Arbitrary, Unreachable}
use Rattle.smith_module_rules.specs.Held.{IsRaw}
use Rattle.smith_body.specs.Bodies.{body_at}
use Rattle.smith_program.specs.Bodies.{HasDefinedType, function_context}
use Rattle.smith_program.specs.DrawnBodies.{bodies_at, bodies_from, budget_at, defined_func_type, one_at, unless_raw}
use Rattle.smith_program.specs.declared.program.Body.{Body}
use Rattle.smith_program.specs.declared.program.Body.TheVariants as body

-- bodies after others
abbrev pub after : List Body → List Body × List ℕ → List Body × List ℕ
after bodies rest = (bodies ++ rest.0, rest.1)

pub none_drawn : (m : ModuleParts) (bytes : List ℕ) → after [] (bodies_from m 0 (drop 0 m.code) bytes) ≡ bodies_at m bytes
unfolding bodies_at
none_drawn m bytes = refl

pub code_there : (codes : List Code) (place : ℕ) → place < length codes → (code : Code) × (slice_get codes place ≡ Some code)
code_there [] place inside = absurd (omega arith)
code_there (code ∷ codes) zero inside = (code, refl)
code_there (code ∷ codes) (suc place) inside = code_there codes place (omega arith)

-- one more
pub one_drawn : (m : ModuleParts) (place : ℕ) (bodies : List Body) (body : Body) (bytes left : List ℕ) (whole : List Body × List ℕ)
    → place < length m.code → ((code : Code) → slice_get m.code place ≡ Some code → one_at m place code bytes ≡ (body, left))
    → after bodies (bodies_from m place (drop place m.code) bytes) ≡ whole
    → after (bodies ++ body ∷ []) (bodies_from m (place + 1) (drop (place + 1) m.code) left) ≡ whole
one_drawn m place bodies body bytes left whole inside drawn before =
    let (code, at) = code_there m.code place inside in
    let first : drop place m.code ≡ code ∷ drop (suc place) m.code =
    drop-cons m.code place code inside ∙ ap (λ (c : Code). c ∷ drop (suc place) m.code) (get_or_from_slice_get m.code place code code at) in
    let next : place + 1 ≡ suc place = omega arith in
    let rest : List Body × List ℕ = bodies_from m (suc place) (drop (suc place) m.code) left in
    let step : bodies_from m place (code ∷ drop (suc place) m.code) bytes ≡ (body ∷ rest.0, rest.1) =
    ap (λ (one : Body × List ℕ). (
      one.0 ∷ (bodies_from m (suc place) (drop (suc place) m.code) one.1).0,
      (bodies_from m (suc place) (drop (suc place) m.code) one.1).1,
    )) (drawn code at) in
    let same : after bodies (bodies_from m place (drop place m.code) bytes) ≡ after (bodies ++ body ∷ []) rest =
    ap (λ (codes : List Code). after bodies (bodies_from m place codes bytes)) first ∙ ap (λ (r : List Body × List ℕ). after bodies r) step
    ∙ ap (λ (l : List Body). (l, rest.1)) (sym (append_assoc bodies (body ∷ []) rest.0)) in
    rw next (sym same ∙ before)

-- a property of each body, and of one more, holds for all
pub still_held : (Holds : ℕ → Body → Type 0) (bodies : List Body) (body : Body) (place : ℕ) → length bodies ≡ place
    → ((k : ℕ) (one : Body) → slice_get bodies k ≡ Some one → Holds k one) → Holds place body
    → (k : ℕ) (one : Body) → slice_get (bodies ++ body ∷ []) k ≡ Some one → Holds k one
still_held Holds bodies body place each before last k one at = elim (slice_get-push bodies body k one at) [
  | inl was ↦ before k one was
  | inr (is, same) ↦ subst (λ (b : Body). Holds k b) same (subst (λ (n : ℕ). Holds n body) (sym (is ∙ each)) last)
]

-- all bodies are drawn
pub all_drawn : (m : ModuleParts) (place : ℕ) (bodies : List Body) (bytes : List ℕ) (whole : List Body × List ℕ) → length m.code ≤ place
    → after bodies (bodies_from m place (drop place m.code) bytes) ≡ whole → whole ≡ (bodies, bytes)
all_drawn m place bodies bytes whole past before =
    let none : drop place m.code ≡ [] = drop_all place m.code past in
    sym before ∙ rw (none, append-nil) refl

-- the body at a place: raw bytes are kept, and instructions are drawn
pub raw_drawn : (m : ModuleParts) (place : ℕ) (given : Code) (raw bytes : List ℕ) → given ≡ get_or m.code place given
    → given.instructions ≡ Arbitrary raw → (code : Code) → slice_get m.code place ≡ Some code → one_at m place code bytes
    ≡ (body.Raw, bytes)
unfolding one_at
raw_drawn m place given raw bytes read is code at =
    let same : given ≡ code = read ∙ get_or_from_slice_get m.code place code given at in
    let is' : code.instructions ≡ Arbitrary raw = ap (λ (c : Code). c.instructions) (sym same) ∙ is in
    ap (λ (i : Instructions). unless_raw m place code i bytes) is'

function_drawn : (m : ModuleParts) (place : ℕ) (code : Code) (instructions : Instructions) (function : FuncType) (drawn : List Instr)
    (bytes left : List ℕ) → ¬ IsRaw instructions → defined_func_type m place ≡ Some function
    → body_at m.config (function_context m function code.locals) (budget_at m place bytes) bytes ≡ (drawn, left)
    → unless_raw m place code instructions bytes ≡ (body.Drawn drawn, left)
function_drawn m place code (Arbitrary raw) function drawn bytes left not_raw there exact = absurd (not_raw tt)
function_drawn m place code Unreachable function drawn bytes left not_raw there exact = rw (there, exact) refl

pub defined_there : (m : ModuleParts) (place : ℕ) (function : FuncType) → HasDefinedType m place function → defined_func_type m place
    ≡ Some function
defined_there m place function (index, here, (t, at, is)) = rw (here, at, is) refl

pub instructions_drawn : (m : ModuleParts) (place : ℕ) (given : Code) (function : FuncType) (drawn : List Instr) (bytes left : List ℕ)
    → given ≡ get_or m.code place given → ¬ IsRaw given.instructions → HasDefinedType m place function
    → body_at m.config (function_context m function given.locals) (budget_at m place bytes) bytes ≡ (drawn, left) → (code : Code)
    → slice_get m.code place ≡ Some code → one_at m place code bytes ≡ (body.Drawn drawn, left)
unfolding one_at
instructions_drawn m place given function drawn bytes left read not_raw there exact code at =
    let same : given ≡ code = read ∙ get_or_from_slice_get m.code place code given at in
    subst (λ (code : Code). unless_raw m place code code.instructions bytes ≡ (body.Drawn drawn, left)) same
    (function_drawn m place given given.instructions function drawn bytes left not_raw (defined_there m place function there) exact)

-- the budget is at most that of the configuration, and none only if that is
pub budget_within : (m : ModuleParts) (place : ℕ) (bytes : List ℕ) → budget_at m place bytes ≤ m.config.max_instructions
unfolding budget_at
budget_within m place bytes = omega arith

pub budget_some : (m : ModuleParts) (place : ℕ) (bytes : List ℕ) → 0 < m.config.max_instructions → 0 < budget_at m place bytes
unfolding budget_at
budget_some m place bytes some = omega arith
