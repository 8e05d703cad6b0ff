-- Instructions that may be chosen are allowed.
use Rattle.smith_body_nodes.proofs.Common.{Bool, false, Features, Instr, length, List, refl, sym, true, ◌&&◌, ◌<◌, ◌||◌, ◌∙◌, ◌≡◌}
use Rattle.std.specs.Prelude.{All, IsTrue, not}
use Rattle.std.proofs.lemmas.Bool.{false≢true}
use Rattle.std.proofs.lemmas.List.Elements.{All-weaker}
use Rattle.smith_types.specs.Syntax.FeatureBits.{features_in}
use Rattle.smith_types.specs.Syntax.instruction_kind.InstructionKind.TheVariants as kind
use Rattle.smith_config.specs.declared.config.Config.{Config}
use Rattle.smith_instr.specs.Enabled.{is_enabled, IsEnabled, is_allowed, is_block_enabled}
use Rattle.smith_instr.specs.declared.control.BlockType.{BlockType}
use Rattle.smith_instr.specs.declared.control.Catch.{Catch}
use Rattle.smith_instr.specs.declared.instr.Instr.TheVariants as instr
use Rattle.smith_body_nodes.specs.Scopes.{is_permitted, kinds_of_bodies, IsAllowedIn}
use Rattle.smith_body_nodes.specs.Traps.{may_trap, IsTrapless}
use Rattle.smith_body_nodes.specs.declared.scope.Scope.{Scope}
use Rattle.smith_body_nodes.specs.Nodes.{IsHeadAllowed, is_drop_allowed, is_head_allowed}
use Rattle.smith_body_nodes.specs.declared.node.Head.{Head}
use Rattle.smith_body_nodes.specs.declared.node.Head.TheVariants as heads
use Rattle.smith_body_nodes.specs.declared.node.Sides.{Sides}
use Rattle.smith_body_nodes.proofs.OfferLemmas.{both}

parts : (enabled disallowed traps : Bool) → (enabled && (not disallowed || not traps)) ≡ true → (enabled ≡ true)
    × (disallowed ≡ true → traps ≡ true → ⊥)
parts false disallowed traps h = absurd (false≢true h)
parts true true true h = absurd (false≢true h)
parts true true false h = (refl, λ yes no. false≢true no)
parts true false traps h = (refl, λ yes no. false≢true yes)

pub permitted_allowed : (scope : Scope) (instruction : Instr)
    → IsTrue (is_permitted (features_in scope.features) scope.config.now instruction) → IsAllowedIn scope instruction
unfolding is_permitted
permitted_allowed scope instruction permitted =
    let (enabled, harmless) = parts (is_enabled (features_in scope.features) (kinds_of_bodies scope.config.now) instruction)
    scope.config.now.disallow_traps (may_trap instruction) permitted in
    record { enabled = enabled; trapless = λ disallowed traps. absurd (harmless disallowed traps) }

pub all_enabled : (scope : Scope) (body : List Instr) → All (IsAllowedIn scope) body
    → All (IsEnabled (features_in scope.features) (kinds_of_bodies scope.config.now)) body
all_enabled scope body allowed =
    All-weaker (IsAllowedIn scope) (IsEnabled (features_in scope.features) (kinds_of_bodies scope.config.now))
    (λ (instruction : Instr) (h : IsAllowedIn scope instruction). h.enabled) body allowed

pub all_trapless : (scope : Scope) (body : List Instr) → All (IsAllowedIn scope) body → IsTrue scope.config.now.disallow_traps
    → All IsTrapless body
all_trapless scope body allowed disallowed = All-weaker (IsAllowedIn scope) IsTrapless
    (λ (instruction : Instr) (h : IsAllowedIn scope instruction). h.trapless disallowed) body allowed

-- the conditions of a block that catches exceptions, in another order
shuffled : (b e k h : Bool) → (((b && e) && k) && h) ≡ (((e && k) && h) && ((b && k) && h))
shuffled true true true true = refl
shuffled true true true false = refl
shuffled true true false h = refl
shuffled true false k h = refl
shuffled false true true true = refl
shuffled false true true false = refl
shuffled false true false h = refl
shuffled false false k h = refl

try_permitted : (features : Features) (config : Config) (ty : BlockType) (clauses : List Catch)
    → is_permitted features config (instr.TryTable ty clauses) ≡ (is_permitted features config (instr.Throw 0) && is_permitted features
    config (instr.Block ty))
unfolding is_permitted is_enabled
try_permitted features config ty clauses = shuffled (is_block_enabled features ty) features.exceptions
    (is_allowed (kinds_of_bodies config) kind.Control) (not config.disallow_traps || true)

pub try_forbidden : (features : Features) (config : Config) (ty : BlockType) (clauses : List Catch) (drop : Bool)
    → is_permitted features config (instr.Throw 0) ≡ false → false ≡ (is_permitted features config (instr.TryTable ty clauses) && drop)
try_forbidden features config ty clauses drop off = rw (try_permitted features config ty clauses, off) refl

pub try_allowed : (features : Features) (config : Config) (ty : BlockType) (clauses : List Catch) (drop result : Bool)
    → is_permitted features config (instr.Throw 0) ≡ true → result ≡ (is_permitted features config (instr.Block ty) && drop)
    → result ≡ (is_permitted features config (instr.TryTable ty clauses) && drop)
try_allowed features config ty clauses drop result on is = rw (try_permitted features config ty clauses, on) is

pub try_head : (scope : Scope) (head : Head) (ty : BlockType) (clauses : List Catch) (sides : Sides) (result : Bool)
    → head ≡ heads.Try ty clauses sides
    → ((clauses : List Catch) → result ≡ (is_permitted (features_in scope.features) scope.config.now (instr.TryTable ty clauses) &&
    is_drop_allowed (features_in scope.features) scope.config.now (length sides.params)))
    → result ≡ is_head_allowed (features_in scope.features) scope.config.now head
try_head scope head ty clauses sides result is exact = rw is (exact clauses)

pub try_head_allowed : (scope : Scope) (head : Head) (ty : BlockType) (clauses : List Catch) (sides : Sides) (result : Bool)
    → head ≡ heads.Try ty clauses sides
    → ((clauses : List Catch) → result ≡ (is_permitted (features_in scope.features) scope.config.now (instr.TryTable ty clauses) &&
    is_drop_allowed (features_in scope.features) scope.config.now (length sides.params)))
    → (IsTrue result → 0 < length sides.params → IsAllowedIn scope instr.Drop) → IsTrue result → IsHeadAllowed scope head
try_head_allowed scope head ty clauses sides result is exact drops true_result =
    let (permitted, _) = both (is_permitted (features_in scope.features) scope.config.now (instr.TryTable ty clauses))
    (is_drop_allowed (features_in scope.features) scope.config.now (length sides.params)) (sym (exact clauses) ∙ true_result) in
    rw is (record { instruction = permitted_allowed scope (instr.TryTable ty clauses) permitted; drops = drops true_result })
