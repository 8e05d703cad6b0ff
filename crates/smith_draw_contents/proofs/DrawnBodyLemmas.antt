-- Drawn bodies are valid, and raw bytes only if that is allowed. No local is a float without
-- floats, and none is a non-nullable reference that is not grounded.
use Rattle.smith_draw_contents.proofs.Common.{[], All, All-nil, arith, Bool, cond, cond_both, Config, Context, false, features_of}
use Rattle.smith_draw_contents.proofs.Common.{grow_least, grow_most, IsOrderly, IsTrue, length, List, recursion_from_All, refl, subst, true}
use Rattle.smith_draw_contents.proofs.Common.{ℕ, ◌≡◌}
use Rattle.std.specs.List.{Any, flat_map}
use Rattle.smith_bytes.specs.Draws.{bool_at}
use Rattle.smith_bytes.proofs.GrownLemmas.{grow_all}
use Rattle.smith_types.specs.Bodies.{AreInstructionsValid, IsBodyValid}
use Rattle.smith_types.specs.Floats.{IsNoFloat}
use Rattle.smith_types.specs.Syntax.code.Code.{Code}
use Rattle.smith_types.specs.Syntax.code.Instructions.{Instructions}
use Rattle.smith_types.specs.Syntax.code.Instructions.TheVariants.{Unreachable, Arbitrary}
use Rattle.smith_validity.proofs.HeldValueLemmas.{all_of_parts}
use Rattle.smith_config.specs.Sanitized.{IsSanitized}
use Rattle.smith_config.specs.Granted.{IsGranted}
use Rattle.smith_draw_types.proofs.GrantedLemmas.{locals_granted}
use Rattle.smith_draw_types.proofs.LocalLemmas.{locals_most, locals_valid, locals_no_float}
use Rattle.smith_draw_contents.specs.DrawnBodies.{raw_bytes_at, is_raw_at, instructions_at, body_at, bodies_at}
use Rattle.smith_module_rules.specs.Held.{IsRaw}

raw_allowed : (may : Bool) (drawn : Bool × List ℕ) (bytes : List ℕ) → (cond may drawn (false, bytes)).0 ≡ true → IsTrue may
raw_allowed true drawn bytes raw = refl
raw_allowed false drawn bytes raw = cc

instructions_valid : (config : Config) (bytes : List ℕ) → AreInstructionsValid config.allow_invalid_funcs (instructions_at config bytes).0
unfolding instructions_at raw_bytes_at is_raw_at
instructions_valid config bytes =
    let raw = is_raw_at config bytes in
    cond_both raw.0 (raw_bytes_at raw.1) (Unreachable, raw.1)
    (λ (r : Instructions × List ℕ). AreInstructionsValid config.allow_invalid_funcs r.0)
    (raw_allowed config.allow_invalid_funcs (bool_at bytes) bytes) (λ off. tt)

body_valid : (config : Config) (context : Context) (bytes : List ℕ) → IsSanitized config
    → IsBodyValid (features_of config) (length context.types) config.allow_invalid_funcs (body_at config context bytes).0
unfolding body_at
body_valid config context bytes sanitized = record {
  few = locals_most config context bytes;
  locals = locals_valid config context bytes sanitized;
  instructions = instructions_valid config _;
}

pub bodies_each : (config : Config) (context : Context) (count : ℕ) (bytes : List ℕ) → length (bodies_at config context count bytes).0
    ≡ count
unfolding bodies_at
bodies_each config context count bytes =
    let most = grow_most (λ _. body_at config context) count count count [] bytes (omega arith) in
    let least = grow_least (λ _. body_at config context) count count [] bytes (omega arith) in
    omega (arith, most, least)

pub bodies_valid : (config : Config) (context : Context) (count : ℕ) (bytes : List ℕ) → IsSanitized config
    → All (IsBodyValid (features_of config) (length context.types) config.allow_invalid_funcs) (bodies_at config context count bytes).0
unfolding bodies_at
bodies_valid config context count bytes sanitized =
    let P = λ (body : Code). IsBodyValid (features_of config) (length context.types) config.allow_invalid_funcs body in
    grow_all P (λ _. body_at config context) (λ _ after. body_valid config context after sanitized) count count [] bytes (All-nil P)

body_no_float : (config : Config) (context : Context) (bytes : List ℕ) → config.allow_floats ≡ false
    → All IsNoFloat (body_at config context bytes).0.locals
unfolding body_at
body_no_float config context bytes off = locals_no_float config context bytes off

pub bodies_no_float : (config : Config) (context : Context) (count : ℕ) (bytes : List ℕ) → config.allow_floats ≡ false
    → All IsNoFloat (flat_map (λ (body : Code). body.locals) (bodies_at config context count bytes).0)
unfolding bodies_at
bodies_no_float config context count bytes off =
    let P = λ (body : Code). All IsNoFloat body.locals in
    let each = grow_all P (λ _. body_at config context) (λ _ after. body_no_float config context after off) count count [] bytes
    (All-nil P) in
    all_of_parts IsNoFloat (λ (body : Code). body.locals) _ (recursion_from_All P _ each)

body_granted : (config : Config) (context : Context) (orderly : IsOrderly context.types) (bytes : List ℕ)
    → All (IsGranted config context) (body_at config context bytes).0.locals
unfolding body_at
body_granted config context orderly bytes = locals_granted config context orderly bytes

pub bodies_granted : (config : Config) (context : Context) (orderly : IsOrderly context.types) (count : ℕ) (bytes : List ℕ)
    → All (IsGranted config context) (flat_map (λ (body : Code). body.locals) (bodies_at config context count bytes).0)
unfolding bodies_at
bodies_granted config context orderly count bytes =
    let P = λ (body : Code). All (IsGranted config context) body.locals in
    let each = grow_all P (λ _. body_at config context) (λ _ after. body_granted config context orderly after) count count [] bytes
    (All-nil P) in
    all_of_parts (IsGranted config context) (λ (body : Code). body.locals) _ (recursion_from_All P _ each)

not_raw : (raw : Bool) (instructions : Instructions) → raw ≡ false → AreInstructionsValid raw instructions → ¬ IsRaw instructions
not_raw raw Unreachable off valid is_raw = is_raw
not_raw raw (Arbitrary bytes) off valid is_raw = cc

-- valid bodies are not raw bytes if raw bytes are not allowed
pub none_raw : (config : Config) (types : ℕ) (bodies : List Code) → config.allow_invalid_funcs ≡ false
    → All (IsBodyValid (features_of config) types config.allow_invalid_funcs) bodies → ¬ Any (λ (body : Code). IsRaw body.instructions)
    bodies
none_raw config types bodies off valid (place, body, inside, at, raw) = not_raw config.allow_invalid_funcs body.instructions off
    (subst (λ (one : Code). IsBodyValid (features_of config) types config.allow_invalid_funcs one) at
    (valid place body inside)).instructions raw
