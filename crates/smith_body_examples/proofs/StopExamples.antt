-- Bodies that are only `unreachable`.
use Rattle.std.proofs.Common.{◌≡◌, true, List, [], ◌∷◌, ◌++◌, refl, sym, subst, ◌∙◌}
use Rattle.std.specs.Prelude.{IsTrue}
use Rattle.std.proofs.lemmas.List.Elements.{All-nil, All-push}
use Rattle.smith_types.proofs.GrowthLemmas.{IsValBelow-refl}
use Rattle.smith_types.specs.Syntax.value_type.ValType.{ValType}
use Rattle.smith_config.specs.declared.config.Config.{Config}
use Rattle.smith_instr.specs.Contexts.{BodyContext, IsValid, AreValid}
use Rattle.smith_instr.specs.Sequences.{Stacked, AreTyped, nothing, step, block, loop, if_alone, if_else, try_table}
use Rattle.smith_instr.specs.declared.instr.Instr.TheVariants as instr
use Rattle.smith_body_leaves.specs.Laws.{HasNoOther}
use Rattle.smith_body.specs.Stops.{AreStopsNeeded, HasNeededStops}
use Rattle.smith_body.proofs.DrawnLemmas.{alone}

-- the context of a body with one result, and the context inside the body
abbrev pub returning : BodyContext → ValType → BodyContext
returning context value = record context { results = value ∷ [] }

abbrev pub within : BodyContext → ValType → BodyContext
within context value = record (returning context value) { labels = (value ∷ []) ∷ [] }

-- in place of the only result
pub in_place : (config : Config) (context : BodyContext) (value : ValType) → IsValid context value
    → (IsTrue config.disallow_traps → HasNoOther config (within context value) [] value)
    → HasNeededStops config (returning context value) (instr.Unreachable ∷ [])
in_place config context value valid no_other =
    let inside = within context value in
    let none : AreValid inside [] = All-nil (IsValid inside) in
    let one : AreValid inside (value ∷ []) = All-push (IsValid inside) [] value none valid in
    let drawn = alone {config = config} inside instr.Unreachable [] (value ∷ []) (value ∷ []) [] [] [] ([], refl, one)
    (IsValBelow-refl context.types value, tt) one none refl
    (λ disallowed is. record { none = refl; wanted = value; one = refl; no_other = no_other disallowed }) in
    record { typed = record { set = []; typed = drawn.typed }; needed = drawn.needed }

-- the value that is left
at_end : (config : Config) {context : BodyContext} {a b : Stacked} (typed : AreTyped context [] a b) → AreStopsNeeded config typed
    → a.stack ≡ b.stack
unfolding AreStopsNeeded
at_end config (nothing counts same) needed = needed
at_end config (block is fits inner framed rest) needed = cc
at_end config (loop is fits inner framed rest) needed = cc
at_end config (if_alone is fits inner same framed rest) needed = cc
at_end config (if_else is fits inner last framed rest) needed = cc
at_end config (try_table is fits caught inner framed rest) needed = cc

-- on an empty stack
abbrev IsLeft : Config → BodyContext → Stacked → Stacked → Type 0
IsLeft config context a b = (wanted : ValType) × (b.stack ≡ wanted ∷ []) × HasNoOther config context a.set wanted

on_top : {A : Type 0} (rest taken given : List A) (value : A) → [] ≡ rest ++ taken → given ≡ value ∷ [] → rest ++ given ≡ value ∷ []
on_top [] taken given value under is = is
on_top (x ∷ rest) taken given value under is = cc

left : (config : Config) {context : BodyContext} {a b : Stacked} (typed : AreTyped context (instr.Unreachable ∷ []) a b)
    → AreStopsNeeded config typed → config.disallow_traps ≡ true → a.stack ≡ [] → IsLeft config context a b
unfolding AreStopsNeeded
left config (step first rest) (needed, more) disallowed empty =
    let stop = needed.stop disallowed refl in
    let f = first.framed in (
      stop.wanted,
      sym (at_end config rest more) ∙ (f.over ∙ on_top f.rest f.taken f.given stop.wanted (sym empty ∙ f.under) stop.one),
      stop.no_other,
    )
left config (block is fits inner framed rest) needed disallowed empty = cc
left config (loop is fits inner framed rest) needed disallowed empty = cc
left config (if_alone is fits inner same framed rest) needed disallowed empty = cc
left config (if_else is fits inner last framed rest) needed disallowed empty = cc
left config (try_table is fits caught inner framed rest) needed disallowed empty = cc

pub result_needed : (config : Config) (context : BodyContext) (value : ValType) → config.disallow_traps ≡ true
    → HasNeededStops config (returning context value) (instr.Unreachable ∷ []) → HasNoOther config (within context value) [] value
result_needed config context value disallowed body =
    let (wanted, is, none) = left config body.typed.typed body.needed disallowed refl in
    let same : wanted ≡ value = cc in
    subst (HasNoOther config (within context value) []) same none

pub nothing_needed : (config : Config) (context : BodyContext) → config.disallow_traps ≡ true → context.results ≡ []
    → HasNeededStops config context (instr.Unreachable ∷ []) → ⊥
nothing_needed config context disallowed empty body =
    let (wanted, is, none) = left config body.typed.typed body.needed disallowed refl in
    let never : [] ≡ wanted ∷ [] = sym empty ∙ is in
    cc
