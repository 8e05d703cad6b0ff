-- A body stays typed, and its instructions enabled, if it mixes its locals into sinks.
use Rattle.smith_program.proofs.Common.{[], append-nil, AreTyped, AreValid, BodyContext, Bool, drop, false, if◌then◌else◌, Instr}
use Rattle.smith_program.proofs.Common.{IsBodyTyped, IsValid, List, recursion_from_All, refl, stacked, subst, sym, take, true, ValType, ℕ}
use Rattle.smith_program.proofs.Common.{◌∷◌}
use Rattle.std.proofs.lemmas.List.{take-append-drop}
use Rattle.std.proofs.lemmas.List.Elements.{All-take}
use Rattle.smith_instr.proofs.CompositionLemmas.{typed_append}
use Rattle.smith_instr.proofs.SequenceLemmas.{finished}
use Rattle.smith_program.specs.Observed.{after_mixes, leaves, mixes, observed}
use Rattle.smith_program.proofs.InsertedLemmas.{Inserts, IsNeutral, inserted_typed, neutral_follow, none_neutral}
use Rattle.smith_program.proofs.MixLemmas.{AreSinks, mixes_neutral}

-- instructions or none
some_neutral : (context : BodyContext) (mixed : List Instr) (some : Bool) → IsNeutral context mixed
    → IsNeutral context (if some then mixed else [])
some_neutral context mixed true neutral = neutral
some_neutral context mixed false neutral = none_neutral context

mixes_inserted : (context : BodyContext) (mixed : List Instr) → IsNeutral context mixed → Inserts context (after_mixes mixed)
mixes_inserted context mixed neutral = (
  λ instruction. (
    if leaves instruction then mixed else [],
    [],
    refl,
    some_neutral context mixed (leaves instruction) neutral,
    neutral_follow context instruction [] (none_neutral context),
  ),
  refl,
  refl,
)

-- the locals of a function can be mixed in its body
locals_neutral : (context : BodyContext) (first : ℕ) → AreSinks context first → AreValid context context.locals
    → IsNeutral context (mixes first context.locals)
locals_neutral context first sinks valid =
    mixes_neutral context first 0 [] (take 1000 context.locals) (drop 1000 context.locals) sinks
    (sym (take-append-drop 1000 context.locals)) refl
    (recursion_from_All (IsValid context) (take 1000 context.locals) (All-take (IsValid context) 1000 context.locals valid))

-- such instructions alone
alone : (context : BodyContext) (labels : List (List ValType)) (mixed : List Instr) (values : List ValType) (set : List ℕ)
    → IsNeutral context mixed → AreValid context values
    → AreTyped (record context { labels = labels }) mixed (stacked values set) (stacked values set)
alone context labels mixed values set neutral valid =
    subst (λ (zs : List Instr). AreTyped (record context { labels = labels }) zs (stacked values set) (stacked values set))
    (append-nil mixed)
    (neutral labels [] values set (stacked values set) (finished (record context { labels = labels }) values set valid))

-- a body that mixes its locals
pub observed_typed : (context : BodyContext) (first : ℕ) (body : List Instr) → AreSinks context first → AreValid context context.locals
    → AreValid context context.results → IsBodyTyped context body → IsBodyTyped context (observed (mixes first context.locals) body)
observed_typed context first body sinks locals results typed =
    let mixed : List Instr = mixes first context.locals in
    let neutral : IsNeutral context mixed = locals_neutral context first sinks locals in
    let labels : List (List ValType) = context.results ∷ [] in
    let inside : BodyContext = record context { labels = labels } in
    record {
      set = typed.set;
      typed = typed_append (inserted_typed (after_mixes mixed) (mixes_inserted context mixed neutral) typed.typed)
          (alone context labels mixed context.results typed.set neutral results);
    }
