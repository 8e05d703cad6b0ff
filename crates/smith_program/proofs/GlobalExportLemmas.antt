-- The bodies of a module that exports globals that are added to it.
use Rattle.smith_program.proofs.Common.{[], append-nil, Code, Err, Error, flat_map, flat_map-append, FuncType, Instr, IsBodyTyped, List}
use Rattle.smith_program.proofs.Common.{ModuleParts, Ok, refl, Result, subst, sym, ValType, ℕ, ◌+◌, ◌∙◌, ◌∷◌, ◌≡◌}
use Rattle.std.specs.Prelude.{codes}
use Rattle.smith_types.specs.Syntax.entity_type.ExportKind.{ExportKind}
use Rattle.smith_types.specs.Syntax.entity_type.ExportKind.TheVariants as kind
use Rattle.wasm_smith.specs.FuelExport.{AnswersFuelExport}
use Rattle.wasm_smith.specs.GlobalExport.{unused_name, with_global}
use Rattle.wasm_smith.specs.SinkExports.{AnswersSinkExports, with_sinks}
use Rattle.smith_program.specs.Bodies.{AreBodiesOf, IsBodyAt, IsOfBody, function_context}
use Rattle.smith_program.specs.References.{exported_by, references_of}
use Rattle.smith_program.specs.declared.program.Body.{Body}
use Rattle.smith_program.specs.declared.program.Body.TheVariants as body

-- the functions that exports name
abbrev named_by_exports : List (List ℕ × ExportKind × ℕ) → List ℕ
named_by_exports exports = flat_map (λ (export : List ℕ × ExportKind × ℕ). exported_by export.1 export.2) exports

-- a module with other exports
abbrev with_exports : List (List ℕ × ExportKind × ℕ) → ModuleParts → ModuleParts
with_exports exports old = record old { exports = exports }

still_typed : (exports : List (List ℕ × ExportKind × ℕ)) (old : ModuleParts) (function : FuncType) (locals : List ValType)
    (instructions : List Instr) → named_by_exports exports ≡ named_by_exports old.exports
    → IsBodyTyped (function_context old function locals) instructions
    → IsBodyTyped (function_context (with_exports exports old) function locals) instructions
still_typed exports old function locals instructions same typed =
    let kept : references_of (with_exports exports old) ≡ references_of old = rw same refl in
    subst (λ (references : List ℕ). IsBodyTyped (record (function_context old function locals) { references = references }) instructions)
    (sym kept) typed

still_at : (exports : List (List ℕ × ExportKind × ℕ)) (old : ModuleParts) (place : ℕ) (code : Code) (given : Body)
    → named_by_exports exports ≡ named_by_exports old.exports → IsOfBody (IsBodyAt old place code) code given
    → IsOfBody (IsBodyAt (with_exports exports old) place code) code given
still_at exports old place code body.Raw same raw = raw
still_at exports old place code (body.Drawn instructions) same (not_raw, is) = (
  not_raw,
  record {
    function = is.function;
    there = is.there;
    typed = still_typed exports old is.function code.locals instructions same is.typed;
  },
)

still_bodies : (exports : List (List ℕ × ExportKind × ℕ)) (old new : ModuleParts) (bodies : List Body)
    → named_by_exports exports ≡ named_by_exports old.exports → new ≡ with_exports exports old → AreBodiesOf old bodies
    → AreBodiesOf new bodies
still_bodies exports old new bodies same is are =
    subst (λ (m : ModuleParts). AreBodiesOf m bodies) (sym is) (record {
      each = are.each;
      in_place = λ place code given at there. still_at exports old place code given same (are.in_place place code given at there);
    })

-- the export of a global names no function
names_none : (name : List ℕ) (index : ℕ) (exports : List (List ℕ × ExportKind × ℕ))
    → named_by_exports (with_global name index exports) ≡ named_by_exports exports
names_none name index exports =
    let f = λ (export : List ℕ × ExportKind × ℕ). exported_by export.1 export.2 in
    let one : List ℕ × ExportKind × ℕ = (unused_name name exports, kind.Global, index) in
    flat_map-append f exports (one ∷ []) ∙ append-nil (flat_map f exports)

-- the bodies after an attempt to export a counter, and the sinks
pub exporting_bodies : (index : ℕ) (old new : ModuleParts) (result : Result (Unit {0}) Error) (bodies : List Body)
    → AnswersFuelExport index old new result → AreBodiesOf old bodies → AreBodiesOf new bodies
exporting_bodies index old new (Ok u) bodies added are =
    still_bodies (with_global (codes "fuel") index old.exports) old new bodies (names_none (codes "fuel") index old.exports) added are
exporting_bodies index old new (Err error) bodies (memory, kept) are = rw kept are

pub sink_exporting_bodies : (first : ℕ) (old new : ModuleParts) (result : Result (Unit {0}) Error) (bodies : List Body)
    → AnswersSinkExports first old new result → AreBodiesOf old bodies → AreBodiesOf new bodies
sink_exporting_bodies first old new (Ok u) bodies added are =
    let one = with_global (codes "sink_i32") first old.exports in
    let two = with_global (codes "sink_i64") (first + 1) one in
    still_bodies (with_sinks first old.exports) old new bodies
    (names_none (codes "sink_i64_2") (first + 2) two ∙ (names_none (codes "sink_i64") (first + 1) one
    ∙ names_none (codes "sink_i32") first old.exports)) added are
sink_exporting_bodies first old new (Err error) bodies (memory, kept) are = rw kept are
