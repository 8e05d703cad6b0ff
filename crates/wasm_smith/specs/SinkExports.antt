-- The exports of the sinks. Rules of this project.
use Rattle.std.specs.Prelude.{◌≡◌, ℕ, ◌+◌, List, Result, Ok, Err, codes}
use Rattle.wasm_smith.specs.Common.{Error, Export, Memory, ModuleParts}
use Rattle.wasm_smith.specs.GlobalExport.{with_global}

-- exports, and after them the sinks from this index on: `sink_i32`, `sink_i64` and `sink_i64_2`,
-- each made unused
abbrev pub with_sinks : ℕ → List Export → List Export
with_sinks first exports =
    let one = with_global (codes "sink_i32") first exports in
    let two = with_global (codes "sink_i64") (first + 1) one in
    with_global (codes "sink_i64_2") (first + 2) two

-- a module with exports of the sinks from this index on after its others
abbrev pub with_sink_exports : ℕ → ModuleParts → ModuleParts
with_sink_exports first m = record m { exports = with_sinks first m.exports }

-- the result: the exports are added; or memory runs out, and the module is unchanged
abbrev pub AnswersSinkExports : ℕ → ModuleParts → ModuleParts → Result (Unit {0}) Error → Type 0
AnswersSinkExports first old new (Ok u) = new ≡ with_sink_exports first old
AnswersSinkExports first old new (Err error) = (error ≡ Memory) × (new ≡ old)
