-- A valid module stays valid with exports of its sinks.
use Rattle.wasm_smith.proofs.Common.{arith, codes, Err, Error, IsValid, length, ModuleParts, Ok, Result, subst, sym, ℕ, ◌+◌, ◌<◌}
use Rattle.wasm_smith.specs.GlobalExport.{with_global}
use Rattle.wasm_smith.specs.SinkExports.{AnswersSinkExports, with_sink_exports}
use Rattle.wasm_smith.proofs.GlobalExportLemmas.{exporting_valid}

exporting_sinks_valid : (first : ℕ) (m : ModuleParts) → first + 2 < length m.globals → IsValid m → IsValid (with_sink_exports first m)
exporting_sinks_valid first m within valid =
    let one = record m { exports = with_global (codes "sink_i32") first m.exports } in
    let two = record one { exports = with_global (codes "sink_i64") (first + 1) one.exports } in
    exporting_valid (codes "sink_i64_2") (first + 2) two (omega arith) within
    (exporting_valid (codes "sink_i64") (first + 1) one (omega arith) (omega (arith, within))
    (exporting_valid (codes "sink_i32") first m (omega arith) (omega (arith, within)) valid))

-- a valid module stays valid, whatever the result
pub sinks_exported_valid : (first : ℕ) (old new : ModuleParts) (result : Result (Unit {0}) Error) → AnswersSinkExports first old new result
    → first + 2 < length old.globals → IsValid old → IsValid new
sinks_exported_valid first old new (Ok u) added within valid = subst IsValid (sym added) (exporting_sinks_valid first old within valid)
sinks_exported_valid first old new (Err error) (memory, kept) within valid = subst IsValid (sym kept) valid
