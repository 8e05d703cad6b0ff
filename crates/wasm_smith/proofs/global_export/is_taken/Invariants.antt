use Rattle.wasm_smith.proofs.Common.{is_exported, ◌≡◌}
use Rattle.std.proofs.Common.{drop}
use Rattle.wasm_smith.proofs.global_export.is_taken.Given as goal

-- no earlier export has the name
abbrev pub invariant-loop-name : goal.invariant-loop-name
invariant-loop-name l = is_exported (drop l.name-index l.exports) l.text ≡ is_exported l.exports l.text
