use Rattle.wasm_smith.proofs.Common.{max, ◌≡◌}
use Rattle.std.proofs.Common.{drop}
use Rattle.smith_draw_contents.specs.Exporting.{longest_export}
use Rattle.wasm_smith.proofs.global_export.longest_name.Given as goal

-- the longest name is the longest so far, or one of the rest
abbrev pub invariant-loop-name : goal.invariant-loop-name
invariant-loop-name l = max l.longest (longest_export (drop l.name-index l.exports)) ≡ longest_export l.exports
