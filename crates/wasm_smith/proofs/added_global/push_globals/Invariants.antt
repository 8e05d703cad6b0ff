use Rattle.wasm_smith.proofs.Common.{length, ◌++◌, ◌≡◌}
use Rattle.std.proofs.Common.{take}
use Rattle.wasm_smith.specs.AddedGlobals.{added_types, added_definitions}
use Rattle.wasm_smith.proofs.added_global.push_globals.Given as goal

-- both lists have what was added so far
abbrev pub invariant-loop-val_type : goal.invariant-loop-val_type
invariant-loop-val_type l = record {
  globals : l.globals ≡ l.fn.globals ++ added_types (take l.val_type-index l.added);
  definitions : l.definitions ≡ l.fn.definitions ++ added_definitions (length l.fn.globals) (take l.val_type-index l.added);
}
