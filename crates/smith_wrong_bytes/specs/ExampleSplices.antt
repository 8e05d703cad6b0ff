-- Changes of examples.
use Rattle.std.specs.Prelude.{ℕ, List}
use Rattle.smith_wrong_bytes.specs.declared.change.Splice.{Splice}

abbrev pub change : ℕ → ℕ → List ℕ → Splice
change at removed inserted = record { at = at; removed = removed; inserted = inserted }
