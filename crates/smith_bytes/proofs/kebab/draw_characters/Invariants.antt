use Rattle.std.proofs.Common.{◌≡◌, ◌-◌, [], string_bytes}
use Rattle.smith_bytes.specs.Source.{KeepsPieces}
use Rattle.smith_bytes.specs.Kebab.{characters_at}
use Rattle.smith_bytes.proofs.kebab.draw_characters.Given as goal

abbrev pub invariant-loop : goal.invariant-loop
invariant-loop l = record {
  so_far : characters_at (l.size - l.counter) (string_bytes l.name) l.u ≡ characters_at l.size [] l.fn.u;
  left : KeepsPieces l.fn.u l.u;
}
