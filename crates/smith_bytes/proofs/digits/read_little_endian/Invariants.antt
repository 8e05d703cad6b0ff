use Rattle.std.proofs.Common.{◌≡◌, ◌<◌, ◌^◌, ◌-◌, drop, length}
use Rattle.smith_bytes.specs.Draws.{little_endian}
use Rattle.smith_bytes.proofs.digits.read_little_endian.Given as goal

abbrev pub invariant-loop-i : goal.invariant-loop-i
invariant-loop-i l = record {
  value : l.number ≡ little_endian (drop l.i l.digits);
  fits : l.number < 256 ^ (length l.digits - l.i);
}
