use Rattle.std.proofs.Common.{◌≡◌, ◌<◌, ◌^◌, take}
use Rattle.smith_bytes.specs.Draws.{big_endian}
use Rattle.smith_bytes.proofs.digits.read_big_endian.Given as goal

abbrev pub invariant-loop-digit : goal.invariant-loop-digit
invariant-loop-digit l = record {
  value : l.number ≡ big_endian (take l.digit-index l.digits);
  fits : l.number < 256 ^ l.digit-index;
}
