use Rattle.std.proofs.Common.{◌≡◌, ◌+◌, ◌*◌, ◌%◌, ◌^◌, ◌∙◌, ap, arith, rules, sym, to_z, of_z}
use Rattle.std.proofs.lemmas.Grind.{common_steps}
use Rattle.std.proofs.lemmas.Int.{ints}
use Rattle.std.specs.Prelude.{ℤ}
use mir.Syntax.{w128}
use mir.Val.{SFits}
use Rattle.smith_binary_read.specs.Numbers.{vector_at, little_endian_at}
use Rattle.smith_binary_read.proofs.ShortLemmas.{sixteen_read, both_read, got}
use Rattle.smith_binary_read.proofs.reader.Reader.read_vector.Goals as goal

pub returns-in_err-low : goal.returns-in_err-low
unfolding vector_at
returns-in_err-low c = rw (sixteen_read c.args.self.now) (grind (arith, common_steps))

pub returns-in_err-high : goal.returns-in_err-high
unfolding vector_at
returns-in_err-high c = rw (sixteen_read c.args.self.now) (grind (arith, common_steps))

pub returns : goal.returns
unfolding vector_at
returns c =
    let bits = c.from.result + c.from-2.result * 2 ^ 64 % 2 ^ 128 in
    let value : bits ≡ c.in_ok-low.low + 256 ^ 8 * c.in_ok-high.high = omega arith in
    let whole : little_endian_at 16 c.args.self.now ≡ got bits c.read_f64-2.new.self = sixteen_read c.args.self.now
    ∙ both_read 8 bits _ _ c.in_ok-low.low c.in_ok-high.high _ _ c.in_ok-low.ensures c.in_ok-high.ensures value in
    let fits : SFits w128 c.with_bits.result = search rules in
    let same : to_z w128 (of_z w128 c.with_bits.result) ≡ c.with_bits.result = omega (arith, ints) in
    rw whole (ap (λ (z : ℤ). got z c.read_f64-2.new.self) (sym (same ∙ c.with_bits.ensures)))
