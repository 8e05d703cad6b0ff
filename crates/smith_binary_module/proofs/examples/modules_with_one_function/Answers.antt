use Rattle.std.proofs.Common.{◌^◌, ◌≤◌, inl, inr, [], ◌∷◌, ◌++◌, length, refl, arith, length-append}
use Rattle.smith_binary.specs.Pieces.{Each}
use Rattle.smith_binary.proofs.NumberLemmas.{unsigned_last}
use Rattle.smith_binary_module.specs.TooLong.{IsTooLong}
use Rattle.smith_binary_module.proofs.ExampleLemmas.{one_function_short}
use Rattle.smith_binary_module.proofs.examples.modules_with_one_function.Goals as goal

pub returns-clause-short : goal.returns-clause-short
returns-clause-short c = one_function_short

pub returns-clause-with_many_locals : goal.returns-clause-with_many_locals
returns-clause-with_many_locals c =
    λ locals many. IsTooLong.bodies (inl (inr (0, (locals, 0x00 ∷ 0x0B ∷ []), omega arith, refl, inl (inl many))))

pub returns-clause-with_many_bytes : goal.returns-clause-with_many_bytes
unfolding Each
returns-clause-with_many_bytes c = λ bytes many.
    let longer : 2 ^ 32 ≤ length ((0x00 ∷ []) ++ bytes) = omega (arith, many, length-append (0x00 ∷ []) bytes) in
    IsTooLong.bodies (inl (inr (
      0,
      ([], bytes),
      omega arith,
      refl,
      inr (record {
        piece = (0x00 ∷ []) ++ bytes;
        spelled = record {
          first = 0x00 ∷ [];
          second = bytes;
          is_first = record {
            first = 0x00 ∷ [];
            second = [];
            is_first = (unsigned_last 32 0 (omega arith) (omega arith)).spelled;
            is_second = refl;
            whole = refl;
          };
          is_second = refl;
          whole = refl;
        };
        long = longer;
      }),
    )))
