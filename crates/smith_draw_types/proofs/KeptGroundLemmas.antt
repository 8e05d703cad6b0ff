-- The record of functions, as the functions of spaces are noted in turn.
use Rattle.smith_draw_types.proofs.Common.{add-one, AreFuncGrounds, arith, Bool, Concrete, Context, Exact, false, FuncGrounds, get_or}
use Rattle.smith_draw_types.proofs.Common.{if◌then◌else◌, length, List, nat_le, reference_to, refl, subst, take, true, ℕ, ◌+◌, ◌<◌, ◌≡◌}
use Rattle.smith_draw_types.proofs.Common.{◌≤◌}
use Rattle.std.specs.Prelude.{◌&&◌}
use Rattle.std.proofs.Math.Seq.{take-suc}
use Rattle.std.proofs.lemmas.List.{length-take-le, take_all}
use Rattle.smith_types.specs.FuncGrounds.{IsFunctionAdded}
use Rattle.smith_draw_types.specs.Grounding.{with_functions}

-- the reference to a function, by the two tests that determine whether it is exact
by_tests : (defined descriptors : Bool) (index : ℕ)
    → (if defined then reference_to (if descriptors then Exact index else Concrete index) else reference_to (Concrete index)) ≡ reference_to
    (if (defined && descriptors) then Exact index else Concrete index)
by_tests true descriptors index = refl
by_tests false descriptors index = refl

-- the functions before one, and this one
pub function_added : (context : Context) (funcs : List ℕ) (k index d : ℕ) (exact : Bool) → k < length funcs → index ≡ get_or funcs k d
    → exact ≡ (nat_le context.imported_funcs k && context.features.custom_descriptors)
    → IsFunctionAdded (with_functions context (take k funcs)) (with_functions context (take (k + 1) funcs)) index exact
function_added context funcs k index d exact inside read is = record {
  types = refl;
  funcs = rw (add-one, read) (take-suc funcs k d inside);
  same = λ function i before. refl;
  added = rw (length-take-le k funcs (omega (arith, inside)), is)
      (by_tests (nat_le context.imported_funcs k) context.features.custom_descriptors index);
}

-- all functions
pub all_noted : (context : Context) (funcs : List ℕ) (n : ℕ) (grounds : FuncGrounds) → length funcs ≤ n
    → AreFuncGrounds (with_functions context (take n funcs)) grounds → AreFuncGrounds (with_functions context funcs) grounds
all_noted context funcs n grounds most h = subst (λ (l : List ℕ). AreFuncGrounds (with_functions context l) grounds) (take_all n funcs most)
    h
