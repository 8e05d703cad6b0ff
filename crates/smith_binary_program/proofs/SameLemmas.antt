-- Bytes are at most one program.
use Rattle.smith_binary_program.proofs.Common.{[], ap, arith, Body, Code, Contents, counted, get_or, length, List, ModuleParts, refl, subst}
use Rattle.smith_binary_program.proofs.Common.{sym, ValType, zip, ℕ, ◌∷◌, ◌≡◌}
use Rattle.std.specs.List.{AllZip}
use Rattle.smith_binary_law.proofs.InstructionLemmas.{expr_is_unambiguous}
use Rattle.smith_binary_law.proofs.ModuleLemmas.{module_same}
use Rattle.smith_binary_instr.specs.Instructions.{IsExpr}
use Rattle.smith_program.specs.declared.program.Body.TheVariants as body
use Rattle.smith_binary_program.specs.Bodies.{IsExpressionOf}
use Rattle.smith_binary_program.specs.Programs.{AreExpressionsOf, IsProgramBinary, program_contents, with_expressions}
use Rattle.smith_binary_program.specs.Valid.{HaveSameInstructions, IsSameFunction, IsSameProgram}

-- the items after the first
abbrev after_first : {A : Type 0} → List A → List A
after_first [] = []
after_first (x ∷ xs) = xs

-- equal expressions have the same instructions
same_instructions : (counters others : List ℕ) (code also : Code) (one other : Body) (piece more : List ℕ)
    → IsExpressionOf counters code one piece → IsExpressionOf others also other more → piece ≡ more
    → HaveSameInstructions counters others one other
same_instructions counters others code also (body.Drawn one) (body.Drawn other) piece more h k same =
    expr_is_unambiguous.one (counted counters one) (counted others other) more (subst (IsExpr (counted counters one)) same h) k
same_instructions counters others code also (body.Drawn one) body.Raw piece more h k same = tt
same_instructions counters others code also body.Raw other piece more h k same = tt

-- a program without expressions has no function with its body
no_functions : (counters : List ℕ) (codes : List Code) (bodies : List Body) (expressions : List (List ℕ))
    → AreExpressionsOf counters (zip codes bodies) expressions → [] ≡ with_expressions codes expressions → zip codes bodies ≡ []
no_functions counters [] bodies expressions h none = refl
no_functions counters (code ∷ codes) [] expressions h none = refl
no_functions counters (code ∷ codes) (given ∷ bodies) [] h none = absurd h
no_functions counters (code ∷ codes) (given ∷ bodies) (piece ∷ expressions) h none = absurd (omega (arith, ap length none))

-- functions with equal expressions are the same
same_functions : (counters others : List ℕ) (codes more : List Code) (bodies rest : List Body) (expressions pieces : List (List ℕ))
    → AreExpressionsOf counters (zip codes bodies) expressions → AreExpressionsOf others (zip more rest) pieces
    → with_expressions codes expressions ≡ with_expressions more pieces → AllZip (IsSameFunction counters others) (zip codes bodies)
    (zip more rest)
same_functions counters others [] more bodies rest [] pieces h k same =
    subst (AllZip (IsSameFunction counters others) []) (sym (no_functions others more rest pieces k same)) tt
same_functions counters others [] more bodies rest (piece ∷ expressions) pieces h k same = absurd h
same_functions counters others (code ∷ codes) more [] rest [] pieces h k same =
    subst (AllZip (IsSameFunction counters others) []) (sym (no_functions others more rest pieces k same)) tt
same_functions counters others (code ∷ codes) more [] rest (piece ∷ expressions) pieces h k same = absurd h
same_functions counters others (code ∷ codes) more (given ∷ bodies) rest [] pieces h k same = absurd h
same_functions counters others (code ∷ codes) [] (given ∷ bodies) rest (piece ∷ expressions) pieces h k same =
    absurd (omega (arith, ap length same))
same_functions counters others (code ∷ codes) (also ∷ more) (given ∷ bodies) [] (piece ∷ expressions) [] h k same =
    absurd (omega (arith, ap length same))
same_functions counters others (code ∷ codes) (also ∷ more) (given ∷ bodies) [] (piece ∷ expressions) (other ∷ pieces) h k same = absurd k
same_functions counters others (code ∷ codes) (also ∷ more) (given ∷ bodies) (one ∷ rest) (piece ∷ expressions) [] h k same = absurd k
same_functions counters others (code ∷ codes) (also ∷ more) (given ∷ bodies) (one ∷ rest) (piece ∷ expressions) (other ∷ pieces) (h, each)
    (k, others_each) same =
    let first : (code.locals, piece) ≡ (also.locals, other) = ap (λ (xs : List (List ValType × List ℕ)). get_or xs 0 (code.locals, piece))
    same in (
      record {
        locals = ap (λ (x : List ValType × List ℕ). x.0) first;
        instructions = same_instructions counters others code also given one piece other h k
            (ap (λ (x : List ValType × List ℕ). x.1) first);
      },
      same_functions counters others codes more bodies rest expressions pieces each others_each
          (ap (λ (xs : List (List ValType × List ℕ)). after_first xs) same),
    )

pub programs_same : (m n : ModuleParts) (bodies others : List Body) (bytes : List ℕ) → IsProgramBinary m bodies bytes
    → IsProgramBinary n others bytes → IsSameProgram m n bodies others
programs_same m n bodies others bytes h k =
    let same : program_contents m h.expressions ≡ program_contents n k.expressions = module_same (program_contents m h.expressions)
    (program_contents n k.expressions) bytes h.spelled k.spelled in
    record {
      parts = ap (λ (contents : Contents). record contents { bodies = [] }) same;
      functions = same_functions m.fuel_globals n.fuel_globals m.code n.code bodies others h.expressions k.expressions h.each k.each
          (ap (λ (contents : Contents). contents.bodies) same);
    }
