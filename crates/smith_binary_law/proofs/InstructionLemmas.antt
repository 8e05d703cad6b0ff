-- Instructions, expressions and bodies have one meaning.
use Rattle.smith_binary_law.proofs.Common.{[], ap, AreNested, arith, Each, Instr, IsInstr, length, length-append, List, refl, subst, sym}
use Rattle.smith_binary_law.proofs.Common.{ValType, ℕ, ◌++◌, ◌∙◌, ◌∷◌, ◌≡◌}
use Rattle.std.proofs.Common.{◌≤◌}
use Rattle.smith_binary.specs.Unambiguous.{Same, IsUnambiguous, IsUnambiguousWhole}
use Rattle.smith_binary.proofs.UnambiguousLemmas.{first_same, sized_is_unambiguous, unambiguous_whole}
use Rattle.smith_binary_instr.specs.Bodies.{IsFunc, IsFuncBody}
use Rattle.smith_binary_instr.specs.Instructions.{IsExpr}
use Rattle.smith_binary_read_instr.specs.InstrReadings.{instr_at}
use Rattle.smith_binary_read_instr.proofs.InstrLemmas.{instr_decodes}
use Rattle.smith_binary_read_instr.proofs.NestedLemmas.{expr_decodes}
use Rattle.smith_binary_law.proofs.ReadLemmas.{read_once, locals_decodes}

pub instr_is_unambiguous : IsUnambiguous IsInstr
instr_is_unambiguous = read_once instr_decodes

pub instr_whole : IsUnambiguousWhole IsInstr
instr_whole = unambiguous_whole instr_is_unambiguous

-- no instruction is spelled by no byte, and no list with a first one
instr_long : (x : Instr) (piece : List ℕ) → IsInstr x piece → 1 ≤ length piece
unfolding instr_at
instr_long x [] h = absurd (let never = instr_decodes.complete x [] [] h in cc)
instr_long x (byte ∷ piece) h = omega arith

list_long : (x : Instr) (xs : List Instr) (piece : List ℕ) → Each IsInstr (x ∷ xs) piece → 1 ≤ length piece
unfolding Each
list_long x xs piece h = omega (arith, instr_long x h.first h.is_first, ap length h.whole, length-append h.first h.second)

-- bytes are not the same with a non-empty piece in front
never_longer : (piece last : List ℕ) → last ≡ piece ++ last → 1 ≤ length piece → ⊥
never_longer piece last e long = omega (arith, ap length e, length-append piece last)

-- two lists that are spelled by the same bytes up to the same end are equal
lists_same : (xs ys : List Instr) (piece more last : List ℕ) → Each IsInstr xs piece → Each IsInstr ys more → piece ++ last ≡ more ++ last
    → xs ≡ ys
unfolding Each
lists_same [] [] piece more last h k e = refl
lists_same [] (y ∷ ys) piece more last h k e =
    absurd (never_longer more last (ap (λ (bytes : List ℕ). bytes ++ last) (sym h) ∙ e) (list_long y ys more k))
lists_same (x ∷ xs) [] piece more last h k e =
    absurd (never_longer piece last (ap (λ (bytes : List ℕ). bytes ++ last) (sym k) ∙ sym e) (list_long x xs piece h))
lists_same (x ∷ xs) (y ∷ ys) piece more last h k e =
    let one = first_same last last instr_is_unambiguous h k e in
    let two = lists_same xs ys h.second k.second last h.is_second k.is_second one.after in
    ap (λ (x' : Instr). x' ∷ xs) one.item ∙ ap (λ (xs' : List Instr). y ∷ xs') two

-- expressions as a whole
pub expr_is_unambiguous : IsUnambiguousWhole IsExpr
expr_is_unambiguous = record {
  one = λ xs ys piece h k.
      lists_same xs ys h.first k.first (0x0B ∷ []) h.is_first k.is_first
      (ap (λ (bytes : List ℕ). h.first ++ bytes) (sym h.is_second) ∙ sym h.whole ∙ k.whole ∙ ap (λ (bytes : List ℕ). k.first ++ bytes)
      k.is_second);
}

-- nested expressions in front of any bytes
pub nested_same : (xs ys : List Instr) (piece more rest other : List ℕ) → AreNested [] xs → AreNested [] ys → IsExpr xs piece
    → IsExpr ys more → piece ++ rest ≡ more ++ other → Same xs ys rest other
nested_same xs ys piece more rest other m n h k e = (read_once expr_decodes).one xs ys piece more rest other (m, h) (n, k) e

-- the content of a body
func_is_unambiguous : IsUnambiguousWhole (λ (body : List ValType × List Instr). IsFunc body.0 body.1)
func_is_unambiguous = record {
  one = λ x y piece h k.
      let one =
      (read_once locals_decodes).one x.0 y.0 h.first k.first h.second k.second h.is_first k.is_first (sym h.whole ∙ k.whole) in
      let two = expr_is_unambiguous.one x.1 y.1 k.second (subst (IsExpr x.1) one.after h.is_second) k.is_second in
      ap (λ (ts : List ValType). (ts, x.1)) one.item ∙ ap (λ (is : List Instr). (y.0, is)) two;
}

pub body_is_unambiguous : IsUnambiguous (λ (body : List ValType × List Instr). IsFuncBody body.0 body.1)
body_is_unambiguous = sized_is_unambiguous func_is_unambiguous
