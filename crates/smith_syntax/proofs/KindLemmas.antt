-- The bits of kinds, one more at a time.
use Rattle.std.proofs.Common.{◌≡◌, List, [], ◌∷◌, ◌++◌, true, sym, bit_or, ap, ◌∙◌}
use Rattle.std.proofs.lemmas.List.Sums.{fold-append}
use Rattle.smith_syntax.specs.declared.instruction_kind.InstructionKind.{InstructionKind}
use Rattle.smith_syntax.specs.declared.instruction_kind.InstructionKinds.{InstructionKinds}
use Rattle.smith_syntax.specs.Instructions.{kind_bits, kinds_bits, with_kind, union_of}

pub union_of-push : (set : InstructionKinds) (kinds : List InstructionKind) (kind : InstructionKind)
    → kinds_bits set ≡ union_of kinds → kinds_bits (with_kind set true kind) ≡ union_of (kinds ++ kind ∷ [])
unfolding with_kind
union_of-push set kinds kind e =
    ap (λ bits. bit_or bits (kind_bits kind)) e ∙ sym (fold-append (λ bits kind. bit_or bits (kind_bits kind)) 0 kinds (kind ∷ []))
