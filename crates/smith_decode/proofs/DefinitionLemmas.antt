-- Definitions of tables and globals that are read: the readings are sound and complete.
use Rattle.smith_decode.proofs.Common.{[], ap, arith, branch, Decodes, expr_decodes, Front, front_joined, Instr, Is, IsByte, Joined}
use Rattle.smith_decode.proofs.Common.{joined_decodes, List, ne_eqb, Ok, refl, step, sym, TableType, test_passed, ℕ, ◌++◌, ◌∙◌, ◌∷◌, ◌≡◌}
use Rattle.smith_decode.proofs.Common.{◌≤◌}
use Rattle.smith_binary_sections.specs.Entities.{IsTableType}
use Rattle.smith_binary_read.proofs.ReadLemmas.{front_as}
use Rattle.smith_binary_read.proofs.ChoiceLemmas.{Begins, joined_begins, mapped_sound, tag_front}
use Rattle.smith_binary_read.proofs.TypeLemmas.{ref_begins, head_is}
use Rattle.smith_binary_read.proofs.EntityLemmas.{global_decodes, table_decodes}
use Rattle.smith_decode.specs.declared.definitions.TableDefinition.{TableDefinition}
use Rattle.smith_decode.specs.Definitions.{null_of, IsTypedTable, IsTable}
use Rattle.smith_decode.specs.DefinitionReadings.{IsGlobalDefinition, global_of, global_at, IsTableDefinition, table_of}
use Rattle.smith_decode.specs.DefinitionReadings.{initialised_at, table_at}

pub global_def_decodes : Decodes IsGlobalDefinition global_at
unfolding global_at
global_def_decodes = joined_decodes global_of (λ global. global.ty) (λ global. global.initial) (λ x y. refl) (λ x y. refl)
    (λ z. refl) global_decodes expr_decodes

initial_decodes : Decodes (λ (table : TableDefinition). IsTypedTable table.ty table.initial) initialised_at
initial_decodes = joined_decodes table_of (λ table. table.ty) (λ table. table.initial) (λ x y. refl) (λ x y. refl)
    (λ z. refl) table_decodes expr_decodes

-- two bytes, then more
two_bytes : {P : List ℕ → Type 0} (a b : ℕ) (piece : List ℕ) → Joined (IsByte a) (Joined (IsByte b) P) piece
    → Joined (Is (a ∷ b ∷ [])) P piece
two_bytes a b piece h = record {
  first = a ∷ b ∷ [];
  second = h.is_second.second;
  is_first = refl;
  is_second = h.is_second.is_second;
  whole = h.whole ∙ ap (λ (front : List ℕ). front ++ h.second) h.is_first
      ∙ ap (λ (more : List ℕ). a ∷ more) (h.is_second.whole ∙ ap (λ (front : List ℕ). front ++ h.is_second.second) h.is_second.is_first);
}

table_sound : (bytes : List ℕ) (x : TableDefinition) (rest : List ℕ) → table_at bytes ≡ Ok (x, rest)
    → Front (IsTableDefinition x) bytes rest
unfolding table_at
table_sound bytes x rest e = step _ _ _ e (λ byte first e. branch _ _ _ _ e
    (λ is e. step _ _ _ e (λ zero second e. test_passed _ _ _ _ e (λ is_zero e.
    front_as (λ piece h. IsTable.initialised (two_bytes 0x40 0x00 piece h))
    (front_joined (tag_front 0x40 bytes byte first is)
    (front_joined (tag_front 0 byte.1 zero second is_zero) (initial_decodes.sound zero.1 x rest e))))))
    (λ is_not e. mapped_sound IsTableDefinition (λ ty. table_of ty (null_of ty.element_type)) table_decodes
    (λ y piece h. IsTable.null refl h) bytes x rest e))

table_begins : (x : TableType) (piece : List ℕ) → IsTableType x piece → Begins (λ (b : ℕ). (0x63 ≤ b) × (b ≤ 0x74)) piece
table_begins x piece h = joined_begins _ _ _ piece (λ first one. ref_begins x.element_type first one) h

table_complete : (x : TableDefinition) (piece rest : List ℕ) → IsTableDefinition x piece → table_at (piece ++ rest) ≡ Ok (x, rest)
unfolding table_at
table_complete x piece rest (IsTable.initialised h) =
    let whole : piece ++ rest ≡ 0x40 ∷ 0x00
    ∷ (h.second ++ rest) = ap (λ (bytes : List ℕ). bytes ++ rest) (h.whole ∙ ap (λ (front : List ℕ). front ++ h.second) h.is_first) in
    ap table_at whole ∙ initial_decodes.complete x h.second rest h.is_second
table_complete x piece rest (IsTable.null e h) =
    let begins = table_begins x.ty piece h in
    let low : 0x63 ≤ begins.head = begins.test.0 in
    let high : begins.head ≤ 0x74 = begins.test.1 in
    rw (head_is _ piece rest begins (omega arith), ne_eqb begins.head 0x40 (λ e. omega arith), table_decodes.complete x.ty piece rest h)
    (ap (λ (initial : List Instr). Ok (table_of x.ty initial, rest)) (sym e))

pub table_def_decodes : Decodes IsTableDefinition table_at
table_def_decodes = record { sound = table_sound; complete = table_complete }
