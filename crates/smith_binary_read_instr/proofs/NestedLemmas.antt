-- Expressions with nested blocks that are read: the reading is sound and complete.
use Rattle.smith_binary_read_instr.proofs.Common.{[], ap, arith, Bool, branch, Decodes, false, Front, front_as, front_joined, front_same}
use Rattle.smith_binary_read_instr.proofs.Common.{Instr, IsInstr, item_is, Joined, List, None, Ok, Option, refl, Some, step, subst, suc}
use Rattle.smith_binary_read_instr.proofs.Common.{sym, true, zero, ℕ, ◌++◌, ◌<◌, ◌∙◌, ◌∷◌, ◌≡◌, ◌≤◌}
use Rattle.std.proofs.Common.{drop, length}
use Rattle.std.proofs.Common.{append_assoc}
use Rattle.std.proofs.lemmas.List.{length-append}
use Rattle.smith_binary.specs.Pieces.{Each}
use Rattle.smith_binary_read.specs.Readings.{starts_with}
use Rattle.smith_binary_read.proofs.ChoiceLemmas.{starts_is}
use Rattle.smith_instr.specs.declared.instr.Instr.TheVariants as instr
use Rattle.smith_binary_instr.specs.Instructions.{IsExpr}
use Rattle.smith_binary_instr.specs.Nesting.{blocks_after, AreNested}
use Rattle.smith_binary_read_instr.specs.ControlReadings.{block_at}
use Rattle.smith_binary_read_instr.specs.ExpressionReadings.{opened_at, is_over, nested_instr_at, nested_at, expr_at}
use Rattle.smith_binary_read_instr.specs.Expressions.{IsNestedExpr}
use Rattle.smith_binary_read_instr.specs.InstrReadings.{low_instr_at, instr_at}
use Rattle.smith_binary_read_instr.proofs.InstrLemmas.{instr_sound, instr_complete}

-- expressions by their first instruction
no_more : IsExpr [] (0x0B ∷ [])
unfolding Each
no_more = record { first = []; second = 0x0B ∷ []; is_first = refl; is_second = refl; whole = refl }

one_more : (x : Instr) (xs : List Instr) (piece : List ℕ) → Joined (IsInstr x) (IsExpr xs) piece → IsExpr (x ∷ xs) piece
unfolding Each
one_more x xs piece h =
    let others = h.is_second in
    record {
      first = h.first ++ others.first;
      second = others.second;
      is_first = record { first = h.first; second = others.first; is_first = h.is_first; is_second = others.is_first; whole = refl };
      is_second = others.is_second;
      whole = h.whole ∙ ap (λ (more : List ℕ). h.first ++ more) others.whole ∙ sym (append_assoc h.first others.first others.second);
    }

-- a piece is an expression in these open blocks
abbrev IsWithin : List Bool → List Instr → List ℕ → Type 0
IsWithin blocks xs piece = AreNested blocks xs × IsExpr xs piece

over_is : (blocks : List Bool) (bytes : List ℕ) → is_over blocks bytes ≡ true → (blocks ≡ []) × (bytes ≡ 0x0B ∷ drop 1 bytes)
unfolding is_over
over_is [] bytes e = (refl, starts_is 0x0B bytes e)
over_is (block ∷ blocks) bytes e = absurd cc

opened_is : (o : Option (List Bool)) (bytes : List ℕ) (next : List Bool) → opened_at o bytes ≡ Ok next → o ≡ Some next
opened_is (Some blocks) bytes next e = let same : blocks ≡ next = cc in ap Some same
opened_is None bytes next e = absurd cc

-- an instruction in these open blocks, and the blocks after it
record OneInstr (blocks : List Bool) (x : Instr × List Bool) (bytes rest : List ℕ) : Type 0 where
  pub opened : blocks_after x.0 blocks ≡ Some x.1
  pub front : Front (IsInstr x.0) bytes rest

one_sound : (blocks : List Bool) (bytes : List ℕ) (x : Instr × List Bool) (rest : List ℕ) → nested_instr_at blocks bytes ≡ Ok (x, rest)
    → OneInstr blocks x bytes rest
unfolding nested_instr_at
one_sound blocks bytes x rest e = step _ _ _ e (λ one first e. step _ _ _ e (λ next second e.
    let same = item_is (one.0, next) x one.1 rest e in
    let opened = opened_is (blocks_after one.0 blocks) bytes next second in
    subst (λ (y : Instr × List Bool). OneInstr blocks y bytes rest) same.0
    (record { opened = opened; front = subst (Front (IsInstr one.0) bytes) same.1 (instr_sound bytes one.0 one.1 first) })))

nested_sound : (most : ℕ) (blocks : List Bool) (bytes : List ℕ) (xs : List Instr) (rest : List ℕ)
    → nested_at most blocks bytes ≡ Ok (xs, rest) → Front (IsWithin blocks xs) bytes rest
unfolding nested_at
nested_sound zero blocks bytes xs rest e = absurd cc
nested_sound (suc most) blocks bytes xs rest e =
    branch _ _ _ _ e
    (λ is e.
    let over = over_is blocks bytes is in
    front_same (IsWithin blocks) [] xs (drop 1 bytes) rest e
    (record { piece = 0x0B ∷ []; spelled = (over.0, no_more); whole = over.1 }))
    (λ is_not e. step _ _ _ e (λ x first e. step _ _ _ e (λ others second e.
    let one = one_sound blocks bytes x.0 x.1 first in
    let more = nested_sound most x.0.1 x.1 others.0 others.1 second in
    front_same (IsWithin blocks) (x.0.0 ∷ others.0) xs others.1 rest e
    (front_as (λ piece h. (
      (x.0.1, one.opened, h.is_second.0),
      one_more x.0.0 others.0 piece
          (record { first = h.first; second = h.second; is_first = h.is_first; is_second = h.is_second.1; whole = h.whole }),
    ))
    (front_joined one.front more)))))

-- an instruction has a byte, and one that belongs to no block is not the end of an expression
some_byte : (x : Instr) (piece : List ℕ) → IsInstr x piece → 1 ≤ length piece
unfolding instr_at
some_byte x [] h = absurd (let never = instr_complete x [] [] h in cc)
some_byte x (byte ∷ piece) h = omega arith

not_end : (x : Instr) (next : List Bool) → blocks_after x [] ≡ Some next → instr.End ≡ x → ⊥
not_end x next opened same =
    let never : blocks_after instr.End [] ≡ Some next = subst (λ (y : Instr). blocks_after y [] ≡ Some next) (sym same) opened in
    absurd cc

not_started : (x : Instr) (next : List Bool) (piece rest : List ℕ) (b : Bool) → starts_with 0x0B (piece ++ rest) ≡ b
    → blocks_after x [] ≡ Some next → IsInstr x piece → b ≡ false
unfolding instr_at low_instr_at block_at
not_started x next piece rest true started opened h =
    let end : instr_at (0x0B ∷ drop 1 (piece ++ rest)) ≡ Ok (x, rest) =
    ap instr_at (sym (starts_is 0x0B (piece ++ rest) started)) ∙ instr_complete x piece rest h in
    absurd (not_end x next opened (item_is instr.End x (drop 1 (piece ++ rest)) rest end).0)
not_started x next piece rest false started opened h = refl

not_over : (blocks : List Bool) (x : Instr) (next : List Bool) (piece rest : List ℕ) → blocks_after x blocks ≡ Some next → IsInstr x piece
    → is_over blocks (piece ++ rest) ≡ false
unfolding is_over
not_over [] x next piece rest opened h = not_started x next piece rest _ refl opened h
not_over (block ∷ blocks) x next piece rest opened h = refl

one_complete : (blocks : List Bool) (x : Instr) (next : List Bool) (piece rest : List ℕ) → blocks_after x blocks ≡ Some next
    → IsInstr x piece → nested_instr_at blocks (piece ++ rest) ≡ Ok ((x, next), rest)
unfolding nested_instr_at
one_complete blocks x next piece rest opened h = rw (instr_complete x piece rest h, opened) refl

nested_complete : (xs : List Instr) (most : ℕ) (blocks : List Bool) (piece rest : List ℕ) → AreNested blocks xs → Each IsInstr xs piece
    → length xs < most → nested_at most blocks (piece ++ (0x0B ∷ rest)) ≡ Ok (xs, rest)
unfolding nested_at Each is_over
nested_complete xs zero blocks piece rest nested h below = absurd (omega arith)
nested_complete [] (suc most) blocks piece rest nested h below =
    ap (λ (bytes : List ℕ). nested_at (suc most) blocks (bytes ++ (0x0B ∷ rest))) h
    ∙ ap (λ (none : List Bool). nested_at (suc most) none (0x0B ∷ rest)) nested
nested_complete (x ∷ xs) (suc most) blocks piece rest nested h below =
    let whole : piece ++ (0x0B ∷ rest) ≡ h.first ++ (h.second ++ (0x0B ∷ rest)) = ap (λ (bytes : List ℕ). bytes ++ (0x0B ∷ rest)) h.whole
    ∙ append_assoc h.first h.second (0x0B ∷ rest) in
    ap (nested_at (suc most) blocks) whole
    ∙ rw (
      not_over blocks x nested.0 h.first (h.second ++ (0x0B ∷ rest)) nested.1 h.is_first,
      one_complete blocks x nested.0 h.first (h.second ++ (0x0B ∷ rest)) nested.1 h.is_first,
      nested_complete xs most nested.0 h.second rest nested.2 h.is_second (omega arith),
    ) refl

each_long : (xs : List Instr) (piece : List ℕ) → Each IsInstr xs piece → length xs ≤ length piece
unfolding Each
each_long [] piece h = omega arith
each_long (x ∷ xs) piece h =
    let byte = some_byte x h.first h.is_first in
    let others = each_long xs h.second h.is_second in
    omega (arith, ap length h.whole, length-append h.first h.second, byte, others)

expr_sound : (bytes : List ℕ) (xs : List Instr) (rest : List ℕ) → expr_at bytes ≡ Ok (xs, rest) → Front (IsNestedExpr xs) bytes rest
unfolding expr_at
expr_sound bytes xs rest e = nested_sound (length bytes) [] bytes xs rest e

expr_complete : (xs : List Instr) (piece rest : List ℕ) → IsNestedExpr xs piece → expr_at (piece ++ rest) ≡ Ok (xs, rest)
unfolding expr_at
expr_complete xs piece rest nested =
    let h = nested.1 in
    let whole : piece ++ rest ≡ h.first ++ (0x0B ∷ rest) = ap (λ (bytes : List ℕ). bytes ++ rest)
    (h.whole ∙ ap (λ (end : List ℕ). h.first ++ end) h.is_second) ∙ append_assoc h.first (0x0B ∷ []) rest in
    let long = each_long xs h.first h.is_first in
    let room : length xs < length (h.first ++ (0x0B ∷ rest)) = omega (arith, long, length-append h.first (0x0B ∷ rest)) in
    ap (λ (bytes : List ℕ). nested_at (length bytes) [] bytes) whole
    ∙ nested_complete xs (length (h.first ++ (0x0B ∷ rest))) [] h.first rest nested.0 h.is_first room

pub expr_decodes : Decodes IsNestedExpr expr_at
expr_decodes = record { sound = expr_sound; complete = expr_complete }
