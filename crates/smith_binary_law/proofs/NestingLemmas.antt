-- Typed instructions are nested.
use Rattle.smith_binary_law.proofs.Common.{[], AreNested, Bool, false, Instr, List, refl, Some, subst, sym, true, ValType, ℕ, ◌++◌, ◌∷◌}
use Rattle.smith_binary_law.proofs.Common.{◌≡◌}
use Rattle.std.proofs.Common.{append-nil, append_assoc}
use Rattle.smith_instr.specs.Contexts.{BodyContext}
use Rattle.smith_instr.specs.InstrTypes.{HasInstrType}
use Rattle.smith_instr.specs.Sequences.{Stacked, IsBodyTyped, AreTyped, nothing, step, block, loop, if_alone, if_else, try_table}
use Rattle.smith_instr.specs.declared.instr.Instr.TheVariants as instr
use Rattle.smith_binary_instr.specs.Nesting.{blocks_after}

-- an instruction with a type of its own neither opens nor ends a block
keeps_blocks : (context : BodyContext) (set : List ℕ) (x : Instr) (operands results : List ValType) (blocks : List Bool)
    → HasInstrType context set x operands results → blocks_after x blocks ≡ Some blocks
keeps_blocks context set (instr.Block ty) operands results blocks h = absurd h
keeps_blocks context set (instr.Loop ty) operands results blocks h = absurd h
keeps_blocks context set (instr.If ty) operands results blocks h = absurd h
keeps_blocks context set instr.Else operands results blocks h = absurd h
keeps_blocks context set instr.End operands results blocks h = absurd h
keeps_blocks context set (instr.TryTable ty clauses) operands results blocks h = absurd h
keeps_blocks context set x operands results blocks h = refl

-- a block, then other instructions
enclosed : (has_else : Bool) (blocks : List Bool) (first : Instr) (all body more rest : List Instr)
    → all ≡ first ∷ (body ++ instr.End ∷ more) → blocks_after first blocks ≡ Some (has_else ∷ blocks)
    → AreNested (has_else ∷ blocks) (body ++ instr.End ∷ (more ++ rest)) → AreNested blocks (all ++ rest)
enclosed has_else blocks first all body more rest is starts inside =
    subst (λ (xs : List Instr). AreNested blocks (xs ++ rest)) (sym is) (
      has_else ∷ blocks,
      starts,
      subst (AreNested (has_else ∷ blocks))
          (sym (append_assoc body (instr.End ∷ more) rest)) inside,
    )

-- typed instructions leave the open blocks unchanged
typed_nested : {context : BodyContext} {xs : List Instr} {before after : Stacked} → AreTyped context xs before after
    → (blocks : List Bool) (rest : List Instr) → AreNested blocks rest → AreNested blocks (xs ++ rest)
typed_nested (nothing counts same) blocks rest h = h
typed_nested {context = context} {before = before} (step {instruction = x} s more) blocks rest h =
    (blocks, keeps_blocks context before.set x s.operands s.results blocks s.typed, typed_nested more blocks rest h)
typed_nested (block {ty = ty} {all = all} {body = body} {more = more} is fits inner framed last) blocks rest h =
    enclosed false blocks (instr.Block ty) all body more rest is refl (typed_nested inner (false ∷ blocks) (instr.End ∷ (more ++ rest))
    (blocks, refl, typed_nested last blocks rest h))
typed_nested (loop {ty = ty} {all = all} {body = body} {more = more} is fits inner framed last) blocks rest h =
    enclosed false blocks (instr.Loop ty) all body more rest is refl (typed_nested inner (false ∷ blocks) (instr.End ∷ (more ++ rest))
    (blocks, refl, typed_nested last blocks rest h))
typed_nested (if_alone {ty = ty} {all = all} {body = body} {more = more} is fits inner same framed last) blocks rest h =
    enclosed true blocks (instr.If ty) all body more rest is refl (typed_nested inner (true ∷ blocks) (instr.End ∷ (more ++ rest))
    (blocks, refl, typed_nested last blocks rest h))
typed_nested (if_else {ty = ty} {all = all} {body = body} {other = other} {more = more} is fits inner otherwise framed last) blocks rest h =
    let second : AreNested (false ∷ blocks) ((other ++ instr.End ∷ more) ++ rest) =
    subst (AreNested (false ∷ blocks)) (sym (append_assoc other (instr.End ∷ more) rest))
    (typed_nested otherwise (false ∷ blocks) (instr.End ∷ (more ++ rest)) (blocks, refl, typed_nested last blocks rest h)) in
    let first : AreNested (true ∷ blocks) ((body ++ instr.Else ∷ (other ++ instr.End ∷ more)) ++ rest) =
    subst (AreNested (true ∷ blocks)) (sym (append_assoc body (instr.Else ∷ (other ++ instr.End ∷ more)) rest))
    (typed_nested inner (true ∷ blocks) (instr.Else ∷ ((other ++ instr.End ∷ more) ++ rest)) (false ∷ blocks, refl, second)) in
    subst (λ (xs : List Instr). AreNested blocks (xs ++ rest)) (sym is) (true ∷ blocks, refl, first)
typed_nested (try_table {ty = ty} {clauses = clauses} {all = all} {body = body} {more = more} is fits caught inner framed last) blocks rest
    h =
    enclosed false blocks (instr.TryTable ty clauses) all body more rest is refl
    (typed_nested inner (false ∷ blocks) (instr.End ∷ (more ++ rest)) (blocks, refl, typed_nested last blocks rest h))

-- a body that is typed
pub body_nested : (context : BodyContext) (body : List Instr) → IsBodyTyped context body → AreNested [] body
body_nested context body h = subst (AreNested []) (append-nil body) (typed_nested h.typed [] [] refl)
