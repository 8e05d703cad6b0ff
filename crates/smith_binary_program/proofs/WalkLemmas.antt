-- What each instruction of a typed body has.
use Rattle.smith_binary_program.proofs.Common.{All, All-cons, All-nil, All-same, All-weaker, BlockType, BodyContext, HasInstrType, Instr}
use Rattle.smith_binary_program.proofs.Common.{IsBlockType, List, ValType, ℕ, ◌++◌, ◌∷◌, ◌≡◌}
use Rattle.std.proofs.lemmas.List.Elements.{All-append}
use Rattle.smith_instr.specs.Contexts.{labelled}
use Rattle.smith_instr.specs.Sequences.{Stacked, AreTyped, nothing, step, block, loop, if_alone, if_else, try_table}
use Rattle.smith_instr.specs.declared.control.Catch.{Catch}
use Rattle.smith_instr.specs.declared.instr.Instr.TheVariants as instr

-- a property of a typed instruction, of the first one of a block, and of those that divide and end blocks
pub record IsKept (Keeps : BodyContext → Instr → Type 0) : Type 0 where
  pub steps : (context : BodyContext) (set : List ℕ) (x : Instr) (operands results : List ValType)
      → HasInstrType context set x operands results → Keeps context x
  pub blocks : (context : BodyContext) (ty : BlockType) (params results : List ValType) → IsBlockType context ty params results
      → Keeps context (instr.Block ty) × Keeps context (instr.Loop ty) × Keeps context (instr.If ty)
  pub tries : (context : BodyContext) (ty : BlockType) (clauses : List Catch) (params results : List ValType)
      → IsBlockType context ty params results → Keeps context (instr.TryTable ty clauses)
  pub others : (context : BodyContext) → Keeps context instr.Else × Keeps context instr.End
  pub within : (context : BodyContext) (taken : List ValType) (x : Instr) → Keeps (labelled context taken) x → Keeps context x

-- a block, then other instructions
enclosed : {Keeps : BodyContext → Instr → Type 0} → IsKept Keeps → (context : BodyContext) (taken : List ValType) (first : Instr)
    (all body more : List Instr)
    → all ≡ first ∷ (body ++ instr.End ∷ more) → Keeps context first → All (Keeps (labelled context taken)) body
    → All (Keeps context) more → All (Keeps context) all
enclosed {Keeps} kept context taken first all body more is starts inside after =
    All-same (Keeps context) all (first ∷ (body ++ instr.End ∷ more)) is
    (All-cons (Keeps context) first (body ++ instr.End ∷ more) starts
    (All-append (Keeps context) body (instr.End ∷ more)
    (All-weaker (Keeps (labelled context taken)) (Keeps context) (kept.within context taken) body inside)
    (All-cons (Keeps context) instr.End more (kept.others context).1 after)))

pub typed_keep : {Keeps : BodyContext → Instr → Type 0} → IsKept Keeps → {context : BodyContext} {xs : List Instr} {before after : Stacked}
    → AreTyped context xs before after → All (Keeps context) xs
typed_keep {Keeps} kept {context} (nothing counts same) = All-nil (Keeps context)
typed_keep {Keeps} kept {context} {before} (step {instruction = x} {more} s rest) =
    All-cons (Keeps context) x more (kept.steps context before.set x s.operands s.results s.typed) (typed_keep kept rest)
typed_keep kept {context} (block {ty} {all} {body} {more} {params} {results} is fits inner _ last) =
    enclosed kept context results (instr.Block ty) all body more is (kept.blocks context ty params results fits).0
    (typed_keep kept inner) (typed_keep kept last)
typed_keep kept {context} (loop {ty} {all} {body} {more} {params} {results} is fits inner _ last) =
    enclosed kept context params (instr.Loop ty) all body more is (kept.blocks context ty params results fits).1
    (typed_keep kept inner) (typed_keep kept last)
typed_keep kept {context} (if_alone {ty} {all} {body} {more} {params} {results} is fits inner _ _ last) =
    enclosed kept context results (instr.If ty) all body more is (kept.blocks context ty params results fits).2
    (typed_keep kept inner) (typed_keep kept last)
typed_keep {Keeps} kept {context} (if_else {ty} {all} {body} {other} {more} {params} {results} is fits inner otherwise _ last) =
    let weaker = All-weaker (Keeps (labelled context results)) (Keeps context) (kept.within context results) in
    let ending : All (Keeps context) (instr.End ∷ more) =
    All-cons (Keeps context) instr.End more (kept.others context).1 (typed_keep kept last) in
    let after : All (Keeps context) (instr.Else ∷ (other ++ instr.End ∷ more)) =
    All-cons (Keeps context) instr.Else (other ++ instr.End ∷ more) (kept.others context).0
    (All-append (Keeps context) other (instr.End ∷ more) (weaker other (typed_keep kept otherwise)) ending) in
    All-same (Keeps context) all (instr.If ty ∷ (body ++ instr.Else ∷ (other ++ instr.End ∷ more))) is
    (All-cons (Keeps context) (instr.If ty) (body ++ instr.Else ∷ (other ++ instr.End ∷ more))
    (kept.blocks context ty params results fits).2
    (All-append (Keeps context) body (instr.Else ∷ (other ++ instr.End ∷ more)) (weaker body (typed_keep kept inner)) after))
typed_keep kept {context} (try_table {ty} {clauses} {all} {body} {more} {params} {results} is fits _ inner _ last) =
    enclosed kept context results (instr.TryTable ty clauses) all body more is (kept.tries context ty clauses params results fits)
    (typed_keep kept inner) (typed_keep kept last)
