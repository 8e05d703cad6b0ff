-- A body stays typed with instructions in it that leave the stack as it is.
use Rattle.smith_program.proofs.Common.{[], ap, append_assoc, AreTyped, block, BodyContext, Bool, false, flat_map, flat_map-append}
use Rattle.smith_program.proofs.Common.{if_alone, if_else, inl, inr, Instr, IsStep, IsTrue, List, loop, nothing, refl, Stacked, stacked}
use Rattle.smith_program.proofs.Common.{step, subst, sym, true, try_table, ValType, ℕ, ◌++◌, ◌∙◌, ◌∷◌, ◌≡◌}
use Rattle.std.proofs.Common.{◌⊎◌}
use Rattle.smith_instr.specs.declared.instr.Instr.TheVariants as instr

-- instructions that can be placed before any others, whatever the stack and the labels
abbrev pub IsNeutral : BodyContext → List Instr → Type 0
IsNeutral context placed =
    (labels : List (List ValType)) (rest : List Instr) (base : List ValType) (set : List ℕ) (after : Stacked)
    → AreTyped (record context { labels = labels }) rest (stacked base set) after
    → AreTyped (record context { labels = labels }) (placed ++ rest) (stacked base set) after

pub none_neutral : (context : BodyContext) → IsNeutral context []
none_neutral context labels rest base set after typed = typed

pub both_neutral : (context : BodyContext) (one other : List Instr) → IsNeutral context one → IsNeutral context other
    → IsNeutral context (one ++ other)
both_neutral context one other first second labels rest base set after typed =
    subst (λ (all : List Instr). AreTyped (record context { labels = labels }) all (stacked base set) after)
    (sym (append_assoc one other rest))
    (first labels (other ++ rest) base set after (second labels rest base set after typed))

-- the instruction starts a block
abbrev pub opens : Instr → Bool
opens (instr.Block ty) = true
opens (instr.Loop ty) = true
opens (instr.If ty) = true
opens (instr.TryTable ty clauses) = true
opens _ = false

-- a stack after an instruction; after the start of a block it may be any
abbrev pub IsPast : BodyContext → Instr → Stacked → Type 0
IsPast context instruction between = IsTrue (opens instruction) ⊎ ((before : Stacked) × IsStep context instruction before between)

-- instructions that can be placed after an instruction, whatever the labels
abbrev pub Follow : BodyContext → Instr → List Instr → Type 0
Follow context instruction placed =
    (labels : List (List ValType)) (rest : List Instr) (between after : Stacked)
    → IsPast (record context { labels = labels }) instruction between
    → AreTyped (record context { labels = labels }) rest between after
    → AreTyped (record context { labels = labels }) (placed ++ rest) between after

pub neutral_follow : (context : BodyContext) (instruction : Instr) (placed : List Instr) → IsNeutral context placed
    → Follow context instruction placed
neutral_follow context instruction placed neutral labels rest between after past typed =
    neutral labels rest between.stack between.set after typed

-- an instruction becomes itself with such instructions before and after it
abbrev pub IsAmong : BodyContext → Instr → List Instr → Type 0
IsAmong context instruction placed =
    (before : List Instr) × (after : List Instr) × (placed ≡ before ++ instruction ∷ after) × IsNeutral context before
    × Follow context instruction after

-- each instruction does; `else` and `end` stay alone
abbrev pub Inserts : BodyContext → (Instr → List Instr) → Type 0
Inserts context f =
    ((instruction : Instr) → IsAmong context instruction (f instruction)) × (f instr.Else ≡ instr.Else ∷ [])
    × (f instr.End ≡ instr.End ∷ [])

-- the rest of a block, after its start and after its `else`
ended : (f : Instr → List Instr) (body more : List Instr) → f instr.End ≡ instr.End ∷ []
    → flat_map f (body ++ instr.End ∷ more) ≡ flat_map f body ++ instr.End ∷ flat_map f more
ended f body more at_end =
    flat_map-append f body (instr.End ∷ more) ∙ ap (λ (zs : List Instr). flat_map f body ++ (zs ++ flat_map f more)) at_end

ended_else : (f : Instr → List Instr) (body other more : List Instr) → f instr.Else ≡ instr.Else ∷ [] → f instr.End ≡ instr.End ∷ []
    → flat_map f (body ++ instr.Else ∷ (other ++ instr.End ∷ more))
    ≡ flat_map f body ++ instr.Else ∷ (flat_map f other ++ instr.End ∷ flat_map f more)
ended_else f body other more at_else at_end =
    flat_map-append f body (instr.Else ∷ (other ++ instr.End ∷ more))
    ∙ (ap (λ (zs : List Instr). flat_map f body ++ (zs ++ flat_map f (other ++ instr.End ∷ more))) at_else
    ∙ ap (λ (zs : List Instr). flat_map f body ++ instr.Else ∷ zs) (ended f other more at_end))

-- instructions that begin with one, with more before and after it
begun : (f : Instr → List Instr) (before after : List Instr) (first : Instr) (more then all : List Instr) → all ≡ first ∷ more
    → f first ≡ before ++ first ∷ after → flat_map f more ≡ then → flat_map f all ≡ before ++ first ∷ (after ++ then)
begun f before after first more then all is begins tail =
    ap (λ (zs : List Instr). flat_map f zs) is ∙ (ap (λ (zs : List Instr). zs ++ flat_map f more) begins
    ∙ (ap (λ (zs : List Instr). (before ++ first ∷ after) ++ zs) tail ∙ append_assoc before (first ∷ after) then))

-- the start of a block with more after it
opened : (first : Instr) (after body more : List Instr) → first ∷ (after ++ (body ++ more)) ≡ first ∷ ((after ++ body) ++ more)
opened first after body more = ap (λ (zs : List Instr). first ∷ zs) (sym (append_assoc after body more))

-- a sequence with such instructions
pub inserted_typed : {context : BodyContext} {xs : List Instr} {before after : Stacked} (f : Instr → List Instr) → Inserts context f
    → AreTyped context xs before after → AreTyped context (flat_map f xs) before after
inserted_typed f inserts (nothing others same) = nothing others same
inserted_typed {context = context} {before = before} {after = after} f inserts (step {instruction = instruction} {more = more}
    {between = between} s rest) =
    let (front, back, is, first, then) = inserts.0 instruction in
    subst (λ (zs : List Instr). AreTyped context zs before after)
    (sym (begun f front back instruction more (flat_map f more) (instruction ∷ more) refl is refl))
    (first context.labels (instruction ∷ (back ++ flat_map f more)) before.stack before.set after
    (step s (then context.labels (flat_map f more) between after (inr (before, s)) (inserted_typed f inserts rest))))
inserted_typed {context = context} {before = before} {after = after} f inserts (block {ty = ty} {all = all} {body = body} {more = more}
    {params = params} {results = results} {set = set} is fits inner framed rest) =
    let (front, back, at, first, then) = inserts.0 (instr.Block ty) in
    let tail = flat_map f body ++ instr.End ∷ flat_map f more in
    subst (λ (zs : List Instr). AreTyped context zs before after)
    (sym (begun f front back (instr.Block ty) (body ++ instr.End ∷ more) tail all is at (ended f body more inserts.2)))
    (first context.labels (instr.Block ty ∷ (back ++ tail)) before.stack before.set after
    (block (opened (instr.Block ty) back (flat_map f body) (instr.End ∷ flat_map f more)) fits
    (then (results ∷ context.labels) (flat_map f body) (stacked params before.set) (stacked results set) (inl refl)
    (inserted_typed f inserts inner)) framed
    (inserted_typed f inserts rest)))
inserted_typed {context = context} {before = before} {after = after} f inserts (loop {ty = ty} {all = all} {body = body} {more = more}
    {params = params} {results = results} {set = set} is fits inner framed rest) =
    let (front, back, at, first, then) = inserts.0 (instr.Loop ty) in
    let tail = flat_map f body ++ instr.End ∷ flat_map f more in
    subst (λ (zs : List Instr). AreTyped context zs before after)
    (sym (begun f front back (instr.Loop ty) (body ++ instr.End ∷ more) tail all is at (ended f body more inserts.2)))
    (first context.labels (instr.Loop ty ∷ (back ++ tail)) before.stack before.set after
    (loop (opened (instr.Loop ty) back (flat_map f body) (instr.End ∷ flat_map f more)) fits
    (then (params ∷ context.labels) (flat_map f body) (stacked params before.set) (stacked results set) (inl refl)
    (inserted_typed f inserts inner)) framed
    (inserted_typed f inserts rest)))
inserted_typed {context = context} {before = before} {after = after} f inserts (if_alone {ty = ty} {all = all} {body = body} {more = more}
    {params = params} {results = results} {set = set} is fits inner same framed rest) =
    let (front, back, at, first, then) = inserts.0 (instr.If ty) in
    let tail = flat_map f body ++ instr.End ∷ flat_map f more in
    subst (λ (zs : List Instr). AreTyped context zs before after)
    (sym (begun f front back (instr.If ty) (body ++ instr.End ∷ more) tail all is at (ended f body more inserts.2)))
    (first context.labels (instr.If ty ∷ (back ++ tail)) before.stack before.set after
    (if_alone (opened (instr.If ty) back (flat_map f body) (instr.End ∷ flat_map f more)) fits
    (then (results ∷ context.labels) (flat_map f body) (stacked params before.set) (stacked results set) (inl refl)
    (inserted_typed f inserts inner)) same framed
    (inserted_typed f inserts rest)))
inserted_typed {context = context} {before = before} {after = after} f inserts (if_else {ty = ty} {all = all} {body = body} {other = other}
    {more = more} {params = params} {results = results} {set = set} is fits inner last framed rest) =
    let (front, back, at, first, then) = inserts.0 (instr.If ty) in
    let past = instr.Else ∷ (flat_map f other ++ instr.End ∷ flat_map f more) in
    subst (λ (zs : List Instr). AreTyped context zs before after)
    (sym (begun f front back (instr.If ty) (body ++ instr.Else ∷ (other ++ instr.End ∷ more)) (flat_map f body ++ past) all is at
    (ended_else f body other more inserts.1 inserts.2)))
    (first context.labels (instr.If ty ∷ (back ++ (flat_map f body ++ past))) before.stack before.set after
    (if_else (opened (instr.If ty) back (flat_map f body) past) fits
    (then (results ∷ context.labels) (flat_map f body) (stacked params before.set) (stacked results set) (inl refl)
    (inserted_typed f inserts inner))
    (inserted_typed f inserts last) framed (inserted_typed f inserts rest)))
inserted_typed {context = context} {before = before} {after = after} f inserts (try_table {ty = ty} {clauses = clauses} {all = all}
    {body = body} {more = more} {params = params} {results = results} {set = set} is fits caught inner framed rest) =
    let (front, back, at, first, then) = inserts.0 (instr.TryTable ty clauses) in
    let tail = flat_map f body ++ instr.End ∷ flat_map f more in
    subst (λ (zs : List Instr). AreTyped context zs before after)
    (sym (begun f front back (instr.TryTable ty clauses) (body ++ instr.End ∷ more) tail all is at (ended f body more inserts.2)))
    (first context.labels (instr.TryTable ty clauses ∷ (back ++ tail)) before.stack before.set after
    (try_table (opened (instr.TryTable ty clauses) back (flat_map f body) (instr.End ∷ flat_map f more)) fits caught
    (then (results ∷ context.labels) (flat_map f body) (stacked params before.set) (stacked results set) (inl refl)
    (inserted_typed f inserts inner)) framed
    (inserted_typed f inserts rest)))
