-- Sequences one after another: a sequence that is typed from values is typed from values that match
-- them.
use Rattle.std.proofs.Common.{◌≡◌, ℕ, List, [], ◌∷◌, ◌++◌, length, refl, sym, subst, ap, ◌∙◌, append_assoc}
use Rattle.std.specs.List.{AllZip}
use Rattle.std.proofs.Math.Seq.{take-append_seam}
use Rattle.std.proofs.lemmas.List.Elements.{All-append, All-take}
use Rattle.smith_types.specs.Subtyping.{IsValBelow}
use Rattle.smith_types.specs.Syntax.value_type.ValType.{ValType}
use Rattle.smith_types.specs.Syntax.composite_type.SubType.{SubType}
use Rattle.smith_types.proofs.GrowthLemmas.{IsValBelow-trans}
use Rattle.smith_instr.specs.Contexts.{BodyContext, AreValid, IsValid}
use Rattle.smith_instr.specs.Sequences.{Stacked, stacked, CountsAs, IsFramed, AreTyped, nothing, step, block, loop, if_alone, if_else}
use Rattle.smith_instr.specs.Sequences.{try_table}
use Rattle.smith_instr.specs.declared.instr.Instr.{Instr}
use Rattle.smith_instr.specs.declared.instr.Instr.TheVariants as instr
use Rattle.smith_instr.proofs.SequenceLemmas.{below_themselves}

-- values that match others, split as the others are
pub zip_parts : {A : Type 0} (R : A → A → Type 0) (xs base top : List A) → AllZip R xs (base ++ top)
    → (front : List A) × (rest : List A) × (xs ≡ front ++ rest) × AllZip R front base × AllZip R rest top
zip_parts R xs [] top below = ([], xs, refl, tt, below)
zip_parts R [] (b ∷ base) top below = absurd below
zip_parts R (x ∷ xs) (b ∷ base) top (first, below) =
    let (front, rest, is, left, right) = zip_parts R xs base top below in
    (x ∷ front, rest, ap (λ ys. x ∷ ys) is, (first, left), right)

pub zip_join : {A : Type 0} (R : A → A → Type 0) (xs ys base top : List A) → AllZip R xs base → AllZip R ys top
    → AllZip R (xs ++ ys) (base ++ top)
zip_join R [] ys [] top left right = right
zip_join R [] ys (b ∷ base) top left right = absurd left
zip_join R (x ∷ xs) ys [] top left right = absurd left
zip_join R (x ∷ xs) ys (b ∷ base) top (first, left) right = (first, zip_join R xs ys base top left right)

pub below_all : (types : List SubType) (xs ys zs : List ValType) → AllZip (IsValBelow types) xs ys → AllZip (IsValBelow types) ys zs
    → AllZip (IsValBelow types) xs zs
below_all types [] [] zs first second = second
below_all types [] (y ∷ ys) zs first second = absurd first
below_all types (x ∷ xs) [] zs first second = absurd first
below_all types (x ∷ xs) (y ∷ ys) [] first second = absurd second
below_all types (x ∷ xs) (y ∷ ys) (z ∷ zs) (p, first) (q, second) =
    (IsValBelow-trans types x y z p q, below_all types xs ys zs first second)

-- the first of some valid values are valid
valid_front : (context : BodyContext) (front rest : List ValType) → AreValid context (front ++ rest) → AreValid context front
valid_front context front rest valid = subst (AreValid context) (take-append_seam front rest)
    (All-take (IsValid context) (length front) (front ++ rest) valid)

-- the stack after an instruction that applies to values that match those before it
pub record IsLower (context : BodyContext) (operands results : List ValType) (set : List ℕ) (before between : Stacked) : Type 0 where
  pub stack : List ValType
  pub framed : IsFramed context operands results set before (stacked stack between.set)
  pub counts : CountsAs context stack between.stack

pub lower : (context : BodyContext) (operands results : List ValType) (set : List ℕ) (stack : List ValType) (before between : Stacked)
    → CountsAs context stack before.stack → IsFramed context operands results set before between → IsLower context operands results set
    (stacked stack before.set) between
lower context operands results set stack before between counts f =
    let types = context.types in
    let (front, top, is, left, right) = zip_parts (IsValBelow types) stack f.rest f.taken
    (subst (λ values. AllZip (IsValBelow types) stack values) f.under counts.below) in
    let rest_valid = valid_front context f.rest f.taken (subst (AreValid context) f.under counts.valid) in
    record {
      stack = front ++ f.given;
      framed = record {
        rest = front;
        taken = top;
        given = f.given;
        under = is;
        accepted = below_all types top f.taken operands right f.accepted;
        offered = f.offered;
        over = refl;
        set_then = f.set_then;
      };
      counts = record {
        below = subst (λ values. AllZip (IsValBelow types) (front ++ f.given) values) (sym f.over)
            (zip_join (IsValBelow types) front f.given f.rest f.given left (below_themselves types f.given));
        valid = subst (AreValid context) (sym f.over) (All-append (IsValid context) f.rest f.given rest_valid f.offered.valid);
      };
    }

-- a sequence from values that match those before it
pub from_below : {context : BodyContext} {xs : List Instr} {before after : Stacked} (stack : List ValType)
    → CountsAs context stack before.stack
    → AreTyped context xs before after → AreTyped context xs (stacked stack before.set) after
from_below {context = context} {before = before} {after = after} stack counts (nothing others same) =
    nothing (record { below = below_all context.types stack before.stack after.stack counts.below others.below; valid = others.valid }) same
from_below {context = context} {before = before} stack counts (step {between = between} s more) =
    let l = lower context s.operands s.results _ stack before between counts s.framed in
    step (record { operands = s.operands; results = s.results; typed = s.typed; framed = l.framed }) (from_below l.stack l.counts more)
from_below {context = context} {before = before} stack counts (block {between = between} is fits inner framed more) =
    let l = lower context _ _ [] stack before between counts framed in block is fits inner l.framed (from_below l.stack l.counts more)
from_below {context = context} {before = before} stack counts (loop {between = between} is fits inner framed more) =
    let l = lower context _ _ [] stack before between counts framed in loop is fits inner l.framed (from_below l.stack l.counts more)
from_below {context = context} {before = before} stack counts (if_alone {between = between} is fits inner same framed more) =
    let l = lower context _ _ [] stack before between counts framed in
    if_alone is fits inner same l.framed (from_below l.stack l.counts more)
from_below {context = context} {before = before} stack counts (if_else {between = between} is fits inner other framed more) =
    let l = lower context _ _ [] stack before between counts framed in
    if_else is fits inner other l.framed (from_below l.stack l.counts more)
from_below {context = context} {before = before} stack counts (try_table {between = between} is fits caught inner framed more) =
    let l = lower context _ _ [] stack before between counts framed in
    try_table is fits caught inner l.framed (from_below l.stack l.counts more)

-- a block that begins a sequence begins it with more instructions after the sequence
after_block : (first : Instr) (all body more ys : List Instr) → all ≡ first ∷ (body ++ instr.End ∷ more)
    → all ++ ys ≡ first ∷ (body ++ instr.End ∷ (more ++ ys))
after_block first all body more ys is = ap (λ (zs : List Instr). zs ++ ys) is ∙ ap (λ (zs : List Instr). first ∷ zs)
    (append_assoc body (instr.End ∷ more) ys)

after_else : (first : Instr) (all body other more ys : List Instr) → all ≡ first ∷ (body ++ instr.Else ∷ (other ++ instr.End ∷ more))
    → all ++ ys ≡ first ∷ (body ++ instr.Else ∷ (other ++ instr.End ∷ (more ++ ys)))
after_else first all body other more ys is =
    ap (λ (zs : List Instr). zs ++ ys) is ∙ ap (λ (zs : List Instr). first ∷ zs)
    (append_assoc body (instr.Else ∷ (other ++ instr.End ∷ more)) ys
    ∙ ap (λ (zs : List Instr). body ++ instr.Else ∷ zs) (append_assoc other (instr.End ∷ more) ys))

-- one sequence after another
pub typed_append : {context : BodyContext} {xs ys : List Instr} {a b c : Stacked} → AreTyped context xs a b → AreTyped context ys b c
    → AreTyped context (xs ++ ys) a c
typed_append {context = context} {ys = ys} {a = a} {c = c} (nothing counts same) second =
    subst (λ (set : List ℕ). AreTyped context ys (stacked a.stack set) c) same (from_below a.stack counts second)
typed_append (step s first) second = step s (typed_append first second)
typed_append {ys = ys} (block {ty = ty} {all = all} {body = body} {more = more} is fits inner framed first) second =
    block (after_block (instr.Block ty) all body more ys is) fits inner framed (typed_append first second)
typed_append {ys = ys} (loop {ty = ty} {all = all} {body = body} {more = more} is fits inner framed first) second =
    loop (after_block (instr.Loop ty) all body more ys is) fits inner framed (typed_append first second)
typed_append {ys = ys} (if_alone {ty = ty} {all = all} {body = body} {more = more} is fits inner same framed first) second =
    if_alone (after_block (instr.If ty) all body more ys is) fits inner same framed (typed_append first second)
typed_append {ys = ys} (if_else {ty = ty} {all = all} {body = body} {other = other} {more = more} is fits inner last framed first) second =
    if_else (after_else (instr.If ty) all body other more ys is) fits inner last framed (typed_append first second)
typed_append {ys = ys} (try_table {ty = ty} {clauses = clauses} {all = all} {body = body} {more = more} is fits caught inner framed first)
    second =
    try_table (after_block (instr.TryTable ty clauses) all body more ys is) fits caught inner framed (typed_append first second)
