-- Blocks that hold no other blocks, taken apart: where their bodies end, and how these are typed.
use Rattle.smith_instr_examples.proofs.Common.{◌≡◌, ℕ, Bool, true, false, List, [], ◌∷◌, ◌++◌, refl, sym, subst, ap, ◌∙◌, append_assoc}
use Rattle.smith_instr_examples.proofs.Common.{ValType, I32, BodyContext, labelled, IsBlockType, Stacked, stacked, AreTyped, step, block}
use Rattle.smith_instr_examples.proofs.Common.{loop, if_alone, if_else, try_table, BlockType, Instr}
use Rattle.smith_instr.specs.Sequences.{IsFramed}
use Rattle.smith_instr.specs.declared.control.Catch.{Catch}
use Rattle.smith_instr.specs.declared.instr.Instr.TheVariants as instr
use Rattle.smith_instr_examples.proofs.SequenceExamples.{is_plain, step_of}

-- instructions that open no block, and are neither an else nor an end
unfoldable pub is_inner : Instr → Bool
is_inner instr.Else = false
is_inner instr.End = false
is_inner x = is_plain x

abbrev pub AreInner : List Instr → Type 0
AreInner [] = Unit {0}
AreInner (x ∷ xs) = (is_inner x ≡ true) × AreInner xs

-- none of the instructions is this one
abbrev Lack : Instr → List Instr → Type 0
Lack mark [] = Unit {0}
Lack mark (x ∷ xs) = (x ≡ mark → ⊥) × Lack mark xs

plain_of : (x : Instr) → is_inner x ≡ true → is_plain x ≡ true
unfolding is_plain is_inner
plain_of instr.Else is = cc
plain_of instr.End is = cc
plain_of x is = is

lack_of : (mark : Instr) → is_inner mark ≡ false → (xs : List Instr) → AreInner xs → Lack mark xs
lack_of mark marks [] inner = tt
lack_of mark marks (x ∷ xs) (first, inner) = (
  λ same. let never : true ≡ false = sym first ∙ ap is_inner same ∙ marks in
      cc,
  lack_of mark marks xs inner,
)

lack_append : (mark : Instr) (xs ys : List Instr) → Lack mark xs → Lack mark ys → Lack mark (xs ++ ys)
lack_append mark [] ys left right = right
lack_append mark (x ∷ xs) ys (first, left) right = (first, lack_append mark xs ys left right)

lack_not : (mark : Instr) (body more : List Instr) → Lack mark (body ++ mark ∷ more) → ⊥
lack_not mark [] more (first, rest) = first refl
lack_not mark (x ∷ body) more (first, rest) = lack_not mark body more rest

-- lists that are cut at the only place of an instruction
cut : (mark : Instr) (inner rest body more : List Instr) → Lack mark inner → Lack mark rest → inner ++ mark ∷ rest ≡ body ++ mark ∷ more
    → (body ≡ inner) × (more ≡ rest)
cut mark [] rest [] more before after is = (refl, let same : rest ≡ more = cc in sym same)
cut mark [] rest (y ∷ body) more before after is =
    let same : rest ≡ body ++ mark ∷ more = cc in absurd (lack_not mark body more (subst (Lack mark) same after))
cut mark (x ∷ inner) rest [] more (first, before) after is = let same : x ≡ mark = cc in absurd (first same)
cut mark (x ∷ inner) rest (y ∷ body) more (first, before) after is =
    let one : x ≡ y = cc in
    let others : inner ++ mark ∷ rest ≡ body ++ mark ∷ more = cc in
    let (bodies, mores) = cut mark inner rest body more before after others in
    (ap (λ (xs : List Instr). y ∷ xs) bodies ∙ ap (λ (z : Instr). z ∷ inner) (sym one), mores)

-- an else has no type by itself
else_alone : {context : BodyContext} (inner other : List Instr) {a b : Stacked} → AreInner inner
    → AreTyped context (inner ++ instr.Else ∷ other) a b → ⊥
unfolding is_plain
else_alone [] other all typed = let (between, first, rest) = step_of refl typed in first.typed
else_alone (x ∷ inner) other (first, all) typed = let (between, s, rest) = step_of (plain_of x first) typed in
    else_alone inner other all rest

-- a typed block: its body, with its label by its parameters and results, and what comes after it;
-- it needs its parameters, and an if a condition on top
pub record Parts (context : BodyContext) (label : List ValType → List ValType → List ValType) (needs : List ValType → List ValType)
    (ty : BlockType) (inner rest : List Instr) (before after : Stacked) : Type 0 where
  pub params : List ValType
  pub results : List ValType
  pub set : List ℕ
  pub between : Stacked
  pub fits : IsBlockType context ty params results
  pub within : AreTyped (labelled context (label params results)) inner (stacked params before.set) (stacked results set)
  pub framed : IsFramed context (needs params) results [] before between
  pub onwards : AreTyped context rest between after

-- the label of a block or of a loop, and the operands of a block or of an if
abbrev pub at_the_end : List ValType → List ValType → List ValType
at_the_end params results = results

abbrev pub at_the_start : List ValType → List ValType → List ValType
at_the_start params results = params

abbrev pub params_alone : List ValType → List ValType
params_alone params = params

abbrev pub and_a_condition : List ValType → List ValType
and_a_condition params = params ++ I32 ∷ []

parts : {context : BodyContext} {ty : BlockType} {inner rest : List Instr} {params results : List ValType} {set : List ℕ}
    {before between after : Stacked} (label : List ValType → List ValType → List ValType) (needs : List ValType → List ValType)
    → IsBlockType context ty params results → AreTyped (labelled context (label params results)) inner (stacked params before.set)
    (stacked results set)
    → IsFramed context (needs params) results [] before between → AreTyped context rest between after
    → Parts context label needs ty inner rest before after
parts {params = params} {results = results} {set = set} {between = between} label needs fits within framed onwards =
    record {
      params = params;
      results = results;
      set = set;
      between = between;
      fits = fits;
      within = within;
      framed = framed;
      onwards = onwards;
    }

-- a typed if with an else: both bodies
pub record Arms (context : BodyContext) (ty : BlockType) (inner other rest : List Instr) (before after : Stacked) : Type 0 where
  pub first : Parts context at_the_end and_a_condition ty inner rest before after
  pub second : Parts context at_the_end and_a_condition ty other rest before after

moved : {context : BodyContext} {label : List ValType → List ValType → List ValType} {needs : List ValType → List ValType}
    {of ty : BlockType} {body inner more rest : List Instr} {a b : Stacked}
    → of ≡ ty → (body ≡ inner) × (more ≡ rest) → Parts context label needs of body more a b → Parts context label needs ty inner rest a b
moved {context = context} {label = label} {needs = needs} {of = of} {ty = ty} {body = body} {inner = inner} {more = more} {rest = rest}
    {a = a} {b = b} same (bodies, mores) parts =
    subst (λ (t : BlockType). Parts context label needs t inner rest a b) same
    (subst (λ (xs : List Instr). Parts context label needs of xs rest a b) bodies
    (subst (λ (xs : List Instr). Parts context label needs of body xs a b) mores parts))

at_end : (inner rest : List Instr) → AreInner inner → AreInner rest → (body more : List Instr) → inner ++ instr.End ∷ rest
    ≡ body ++ instr.End ∷ more → (body ≡ inner) × (more ≡ rest)
unfolding is_inner
at_end inner rest all_inner all_rest body more is = cut instr.End inner rest body more (lack_of instr.End refl inner all_inner)
    (lack_of instr.End refl rest all_rest) is

pub no_else : (inner rest : List Instr) → AreInner inner → AreInner rest → (body ys : List Instr) → inner ++ instr.End ∷ rest
    ≡ body ++ instr.Else ∷ ys → ⊥
unfolding is_inner
no_else inner rest all_inner all_rest body ys is =
    let lack = lack_append instr.Else inner (instr.End ∷ rest) (lack_of instr.Else refl inner all_inner)
    (λ same. cc, lack_of instr.Else refl rest all_rest) in
    lack_not instr.Else body ys (subst (Lack instr.Else) is lack)

module _ {context : BodyContext} {ty : BlockType} {a b : Stacked} (inner rest : List Instr) (all_inner : AreInner inner)
    (all_rest : AreInner rest) where
  pub block_parts : AreTyped context (instr.Block ty ∷ (inner ++ instr.End ∷ rest)) a b → Parts context at_the_end params_alone ty inner
      rest a b
  block_parts (step s more) = absurd s.typed
  block_parts (block {ty = of} {body = body} {more = more} is fits within framed onwards) =
      let same : of ≡ ty = cc in
      moved same (at_end inner rest all_inner all_rest body more cc) (parts at_the_end params_alone fits within framed onwards)
  block_parts (loop is fits within framed onwards) = cc
  block_parts (if_alone is fits within counts framed onwards) = cc
  block_parts (if_else is fits within other framed onwards) = cc
  block_parts (try_table is fits caught within framed onwards) = cc

  pub loop_parts : AreTyped context (instr.Loop ty ∷ (inner ++ instr.End ∷ rest)) a b → Parts context at_the_start params_alone ty inner
      rest a b
  loop_parts (step s more) = absurd s.typed
  loop_parts (block is fits within framed onwards) = cc
  loop_parts (loop {ty = of} {body = body} {more = more} is fits within framed onwards) =
      let same : of ≡ ty = cc in
      moved same (at_end inner rest all_inner all_rest body more cc) (parts at_the_start params_alone fits within framed onwards)
  loop_parts (if_alone is fits within counts framed onwards) = cc
  loop_parts (if_else is fits within other framed onwards) = cc
  loop_parts (try_table is fits caught within framed onwards) = cc

  pub try_parts : {clauses : List Catch} → AreTyped context (instr.TryTable ty clauses ∷ (inner ++ instr.End ∷ rest)) a b
      → Parts context at_the_end params_alone ty inner rest a b
  try_parts (step s more) = absurd s.typed
  try_parts (block is fits within framed onwards) = cc
  try_parts (loop is fits within framed onwards) = cc
  try_parts (if_alone is fits within counts framed onwards) = cc
  try_parts (if_else is fits within other framed onwards) = cc
  try_parts (try_table {ty = of} {body = body} {more = more} is fits caught within framed onwards) =
      let same : of ≡ ty = cc in
      moved same (at_end inner rest all_inner all_rest body more cc) (parts at_the_end params_alone fits within framed onwards)

  pub if_parts : AreTyped context (instr.If ty ∷ (inner ++ instr.End ∷ rest)) a b → Parts context at_the_end and_a_condition ty inner rest a
      b
  if_parts (step s more) = absurd s.typed
  if_parts (block is fits within framed onwards) = cc
  if_parts (loop is fits within framed onwards) = cc
  if_parts (if_alone {ty = of} {body = body} {more = more} is fits within counts framed onwards) =
      let same : of ≡ ty = cc in
      moved same (at_end inner rest all_inner all_rest body more cc) (parts at_the_end and_a_condition fits within framed onwards)
  if_parts (if_else {body = body} {other = other} {more = more} is fits within last framed onwards) =
      absurd (no_else inner rest all_inner all_rest body (other ++ instr.End ∷ more) cc)
  if_parts (try_table is fits caught within framed onwards) = cc

-- an if with an else, taken apart
pub arms : {context : BodyContext} {ty : BlockType} {a b : Stacked} (inner other rest : List Instr) → AreInner inner → AreInner other
    → AreInner rest
    → AreTyped context (instr.If ty ∷ (inner ++ instr.Else ∷ (other ++ instr.End ∷ rest))) a b → Arms context ty inner other rest a b
unfolding is_inner
arms inner other rest all_inner all_other all_rest (step s more) = absurd s.typed
arms inner other rest all_inner all_other all_rest (block is fits within framed onwards) = cc
arms inner other rest all_inner all_other all_rest (loop is fits within framed onwards) = cc
arms {context = context} inner other rest all_inner all_other all_rest
    (if_alone {body = body} {more = more} {params = params} {results = results} {set = set} {before = before} is fits within counts framed
    onwards) =
    let lack = lack_append instr.End inner (instr.Else ∷ other) (lack_of instr.End refl inner all_inner)
    (λ same. cc, lack_of instr.End refl other all_other) in
    let equal : inner ++ instr.Else ∷ (other ++ instr.End ∷ rest) ≡ body ++ instr.End ∷ more = cc in
    let (bodies, mores) = cut instr.End (inner ++ instr.Else ∷ other) rest body more lack (lack_of instr.End refl rest all_rest)
    (append_assoc inner (instr.Else ∷ other) (instr.End ∷ rest) ∙ equal) in
    absurd (else_alone inner other all_inner
    (subst (λ (xs : List Instr). AreTyped (labelled context results) xs (stacked params before.set) (stacked results set)) bodies
    within))
arms {ty = ty} inner other rest all_inner all_other all_rest (if_else {ty = of} {body = body} {other = last} {more = more} is fits within
    without framed onwards) =
    let same : of ≡ ty = cc in
    let lack = lack_append instr.Else other (instr.End ∷ rest) (lack_of instr.Else refl other all_other)
    (λ never. cc, lack_of instr.Else refl rest all_rest) in
    let (bodies, after) = cut instr.Else inner (other ++ instr.End ∷ rest) body (last ++ instr.End ∷ more)
    (lack_of instr.Else refl inner all_inner) lack cc in
    let (others, mores) = at_end other rest all_other all_rest last more (sym after) in
    record {
      first = moved same (bodies, mores) (parts at_the_end and_a_condition fits within framed onwards);
      second = moved same (others, mores) (parts at_the_end and_a_condition fits without framed onwards);
    }
arms inner other rest all_inner all_other all_rest (try_table is fits caught within framed onwards) = cc
