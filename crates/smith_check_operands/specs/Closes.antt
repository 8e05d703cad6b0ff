-- The rest of a body from a point on: the instructions that close the open blocks.
use Rattle.std.specs.Prelude.{◌≡◌, ◌⊎◌, ℕ, List, [], ◌∷◌, ◌++◌, map, take}
use Rattle.smith_types.specs.Syntax.value_type.ValType.{ValType}
use Rattle.smith_check_rules.specs.declared.slot.Slot.{Slot}
use Rattle.smith_check_operands.specs.declared.frame.Frame.{Frame}
use Rattle.smith_check_operands.specs.declared.frame.Shape.{Shape}
use Rattle.smith_check_operands.specs.declared.frame.Kind.{Kind}
use Rattle.smith_check_operands.specs.declared.frame.Kind.TheVariants as kind
use Rattle.smith_instr.specs.declared.instr.Instr.{Instr}
use Rattle.smith_instr.specs.declared.instr.Instr.TheVariants as instr
use Rattle.smith_check_rules.specs.Slots.{values}
use Rattle.smith_instr.specs.Contexts.{BodyContext}
use Rattle.smith_instr.specs.InstrTypes.{sets}
use Rattle.smith_check_rules.specs.Sequences.{Stacked, stacked, CountsAs, IsStep, AreTyped}
use Rattle.smith_check_operands.specs.Covers.{Held, held, Covers, CoversGiven}

-- the operand types of a branch to a block
abbrev pub label_by : Kind → List ValType → List ValType → List ValType
label_by kind.Loop params results = params
label_by _ params results = results

abbrev pub label_of : Shape → List ValType
label_of shape = label_by shape.kind shape.params shape.results

abbrev pub labels_of : List Frame → List (List ValType)
labels_of frames = map (λ (frame : Frame). label_of frame.shape) frames

-- the context with these labels
abbrev pub with_labels : BodyContext → List (List ValType) → BodyContext
with_labels context labels = record context { labels = labels }

-- a block is the first part of an `if`
abbrev pub IsFirst : Kind → Type 0
IsFirst kind.If = Unit {0}
IsFirst _ = ⊥

-- a block may end here; an `if` without `else` passes its parameters on
abbrev pub MayEnd : BodyContext → Kind → List ValType → List ValType → Type 0
MayEnd context kind.If params results = CountsAs context (values params) (values results)
MayEnd context _ params results = Unit {0}

-- instructions that lead to these results, and then `Tail`
pub record ClosesWith (context : BodyContext) (results : List ValType) (Tail : List Instr → Type 0) (before : Stacked)
    (rest : List Instr) : Type 0 where
  pub body : List Instr
  pub tail : List Instr
  pub end : List ℕ
  pub is : rest ≡ body ++ tail
  pub typed : AreTyped context body before (stacked (values results) end)
  pub after : Tail tail

-- the `end` of a block, and then `Next`
pub record EndsAt (context : BodyContext) (kind : Kind) (params results : List ValType) (Next : List Instr → Type 0)
    (tail : List Instr) : Type 0 where
  pub more : List Instr
  pub is : tail ≡ instr.End ∷ more
  pub may : MayEnd context kind params results
  pub next : Next more

-- the `else` of an `if`, its second part with its `end`, and then `Next`
pub record ElseAt (context : BodyContext) (kind : Kind) (params results : List ValType) (set : List ℕ) (Next : List Instr → Type 0)
    (tail : List Instr) : Type 0 where
  pub other : List Instr
  pub more : List Instr
  pub end : List ℕ
  pub is : tail ≡ instr.Else ∷ (other ++ instr.End ∷ more)
  pub first : IsFirst kind
  pub typed : AreTyped context other (stacked (values params) set) (stacked (values results) end)
  pub next : Next more

abbrev pub Ends : BodyContext → Kind → List ValType → List ValType → List ℕ → (List Instr → Type 0) → List Instr → Type 0
Ends context kind params results set Next tail = EndsAt context kind params results Next tail ⊎ ElseAt context kind params results set Next
    tail

-- the results of a block are pushed, and then `Closes`
pub record Resumes (context : BodyContext) (results : List ValType) (old : Held) (Closes : List Slot → List Instr → Type 0)
    (more : List Instr) : Type 0 where
  pub between : List Slot
  pub covered : CoversGiven context (values results) old between
  pub closes : Closes between more

-- the instructions after those of the innermost block; at the start of that block, the locals of
-- `base` are set
abbrev pub IsTail : BodyContext → Shape → List ℕ → List Frame → List Instr → Type 0
IsTail context shape base [] tail = tail ≡ []
IsTail context shape base (outer ∷ outers) tail =
    Ends (with_labels context (label_of shape ∷ labels_of (outer ∷ outers))) shape.kind shape.params shape.results base
    (λ more. Resumes context shape.results (held outer.operands)
    (λ between rest. ClosesWith (with_labels context (label_of outer.shape ∷ labels_of outers)) outer.shape.results
    (IsTail context outer.shape (take outer.height base) outers)
    (stacked between base) rest) more)
    tail

-- instructions close the open blocks, from some stack that `old` covers
pub record Finishes (context : BodyContext) (shape : Shape) (old : Held) (set base : List ℕ) (outers : List Frame)
    (rest : List Instr) : Type 0 where
  pub stack : List Slot
  pub covered : Covers context old stack
  pub closes : ClosesWith (with_labels context (label_of shape ∷ labels_of outers)) shape.results (IsTail context shape base outers)
      (stacked stack set) rest

-- an instruction other than a block takes the stacks of `old` exactly to the stacks of `new`
pub record Reaches (context : BodyContext) (labels : List (List ValType)) (instruction : Instr) (set : List ℕ) (old : Held)
    (after : List Slot) : Type 0 where
  pub before : List Slot
  pub covered : Covers context old before
  pub step : IsStep (with_labels context labels) instruction (stacked before set) (stacked after (set ++ sets instruction))

pub record Steps (context : BodyContext) (labels : List (List ValType)) (instruction : Instr) (set : List ℕ) (old new : Held) : Type 0 where
  pub sound : (after : List Slot) → Covers context new after → Reaches context labels instruction set old after
  pub complete : (before : List Slot) (after : Stacked) → Covers context old before → IsStep (with_labels context labels) instruction
      (stacked before set) after → Covers context new after.stack

-- an instruction applies to no stack
abbrev pub StepsNowhere : BodyContext → List (List ValType) → Instr → List ℕ → Held → Type 0
StepsNowhere context labels instruction set old =
    (before : List Slot) (after : Stacked) → Covers context old before → IsStep (with_labels context labels) instruction
    (stacked before set) after → ⊥

-- an instruction that opens or closes no block
abbrev pub IsPlain : Instr → Type 0
IsPlain (instr.Block ty) = ⊥
IsPlain (instr.Loop ty) = ⊥
IsPlain (instr.If ty) = ⊥
IsPlain (instr.TryTable ty clauses) = ⊥
IsPlain instr.Else = ⊥
IsPlain instr.End = ⊥
IsPlain _ = Unit {0}

-- the innermost block may end here, because some stack has its results
pub record EndsHere (context : BodyContext) (results : List ValType) (old : Held) : Type 0 where
  pub stack : List Slot
  pub covered : Covers context old stack
  pub counts : CountsAs context stack (values results)
