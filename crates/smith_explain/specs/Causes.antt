-- Why an instruction is refused. Rules of this project, by the rules of the standard.
use Rattle.std.specs.Prelude.{◌≡◌, ◌⊎◌, ℕ, ◌+◌, ◌<◌, ◌≤◌, Option, Some, None, List, ◌∷◌, length, take, slice_get, reverse, All}
use Rattle.std.specs.List.{Contains}
use Rattle.smith_types.specs.Syntax.value_type.ValType.{ValType}
use Rattle.smith_instr.specs.Contexts.{BodyContext, IsBlockType, IsLocalSet}
use Rattle.smith_instr.specs.InstrTypes.{IsCatch}
use Rattle.smith_instr.specs.declared.control.BlockType.{BlockType}
use Rattle.smith_instr.specs.declared.instr.Instr.{Instr}
use Rattle.smith_instr.specs.declared.instr.Instr.TheVariants as instr
use Rattle.smith_instr.specs.declared.reference.ReferenceInstr.TheVariants as reference
use Rattle.smith_check_rules.specs.Sequences.{IsStep, Stacked, stacked}
use Rattle.smith_check_rules.specs.Slots.{values}
use Rattle.smith_check_rules.specs.declared.slot.Slot.{Slot}
use Rattle.smith_check_operands.specs.Closes.{IsFirst, IsPlain, label_of, labels_of, MayEnd, with_labels}
use Rattle.smith_check_operands.specs.Covers.{held}
use Rattle.smith_check_operands.specs.declared.frame.Kind.{Kind}
use Rattle.smith_check_operands.specs.declared.frame.Kind.TheVariants as kind
use Rattle.smith_check_body.specs.Checks.{HasNoType, IsReached}
use Rattle.smith_check_body.specs.Opens.{taken_by}
use Rattle.smith_check_body.specs.Verdicts.{IsRefused}
use Rattle.smith_check_body.specs.declared.checker.Checker.{Checker}
use Rattle.smith_explain.specs.Names.{IsNamed}
use Rattle.smith_explain.specs.declared.explanation.Cause.{Cause}
use Rattle.smith_explain.specs.declared.explanation.Cause.TheVariants as cause
use Rattle.smith_explain.specs.declared.explanation.Explanation.{Explanation}
use Rattle.smith_explain.specs.declared.explanation.Named.{Named}
use Rattle.smith_explain.specs.declared.explanation.Space.{Space}
use Rattle.smith_explain.specs.declared.explanation.Space.TheVariants as space
use Rattle.smith_explain.specs.declared.explanation.Unknown.{Unknown}

-- the number of items of an index space, given the number of labels (Validation, Contexts)
abbrev pub count_in : BodyContext → ℕ → Space → ℕ
count_in context labels space.Type = length context.types
count_in context labels space.Function = length context.funcs
count_in context labels space.Table = length context.tables
count_in context labels space.Memory = length context.memories
count_in context labels space.Global = length context.globals
count_in context labels space.Tag = length context.tags
count_in context labels space.Element = length context.elems
count_in context labels space.Data = context.datas
count_in context labels space.Local = length context.locals
count_in context labels space.Label = labels

-- the index of an item is past the end of its index space
pub record IsMissing (context : BodyContext) (labels : ℕ) (unknown : Unknown) : Type 0 where
  pub count : unknown.count ≡ count_in context labels unknown.named.space
  pub past : unknown.count ≤ unknown.named.index

-- the items of which this is true are there: the index of each is in its index space
abbrev pub AreThere : BodyContext → ℕ → (Named → Type 0) → Type 0
AreThere context labels Is = (one : Named) → Is one → one.index < count_in context labels one.space

-- a `ref.func` instruction names an undeclared function (Validation, Reference Instructions)
pub record IsUndeclared (context : BodyContext) (instruction : Instr) (function : ℕ) : Type 0 where
  pub is : instruction ≡ instr.Reference (reference.Func function)
  pub undeclared : Contains context.references function → ⊥

-- an instruction reads a local that is not set (Validation, Variable Instructions)
pub record IsUnset (context : BodyContext) (set : List ℕ) (instruction : Instr) (local : ℕ) : Type 0 where
  pub is : instruction ≡ instr.LocalGet local
  pub unset : (value : ValType) → IsLocalSet context set local value → ⊥

-- the labels of the blocks that are open (Validation, Contexts)
abbrev pub labels_in : Checker → List (List ValType)
labels_in checker = label_of checker.shape ∷ labels_of (reverse checker.outers.items)

-- a block of this kind and type has these operands (Validation, Control Instructions)
pub record IsBlockTaking (context : BodyContext) (opens : Kind) (ty : BlockType) (wanted : List Slot) : Type 0 where
  pub params : List ValType
  pub results : List ValType
  pub typed : IsBlockType context ty params results
  pub is : wanted ≡ values (taken_by opens params)

-- an `else` is allowed here, and an `end` of a block (Validation, Control Instructions)
abbrev pub IsElseAllowed : Checker → Type 0
IsElseAllowed checker = (0 < length checker.outers.items) × IsFirst checker.shape.kind

abbrev pub IsEndAllowed : BodyContext → Checker → Type 0
IsEndAllowed context checker =
    (0 < length checker.outers.items) × MayEnd context checker.shape.kind checker.shape.params checker.shape.results

-- an instruction accepts a stack of these types, if the locals that the checker has noted are set
-- (Validation, Instructions); the end of a block accepts the results of the block
abbrev pub IsTaking : BodyContext → Checker → Instr → List Slot → Type 0
IsTaking context checker (instr.Block ty) wanted = IsBlockTaking context kind.Block ty wanted
IsTaking context checker (instr.Loop ty) wanted = IsBlockTaking context kind.Loop ty wanted
IsTaking context checker (instr.If ty) wanted = IsBlockTaking context kind.If ty wanted
IsTaking context checker (instr.TryTable ty clauses) wanted =
    All (IsCatch (with_labels context (labels_in checker))) clauses × IsBlockTaking context kind.Block ty wanted
IsTaking context checker instr.Else wanted = IsElseAllowed checker × (wanted ≡ values checker.shape.results)
IsTaking context checker instr.End wanted = IsEndAllowed context checker × (wanted ≡ values checker.shape.results)
IsTaking context checker instruction wanted =
    (after : Stacked) × IsStep (with_labels context (labels_in checker)) instruction (stacked wanted checker.log.items) after

-- the stated reason is right for the start of a block, and for its end where this may end it
abbrev pub IsBlockCause : BodyContext → Kind → BlockType → Cause → Type 0
IsBlockCause context opens ty (cause.Operands wanted) = IsBlockTaking context opens ty wanted.items
IsBlockCause context opens ty cause.Other = HasNoType context ty
IsBlockCause context opens ty _ = ⊥

abbrev pub IsEndCause : Type 0 → Checker → Cause → Type 0
IsEndCause May checker (cause.Operands wanted) = May × (wanted.items ≡ values checker.shape.results)
IsEndCause May checker cause.Other = May → ⊥
IsEndCause May checker _ = ⊥

-- what an instruction names is there, declared and set: no reason that concerns it applies
pub record AreNamesRight (context : BodyContext) (checker : Checker) (instruction : Instr) : Type 0 where
  pub there : AreThere context (length checker.outers.items + 1) (IsNamed instruction)
  pub declared : (function : ℕ) → IsUndeclared context instruction function → ⊥
  pub set : (local : ℕ) → IsUnset context checker.log.items instruction local → ⊥

-- the stated reason is right for an instruction that names what is right: the types that it takes, or
-- something else, which an instruction that opens or closes a block has only if it takes no types
abbrev pub IsLastCause : BodyContext → Checker → Instr → Cause → Type 0
IsLastCause context checker instruction (cause.Operands wanted) = IsTaking context checker instruction wanted.items
IsLastCause context checker instruction cause.Other =
    IsPlain instruction ⊎ ((wanted : List Slot) → IsTaking context checker instruction wanted → ⊥)
IsLastCause context checker instruction _ = ⊥

-- the stated reason is right for an instruction, and the first that applies
abbrev pub IsCause : BodyContext → Checker → Instr → Cause → Type 0
IsCause context checker instruction (cause.Unknown unknown) =
    IsNamed instruction unknown.named × IsMissing context (length checker.outers.items + 1) unknown
IsCause context checker instruction (cause.Undeclared function) =
    AreThere context (length checker.outers.items + 1) (IsNamed instruction) × IsUndeclared context instruction function
IsCause context checker instruction (cause.Unset local) =
    AreThere context (length checker.outers.items + 1) (IsNamed instruction) × IsUnset context checker.log.items instruction local
IsCause context checker instruction said = AreNamesRight context checker instruction × IsLastCause context checker instruction said

-- the stated reason is right for an instruction, or for the last `end` of a body
abbrev pub IsCauseAt : BodyContext → Checker → Option Instr → Cause → Type 0
IsCauseAt context checker (Some instruction) said = IsCause context checker instruction said
IsCauseAt context checker None said = IsEndCause (length checker.outers.items ≡ 0) checker said

-- nothing is known of the instruction at an index: there is none, or one before it is refused
abbrev pub IsUnreached : BodyContext → List Instr → ℕ → Type 0
IsUnreached context body at = (length body < at) ⊎ ((early : ℕ) × (early < at) × IsRefused context body early)

-- an explanation of the instruction at an index of a body: its stack has the types that the
-- instructions before it leave in the innermost block, and its reason is right
pub record IsExplanation (context : BodyContext) (body : List Instr) (at : ℕ) (explanation : Explanation) : Type 0 where
  pub checker : Checker
  pub reached : IsReached context checker (take at body)
  pub stack : held explanation.stack ≡ held checker.operands
  pub cause : IsCauseAt context checker (slice_get body at) explanation.cause
