-- A body stays typed with canonical NaNs.
use Rattle.smith_program.proofs.Common.{[], ap, AreTyped, AreValid, BodyContext, Bool, false≢true, flat_map, HasInstrType, inl, inr, Instr}
use Rattle.smith_program.proofs.Common.{IsBodyTyped, IsStep, IsTrue, IsValid, List, Option, pos, recursion_from_All, refl, sink, Some}
use Rattle.smith_program.proofs.Common.{Stacked, stacked, subst, sym, ValType, ℕ, ◌++◌, ◌+◌, ◌∙◌, ◌∷◌, ◌≡◌}
use Rattle.std.proofs.Common.{None}
use Rattle.std.specs.List.{AllZip}
use Rattle.smith_types.specs.Subtyping.{IsValBelow}
use Rattle.smith_types.specs.Syntax.composite_type.SubType.{SubType}
use Rattle.smith_types.specs.Syntax.value_type.ValType.TheVariants as value_type
use Rattle.smith_instr.specs.InstrTypes.{sets}
use Rattle.smith_instr.specs.declared.instr.Instr.TheVariants as instr
use Rattle.smith_instr.specs.declared.numeric.FloatCompare.TheVariants as float_compare
use Rattle.smith_instr.specs.declared.numeric.NumericInstr.TheVariants as numeric
use Rattle.smith_instr.specs.declared.vector.VectorFloatBinary.TheVariants as vector_binary
use Rattle.smith_instr.specs.declared.vector.VectorInstr.TheVariants as vector
use Rattle.smith_program.specs.Canonical.{canonical, canonical_by, canonical_if, followed}
use Rattle.smith_program.specs.Nans.{nan_of}
use Rattle.smith_program.specs.declared.nans.Float.{Float}
use Rattle.smith_program.specs.declared.nans.Float.TheVariants.{F32, F64, F32x4, F64x2}
use Rattle.smith_program.proofs.InsertedLemmas.{Follow, Inserts, inserted_typed, neutral_follow, none_neutral, opens}
use Rattle.smith_program.proofs.MixLemmas.{IsSink}
use Rattle.smith_program.proofs.NanLemmas.{Needs, float_needs, gives_float, value_of}
use Rattle.smith_program.proofs.StepLemmas.{chosen, joined, popped, pushed}

-- the scratch globals from an index on; the vector is among them only if vectors count
abbrev pub HasScratch : BodyContext → Bool → ℕ → Type 0
HasScratch context vectors first =
    IsSink context first value_type.F32 × IsSink context (first + 1) value_type.F64
    × (IsTrue vectors → IsSink context (first + 2) value_type.V128)

-- a value of a type goes through its scratch global, before other instructions
by_then : (context : BodyContext) (scratch : ℕ) (nan equal choice : Instr) (value condition : ValType) (base : List ValType) (set : List ℕ)
    (rest : List Instr) (after : Stacked) → IsSink context scratch value → IsValid context value → IsValid context condition
    → HasInstrType context set nan [] (value ∷ []) → sets nan ≡ []
    → HasInstrType context set equal (value ∷ value ∷ []) (condition ∷ []) → sets equal ≡ []
    → HasInstrType context set choice (value ∷ value ∷ condition ∷ []) (value ∷ []) → sets choice ≡ []
    → AreTyped context rest (stacked (base ++ value ∷ []) set) after
    → AreTyped context (canonical_by scratch nan equal choice ++ rest) (stacked (base ++ value ∷ []) set) after
by_then context scratch nan equal choice value condition base set rest after is valid tested gives quiet compares calm chooses still more =
    let one : List ValType = base ++ value ∷ [] in
    let two : List ValType = one ++ value ∷ [] in
    popped context (instr.GlobalSet scratch) value base set _ after (sink value, is, refl, (refl, refl)) refl
    (pushed context (instr.GlobalGet scratch) value base set _ after (sink value, is, (refl, refl)) refl valid
    (pushed context nan value one set _ after gives quiet valid
    (pushed context (instr.GlobalGet scratch) value two set _ after (sink value, is, (refl, refl)) refl valid
    (pushed context (instr.GlobalGet scratch) value (two ++ value ∷ []) set _ after (sink value, is, (refl, refl)) refl valid
    (joined context equal value condition two set _ after compares calm tested
    (chosen context choice value condition base set rest after chooses still valid more))))))

-- each float
float_then : (context : BodyContext) (vectors : Bool) (first : ℕ) (float : Float) (base : List ValType) (set : List ℕ) (rest : List Instr)
    (after : Stacked) → HasScratch context vectors first → Needs vectors float → IsValid context (value_of float)
    → AreTyped context rest (stacked (base ++ value_of float ∷ []) set) after
    → AreTyped context (canonical first float ++ rest) (stacked (base ++ value_of float ∷ []) set) after
float_then context vectors first F32 base set rest after (narrow, wide, lanes) needs valid more =
    by_then context first (instr.F32Const 0x7FC00000) (instr.Numeric (numeric.F32Compare float_compare.Eq)) instr.Select value_type.F32
    value_type.I32 base set rest after narrow tt tt (refl, refl) refl (refl, refl) refl (value_type.F32, tt, (refl, refl)) refl more
float_then context vectors first F64 base set rest after (narrow, wide, lanes) needs valid more =
    by_then context (first + 1) (instr.F64Const 0x7FF8000000000000) (instr.Numeric (numeric.F64Compare float_compare.Eq)) instr.Select
    value_type.F64 value_type.I32 base set rest after wide tt tt (refl, refl) refl (refl, refl) refl (value_type.F64, tt, (refl, refl)) refl
    more
float_then context vectors first F32x4 base set rest after (narrow, wide, lanes) needs valid more =
    by_then context (first + 2) (instr.V128Const (pos 0x7FC000007FC000007FC000007FC00000))
    (instr.Vector (vector.FloatBinary vector_binary.F32x4Eq)) (instr.Vector vector.Bitselect) value_type.V128 value_type.V128 base set rest
    after (lanes needs) valid valid (refl, refl) refl (refl, refl) refl (refl, refl) refl more
float_then context vectors first F64x2 base set rest after (narrow, wide, lanes) needs valid more =
    by_then context (first + 2) (instr.V128Const (pos 0x7FF80000000000007FF8000000000000))
    (instr.Vector (vector.FloatBinary vector_binary.F64x2Eq)) (instr.Vector vector.Bitselect) value_type.V128 value_type.V128 base set rest
    after (lanes needs) valid valid (refl, refl) refl (refl, refl) refl (refl, refl) refl more

-- only a float's own type is a supertype of it
float_alone : (types : List SubType) (float : Float) (wanted : ValType) → IsValBelow types (value_of float) wanted → wanted ≡ value_of float
float_alone types F32 value_type.F32 below = refl
float_alone types F64 value_type.F64 below = refl
float_alone types F32x4 value_type.V128 below = refl
float_alone types F64x2 value_type.V128 below = refl
float_alone types _ _ below = absurd below

given_alone : (types : List SubType) (float : Float) (given : List ValType)
    → AllZip (IsValBelow types) (value_of float ∷ []) given → given ≡ value_of float ∷ []
given_alone types float [] below = absurd below
given_alone types float (wanted ∷ []) (this, none) =
    ap (λ (value : ValType). value ∷ []) (float_alone types float wanted this)
given_alone types float (wanted ∷ other ∷ more) (this, none) = absurd none

-- what a step of such an instruction leaves on the stack
record IsGiven (context : BodyContext) (float : Float) (between : Stacked) : Type 0 where
  base : List ValType
  is : between.stack ≡ base ++ value_of float ∷ []
  valid : IsValid context (value_of float)

given_float : (vectors : Bool) (instruction : Instr) (float : Float) (context : BodyContext) (before between : Stacked)
    → nan_of vectors instruction ≡ Some float → IsStep context instruction before between → IsGiven context float between
given_float vectors instruction float context before between found s =
    let value : List ValType = value_of float ∷ [] in
    let results : s.results ≡ value = gives_float vectors instruction float context before.set s.operands s.results found s.typed in
    let given : s.framed.given ≡ value =
    given_alone context.types float s.framed.given
    (subst (λ (values : List ValType). AllZip (IsValBelow context.types) values s.framed.given) results s.framed.offered.below) in
    record {
      base = s.framed.rest;
      is = s.framed.over ∙ ap (λ (values : List ValType). s.framed.rest ++ values) given;
      valid = (recursion_from_All (IsValid context) value (subst (AreValid context) given s.framed.offered.valid)).0;
    }

-- the start of a block gives no float
start_gives : (vectors : Bool) (instruction : Instr) (float : Float) → nan_of vectors instruction ≡ Some float
    → IsTrue (opens instruction) → ⊥
start_gives vectors (instr.Numeric op) float found starts = false≢true starts
start_gives vectors (instr.Vector op) float found starts = false≢true starts
start_gives vectors _ float found starts = cc found

-- what follows an instruction
float_follows : (context : BodyContext) (vectors : Bool) (first : ℕ) (instruction : Instr) (float : Float)
    → HasScratch context vectors first → nan_of vectors instruction ≡ Some float → Follow context instruction (canonical first float)
float_follows context vectors first instruction float scratch found labels rest between after (inl starts) more =
    absurd (start_gives vectors instruction float found starts)
float_follows context vectors first instruction float scratch found labels rest between after (inr (before, s)) more =
    let now : BodyContext = record context { labels = labels } in
    let given = given_float vectors instruction float now before between found s in
    let placed : List Instr = canonical first float ++ rest in
    subst (λ (values : List ValType). AreTyped now placed (stacked values between.set) after) (sym given.is)
    (float_then now vectors first float given.base between.set rest after scratch (float_needs vectors instruction float found) given.valid
    (subst (λ (values : List ValType). AreTyped now rest (stacked values between.set) after) given.is more))

canonical_follows : (context : BodyContext) (vectors : Bool) (first : ℕ) (instruction : Instr) (float : Option Float)
    → HasScratch context vectors first → nan_of vectors instruction ≡ float → Follow context instruction (canonical_if first float)
canonical_follows context vectors first instruction None scratch found = neutral_follow context instruction [] (none_neutral context)
canonical_follows context vectors first instruction (Some float) scratch found =
    float_follows context vectors first instruction float scratch found

canonical_inserted : (context : BodyContext) (vectors : Bool) (first : ℕ) → HasScratch context vectors first
    → Inserts context (followed vectors first)
canonical_inserted context vectors first scratch = (
  λ instruction. (
    [],
    canonical_if first (nan_of vectors instruction),
    refl,
    none_neutral context,
    canonical_follows context vectors first instruction (nan_of vectors instruction) scratch refl,
  ),
  refl,
  refl,
)

-- a body with canonical NaNs
pub canonical_typed : (context : BodyContext) (vectors : Bool) (first : ℕ) (body : List Instr) → HasScratch context vectors first
    → IsBodyTyped context body → IsBodyTyped context (flat_map (followed vectors first) body)
canonical_typed context vectors first body scratch typed = record {
  set = typed.set;
  typed = inserted_typed (followed vectors first) (canonical_inserted context vectors first scratch) typed.typed;
}
