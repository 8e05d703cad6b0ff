-- Instructions that mix the values of locals into sinks take no values and leave none.
use Rattle.smith_program.proofs.Common.{[], append_assoc, AreTyped, arith, BodyContext, I32, inl, inr, Instr, IsValid, length, List, pos}
use Rattle.smith_program.proofs.Common.{refl, sink, slice_get, slice_get-grown, Some, Stacked, stacked, subst, suc, sym, ValType, ℕ, ◌++◌}
use Rattle.smith_program.proofs.Common.{◌+◌, ◌<◌, ◌∙◌, ◌∷◌, ◌≡◌}
use Rattle.std.proofs.Common.{lit<, negsuc}
use Rattle.std.specs.List.{AllByRecursion as Each}
use Rattle.std.proofs.lemmas.List.{length_push}
use Rattle.smith_types.proofs.ListLemmas.{slice_get-last}
use Rattle.smith_types.specs.Expressions.{IsDefaultable}
use Rattle.smith_types.specs.Syntax.value_type.ValType.TheVariants.{F32, F64, I64, Ref, V128}
use Rattle.smith_instr.specs.declared.instr.Instr.TheVariants as instr
use Rattle.smith_instr.specs.declared.numeric.Conversion.TheVariants as convert
use Rattle.smith_instr.specs.declared.numeric.FloatCompare.TheVariants as float_compare
use Rattle.smith_instr.specs.declared.numeric.IntBinary.TheVariants as int_binary
use Rattle.smith_instr.specs.declared.numeric.NumericInstr.TheVariants as numeric
use Rattle.smith_instr.specs.declared.vector.LaneExtract.TheVariants as extract
use Rattle.smith_instr.specs.declared.vector.VectorBinary.TheVariants as binary
use Rattle.smith_instr.specs.declared.vector.VectorFloatBinary.TheVariants as float_binary
use Rattle.smith_instr.specs.declared.vector.VectorInstr.TheVariants as vector
use Rattle.smith_program.specs.Observed.{bits32, bits64, half, mix, mix32, mix64, mixes_from}
use Rattle.smith_program.proofs.InsertedLemmas.{IsNeutral, none_neutral, both_neutral}
use Rattle.smith_program.proofs.StepLemmas.{chosen, joined, popped, pushed, replaced}

-- a sink of this index
abbrev pub IsSink : BodyContext → ℕ → ValType → Type 0
IsSink context index value = slice_get context.globals index ≡ Some (sink value)

-- the sinks from this index on
abbrev pub AreSinks : BodyContext → ℕ → Type 0
AreSinks context first = IsSink context first I32 × IsSink context (first + 1) I64 × IsSink context (first + 2) I64

-- instructions that push a value, whatever the stack and the labels
abbrev Produces : BodyContext → List Instr → ValType → Type 0
Produces context instructions value =
    (labels : List (List ValType)) (base : List ValType) (set : List ℕ) (rest : List Instr) (after : Stacked)
    → AreTyped (record context { labels = labels }) rest (stacked (base ++ value ∷ []) set) after
    → AreTyped (record context { labels = labels }) (instructions ++ rest) (stacked base set) after

mix32_neutral : (context : BodyContext) (index : ℕ) (value : List Instr) → IsSink context index I32 → Produces context value I32
    → IsNeutral context (mix32 index value)
mix32_neutral context index value is produced labels rest base set after more =
    let now : BodyContext = record context { labels = labels } in
    let one : List ValType = base ++ I32 ∷ [] in
    let last : List Instr = instr.Numeric (numeric.I32Binary int_binary.Xor) ∷ instr.GlobalSet index ∷ [] in
    subst (λ (zs : List Instr). AreTyped now (instr.GlobalGet index ∷ instr.I32Const (pos 5) ∷ instr.Numeric
    (numeric.I32Binary int_binary.Rotl) ∷ zs) (stacked base set) after) (sym (append_assoc value last rest))
    (pushed now (instr.GlobalGet index) I32 base set _ after (sink I32, is, (refl, refl)) refl tt
    (pushed now (instr.I32Const (pos 5)) I32 one set _ after (refl, refl) refl tt
    (joined now (instr.Numeric (numeric.I32Binary int_binary.Rotl)) I32 I32 base set _ after (refl, refl) refl tt
    (produced labels one set _ after
    (joined now (instr.Numeric (numeric.I32Binary int_binary.Xor)) I32 I32 base set _ after (refl, refl) refl tt
    (popped now (instr.GlobalSet index) I32 base set _ after (sink I32, is, refl, (refl, refl)) refl more))))))

mix64_neutral : (context : BodyContext) (index : ℕ) (value : List Instr) → IsSink context index I64 → Produces context value I64
    → IsNeutral context (mix64 index value)
mix64_neutral context index value is produced labels rest base set after more =
    let now : BodyContext = record context { labels = labels } in
    let one : List ValType = base ++ I64 ∷ [] in
    let last : List Instr = instr.Numeric (numeric.I64Binary int_binary.Xor) ∷ instr.GlobalSet index ∷ [] in
    subst (λ (zs : List Instr). AreTyped now (instr.GlobalGet index ∷ instr.I64Const (pos 5) ∷ instr.Numeric
    (numeric.I64Binary int_binary.Rotl) ∷ zs) (stacked base set) after) (sym (append_assoc value last rest))
    (pushed now (instr.GlobalGet index) I64 base set _ after (sink I64, is, (refl, refl)) refl tt
    (pushed now (instr.I64Const (pos 5)) I64 one set _ after (refl, refl) refl tt
    (joined now (instr.Numeric (numeric.I64Binary int_binary.Rotl)) I64 I64 base set _ after (refl, refl) refl tt
    (produced labels one set _ after
    (joined now (instr.Numeric (numeric.I64Binary int_binary.Xor)) I64 I64 base set _ after (refl, refl) refl tt
    (popped now (instr.GlobalSet index) I64 base set _ after (sink I64, is, refl, (refl, refl)) refl more))))))

-- the value of a local with a default
got : (context : BodyContext) (index : ℕ) (value : ValType) → slice_get context.locals index ≡ Some value → IsDefaultable value
    → IsValid context value → Produces context (instr.LocalGet index ∷ []) value
got context index value there default valid labels base set rest after more =
    pushed (record context { labels = labels }) (instr.LocalGet index) value base set rest after
    (value, (there, inr (inl default)), (refl, refl)) refl valid more

bits32_produced : (context : BodyContext) (index : ℕ) → slice_get context.locals index ≡ Some F32 → Produces context (bits32 index) I32
bits32_produced context index there labels base set rest after more =
    let now : BodyContext = record context { labels = labels } in
    let bits : List ValType = base ++ I32 ∷ [] in
    let both : List ValType = bits ++ I32 ∷ [] in
    let get = got context index F32 there tt tt labels in
    get base set _ after
    (replaced now (instr.Numeric (numeric.Convert convert.I32ReinterpretF32)) F32 I32 base set _ after (refl, refl) refl tt
    (pushed now (instr.I32Const (pos 0x7FC00000)) I32 bits set _ after (refl, refl) refl tt
    (get both set _ after
    (get (both ++ F32 ∷ []) set _ after
    (joined now (instr.Numeric (numeric.F32Compare float_compare.Eq)) F32 I32 both set _ after (refl, refl) refl tt
    (chosen now instr.Select I32 I32 base set rest after (I32, tt, (refl, refl)) refl tt more))))))

bits64_produced : (context : BodyContext) (index : ℕ) → slice_get context.locals index ≡ Some F64 → Produces context (bits64 index) I64
bits64_produced context index there labels base set rest after more =
    let now : BodyContext = record context { labels = labels } in
    let bits : List ValType = base ++ I64 ∷ [] in
    let both : List ValType = bits ++ I64 ∷ [] in
    let get = got context index F64 there tt tt labels in
    get base set _ after
    (replaced now (instr.Numeric (numeric.Convert convert.I64ReinterpretF64)) F64 I64 base set _ after (refl, refl) refl tt
    (pushed now (instr.I64Const (pos 0x7FF8000000000000)) I64 bits set _ after (refl, refl) refl tt
    (get both set _ after
    (get (both ++ F64 ∷ []) set _ after
    (joined now (instr.Numeric (numeric.F64Compare float_compare.Eq)) F64 I32 both set _ after (refl, refl) refl tt
    (chosen now instr.Select I64 I32 base set rest after (I64, tt, (refl, refl)) refl tt more))))))

half_produced : (context : BodyContext) (index lane : ℕ) → lane < 2 → slice_get context.locals index ≡ Some V128 → IsValid context V128
    → Produces context (half index lane) I64
half_produced context index lane within there valid labels base set rest after more =
    let now : BodyContext = record context { labels = labels } in
    let one : List ValType = base ++ V128 ∷ [] in
    let two : List ValType = one ++ V128 ∷ [] in
    let get = got context index V128 there tt valid labels in
    get base set _ after
    (get one set _ after
    (get two set _ after
    (joined now (instr.Vector (vector.FloatBinary float_binary.F32x4Eq)) V128 V128 one set _ after (refl, refl) refl valid
    (pushed now (instr.V128Const (negsuc 0)) V128 two set _ after (refl, refl) refl valid
    (joined now (instr.Vector (vector.Binary binary.I64x2Eq)) V128 V128 one set _ after (refl, refl) refl valid
    (joined now (instr.Vector (vector.Binary binary.V128And)) V128 V128 base set _ after (refl, refl) refl valid
    (replaced now (instr.Vector (vector.ExtractLane extract.I64x2 lane)) V128 I64 base set rest after (within, (refl, refl)) refl tt
    more)))))))

-- a local of each type
mix_neutral : (context : BodyContext) (first index : ℕ) (value : ValType) → AreSinks context first
    → slice_get context.locals index ≡ Some value → IsValid context value → IsNeutral context (mix first index value)
mix_neutral context first index I32 (narrow, wide, other) there valid =
    mix32_neutral context first (instr.LocalGet index ∷ []) narrow (got context index I32 there tt valid)
mix_neutral context first index I64 (narrow, wide, other) there valid =
    mix64_neutral context (first + 1) (instr.LocalGet index ∷ []) wide (got context index I64 there tt valid)
mix_neutral context first index F32 (narrow, wide, other) there valid =
    mix32_neutral context first (bits32 index) narrow (bits32_produced context index there)
mix_neutral context first index F64 (narrow, wide, other) there valid =
    mix64_neutral context (first + 1) (bits64 index) wide (bits64_produced context index there)
mix_neutral context first index V128 (narrow, wide, other) there valid =
    both_neutral context (mix64 (first + 1) (half index 0)) (mix64 (first + 2) (half index 1))
    (mix64_neutral context (first + 1) (half index 0) wide (half_produced context index 0 (lit< tt) there valid))
    (mix64_neutral context (first + 2) (half index 1) other (half_produced context index 1 (lit< tt) there valid))
mix_neutral context first index (Ref reference) sinks there valid = none_neutral context

-- a value between others
between : (front : List ValType) (value : ValType) (back : List ValType) → slice_get (front ++ value ∷ back) (length front) ≡ Some value
between front value back =
    subst (λ (zs : List ValType). slice_get zs (length front) ≡ Some value) (append_assoc front (value ∷ []) back)
    (slice_get-grown (front ++ value ∷ []) back (length front) value (slice_get-last front value))

-- some of the locals
pub mixes_neutral : (context : BodyContext) (first index : ℕ) (front values back : List ValType) → AreSinks context first
    → context.locals ≡ front ++ (values ++ back) → index ≡ length front → Each (IsValid context) values
    → IsNeutral context (mixes_from first index values)
mixes_neutral context first index front [] back sinks are at valid = none_neutral context
mixes_neutral context first index front (value ∷ values) back sinks are at (this, others) =
    let there : slice_get context.locals index ≡ Some value = rw (are, at) (between front value (values ++ back)) in
    let longer : length (front ++ value ∷ []) ≡ length front + 1 = length_push front value in
    let next : suc index ≡ length (front ++ value ∷ []) = omega arith in
    both_neutral context (mix first index value) (mixes_from first (suc index) values)
    (mix_neutral context first index value sinks there this)
    (mixes_neutral context first (suc index) (front ++ value ∷ []) values back sinks
    (are ∙ sym (append_assoc front (value ∷ []) (values ++ back))) next others)
