-- Vector instructions that are read: the readings are sound and complete.
use Rattle.smith_binary_read_instr.proofs.Common.{ap, arith, Bool, branch, Decodes, eqb, eqb-true, false, false≢true, first_read, Front}
use Rattle.smith_binary_read_instr.proofs.Common.{front_as, Instr, IsByte, IsInstr, IsMemArg, IsPrefixed, IsUnsigned, item_is, Joined}
use Rattle.smith_binary_read_instr.proofs.Common.{le-ltb, List, ltb-false, ltb-true, MemArg, None, Ok, Option, prefix_alone, prefix_apart}
use Rattle.smith_binary_read_instr.proofs.Common.{Reading, refl, Some, step, subst, suc, sym, tagged_read, test_passed, true, unsigned_at}
use Rattle.smith_binary_read_instr.proofs.Common.{unsigned_decodes, zero, ℕ, ◌++◌, ◌+◌, ◌-◌, ◌<◌, ◌∙◌, ◌∷◌, ◌≡◌, ◌≤◌}
use Rattle.std.specs.Prelude.{ℤ}
use Rattle.smith_binary.specs.Numbers.{IsVector}
use Rattle.smith_binary_read.specs.Readings.{bytes_at}
use Rattle.smith_binary_read.specs.Numbers.{lane_at}
use Rattle.smith_binary_read.proofs.ReadLemmas.{fault_avoided}
use Rattle.smith_binary_read.proofs.ReadLemmas.{bytes_sound, bytes_complete}
use Rattle.smith_binary_read.proofs.IntegerLemmas.{lane_decodes, vector_decodes}
use Rattle.smith_binary_read.proofs.ChoiceLemmas.{item_none}
use Rattle.smith_instr.specs.declared.instr.Instr.TheVariants as instr
use Rattle.smith_instr.specs.declared.vector.IntShape.{IntShape}
use Rattle.smith_instr.specs.declared.vector.IntShape.TheVariants as shape
use Rattle.smith_instr.specs.declared.vector.LaneExtract.{LaneExtract}
use Rattle.smith_instr.specs.declared.vector.LaneExtract.TheVariants as extract
use Rattle.smith_instr.specs.declared.vector.LaneShape.{LaneShape}
use Rattle.smith_instr.specs.declared.vector.LaneShape.TheVariants as lanes
use Rattle.smith_instr.specs.declared.vector.RelaxedBinary.{RelaxedBinary}
use Rattle.smith_instr.specs.declared.vector.RelaxedBinary.TheVariants as relaxed_binary
use Rattle.smith_instr.specs.declared.vector.RelaxedFloatBinary.{RelaxedFloatBinary}
use Rattle.smith_instr.specs.declared.vector.RelaxedFloatBinary.TheVariants as relaxed_float_binary
use Rattle.smith_instr.specs.declared.vector.RelaxedFloatTernary.{RelaxedFloatTernary}
use Rattle.smith_instr.specs.declared.vector.RelaxedFloatTernary.TheVariants as relaxed_float_ternary
use Rattle.smith_instr.specs.declared.vector.RelaxedFloatUnary.{RelaxedFloatUnary}
use Rattle.smith_instr.specs.declared.vector.RelaxedFloatUnary.TheVariants as relaxed_float_unary
use Rattle.smith_instr.specs.declared.vector.RelaxedTernary.{RelaxedTernary}
use Rattle.smith_instr.specs.declared.vector.RelaxedTernary.TheVariants as relaxed_ternary
use Rattle.smith_instr.specs.declared.vector.VectorBinary.{VectorBinary}
use Rattle.smith_instr.specs.declared.vector.VectorBinary.TheVariants as binary
use Rattle.smith_instr.specs.declared.vector.VectorFloatBinary.{VectorFloatBinary}
use Rattle.smith_instr.specs.declared.vector.VectorFloatBinary.TheVariants as float_binary
use Rattle.smith_instr.specs.declared.vector.VectorFloatUnary.{VectorFloatUnary}
use Rattle.smith_instr.specs.declared.vector.VectorFloatUnary.TheVariants as float_unary
use Rattle.smith_instr.specs.declared.vector.VectorInstr.{VectorInstr}
use Rattle.smith_instr.specs.declared.vector.VectorInstr.TheVariants as vector
use Rattle.smith_instr.specs.declared.vector.VectorLoad.{VectorLoad}
use Rattle.smith_instr.specs.declared.vector.VectorLoad.TheVariants as load
use Rattle.smith_instr.specs.declared.vector.VectorShift.{VectorShift}
use Rattle.smith_instr.specs.declared.vector.VectorShift.TheVariants as shift
use Rattle.smith_instr.specs.declared.vector.VectorUnary.{VectorUnary}
use Rattle.smith_instr.specs.declared.vector.VectorUnary.TheVariants as unary
use Rattle.smith_binary_instr.specs.Memory.{IsLaneAccess, vector_load_number}
use Rattle.smith_binary_instr.specs.Vector.{IsLanes, IsVectorInstr}
use Rattle.smith_binary_instr.specs.VectorNumbers.{vector_unary_number, vector_float_unary_number, vector_binary_number}
use Rattle.smith_binary_instr.specs.VectorNumbers.{vector_float_binary_number, all_true_number, bitmask_number, shift_number, splat_number}
use Rattle.smith_binary_instr.specs.VectorNumbers.{extract_number, replace_number, relaxed_float_unary_number, relaxed_binary_number}
use Rattle.smith_binary_instr.specs.VectorNumbers.{relaxed_float_binary_number, relaxed_ternary_number, relaxed_float_ternary_number}
use Rattle.smith_binary_read_instr.specs.InstrReadings.{prefixed_at, instr_at}
use Rattle.smith_binary_read_instr.specs.MemoryReadings.{mem_arg_at}
use Rattle.smith_binary_read_instr.specs.VectorReadings.{on_lane, lane_instr_at, vector_load_of, vector_load_at, lane_access_at, vector_or}
use Rattle.smith_binary_read_instr.specs.VectorReadings.{low_vector_at, vector_instr_at}
use Rattle.smith_binary_read_instr.specs.VectorRows.{relaxed_last_rows, low_of, middle_of, high_of, vector_of}
use Rattle.smith_binary_read_instr.proofs.MemArgLemmas.{mem_arg_decodes}
use Rattle.smith_binary_read_instr.proofs.RowLemmas.{at_least, in_range, AllFrom, each_in_range, above, After, number_front, number_before}
use Rattle.smith_binary_read_instr.proofs.RowLemmas.{after_mapped, joined_sound, mapped_front, number_complete, numbered_complete}

-- sixteen lanes
lanes_sound : (bytes lanes rest : List ℕ) → bytes_at 16 bytes ≡ Ok (lanes, rest) → Front (IsLanes lanes) bytes rest
lanes_sound bytes lanes rest e =
    let one = bytes_sound 16 bytes lanes rest e in record { piece = lanes; spelled = (one.1, refl); whole = one.0 }

lanes_complete : (lanes piece rest : List ℕ) → IsLanes lanes piece → bytes_at 16 (piece ++ rest) ≡ Ok (lanes, rest)
lanes_complete lanes piece rest h =
    ap (λ (bytes : List ℕ). bytes_at 16 (bytes ++ rest)) h.1
    ∙ ap (λ (count : ℕ). bytes_at count (lanes ++ rest)) (sym h.0) ∙ bytes_complete lanes rest

lanes_decode : Decodes IsLanes (bytes_at 16)
lanes_decode = record { sound = lanes_sound; complete = lanes_complete }

-- whether an instruction without immediates is spelled by a number
vector_test : VectorInstr → ℕ → Bool
vector_test (vector.Splat op) number = eqb number (splat_number op)
vector_test (vector.Unary op) number = eqb number (vector_unary_number op)
vector_test (vector.FloatUnary op) number = eqb number (vector_float_unary_number op)
vector_test (vector.Binary op) number = eqb number (vector_binary_number op)
vector_test (vector.FloatBinary op) number = eqb number (vector_float_binary_number op)
vector_test vector.Bitselect number = eqb number 82
vector_test vector.AnyTrue number = eqb number 83
vector_test (vector.AllTrue op) number = eqb number (all_true_number op)
vector_test (vector.Bitmask op) number = eqb number (bitmask_number op)
vector_test (vector.Shift op lane_shape) number = eqb number (shift_number op lane_shape)
vector_test (vector.RelaxedFloatUnary op) number = eqb number (relaxed_float_unary_number op)
vector_test (vector.RelaxedBinary op) number = eqb number (relaxed_binary_number op)
vector_test (vector.RelaxedFloatBinary op) number = eqb number (relaxed_float_binary_number op)
vector_test (vector.RelaxedTernary op) number = eqb number (relaxed_ternary_number op)
vector_test (vector.RelaxedFloatTernary op) number = eqb number (relaxed_float_ternary_number op)
vector_test (vector.Shuffle lanes) number = false
vector_test (vector.ExtractLane op lane) number = false
vector_test (vector.ReplaceLane op lane) number = false

this_number : (number k : ℕ) (piece : List ℕ) → IsUnsigned 32 number piece → eqb number k ≡ true → IsPrefixed 0xFD k (0xFD ∷ piece)
this_number number k piece h e =
    prefix_alone 0xFD k piece (subst (λ (n : ℕ). IsUnsigned 32 n piece) (let same : number ≡ k = eqb-true number k e in same) h)

vector_form : (op : VectorInstr) (number : ℕ) (piece : List ℕ) → IsUnsigned 32 number piece → vector_test op number ≡ true
    → IsVectorInstr op (0xFD ∷ piece)
unfolding vector_test
vector_form (vector.Splat op) number piece h e = this_number number (splat_number op) piece h e
vector_form (vector.Unary op) number piece h e = this_number number (vector_unary_number op) piece h e
vector_form (vector.FloatUnary op) number piece h e = this_number number (vector_float_unary_number op) piece h e
vector_form (vector.Binary op) number piece h e = this_number number (vector_binary_number op) piece h e
vector_form (vector.FloatBinary op) number piece h e = this_number number (vector_float_binary_number op) piece h e
vector_form vector.Bitselect number piece h e = this_number number 82 piece h e
vector_form vector.AnyTrue number piece h e = this_number number 83 piece h e
vector_form (vector.AllTrue op) number piece h e = this_number number (all_true_number op) piece h e
vector_form (vector.Bitmask op) number piece h e = this_number number (bitmask_number op) piece h e
vector_form (vector.Shift op lane_shape) number piece h e = this_number number (shift_number op lane_shape) piece h e
vector_form (vector.RelaxedFloatUnary op) number piece h e = this_number number (relaxed_float_unary_number op) piece h e
vector_form (vector.RelaxedBinary op) number piece h e = this_number number (relaxed_binary_number op) piece h e
vector_form (vector.RelaxedFloatBinary op) number piece h e = this_number number (relaxed_float_binary_number op) piece h e
vector_form (vector.RelaxedTernary op) number piece h e = this_number number (relaxed_ternary_number op) piece h e
vector_form (vector.RelaxedFloatTernary op) number piece h e = this_number number (relaxed_float_ternary_number op) piece h e
vector_form (vector.Shuffle lanes) number piece h e = absurd (false≢true e)
vector_form (vector.ExtractLane op lane) number piece h e = absurd (false≢true e)
vector_form (vector.ReplaceLane op lane) number piece h e = absurd (false≢true e)

-- the instruction of a number, if there is one
found_test : Option VectorInstr → ℕ → Bool
found_test None number = true
found_test (Some op) number = vector_test op number

is_found : Option VectorInstr → Bool
is_found None = false
is_found (Some op) = true

low_tested : (number : ℕ) → number < 276 → found_test (vector_of number) number ≡ true
unfolding found_test vector_test vector_of low_of middle_of high_of vector_binary_number
low_tested number high = in_range (λ n. found_test (vector_of n) n) 276 0 number refl (omega arith) (omega arith)

none_high : (number : ℕ) → 276 ≤ number → vector_of number ≡ None
unfolding vector_of high_of
none_high number low = rw (
  le-ltb number 103 (omega arith),
  le-ltb number 192 (omega arith),
  le-ltb number 206 (omega arith),
  le-ltb number 224 (omega arith),
  le-ltb number 240 (omega arith),
  le-ltb number 256 (omega arith),
  le-ltb number 265 (omega arith),
) (item_none relaxed_last_rows number (
  λ e. omega arith,
  (
    λ e. omega arith,
    (
      λ e. omega arith,
      (
        λ e. omega arith,
        (
          λ e. omega arith,
          (λ e. omega arith, (λ e. omega arith, (λ e. omega arith, (λ e. omega arith, (λ e. omega arith, (λ e. omega arith, tt)))))),
        ),
      ),
    ),
  ),
))

vector_is : (number : ℕ) (op : VectorInstr) → vector_of number ≡ Some op → vector_test op number ≡ true
unfolding found_test
vector_is number op is = at_least number 276 _ refl
    (λ high. absurd (let never = sym (none_high number high) ∙ is in cc))
    (λ low. ap (λ o. found_test o number) (sym is) ∙ low_tested number (omega arith))

vector_branch : {G : Type 0} (o : Option VectorInstr) (rest : List ℕ) (other : Reading Instr) (x : Instr) (after : List ℕ)
    → vector_or o rest other ≡ Ok (x, after)
    → ((op : VectorInstr) → o ≡ Some op → instr.Vector op ≡ x → rest ≡ after → G) → (o ≡ None → other ≡ Ok (x, after) → G) → G
vector_branch (Some op) rest other x after e if_some if_none =
    let same = item_is (instr.Vector op) x rest after e in if_some op refl same.0 same.1
vector_branch None rest other x after e if_some if_none = if_none refl e

-- instructions on a lane
abbrev LaneForm : ℕ → Type 0
LaneForm number = (lane : ℕ) (piece : List ℕ) → IsByte lane piece → After 0xFD number (IsVectorInstr (on_lane number lane)) piece

lane_forms : AllFrom LaneForm 21 14
unfolding on_lane
lane_forms = (
  λ lane piece h front one. number_before 0xFD 21 front piece one h,
  (
    λ lane piece h front one. number_before 0xFD 22 front piece one h,
    (
      λ lane piece h front one. number_before 0xFD 23 front piece one h,
      (
        λ lane piece h front one. number_before 0xFD 24 front piece one h,
        (
          λ lane piece h front one. number_before 0xFD 25 front piece one h,
          (
            λ lane piece h front one. number_before 0xFD 26 front piece one h,
            (
              λ lane piece h front one. number_before 0xFD 27 front piece one h,
              (
                λ lane piece h front one. number_before 0xFD 28 front piece one h,
                (
                  λ lane piece h front one. number_before 0xFD 29 front piece one h,
                  (
                    λ lane piece h front one. number_before 0xFD 30 front piece one h,
                    (
                      λ lane piece h front one. number_before 0xFD 31 front piece one h,
                      (
                        λ lane piece h front one. number_before 0xFD 32 front piece one h,
                        (
                          λ lane piece h front one. number_before 0xFD 33 front piece one h,
                          (λ lane piece h front one. number_before 0xFD 34 front piece one h, tt),
                        ),
                      ),
                    ),
                  ),
                ),
              ),
            ),
          ),
        ),
      ),
    ),
  ),
)

lane_instr_sound : (number : ℕ) (bytes : List ℕ) (x : Instr) (rest : List ℕ) → 21 ≤ number → number < 35
    → lane_instr_at number bytes ≡ Ok (x, rest) → Front (After 0xFD number (IsInstr x)) bytes rest
unfolding lane_instr_at
lane_instr_sound number bytes x rest low high e =
    mapped_front IsByte (λ z. After 0xFD number (IsInstr z)) (λ lane. instr.Vector (on_lane number lane)) lane_at bytes
    (λ y more read. lane_decodes.sound bytes y more read)
    (λ y piece h. each_in_range LaneForm 14 21 number lane_forms low high y piece h) x rest e

-- loads
low_load_tested : (number : ℕ) → number < 11 → eqb number (vector_load_number (vector_load_of number)) ≡ true
unfolding vector_load_of
low_load_tested number high =
    in_range (λ n. eqb n (vector_load_number (vector_load_of n))) 11 0 number refl (omega arith) (omega arith)

zero_load_tested : (number : ℕ) → 92 ≤ number → number < 94 → eqb number (vector_load_number (vector_load_of number)) ≡ true
unfolding vector_load_of
zero_load_tested number low high = in_range (λ n. eqb n (vector_load_number (vector_load_of n))) 2 92 number refl low high

vector_load_sound : (number : ℕ) (bytes : List ℕ) (x : Instr) (rest : List ℕ)
    → eqb number (vector_load_number (vector_load_of number)) ≡ true → vector_load_at number bytes ≡ Ok (x, rest)
    → Front (After 0xFD number (IsInstr x)) bytes rest
unfolding vector_load_at
vector_load_sound number bytes x rest is e =
    after_mapped IsInstr (instr.VectorLoad (vector_load_of number)) 0xFD (vector_load_number (vector_load_of number)) number mem_arg_decodes
    (λ y piece h. h) is bytes x rest e

past_splats : (number : ℕ) → vector_of number ≡ None → 14 ≤ number → 21 ≤ number
unfolding vector_of low_of is_found
past_splats number none low = at_least number 21 _ refl (λ high. high) (λ below.
    let found : is_found (vector_of number) ≡ true = in_range (λ n. is_found (vector_of n)) 7 14 number refl low (omega arith)
    in absurd (false≢true (sym (ap is_found none) ∙ found)))

low_vector_sound : (number : ℕ) (bytes : List ℕ) (x : Instr) (rest : List ℕ) → vector_of number ≡ None → number < 35
    → low_vector_at number bytes ≡ Ok (x, rest) → Front (After 0xFD number (IsInstr x)) bytes rest
unfolding low_vector_at
low_vector_sound number bytes x rest none high e =
    branch _ _ _ _ e (λ is e. vector_load_sound number bytes x rest (low_load_tested number (ltb-true number 11 is)) e) (λ no_load e.
    branch _ _ _ _ e (λ is e. after_mapped IsInstr instr.VectorStore 0xFD 11 number mem_arg_decodes (λ y piece h. h) is bytes x rest e)
    (λ no_11 e.
    branch _ _ _ _ e (λ is e. after_mapped IsInstr instr.V128Const 0xFD 12 number vector_decodes (λ y piece h. h) is bytes x rest e)
    (λ no_12 e.
    branch _ _ _ _ e (λ is e. after_mapped IsInstr (λ lanes. instr.Vector (vector.Shuffle lanes)) 0xFD 13 number lanes_decode
    (λ y piece h. h) is bytes x rest e) (λ no_13 e.
    let after_13 = above number 13 (above number 12 (above number 11 (ltb-false number 11 no_load) no_11) no_12) no_13 in
    lane_instr_sound number bytes x rest (past_splats number none after_13) high e))))

-- accesses to a lane
lane_access_form : (first number : ℕ) (at : MemArg) (lane : ℕ) (piece : List ℕ) → first ≤ number → number < first + 4
    → Joined (IsMemArg at) (IsByte lane) piece → After 0xFD number (IsLaneAccess first (number - first) at lane) piece
lane_access_form first number at lane piece low high h front one =
    let same : number ≡ first + (number - first) = omega arith in
    (omega arith, number_before 0xFD (first + (number - first)) front piece (subst (λ (n : ℕ). IsUnsigned 32 n front) same one) h)

lane_access_sound : (number : ℕ) (bytes : List ℕ) (x : Instr) (rest : List ℕ) → 84 ≤ number → number < 92
    → lane_access_at number bytes ≡ Ok (x, rest) → Front (After 0xFD number (IsInstr x)) bytes rest
unfolding lane_access_at
lane_access_sound number bytes x rest low high e =
    branch _ _ _ _ e
    (λ is e. joined_sound (λ z. After 0xFD number (IsInstr z)) (instr.VectorLoadLane (number - 84)) mem_arg_decodes lane_decodes
    (λ y z piece h. lane_access_form 84 number y z piece low (ltb-true number 88 is) h) bytes x rest e)
    (λ is_not e. joined_sound (λ z. After 0xFD number (IsInstr z)) (instr.VectorStoreLane (number - 88)) mem_arg_decodes lane_decodes
    (λ y z piece h. lane_access_form 88 number y z piece (ltb-false number 88 is_not) high h) bytes x rest e)

pub vector_sound : (bytes : List ℕ) (x : Instr) (rest : List ℕ) → vector_instr_at bytes ≡ Ok (x, rest)
    → Front (λ piece. IsInstr x (0xFD ∷ piece)) bytes rest
unfolding vector_instr_at
vector_sound bytes x rest e = step _ _ _ e (λ number first e.
    let front = (unsigned_decodes 32).sound bytes number.0 number.1 first in
    vector_branch _ _ _ _ _ e
    (λ op found same after. subst (Front (λ piece. IsInstr x (0xFD ∷ piece)) bytes) after
    (subst (λ z. Front (λ piece. IsInstr z (0xFD ∷ piece)) bytes number.1) same
    (front_as (λ piece h. vector_form op number.0 piece h (vector_is number.0 op found)) front)))
    (λ none e. number_front (IsInstr x) 0xFD number.0 front
    (branch _ _ _ _ e (λ is e. low_vector_sound number.0 number.1 x rest none (ltb-true number.0 35 is) e) (λ no_low e.
    fault_avoided _ _ _ _ e (λ no_gap e.
    branch _ _ _ _ e (λ is e. lane_access_sound number.0 number.1 x rest (ltb-false number.0 84 no_gap) (ltb-true number.0 92 is) e)
    (λ no_lane e.
    test_passed _ _ _ _ e (λ is e.
    let tested = zero_load_tested number.0 (ltb-false number.0 92 no_lane) (ltb-true number.0 94 is) in
    vector_load_sound number.0 number.1 x rest tested e)))))))

-- what is spelled is read: the instruction of each number
splats : (op : LaneShape) → vector_of (splat_number op) ≡ Some (vector.Splat op)
unfolding vector_of low_of middle_of high_of
splats lanes.I8x16 = refl
splats op = refl

unaries : (op : VectorUnary) → vector_of (vector_unary_number op) ≡ Some (vector.Unary op)
unfolding vector_of low_of middle_of high_of
unaries unary.V128Not = refl
unaries op = refl

float_unaries : (op : VectorFloatUnary) → vector_of (vector_float_unary_number op) ≡ Some (vector.FloatUnary op)
unfolding vector_of low_of middle_of high_of
float_unaries float_unary.F32x4Abs = refl
float_unaries op = refl

binaries : (op : VectorBinary) → vector_of (vector_binary_number op) ≡ Some (vector.Binary op)
unfolding vector_of low_of middle_of high_of vector_binary_number
binaries binary.I8x16Swizzle = refl
binaries op = refl

float_binaries : (op : VectorFloatBinary) → vector_of (vector_float_binary_number op) ≡ Some (vector.FloatBinary op)
unfolding vector_of low_of middle_of high_of
float_binaries float_binary.F32x4Eq = refl
float_binaries op = refl

all_true : (op : IntShape) → vector_of (all_true_number op) ≡ Some (vector.AllTrue op)
unfolding vector_of low_of middle_of high_of
all_true shape.I8x16 = refl
all_true op = refl

bitmasks : (op : IntShape) → vector_of (bitmask_number op) ≡ Some (vector.Bitmask op)
unfolding vector_of low_of middle_of high_of
bitmasks shape.I8x16 = refl
bitmasks op = refl

relaxed_float_unaries : (op : RelaxedFloatUnary) → vector_of (relaxed_float_unary_number op) ≡ Some (vector.RelaxedFloatUnary op)
unfolding vector_of low_of middle_of high_of
relaxed_float_unaries relaxed_float_unary.I32x4TruncF32x4S = refl
relaxed_float_unaries op = refl

relaxed_binaries : (op : RelaxedBinary) → vector_of (relaxed_binary_number op) ≡ Some (vector.RelaxedBinary op)
unfolding vector_of low_of middle_of high_of
relaxed_binaries relaxed_binary.I8x16Swizzle = refl
relaxed_binaries op = refl

relaxed_float_binaries : (op : RelaxedFloatBinary) → vector_of (relaxed_float_binary_number op) ≡ Some (vector.RelaxedFloatBinary op)
unfolding vector_of low_of middle_of high_of
relaxed_float_binaries relaxed_float_binary.F32x4Min = refl
relaxed_float_binaries op = refl

relaxed_ternaries : (op : RelaxedTernary) → vector_of (relaxed_ternary_number op) ≡ Some (vector.RelaxedTernary op)
unfolding vector_of low_of middle_of high_of
relaxed_ternaries relaxed_ternary.I8x16Laneselect = refl
relaxed_ternaries op = refl

relaxed_float_ternaries : (op : RelaxedFloatTernary) → vector_of (relaxed_float_ternary_number op) ≡ Some (vector.RelaxedFloatTernary op)
unfolding vector_of low_of middle_of high_of
relaxed_float_ternaries relaxed_float_ternary.F32x4Madd = refl
relaxed_float_ternaries op = refl

shifts : (op : VectorShift) (lane_shape : IntShape) → vector_of (shift_number op lane_shape) ≡ Some (vector.Shift op lane_shape)
unfolding vector_of low_of middle_of high_of
shifts shift.Shl shape.I8x16 = refl
shifts shift.Shl lane_shape = refl
shifts shift.ShrS shape.I8x16 = refl
shifts shift.ShrS lane_shape = refl
shifts shift.ShrU shape.I8x16 = refl
shifts shift.ShrU lane_shape = refl

extract_again : (op : LaneExtract) (bytes more after : List ℕ) (lane : ℕ) → unsigned_at 32 bytes ≡ Ok (extract_number op, more)
    → lane_at more ≡ Ok (lane, after) → instr_at (0xFD ∷ bytes) ≡ Ok (instr.Vector (vector.ExtractLane op lane), after)
unfolding instr_at prefixed_at vector_instr_at vector_of low_of low_vector_at lane_instr_at on_lane
extract_again extract.I8x16S bytes more after lane number part = rw (number, part) refl
extract_again op bytes more after lane number part = rw (number, part) refl

replace_again : (op : LaneShape) (bytes more after : List ℕ) (lane : ℕ) → unsigned_at 32 bytes ≡ Ok (replace_number op, more)
    → lane_at more ≡ Ok (lane, after) → instr_at (0xFD ∷ bytes) ≡ Ok (instr.Vector (vector.ReplaceLane op lane), after)
unfolding instr_at prefixed_at vector_instr_at vector_of low_of low_vector_at lane_instr_at on_lane
replace_again lanes.I8x16 bytes more after lane number part = rw (number, part) refl
replace_again op bytes more after lane number part = rw (number, part) refl

-- an instruction without immediates
plain_complete : (number : ℕ) (op : VectorInstr) → vector_of number ≡ Some op → (piece rest : List ℕ) → IsPrefixed 0xFD number piece
    → instr_at (piece ++ rest) ≡ Ok (instr.Vector op, rest)
unfolding instr_at prefixed_at vector_instr_at
plain_complete number op again piece rest h =
    number_complete 0xFD number (instr.Vector op) (λ bytes more read. rw (read, again) refl) piece rest h

pub vector_complete : (op : VectorInstr) (piece rest : List ℕ) → IsVectorInstr op piece
    → instr_at (piece ++ rest) ≡ Ok (instr.Vector op, rest)
unfolding instr_at prefixed_at vector_instr_at vector_of low_of low_vector_at
vector_complete (vector.Shuffle lanes) piece rest h =
    numbered_complete 0xFD 13 (λ lanes. instr.Vector (vector.Shuffle lanes)) lanes_decode
    (λ bytes more after y number part. rw (number, part) refl) lanes piece rest h
vector_complete (vector.ExtractLane op lane) piece rest h =
    numbered_complete 0xFD (extract_number op) (λ lane. instr.Vector (vector.ExtractLane op lane)) lane_decodes (extract_again op)
    lane piece rest h
vector_complete (vector.ReplaceLane op lane) piece rest h =
    numbered_complete 0xFD (replace_number op) (λ lane. instr.Vector (vector.ReplaceLane op lane)) lane_decodes (replace_again op)
    lane piece rest h
vector_complete vector.Bitselect piece rest h = plain_complete 82 vector.Bitselect refl piece rest h
vector_complete vector.AnyTrue piece rest h = plain_complete 83 vector.AnyTrue refl piece rest h
vector_complete (vector.Shift op lane_shape) piece rest h =
    plain_complete (shift_number op lane_shape) (vector.Shift op lane_shape) (shifts op lane_shape) piece rest h
vector_complete (vector.Splat op) piece rest h = plain_complete (splat_number op) (vector.Splat op) (splats op) piece rest h
vector_complete (vector.Unary op) piece rest h = plain_complete (vector_unary_number op) (vector.Unary op) (unaries op) piece rest h
vector_complete (vector.FloatUnary op) piece rest h =
    plain_complete (vector_float_unary_number op) (vector.FloatUnary op) (float_unaries op) piece rest h
vector_complete (vector.Binary op) piece rest h = plain_complete (vector_binary_number op) (vector.Binary op) (binaries op) piece rest h
vector_complete (vector.FloatBinary op) piece rest h =
    plain_complete (vector_float_binary_number op) (vector.FloatBinary op) (float_binaries op) piece rest h
vector_complete (vector.AllTrue op) piece rest h = plain_complete (all_true_number op) (vector.AllTrue op) (all_true op) piece rest h
vector_complete (vector.Bitmask op) piece rest h = plain_complete (bitmask_number op) (vector.Bitmask op) (bitmasks op) piece rest h
vector_complete (vector.RelaxedFloatUnary op) piece rest h =
    plain_complete (relaxed_float_unary_number op) (vector.RelaxedFloatUnary op) (relaxed_float_unaries op) piece rest h
vector_complete (vector.RelaxedBinary op) piece rest h =
    plain_complete (relaxed_binary_number op) (vector.RelaxedBinary op) (relaxed_binaries op) piece rest h
vector_complete (vector.RelaxedFloatBinary op) piece rest h =
    plain_complete (relaxed_float_binary_number op) (vector.RelaxedFloatBinary op) (relaxed_float_binaries op) piece rest h
vector_complete (vector.RelaxedTernary op) piece rest h =
    plain_complete (relaxed_ternary_number op) (vector.RelaxedTernary op) (relaxed_ternaries op) piece rest h
vector_complete (vector.RelaxedFloatTernary op) piece rest h =
    plain_complete (relaxed_float_ternary_number op) (vector.RelaxedFloatTernary op) (relaxed_float_ternaries op) piece rest h

-- loads and stores
vector_load_again : (op : VectorLoad) (bytes more after : List ℕ) (at : MemArg) → unsigned_at 32 bytes ≡ Ok (vector_load_number op, more)
    → mem_arg_at more ≡ Ok (at, after) → instr_at (0xFD ∷ bytes) ≡ Ok (instr.VectorLoad op at, after)
unfolding instr_at prefixed_at vector_instr_at vector_of low_of low_vector_at vector_load_at vector_load_of
vector_load_again load.V128 bytes more after at number part = rw (number, part) refl
vector_load_again op bytes more after at number part = rw (number, part) refl

pub vector_load_complete : (op : VectorLoad) (at : MemArg) (piece rest : List ℕ)
    → Joined (IsPrefixed 0xFD (vector_load_number op)) (IsMemArg at) piece → instr_at (piece ++ rest) ≡ Ok (instr.VectorLoad op at, rest)
vector_load_complete op at piece rest h =
    numbered_complete 0xFD (vector_load_number op) (instr.VectorLoad op) mem_arg_decodes (vector_load_again op) at piece rest h

pub vector_store_complete : (at : MemArg) (piece rest : List ℕ) → Joined (IsPrefixed 0xFD 11) (IsMemArg at) piece
    → instr_at (piece ++ rest) ≡ Ok (instr.VectorStore at, rest)
unfolding instr_at prefixed_at vector_instr_at vector_of low_of low_vector_at
vector_store_complete at piece rest h =
    numbered_complete 0xFD 11 instr.VectorStore mem_arg_decodes (λ bytes more after y number part. rw (number, part) refl) at piece rest h

pub vector_const_complete : (value : ℤ) (piece rest : List ℕ) → Joined (IsPrefixed 0xFD 12) (IsVector value) piece
    → instr_at (piece ++ rest) ≡ Ok (instr.V128Const value, rest)
unfolding instr_at prefixed_at vector_instr_at vector_of low_of low_vector_at
vector_const_complete value piece rest h =
    numbered_complete 0xFD 12 instr.V128Const vector_decodes (λ bytes more after y number part. rw (number, part) refl) value piece rest h

load_lane_again : (log2_bytes : ℕ) → log2_bytes < 4 → (bytes more middle after : List ℕ) (at : MemArg) (lane : ℕ)
    → unsigned_at 32 bytes ≡ Ok (84 + log2_bytes, more) → mem_arg_at more ≡ Ok (at, middle) → lane_at middle ≡ Ok (lane, after)
    → instr_at (0xFD ∷ bytes) ≡ Ok (instr.VectorLoadLane log2_bytes at lane, after)
unfolding instr_at prefixed_at vector_instr_at vector_of low_of lane_access_at
load_lane_again zero small bytes more middle after at lane number place part = rw (number, place, part) refl
load_lane_again (suc zero) small bytes more middle after at lane number place part = rw (number, place, part) refl
load_lane_again (suc (suc zero)) small bytes more middle after at lane number place part = rw (number, place, part) refl
load_lane_again (suc (suc (suc zero))) small bytes more middle after at lane number place part = rw (number, place, part) refl
load_lane_again (suc (suc (suc (suc n)))) small bytes more middle after at lane number place part = absurd (omega arith)

store_lane_again : (log2_bytes : ℕ) → log2_bytes < 4 → (bytes more middle after : List ℕ) (at : MemArg) (lane : ℕ)
    → unsigned_at 32 bytes ≡ Ok (88 + log2_bytes, more) → mem_arg_at more ≡ Ok (at, middle) → lane_at middle ≡ Ok (lane, after)
    → instr_at (0xFD ∷ bytes) ≡ Ok (instr.VectorStoreLane log2_bytes at lane, after)
unfolding instr_at prefixed_at vector_instr_at vector_of low_of lane_access_at
store_lane_again zero small bytes more middle after at lane number place part = rw (number, place, part) refl
store_lane_again (suc zero) small bytes more middle after at lane number place part = rw (number, place, part) refl
store_lane_again (suc (suc zero)) small bytes more middle after at lane number place part = rw (number, place, part) refl
store_lane_again (suc (suc (suc zero))) small bytes more middle after at lane number place part = rw (number, place, part) refl
store_lane_again (suc (suc (suc (suc n)))) small bytes more middle after at lane number place part = absurd (omega arith)

pub load_lane_complete : (log2_bytes : ℕ) (at : MemArg) (lane : ℕ) (piece rest : List ℕ) → IsLaneAccess 84 log2_bytes at lane piece
    → instr_at (piece ++ rest) ≡ Ok (instr.VectorLoadLane log2_bytes at lane, rest)
load_lane_complete log2_bytes at lane piece rest h =
    let g = prefix_apart 0xFD (84 + log2_bytes) h.1 in
    let parts = g.is_second.is_second in
    ap instr_at (tagged_read 0xFD rest g)
    ∙ load_lane_again log2_bytes h.0 (g.second ++ rest) (g.is_second.second ++ rest) (parts.second ++ rest) rest at lane
    (first_read (84 + log2_bytes) rest (unsigned_decodes 32) g.is_second) (first_read at rest mem_arg_decodes parts)
    (lane_decodes.complete lane parts.second rest parts.is_second)

pub store_lane_complete : (log2_bytes : ℕ) (at : MemArg) (lane : ℕ) (piece rest : List ℕ) → IsLaneAccess 88 log2_bytes at lane piece
    → instr_at (piece ++ rest) ≡ Ok (instr.VectorStoreLane log2_bytes at lane, rest)
store_lane_complete log2_bytes at lane piece rest h =
    let g = prefix_apart 0xFD (88 + log2_bytes) h.1 in
    let parts = g.is_second.is_second in
    ap instr_at (tagged_read 0xFD rest g)
    ∙ store_lane_again log2_bytes h.0 (g.second ++ rest) (g.is_second.second ++ rest) (parts.second ++ rest) rest at lane
    (first_read (88 + log2_bytes) rest (unsigned_decodes 32) g.is_second) (first_read at rest mem_arg_decodes parts)
    (lane_decodes.complete lane parts.second rest parts.is_second)
