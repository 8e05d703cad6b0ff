-- The loops that make instructions which mix locals, and observed bodies.
use Rattle.smith_program.proofs.Common.{[], ap, append-nil, append_assoc, arith, flat_map, flat_map-append, get_or, if◌then◌else◌, Instr}
use Rattle.smith_program.proofs.Common.{length, List, suc, sym, take, ValType, ℕ, ◌++◌, ◌+◌, ◌<◌, ◌∙◌, ◌∷◌, ◌≡◌}
use Rattle.std.proofs.Common.{min}
use Rattle.std.proofs.lemmas.List.{length-take, take_more}
use Rattle.smith_program.specs.Observed.{after_mixes, leaves, mix, mixes_from}

-- the mixes of locals, and of one more
mixes_push : (first index : ℕ) (values : List ValType) (value : ValType)
    → mixes_from first index (values ++ value ∷ []) ≡ mixes_from first index values ++ mix first (index + length values) value
mixes_push first index [] value =
    let same : index + 0 ≡ index = omega arith in
    append-nil (mix first index value) ∙ ap (λ (n : ℕ). mix first n value) (sym same)
mixes_push first index (v ∷ values) value =
    let same : suc index + length values ≡ index + length (v ∷ values) = omega arith in
    ap (λ (zs : List Instr). mix first index v ++ zs)
    (mixes_push first (suc index) values value
    ∙ ap (λ (n : ℕ). mixes_from first (suc index) values ++ mix first n value) same)
    ∙ sym (append_assoc (mix first index v) (mixes_from first (suc index) values) (mix first (index + length (v ∷ values)) value))

pub mixes_more : (first index : ℕ) (locals : List ValType) (value : ValType) (made : List Instr) → index < length locals
    → value ≡ get_or locals index value → made ≡ mixes_from first 0 (take index locals)
    → made ++ mix first index value ≡ mixes_from first 0 (take (index + 1) locals)
mixes_more first index locals value made inside read before =
    let front : take (index + 1) locals ≡ take index locals ++ value ∷ [] =
    take_more locals index value inside ∙ ap (λ (v : ValType). take index locals ++ v ∷ []) (sym read) in
    let long : length (take index locals) ≡ min index (length locals) = length-take index locals in
    let at : 0 + length (take index locals) ≡ index = omega arith in
    ap (λ (zs : List Instr). zs ++ mix first index value) before
    ∙ sym (ap (λ (zs : List ValType). mixes_from first 0 zs) front ∙ (mixes_push first 0 (take index locals) value
    ∙ ap (λ (n : ℕ). mixes_from first 0 (take index locals) ++ mix first n value) at))

-- observed instructions, and one more
pub observed_more : (mixed instructions made placed : List Instr) (index : ℕ) (instr : Instr) → index < length instructions
    → instr ≡ get_or instructions index instr → placed ≡ (if leaves instr then mixed else [])
    → made ≡ flat_map (after_mixes mixed) (take index instructions)
    → (made ++ placed) ++ instr ∷ [] ≡ flat_map (after_mixes mixed) (take (index + 1) instructions)
observed_more mixed instructions made placed index instr inside read choice before =
    let f = after_mixes mixed in
    let front : take (index + 1) instructions ≡ take index instructions ++ instr ∷ [] =
    take_more instructions index instr inside ∙ ap (λ (x : Instr). take index instructions ++ x ∷ []) (sym read) in
    let last : flat_map f (instr ∷ []) ≡ placed ++ instr ∷ [] =
    append-nil (f instr) ∙ ap (λ (zs : List Instr). zs ++ instr ∷ []) (sym choice) in
    append_assoc made placed (instr ∷ [])
    ∙ (ap (λ (zs : List Instr). zs ++ (placed ++ instr ∷ [])) before
    ∙ sym (ap (λ (zs : List Instr). flat_map f zs) front ∙ (flat_map-append f (take index instructions) (instr ∷ [])
    ∙ ap (λ (zs : List Instr). flat_map f (take index instructions) ++ zs) last)))
