-- The data count section of a module, which each reading of its bytes finds.
use Rattle.smith_binary_program.proofs.Common.{[], ap, arith, Contains, Contents, Each, IsOptionalSection, IsUnsigned, Joined, length}
use Rattle.smith_binary_program.proofs.Common.{length-append, List, refl, subst, suc, sym, zero, ℕ, ◌++◌, ◌+◌, ◌∙◌, ◌∷◌, ◌≡◌}
use Rattle.std.proofs.Common.{append-nil}
use Rattle.smith_binary.specs.Pieces.{IsSection}
use Rattle.smith_binary.specs.Unambiguous.{IsUnambiguousWhole, Same}
use Rattle.smith_binary.proofs.UnambiguousLemmas.{byte_is_unambiguous, first_same, same_front, sized_is_unambiguous}
use Rattle.smith_binary_law.proofs.SectionLemmas.{start_form}
use Rattle.smith_binary_module.specs.Layout.{IsAnySection}
use Rattle.smith_binary_sections.specs.Modules.{IsModule}
use Rattle.smith_decode.specs.Constants.{IsPresent, StatesCount}
use Rattle.smith_binary_program.specs.Valid.{HasSection}

-- sections in order, among them the data count section
record HasCount (piece : List ℕ) : Type 0 where
  pub ids : List ℕ
  pub each : Each IsAnySection ids piece
  pub there : Contains ids 12

-- a section that is read in two ways
any_content : IsUnambiguousWhole (λ (x : Unit {0}) (content : List ℕ). Unit {0})
any_content = record { one = λ x y piece h k. refl }

same_section : {P : List ℕ → Type 0} (id other : ℕ) (piece more rest later : List ℕ) → IsSection id P piece → IsAnySection other more
    → piece ++ rest ≡ more ++ later → Same id other rest later
same_section id other piece more rest later h k same =
    let byte = first_same {x = id} {y = other} rest later byte_is_unambiguous h k same in
    let sized = (sized_is_unambiguous any_content).one tt tt h.second k.second rest later
    (record { content = h.is_second.content; is_content = tt; form = h.is_second.form }) k.is_second byte.after in
    record { item = byte.item; after = sized.after }

-- after another section, the data count section is still to come
past_section : {P : List ℕ → Type 0} (id : ℕ) (ids piece first rest : List ℕ) → (id ≡ 12 → ⊥) → IsSection id P first
    → piece ≡ first ++ rest → Each IsAnySection ids piece → Contains ids 12 → HasCount rest
unfolding Each
past_section id [] piece first rest apart h whole each there = absurd (let outside = there.1 in omega arith)
past_section id (next ∷ ids) piece first rest apart h whole each (zero, within, is) =
    let same = same_section id next first each.first rest each.second h each.is_first (sym whole ∙ each.whole) in
    absurd (apart (same.item ∙ is))
past_section id (next ∷ ids) piece first rest apart h whole each (suc k, within, is) =
    let same = same_section id next first each.first rest each.second h each.is_first (sym whole ∙ each.whole) in
    record { ids = ids; each = subst (Each IsAnySection ids) (sym same.after) each.is_second; there = (k, omega arith, is) }

past_optional : {N : Type 0} {P : List ℕ → Type 0} (id : ℕ) (piece first rest : List ℕ) → (id ≡ 12 → ⊥) → IsOptionalSection id N P first
    → piece ≡ first ++ rest → HasCount piece → HasCount rest
past_optional id piece first rest apart (IsOptionalSection.present h) whole count =
    past_section id count.ids piece first rest apart h whole count.each count.there
past_optional id piece first rest apart (IsOptionalSection.absent is empty) whole count =
    subst HasCount (whole ∙ ap (λ (front : List ℕ). front ++ rest) empty) count

past : {N : Type 0} {P More : List ℕ → Type 0} {piece : List ℕ} (id : ℕ) → (id ≡ 12 → ⊥)
    → (h : Joined (IsOptionalSection id N P) More piece) → HasCount piece → HasCount h.second
past {piece = piece} id apart h count = past_optional id piece h.first h.second apart h.is_first h.whole count

-- no byte is left
none_left : (ids : List ℕ) → Each IsAnySection ids [] → Contains ids 12 → ⊥
unfolding Each
none_left [] each there = let outside = there.1 in omega arith
none_left (id ∷ ids) each there =
    let whole : 0 ≡ length each.first + length each.second = ap length each.whole ∙ length-append each.first each.second in
    let section = each.is_first in
    let first : length each.first ≡ length section.first + length section.second =
    ap length section.whole ∙ length-append section.first section.second in
    let byte : length section.first ≡ 1 = ap length section.is_first in
    omega arith

present_if : (n : ℕ) (piece first rest : List ℕ) → (h : IsOptionalSection 12 (Unit {0}) (IsUnsigned 32 n) first)
    → (HasCount rest → ⊥) → piece ≡ first ++ rest → HasCount piece → IsPresent h
present_if n piece first rest (IsOptionalSection.present h) never whole count = tt
present_if n piece first rest (IsOptionalSection.absent is empty) never whole count =
    absurd (never (subst HasCount (whole ∙ ap (λ (front : List ℕ). front ++ rest) empty) count))

-- a module whose bytes have a data count section states the number of its data segments
pub count_stated : (m : Contents) (bytes : List ℕ) → (h : IsModule m bytes) → HasSection 12 bytes → StatesCount h
count_stated m bytes is_module has =
    let h = is_module.form in
    let sections = has.sections in
    let same = same_front h.first sections.first h.second sections.second (ap length (h.is_first ∙ sym sections.is_first))
    (sym h.whole ∙ sections.whole) in
    let all : HasCount h.second =
    record { ids = has.ids; each = subst (Each IsAnySection has.ids) (sym same.after) sections.is_second; there = has.there } in
    let types = h.is_second in
    let imports = types.is_second in
    let functions = imports.is_second in
    let tables = functions.is_second in
    let memories = tables.is_second in
    let tags = memories.is_second in
    let globals = tags.is_second in
    let exports = globals.is_second in
    let start = exports.is_second in
    let elems = start.is_second in
    let count = elems.is_second in
    let code = count.is_second in
    let from_tables = past 3 (λ e. omega arith) functions (past 2 (λ e. omega arith) imports (past 1 (λ e. omega arith) types all)) in
    let from_globals =
    past 13 (λ e. omega arith) tags (past 5 (λ e. omega arith) memories (past 4 (λ e. omega arith) tables from_tables)) in
    let from_start = past 7 (λ e. omega arith) exports (past 6 (λ e. omega arith) globals from_globals) in
    let from_elems =
    past_optional 8 exports.second start.first start.second (λ e. omega arith) (start_form m.start start.is_first) start.whole from_start in
    let from_count = past 9 (λ e. omega arith) elems from_elems in
    let never : HasCount count.second → ⊥ = λ after_count.
    let from_data = past 10 (λ e. omega arith) code after_count in
    let end = past_optional 11 code.second code.second [] (λ e. omega arith) code.is_second (sym (append-nil code.second)) from_data in
    none_left end.ids end.each end.there in
    present_if (length m.datas) elems.second count.first count.second count.is_first never count.whole from_count
