-- Sections as they are written.
use Rattle.smith_encode.proofs.Common.{[], and_parts, ap, arith, Bool, Custom, eqb, Err, false, IfOk, IsList, IsOptionalSection, IsThen}
use Rattle.smith_encode.proofs.Common.{length, List, list_all, Module, name_data, None, Ok, Option, Output, refl, Result, Some, subst, sym}
use Rattle.smith_encode.proofs.Common.{syntax_of, true, ℕ, ◌^◌, ◌∷◌, ◌≡◌}
use Rattle.std.proofs.Common.{inl, inr, ◌≤◌, ◌⊎◌}
use Rattle.smith_binary.specs.Numbers.{IsUnsigned}
use Rattle.smith_binary_sections.specs.Long.{IsLongContent}
use Rattle.smith_binary_sections.proofs.SizeLemmas.{not_long, number_within}
use Rattle.smith_decode.specs.Modules.{IsStated}
use Rattle.smith_encode.specs.Places.{WritesCustoms, WritesNext, WritesBefore}
use Rattle.smith_encode.specs.Spelled.{IfPasses, is_table_nested, is_global_nested, is_element_nested, is_body_spelled, is_data_nested}
use Rattle.smith_encode.specs.Spelled.{are_groups_spelled, are_parts_spelled}
use Rattle.smith_encode.specs.Tails.{FromBodies, FromCount, IsCount, start_ids}
use Rattle.smith_encode.specs.TooLong.{IsTooLong}
use Rattle.smith_encode.proofs.CheckedLemmas.{list_passes}
use Rattle.smith_encode.proofs.PlaceLemmas.{next_before, customs_before}

-- a section, whatever number of data segments is stated
pub section_written : {A E : Type 0} {S T : Type 0} {Content Other : List ℕ → Type 0} (id : ℕ) (old : Option ℕ × List Custom)
    (before after : Output) (place_of : A → Option ℕ × List Custom) (r : Result A E) (Tail : Option ℕ → List ℕ → Type 0) → (S → T)
    → ((piece : List ℕ) → Content piece → Other piece)
    → IfOk r (λ (next : A). WritesNext id S Content old (place_of next) before after)
    → IfOk r (λ (next : A). (count : Option ℕ)
    → WritesBefore (id ∷ []) (Tail count) (IsThen id T Other (Tail count)) old (place_of next) before after)
section_written {Content = Content} {Other = Other} id old before after place_of (Ok next) Tail nothing weaker h =
    λ count. next_before {Content = Content} {Other = Other} (Tail count) nothing weaker h
section_written id old before after place_of (Err e) Tail nothing weaker h = tt

-- a section after that number
pub late_written : {A E : Type 0} {S T : Type 0} {Content Other : List ℕ → Type 0} (id : ℕ) (old : Option ℕ × List Custom)
    (before after : Output) (place_of : A → Option ℕ × List Custom) (r : Result A E) (Tail : List ℕ → Type 0) → (S → T)
    → ((piece : List ℕ) → Content piece → Other piece)
    → IfOk r (λ (next : A). WritesNext id S Content old (place_of next) before after)
    → IfOk r (λ (next : A). WritesBefore (id ∷ []) Tail (IsThen id T Other Tail) old (place_of next) before after)
late_written {Content = Content} {Other = Other} id old before after place_of (Ok next) Tail nothing weaker h =
    next_before {Content = Content} {Other = Other} Tail nothing weaker h
late_written id old before after place_of (Err e) Tail nothing weaker h = tt

-- a start section, or none
pub start_written : {A E : Type 0} (old : Option ℕ × List Custom) (before after : Output) (place_of : A → Option ℕ × List Custom)
    (r : Result A E) (Tail : Option ℕ → List ℕ → Type 0) (start : Option ℕ) (index : ℕ) → start ≡ Some index
    → IfOk r (λ (next : A). WritesNext 8 (true ≡ false) (IsUnsigned 32 index) old (place_of next) before after)
    → IfOk r (λ (next : A). (count : Option ℕ)
    → WritesBefore (start_ids start) (Tail count) (IsThen 8 (start ≡ None) (IsStated start) (Tail count)) old (place_of next) before after)
start_written old before after place_of (Ok next) Tail start index is h = λ count.
    subst (λ (ids : List ℕ). WritesBefore ids (Tail count) (IsThen 8 (start ≡ None) (IsStated start) (Tail count)) old
    (place_of next) before after) (sym (ap start_ids is))
    (next_before {S = true ≡ false} {T = start ≡ None} {Content = IsUnsigned 32 index} {Other = IsStated start} (Tail count)
    (λ never. absurd cc) (λ piece one. record { number = index; is = is; form = one }) h)
start_written old before after place_of (Err e) Tail start index is h = tt

pub no_start_written : {A E : Type 0} (old : Option ℕ × List Custom) (before after : Output) (place_of : A → Option ℕ × List Custom)
    (r : Result A E) (Tail : Option ℕ → List ℕ → Type 0) (start : Option ℕ) → start ≡ None
    → IfOk r (λ (next : A). WritesCustoms old (place_of next) before after)
    → IfOk r (λ (next : A). (count : Option ℕ)
    → WritesBefore (start_ids start) (Tail count) (IsThen 8 (start ≡ None) (IsStated start) (Tail count)) old (place_of next) before after)
no_start_written old before after place_of (Ok next) Tail start none h = λ count.
    subst (λ (ids : List ℕ). WritesBefore ids (Tail count) (IsThen 8 (start ≡ None) (IsStated start) (Tail count)) old
    (place_of next) before after) (sym (ap start_ids none)) (customs_before {T = start ≡ None} {Other = IsStated start} (Tail count) none h)
no_start_written old before after place_of (Err e) Tail start none h = tt

-- the number of data segments, which is stated or not
count_of : (m : Module) (is_stated : Bool) {old new : Option ℕ × List Custom} {before after : Output}
    → (is_stated ≡ false → name_data m.bodies ≡ false)
    → (h : WritesNext 12 (is_stated ≡ false) (IsUnsigned 32 (length m.datas)) old new before after)
    → IsOptionalSection 12 (is_stated ≡ false) (IsUnsigned 32 (length m.datas)) h.section
    → (count : Option ℕ) × IsCount m count
    × WritesBefore (12 ∷ []) (FromBodies (syntax_of m)) (FromCount (syntax_of m) count) old new before after
count_of m is_stated needless h (IsOptionalSection.present section) = (
  Some (length m.datas),
  (refl, λ none. absurd cc),
  next_before {S = ⊥} {T = Some (length m.datas) ≡ None} {Content = IsUnsigned 32 (length m.datas)}
      {Other = IsStated (Some (length m.datas))} (FromBodies (syntax_of m)) (λ never. absurd never)
      (λ piece one. record { number = length m.datas; is = refl; form = one }) (record {
        customs = h.customs;
        section = h.section;
        are_customs = h.are_customs;
        is_section = IsOptionalSection.present section;
        leads = h.leads;
        whole = h.whole;
      }),
)
count_of m is_stated needless h (IsOptionalSection.absent says empty) = (
  None,
  (tt, λ none. needless says),
  next_before {S = Unit {0}} {T = None ≡ None} {Content = λ (piece : List ℕ). ⊥}
      {Other = IsStated None} (FromBodies (syntax_of m)) (λ some. refl) (λ piece never. absurd never) (record {
        customs = h.customs;
        section = h.section;
        are_customs = h.are_customs;
        is_section = IsOptionalSection.absent tt empty;
        leads = h.leads;
        whole = h.whole;
      }),
)

pub count_written : {A E : Type 0} (old : Option ℕ × List Custom) (before after : Output) (m : Module) (is_stated : Bool)
    (place_of : A → Option ℕ × List Custom) (r : Result A E) → (is_stated ≡ false → name_data m.bodies ≡ false)
    → IfOk r (λ (next : A). WritesNext 12 (is_stated ≡ false) (IsUnsigned 32 (length m.datas)) old (place_of next) before after)
    → IfOk r (λ (next : A). (count : Option ℕ) × IsCount m count
    × WritesBefore (12 ∷ []) (FromBodies (syntax_of m)) (FromCount (syntax_of m) count) old (place_of next) before after)
count_written old before after m is_stated place_of (Ok next) needless h = count_of m is_stated needless h h.is_section
count_written old before after m is_stated place_of (Err e) needless h = tt

-- an integer has few bytes
pub index_never_long : (n : ℕ) → IsLongContent (IsUnsigned 32 n) → ⊥
index_never_long n h = not_long 5 (omega arith) (number_within n) h

pub long_count : (m : Module) → (2 ^ 32 ≤ length m.datas) ⊎ IsLongContent (IsUnsigned 32 (length m.datas)) → IsTooLong m
long_count m (inl many) = IsTooLong.datas (inl (inl many))
long_count m (inr content) = absurd (index_never_long (length m.datas) content)

pub long_index : {A : Type 0} (index : ℕ) → ⊥ ⊎ IsLongContent (IsUnsigned 32 index) → A
long_index index (inl never) = absurd never
long_index index (inr content) = absurd (index_never_long index content)

-- a section that is too long
pub long_section : {A B C : Type 0} → (B → C) → A ⊎ B → C ⊎ A
long_section too_long (inl custom) = inr custom
long_section too_long (inr section) = inl (too_long section)

pub long_passes : {A IsLong : Type 0} (passes : A → Bool) (P : A → List ℕ → Type 0) (xs : List A) → list_all passes xs ≡ true
    → IsLong ⊎ IsLongContent (IsList (IfPasses passes P) xs) → IsLong ⊎ IsLongContent (IsList P xs)
long_passes passes P xs all (inl long) = inl long
long_passes passes P xs all (inr content) =
    inr (record { piece = content.piece; spelled = list_passes passes P xs content.piece all content.spelled; long = content.long })

-- the items of a module that passes
pub record Passes (m : Module) : Type 0 where
  pub types : are_groups_spelled m.types m.further_supertypes ≡ true
  pub counts : eqb (length m.functions) (length m.bodies) ≡ true
  pub tables : list_all is_table_nested m.tables ≡ true
  pub globals : list_all is_global_nested m.globals ≡ true
  pub elements : list_all is_element_nested m.elements ≡ true
  pub bodies : list_all is_body_spelled m.bodies ≡ true
  pub datas : list_all is_data_nested m.datas ≡ true

pub passes_of : (m : Module) → are_parts_spelled m ≡ true → Passes m
passes_of m passes =
    let (types, after_types) = and_parts (are_groups_spelled m.types m.further_supertypes) _ passes in
    let (counts, items) = and_parts (eqb (length m.functions) (length m.bodies)) _ after_types in
    let (tables, after_tables) = and_parts (list_all is_table_nested m.tables) _ items in
    let (globals, after_globals) = and_parts (list_all is_global_nested m.globals) _ after_tables in
    let (elements, after_elements) = and_parts (list_all is_element_nested m.elements) _ after_globals in
    let (bodies, datas) = and_parts (list_all is_body_spelled m.bodies) (list_all is_data_nested m.datas) after_elements in
    record { types = types; counts = counts; tables = tables; globals = globals; elements = elements; bodies = bodies; datas = datas }
