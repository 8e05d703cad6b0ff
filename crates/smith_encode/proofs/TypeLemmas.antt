-- Types as they are written, and types that have a spelling.
use Rattle.smith_encode.proofs.Common.{[], and_parts, arith, Bool, drop, Each, false, IsList, joined_written, length, List, list_all}
use Rattle.smith_encode.proofs.Common.{None, Option, Output, refl, Some, sym, true, Writes, written_plain, ℕ, ◌<◌, ◌||◌, ◌∙◌, ◌∷◌, ◌≡◌}
use Rattle.std.proofs.Common.{add-one, ap, drop-cons, eqb, get_or, suc, zero, ◌+◌, ◌≤◌}
use Rattle.std.specs.Prelude.{Any, is_some, slice_get, unwrap_or}
use Rattle.std.proofs.Math.ListN.{drop_of_length-le}
use Rattle.std.proofs.lemmas.Bool.{and_from, ne_eqb}
use Rattle.std.proofs.lemmas.Option.{get_or_from_slice_get, slice_get_within}
use Rattle.smith_binary.specs.Pieces.{IsByte, IsListIn, Joined}
use Rattle.smith_binary.specs.Spelling.{IsUnsignedIn, Spelling}
use Rattle.smith_binary.proofs.WrittenLemmas.{Leads, nothing_written, written_as}
use Rattle.smith_types.specs.Syntax.composite_type.SubType.{SubType}
use Rattle.smith_binary_sections.specs.Types.{final_byte, is_alone, IsCompositeTypeIn, IsSubType, IsSubTypeAs}
use Rattle.smith_binary_sections.proofs.ListLemmas.{list_as}
use Rattle.smith_binary_sections.proofs.SpelledFormLemmas.{alone_is}
use Rattle.smith_binary_read.specs.declared.types.DeclaredType.{DeclaredType}
use Rattle.smith_binary_read.specs.DeclaredTypes.{IsDeclaredGroup, IsDeclaredType, with_further}
use Rattle.smith_binary_read.proofs.TypeLemmas.{plain_declared}
use Rattle.smith_decode.specs.TypeGroups.{AreAligned, declared_group, declared_groups}
use Rattle.smith_encode.specs.Spelled.{are_groups_spelled, are_types_spelled, IfPasses, is_declared_spelled, is_group_spelled}
use Rattle.smith_encode.specs.Spelled.{is_type_spelled}
use Rattle.smith_encode.specs.WrittenTypes.{HasSupertypes, IsDeclaredGroupWritten, IsDeclaredWritten, IsWrittenWith}
use Rattle.smith_encode.proofs.CheckedLemmas.{list_passes}

-- a type in its full form
pub full_written : (t : SubType) (supertypes : List ℕ) {a b c d : Output} → Writes (λ _. IsByte (final_byte t.is_final)) a b
    → Writes (λ s. IsListIn s (IsUnsignedIn s 32) supertypes) b c → Writes (λ s. IsCompositeTypeIn s t.composite_type) c d
    → Writes (λ _. HasSupertypes supertypes t) a d
full_written t supertypes form list composite =
    written_plain {Other = HasSupertypes supertypes t} (λ piece h. h) (joined_written form (joined_written list composite))

-- a first supertype, then others
pub supertypes_written : (first : ℕ) (further : List ℕ) {a b c d : Output}
    → Writes (λ s. IsUnsignedIn s 32 (length further + 1)) a b → Writes (λ s. IsUnsignedIn s 32 first) b c
    → Writes (λ s. Each (IsUnsignedIn s 32) further) c d → Writes (λ s. IsListIn s (IsUnsignedIn s 32) (first ∷ further)) a d
unfolding Each
supertypes_written first further count one others = joined_written (rw add-one at count) (joined_written one others)

-- a type with several supertypes
with_several : (t : SubType) (further : List ℕ) (first : ℕ) (piece : List ℕ) → (further ≡ [] → ⊥) → t.supertype ≡ Some first
    → HasSupertypes (first ∷ further) t piece → IsWrittenWith further t piece
with_several t [] first piece some is h = absurd (some refl)
with_several t (next ∷ further) first piece some is h = rw is h

pub several_written : (t : SubType) (further : List ℕ) (first : ℕ) {old new : Output} → (further ≡ [] → ⊥) → t.supertype ≡ Some first
    → Writes (λ _. HasSupertypes (first ∷ further) t) old new
    → Writes (λ _. IfPasses is_declared_spelled IsDeclaredWritten (with_further t further)) old new
several_written t further first some is one =
    written_plain {Other = IfPasses is_declared_spelled IsDeclaredWritten (with_further t further)}
    (λ piece h passes. with_several t further first piece some is h) one

-- further supertypes without a first
no_first : (t : SubType) (further : List ℕ) → (further ≡ [] → ⊥) → t.supertype ≡ None → is_type_spelled t further ≡ true → ⊥
no_first t [] some none passes = some refl
no_first t (next ∷ further) some none passes =
    let never : eqb (suc (length further)) 0 ≡ false = ne_eqb (suc (length further)) 0 (λ e. omega (arith, e)) in
    let same : (false || eqb (suc (length further)) 0) ≡ true = rw none at passes in
    absurd cc

-- no item is there past the end
beyond : {A : Type 0} (xs : List A) (i : ℕ) → slice_get xs i ≡ None → length xs ≤ i
beyond [] i none = omega arith
beyond (x ∷ xs) zero none = absurd cc
beyond (x ∷ xs) (suc i) none = let past = beyond xs i none in omega (arith, past)

-- one more item
next_item : {A : Type 0} (xs : List A) (i : ℕ) (x : A) → i < length xs → x ≡ get_or xs i x → drop i xs ≡ x ∷ drop (i + 1) xs
next_item xs i x inside read = rw (read, add-one) (drop-cons xs i x inside)

-- the types of a group from an index on
declared_from : (types : List SubType) (further : List (List ℕ)) (i : ℕ) (t : SubType) → i < length types → t ≡ get_or types i t
    → (found : Option (List ℕ)) → slice_get further i ≡ found
    → declared_group (drop i types) (drop i further) ≡ with_further t (unwrap_or found []) ∷ declared_group (drop (i + 1) types)
    (drop (i + 1) further)
declared_from types further i t inside is (Some one) at =
    let within : i < length further = slice_get_within further i one at in
    rw (next_item types i t inside is, next_item further i one within (sym (get_or_from_slice_get further i one one at))) refl
declared_from types further i t inside is None at =
    let past : length further ≤ i = beyond further i at in
    rw (next_item types i t inside is, drop_of_length-le further past, drop_of_length-le further {i = i + 1} (omega (arith, past))) refl

pub next_declared : (types : List SubType) (further : List (List ℕ)) (i : ℕ) (t : SubType) → i < length types → t ≡ get_or types i t
    → declared_group (drop i types) (drop i further)
    ≡ with_further t (unwrap_or (slice_get further i) []) ∷ declared_group (drop (i + 1) types) (drop (i + 1) further)
next_declared types further i t inside is = declared_from types further i t inside is (slice_get further i) refl

groups_from : (types : List (List SubType)) (further : List (List (List ℕ))) (i : ℕ) (group : List SubType) → i < length types
    → group ≡ get_or types i group → (found : Option (List (List ℕ))) → slice_get further i ≡ found
    → declared_groups (drop i types) (drop i further) ≡ declared_group group (unwrap_or found []) ∷ declared_groups (drop (i + 1) types)
    (drop (i + 1) further)
groups_from types further i group inside is (Some one) at =
    let within : i < length further = slice_get_within further i one at in
    rw (next_item types i group inside is, next_item further i one within (sym (get_or_from_slice_get further i one one at))) refl
groups_from types further i group inside is None at =
    let past : length further ≤ i = beyond further i at in
    rw (next_item types i group inside is, drop_of_length-le further past, drop_of_length-le further {i = i + 1} (omega (arith, past))) refl

pub next_group : (types : List (List SubType)) (further : List (List (List ℕ))) (i : ℕ) (group : List SubType) → i < length types
    → group ≡ get_or types i group
    → declared_groups (drop i types) (drop i further)
    ≡ declared_group group (unwrap_or (slice_get further i) []) ∷ declared_groups (drop (i + 1) types) (drop (i + 1) further)
next_group types further i group inside is = groups_from types further i group inside is (slice_get further i) refl

pub no_declared : (types : List SubType) (further : List (List ℕ)) (i : ℕ) → length types ≤ i
    → declared_group (drop i types) (drop i further) ≡ []
no_declared types further i past = rw (drop_of_length-le types past) refl

pub no_groups : (types : List (List SubType)) (further : List (List (List ℕ))) (i : ℕ) → length types ≤ i
    → declared_groups (drop i types) (drop i further) ≡ []
no_groups types further i past = rw (drop_of_length-le types past) refl

pub declared_counted : (types : List SubType) (further : List (List ℕ)) → length (declared_group types further) ≡ length types
declared_counted [] further = refl
declared_counted (t ∷ types) [] = ap suc (declared_counted types [])
declared_counted (t ∷ types) (one ∷ further) = ap suc (declared_counted types further)

pub groups_counted : (types : List (List SubType)) (further : List (List (List ℕ))) → length (declared_groups types further) ≡ length types
groups_counted [] further = refl
groups_counted (group ∷ types) [] = ap suc (groups_counted types [])
groups_counted (group ∷ types) (one ∷ further) = ap suc (groups_counted types further)

-- one more item is written, and then none is left
pub each_next : {A : Type 0} (P : A → List ℕ → Type 0) {Whole : Spelling → List ℕ → Type 0} {start now later : Output} (xs more : List A)
    (x : A) → xs ≡ x ∷ more → Leads (λ _. Each P xs) Whole start now → Writes (λ _. P x) now later
    → Leads (λ _. Each P more) Whole start later
unfolding Each
each_next P xs more x is so_far item =
    record { to = λ final rest. so_far.to final (written_as (λ s piece h. rw is h) (joined_written item rest)) }

pub each_end : {A : Type 0} (P : A → List ℕ → Type 0) {Whole : Spelling → List ℕ → Type 0} {start now : Output} (xs : List A) → xs ≡ []
    → Leads (λ _. Each P xs) Whole start now → Writes Whole start now
unfolding Each
each_end P {now = now} xs none so_far = so_far.to now (nothing_written (λ s. rw none refl))

-- an item that is too long
pub any_next : {A : Type 0} (P : A → Type 0) (xs more : List A) (x : A) → xs ≡ x ∷ more → Any P more → Any P xs
any_next P xs more x is h = rw is (h.0 + 1, h.1, omega arith, rw add-one h.3, h.4)

pub any_here : {A : Type 0} (P : A → Type 0) (xs more : List A) (x : A) → xs ≡ x ∷ more → P x → Any P xs
any_here P xs more x is h = rw is (0, x, omega arith, refl, h)

-- a group of one type
pub alone : (types : List SubType) (further : List (List ℕ)) (t : SubType) → length types ≡ 1 → t ≡ get_or types 0 t
    → declared_group types further ≡ with_further t (unwrap_or (slice_get further 0) []) ∷ []
alone types further t one is =
    next_declared types further 0 t (omega (arith, one)) is
    ∙ ap (λ (rest : List SubType). with_further t (unwrap_or (slice_get further 0) []) ∷ declared_group rest (drop (0 + 1) further))
    (drop_of_length-le types {i = 0 + 1} (omega (arith, one)))

-- other groups
group_form : (group : List DeclaredType) (piece : List ℕ) → (length group ≡ 1 → ⊥)
    → Joined (IsByte 0x4E) (IsList IsDeclaredWritten group) piece
    → IsDeclaredGroupWritten group piece
group_form [] piece other h = h
group_form (one ∷ []) piece other h = absurd (other refl)
group_form (one ∷ next ∷ group) piece other h = h

pub group_written : (types : List SubType) (group : List DeclaredType) {a b c d : Output} → (length types ≡ 1 → ⊥)
    → length group ≡ length types → Writes (λ _. IsByte 0x4E) a b → Writes (λ s. IsUnsignedIn s 32 (length types)) b c
    → Writes (λ _. Each (IfPasses is_declared_spelled IsDeclaredWritten) group) c d
    → Writes (λ _. IfPasses is_group_spelled IsDeclaredGroupWritten group) a d
group_written types group other same head count each =
    written_plain {Other = IfPasses is_group_spelled IsDeclaredGroupWritten group} (λ piece h passes.
    group_form group piece (λ one. other (sym same ∙ one)) (record {
      first = h.first;
      second = h.second;
      is_first = h.is_first;
      is_second = list_passes is_declared_spelled IsDeclaredWritten group h.second passes (rw same h.is_second);
      whole = h.whole;
    })) (joined_written head (joined_written count each))

pub groups_written : (types : List (List SubType)) (groups : List (List DeclaredType)) {a b c : Output} → length groups ≡ length types
    → Writes (λ s. IsUnsignedIn s 32 (length types)) a b
    → Writes (λ _. Each (IfPasses is_group_spelled IsDeclaredGroupWritten) groups) b c
    → Writes (λ _. IsList (IfPasses is_group_spelled IsDeclaredGroupWritten) groups) a c
groups_written types groups same count each =
    written_plain {Other = IsList (IfPasses is_group_spelled IsDeclaredGroupWritten) groups} (λ piece h. rw same h)
    (joined_written count each)

-- what is written is spelled by the grammar
plain_as : (is_alone : Bool) (t : SubType) (piece : List ℕ) → (is_alone ≡ true → (t.is_final ≡ true) × (t.supertype ≡ None))
    → IsSubTypeAs is_alone t piece → IsSubType t piece
plain_as true t piece is h = let (final, none) = is refl in IsSubType.short final none h
plain_as false t piece is h = IsSubType.full h

type_declared : (t : SubType) (further : List ℕ) (piece : List ℕ) → is_type_spelled t further ≡ true → IsWrittenWith further t piece
    → IsDeclaredType (with_further t further) piece
type_declared t [] piece passes h =
    plain_declared t piece (plain_as (is_alone t.supertype t.is_final) t piece (alone_is t.supertype t.is_final) h)
type_declared t (next ∷ further) piece passes h = IsDeclaredType.full (record {
  first = h.first;
  second = h.second;
  is_first = h.is_first;
  is_second = record {
    first = h.is_second.first;
    second = h.is_second.second;
    is_first = record {
      none = λ none. absurd (no_first t (next ∷ further) (λ same. absurd cc) none passes);
      form = h.is_second.is_first;
    };
    is_second = h.is_second.is_second;
    whole = h.is_second.whole;
  };
  whole = h.whole;
})

declared_form : (declared : DeclaredType) (piece : List ℕ) → IsDeclaredWritten declared piece
    → IfPasses is_declared_spelled IsDeclaredType declared piece
declared_form declared piece h = λ passes. type_declared declared.sub_type declared.further_supertypes piece passes h

types_listed : (group : List DeclaredType) (piece : List ℕ) → is_group_spelled group ≡ true
    → Joined (IsByte 0x4E) (IsList IsDeclaredWritten group) piece → IsDeclaredGroup group piece
types_listed group piece passes h = IsDeclaredGroup.full (record {
  first = h.first;
  second = h.second;
  is_first = h.is_first;
  is_second = list_passes is_declared_spelled IsDeclaredType group h.second passes
      (list_as IsDeclaredWritten (IfPasses is_declared_spelled IsDeclaredType) declared_form group h.second h.is_second);
  whole = h.whole;
})

group_declared : (group : List DeclaredType) (piece : List ℕ) → is_group_spelled group ≡ true → IsDeclaredGroupWritten group piece
    → IsDeclaredGroup group piece
group_declared [] piece passes h = types_listed [] piece passes h
group_declared (one ∷ []) piece passes h =
    let (here, none) = and_parts (is_declared_spelled one) true passes in
    IsDeclaredGroup.short one refl (declared_form one piece h here)
group_declared (one ∷ next ∷ group) piece passes h = types_listed (one ∷ next ∷ group) piece passes h

pub groups_declared : (groups : List (List DeclaredType)) (piece : List ℕ) → list_all is_group_spelled groups ≡ true
    → IsList (IfPasses is_group_spelled IsDeclaredGroupWritten) groups piece → IsList IsDeclaredGroup groups piece
groups_declared groups piece all h =
    list_passes is_group_spelled IsDeclaredGroup groups piece all
    (list_as (IfPasses is_group_spelled IsDeclaredGroupWritten) (IfPasses is_group_spelled IsDeclaredGroup)
    (λ group p one passes. group_declared group p passes (one passes)) groups piece h)

-- what is spelled has a spelling
type_passes : (supertype : Option ℕ) (further : List ℕ) → (supertype ≡ None → further ≡ [])
    → (is_some supertype || eqb (length further) 0) ≡ true
type_passes None further none = rw (none refl) refl
type_passes (Some first) further none = refl

declared_passes : (declared : DeclaredType) (piece : List ℕ) → IsDeclaredType declared piece → is_declared_spelled declared ≡ true
declared_passes declared piece (IsDeclaredType.full h) =
    type_passes declared.sub_type.supertype declared.further_supertypes h.is_second.is_first.none
declared_passes declared piece (IsDeclaredType.short final none nothing h) =
    type_passes declared.sub_type.supertype declared.further_supertypes (λ is. nothing)

each_spelled : {A : Type 0} (P : A → List ℕ → Type 0) (passes : A → Bool)
    → ((x : A) (piece : List ℕ) → P x piece → passes x ≡ true) → (xs : List A) (piece : List ℕ) → Each P xs piece
    → list_all passes xs ≡ true
unfolding Each
each_spelled P passes item [] piece h = refl
each_spelled P passes item (x ∷ xs) piece h =
    and_from (passes x) (list_all passes xs) (item x h.first h.is_first) (each_spelled P passes item xs h.second h.is_second)

group_passes : (group : List DeclaredType) (piece : List ℕ) → IsDeclaredGroup group piece → is_group_spelled group ≡ true
group_passes group piece (IsDeclaredGroup.full h) =
    each_spelled IsDeclaredType is_declared_spelled declared_passes group h.is_second.second h.is_second.is_second
group_passes group piece (IsDeclaredGroup.short one is h) =
    rw is (and_from (is_declared_spelled one) true (declared_passes one piece h) refl)

pub groups_pass : (groups : List (List DeclaredType)) (piece : List ℕ) → IsList IsDeclaredGroup groups piece
    → list_all is_group_spelled groups ≡ true
groups_pass groups piece h = each_spelled IsDeclaredGroup is_group_spelled group_passes groups h.second h.is_second

-- types with a list of further supertypes each, and a spelling
types_paired : (types : List SubType) (further : List (List ℕ)) → length further ≡ length types
    → is_group_spelled (declared_group types further) ≡ true → are_types_spelled types further ≡ true
types_paired [] [] same passes = refl
types_paired [] (one ∷ further) same passes = absurd (omega (arith, same))
types_paired (t ∷ types) [] same passes = absurd (omega (arith, same))
types_paired (t ∷ types) (one ∷ further) same passes =
    let (here, others) = and_parts (is_type_spelled t one) (is_group_spelled (declared_group types further)) passes in
    and_from (is_type_spelled t one) (are_types_spelled types further) here (types_paired types further (omega (arith, same)) others)

pub groups_paired : (types : List (List SubType)) (further : List (List (List ℕ))) → AreAligned types further
    → list_all is_group_spelled (declared_groups types further) ≡ true → are_groups_spelled types further ≡ true
groups_paired [] [] same passes = refl
groups_paired [] (one ∷ further) same passes = absurd cc
groups_paired (group ∷ types) [] same passes = absurd cc
groups_paired (group ∷ types) (one ∷ further) same passes =
    let (here, others) = and_parts (is_group_spelled (declared_group group one))
    (list_all is_group_spelled (declared_groups types further)) passes in
    let long : length one ≡ length group = cc in
    let rest : AreAligned types further = cc in
    and_from (are_types_spelled group one) (are_groups_spelled types further) (types_paired group one long here)
    (groups_paired types further rest others)

types_spelled : (types : List SubType) (further : List (List ℕ)) → are_types_spelled types further ≡ true
    → is_group_spelled (declared_group types further) ≡ true
types_spelled [] [] passes = refl
types_spelled [] (one ∷ further) passes = absurd cc
types_spelled (t ∷ types) [] passes = absurd cc
types_spelled (t ∷ types) (one ∷ further) passes =
    let (here, others) = and_parts (is_type_spelled t one) (are_types_spelled types further) passes in
    and_from (is_type_spelled t one) (is_group_spelled (declared_group types further)) here (types_spelled types further others)

pub groups_spelled : (types : List (List SubType)) (further : List (List (List ℕ))) → are_groups_spelled types further ≡ true
    → list_all is_group_spelled (declared_groups types further) ≡ true
groups_spelled [] [] passes = refl
groups_spelled [] (one ∷ further) passes = absurd cc
groups_spelled (group ∷ types) [] passes = absurd cc
groups_spelled (group ∷ types) (one ∷ further) passes =
    let (here, others) = and_parts (are_types_spelled group one) (are_groups_spelled types further) passes in
    and_from (is_group_spelled (declared_group group one)) (list_all is_group_spelled (declared_groups types further))
    (types_spelled group one here) (groups_spelled types further others)

types_counted : (types : List SubType) (further : List (List ℕ)) → are_types_spelled types further ≡ true → length further ≡ length types
types_counted [] [] passes = refl
types_counted [] (one ∷ further) passes = absurd cc
types_counted (t ∷ types) [] passes = absurd cc
types_counted (t ∷ types) (one ∷ further) passes =
    let (here, others) = and_parts (is_type_spelled t one) (are_types_spelled types further) passes in
    ap suc (types_counted types further others)

pub groups_aligned : (types : List (List SubType)) (further : List (List (List ℕ))) → are_groups_spelled types further ≡ true
    → AreAligned types further
groups_aligned [] [] passes = refl
groups_aligned [] (one ∷ further) passes = absurd cc
groups_aligned (group ∷ types) [] passes = absurd cc
groups_aligned (group ∷ types) (one ∷ further) passes =
    let (here, others) = and_parts (are_types_spelled group one) (are_groups_spelled types further) passes in
    let first = types_counted group one here in
    let rest = groups_aligned types further others in
    cc
