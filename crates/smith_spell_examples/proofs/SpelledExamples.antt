-- Pieces of bytes that form a spelling, and the first byte of a spelling.
use Rattle.smith_spell_examples.proofs.Common.{[], ap, arith, Bool, Concrete, default_config, digit_count, enabled, false, is_tag_type}
use Rattle.smith_spell_examples.proofs.Common.{is_unshared_function, Joined, List, Listed, one_function_type, refl, SpellsAnyByte}
use Rattle.smith_spell_examples.proofs.Common.{SpellsBool, SpellsFuncType, SpellsGlobal, SpellsGroup, SpellsGroups, SpellsMember}
use Rattle.smith_spell_examples.proofs.Common.{SpellsNumber, SpellsPlace, SpellsSubTypes, subst, sym, true, ℕ, ◌%◌, ◌+◌, ◌<◌, ◌∙◌, ◌∷◌, ◌≡◌}
use Rattle.std.proofs.Common.{length, suc, ◌++◌, ◌-◌}
use Rattle.std.proofs.Common.{append_assoc}
use Rattle.std.specs.Prelude.{ℤ, Some, slice_get, if◌then◌else◌}
use Rattle.std.specs.Int.{cast_signed, w32}
use Rattle.smith_bytes.specs.Draws.{big_endian, little_endian}
use Rattle.smith_bytes.specs.Spelling.{SpellsRefusal}
use Rattle.smith_config.specs.declared.config.Config.{Config}
use Rattle.smith_draw_types.specs.ValueTypes.{value_classes}
use Rattle.smith_draw_types.specs.Spelling.{SpellsNullable, SpellsRefType, SpellsUnshared}
use Rattle.smith_draw_types.specs.SpelledConstants.{SpellsI32, SpellsConstant}
use Rattle.smith_spell.proofs.WrittenLemmas.{regrouped}

-- one piece after another
pub joined : {First Second : List ℕ → Type 0} (first second : List ℕ) → First first → Second second → Joined First Second (first ++ second)
joined first second is_first is_second = record { first = first; second = second; is_first = is_first; is_second = is_second; whole = refl }

-- a byte with this lowest bit
pub odd : (byte : ℕ) → byte % 2 ≡ 1 → SpellsBool true (byte ∷ [])
odd byte lowest = record { byte = byte; whole = refl; lowest = lowest }

pub even : (byte : ℕ) → byte % 2 ≡ 0 → SpellsBool false (byte ∷ [])
even byte lowest = record { byte = byte; whole = refl; lowest = lowest }

pub go : SpellsBool true (1 ∷ [])
go = odd 1 refl

pub stop : SpellsBool false (0 ∷ [])
stop = even 0 refl

pub one_odd : SpellsBool false (1 ∷ []) → ⊥
one_odd h = let same : 1 ≡ h.byte = cc h.whole in let never : 1 ≡ 0 = ap (λ n. n % 2) same ∙ h.lowest in cc never

pub zero_even : SpellsBool true (0 ∷ []) → ⊥
zero_even h = let same : 0 ≡ h.byte = cc h.whole in let never : 0 ≡ 1 = ap (λ n. n % 2) same ∙ h.lowest in cc never

pub any_byte : (byte : ℕ) → SpellsAnyByte (byte ∷ [])
any_byte byte = record { byte = byte; whole = refl }

-- the byte that spells that no group is cloned
pub no_clone : SpellsRefusal 255 (1 ∷ [])
unfolding digit_count
no_clone = record { drawn = 2; later = omega arith; number = record { digits = refl; read = refl } }

-- the byte that spells that no supertype is chosen
pub no_supertype : SpellsRefusal 32 (1 ∷ [])
unfolding digit_count
no_supertype = record { drawn = 2; later = omega arith; number = record { digits = refl; read = refl } }

-- the byte that spells that a type is not shared
pub not_shared : SpellsRefusal 4 (1 ∷ [])
unfolding digit_count
not_shared = record { drawn = 2; later = omega arith; number = record { digits = refl; read = refl } }

-- every spelling of one function of a type without parameters and results
pub one_function_spelled : (next size final kind no_param no_result no_group no_import flag no_tag more no_more : ℕ)
    → next % 2 ≡ 1 → SpellsNumber 1 0 100 (size ∷ []) → final % 2 ≡ 1 → SpellsNumber 1 0 2 (kind ∷ []) → no_param % 2 ≡ 0
    → no_result % 2 ≡ 0 → no_group % 2 ≡ 0
    → no_import % 2 ≡ 0 → no_tag % 2 ≡ 0 → more % 2 ≡ 1 → no_more % 2 ≡ 0
    → SpellsMember default_config one_function_type (0 ∷ []) (next ∷ size ∷ final ∷ kind ∷ no_param ∷ no_result ∷ no_group ∷ no_import
    ∷ flag ∷ no_tag ∷ more ∷ no_more ∷ [])
unfolding SpellsMember SpellsGroups SpellsGroup SpellsSubTypes SpellsFuncType Listed digit_count is_tag_type is_unshared_function
one_function_spelled next size final kind no_param no_result no_group no_import flag no_tag more no_more a b c d e f g h i j k =
    let lists = joined (no_param ∷ []) (no_result ∷ []) (even no_param e) (even no_result f) in
    let declared = joined [] (final ∷ kind ∷ no_param ∷ no_result ∷ []) refl (joined (final ∷ []) (kind ∷ no_param ∷ no_result ∷ [])
    (odd final c)
    (joined [] (kind ∷ no_param ∷ no_result ∷ []) refl (joined (kind ∷ []) (no_param ∷ no_result ∷ []) d lists))) in
    let types = joined (final ∷ kind ∷ no_param ∷ no_result ∷ []) [] (record { root = refl; unshared = refl; form = declared }) refl in
    let group = joined (size ∷ []) (final ∷ kind ∷ no_param ∷ no_result ∷ []) (joined [] (size ∷ []) refl b) types in
    let groups = joined (next ∷ []) (size ∷ final ∷ kind ∷ no_param ∷ no_result ∷ no_group ∷ []) (odd next a)
    (joined (size ∷ final ∷ kind ∷ no_param ∷ no_result ∷ []) (no_group ∷ []) group (even no_group g)) in
    let funcs = joined (more ∷ []) (no_more ∷ []) (odd more j)
    (joined [] (no_more ∷ []) (record { place = 0; stands = refl; number = record { digits = refl; read = refl } }) (even no_more k)) in
    joined (next ∷ size ∷ final ∷ kind ∷ no_param ∷ no_result ∷ no_group ∷ []) (no_import ∷ flag ∷ no_tag ∷ more ∷ no_more ∷ []) groups
    (joined (no_import ∷ []) (flag ∷ no_tag ∷ more ∷ no_more ∷ []) (even no_import h)
    (joined (flag ∷ []) (no_tag ∷ more ∷ no_more ∷ []) (any_byte flag) (joined (no_tag ∷ []) (more ∷ no_more ∷ []) (even no_tag i) funcs)))

-- a stronger first piece
pub first_weaker : {First Weaker Second : List ℕ → Type 0} {piece : List ℕ} → ((part : List ℕ) → First part → Weaker part)
    → Joined First Second piece → Joined Weaker Second piece
first_weaker less both = record {
  first = both.first;
  second = both.second;
  is_first = less both.first both.is_first;
  is_second = both.is_second;
  whole = both.whole;
}

-- a stronger second piece
pub second_weaker : {First Second Weaker : List ℕ → Type 0} {piece : List ℕ} → ((part : List ℕ) → Second part → Weaker part)
    → Joined First Second piece → Joined First Weaker piece
second_weaker less both = record {
  first = both.first;
  second = both.second;
  is_first = both.is_first;
  is_second = less both.second both.is_second;
  whole = both.whole;
}

-- the parts of a global, one after another
pub global_parts : (config : Config) (value : ℤ) {piece : List ℕ} → SpellsGlobal config value piece
    → Joined (SpellsNumber 0 0 (length (enabled (value_classes config)) - 1))
    (Joined (SpellsUnshared config) (Joined (SpellsBool true) (SpellsConstant config value))) piece
unfolding SpellsGlobal
global_parts config value h = second_weaker (λ part. regrouped {piece = part}) (regrouped h)

pub without_nothing : {Second : List ℕ → Type 0} {piece : List ℕ} → Joined (λ first. first ≡ []) Second piece → Second piece
without_nothing {Second = Second} {piece = piece} both =
    let same : piece ≡ both.second = subst (λ part. piece ≡ part ++ both.second) both.is_first both.whole in
    subst Second (sym same) both.is_second

-- a leading bool is the first byte, and the rest follows it
pub bool_first : {value : Bool} {Second : List ℕ → Type 0} {byte : ℕ} {rest : List ℕ} → Joined (SpellsBool value) Second (byte ∷ rest)
    → (byte % 2 ≡ (if value then 1 else 0)) × Second rest
bool_first {Second = Second} {byte = byte} {rest = rest} both =
    let bool = both.is_first in
    let apart : byte ∷ rest ≡ bool.byte ∷ both.second = subst (λ part. byte ∷ rest ≡ part ++ both.second) bool.whole both.whole in
    let head : byte ≡ bool.byte = cc in
    let tail : both.second ≡ rest = cc in
    (ap (λ n. n % 2) head ∙ bool.lowest, subst Second tail both.is_second)

-- a leading number that takes no byte
pub number_alone : {value lo hi : ℕ} {Second : List ℕ → Type 0} {piece : List ℕ} → digit_count (hi - lo) ≡ 0
    → Joined (SpellsNumber value lo hi) Second piece → Second piece
number_alone {lo = lo} {hi = hi} none both = without_nothing (first_weaker (λ part h. empty part (h.digits ∙ none)) both)
  where
    empty : (part : List ℕ) → length part ≡ 0 → part ≡ []
    empty [] none = refl
    empty (byte ∷ part) none = cc none

-- the first byte decides a leading number of one byte
pub digit_first : {value lo hi : ℕ} {Second : List ℕ → Type 0} {byte : ℕ} {rest : List ℕ}
    → digit_count (hi - lo) ≡ 1 → Joined (SpellsNumber value lo hi) Second (byte ∷ rest)
    → (value ≡ lo + big_endian (byte ∷ []) % (hi - lo + 1)) × Second rest
digit_first {value} {lo} {hi} {Second} {byte} {rest} one both = of both.first both.is_first.digits both.is_first.read both.whole
  where
    of : (first : List ℕ) → length first ≡ digit_count (hi - lo) → value ≡ lo + big_endian first % (hi - lo + 1)
        → byte ∷ rest ≡ first ++ both.second
        → (value ≡ lo + big_endian (byte ∷ []) % (hi - lo + 1)) × Second rest
    of [] digits read whole = let never : 0 ≡ 1 = digits ∙ one in cc never
    of (digit ∷ []) digits read whole =
        let head : digit ≡ byte = cc in
        let tail : both.second ≡ rest = cc in
        (subst (λ n. value ≡ lo + big_endian (n ∷ []) % (hi - lo + 1)) head read, subst Second tail both.is_second)
    of (digit ∷ other ∷ more) digits read whole = let long : suc (suc (length more)) ≡ 1 = digits ∙ one in absurd (omega (arith, long))

-- any leading byte
pub any_first : {Second : List ℕ → Type 0} {byte : ℕ} {rest : List ℕ} → Joined SpellsAnyByte Second (byte ∷ rest) → Second rest
any_first {Second = Second} {byte = byte} {rest = rest} both =
    let one = both.is_first in
    let apart : byte ∷ rest ≡ one.byte ∷ both.second = subst (λ part. byte ∷ rest ≡ part ++ both.second) one.whole both.whole in
    let tail : both.second ≡ rest = cc in
    subst Second tail both.is_second

-- a certain leading byte is the first
pub this_first : {this : ℕ} {Second : List ℕ → Type 0} {byte : ℕ} {rest : List ℕ} → Joined (λ one. one ≡ this ∷ []) Second (byte ∷ rest)
    → (byte ≡ this) × Second rest
this_first {this} {Second} {byte} {rest} both =
    let apart : byte ∷ rest ≡ this ∷ both.second = subst (λ part. byte ∷ rest ≡ part ++ both.second) both.is_first both.whole in
    let head : byte ≡ this = cc in
    let tail : both.second ≡ rest = cc in
    (head, subst Second tail both.is_second)

-- the first four bytes decide a leading number of four bytes
pub word_first : {value : ℤ} {Second : List ℕ → Type 0} {a b c d : ℕ} {rest : List ℕ}
    → Joined (SpellsI32 value) Second (a ∷ b ∷ c ∷ d ∷ rest) → (value ≡ cast_signed w32 (little_endian (a ∷ b ∷ c ∷ d ∷ []))) × Second rest
word_first {value} {Second} {a} {b} {c} {d} {rest} both = of both.first both.is_first.four both.is_first.read both.whole
  where
    of : (first : List ℕ) → length first ≡ 4 → value ≡ cast_signed w32 (little_endian first) → a ∷ b ∷ c ∷ d ∷ rest ≡ first ++ both.second
        → (value ≡ cast_signed w32 (little_endian (a ∷ b ∷ c ∷ d ∷ []))) × Second rest
    of (p ∷ q ∷ r ∷ s ∷ []) four read whole =
        let same : p ∷ q ∷ r ∷ s ∷ [] ≡ a ∷ b ∷ c ∷ d ∷ [] = cc in
        let tail : both.second ≡ rest = cc in
        (subst (λ bytes. value ≡ cast_signed w32 (little_endian bytes)) same read, subst Second tail both.is_second)
    of [] four read whole = cc four
    of (p ∷ []) four read whole = cc four
    of (p ∷ q ∷ []) four read whole = cc four
    of (p ∷ q ∷ r ∷ []) four read whole = cc four
    of (p ∷ q ∷ r ∷ s ∷ t ∷ more) four read whole = let long : suc (suc (suc (suc (suc (length more))))) ≡ 4 = four in
        absurd (omega (arith, long))

-- the first byte decides a leading refusal of one byte
pub refused_first : {chances : ℕ} {Second : List ℕ → Type 0} {byte : ℕ} {rest : List ℕ}
    → digit_count (chances - 1) ≡ 1 → Joined (SpellsRefusal chances) Second (byte ∷ rest)
    → (1 < 1 + big_endian (byte ∷ []) % (chances - 1 + 1)) × Second rest
refused_first {chances} {Second} {byte} {rest} one both =
    let refusal = both.is_first in
    let numbered : Joined (SpellsNumber refusal.drawn 1 chances) Second (byte ∷ rest) =
    record { first = both.first; second = both.second; is_first = refusal.number; is_second = both.is_second; whole = both.whole } in
    let (read, following) = digit_first {value = refusal.drawn} {lo = 1} {hi = chances} {Second = Second} one numbered in
    (subst (λ n. 1 < n) read refusal.later, following)

-- the first byte decides a leading place of one byte
pub place_first : {A : Type 0} {items : List A} {item : A} {Second : List ℕ → Type 0} {byte : ℕ} {rest : List ℕ}
    → digit_count (length items - 1 - 0) ≡ 1 → Joined (SpellsPlace items item) Second (byte ∷ rest)
    → (slice_get items (0 + big_endian (byte ∷ []) % (length items - 1 - 0 + 1)) ≡ Some item) × Second rest
place_first {A} {items} {item} {Second} {byte} {rest} one both =
    let place = both.is_first in
    let numbered : Joined (SpellsNumber place.place 0 (length items - 1)) Second (byte ∷ rest) =
    record { first = both.first; second = both.second; is_first = place.number; is_second = both.is_second; whole = both.whole } in
    let (read, following) = digit_first {value = place.place} {lo = 0} {hi = length items - 1} {Second = Second} one numbered in
    (subst (λ n. slice_get items n ≡ Some item) read place.stands, following)

-- the place in a list of one item takes no byte
pub place_alone : {A : Type 0} {one item : A} {Second : List ℕ → Type 0} {piece : List ℕ}
    → Joined (SpellsPlace (one ∷ []) item) Second piece → Second piece
unfolding digit_count
place_alone both = without_nothing (first_weaker (λ part h. empty part h.number.digits) both)
  where
    empty : (part : List ℕ) → length part ≡ 0 → part ≡ []
    empty [] none = refl
    empty (byte ∷ part) none = cc none

-- a first piece that itself has two parts, split
pub opened : {First Second : List ℕ → Type 0} {piece : List ℕ} (One Other : List ℕ → Type 0) → Joined First Second piece
    → ((part : List ℕ) → First part → Joined One Other part) → Joined One (Joined Other Second) piece
opened One Other both as_two = regrouped (first_weaker as_two both)

-- the rest after a concrete heap type, if there is one type
pub after_reference : (on nullable : Bool) (rest : List ℕ) → SpellsRefType (record default_config { non_nullable_enabled = on }) 1
    (record { nullable = nullable; heap_type = Concrete 0 }) (1 ∷ rest) → SpellsNullable on nullable rest
unfolding digit_count
after_reference on nullable rest h = number_alone {value = 0} {lo = 0} {hi = 0} refl
    (bool_first (opened (SpellsBool true) (SpellsNumber 0 0 0) h.form (λ part stands. stands.1))).1
