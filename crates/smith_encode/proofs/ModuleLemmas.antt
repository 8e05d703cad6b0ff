-- Modules as they are written.
use Rattle.smith_encode.proofs.Common.{[], ap, append-nil, append_assoc, AreCustoms, Body, body_view, Bool, Custom, Each, eqb, Err, false}
use Rattle.smith_encode.proofs.Common.{IfOk, IsModuleBinary, length, List, map, Module, name_data, None, Ok, Option, Output, refl, Result}
use Rattle.smith_encode.proofs.Common.{segment_view, Some, subst, sym, syntax_of, true, Writes, ℕ, ◌++◌, ◌||◌, ◌∙◌, ◌∷◌, ◌≡◌}
use Rattle.std.proofs.Common.{inl, inr}
use Rattle.std.specs.Prelude.{Any, IfErr, IfSome, IsErrAnd}
use Rattle.std.specs.List.{list_any}
use Rattle.std.proofs.lemmas.Bool.{eqb-true}
use Rattle.std.proofs.lemmas.List.{length-map, nil_from_length}
use Rattle.smith_binary.specs.declared.error.EncodeError.{EncodeError}
use Rattle.smith_binary.specs.Faults.{IsFault}
use Rattle.smith_binary_sections.specs.Modules.{IsPreamble}
use Rattle.smith_binary_sections.proofs.FaultLemmas.{fault_as}
use Rattle.smith_decode.specs.BodyReadings.{names_data_in}
use Rattle.smith_decode.specs.Modules.{body_names_data}
use Rattle.smith_encode.specs.Faults.{HasNoSpelling}
use Rattle.smith_encode.specs.Places.{skipped, left_after, HasCustomsAfter, WritesCustoms, WritesBefore}
use Rattle.smith_encode.specs.Spelled.{are_parts_spelled}
use Rattle.smith_encode.specs.Tails.{FromElements, FromTypes, IsCount, IsLongFrom, start_ids, front_ids, middle_ids, back_ids}
use Rattle.smith_encode.specs.TooLong.{IsLongCustom, IsTooLong}
use Rattle.smith_encode.proofs.OrderLemmas.{module_ordered}
use Rattle.smith_encode.proofs.PartLemmas.{parts_pass}
use Rattle.smith_encode.proofs.PlaceLemmas.{before_on}
use Rattle.smith_encode.proofs.SectionLemmas.{passes_of}
use Rattle.smith_encode.proofs.TypeLemmas.{groups_aligned}

-- sections that were written, then more, whatever number of data segments is stated
pub sections_on : {A E : Type 0} {ids : List ℕ} {Whole Tail : Option ℕ → List ℕ → Type 0} {a b : Option ℕ × List Custom}
    {first second : Output} (others : List ℕ) (More : Option ℕ → List ℕ → Type 0) (third : Output)
    (place_of : A → Option ℕ × List Custom) (r : Result A E)
    → ((count : Option ℕ) → WritesBefore ids (Tail count) (Whole count) a b first second)
    → IfOk r (λ (next : A). (count : Option ℕ) → WritesBefore others (More count) (Tail count) b (place_of next) second third)
    → IfOk r (λ (next : A). (count : Option ℕ) → WritesBefore (ids ++ others) (More count) (Whole count) a (place_of next) first third)
sections_on others More third place_of (Ok next) one h = λ count. before_on (one count) (h count)
sections_on others More third place_of (Err e) one h = tt

-- the same with the number of data segments
pub back_on : {A E : Type 0} {ids : List ℕ} {Tail : List ℕ → Type 0} {a b : Option ℕ × List Custom} {first second : Output}
    (others : List ℕ) (More : List ℕ → Type 0) (third : Output) (m : Module) (count : Option ℕ)
    (place_of : A → Option ℕ × List Custom) (r : Result A E)
    → IsCount m count → WritesBefore ids Tail (FromElements (syntax_of m) count) a b first second
    → IfOk r (λ (next : A). WritesBefore others More Tail b (place_of next) second third)
    → IfOk r (λ (next : A). (count : Option ℕ) × IsCount m count
    × WritesBefore (ids ++ others) More (FromElements (syntax_of m) count) a (place_of next) first third)
back_on others More third m count place_of (Ok next) counts one h = (count, counts, before_on one h)
back_on others More third m count place_of (Err e) counts one h = tt

pub counted_on : {A E : Type 0} {ids : List ℕ} {Whole Tail : Option ℕ → List ℕ → Type 0} {a b : Option ℕ × List Custom}
    {first second : Output} (others : List ℕ) (More : List ℕ → Type 0) (third : Output) (m : Module)
    (place_of : A → Option ℕ × List Custom) (r : Result A E)
    → ((count : Option ℕ) → WritesBefore ids (Tail count) (Whole count) a b first second)
    → IfOk r (λ (next : A). (count : Option ℕ) × IsCount m count × WritesBefore others More (Tail count) b (place_of next) second third)
    → IfOk r (λ (next : A). (count : Option ℕ) × IsCount m count
    × WritesBefore (ids ++ others) More (Whole count) a (place_of next) first third)
counted_on others More third m place_of (Ok next) one h = (h.0, h.1, before_on (one h.0) h.2)
counted_on others More third m place_of (Err e) one h = tt

-- custom sections from a later place on
pub from_earlier : {m : Module} {ids : List ℕ} {Tail Whole : List ℕ → Type 0} {a b : Option ℕ × List Custom} {first second : Output}
    → WritesBefore ids Tail Whole a b first second → IsLongFrom m b.1 → IsLongFrom m a.1
from_earlier one (inl long) = inl long
from_earlier one (inr custom) = inr (one.leads.rest custom)

-- all custom sections
pub from_start : {m : Module} {customs : List Custom} → customs ≡ m.customs → IsLongFrom m customs → IsTooLong m
from_start same (inl long) = long
from_start same (inr custom) = IsTooLong.customs (subst (Any IsLongCustom) same custom)

-- the fault of a `?`, for another reason
pub handed_on : {A P Q : Type 0} (r : Result A EncodeError) (e : EncodeError) → IsErrAnd r (λ y. y ≡ e) → (P → Q) → IsFault P e
    → IfErr r (IsFault Q)
handed_on (Ok u) e is weaker h = tt
handed_on {P = P} {Q = Q} (Err y) e is weaker h = fault_as y weaker (subst (λ (one : EncodeError). IsFault P one) (sym is) h)

named_same : (bodies : List Body) → list_any body_names_data (map body_view bodies) ≡ name_data bodies
named_same [] = refl
named_same (body ∷ bodies) = ap (λ (others : Bool). names_data_in body || others) (named_same bodies)

counts_agree : (m : Module) (count : Option ℕ) → IfSome count (λ stated. stated ≡ length m.datas)
    → IfSome count (λ stated. stated ≡ length (map segment_view m.datas))
counts_agree m None h = tt
counts_agree m (Some stated) h = h ∙ sym (length-map m.datas segment_view)

-- nothing is left
no_customs_left : (after : Option ℕ) (customs : List Custom) → customs ≡ [] → HasCustomsAfter after customs []
unfolding Each
no_customs_left after customs none = ([], refl, none)

-- whether nothing is left
pub nothing_left : {A : Type 0} (xs : List A) (is_empty : Bool) → is_empty ≡ eqb (length xs) 0 → is_empty ≡ true → xs ≡ []
nothing_left xs is_empty is empty = nil_from_length xs (eqb-true (length xs) 0 (sym is ∙ empty))

pub some_left : (A : Type 0) (xs : List A) (is_empty : Bool) → is_empty ≡ eqb (length xs) 0 → is_empty ≡ false → xs ≡ [] → ⊥
some_left A xs is_empty is some none = let never = sym some ∙ is ∙ ap (λ (those : List A). eqb (length those) 0) none in absurd cc

-- a module after its preamble, once its custom sections are written
pub module_spelled : {ids : List ℕ} {mid last : Option ℕ × List Custom} {start first second third : Output} (m : Module)
    (count : Option ℕ) → are_parts_spelled m ≡ true → IsCount m count → start.bytes ≡ [] → Writes (λ _. IsPreamble) start first
    → WritesBefore ids AreCustoms (FromTypes (syntax_of m) count) (None, m.customs) mid first second
    → WritesCustoms mid last second third → last.1 ≡ [] → IsModuleBinary (syntax_of m) third.bytes
module_spelled {mid = mid} {last = last} m count passes counts empty preamble sections customs none =
    let tail = sections.piece ++ customs.piece in
    let after : HasCustomsAfter mid.0 mid.1 customs.piece = subst (HasCustomsAfter mid.0 mid.1) (append-nil customs.piece)
    (customs.leads.placed [] (no_customs_left last.0 last.1 none)) in
    record {
      count = count;
      form = record {
        first = preamble.piece;
        second = tail;
        is_first = preamble.spelled;
        is_second = sections.spelled customs.piece customs.spelled;
        whole = customs.whole ∙ ap (λ (bytes : List ℕ). bytes ++ customs.piece) (sections.whole
            ∙ ap (λ (bytes : List ℕ). bytes ++ sections.piece) (preamble.whole ∙ ap (λ (bytes : List ℕ). bytes ++ preamble.piece) empty))
            ∙ append_assoc preamble.piece sections.piece customs.piece;
      };
      bodies = eqb-true (length m.functions) (length m.bodies) (passes_of m passes).counts ∙ sym (length-map m.bodies body_view);
      datas = counts_agree m count counts.0;
      named = λ unstated. named_same m.bodies ∙ counts.1 unstated;
      customs = sections.leads.placed customs.piece after;
      aligned = groups_aligned m.types m.further_supertypes (passes_of m passes).types;
    }

-- no bytes are a module if a custom section is left
pub module_refused : {mid last : Option ℕ × List Custom} {first second third : Output} (m : Module) (count : Option ℕ)
    → WritesBefore (front_ids ++ (middle_ids ++ (start_ids m.start ++ back_ids))) AreCustoms (FromTypes (syntax_of m) count)
    (None, m.customs) mid first second
    → WritesCustoms mid last second third → skipped last.0 last.1 ≡ last.1 → (last.1 ≡ [] → ⊥) → HasNoSpelling (syntax_of m)
module_refused {mid = mid} {last = last} m count sections customs done some =
    λ bytes h.
    let ids = front_ids ++ (middle_ids ++ (start_ids m.start ++ back_ids)) in
    let left : left_after ids (skipped None m.customs) ≡ skipped mid.0 mid.1 =
    ap (λ (all : List ℕ). left_after all (skipped None m.customs)) (sym (append-nil ids)) ∙ sections.leads.order [] in
    let next : skipped mid.0 mid.1 ≡ skipped last.0 last.1 = customs.leads.order [] in
    some (sym (left ∙ next ∙ done) ∙ module_ordered (syntax_of m) bytes h)

pub parts_refused : (m : Module) → are_parts_spelled m ≡ false → HasNoSpelling (syntax_of m)
parts_refused m fails = λ bytes h. let never = sym fails ∙ parts_pass m bytes h in absurd cc
