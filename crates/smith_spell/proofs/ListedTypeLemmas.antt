-- The abstract heap types that are listed are those that are drawn.
use Rattle.smith_spell.proofs.Common.{[], abstract_heap_types, AbstractHeapType, ap, arith, Bool, Config, enabled, false, List, refl}
use Rattle.smith_spell.proofs.Common.{slice_get, Some, suc, true, zero, ℕ, ◌+◌, ◌∷◌, ◌≡◌}
use Rattle.std.specs.Prelude.{IsTrue}
use mir.Val.{bool_byte}
use Rattle.std.specs.List.{Contains, AllByRecursion as ByRecursion}
use Rattle.std.proofs.lemmas.List.Elements.{All-contains, All-from_recursion}
use Rattle.smith_types.specs.Syntax.value_type.AbstractHeapType.TheVariants.{Func, Extern, Any, None, NoExtern, NoFunc, Eq, Struct}
use Rattle.smith_types.specs.Syntax.value_type.AbstractHeapType.TheVariants.{Array, I31, Exn, NoExn}
use Rattle.smith_draw_types.proofs.EnabledLemmas.{enabled_all}
use Rattle.smith_spell.specs.Decided.{IsOffered}

-- an item is enabled if its row turns it on
row_enabled : {A : Type 0} (rows : List (A × Bool)) (x : A) → Contains rows (x, true) → Contains (enabled rows) x
row_enabled [] x (k, inside, at) = absurd (omega arith)
row_enabled ((y, true) ∷ rows) x (zero, inside, at) = (0, omega arith, ap (λ row. row.0) at)
row_enabled ((y, false) ∷ rows) x (zero, inside, at) = let never : false ≡ true = ap (λ row. row.1) at in cc
row_enabled ((y, true) ∷ rows) x (suc k, inside, at) = let (j, within, there) = row_enabled rows x (k, omega arith, at) in
    (suc j, omega arith, there)
row_enabled ((y, false) ∷ rows) x (suc k, inside, at) = row_enabled rows x (k, omega arith, at)

pub offered_from_listed : (config : Config) (ty : AbstractHeapType) → Contains (enabled (abstract_heap_types config)) ty
    → IsOffered config ty
offered_from_listed config ty listed =
    let P = λ (other : AbstractHeapType). IsOffered config other in
    let gc = λ (on : IsTrue config.gc_enabled). on in
    let rows : ByRecursion (λ (row : AbstractHeapType × Bool). IsTrue row.1 → P row.0) (abstract_heap_types config) =
    ((λ _. tt), ((λ _. tt), ((λ on. on), (gc, (gc, (gc, (gc, (gc, (gc, (gc, (gc, tt))))))))))) in
    All-contains P (enabled (abstract_heap_types config)) ty
    (enabled_all P (abstract_heap_types config) (All-from_recursion (λ (row : AbstractHeapType × Bool). IsTrue row.1 → P row.0)
    (abstract_heap_types config) rows)) listed

pub listed_from_offered : (config : Config) (ty : AbstractHeapType) → IsOffered config ty → Contains (enabled (abstract_heap_types config))
    ty
listed_from_offered config Func h = row_enabled (abstract_heap_types config) Func (0, omega arith, refl)
listed_from_offered config Extern h = row_enabled (abstract_heap_types config) Extern (1, omega arith, refl)
listed_from_offered config Exn h = row_enabled (abstract_heap_types config) Exn (2, omega arith, ap (λ on. (Exn, on)) h)
listed_from_offered config Any h = row_enabled (abstract_heap_types config) Any (3, omega arith, ap (λ on. (Any, on)) h)
listed_from_offered config None h = row_enabled (abstract_heap_types config) None (4, omega arith, ap (λ on. (None, on)) h)
listed_from_offered config NoExtern h = row_enabled (abstract_heap_types config) NoExtern (5, omega arith, ap (λ on. (NoExtern, on)) h)
listed_from_offered config NoFunc h = row_enabled (abstract_heap_types config) NoFunc (6, omega arith, ap (λ on. (NoFunc, on)) h)
listed_from_offered config Eq h = row_enabled (abstract_heap_types config) Eq (7, omega arith, ap (λ on. (Eq, on)) h)
listed_from_offered config Struct h = row_enabled (abstract_heap_types config) Struct (8, omega arith, ap (λ on. (Struct, on)) h)
listed_from_offered config Array h = row_enabled (abstract_heap_types config) Array (9, omega arith, ap (λ on. (Array, on)) h)
listed_from_offered config I31 h = row_enabled (abstract_heap_types config) I31 (10, omega arith, ap (λ on. (I31, on)) h)
listed_from_offered config NoExn h = absurd h

-- the abstract heap types with garbage collection, in order
abbrev pub collected : List AbstractHeapType
collected = Any ∷ None ∷ NoExtern ∷ NoFunc ∷ Eq ∷ Struct ∷ Array ∷ I31 ∷ []

-- in the table they are after two rows, and that of exceptions if it is enabled
row_at : (exceptions gc : Bool) (k place : ℕ) (ty : AbstractHeapType) → IsTrue gc → slice_get collected k ≡ Some ty
    → place ≡ 2 + bool_byte exceptions + k
    → slice_get (enabled ((Func, true) ∷ (Extern, true) ∷ (Exn, exceptions) ∷ (Any, gc) ∷ (None, gc) ∷ (NoExtern, gc) ∷ (NoFunc, gc) ∷
    (Eq, gc) ∷ (Struct, gc) ∷ (Array, gc) ∷ (I31, gc) ∷ [])) place ≡ Some ty
row_at true true k place ty on at is = let same : place ≡ suc (suc (suc k)) = omega arith in rw same at
row_at false true k place ty on at is = let same : place ≡ suc (suc k) = omega arith in rw same at
row_at exceptions false k place ty on at is = cc

pub collected_at : (config : Config) (k place : ℕ) (ty : AbstractHeapType) → IsTrue config.gc_enabled → slice_get collected k ≡ Some ty
    → place ≡ 2 + bool_byte config.exceptions_enabled + k → slice_get (enabled (abstract_heap_types config)) place ≡ Some ty
collected_at config k place ty on at is = row_at config.exceptions_enabled config.gc_enabled k place ty on at is
