-- The bits of the enabled features represent exactly these features.
use Rattle.std.proofs.Common.{◌≡◌, ◌==◌, ◌≢◌, ℕ, ◌+◌, ◌<◌, Bool, true, false, List, [], ◌∷◌, ◌++◌, refl, ap, ◌∙◌, bit_and, arith, eq-eqb}
use Rattle.std.proofs.Common.{ne_eqb, lit<}
use Rattle.std.specs.Prelude.{fold, ◌&&◌, take, drop}
use Rattle.std.proofs.lemmas.Nat.{and_or_self, and_or_apart}
use Rattle.std.proofs.lemmas.Bool.{eqb-true}
use Rattle.std.proofs.lemmas.List.Sums.{fold-append}
use Rattle.smith_syntax.specs.declared.features.WasmFeatures.{WasmFeatures}
use Rattle.smith_syntax.specs.Features.{Features}
use Rattle.smith_syntax.specs.FeatureBits.{has, joined, features_in, feature_rows}

-- the bits of the enabled rows, joined with others
abbrev pub joined_all : ℕ → List (Bool × ℕ) → ℕ
joined_all bits rows = fold (λ all row. joined all row.0 row.1) bits rows

-- whether no row has any of these bits
abbrev is_apart : ℕ → List (Bool × ℕ) → Bool
is_apart bits [] = true
is_apart bits (row ∷ rows) = (bit_and row.1 bits == 0) && is_apart bits rows

and_first : (a b : Bool) → (a && b) ≡ true → a ≡ true
and_first true b h = refl
and_first false b h = h

and_second : (a b : Bool) → (a && b) ≡ true → b ≡ true
and_second a true h = refl
and_second true false h = h
and_second false false h = h

joined-apart : (all m bits : ℕ) (on : Bool) → bit_and m bits ≡ 0 → bit_and (joined all on m) bits ≡ bit_and all bits
unfolding joined
joined-apart all m bits true h = and_or_apart bits all m h
joined-apart all m bits false h = refl

joined_all-apart : (rows : List (Bool × ℕ)) (all bits : ℕ) → is_apart bits rows ≡ true
    → bit_and (joined_all all rows) bits ≡ bit_and all bits
joined_all-apart [] all bits h = refl
joined_all-apart (row ∷ rows) all bits h =
    let none : bit_and row.1 bits ≡ 0 = eqb-true _ _ (and_first _ (is_apart bits rows) h) in
    joined_all-apart rows (joined all row.0 row.1) bits (and_second (bit_and row.1 bits == 0) _ h)
    ∙ joined-apart all row.1 bits row.0 none

has-joined : (all bits : ℕ) (on : Bool) → 0 < bits → bit_and all bits ≡ 0 → has (joined all on bits) bits ≡ on
unfolding joined
has-joined all bits true some none = eq-eqb _ _ (and_or_self bits all)
has-joined all bits false some none =
    let other : bit_and all bits ≢ bits = omega arith in
    ne_eqb _ _ other

-- the bit of a row is set if and only if the row is enabled
has-row : (bits : ℕ) (rows : List (Bool × ℕ)) (k : ℕ) (on : Bool) (bit : ℕ)
    → bits ≡ joined_all 0 (take k rows ++ (on, bit) ∷ drop (k + 1) rows) → 0 < bit
    → is_apart bit (take k rows) ≡ true → is_apart bit (drop (k + 1) rows) ≡ true → has bits bit ≡ on
has-row bits rows k on bit e some earlier later =
    let before = joined_all 0 (take k rows) in
    let none : bit_and before bit ≡ 0 = joined_all-apart (take k rows) 0 bit earlier in
    let all : bits ≡ joined_all (joined before on bit) (drop (k + 1) rows) =
    e ∙ fold-append (λ all row. joined all row.0 row.1) 0 (take k rows) ((on, bit) ∷ drop (k + 1) rows) in
    let same : bit_and bits bit ≡ bit_and (joined before on bit) bit =
    ap (λ n. bit_and n bit) all ∙ joined_all-apart (drop (k + 1) rows) (joined before on bit) bit later in
    ap (λ n. n == bit) same ∙ has-joined before bit on some none

pub features_in-joined : (set : WasmFeatures) (features : Features) → set.0 ≡ joined_all 0 (feature_rows features)
    → features_in set ≡ features
features_in-joined set features e = λ i. record {
  mutable_global = has-row set.0 (feature_rows features) 0 features.mutable_global 1 e (lit< tt) refl refl i;
  wasm1 = has-row set.0 (feature_rows features) 1 features.wasm1 2 e (lit< tt) refl refl i;
  saturating_float_to_int = has-row set.0 (feature_rows features) 2 features.saturating_float_to_int 4 e (lit< tt) refl refl i;
  sign_extension = has-row set.0 (feature_rows features) 3 features.sign_extension 8 e (lit< tt) refl refl i;
  reference_types = has-row set.0 (feature_rows features) 4 features.reference_types 16 e (lit< tt) refl refl i;
  multi_value = has-row set.0 (feature_rows features) 5 features.multi_value 32 e (lit< tt) refl refl i;
  bulk_memory = has-row set.0 (feature_rows features) 6 features.bulk_memory 64 e (lit< tt) refl refl i;
  simd = has-row set.0 (feature_rows features) 7 features.simd 128 e (lit< tt) refl refl i;
  relaxed_simd = has-row set.0 (feature_rows features) 8 features.relaxed_simd 256 e (lit< tt) refl refl i;
  multi_memory = has-row set.0 (feature_rows features) 9 features.multi_memory 512 e (lit< tt) refl refl i;
  exceptions = has-row set.0 (feature_rows features) 10 features.exceptions 1024 e (lit< tt) refl refl i;
  memory64 = has-row set.0 (feature_rows features) 11 features.memory64 2048 e (lit< tt) refl refl i;
  tail_call = has-row set.0 (feature_rows features) 12 features.tail_call 4096 e (lit< tt) refl refl i;
  function_references = has-row set.0 (feature_rows features) 13 features.function_references 8192 e (lit< tt) refl refl i;
  gc = has-row set.0 (feature_rows features) 14 features.gc 16384 e (lit< tt) refl refl i;
  compact_imports = has-row set.0 (feature_rows features) 15 features.compact_imports 32768 e (lit< tt) refl refl i;
  threads = has-row set.0 (feature_rows features) 16 features.threads 65536 e (lit< tt) refl refl i;
  shared_everything_threads = has-row set.0 (feature_rows features) 17 features.shared_everything_threads 131072 e (lit< tt) refl refl i;
  custom_page_sizes = has-row set.0 (feature_rows features) 18 features.custom_page_sizes 262144 e (lit< tt) refl refl i;
  extended_const = has-row set.0 (feature_rows features) 19 features.extended_const 524288 e (lit< tt) refl refl i;
  wide_arithmetic = has-row set.0 (feature_rows features) 20 features.wide_arithmetic 1048576 e (lit< tt) refl refl i;
  acquire_release_atomics = has-row set.0 (feature_rows features) 21 features.acquire_release_atomics 2097152 e (lit< tt) refl refl i;
  multibyte_array_access = has-row set.0 (feature_rows features) 22 features.multibyte_array_access 4194304 e (lit< tt) refl refl i;
  custom_descriptors = has-row set.0 (feature_rows features) 23 features.custom_descriptors 8388608 e (lit< tt) refl refl i;
}
