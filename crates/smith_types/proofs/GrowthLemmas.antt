-- Subtyping and matching are reflexive and transitive, and survive growth of the list of types.
use Rattle.smith_types.proofs.Common.{[], Abstract, Array, CompositeInnerType, Concrete, Exact, FieldType, Func, HeapType, List, Ref, refl}
use Rattle.smith_types.proofs.Common.{RefType, rules, Struct, SubType, ValType, ◌++◌, ◌∷◌}
use Rattle.smith_syntax.specs.declared.composite_type.StorageType.{StorageType}
use Rattle.smith_syntax.specs.declared.composite_type.StorageType.TheVariants.{Val}
use Rattle.smith_syntax.specs.declared.composite_type.FuncType.{FuncType}
use Rattle.smith_syntax.specs.declared.composite_type.CompositeType.{CompositeType}
use Rattle.smith_types.specs.Subtyping.{IsStep, IsBelow, itself, by_step, IsRefBelow, IsValBelow}
use Rattle.smith_types.specs.Matching.{IsStorageMatch, IsFieldMatch, AreFieldsMatched, AreBelow, IsFuncMatch, IsInnerMatch}
use Rattle.smith_types.specs.Matching.{IsCompositeMatch}
use Rattle.smith_types.proofs.ListLemmas.{slice_get-grown}

module _ (types : List SubType) where
  pub IsBelow-trans : {a b c : HeapType} → IsBelow types a b → IsBelow types b c → IsBelow types a c
  IsBelow-trans itself q = q
  IsBelow-trans (by_step step p) q = by_step step (IsBelow-trans p q)

  pub IsRefBelow-refl : (a : RefType) → IsRefBelow types a a
  IsRefBelow-refl a = record { heap = itself; nullable = λ is. is }

  pub IsRefBelow-trans : {a b c : RefType} → IsRefBelow types a b → IsRefBelow types b c → IsRefBelow types a c
  IsRefBelow-trans p q = record { heap = IsBelow-trans p.heap q.heap; nullable = λ is. q.nullable (p.nullable is) }

  pub IsValBelow-refl : (a : ValType) → IsValBelow types a a
  IsValBelow-refl (Ref a) = IsRefBelow-refl a
  IsValBelow-refl _ = tt

  pub IsValBelow-trans : (a b c : ValType) → IsValBelow types a b → IsValBelow types b c → IsValBelow types a c
  IsValBelow-trans (Ref a) (Ref b) (Ref c) p q = IsRefBelow-trans p q
  IsValBelow-trans _ _ _ p q = search rules

  pub IsStorageMatch-refl : (a : StorageType) → IsStorageMatch types a a
  IsStorageMatch-refl (Val a) = IsValBelow-refl a
  IsStorageMatch-refl _ = tt

  pub IsFieldMatch-refl : (f : FieldType) → IsFieldMatch types f f
  IsFieldMatch-refl f = record { same = refl; below = IsStorageMatch-refl f.element_type; above = λ _. IsStorageMatch-refl f.element_type }

  pub AreFieldsMatched-refl : (fs : List FieldType) → AreFieldsMatched types fs fs
  AreFieldsMatched-refl [] = tt
  AreFieldsMatched-refl (f ∷ fs) = (IsFieldMatch-refl f, AreFieldsMatched-refl fs)

  -- fields match the same fields when more are appended to them
  pub AreFieldsMatched-longer : (fs gs more : List FieldType) → AreFieldsMatched types fs gs → AreFieldsMatched types (fs ++ more) gs
  AreFieldsMatched-longer fs [] more p = tt
  AreFieldsMatched-longer [] (g ∷ gs) more p = absurd p
  AreFieldsMatched-longer (f ∷ fs) (g ∷ gs) more (p, q) = (p, AreFieldsMatched-longer fs gs more q)

  pub AreBelow-refl : (xs : List ValType) → AreBelow types xs xs
  AreBelow-refl [] = tt
  AreBelow-refl (x ∷ xs) = (IsValBelow-refl x, AreBelow-refl xs)

  pub IsInnerMatch-refl : (a : CompositeInnerType) → IsInnerMatch types a a
  IsInnerMatch-refl (Array a) = IsFieldMatch-refl a.0
  IsInnerMatch-refl (Func f) = record { params = AreBelow-refl f.params; results = AreBelow-refl f.results }
  IsInnerMatch-refl (Struct s) = AreFieldsMatched-refl s.fields

  pub IsCompositeMatch-refl : (a : CompositeType) → IsCompositeMatch types a a
  IsCompositeMatch-refl a = record { inner = IsInnerMatch-refl a.inner; shared = refl }

module _ (types more : List SubType) where
  IsStep-grown : (a b : HeapType) → IsStep types a b → IsStep (types ++ more) a b
  IsStep-grown (Abstract s a) (Abstract r b) p = p
  IsStep-grown (Abstract s a) (Concrete j) (t, at, p, q) = (t, slice_get-grown types more j t at, p, q)
  IsStep-grown (Abstract s a) (Exact j) (t, at, p, q) = (t, slice_get-grown types more j t at, p, q)
  IsStep-grown (Concrete i) (Abstract r b) (t, at, p, q) = (t, slice_get-grown types more i t at, p, q)
  IsStep-grown (Concrete i) (Concrete j) (t, at, p) = (t, slice_get-grown types more i t at, p)
  IsStep-grown (Exact i) (Concrete j) p = p
  IsStep-grown _ _ p = absurd p

  pub IsBelow-grown : {a b : HeapType} → IsBelow types a b → IsBelow (types ++ more) a b
  IsBelow-grown itself = itself
  IsBelow-grown (by_step {a = a} {b = b} step p) = by_step {a = a} {b = b} (IsStep-grown a b step) (IsBelow-grown p)

  pub IsRefBelow-grown : {a b : RefType} → IsRefBelow types a b → IsRefBelow (types ++ more) a b
  IsRefBelow-grown p = record { heap = IsBelow-grown p.heap; nullable = p.nullable }

  pub IsValBelow-grown : (a b : ValType) → IsValBelow types a b → IsValBelow (types ++ more) a b
  IsValBelow-grown (Ref a) (Ref b) p = IsRefBelow-grown p
  IsValBelow-grown a b p = search rules

  pub IsStorageMatch-grown : (a b : StorageType) → IsStorageMatch types a b → IsStorageMatch (types ++ more) a b
  IsStorageMatch-grown (Val a) (Val b) p = IsValBelow-grown a b p
  IsStorageMatch-grown a b p = search rules

  pub IsFieldMatch-grown : (f g : FieldType) → IsFieldMatch types f g → IsFieldMatch (types ++ more) f g
  IsFieldMatch-grown f g p = record {
    same = p.same;
    below = IsStorageMatch-grown f.element_type g.element_type p.below;
    above = λ is. IsStorageMatch-grown g.element_type f.element_type (p.above is);
  }

  pub AreFieldsMatched-grown : (fs gs : List FieldType) → AreFieldsMatched types fs gs → AreFieldsMatched (types ++ more) fs gs
  AreFieldsMatched-grown fs [] p = tt
  AreFieldsMatched-grown [] (g ∷ gs) p = absurd p
  AreFieldsMatched-grown (f ∷ fs) (g ∷ gs) (p, q) = (IsFieldMatch-grown f g p, AreFieldsMatched-grown fs gs q)

  pub AreBelow-grown : (xs ys : List ValType) → AreBelow types xs ys → AreBelow (types ++ more) xs ys
  AreBelow-grown [] [] p = tt
  AreBelow-grown (x ∷ xs) (y ∷ ys) (p, q) = (IsValBelow-grown x y p, AreBelow-grown xs ys q)
  AreBelow-grown xs ys p = absurd p

  pub IsFuncMatch-grown : (f g : FuncType) → IsFuncMatch types f g → IsFuncMatch (types ++ more) f g
  IsFuncMatch-grown f g p = record {
    params = AreBelow-grown g.params f.params p.params;
    results = AreBelow-grown f.results g.results
        p.results;
  }

  pub IsInnerMatch-grown : (a b : CompositeInnerType) → IsInnerMatch types a b → IsInnerMatch (types ++ more) a b
  IsInnerMatch-grown (Array a) (Array b) p = IsFieldMatch-grown a.0 b.0 p
  IsInnerMatch-grown (Func f) (Func g) p = IsFuncMatch-grown f g p
  IsInnerMatch-grown (Struct s) (Struct r) p = AreFieldsMatched-grown s.fields r.fields p
  IsInnerMatch-grown a b p = absurd p

  pub IsCompositeMatch-grown : (a b : CompositeType) → IsCompositeMatch types a b → IsCompositeMatch (types ++ more) a b
  IsCompositeMatch-grown a b p = record { inner = IsInnerMatch-grown a.inner b.inner p.inner; shared = p.shared }
