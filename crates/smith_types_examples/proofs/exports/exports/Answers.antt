use Rattle.smith_types_examples.proofs.Common.{◌≡◌, ℕ, List, [], ◌∷◌, rules, arith, refl, codes, All-from_recursion, EntityType, ExportKind}
use Rattle.smith_types_examples.proofs.Common.{IsEntityAt, AreDistinct, one_of_each}
use Rattle.smith_types.specs.Syntax.entity_type.EntityType.TheVariants as entity
use Rattle.smith_types.specs.Syntax.entity_type.ExportKind.TheVariants as kind
use Rattle.smith_types_examples.proofs.exports.exports.Goals as goal

abbrev Stands : (List ℕ × ExportKind × ℕ) → Type 0
Stands one = (ty : EntityType) × IsEntityAt one_of_each one.1 one.2 ty

two : AreDistinct {A = List ℕ} (codes "a" ∷ codes "b" ∷ [])
two = search rules

one : AreDistinct {A = List ℕ} (codes "a" ∷ [])
one = search rules

pub returns : goal.returns
returns c = record {
  two_names = record {
    stand = All-from_recursion Stands ((codes "a", kind.Func, 0) ∷ (codes "b", kind.Func, 0) ∷ []) (
      (entity.Func 0, (0, refl, refl)),
      ((entity.Func 0, (0, refl, refl)), tt),
    );
    distinct = two;
  };
  tag = record { stand = All-from_recursion Stands ((codes "a", kind.Tag, 0) ∷ []) ((entity.Tag 0, (0, refl, refl)), tt); distinct = one };
  past_the_tags = λ valid. let (ty, stands) = valid.stand 0 (codes "a", kind.Tag, 1) (omega arith) in let (index, at, is) = stands in cc at;
  entities_of_a_name_stand =
      All-from_recursion Stands ((codes "a", kind.Func, 0) ∷ (codes "a", kind.Func, 0) ∷ []) (
        (entity.Func 0, (0, refl, refl)),
        ((entity.Func 0, (0, refl, refl)), tt),
      );
  a_name_twice = λ valid. let same : 0 ≡ 1 = valid.distinct.once 0 1 (codes "a") refl refl in omega (arith, same);
  past_its_space = λ valid. let (ty, stands) = valid.stand 0 (codes "a", kind.Func, 1) (omega arith) in let (index, at, is) = stands in
      cc at;
}
