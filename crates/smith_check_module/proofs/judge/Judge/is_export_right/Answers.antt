use Rattle.smith_check_module.proofs.Common.{Bool, export_triple, false≢true, map, slice_get, Some, spaces_in, subst, true, ◌≡◌}
use Rattle.std.proofs.Common.{nat_eq, not}
use Rattle.std.proofs.lemmas.Bool.{eq-eqb}
use Rattle.smith_check_module.proofs.JudgeLemmas.{export_decided, export_wrong}
use Rattle.smith_check_module.proofs.RightLemmas.{mapped_at}
use Rattle.smith_check_module.proofs.judge.Judge.is_export_right.Goals as goal

pub returns-then-index-self : goal.returns-then-index-self
returns-then-index-self c =
    let at : slice_get (map export_triple c.args.self.now.module.now.exports) c.args.index
    ≡ Some (export_triple c.index-as_slice-index.result) =
    mapped_at export_triple c.args.self.now.module.now.exports c.args.index c.index-as_slice-index.result c.requires.inside
    (rw c.as_slice.ensures at c.index-as_slice-index.is) in
    export_decided (spaces_in c.args.self.now.spaces.now) (map export_triple c.args.self.now.module.now.exports)
    c.args.self.now.repeated c.args.index c.requires.judge.repeated (export_triple c.index-as_slice-index.result) at c.if-index-self.true
    c.requires.before c.is_entity_at.result
    c.is_entity_at.ensures

pub returns-else-index-self : goal.returns-else-index-self
returns-else-index-self c =
    let at : slice_get (map export_triple c.args.self.now.module.now.exports) c.args.index
    ≡ Some (export_triple c.index-as_slice-index.result) =
    mapped_at export_triple c.args.self.now.module.now.exports c.args.index c.index-as_slice-index.result c.requires.inside
    (rw c.as_slice.ensures at c.index-as_slice-index.is) in
    let same : nat_eq c.args.index c.args.self.now.repeated ≡ true = eq-eqb _ _ c.if-index-self.false in (
      λ yes. absurd (false≢true (subst (λ (b : Bool). not b ≡ true) same yes)),
      λ right. absurd (export_wrong (spaces_in c.args.self.now.spaces.now) (map export_triple c.args.self.now.module.now.exports)
          c.args.self.now.repeated c.args.index c.requires.judge.repeated (export_triple c.index-as_slice-index.result) at
          c.if-index-self.false right),
    )
