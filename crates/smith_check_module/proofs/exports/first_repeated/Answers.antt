use Rattle.smith_check_module.proofs.Common.{ap, arith, bytes_eq, cond, export_triple, false, false≢true, IsTrue, length, length-map, List}
use Rattle.smith_check_module.proofs.Common.{map, slice_get, Some, subst, sym, true, ℕ, ◌↔◌, ◌∙◌, ◌≡◌}
use Rattle.std.proofs.Common.{Bor}
use Rattle.std.specs.HashSet.{contains}
use Rattle.std.proofs.lemmas.Bool.{not-false, not-true}
use Rattle.smith_binary_read.specs.declared.exports.Export.{Export}
use Rattle.smith_check_module.specs.Judges.{IsFirstRepeated}
use Rattle.smith_check_module.proofs.RepeatedLemmas.{AreNew, IsNameUsed, new_next, none_old, none_repeated}
use Rattle.smith_check_module.proofs.RepeatedLemmas.{none_used, repeated_here, used_next}
use Rattle.smith_check_module.proofs.RightLemmas.{mapped_at}
use Rattle.smith_check_module.proofs.exports.first_repeated.Goals as goal

pub loop-i-init : goal.loop-i-init
loop-i-init c = record {
  known = λ q. (
    λ yes. absurd (false≢true (rw c.new-names.ensures.empty at yes)),
    λ used. absurd (none_used (map export_triple c.args.exports.now) q.now used),
  );
  new = none_old (map export_triple c.args.exports.now);
}

pub loop-i-preserved : goal.loop-i-preserved
loop-i-preserved c =
    let at : slice_get (map export_triple c.args.exports.now) c.loop-i.i ≡ Some (export_triple c.index-exports-i.result) =
    mapped_at export_triple c.args.exports.now c.loop-i.i c.index-exports-i.result c.loop-i-test.true c.index-exports-i.is in
    let named : c.as_str-name.result.now ≡ c.index-exports-i.result.name =
    c.as_str-name.ensures ∙ ap (λ (e : Export). e.name) (sym c.index-exports-i.is) in
    let known : IsTrue (contains (λ (a b : Bor (List ℕ)). bytes_eq a.now b.now) c.loop-i.names c.as_str-name.result)
    ↔ IsNameUsed (map export_triple c.args.exports.now) c.loop-i.i c.index-exports-i.result.name =
    subst (λ (n : List ℕ). IsTrue (contains (λ (a b : Bor (List ℕ)). bytes_eq a.now b.now) c.loop-i.names c.as_str-name.result)
    ↔ IsNameUsed (map export_triple c.args.exports.now) c.loop-i.i n) named (c.loop-i.invariant.known c.as_str-name.result) in
    let none : contains (λ (a b : Bor (List ℕ)). bytes_eq a.now b.now) c.loop-i.names c.as_str-name.result ≡ false =
    not-true _ (sym c.in_ok-is_new.ensures.added ∙ c.if-not-is_new.false) in
    record {
      known = λ q. used_next (map export_triple c.args.exports.now) c.loop-i.i (export_triple c.index-exports-i.result) at q.now
          (contains (λ (a b : Bor (List ℕ)). bytes_eq a.now b.now) c.loop-i.names q)
          (contains (λ (a b : Bor (List ℕ)). bytes_eq a.now b.now) c.insert.new.self q) (c.loop-i.invariant.known q)
          (subst (λ (n : List ℕ). contains (λ (a b : Bor (List ℕ)). bytes_eq a.now b.now) c.insert.new.self q
          ≡ cond (bytes_eq n q.now) true (contains (λ (a b : Bor (List ℕ)). bytes_eq a.now b.now) c.loop-i.names q)) named
          (c.in_ok-is_new.ensures.updates.0 q));
      new = new_next (map export_triple c.args.exports.now) c.loop-i.i (export_triple c.index-exports-i.result) at
          (contains (λ (a b : Bor (List ℕ)). bytes_eq a.now b.now) c.loop-i.names c.as_str-name.result) known none
          c.loop-i.invariant.new;
    }

pub returns-then-not-is_new-clause-ok : goal.returns-then-not-is_new-clause-ok
returns-then-not-is_new-clause-ok c =
    let at : slice_get (map export_triple c.args.exports.now) c.loop-i.i ≡ Some (export_triple c.index-exports-i.result) =
    mapped_at export_triple c.args.exports.now c.loop-i.i c.index-exports-i.result c.loop-i-test.true c.index-exports-i.is in
    let named : c.as_str-name.result.now ≡ c.index-exports-i.result.name =
    c.as_str-name.ensures ∙ ap (λ (e : Export). e.name) (sym c.index-exports-i.is) in
    repeated_here (map export_triple c.args.exports.now) c.loop-i.i (export_triple c.index-exports-i.result) at
    (subst (λ (n : List ℕ). IsNameUsed (map export_triple c.args.exports.now) c.loop-i.i n) named
    ((c.loop-i.invariant.known c.as_str-name.result).0 (not-false _ (sym c.in_ok-is_new.ensures.added ∙ c.if-not-is_new.true))))
    c.loop-i.invariant.new

pub returns-clause-ok : goal.returns-clause-ok
returns-clause-ok c =
    let whole : c.loop-i.i ≡ length c.args.exports.now = omega arith in
    subst (λ n. IsFirstRepeated (map export_triple c.args.exports.now) n) (length-map c.args.exports.now export_triple)
    (none_repeated (map export_triple c.args.exports.now) (subst (λ n. AreNew (map export_triple c.args.exports.now) n)
    (whole ∙ sym (length-map c.args.exports.now export_triple)) c.loop-i.invariant.new))
