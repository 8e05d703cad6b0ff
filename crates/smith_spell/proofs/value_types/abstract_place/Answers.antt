use Rattle.smith_spell.proofs.Common.{arith, refl, ◌+◌}
use Rattle.smith_spell.proofs.ListedTypeLemmas.{collected_at, offered_from_listed}
use Rattle.smith_spell.proofs.value_types.abstract_place.Goals as goal

pub returns-in-Any : goal.returns-in-Any
returns-in-Any c = λ listed. rw c.in-Any.is (collected_at c.args.config.now 0 (2 + c.from-exceptions.result) _
    (rw c.in-Any.is at (offered_from_listed c.args.config.now c.args.ty listed)) refl (omega (arith, c.from-exceptions.ensures)))

pub returns-in-None : goal.returns-in-None
returns-in-None c = λ listed. rw c.in-None.is (collected_at c.args.config.now 1 (3 + c.from-exceptions.result) _
    (rw c.in-None.is at (offered_from_listed c.args.config.now c.args.ty listed)) refl (omega (arith, c.from-exceptions.ensures)))

pub returns-in-NoExtern : goal.returns-in-NoExtern
returns-in-NoExtern c = λ listed. rw c.in-NoExtern.is (collected_at c.args.config.now 2 (4 + c.from-exceptions.result) _
    (rw c.in-NoExtern.is at (offered_from_listed c.args.config.now c.args.ty listed)) refl (omega (arith, c.from-exceptions.ensures)))

pub returns-in-NoFunc : goal.returns-in-NoFunc
returns-in-NoFunc c = λ listed. rw c.in-NoFunc.is (collected_at c.args.config.now 3 (5 + c.from-exceptions.result) _
    (rw c.in-NoFunc.is at (offered_from_listed c.args.config.now c.args.ty listed)) refl (omega (arith, c.from-exceptions.ensures)))

pub returns-in-Eq : goal.returns-in-Eq
returns-in-Eq c = λ listed. rw c.in-Eq.is (collected_at c.args.config.now 4 (6 + c.from-exceptions.result) _
    (rw c.in-Eq.is at (offered_from_listed c.args.config.now c.args.ty listed)) refl (omega (arith, c.from-exceptions.ensures)))

pub returns-in-Struct : goal.returns-in-Struct
returns-in-Struct c = λ listed. rw c.in-Struct.is (collected_at c.args.config.now 5 (7 + c.from-exceptions.result) _
    (rw c.in-Struct.is at (offered_from_listed c.args.config.now c.args.ty listed)) refl (omega (arith, c.from-exceptions.ensures)))

pub returns-in-Array : goal.returns-in-Array
returns-in-Array c = λ listed. rw c.in-Array.is (collected_at c.args.config.now 6 (8 + c.from-exceptions.result) _
    (rw c.in-Array.is at (offered_from_listed c.args.config.now c.args.ty listed)) refl (omega (arith, c.from-exceptions.ensures)))

pub returns-in-I31 : goal.returns-in-I31
returns-in-I31 c = λ listed. rw c.in-I31.is (collected_at c.args.config.now 7 (9 + c.from-exceptions.result) _
    (rw c.in-I31.is at (offered_from_listed c.args.config.now c.args.ty listed)) refl (omega (arith, c.from-exceptions.ensures)))
