use Rattle.std.proofs.Common.{ℕ, List, ◌⊎◌, inl, inr, sym, ◌∙◌}
use Rattle.std.proofs.lemmas.List.{length-map}
use Rattle.std.proofs.lemmas.Result.{IfOk-weaker}
use Rattle.smith_module_rules.specs.Module.{ModuleParts}
use Rattle.smith_binary_sections.specs.Codes.{IsBody, IsBodyWritten, body_of}
use Rattle.smith_binary_sections.specs.Long.{IsLongBody, IsLongContent, IsLongList}
use Rattle.smith_binary_sections.specs.Modules.{IsModule, IsModuleAround}
use Rattle.smith_binary_sections.specs.Sections.{IsListSection, IsSectionIf}
use Rattle.smith_binary_sections.proofs.ListLemmas.{body_spelled}
use Rattle.smith_types.specs.Syntax.code.Code.{Code}
use Rattle.smith_binary_module.specs.Contents.{contents_of}
use Rattle.smith_binary_module.specs.Layout.{is_filled}
use Rattle.smith_binary_module.specs.TooLong.{IsTooLong}
use Rattle.smith_binary_module.specs.Written.{AreOwnBodies}
use Rattle.smith_binary_module.proofs.LayoutLemmas.{around_as, code_section, functions_counted}
use Rattle.smith_binary_sections.proofs.FaultLemmas.{fault_weaker}
use Rattle.smith_binary_module.proofs.MappedLemmas.{long_mapped}
use Rattle.smith_binary_module.proofs.modules.encode.Goals as goal

-- the bodies of a module are too long, or other parts are
too_long : (m : ModuleParts) → IsTooLong m ⊎ (IsLongList (λ (code : Code). IsLongBody (body_of m.fuel_globals code)) m.code
    ⊎ IsLongContent (AreOwnBodies m)) → IsTooLong m
too_long m (inl other) = other
too_long m (inr long) = IsTooLong.bodies (long_mapped IsBodyWritten IsLongBody (body_of m.fuel_globals) m.code long)

pub returns-clause-spelled : goal.returns-clause-spelled
returns-clause-spelled c =
    let m = c.args.module.now in
    let form : (piece : List ℕ) → IsModuleAround (contents_of m) (IsSectionIf (is_filled m.code) 10 (AreOwnBodies m)) piece
    → IsModuleAround (contents_of m) (IsListSection 10 IsBody (contents_of m).bodies) piece =
    around_as (contents_of m) _ _ (code_section IsBodyWritten IsBody (body_of m.fuel_globals) body_spelled m.code) in
    IfOk-weaker c.encode_with_bodies.result
    (λ bytes. IsModuleAround (contents_of m) (IsSectionIf (is_filled m.code) 10 (AreOwnBodies m)) bytes.items)
    (λ bytes. IsModule (contents_of m) bytes.items)
    (λ bytes h. record {
      each = functions_counted m c.code.ensures.each ∙ sym (length-map m.code (body_of m.fuel_globals));
      form = form bytes.items h;
    })
    (rw (c.fuel_globals.ensures, c.code.ensures.items) at c.encode_with_bodies.ensures.spelled)

pub returns-clause-written : goal.returns-clause-written
returns-clause-written c = rw (c.fuel_globals.ensures, c.code.ensures.items) at c.encode_with_bodies.ensures.written

pub returns-clause-spelling : goal.returns-clause-spelling
returns-clause-spelling c = rw (c.fuel_globals.ensures, c.code.ensures.items) at c.encode_with_bodies.ensures.spelling

pub returns-clause-fault : goal.returns-clause-fault
returns-clause-fault c = fault_weaker c.encode_with_bodies.result (too_long c.args.module.now)
    (rw (c.fuel_globals.ensures, c.code.ensures.items) at c.encode_with_bodies.ensures.fault)
