-- The bytes of a valid program.
use Rattle.smith_binary_program.proofs.Common.{arith, Body, Bool, Contains, is_filled, IsValidProgram, length, List, ModuleParts, refl}
use Rattle.smith_binary_program.proofs.Common.{subst, sym, true, zero, ℕ, ◌++◌, ◌≡◌}
use Rattle.std.specs.Prelude.{is_some}
use Rattle.std.proofs.lemmas.Bool.{and_from, lt-ltb}
use Rattle.std.proofs.lemmas.List.Elements.{Contains-append_left, Contains-append_right}
use Rattle.smith_binary_module.specs.Contents.{defined}
use Rattle.smith_binary_module.specs.Layout.{id_if, section_ids, writes_data_count, writes_imports, writes_types}
use Rattle.smith_program.specs.Valid.{CountsData}
use Rattle.smith_binary_program.specs.Programs.{IsEncoded}
use Rattle.smith_binary_program.specs.Valid.{IsValidBinary}
use Rattle.smith_binary_program.proofs.SameLemmas.{programs_same}

-- the number of data segments is stated
count_there : (written : Bool) → written ≡ true → Contains (id_if written 12) 12
count_there written is = subst (λ (b : Bool). Contains (id_if b 12) 12) (sym is) (zero, omega arith, refl)

-- it is after another section
after_section : (written : Bool) (id : ℕ) (rest : List ℕ) → Contains rest 12 → Contains (id_if written id ++ rest) 12
after_section written id rest there = Contains-append_right (id_if written id) rest 12 there

pub count_written : (m : ModuleParts) → CountsData m → Contains (section_ids m) 12
count_written m counts =
    let written : writes_data_count m ≡ true = and_from m.config.bulk_memory_enabled (is_filled m.datas) counts.bulk_memory
    (lt-ltb 0 (length m.datas) counts.some) in
    after_section (writes_types m) 1 _
    (after_section (writes_imports m) 2 _
    (after_section (is_filled (defined m.num_defined_funcs m.funcs)) 3 _
    (after_section (is_filled m.defined_tables) 4 _
    (after_section (is_filled (defined m.num_defined_memories m.memories)) 5 _
    (after_section (is_filled (defined m.num_defined_tags m.tags)) 13 _
    (after_section (is_filled m.defined_globals) 6 _
    (after_section (is_filled m.exports) 7 _
    (after_section (is_some m.start) 8 _
    (after_section (is_filled m.elems) 9 _
    (Contains-append_left (id_if (writes_data_count m) 12) (id_if (is_filled m.code) 10 ++ id_if (is_filled m.datas) 11) 12
    (count_there (writes_data_count m) written)))))))))))

pub encoded_valid : (m : ModuleParts) (bodies : List Body) (bytes : List ℕ) → IsEncoded m bodies bytes → IsValidProgram m bodies
    → IsValidBinary bytes
encoded_valid m bodies bytes encoded valid = record {
  m = m;
  bodies = bodies;
  spelled = encoded.spelled;
  valid = valid;
  data_count = λ named. record { ids = section_ids m; sections = encoded.sections; there = count_written m (valid.data_count named) };
  no_other = λ n others spelled. programs_same m n bodies others bytes encoded.spelled spelled;
}
