use Rattle.smith_module_rules_examples.proofs.Common.{rules, arith, ◌*◌, ◌^◌, ◌≤◌, [], ◌∷◌, None, refl, sym, subst, negsuc, same_Some}
use Rattle.smith_module_rules_examples.proofs.Common.{All-from_recursion, All-head, page_log2, IsDataInside, MemoryType, memory}
use Rattle.smith_module_rules_examples.proofs.Common.{shared_memory, active_data, one_data_segment}
use Rattle.smith_module_rules_examples.proofs.promises.segments.Goals as goal

pub returns : goal.returns
returns c = record {
  no_bytes = record {
    elems = search rules;
    data_segments = All-from_recursion (IsDataInside one_data_segment.memories) one_data_segment.datas
        ((shared_memory 1, refl, omega arith), tt);
  };
  up_to_the_last_byte = record {
    elems = search rules;
    data_segments = All-from_recursion (IsDataInside (memory 65536 None ∷ [])) (active_data (negsuc 0) (42 ∷ []) ∷ [])
        ((memory 65536 None, refl, omega arith), tt);
  };
  one_byte_past = λ inside.
      let (stands, at, within) = All-head (IsDataInside (memory 65536 None ∷ [])) (active_data (negsuc 0) (42 ∷ 42 ∷ [])) []
      inside.data_segments in
      let never : 4294967297 ≤ 4294967296 = subst (λ (one : MemoryType). 4294967297 ≤ one.minimum * 2 ^ page_log2 one.page_size_log2)
      (sym (same_Some (memory 65536 None) stands at)) within in
      omega (arith, never);
  a_page_less = λ inside.
      let (stands, at, within) = All-head (IsDataInside (memory 65535 None ∷ [])) (active_data (negsuc 0) (42 ∷ [])) []
      inside.data_segments in
      let never : 4294967296 ≤ 4294901760 = subst (λ (one : MemoryType). 4294967296 ≤ one.minimum * 2 ^ page_log2 one.page_size_log2)
      (sym (same_Some (memory 65535 None) stands at)) within in
      omega (arith, never);
}
