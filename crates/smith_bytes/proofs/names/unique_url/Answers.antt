use Rattle.std.proofs.Common.{◌≡◌, ◌++◌, ℕ, List, string_bytes, true, ap, ◌∙◌}
use Rattle.std.proofs.lemmas.Map.Text.{hash_set_updates_text}
use Rattle.smith_bytes.specs.Names.{url_front, url_path}
use Rattle.smith_bytes.proofs.KebabShapeLemmas.{kebab_new}
use Rattle.smith_bytes.proofs.MadeNewLemmas.{added_size}
use Rattle.smith_bytes.proofs.names.unique_url.Goals as goal

path_is : (url shown path : List ℕ) → url ≡ url_front ++ shown → shown ≡ path → url_path url ≡ path
path_is url shown path is same = ap url_path is ∙ same

pub returns-clause-shape : goal.returns-clause-shape
returns-clause-shape c =
    rw (path_is _ _ _ c.in_ok-url.ensures.exact c.deref.ensures)
    (kebab_new c.args.names.now c.args.max_size c.args.u.now _ _ _ c.in_ok-draw_kebab_string.ensures.exact c.in_ok-path.ensures.made)

pub returns-clause-added : goal.returns-clause-added
returns-clause-added c =
    rw (path_is _ _ _ c.in_ok-url.ensures.exact c.deref.ensures)
    (record {
      has = λ other. hash_set_updates_text (string_bytes c.in_ok-path.path) c.args.names.now c.insert.new.self true
          c.in_ok-insert.ensures.updates other;
      size = added_size _ _ c.in_ok-insert.ensures.len c.in_ok-insert.ensures.added c.in_ok-path.ensures.made.fresh;
    })
