-- The names of imports: a name that is drawn after other imports, and the set of their pairs of
-- names. Rules of this project.
use Rattle.std.specs.Prelude.{◌≡◌, ℕ, ◌+◌, Bool, ◌&&◌, ◌||◌, IsTrue, max, List, [], ◌∷◌, length, string_bytes, if◌then◌else◌}
use Rattle.std.specs.List.{list_any}
use Rattle.std.specs.HashSet.{HashSet, contains_by, hash_set_len}
use Rattle.std.specs.Str.{bytes_eq}
use Rattle.std.specs.Fmt.{decimal}
use Rattle.std.specs.declared.string.String.{String}
use Rattle.std.specs.declared.alloc.Global.{Global}
use Rattle.smith_bytes.specs.Names.{text_at, new_name}
use Rattle.smith_types.specs.Syntax.imports.Import.{Import}

-- whether an import has this pair of names: of its module, and of the import itself
abbrev pub has_names : List ℕ → List ℕ → Import → Bool
has_names from name one = bytes_eq from one.«module» && bytes_eq name one.name

-- whether some import has this pair of names
abbrev pub is_taken : List Import → List ℕ → List ℕ → Bool
is_taken imports from name = list_any (has_names from name) imports

-- the length of the longest name of an import
abbrev pub longest_name : List Import → ℕ
longest_name [] = 0
longest_name (one ∷ imports) = max (length one.name) (longest_name imports)

-- the name of an import from a module, after other imports: a text of at most 1000 bytes; if pairs
-- of names must be distinct, with the number of these imports appended until no import has the pair
unfoldable pub import_name_at : Bool → List Import → List ℕ → List ℕ → List ℕ × List ℕ
import_name_at distinct imports from bytes =
    let text = text_at 1000 bytes in
    ((if distinct then new_name (is_taken imports from) (decimal (length imports)) (longest_name imports + 1) text.0 else text.0), text.1)

-- whether a pair of texts is this pair of names
abbrev pub is_pair : List ℕ → List ℕ → String Global × String Global → Bool
is_pair from name pair = bytes_eq from (string_bytes pair.0) && bytes_eq name (string_bytes pair.1)

module _ {S : Type 0} where
  -- whether a set has this pair of names
  abbrev pub has_pair : HashSet (String Global × String Global) S → List ℕ → List ℕ → Bool
  has_pair pairs from name = contains_by (is_pair from name) pairs

  -- a set has the pairs of names of imports, each once
  pub record HasPairs (pairs : HashSet (String Global × String Global) S) (imports : List Import) : Type 0 where
    pub has : (from name : List ℕ) → has_pair pairs from name ≡ is_taken imports from name
    pub size : hash_set_len pairs ≡ length imports

  -- if pairs of names must be distinct, the set has the pairs of the imports; else it is not
  -- maintained
  abbrev pub KnowsPairs : Bool → HashSet (String Global × String Global) S → List Import → Type 0
  KnowsPairs distinct pairs imports = IsTrue distinct → HasPairs pairs imports

  -- a set has one more pair
  pub record AddsPair (old new : HashSet (String Global × String Global) S) (from name : List ℕ) : Type 0 where
    pub has : (other_from other_name : List ℕ) → has_pair new other_from other_name
        ≡ ((bytes_eq other_from from && bytes_eq other_name name) || has_pair old other_from other_name)
    pub size : hash_set_len new ≡ hash_set_len old + 1
