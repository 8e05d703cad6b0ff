-- Changes of files: rules of this project. Modules begin with eight bytes, the magic number and the version
-- (Binary Format, Modules).
use Rattle.std.specs.Prelude.{◌≡◌, ℕ, ◌+◌, ◌<◌, ◌≤◌, List, [], ◌∷◌, ◌++◌, length, take, drop, slice_index}
use Rattle.smith_wrong_bytes.specs.declared.change.Splice.{Splice}
use Rattle.smith_wrong_bytes.specs.declared.family.BytesFamily.{BytesFamily}
use Rattle.smith_wrong_bytes.specs.declared.family.BytesFamily.TheVariants as family

-- a file with a change: the bytes before the removed bytes, the inserted bytes, and the bytes after
-- the removed bytes
abbrev pub spliced : List ℕ → Splice → List ℕ
spliced file change = take change.at file ++ (change.inserted ++ drop (change.at + change.removed) file)

-- the removed bytes lie within the file
abbrev pub IsWithin : List ℕ → Splice → Type 0
IsWithin file change = change.at + change.removed ≤ length file

-- one of the first eight bytes is replaced by another byte
pub record IsOtherPreamble (file : List ℕ) (change : Splice) : Type 0 where
  pub at : change.at < 8
  pub removed : change.removed ≡ 1
  pub byte : ℕ
  pub inserted : change.inserted ≡ byte ∷ []
  pub other : byte ≡ slice_index file change.at → ⊥

-- the file ends within its first eight bytes
pub record IsCutPreamble (file : List ℕ) (change : Splice) : Type 0 where
  pub at : change.at < 8
  pub removed : change.at + change.removed ≡ length file
  pub inserted : change.inserted ≡ []

-- a change among the first eight bytes of a file, by a family that has one for every file
abbrev pub IsOfPreamble : BytesFamily → List ℕ → Splice → Type 0
IsOfPreamble family.Preamble file change = IsOtherPreamble file change
IsOfPreamble family.CutFile file change = IsCutPreamble file change
IsOfPreamble _ file change = ⊥

-- a family with such changes
abbrev pub HasPreamble : BytesFamily → Type 0
HasPreamble family.Preamble = Unit {0}
HasPreamble family.CutFile = Unit {0}
HasPreamble _ = ⊥
