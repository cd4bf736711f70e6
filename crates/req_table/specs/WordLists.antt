-- Lists of words of four or eight bytes each, as lists of references and of children.
use Rattle.std.specs.Prelude.{ℕ, List, map}
use Rattle.std.specs.List.{All}
use Rattle.dd_store.specs.declared.reference.Ref.{Ref}
use Rattle.dd_store.specs.Words.{reference_of, IsWord}
use Rattle.req_table.specs.declared.packed_child.PackedChild.{PackedChild}
use Rattle.req_table.specs.PackedChildWords.{packed_child_of, IsPackedChildWord}
use Rattle.req_table.specs.declared.words.Words.{Words}
use Rattle.req_table.specs.declared.words.Words.TheVariants as words
use Rattle.req_table.specs.declared.words.WordPairs.{WordPairs}
use Rattle.req_table.specs.declared.words.WordPairs.TheVariants as pairs

abbrev pub words_in : Words → List ℕ
words_in (words.Short ws) = ws.items
words_in (words.Long ws) = ws.items

abbrev pub pairs_in : WordPairs → List (ℕ × ℕ)
pairs_in (pairs.Short ps) = ps.items
pairs_in (pairs.Long ps) = ps.items

-- ---- references
abbrev pub refs_of : List ℕ → List Ref
refs_of ws = map reference_of ws

abbrev pub AreRefs : List ℕ → Type 0
AreRefs ws = All IsWord ws

-- ---- children
abbrev pub both_at : ℕ × ℕ → PackedChild × PackedChild
both_at p = (packed_child_of p.0, packed_child_of p.1)

abbrev pub IsPair : ℕ × ℕ → Type 0
IsPair p = IsPackedChildWord p.0 × IsPackedChildWord p.1

abbrev pub children_of : List (ℕ × ℕ) → List (PackedChild × PackedChild)
children_of ps = map both_at ps

abbrev pub AreChildren : List (ℕ × ℕ) → Type 0
AreChildren ps = All IsPair ps
