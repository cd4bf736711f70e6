-- Windows as contracts see them.
use Rattle.std.specs.Prelude.{ℕ, List, take}

-- the nodes of a window, and how many of them, from the first on, are its leaves
pub record WindowParts : Type 0 where
  pub nodes : List ℕ
  pub cut : ℕ

-- the leaves
abbrev pub leaves_of : WindowParts → List ℕ
leaves_of w = take w.cut w.nodes
