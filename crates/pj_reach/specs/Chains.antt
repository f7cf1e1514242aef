-- The chains of edges as the code holds them.
use Rattle.std.specs.Prelude.{ℕ, List, length}
use Rattle.pj_reach.specs.declared.links.Links.{Links}
use Rattle.pj_reach.specs.Links.{IsLinked}

-- how many vertices there are
abbrev pub vertices : Links → ℕ
vertices links = length links.last.items

-- these are the chains of the edges
abbrev pub AreChains : List (ℕ × ℕ) → Links → Type 0
AreChains edges links = IsLinked (vertices links) edges links.last.items links.earlier.items
