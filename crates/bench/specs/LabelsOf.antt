-- What the entries of a counter's journal say.
use Rattle.std.specs.Prelude.{◌≡◌, ℕ, ◌<◌, List, map}
use Rattle.pj_book.specs.declared.entry.Entry.{Entry}
use Rattle.pj_book.specs.Token.{Token, own}

-- the entries' labels, in their order
abbrev pub labels_of : List (Entry ℕ) → List ℕ
labels_of entries = map (λ e. e.content) entries

-- the pass is not the first, and its own entries have these labels
pub record HasLabels (labels : List ℕ) (p : Token ℕ) : Type 0 where
  pub number : 0 < p.number
  pub entered : labels_of (own p) ≡ labels
