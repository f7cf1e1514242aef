-- The shapes of layouts in a list.
use Rattle.std.proofs.Common.{◌≡◌, ℕ, suc, List, [], ◌∷◌, All, map, Vec, Global, ap, refl, arith}
use Rattle.std.proofs.lemmas.List.Elements.{All-cons}
use Rattle.pj_change.specs.MarkedText.{Class, Marking, put_shape, put_shapes, put_each, put_group}
use Rattle.pj_layout.specs.declared.layout.Layout.{Layout, Series, Sides}
use Rattle.pj_layout.specs.Shapes.{shape, shapes_of}
use Rattle.pj_marks.specs.Names.{NamesBelow, NameBelow}
use Rattle.pj_layout.proofs.Shapes.{series_shape, sides_shape}

-- each of the layouts names classes below n
each_below : (n : ℕ) (parts : List Layout) → NameBelow n (shapes_of (map shape parts)) → All (λ part. NamesBelow n (shape part)) parts
each_below n [] below = λ k d lt. absurd (omega (arith, lt))
each_below n (part ∷ parts) below = All-cons (λ each. NamesBelow n (shape each)) part parts below.0 (each_below n parts below.1)

all_below : (n : ℕ) (parts : List Layout) → All (λ part. NamesBelow n (shape part)) parts → NameBelow n (shapes_of (map shape parts))
all_below n [] each = tt
all_below n (part ∷ parts) each = (each 0 part (omega arith), all_below n parts (λ k d lt. each (suc k) d (omega (arith, lt))))

each_put : (classes : List Class) (parts : List Layout) → put_shapes classes (shapes_of (map shape parts)) ≡ map (λ part. put_shape classes (shape part)) parts
each_put classes [] = refl
each_put classes (part ∷ parts) = ap (λ (puts : List (Marking → Marking)). put_shape classes (shape part) ∷ puts) (each_put classes parts)

module _ (layout : Layout) (parts : Vec Layout Global) (inner : List Layout) (inner_are : inner ≡ parts.items) where
  pub series_below : (n : ℕ) → layout ≡ Series parts → NamesBelow n (shape layout) → All (λ part. NamesBelow n (shape part)) inner
  series_below n is below = rw inner_are (each_below n parts.items (rw (is, series_shape parts) at below))

  pub sides_below : (n : ℕ) → layout ≡ Sides parts → NamesBelow n (shape layout) → All (λ part. NamesBelow n (shape part)) inner
  sides_below n is below = rw inner_are (each_below n parts.items (rw (is, sides_shape parts) at below))

  pub series_put : (classes : List Class) (m : Marking) → layout ≡ Series parts → put_each (map (λ part. put_shape classes (shape part)) inner) m ≡ put_shape classes (shape layout) m
  series_put classes m is = rw (inner_are, is, series_shape parts, ← each_put classes parts.items) refl

  pub sides_put : (classes : List Class) (m : Marking) → layout ≡ Sides parts → put_group [] (map (λ part. put_shape classes (shape part)) inner) m ≡ put_shape classes (shape layout) m
  sides_put classes m is = rw (inner_are, is, sides_shape parts, ← each_put classes parts.items) refl
