-- Positions that stand together, and the lists of points that have what begins in them.
use Rattle.std.specs.Prelude.{◌≡◌, Bool, true, false, List, Option, Some, None, IsTrue}
use Rattle.std.specs.BTreeSet.{BTreeSet, contains}
use Rattle.std.specs.Ordering.{on, then_cmp, nat_cmp}
use Rattle.std.specs.declared.cmp.Ordering.{Ordering}
use Rattle.pj_name.specs.Name.{name_cmp}
use Rattle.pj_change.specs.declared.point.Point.{Point}
use Rattle.pj_change.specs.declared.change.Record.{Record}
use Rattle.pj_change.specs.Covers.{is_within}
use Rattle.pj_view.specs.declared.stretch.Stretch.{Stretch}
use Rattle.pj_view.specs.Added.{HasEntry}

-- by change, start and end
abbrev pub stretch_cmp : Stretch → Stretch → Ordering
stretch_cmp = then_cmp (on (λ s. s.change) name_cmp) (then_cmp (on (λ s. s.start) nat_cmp) (on (λ s. s.end) nat_cmp))

-- the point is one of the positions
abbrev pub is_in : Stretch → Point → Bool
is_in s p = is_within s.change s.start s.end p

-- the point is one of the positions of the stretch, if there is one
abbrev pub is_in_some : Option Stretch → Point → Bool
is_in_some None p = false
is_in_some (Some s) p = is_in s p

-- the list has an entry to each position of each stretch of the set
abbrev pub HasStretches : List Record → List Point → BTreeSet Stretch → Type 0
HasStretches S points set = (s : Stretch) (p : Point) → IsTrue (contains stretch_cmp set s) → is_in s p ≡ true → HasEntry S points p
