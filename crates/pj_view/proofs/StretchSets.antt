-- Sets of stretches, whose points were added.
use Rattle.std.proofs.Common.{◌≡◌, ◌∙◌, sym, subst, refl, Bool, true, false, not, cond, List, []}
use Rattle.std.specs.BTreeSet.{BTreeSet, contains}
use Rattle.std.specs.Ordering.{is_eq, nat_cmp, ordering_then}
use Rattle.std.specs.declared.cmp.Ordering.{Ordering}
use Rattle.std.specs.declared.cmp.Ordering.TheVariants.{Less, Equal, Greater}
use Rattle.pj_name.specs.Name.{name_cmp}
use Rattle.pj_change.specs.declared.point.Point.{Point}
use Rattle.pj_change.specs.declared.change.Record.{Record}
use Rattle.pj_change.proofs.EqualNames.{name_tied, both_tie, offset_tied}
use Rattle.pj_view.specs.declared.stretch.Stretch.{Stretch}
use Rattle.pj_view.specs.Added.{HasEntries, HasEntry}
use Rattle.pj_view.proofs.Additions.{entry_stays}
use Rattle.pj_view.specs.Stretches.{stretch_cmp, is_in, HasStretches}

equal_is : (o : Ordering) → is_eq o ≡ true → o ≡ Equal
equal_is Less h = absurd (cc)
equal_is Equal h = refl
equal_is Greater h = absurd (cc)

-- stretches that the order does not tell apart are one
stretch_tied : (a b : Stretch) → stretch_cmp a b ≡ Equal → a ≡ b
stretch_tied a b h =
    let o = both_tie (name_cmp a.change b.change) (ordering_then (nat_cmp a.start b.start) (nat_cmp a.end b.end)) h in
    let s = both_tie (nat_cmp a.start b.start) (nat_cmp a.end b.end) o.1 in
    let change = name_tied a.change b.change o.0 in
    let start = offset_tied a.start b.start s.0 in
    let end = offset_tied a.end b.end s.1 in
    λ i. record { change = change i; start = start i; end = end i }

pub no_stretches : (S : List Record) (points : List Point) (set : BTreeSet Stretch) → set.keys ≡ [] → HasStretches S points set
no_stretches S points set e s p there b = absurd (let f : contains stretch_cmp set s ≡ false = rw e refl in let c : true ≡ false = sym there ∙ f in cc)

-- one more, whose points are there too
pub stretches_more : (S : List Record) (old new : List Point) (set more : BTreeSet Stretch) (s : Stretch) → HasStretches S old set → HasEntries S old new (λ p. is_in s p ≡ true) →
    ((q : Stretch) → contains stretch_cmp more q ≡ cond (is_eq (stretch_cmp s q)) true (contains stretch_cmp set q)) → HasStretches S new more
stretches_more S old new set more s has a updated q p there b = by (is_eq (stretch_cmp s q)) refl (updated q)
  where
    by : (d : Bool) → is_eq (stretch_cmp s q) ≡ d → contains stretch_cmp more q ≡ cond (is_eq (stretch_cmp s q)) true (contains stretch_cmp set q) → HasEntry S new p
    by true e u = a.added p (subst (λ x. is_in x p ≡ true) (sym (stretch_tied s q (equal_is (stretch_cmp s q) e))) b)
    by false e u = (let f : contains stretch_cmp more q ≡ contains stretch_cmp set q = rw e at u in entry_stays S old new a.kept p (has q p (sym f ∙ there) b))

from_not : (b : Bool) → false ≡ not b → b ≡ true
from_not true e = refl
from_not false e = absurd (cc)

-- a stretch that was in the set before has its entries already
pub entered_before : (S : List Record) (points : List Point) (set : BTreeSet Stretch) (s : Stretch) → HasStretches S points set → false ≡ not (contains stretch_cmp set s) → HasEntries S points points (λ p. is_in s p ≡ true)
entered_before S points set s has there = record { kept = λ p m. m; added = λ p b. has s p (from_not (contains stretch_cmp set s) there) b }
