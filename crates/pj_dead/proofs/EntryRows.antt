-- The rows across a set, by the vertices where they enter it.
use Rattle.std.proofs.Common.{◌≡◌, ◌↔◌, ℕ, true, ◌==◌, arith, List, refl, sym, ap, ◌∙◌, subst}
use Rattle.std.specs.Prelude.{Contains, ◌≢◌}
use Rattle.std.specs.Ordering.{ordering_reverse}
use Rattle.std.specs.declared.cmp.Ordering.{Ordering}
use Rattle.std.specs.declared.cmp.Ordering.TheVariants.{Less, Equal, Greater}
use Rattle.std.proofs.lemmas.Bool.Decides.{nat_tests}
use Rattle.pj_change.specs.declared.point.Point.{Point}
use Rattle.pj_change.specs.Graph.{point_cmp}
use Rattle.pj_change.specs.Gathers.{IsOfOne}
use Rattle.pj_change.specs.DeadSets.{here, on}
use Rattle.pj_change.proofs.Members.{same_member}
use Rattle.pj_change.proofs.Orders.{point_total}
use Rattle.pj_change.proofs.EqualNames.{point_tied}
use Rattle.pj_change.proofs.DeadPaths.{start_dead, dead_trans, dead_step, path_connected, same_least, connected_back}
use Rattle.pj_dead.specs.PointGraphs.{PointGraph, IsEdge, IsDead, IsLive}
use Rattle.pj_dead.specs.DeadRows.{AreOfOneSet, IsPathOverDead, IsLeastOf, IsRow, Enters, Leaves, Arrives, Departs, IsRowAt, IsRowOfSet}
use Rattle.pj_dead.specs.declared.near.Way.TheVariants.{Back}
use Rattle.pj_dead.specs.Searches.{Reaches}
use Rattle.pj_dead.specs.declared.row.PseudoRow.{PseudoRow}

-- ---- least points

-- of two points of which neither is below the other, each is the other
pub neither_below : (p q : Point) → point_cmp p q ≢ Less → point_cmp q p ≢ Less → p ≡ q
neither_below p q a b = by (point_cmp p q) refl
  where
    by : (o : Ordering) → point_cmp p q ≡ o → p ≡ q
    by Less e = absurd (a e)
    by Equal e = point_tied p q e
    by Greater e = absurd (b (point_total.antisymm q p ∙ ap ordering_reverse e))

module _ (g : PointGraph) where
  pub one_least : (u least other : Point) → IsLeastOf g u least → IsLeastOf g u other → least ≡ other
  one_least u least other a b = neither_below least other (b.below least a.member) (a.below other b.member)

  pub least_there : (u v least : Point) → AreOfOneSet g u v → IsLeastOf g u least → IsLeastOf g v least
  least_there u v least j l = same_least (IsEdge g) (IsDead g) point_cmp u v least j l

  pub set_back : {u v : Point} → AreOfOneSet g u v → AreOfOneSet g v u
  set_back j = connected_back (IsEdge g) (IsDead g) j

  -- ---- rows by their entries

  pub row_at : (row : PseudoRow) → IsRow g row → (u : Point) × IsRowAt g u row
  row_at row r = (
    r.across.first,
    record {
      least = subst (IsLeastOf g r.across.first) r.least_is r.across.least_is;
      enters = record { from = r.from; live = r.from_source; edge = r.across.enters; last_is = r.source_is };
      leaves = record {
        end = r.across.last;
        path = r.across.dead;
        edge = subst (IsEdge g r.across.last) r.target_is r.across.leaves;
        live = subst (IsLive g) r.target_is r.to_target;
      };
    },
  )

  pub at_row : (u : Point) (row : PseudoRow) → IsRowAt g u row → IsRow g row
  at_row u row r = record {
    lowest = row.least;
    from = r.enters.from;
    to = row.target;
    from_source = r.enters.live;
    to_target = r.leaves.live;
    across = record { first = u; last = r.leaves.end; enters = r.enters.edge; dead = r.leaves.path; leaves = r.leaves.edge; least_is = r.least };
    least_is = refl;
    source_is = r.enters.last_is;
    target_is = refl;
  }

  pub entry_dead : (u : Point) (row : PseudoRow) → IsRowAt g u row → IsDead g u
  entry_dead u row r = start_dead r.leaves.path

-- ---- sources and targets

module _ (g : PointGraph) where
  module _ (u : Point) (ends : List Point) (are : (v : Point) → Contains ends v ↔ IsPathOverDead g u v) where
    pub target_leaves : (q : Point) → IsOfOne (λ e z. IsEdge g e z × IsLive g z) ends q → Leaves g u q
    target_leaves q o = record { end = o.one; path = (are o.one).0 o.member; edge = o.is.0; live = o.is.1 }

    pub leaves_target : (q : Point) → Leaves g u q → IsOfOne (λ e z. IsEdge g e z × IsLive g z) ends q
    leaves_target q l = record { one = l.end; member = (are l.end).1 l.path; is = (l.edge, l.live) }

-- a path the one way is one the other way
path_turned : (g : PointGraph) → {u v : Point} → Reaches g Back u v → IsPathOverDead g v u
path_turned g (here d) = here d
path_turned g (on p s d) = dead_step d s (path_turned g p)

turned_path : (g : PointGraph) → {u v : Point} → IsPathOverDead g u v → Reaches g Back v u
turned_path g (here d) = here d
turned_path g (on p s d) = dead_step d s (turned_path g p)

module _ (g : PointGraph) (u : Point) (entries : List Point) (are : (v : Point) → Contains entries v ↔ Reaches g Back u v) where
  pub source_arrives : (p : Point) → IsOfOne (Enters g) entries p → Arrives g u p
  source_arrives p o = record { entry = o.one; path = path_turned g ((are o.one).0 o.member); enters = o.is }

  pub arrives_source : (p : Point) → Arrives g u p → IsOfOne (Enters g) entries p
  arrives_source p a = record { one = a.entry; member = (are a.entry).1 (turned_path g a.path); is = a.enters }

-- ---- rows

-- nothing is in a list that is empty
pub none_left : (n : ℕ) → (n == 0) ≡ true → n ≡ 0
none_left n e = grind (arith, nat_tests)

abbrev pub IsFromTo : (Point → Type 0) → (Point → Type 0) → Point → PseudoRow → Type 0
IsFromTo Source Target least row = Source row.source × Target row.target × (row.least ≡ least)

pub same_row : (row : PseudoRow) (source target least : Point) → row.source ≡ source → row.target ≡ target → row.least ≡ least → record { source = source; target = target; least = least } ≡ row
same_row row source target least a b c = λ i. record { source = sym a i; target = sym b i; least = sym c i }

module _ (source least : Point) (targets : List Point) where
  abbrev pub IsFrom : Point → PseudoRow → Type 0
  IsFrom t row = record { source = source; target = t; least = least } ≡ row

  pub one_from : (row : PseudoRow) → IsOfOne IsFrom targets row → IsFromTo (λ s. s ≡ source) (Contains targets) least row
  one_from row o =
      let e = o.is in (
        sym (ap (λ (r : PseudoRow). r.source) e),
        same_member targets (ap (λ (r : PseudoRow). r.target) e) o.member,
        sym (ap (λ (r : PseudoRow). r.least) e),
      )

  pub from_one : (row : PseudoRow) → IsFromTo (λ s. s ≡ source) (Contains targets) least row → IsOfOne IsFrom targets row
  from_one row k = record { one = row.target; member = k.1; is = same_row row source row.target least k.0 refl k.2 }

module _ (sources targets : List Point) (least : Point) where
  pub one_each : (row : PseudoRow) → IsOfOne (λ s. IsFromTo (λ z. z ≡ s) (Contains targets) least) sources row → IsFromTo (Contains sources) (Contains targets) least row
  one_each row o = (same_member sources (sym o.is.0) o.member, o.is.1, o.is.2)

  pub each_one : (row : PseudoRow) → IsFromTo (Contains sources) (Contains targets) least row → IsOfOne (λ s. IsFromTo (λ z. z ≡ s) (Contains targets) least) sources row
  each_one row k = record { one = row.source; member = k.0; is = (refl, k.1, k.2) }

module _ (P Q R T : Point → Type 0) (sources : (p : Point) → P p ↔ Q p) (targets : (p : Point) → R p ↔ T p) (least : Point) where
  pub ends_there : (row : PseudoRow) → IsFromTo P R least row → IsFromTo Q T least row
  ends_there row k = ((sources row.source).0 k.0, (targets row.target).0 k.1, k.2)

  pub ends_back : (row : PseudoRow) → IsFromTo Q T least row → IsFromTo P R least row
  ends_back row k = ((sources row.source).1 k.0, (targets row.target).1 k.1, k.2)

-- the rows across a set, from what is known of its list
module _ (g : PointGraph) (at least : Point) (set : List Point) (are : (v : Point) → Contains set v ↔ AreOfOneSet g at v) where
  module _ (is_least : IsLeastOf g at least) where
    pub entry_of_set : (row : PseudoRow) → IsOfOne (λ u. IsFromTo (Enters g u) (Leaves g u) least) set row → IsRowOfSet g at row
    entry_of_set row o =
        let j = (are o.one).0 o.member in
        record {
          entry = o.one;
          joined = j;
          is = record { least = subst (IsLeastOf g o.one) (sym o.is.2) (least_there g at o.one least j is_least); enters = o.is.0; leaves = o.is.1 };
        }

    same_least_point : (row : PseudoRow) → (r : IsRowOfSet g at row) → row.least ≡ least
    same_least_point row r = one_least g at row.least least (least_there g r.entry at row.least (set_back g r.joined) r.is.least) is_least

    pub set_of_entry : (row : PseudoRow) → IsRowOfSet g at row → IsOfOne (λ u. IsFromTo (Enters g u) (Leaves g u) least) set row
    set_of_entry row r = record { one = r.entry; member = (are r.entry).1 r.joined; is = (r.is.enters, r.is.leaves, same_least_point row r) }

    pub exit_of_set : (row : PseudoRow) → IsOfOne (λ u. IsFromTo (Arrives g u) (Departs g u) least) set row → IsRowOfSet g at row
    exit_of_set row o =
        let a = o.is.0 in
        let j : AreOfOneSet g at a.entry = dead_trans ((are o.one).0 o.member) (set_back g (path_connected (IsEdge g) (IsDead g) a.path)) in
        record {
          entry = a.entry;
          joined = j;
          is = record {
            least = subst (IsLeastOf g a.entry) (sym o.is.2) (least_there g at a.entry least j is_least);
            enters = a.enters;
            leaves = record { end = o.one; path = a.path; edge = o.is.1.0; live = o.is.1.1 };
          };
        }

    pub set_of_exit : (row : PseudoRow) → IsRowOfSet g at row → IsOfOne (λ u. IsFromTo (Arrives g u) (Departs g u) least) set row
    set_of_exit row r =
        let l = r.is.leaves in
        record {
          one = l.end;
          member = (are l.end).1 (dead_trans r.joined (path_connected (IsEdge g) (IsDead g) l.path));
          is = (record { entry = r.entry; path = l.path; enters = r.is.enters }, (l.edge, l.live), same_least_point row r);
        }
