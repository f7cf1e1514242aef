-- The parts of a change, and of what lies near it, at which the dead text of views can differ, or what stands beside it.
use Rattle.std.proofs.Common.{◌≡◌, ◌+◌, ◌-◌, List, [], Some, None, Bool, true, false, refl, sym, ap, not, ◌∙◌, subst, inl, inr, arith}
use Rattle.std.specs.Prelude.{◌≢◌, ◌⊎◌, ◌&&◌, IsTrue, Contains, slice_get}
use Rattle.std.proofs.lemmas.Option.{same_Some, slice_get_read}
use Rattle.pj_name.specs.declared.name.Name.{Name}
use Rattle.pj_name.specs.Name.{same_name}
use Rattle.pj_change.specs.declared.point.Point.{Point}
use Rattle.pj_change.specs.declared.point.Place.TheVariants as placed
use Rattle.pj_change.specs.declared.hunk.Hunk.{Hunk}
use Rattle.pj_change.specs.declared.row.EdgeRow.{EdgeRow}
use Rattle.pj_change.specs.declared.graph.Vertex.{Vertex}
use Rattle.pj_change.specs.declared.change.Record.{Record}
use Rattle.pj_change.specs.Before.{Leads}
use Rattle.pj_change.specs.ContestCounts.{is_contested_by}
use Rattle.pj_change.specs.Contested.{is_hunk_contested}
use Rattle.pj_change.specs.Covers.{covers, touches}
use Rattle.pj_change.specs.Lawful.{is_held, IsLawful}
use Rattle.pj_change.specs.PointsIn.{LiesIn}
use Rattle.pj_change.specs.Positions.{same_point}
use Rattle.pj_change.specs.Vertices.{first_point}
use Rattle.pj_change.proofs.EqualNames.{equal_names, name_itself, same_point_itself}
use Rattle.pj_change.proofs.LawfulLists.{not_record, one_record}
use Rattle.pj_change.proofs.Members.{any_member, passes, splits, moved}
use Rattle.pj_contest.specs.Contests.{is_hit, is_opposed}
use Rattle.pj_cuts.specs.CutsOf.{all_cut_points, AllFitAfter}
use Rattle.pj_cuts.proofs.SetTables.{fits_where_context}
use Rattle.pj_dead.specs.PointGraphs.{PointGraph, IsWhole}
use Rattle.pj_dead.specs.Searches.{GoesOn}
use Rattle.pj_dead.specs.ViewOf.{IsViewOf}
use Rattle.pj_dead.proofs.Searching.{goes_kept}
use Rattle.pj_edges.specs.OwnRows.{rows_of}
use Rattle.pj_ranges.specs.declared.range.HunkAt.{HunkAt}
use Rattle.pj_view.specs.Added.{HasAdded, HasEntries, HasEntry, HasStarts, IsBefore, IsBesideAt, IsCovered, IsCoveredAt, IsDeadAt, IsOldEnd, IsUncutAt, MayTurn, leads_here, leads_on, covered, contested, StandsToOne}
use Rattle.pj_view.specs.Added as added
use Rattle.pj_view.specs.Touched.{IsNewCut, is_dead_in}
use Rattle.pj_view.proofs.Additions.{entry_stays}
use Rattle.pj_view.proofs.EnoughPoints.{AreEnough}
use Rattle.pj_view.proofs.ShownEnds.{source_shown, target_shown}
use Rattle.pj_view.proofs.ViewPoints.{first_there, lies_first}

-- ---- what the change says itself

-- just before a cut
pub just_before : (at p : Point) → record { change = p.change; offset = p.offset + 1 } ≡ at → record { change = at.change; offset = at.offset - 1 } ≡ p
just_before at p e =
    let change : at.change ≡ p.change = ap (λ (q : Point). q.change) (sym e) in
    let next : p.offset + 1 ≡ at.offset = ap (λ (q : Point). q.offset) e in
    let offset : at.offset - 1 ≡ p.offset = omega (arith, next) in
    λ i. record { change = change i; offset = offset i }

same_at : (p q : Point) → placed.At p ≡ placed.At q → p ≡ q
same_at p q e = cc

-- at the ends of a row that are points, but for those of the change of this name
pub end_parts : (row : EdgeRow) (from : Point) (name : Name) (p : Point) → row.source ≡ placed.At from → IsOldEnd name row p → ((row.target ≡ p) × (p.change ≢ name)) ⊎ ((from ≡ p) × (p.change ≢ name))
end_parts row from name p is (added.source e, other) = inr (same_at from p (sym is ∙ e), other)
end_parts row from name _ is (added.target, other) = inl (refl, other)

pub end_alone : (row : EdgeRow) (name : Name) (p : Point) → ((q : Point) → row.source ≡ placed.At q → ⊥) → IsOldEnd name row p → (row.target ≡ p) × (p.change ≢ name)
end_alone row name p root (added.source e, other) = absurd (root p e)
end_alone row name _ root (added.target, other) = (refl, other)

-- a point that is not of the change of this name is wanted
pub other_wanted : (name : Name) (at : Point) (wanted : Bool) → wanted ≡ not (same_name at.change name) → (p : Point) → (at ≡ p) × (p.change ≢ name) → (at ≡ p) × IsTrue wanted
other_wanted name at wanted is p k = (k.0, by wanted is)
  where
    by : (b : Bool) → b ≡ not (same_name at.change name) → IsTrue b
    by true e = refl
    by false e = absurd (k.1 (ap (λ (q : Point). q.change) (sym k.0) ∙ equal_names at.change name e))

-- each cut of a change of a lawful list has a position after it
pub all_fit : (S : List Record) → IsLawful S → (c : Record) → Contains S c → AllFitAfter c
all_fit S lawful c m = (let s = splits S c m in fits_where_context s.before c (lawful s.before c s.after s.is))

-- ---- what hunks delete or revive

-- by one of the hunks
pub touched_by_one : (c : Record) (p : Point) → touches c p ≡ true → StandsToOne c.change.hunks (IsCovered c) p
touched_by_one c p e = (let k = passes (λ h. covers c h p) c.change.hunks e in record { thing = k.it; member = k.member; stands = k.is })

module _ (S : List Record) where
  -- by the hunk at a place, which a change of that name has
  pub covered_there : IsLawful S → (x : HunkAt) (d : Record) → Contains S d → d.name ≡ x.change → (h : Hunk) → slice_get d.change.hunks x.hunk ≡ Some h → (p : Point) → IsCoveredAt S x p → covers d h p ≡ true
  covered_there lawful x d m name h there p b =
      let same : b.owner ≡ d = one_record S lawful b.owner d b.member m (b.name ∙ sym name) in
      let hunk : b.hunk ≡ h = same_Some b.hunk h (sym b.there ∙ ap (λ (r : Record). slice_get r.change.hunks x.hunk) same ∙ there) in
      subst (λ (r : Record). covers r h p ≡ true) same (subst (λ g. covers b.owner g p ≡ true) hunk b.covered)

  pub none_there : IsLawful S → (x : HunkAt) (d : Record) → Contains S d → d.name ≡ x.change → slice_get d.change.hunks x.hunk ≡ None → (p : Point) → IsCoveredAt S x p → ⊥
  none_there lawful x d m name none p b =
      let same : b.owner ≡ d = one_record S lawful b.owner d b.member m (b.name ∙ sym name) in
      let e : Some b.hunk ≡ None = sym b.there ∙ ap (λ (r : Record). slice_get r.change.hunks x.hunk) same ∙ none in
      cc

  pub none_held : (x : HunkAt) → is_held S x.change ≡ false → (p : Point) → IsCoveredAt S x p → ⊥
  none_held x none p b = not_record S x.change none b.owner (record { member = b.member; named = b.name })

  -- by no hunk that is contested
  pub none_contested : (x : HunkAt) (test : Bool) → ((d : Record) → Contains S d → d.name ≡ x.change → (h : Hunk) → slice_get d.change.hunks x.hunk ≡ Some h → test ≡ is_hunk_contested S d h) →
      test ≡ true → (p : Point) → IsCoveredAt S x p → ⊥
  none_contested x test is so p b = (let e : true ≡ false = sym so ∙ is b.owner b.member b.name b.hunk b.there ∙ b.free in cc)

  -- by a hunk that is contested first, where all hits are listed
  pub contested_by_one : (c : Record) (hits : List HunkAt) → ((x : HunkAt) → is_hit S x c ≡ true → Contains hits x) → (p : Point) (owner : Record) → Contains S owner → (h : Hunk) → Contains owner.change.hunks h →
      covers owner h p ≡ true → is_contested_by S owner h c ≡ true → is_hunk_contested S owner h ≡ false → StandsToOne hits (IsCoveredAt S) p
  contested_by_one c hits all p owner m h n k o free =
      let at = n.0 in
      let there : slice_get owner.change.hunks at ≡ Some h = slice_get_read owner.change.hunks _ at h refl n.1 (sym n.2) in
      let x : HunkAt = record { change = owner.name; hunk = at } in
      let named = name_itself owner.name in
      let hit : is_hit S x c ≡ true = any_member (λ d. same_name d.name x.change && is_opposed S d (slice_get d.change.hunks x.hunk) c) S owner m (rw (named, there) o) in
      record { thing = x; member = all x hit; stands = record { owner = owner; member = m; name = refl; hunk = h; there = there; covered = k; free = free } }

-- ---- beside a vertex

module _ (S : List Record) (lawful : IsLawful S) (g : PointGraph) (whole : IsWhole g) (of : IsViewOf S g) (at : Point) where
  -- the vertex that has the point, where an edge leads from it
  source_there : (u v : Vertex) → Leads S u v → LiesIn at u → g.first at ≡ Some (first_point u)
  source_there u v l lies = first_there S lawful g whole of u (source_shown S lawful u v l) at lies

  -- and where one leads to it and it begins with the point
  target_there : (u v : Vertex) → Leads S u v → first_point v ≡ at → g.first at ≡ Some (first_point v)
  target_there u v l begins = first_there S lawful g whole of v (target_shown S lawful u v l) at (subst (λ p. LiesIn p v) begins (lies_first S v l.target))

  -- the view shows an edge between two vertices
  edge_shown : (u v : Vertex) → Leads S u v → Contains (g.outs (first_point u)) (first_point v)
  edge_shown u v l = (of.edges u v (source_shown S lawful u v l) (target_shown S lawful u v l)).1 l

  pub beside_shown : (v : Point) → Some v ≡ g.first at → (p : Point) → IsBesideAt S at p → Contains (g.outs v) p ⊎ (IsTrue (same_point v at) × Contains (g.ins v) p)
  beside_shown v first _ (leads_on from to l lies) =
      let same : first_point from ≡ v = same_Some (first_point from) v (sym (source_there from to l lies) ∙ sym first) in
      inl (subst (λ u. Contains (g.outs u) (first_point to)) same (edge_shown from to l))
  beside_shown v first _ (leads_here from to l begins) =
      let same : first_point to ≡ v = same_Some (first_point to) v (sym (target_there from to l begins) ∙ sym first) in
      let into : Contains (g.ins (first_point to)) (first_point from) = (whole.into (first_point from) (first_point to) (of.all from (source_shown S lawful from to l)) (edge_shown from to l)).1 in
      inr (subst (λ q. same_point v q ≡ true) (sym same ∙ begins) (same_point_itself v), subst (λ u. Contains (g.ins u) (first_point from)) same into)

  -- nothing stands beside a point of no vertex
  pub none_beside : None ≡ g.first at → (p : Point) → IsBesideAt S at p → ⊥
  none_beside first _ (leads_on from to l lies) = (let e : None ≡ Some (first_point from) = first ∙ source_there from to l lies in cc)
  none_beside first _ (leads_here from to l begins) = (let e : None ≡ Some (first_point to) = first ∙ target_there from to l begins in cc)

-- ---- all of them

-- a new cut is one of those of the change that no change of R has
pub new_listed : (R : List Record) (c : Record) (cuts new : List Point) → cuts ≡ all_cut_points c → HasAdded [] new (StandsToOne cuts (IsUncutAt R)) → (p : Point) → IsNewCut R c p → Contains new p
new_listed R c cuts new are news p n = news.added p (record { thing = p; member = moved p (sym are) n.listed; stands = (refl, n.new) })

-- what is listed as dead and new, and by what deletes or revives, is where to start
pub all_starts : (S : List Record) (c : Record) (hits : List HunkAt) → ((x : HunkAt) → is_hit S x c ≡ true → Contains hits x) → (cuts : List Point) → ((p : Point) → IsNewCut S c p → Contains cuts p) →
    (none a b points : List Point) → HasAdded none a (StandsToOne cuts (IsDeadAt S)) → HasEntries S a b (StandsToOne c.change.hunks (IsCovered c)) → HasEntries S b points (StandsToOne hits (IsCoveredAt S)) → HasStarts S c points
all_starts S c hits all cuts cut_are none a b points first second third = record {
  cuts = λ p new dead. third.kept p (second.kept p (first.added p (record { thing = p; member = cut_are p new; stands = (refl, dead) })));
  turns = by;
}
  where
    by : (p : Point) → MayTurn S c p → HasEntry S points p
    by p (covered e) = entry_stays S b points third.kept p (second.added p (touched_by_one c p e))
    by p (contested owner m h n k o free) = third.added p (contested_by_one S c hits all p owner m h n k o free)

-- ---- all of them are enough

module _ (S : List Record) (c : Record) (starts cuts : List Point) (rows : List EdgeRow) (cut_are : (p : Point) → IsNewCut S c p → Contains cuts p) (rows_are : rows ≡ rows_of c) where
  pub all_enough : (none a b near once both points : List Point) → HasAdded none a (StandsToOne starts (IsBesideAt S)) → HasAdded a b (StandsToOne cuts IsBefore) → HasAdded b near (StandsToOne rows (IsOldEnd c.name)) →
      ((p : Point) → Contains near p → Contains once p) → GoesOn (Contains cuts) starts both → HasAdded both points (StandsToOne once (IsDeadAt S)) → AreEnough S c starts points
  all_enough none a b near once both points first second third each is fourth = record {
    of_starts = λ p m. fourth.kept p (goes_kept (Contains cuts) starts both is p m);
    cut = λ p n. fourth.kept p (is.all p (cut_are p n));
    after = λ x y l q m lies dead. dead_beside q (first_point y) m (leads_on x y l lies) dead;
    before = λ x y l m dead. dead_beside (first_point y) (first_point x) m (leads_here x y l refl) dead;
    behind = λ p n dead.
        (let at : Point = record { change = p.change; offset = p.offset + 1 } in
        dead_near p (third.kept p (second.added p (record { thing = at; member = cut_are at n; stands = refl }))) dead);
    end = λ row m p is_end other dead. dead_near p (third.added p (record { thing = row; member = moved row (sym rows_are) m; stands = (is_end, other) })) dead;
  }
    where
      dead_near : (p : Point) → Contains near p → is_dead_in S p ≡ true → Contains points p
      dead_near p m dead = fourth.added p (record { thing = p; member = each p m; stands = (refl, dead) })

      dead_beside : (q p : Point) → Contains starts q → IsBesideAt S q p → is_dead_in S p ≡ true → Contains points p
      dead_beside q p m beside dead = dead_near p (third.kept p (second.kept p (first.added p (record { thing = q; member = m; stands = beside })))) dead
