-- Where things stand for things, dead for dead, and the steps at dead things for steps, so do dead paths, connected sets, least members and rows.
use Rattle.std.proofs.Common.{◌≡◌, sym, ◌∙◌, inl, inr}
use Rattle.std.specs.declared.cmp.Ordering.{Ordering}
use Rattle.pj_change.specs.DeadSets.{IsDeadPath, here, on, IsEitherWay, AreConnected, IsLeastMember, IsAcrossSet, IsRowAcross}
use Rattle.pj_change.proofs.DeadPaths.{end_dead, start_dead}

-- dead things stand for dead things, and each step at a dead thing for a step at what stands for that
pub record Carries {X Y : Type 0} (Is : X → Y → Type 0) (Step : X → X → Type 0) (Dead : X → Type 0) (Step' : Y → Y → Type 0) (Dead' : Y → Type 0) : Type 0 where
  pub dead : (u : X) (u' : Y) → Is u u' → Dead u → Dead' u'
  pub ahead : (u v : X) (u' : Y) → Is u u' → Dead u → Step u v → (v' : Y) × Is v v' × Step' u' v'
  pub back : (u v : X) (v' : Y) → Is v v' → Dead v → Step u v → (u' : Y) × Is u u' × Step' u' v'

-- seen from the other side
abbrev pub flipped : {X Y : Type 0} → (X → Y → Type 0) → Y → X → Type 0
flipped Is y x = Is x y

module _ {X Y : Type 0} (Is : X → Y → Type 0) (Step : X → X → Type 0) (Dead : X → Type 0) (Step' : Y → Y → Type 0) (Dead' : Y → Type 0) where
  -- dead paths stand for dead paths
  pub path_carried : Carries Is Step Dead Step' Dead' → {u v : X} → IsDeadPath Step Dead u v → (u' : Y) → Is u u' → (v' : Y) × Is v v' × IsDeadPath Step' Dead' u' v'
  path_carried c {u} (here d) u' i = (u', i, here (c.dead u u' i d))
  path_carried c (on {v} {w} p s d) u' i =
      let q = path_carried c p u' i in
      let t = c.ahead v w q.0 q.1 (end_dead p) s in
      (t.0, t.1, on q.2 t.2 (c.dead w t.0 t.1 d))

  -- steps either way stand for steps either way
  pub either_carried : Carries Is Step Dead Step' Dead' → Carries Is (IsEitherWay Step) Dead (IsEitherWay Step') Dead'
  either_carried c = record { dead = c.dead; ahead = ahead; back = back }
    where
      ahead : (u v : X) (u' : Y) → Is u u' → Dead u → IsEitherWay Step u v → (v' : Y) × Is v v' × IsEitherWay Step' u' v'
      ahead u v u' i d (inl s) = (let t = c.ahead u v u' i d s in (t.0, t.1, inl t.2))
      ahead u v u' i d (inr s) = (let t = c.back v u u' i d s in (t.0, t.1, inr t.2))

      back : (u v : X) (v' : Y) → Is v v' → Dead v → IsEitherWay Step u v → (u' : Y) × Is u u' × IsEitherWay Step' u' v'
      back u v v' i d (inl s) = (let t = c.back u v v' i d s in (t.0, t.1, inl t.2))
      back u v v' i d (inr s) = (let t = c.ahead v u v' i d s in (t.0, t.1, inr t.2))

-- connected sets stand for connected sets
pub connected_carried : {X Y : Type 0} (Is : X → Y → Type 0) (Step : X → X → Type 0) (Dead : X → Type 0) (Step' : Y → Y → Type 0) (Dead' : Y → Type 0) →
    Carries Is Step Dead Step' Dead' → {u v : X} → AreConnected Step Dead u v → (u' : Y) → Is u u' → (v' : Y) × Is v v' × AreConnected Step' Dead' u' v'
connected_carried Is Step Dead Step' Dead' c = path_carried Is (IsEitherWay Step) Dead (IsEitherWay Step') Dead' (either_carried Is Step Dead Step' Dead' c)

-- where this goes both ways, and the things that stand for things have their order
module _ {X Y : Type 0} (Is : X → Y → Type 0) (Step : X → X → Type 0) (Dead : X → Type 0) (Step' : Y → Y → Type 0) (Dead' : Y → Type 0)
    (there : Carries Is Step Dead Step' Dead') (again : Carries (flipped Is) Step' Dead' Step Dead)
    (cmp : X → X → Ordering) (cmp' : Y → Y → Ordering) (order : (u v : X) (u' v' : Y) → Is u u' → Is v v' → cmp u v ≡ cmp' u' v') where
  -- least members stand for least members
  pub least_carried : {u least : X} → IsLeastMember Step Dead cmp u least → (u' : Y) → Is u u' → (least' : Y) × Is least least' × IsLeastMember Step' Dead' cmp' u' least'
  least_carried {u} {least} l u' i =
      let m = connected_carried Is Step Dead Step' Dead' there l.member u' i in (
        m.0,
        m.1,
        record {
          member = m.2;
          below = λ v' p e. (let q = connected_carried (flipped Is) Step' Dead' Step Dead again p u i in l.below q.0 q.2 (order q.0 least v' m.0 q.1 m.1 ∙ e));
        },
      )

  -- what a set leads across stands for what a set leads across
  pub set_carried : {least u v : X} → (a : IsAcrossSet Step Dead cmp least u v) → (first' : Y) → Is a.first first' →
      (least' u' v' : Y) × Is least least' × Is u u' × Is v v' × IsAcrossSet Step' Dead' cmp' least' u' v'
  set_carried {least} {u} {v} a first' i =
      let from = there.back u a.first first' i (start_dead a.dead) a.enters in
      let path = path_carried Is Step Dead Step' Dead' there a.dead first' i in
      let to = there.ahead a.last v path.0 path.1 (end_dead a.dead) a.leaves in
      let m = least_carried a.least_is first' i in (
        m.0,
        from.0,
        to.0,
        m.1,
        from.1,
        to.1,
        record { first = first'; last = path.0; enters = from.2; dead = path.2; leaves = to.2; least_is = m.2 },
      )

  -- where they have the same points, and may begin and end rows alike
  module _ {P : Type 0} (Source Target : X → Type 0) (Source' Target' : Y → Type 0) (first_of last_of : X → P) (first_of' last_of' : Y → P)
      (source_there : (u : X) (u' : Y) → Is u u' → Source u → Source' u') (target_there : (v : X) (v' : Y) → Is v v' → Target v → Target' v')
      (same_first : (u : X) (u' : Y) → Is u u' → first_of u ≡ first_of' u') (same_last : (u : X) (u' : Y) → Is u u' → last_of u ≡ last_of' u') where
    -- the rows are the same
    pub row_carried : {least source target : P} → (r : IsRowAcross (IsAcrossSet Step Dead cmp) Source Target first_of last_of least source target) →
        (first' : Y) → Is r.across.first first' → IsRowAcross (IsAcrossSet Step' Dead' cmp') Source' Target' first_of' last_of' least source target
    row_carried r first' i =
        let a = set_carried r.across first' i in
        record {
          lowest = a.0;
          from = a.1;
          to = a.2;
          from_source = source_there r.from a.1 a.4 r.from_source;
          to_target = target_there r.to a.2 a.5 r.to_target;
          across = a.6;
          least_is = sym (same_first r.lowest a.0 a.3) ∙ r.least_is;
          source_is = sym (same_last r.from a.1 a.4) ∙ r.source_is;
          target_is = sym (same_first r.to a.2 a.5) ∙ r.target_is;
        }
