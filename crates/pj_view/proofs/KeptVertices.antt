-- A change more keeps each dead vertex in which no touch point lies.
use Rattle.std.proofs.Common.{◌≡◌, ◌∙◌, sym, ap, subst, refl, ◌+◌, ◌-◌, ℕ, Bool, true, false, List, inl, inr, arith}
use Rattle.std.specs.Prelude.{◌≢◌, ◌&&◌, Contains}
use Rattle.std.proofs.lemmas.Bool.{and_parts, cases_lt}
use Rattle.pj_change.specs.declared.point.Point.{Point}
use Rattle.pj_change.specs.declared.hunk.Hunk.{Hunk}
use Rattle.pj_change.specs.declared.hunk.Hunk.TheVariants.{File, Dir, NameOf, Insert, Order, Delete, Revive}
use Rattle.pj_change.specs.declared.graph.Status.{Status}
use Rattle.pj_change.specs.declared.graph.Status.TheVariants.{Alive, Dead, Zombie}
use Rattle.pj_change.specs.declared.graph.Vertex.{Vertex}
use Rattle.pj_change.specs.declared.graph.VertexKind.TheVariants as vertex_kind
use Rattle.pj_change.specs.declared.change.Record.{Record}
use Rattle.pj_change.specs.Before.{IsDeadText}
use Rattle.pj_change.specs.Covers.{covers, deletes, is_delete}
use Rattle.pj_change.specs.Lawful.{IsLawful}
use Rattle.pj_change.specs.PointsIn.{IsPointOf, LiesIn}
use Rattle.pj_change.specs.Positions.{numbered}
use Rattle.pj_change.specs.Status.{status_of}
use Rattle.pj_change.specs.Versions.{deletion_survives, survives}
use Rattle.pj_change.specs.Vertices.{IsVertex, first_point, last_point}
use Rattle.pj_change.proofs.EqualNames.{same_name_is}
use Rattle.pj_change.proofs.LawfulLists.{set_of}
use Rattle.pj_change.proofs.Members.{passes}
use Rattle.pj_change.proofs.OneVertex.{nonempty}
use Rattle.pj_change.proofs.Statuses.{vertex_status}
use Rattle.pj_change.proofs.VertexOfPoint.{vertex_of, point_of_vertex}
use Rattle.pj_view.specs.Touched.{HasOneMore, IsNewCut, is_dead, is_dead_in, IsTouchPoint, itself, cut_behind}
use Rattle.pj_view.proofs.FinerVertices.{finer}
use Rattle.pj_view.proofs.StatusKept.{not_new}
use Rattle.pj_view.proofs.ViewPoints.{lies_first, lies_last}

-- ---- the points of a vertex

-- what lies in one of two vertices with one range lies in the other
within : (p : Point) (v w : Vertex) → v.change ≡ w.change → v.start ≡ w.start → v.end ≡ w.end → LiesIn p w → LiesIn p v
within p v w change start end l = (let low = l.low in let high = l.high in record { change = change ∙ l.change; low = omega (arith, low, start); high = omega (arith, high, end) })

-- ---- statuses

-- what cannot be different is the same
pub stable : (a b : Bool) → (a ≢ b → ⊥) → a ≡ b
stable true true n = refl
stable true false n = absurd (n (λ e. cc))
stable false true n = absurd (n (λ e. cc))
stable false false n = refl

-- what is dead has that status
pub dead_is : (s : Status) → is_dead s ≡ true → s ≡ Dead
dead_is Alive e = absurd (cc)
dead_is Dead e = refl
dead_is Zombie e = absurd (cc)

module _ (S : List Record) (lawful : IsLawful S) (v : Vertex) (is : IsVertex S v) where
  -- each point of a vertex is dead where its status is
  pub dead_in : (p : Point) → LiesIn p v → is_dead_in S p ≡ is_dead v.status
  dead_in p l = (let low = l.low in let high = l.high in
      ap is_dead (ap (λ n. status_of S (record { change = n; offset = p.offset })) (sym l.change) ∙ vertex_status S (set_of S lawful) v is p.offset low high))

  -- so text is dead where one of its points is
  pub dead_text : v.kind ≡ vertex_kind.Text → (p : Point) → LiesIn p v → is_dead_in S p ≡ true → IsDeadText S v
  dead_text text p l e = record { vertex = is; text = text; dead = dead_is v.status (sym (dead_in p l) ∙ e) }

-- and a point of dead text is dead
pub text_dead : (S : List Record) → IsLawful S → (v : Vertex) → IsDeadText S v → (p : Point) → LiesIn p v → is_dead_in S p ≡ true
text_dead S lawful v d p l = dead_in S lawful v d.vertex p l ∙ ap is_dead d.dead

-- some deletion of a dead point survives
dead_deleted : (S : List Record) (p : Point) → is_dead_in S p ≡ true → deletion_survives S p ≡ true
unfolding status_of
dead_deleted S p e = by (deletion_survives S p) refl
  where
    by : (b : Bool) → deletion_survives S p ≡ b → deletion_survives S p ≡ true
    by true f = f
    by false f = absurd (let k : false ≡ true = rw f at e in cc)

-- a hunk that covers a point numbers the change of the point
covers_owner : (d : Record) (h : Hunk) (p : Point) → covers d h p ≡ true → (owner : ℕ) × (numbered d owner ≡ p.change)
covers_owner d (File parent name exec) p e = absurd (cc)
covers_owner d (Dir parent name) p e = absurd (cc)
covers_owner d (NameOf parent child name exec) p e = absurd (cc)
covers_owner d (Insert file ups downs bytes) p e = absurd (cc)
covers_owner d (Order file source target) p e = absurd (cc)
covers_owner d (Delete owner start end by) p e = (owner, same_name_is (numbered d owner) p.change (and_parts _ _ (and_parts _ _ e).0).0)
covers_owner d (Revive owner start end by) p e = (owner, same_name_is (numbered d owner) p.change (and_parts _ _ (and_parts _ _ e).0).0)

module _ (S T : List Record) (c : Record) (more : HasOneMore S T c) (before : IsLawful S) where
  -- no point of the new change is dead in S
  pub new_alive : (p : Point) → p.change ≡ c.name → is_dead_in S p ≡ true → ⊥
  new_alive p named e =
      let d = passes (λ d. deletes d p && survives S d.name p) S (dead_deleted S p e) in
      let h = passes (λ h. is_delete h && covers d.it h p) d.it.change.hunks (and_parts (deletes d.it p) (survives S d.it.name p) d.is).0 in
      let o = covers_owner d.it h.it p (and_parts (is_delete h.it) (covers d.it h.it p) h.is).1 in
      let new : numbered d.it o.0 ≡ c.name = o.1 ∙ named in
      not_new S T c more before d.it d.member o.0 new

-- ---- one vertex of two lists

module _ (S T : List Record) (c : Record) where
  -- a vertex of S and one of T with the same points, both dead text, at whose ends no touch point is
  pub record AreOne (v w : Vertex) : Type 0 where
    pub was : IsDeadText S v
    pub is : IsDeadText T w
    pub first : first_point v ≡ first_point w
    pub last : last_point v ≡ last_point w
    pub quiet_first : IsTouchPoint S T c (first_point w) → ⊥
    pub quiet_last : IsTouchPoint S T c (last_point w) → ⊥

  -- no touch point lies in the vertex
  abbrev pub IsQuiet : Vertex → Type 0
  IsQuiet v = (p : Point) → IsTouchPoint S T c p → LiesIn p v → ⊥

-- each point of before is one of now
pub point_kept : (S T : List Record) (c : Record) → HasOneMore S T c → (p : Point) → IsPointOf S p → IsPointOf T p
point_kept S T c more p h = record { owner = h.owner; member = more.kept h.owner h.member; name = h.name; kind = h.kind; there = h.there }

module _ (S T : List Record) (c : Record) (more : HasOneMore S T c) (before : IsLawful S) (lawful : IsLawful T) where
  -- the last point of a dead vertex of T is a touch point where c cuts behind it
  cut_last : (w : Vertex) → IsDeadText T w → IsNewCut S c (record { change = w.change; offset = w.end }) → IsTouchPoint S T c (last_point w)
  cut_last w d m =
      let some = nonempty T w d.vertex in
      let end : w.end ≡ w.end - 1 + 1 = omega arith in
      cut_behind (subst (λ n. IsNewCut S c (record { change = w.change; offset = n })) end m) (text_dead T lawful w d (last_point w) (lies_last T w d.vertex))

  -- vertices of dead text with one range are one, where the one of T is quiet
  together : (v w : Vertex) → IsDeadText S v → IsDeadText T w → v.change ≡ w.change → v.start ≡ w.start → v.end ≡ w.end → IsQuiet S T c w → AreOne S T c v w
  together v w a b change start end quiet =
      let last : v.end - 1 ≡ w.end - 1 = ap (λ n. n - 1) end in
      record {
        was = a;
        is = b;
        first = λ i. record { change = change i; offset = start i };
        last = λ i. record { change = change i; offset = last i };
        quiet_first = λ t. quiet (first_point w) t (lies_first T w b.vertex);
        quiet_last = λ t. quiet (last_point w) t (lies_last T w b.vertex);
      }

  -- dead text of before in which no touch point lies is one of now
  pub kept_there : (v : Vertex) → IsDeadText S v → IsQuiet S T c v → (w : Vertex) × AreOne S T c v w
  kept_there v a quiet =
      let k = vertex_of T (first_point v) (point_kept S T c more (first_point v) (point_of_vertex S (first_point v) v a.vertex (lies_first S v a.vertex))) in
      let w = k.it in
      let f = finer S T c more v w (first_point v) (lies_first S v a.vertex) k.lies lawful a.vertex k.is in
      let some = nonempty T w k.is in
      let low = f.low in
      let high = f.high in
      let from = k.lies.low in
      let start : v.start ≡ w.start = omega arith in
      let first : LiesIn (first_point w) v = record { change = f.change; low = low; high = omega arith } in
      let last : LiesIn (last_point w) v = record { change = f.change; low = omega arith; high = omega arith } in
      let alike : is_dead_in S (first_point w) ≡ is_dead_in T (first_point w) = stable _ _ (λ n. quiet (first_point w) (itself w k.is (inl n)) first) in
      let dead : IsDeadText T w = dead_text T lawful w k.is (sym f.kind ∙ a.text) (first_point w) (lies_first T w k.is) (sym alike ∙ text_dead S before v a (first_point w) first) in
      let end : v.end ≡ w.end = elim (cases_lt w.end v.end) [
        | inl l ↦ absurd (quiet (last_point w) (cut_last w dead (f.ends l)) last)
        | inr l ↦ omega arith
      ] in
      (w, together v w a dead f.change start end (λ p t l. quiet p t (within p v w f.change start end l)))

  -- and dead text of now is one of before
  pub kept_back : (w : Vertex) → IsDeadText T w → IsQuiet S T c w → (v : Vertex) × AreOne S T c v w
  kept_back w b quiet =
      let first = lies_first T w b.vertex in
      let alike : is_dead_in S (first_point w) ≡ is_dead_in T (first_point w) = stable _ _ (λ n. quiet (first_point w) (itself w b.vertex (inl n)) first) in
      let now : is_dead_in T (first_point w) ≡ true = text_dead T lawful w b (first_point w) first in
      let h = point_of_vertex T (first_point w) w b.vertex first in
      let member : Contains S h.owner = elim (more.only h.owner h.member) [
        | inl m ↦ m
        | inr s ↦ absurd (new_alive S T c more before (first_point w) (sym h.name ∙ ap (λ (r : Record). r.name) s) (alike ∙ now))
      ] in
      let k = vertex_of S (first_point w) (record { owner = h.owner; member = member; name = h.name; kind = h.kind; there = h.there }) in
      let v = k.it in
      let f = finer S T c more v w (first_point w) k.lies first lawful k.is b.vertex in
      let low = f.low in
      let high = f.high in
      let start : v.start ≡ w.start = elim (cases_lt v.start w.start) [
        | inl l ↦ absurd (quiet (first_point w) (itself w b.vertex (inr (f.begins l, now))) first)
        | inr l ↦ omega arith
      ] in
      let end : v.end ≡ w.end = elim (cases_lt w.end v.end) [
        | inl l ↦ absurd (quiet (last_point w) (cut_last w b (f.ends l)) (lies_last T w b.vertex))
        | inr l ↦ omega arith
      ] in
      (v, together v w (dead_text S before v k.is (f.kind ∙ b.text) (first_point w) k.lies (alike ∙ now)) b f.change start end quiet)
