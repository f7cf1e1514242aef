-- The vertex of a point of a lawful list by what stands there, and the vertices of a change one after another.
use Rattle.std.proofs.Common.{◌≡◌, ◌∙◌, sym, ap, subst, refl, ℕ, ◌+◌, ◌<◌, ◌≤◌, List, [], ◌∷◌, ◌++◌, Option, Some, None, arith, inl, inr}
use Rattle.std.specs.Prelude.{Contains, ◌⊎◌, slice_get, MatchOption}
use Rattle.std.specs.List.Sorted.{IsStrictlySortedBy}
use Rattle.std.specs.declared.cmp.Ordering.TheVariants.{Less}
use Rattle.std.specs.Ordering.{nat_cmp, ordering_then}
use Rattle.std.proofs.lemmas.Bool.{cases_lt}
use Rattle.std.proofs.lemmas.Bool.Decides.{nat_tests}
use Rattle.std.proofs.lemmas.Cmp.{tied_itself}
use Rattle.std.proofs.lemmas.List.Elements.{Contains-push, Contains-push_cases}
use Rattle.pj_name.specs.declared.name.Name.{Name}
use Rattle.pj_name.specs.Name.{name_cmp}
use Rattle.pj_name.proofs.Names.{name_cmp-total}
use Rattle.pj_change.specs.declared.point.Point.{Point}
use Rattle.pj_change.specs.declared.hunk.Hunk.{Hunk}
use Rattle.pj_change.specs.declared.kind.Kind.{Kind}
use Rattle.pj_change.specs.declared.kind.Kind.TheVariants.{NameAt, FileInode, DirInode, Text}
use Rattle.pj_change.specs.declared.graph.Vertex.{Vertex}
use Rattle.pj_change.specs.declared.graph.VertexKind.{VertexKind}
use Rattle.pj_change.specs.declared.graph.VertexKind.TheVariants as vertex_kind
use Rattle.pj_change.specs.declared.graph.Status.{Status}
use Rattle.pj_change.specs.declared.graph.Status.TheVariants.{Alive}
use Rattle.pj_change.specs.declared.change.Record.{Record}
use Rattle.pj_change.specs.Graph.{point_cmp, vertex_cmp, Lists}
use Rattle.pj_change.specs.Lawful.{IsLawful, record_of}
use Rattle.pj_change.specs.PointsIn.{IsPointOf}
use Rattle.pj_change.specs.Positions.{kind_at}
use Rattle.pj_change.specs.Status.{status_of}
use Rattle.pj_change.specs.Vertices.{IsVertexBy, name_kind, first_point}
use Rattle.pj_change.proofs.KindLemmas.{none_past}
use Rattle.pj_change.proofs.LawfulLists.{first_part, not_record, one_record, set_of}
use Rattle.pj_change.proofs.Members.{no_member}
use Rattle.pj_change.proofs.OneVertex.{by_any, nonempty, one_vertex}
use Rattle.pj_change.proofs.VertexOfPoint.{vertex_of}
use Rattle.pj_apply.proofs.Distinct.{record_is, record_none}
use Rattle.pj_tree.proofs.Naming.{sorted_push}
use Rattle.pj_tables.specs.TextAt.{IsTextAt}
use Rattle.pj_tables.specs.VerticesIn.{IsVertexIn, IsVertexOfPoint}

-- ---- the vertex of a point

-- one position with this kind and status
abbrev pub one_position : Point → VertexKind → Status → Vertex
one_position p kind status = record { change = p.change; start = p.offset; end = p.offset + 1; kind = kind; status = status }

-- where no change has its name, no vertex has the point
pub none_held : (S : List Record) (p : Point) → record_of S p.change ≡ None → (v : Vertex) → IsVertexOfPoint S p v → ⊥
none_held S p none v i =
    not_record S p.change (record_none S p.change none) i.vertex.owner (record { member = i.vertex.member; named = i.vertex.name ∙ i.lies.change })

module _ (S : List Record) (lawful : IsLawful S) (p : Point) (o : Record) (found : record_of S p.change ≡ Some o) where
  owner_is : (v : Vertex) (i : IsVertexOfPoint S p v) → i.vertex.owner ≡ o
  owner_is v i =
      let held = record_is S p.change o found in
      one_record S lawful i.vertex.owner o i.vertex.member held.member (i.vertex.name ∙ i.lies.change ∙ sym held.named)

  -- what stands at the point is what stands where its vertex begins
  stands : (v : Vertex) (i : IsVertexOfPoint S p v) → kind_at o.change.hunks p.offset ≡ kind_at o.change.hunks v.start
  stands v i =
      subst (λ (r : Record). kind_at r.change.hunks p.offset ≡ kind_at r.change.hunks v.start) (owner_is v i)
      (by_any S i.vertex.owner v p.offset (record { low = i.lies.low; high = i.lies.high }) (kind_at i.vertex.owner.change.hunks v.start) refl i.vertex.is)

  by_owner : (v : Vertex) (i : IsVertexOfPoint S p v) (k : Option Kind) → kind_at o.change.hunks p.offset ≡ k → IsVertexBy S o v k
  by_owner v i k e =
      subst (IsVertexBy S o v) (sym (stands v i) ∙ e)
      (subst (λ (r : Record). IsVertexBy S r v (kind_at r.change.hunks v.start)) (owner_is v i) i.vertex.is)

  -- where nothing stands, no vertex is
  pub none_there : kind_at o.change.hunks p.offset ≡ None → (v : Vertex) → IsVertexOfPoint S p v → ⊥
  none_there none v i = by_owner v i None none

  -- where text stands, a vertex is one of text
  text_there : (hunk first past : ℕ) → kind_at o.change.hunks p.offset ≡ Some (Text hunk first past) → (v : Vertex) → IsVertexOfPoint S p v → IsTextAt S p v
  text_there hunk first past e v i = record { vertex = i.vertex; text = (by_owner v i (Some (Text hunk first past)) e).1; lies = i.lies }

  single : (kind : Kind) → kind_at o.change.hunks p.offset ≡ Some kind → (v : Vertex) → v.change ≡ p.change → v.start ≡ p.offset → v.end ≡ p.offset + 1 → IsVertexBy S o v (Some kind) → IsVertexOfPoint S p v
  single kind e v change start end is =
      let held = record_is S p.change o found in
      record {
        vertex = record { owner = o; member = held.member; name = held.named ∙ sym change; is = subst (IsVertexBy S o v) (sym (ap (kind_at o.change.hunks) start ∙ e)) is };
        lies = record { change = change; low = omega (arith, start); high = omega (arith, end) };
      }

  pub name_there : (hunk : ℕ) (h : Hunk) (kind : VertexKind) (status : Status) → kind_at o.change.hunks p.offset ≡ Some (NameAt hunk) → slice_get o.change.hunks hunk ≡ Some h →
      kind ≡ name_kind (Some h) → status ≡ status_of S p → IsVertexOfPoint S p (one_position p kind status)
  name_there hunk h kind status e made same told = single (NameAt hunk) e (one_position p kind status) refl refl refl (refl, same ∙ ap name_kind (sym made), told)

  pub file_there : (hunk : ℕ) → kind_at o.change.hunks p.offset ≡ Some (FileInode hunk) → IsVertexOfPoint S p (one_position p vertex_kind.File Alive)
  file_there hunk e = single (FileInode hunk) e (one_position p vertex_kind.File Alive) refl refl refl (refl, refl, refl)

  pub dir_there : (hunk : ℕ) → kind_at o.change.hunks p.offset ≡ Some (DirInode hunk) → IsVertexOfPoint S p (one_position p vertex_kind.Dir Alive)
  dir_there hunk e = single (DirInode hunk) e (one_position p vertex_kind.Dir Alive) refl refl refl (refl, refl, refl)

  -- where text stands, the vertex is the one of text
  pub text_or_none : (hunk first past : ℕ) → kind_at o.change.hunks p.offset ≡ Some (Text hunk first past) → (r : Option Vertex) →
      MatchOption r ((v : Vertex) → IsTextAt S p v → ⊥) (IsTextAt S p) → MatchOption r ((v : Vertex) → IsVertexOfPoint S p v → ⊥) (IsVertexOfPoint S p)
  text_or_none hunk first past e None none = λ v i. none v (text_there hunk first past e v i)
  text_or_none hunk first past e (Some v) t = record { vertex = t.vertex; lies = t.lies }

-- ---- the vertices of a change

-- the vertices of the change that begin before a position, none of which goes on past it
pub record AreUpto (S : List Record) (n : Name) (upto : ℕ) (vs : List Vertex) : Type 0 where
  pub sorted : IsStrictlySortedBy vertex_cmp vs
  pub only : (v : Vertex) → Contains vs v → IsVertexIn S n v × (v.end ≤ upto)
  pub all : (v : Vertex) → IsVertexIn S n v → v.start < upto → Contains vs v

-- of two points of a change the one with the lower position comes first
earlier : (p q : Point) → p.change ≡ q.change → p.offset < q.offset → point_cmp p q ≡ Less
earlier p q named low =
    let less : nat_cmp p.offset q.offset ≡ Less = grind (arith, nat_tests) in
    ap (λ c. ordering_then c (nat_cmp p.offset q.offset)) (ap (name_cmp p.change) (sym named) ∙ tied_itself name_cmp-total p.change) ∙ less

abbrev at : Name → ℕ → Point
at n o = record { change = n; offset = o }

module _ (S : List Record) (lawful : IsLawful S) (n : Name) where
  pub none_yet : AreUpto S n 0 []
  unfolding IsStrictlySortedBy
  none_yet = record { sorted = tt; only = λ v m. absurd (no_member v m); all = λ v i low. absurd (omega arith) }

  module _ (upto : ℕ) (vs : List Vertex) (so_far : AreUpto S n upto vs) where
    -- the vertex that has the position begins there
    begins_there : (w : Vertex) → IsVertexOfPoint S (at n upto) w → w.start ≡ upto
    begins_there w i = by (cases_lt w.start upto)
      where
        by : (w.start < upto) ⊎ (upto ≤ w.start) → w.start ≡ upto
        by (inl low) = absurd (let end = (so_far.only w (so_far.all w (record { vertex = i.vertex; named = i.lies.change }) low)).1 in let high = i.lies.high in omega arith)
        by (inr high) = (let low = i.lies.low in omega arith)

    below : (w : Vertex) → IsVertexOfPoint S (at n upto) w → (v : Vertex) → Contains vs v → vertex_cmp v w ≡ Less
    below w i v m =
        let o = so_far.only v m in
        let low : v.start < w.start = let some = nonempty S v o.0.vertex in let end = o.1 in omega (arith, some, end, begins_there w i) in
        earlier (first_point v) (first_point w) (o.0.named ∙ sym i.lies.change) low

    pub one_more : (w : Vertex) → IsVertexOfPoint S (at n upto) w → AreUpto S n w.end (vs ++ w ∷ [])
    one_more w i = record {
      sorted = sorted_push vertex_cmp vs w so_far.sorted (below w i);
      only = λ v m. elim (Contains-push_cases vs w v m) [
        | inl before ↦ (let o = so_far.only v before in (o.0, (let end = o.1 in let high = i.lies.high in omega arith)))
        | inr same ↦ subst (λ x. IsVertexIn S n x × (x.end ≤ w.end)) same (record { vertex = i.vertex; named = i.lies.change }, omega arith)
      ];
      all = λ v k low. elim (cases_lt v.start upto) [
        | inl before ↦ first_part vs (w ∷ []) v (so_far.all v k before)
        | inr later ↦ subst (Contains (vs ++ w ∷ [])) (here v k low later) (Contains-push vs w)
      ];
    }
      where
        here : (v : Vertex) → IsVertexIn S n v → v.start < w.end → upto ≤ v.start → w ≡ v
        here v k low later =
            one_vertex S (set_of S lawful) w v i.vertex k.vertex (i.lies.change ∙ sym k.named) v.start
            (record { low = omega (arith, begins_there w i, later); high = low })
            (record { low = omega arith; high = nonempty S v k.vertex })

    -- where no vertex has the position, all are there
    pub all_there : ((v : Vertex) → IsVertexOfPoint S (at n upto) v → ⊥) → Lists vertex_cmp (IsVertexIn S n) vs
    all_there none = record { sorted = so_far.sorted; only = λ v m. (so_far.only v m).0; all = λ v k. by v k (cases_lt v.start upto) }
      where
        -- what stands at a later position stands at no end of its change
        point_there : (v : Vertex) (k : IsVertexIn S n v) → upto ≤ v.start → IsPointOf S (at n upto)
        point_there v k later = by (kind_at k.vertex.owner.change.hunks upto) refl
          where
            by : (o : Option Kind) → kind_at k.vertex.owner.change.hunks upto ≡ o → IsPointOf S (at n upto)
            by (Some kind) e = record { owner = k.vertex.owner; member = k.vertex.member; name = k.vertex.name ∙ k.named; kind = kind; there = e }
            by None e =
                let past = (none_past k.vertex.owner.change.hunks upto).0 e in
                let gone : kind_at k.vertex.owner.change.hunks v.start ≡ None = (none_past k.vertex.owner.change.hunks v.start).1 (omega (arith, past, later)) in
                absurd (subst (IsVertexBy S k.vertex.owner v) gone k.vertex.is)

        by : (v : Vertex) → IsVertexIn S n v → (v.start < upto) ⊎ (upto ≤ v.start) → Contains vs v
        by v k (inl low) = so_far.all v k low
        by v k (inr later) = (let w = vertex_of S (at n upto) (point_there v k later) in absurd (none w.it (record { vertex = w.is; lies = w.lies })))
