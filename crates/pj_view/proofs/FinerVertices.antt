-- With a change more a vertex lies in one of before, and where it is smaller, the new change cuts.
use Rattle.std.proofs.Common.{◌≡◌, ◌∙◌, sym, ap, subst, refl, ℕ, ◌<◌, ◌≤◌, Bool, true, false, List, [], ◌∷◌, inl, inr, arith}
use Rattle.std.specs.Prelude.{◌⊎◌, Contains, Option, Some, None}
use Rattle.std.specs.List.{list_any}
use Rattle.std.proofs.lemmas.Bool.{cases_lt}
use Rattle.std.proofs.lemmas.List.Sums.{sum_by-cons}
use Rattle.pj_change.specs.declared.point.Point.{Point}
use Rattle.pj_change.specs.declared.kind.Kind.{Kind}
use Rattle.pj_change.specs.declared.kind.Kind.TheVariants.{NameAt, FileInode, DirInode, Text}
use Rattle.pj_change.specs.declared.graph.Status.{Status}
use Rattle.pj_change.specs.declared.graph.Vertex.{Vertex}
use Rattle.pj_change.specs.declared.graph.VertexKind.{VertexKind}
use Rattle.pj_change.specs.declared.change.Record.{Record}
use Rattle.pj_change.specs.CutCounts.{cuts_by}
use Rattle.pj_change.specs.Lawful.{IsLawful}
use Rattle.pj_change.specs.PointsIn.{LiesIn}
use Rattle.pj_change.specs.Positions.{kind_at, same_point}
use Rattle.pj_change.specs.Vertices.{is_cut, cuts, IsRun, IsSingle, IsVertexBy, IsVertex, first_point}
use Rattle.pj_change.proofs.Blocks.{block_starts}
use Rattle.pj_change.proofs.CountedCuts.{cut_where_counted}
use Rattle.pj_change.proofs.Counting.{positive_count, from_one}
use Rattle.pj_change.proofs.EqualNames.{same_point_is}
use Rattle.pj_change.proofs.LawfulLists.{one_record}
use Rattle.pj_change.proofs.Members.{any_member, passes, first_member, same_member}
use Rattle.pj_change.proofs.OneVertex.{by_any}
use Rattle.pj_cuts.specs.CutsOf.{all_cut_points}
use Rattle.pj_view.specs.Touched.{HasOneMore, IsNewCut}

-- ---- cuts

-- a change cuts before no point but those that it lists
cut_listed : (c : Record) (p : Point) → list_any (cuts c p) c.change.hunks ≡ true → Contains (all_cut_points c) p
cut_listed c p e =
    let cut : is_cut (c ∷ []) p ≡ true = any_member (λ r. list_any (cuts r p) r.change.hunks) (c ∷ []) c (first_member c []) e in
    let counted = (cut_where_counted (c ∷ []) p).0 cut in
    let some = from_one (cuts_by c p) (list_any (λ q. same_point q p) (all_cut_points c)) (positive_count (λ q. same_point q p) (all_cut_points c))
    (omega (arith, counted, sum_by-cons (λ (r : Record). cuts_by r p) c [])) in
    let k = passes (λ q. same_point q p) (all_cut_points c) some in
    same_member (all_cut_points c) (same_point_is k.it p k.is) k.member

module _ (S T : List Record) (c : Record) (more : HasOneMore S T c) where
  abbrev cuts_at : Point → Record → Bool
  cuts_at p r = list_any (cuts r p) r.change.hunks

  -- the cuts of before stay
  pub cut_kept : (p : Point) → is_cut S p ≡ true → is_cut T p ≡ true
  cut_kept p e = (let k = passes (cuts_at p) S e in any_member (cuts_at p) T k.it (more.kept k.it k.member) k.is)

  -- and all others are new ones
  pub cut_from : (p : Point) → is_cut T p ≡ true → (is_cut S p ≡ true) ⊎ IsNewCut S c p
  cut_from p e = by (is_cut S p) refl
    where
      by : (b : Bool) → is_cut S p ≡ b → (is_cut S p ≡ true) ⊎ IsNewCut S c p
      by true f = inl f
      by false f =
          let k = passes (cuts_at p) T e in
          elim (more.only k.it k.member) [
            | inl m ↦ inl (any_member (cuts_at p) S k.it m k.is)
            | inr s ↦ inr (record { listed = cut_listed c p (subst (λ r. cuts_at p r ≡ true) s k.is); new = f })
          ]

-- ---- vertices

-- the second vertex lies in the first one, and where it begins later or ends earlier, c cuts
pub record IsFiner (S : List Record) (c : Record) (x y : Vertex) : Type 0 where
  pub change : x.change ≡ y.change
  pub kind : x.kind ≡ y.kind
  pub low : x.start ≤ y.start
  pub high : y.end ≤ x.end
  pub begins : x.start < y.start → IsNewCut S c (first_point y)
  pub ends : y.end < x.end → IsNewCut S c (record { change = y.change; offset = y.end })

clash : (b : Bool) → b ≡ true → b ≡ false → ⊥
clash b e f = (let k : true ≡ false = sym e ∙ f in cc)

not_above : (m n : ℕ) → (n < m → ⊥) → m ≤ n
not_above m n h = elim (cases_lt n m) [ inl l ↦ absurd (h l) | inr l ↦ l ]

module _ (S T : List Record) (c : Record) (more : HasOneMore S T c) (x y : Vertex) (p : Point) (in_x : LiesIn p x) (in_y : LiesIn p y) where
  change : x.change ≡ y.change
  change = in_x.change ∙ sym in_y.change

  single : (kind : VertexKind) (old new : Status) → IsSingle x kind old → IsSingle y kind new → IsFiner S c x y
  single kind old new a b =
      let x_end = a.0 in
      let y_end = b.0 in
      let x_low = in_x.low in
      let x_high = in_x.high in
      let y_low = in_y.low in
      let y_high = in_y.high in
      record { change = change; kind = a.1 ∙ sym b.1; low = omega arith; high = omega arith; begins = λ l. absurd (omega arith); ends = λ l. absurd (omega arith) }

  module _ (first past : ℕ) (a : IsRun S x first past) (b : IsRun T y first past) (x_low : first ≤ x.start) (y_low : first ≤ y.start) where
    cut_in_y : (k : ℕ) → y.start < k → k < y.end → is_cut T (record { change = x.change; offset = k }) ≡ true → ⊥
    cut_in_y k l h e = clash (is_cut T (record { change = y.change; offset = k })) (ap (λ n. is_cut T (record { change = n; offset = k })) (sym change) ∙ e) (b.uncut k l h)

    cut_in_x : (k : ℕ) → x.start < k → k < x.end → is_cut S (record { change = y.change; offset = k }) ≡ true → ⊥
    cut_in_x k l h e = clash (is_cut S (record { change = x.change; offset = k })) (ap (λ n. is_cut S (record { change = n; offset = k })) change ∙ e) (a.uncut k l h)

    not_earlier : y.start < x.start → ⊥
    not_earlier l = elim a.from [
      | inl first_is ↦ omega arith
      | inr cut ↦ (
          let low = in_x.low in
          let high = in_y.high in
          cut_in_y x.start l (omega arith) (cut_kept S T c more (first_point x) cut))
    ]

    not_longer : x.end < y.end → ⊥
    not_longer l = elim a.upto [
      | inl past_is ↦ (let inside = b.inside in omega arith)
      | inr cut ↦ (
          let low = in_y.low in
          let high = in_x.high in
          cut_in_y x.end (omega arith) l (cut_kept S T c more (record { change = x.change; offset = x.end }) cut))
    ]

    begins : x.start < y.start → IsNewCut S c (first_point y)
    begins l = elim b.from [
      | inl first_is ↦ absurd (omega arith)
      | inr cut ↦ elim (cut_from S T c more (first_point y) cut) [
        | inl old ↦ absurd (
            let low = in_y.low in
            let high = in_x.high in
            cut_in_x y.start l (omega arith) old)
        | inr new ↦ new
      ]
    ]

    ends : y.end < x.end → IsNewCut S c (record { change = y.change; offset = y.end })
    ends l = elim b.upto [
      | inl past_is ↦ absurd (let inside = a.inside in omega arith)
      | inr cut ↦ elim (cut_from S T c more (record { change = y.change; offset = y.end }) cut) [
        | inl old ↦ absurd (
            let low = in_x.low in
            let high = in_y.high in
            cut_in_x y.end (omega arith) l old)
        | inr new ↦ new
      ]
    ]

    run : x.kind ≡ y.kind → IsFiner S c x y
    run kind = record {
      change = change;
      kind = kind;
      low = not_above x.start y.start not_earlier;
      high = not_above y.end x.end not_longer;
      begins = begins;
      ends = ends;
    }

  by_kind : (o : Record) (k : Option Kind) → kind_at o.change.hunks x.start ≡ k → kind_at o.change.hunks y.start ≡ k → IsVertexBy S o x k → IsVertexBy T o y k → IsFiner S c x y
  by_kind o None d e a b = absurd a
  by_kind o (Some (NameAt hunk)) d e a b = single _ _ _ a b
  by_kind o (Some (FileInode hunk)) d e a b = single _ _ _ a b
  by_kind o (Some (DirInode hunk)) d e a b = single _ _ _ a b
  by_kind o (Some (Text hunk first past)) d e a b =
      run first past a.0 b.0 (block_starts o.change.hunks x.start hunk first past d) (block_starts o.change.hunks y.start hunk first past e) (a.1 ∙ sym b.1)

  -- a vertex of before and one of now with a common point
  pub finer : IsLawful T → IsVertex S x → IsVertex T y → IsFiner S c x y
  finer lawful a b =
      let owner : b.owner ≡ a.owner = one_record T lawful b.owner a.owner b.member (more.kept a.owner a.member) (b.name ∙ sym change ∙ sym a.name) in
      let hunks = a.owner.change.hunks in
      let here : kind_at hunks p.offset ≡ kind_at hunks x.start = by_any S a.owner x p.offset (record { low = in_x.low; high = in_x.high }) (kind_at hunks x.start) refl a.is in
      let y_by : IsVertexBy T a.owner y (kind_at hunks y.start) = subst (λ (r : Record). IsVertexBy T r y (kind_at r.change.hunks y.start)) owner b.is in
      let there : kind_at hunks p.offset ≡ kind_at hunks y.start = by_any T a.owner y p.offset (record { low = in_y.low; high = in_y.high }) (kind_at hunks y.start) refl y_by in
      let same : kind_at hunks y.start ≡ kind_at hunks x.start = sym there ∙ here in
      by_kind a.owner (kind_at hunks x.start) refl same a.is (subst (IsVertexBy T a.owner y) same y_by)
