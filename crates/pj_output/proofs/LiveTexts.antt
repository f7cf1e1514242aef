-- The live text of a list, file by file.
use Rattle.std.proofs.Common.{◌≡◌, ◌∙◌, ℕ, ◌≤◌, true, List, [], ◌∷◌, ◌++◌, Some, length, map, filter, refl, sym, ap, subst, inl, inr, arith}
use Rattle.std.specs.Prelude.{◌≢◌, ◌↔◌, Bool, false, Contains, nat_lt}
use Rattle.std.specs.List.{AllZip, dedup, list_any}
use Rattle.std.specs.List.Sorted.{IsPermutation, IsSorted, IsStrictlySortedBy}
use Rattle.std.specs.Ordering.{eq_by_cmp, ordering_then}
use Rattle.std.specs.declared.cmp.Ordering.{Ordering}
use Rattle.std.specs.declared.cmp.Ordering.TheVariants.{Less, Equal, Greater}
use Rattle.std.proofs.lemmas.Bool.{cases_lt}
use Rattle.std.proofs.lemmas.Bool.Decides.{Decides-ltb}
use Rattle.std.proofs.lemmas.Cmp.{tied_itself}
use Rattle.std.proofs.lemmas.List.Kept.{IsStrictlySortedBy-filter}
use Rattle.std.proofs.lemmas.Option.{same_Some}
use Rattle.pj_change.specs.declared.point.Point.{Point}
use Rattle.pj_change.specs.declared.point.Place.TheVariants as placed
use Rattle.pj_change.specs.declared.graph.Status.TheVariants.{Dead}
use Rattle.pj_change.specs.declared.graph.Vertex.{Vertex}
use Rattle.pj_change.specs.declared.change.Record.{Record}
use Rattle.pj_change.specs.Context.{file_at}
use Rattle.pj_change.specs.FileText.{IsLiveIn, IsLiveList, IsPiece}
use Rattle.pj_change.specs.Gathers.{Gathers, IsOfOne}
use Rattle.pj_change.specs.Graph.{point_cmp, vertex_cmp}
use Rattle.pj_change.specs.Lawful.{IsLawful}
use Rattle.pj_change.proofs.EqualNames.{point_tied, same_point_is, same_point_itself}
use Rattle.pj_change.proofs.Gathering.{gathered}
use Rattle.pj_change.proofs.LawfulLists.{append_cases, first_part, one_record, second_part, set_of}
use Rattle.pj_change.proofs.Listings.{listed, same_listing}
use Rattle.pj_change.proofs.ListNumbers.{numbered_member}
use Rattle.pj_change.proofs.Members.{any_member, passes, moved, no_member, first_member, later_member, from_each, each}
use Rattle.pj_change.proofs.OneVertex.{nonempty, one_vertex, vertices_tied}
use Rattle.pj_change.proofs.Orders.{point_total}
use Rattle.pj_change.proofs.PickedMembers.{passed, kept, image, mapped}
use Rattle.pj_print.specs.JoinedPairs.{ArePieces}
use Rattle.pj_print.specs.Pieces.{piece_at}
use Rattle.pj_print.proofs.VertexPieces.{piece_at_is, piece_is}
use Rattle.pj_output.specs.declared.blocks.Block.{Block}
use Rattle.pj_output.specs.declared.live_text.LiveVertex.{LiveVertex}
use Rattle.pj_output.specs.Blocks.{IsBlockOf, IsTextFrom, IsTextOf}
use Rattle.pj_output.specs.LiveText.{live_cmp, is_of, AreLiveIn, BeginsIn, IsLiveOf, AreLiveText, IsLiveVertex}
use Rattle.pj_output.proofs.BlockTexts.{has_block}
use Rattle.pj_output.proofs.CallsInOrder.{zipped_first, zipped_second}
use Rattle.pj_output.proofs.LiveOrder.{live_total}

abbrev entry : Point → Vertex → LiveVertex
entry inode v = record { inode = inode; vertex = v }

-- ---- one vertex

-- text that is not dead is live text of its file
pub live_of : (S : List Record) (inode : Point) (v : Vertex) → IsTextOf S inode v → v.status ≢ Dead → IsLiveOf S v (entry inode v)
live_of S inode v is live = record {
  vertex = refl;
  live = record { live = record { vertex = is.vertex; text = is.text; live = live }; owner = is.owner; member = is.member; name = is.name; of_file = is.of_file };
}

module _ (S : List Record) (lawful : IsLawful S) (v : Vertex) where
  same_entry : (d e : LiveVertex) → d.inode ≡ e.inode → d.vertex ≡ e.vertex → d ≡ e
  same_entry d e p q = λ i. record { inode = p i; vertex = q i }

  -- it has one file
  pub one_file : (d e : LiveVertex) → IsLiveOf S v d → IsLiveOf S v e → d ≡ e
  one_file d e a b =
      let name : a.live.owner.name ≡ b.live.owner.name = a.live.name ∙ ap (λ (w : Vertex). w.change) (a.vertex ∙ sym b.vertex) ∙ sym b.live.name in
      let owner : a.live.owner ≡ b.live.owner = one_record S lawful a.live.owner b.live.owner a.live.member b.live.member name in
      let vertex : d.vertex ≡ e.vertex = a.vertex ∙ sym b.vertex in
      let at_d : file_at b.live.owner e.vertex.start ≡ Some (placed.At d.inode) =
      subst (λ (w : Vertex). file_at b.live.owner w.start ≡ Some (placed.At d.inode)) vertex
      (subst (λ (x : Record). file_at x d.vertex.start ≡ Some (placed.At d.inode)) owner a.live.of_file) in
      let both : Some (placed.At d.inode) ≡ Some (placed.At e.inode) = sym at_d ∙ b.live.of_file in
      let place : placed.At d.inode ≡ placed.At e.inode = same_Some (placed.At d.inode) (placed.At e.inode) both in
      same_entry d e (same_at d.inode e.inode place) vertex
    where
      same_at : (p q : Point) → placed.At p ≡ placed.At q → p ≡ q
      same_at p q e = cc

-- ---- one block

-- and what begins before the end of the text at a position begins before the position, or is that text
pub more_live : (S : List Record) → IsLawful S → (b : Block) (offset : ℕ) (v : Vertex) → IsTextFrom S b offset v → (old new : List LiveVertex) → AreLiveIn S b offset old → Gathers (IsLiveOf S v) old new → AreLiveIn S b v.end new
more_live S lawful b offset v t old new are g = record {
  only = λ e m. elim (g.only e m) [ inl k ↦ are.only e k | inr h ↦ h.live ];
  all = λ e live i. elim (cases_lt e.vertex.start offset) [
    | inl before ↦ g.kept e (are.all e live (record { change = i.change; low = i.low; high = before }))
    | inr later ↦ g.all e (record { vertex = here e live i later; live = live })
  ];
}
  where
    here : (e : LiveVertex) → IsLiveVertex S e → BeginsIn b v.end e → offset ≤ e.vertex.start → e.vertex ≡ v
    here e live i later =
        let low = t.lies.low in
        let high = i.high in
        one_vertex S (set_of S lawful) e.vertex v live.live.vertex t.is.vertex (i.change ∙ sym t.lies.change) e.vertex.start
        (record { low = omega arith; high = nonempty S e.vertex live.live.vertex })
        (record { low = omega (arith, low, later); high = high })

-- ---- all of them

-- all of a list are added
pub appended : (more old new : List LiveVertex) → new ≡ old ++ more → Gathers (Contains more) old new
appended more old new e = record {
  kept = λ x m. moved x (sym e) (first_part old more x m);
  all = λ x m. moved x (sym e) (second_part old more x m);
  only = λ x m. append_cases old more x (moved x e m);
}

both_equal : (a b : Ordering) → ordering_then a b ≡ Equal → (a ≡ Equal) × (b ≡ Equal)
both_equal Less b e = absurd (cc)
both_equal Equal b e = (refl, e)
both_equal Greater b e = absurd (cc)

module _ (S : List Record) (lawful : IsLawful S) where
  pub live_tied : (d e : LiveVertex) → IsLiveVertex S d → IsLiveVertex S e → live_cmp d e ≡ Equal → d ≡ e
  live_tied d e a b tie =
      let parts = both_equal (point_cmp d.inode e.inode) (vertex_cmp d.vertex e.vertex) tie in
      let inode : d.inode ≡ e.inode = point_tied d.inode e.inode parts.0 in
      let vertex : d.vertex ≡ e.vertex = vertices_tied S (set_of S lawful) d.vertex e.vertex a.live.vertex b.live.vertex parts.1 in
      λ i. record { inode = inode i; vertex = vertex i }

  module _ (blocks : List Block) (of : Gathers (IsOfOne IsBlockOf S) [] blocks) {Y : Type 0} (parts : List Y) (items : Y → List LiveVertex)
      (each_part : AllZip (λ (b : Block) part. AreLiveIn S b b.past (items part)) blocks parts) (entries : List LiveVertex) (are : Gathers (IsOfOne (λ part. Contains (items part)) parts) [] entries) where
    -- the parts have all live text
    all_live : Gathers (IsLiveVertex S) [] entries
    all_live = record {
      kept = λ e m. absurd (no_member e m);
      all = λ e live.
          let h = has_block S e live in
          let part = zipped_first (λ (b : Block) part. AreLiveIn S b b.past (items part)) blocks parts each_part h.block (of.all h.block h.is) in
          are.all e (record { one = part.0; member = part.1; is = part.2.all e live h.begins });
      only = λ e m. elim (are.only e m) [
        | inl k ↦ absurd (no_member e k)
        | inr o ↦ inr (let block = zipped_second (λ (b : Block) part. AreLiveIn S b b.past (items part)) blocks parts each_part o.one o.member in block.2.only e o.is)
      ];
    }

    -- and in order, each once, they are the live text
    pub text_listed : (list new : List LiveVertex) → IsPermutation entries list → IsSorted live_cmp list → new ≡ dedup (eq_by_cmp live_cmp) list → AreLiveText S new
    text_listed list new moved up once =
        let live = gathered (IsLiveVertex S) entries all_live in
        same_listing live_cmp (Contains entries) (IsLiveVertex S) live all_live.all new
        (listed live_cmp live_total entries list new (λ d e m n tie. live_tied d e (live d m) (live e n) tie) moved up once)

-- ---- one file

-- some pass exactly where one does
pub some_kept : (p : LiveVertex → Bool) (xs : List LiveVertex) → nat_lt 0 (length (filter p xs)) ≡ list_any p xs
some_kept p [] = refl
some_kept p (x ∷ xs) = by (p x) refl (some_kept p xs)
  where
    by : (b : Bool) → p x ≡ b → nat_lt 0 (length (filter p xs)) ≡ list_any p xs → nat_lt 0 (length (filter p (x ∷ xs))) ≡ list_any p (x ∷ xs)
    by true e rest = rw e ((Decides-ltb 0 (length (x ∷ filter p xs))).1 (omega arith))
    by false e rest = rw e rest

-- entries of one file rise by their vertices
vertices_rise : (inode : Point) (xs : List LiveVertex) → ((e : LiveVertex) → Contains xs e → e.inode ≡ inode) → IsStrictlySortedBy live_cmp xs → IsStrictlySortedBy vertex_cmp (map (λ e. e.vertex) xs)
unfolding IsStrictlySortedBy
vertices_rise inode [] of s = tt
vertices_rise inode (x ∷ xs) of s = (
  from_each (λ w. vertex_cmp x.vertex w ≡ Less) (map (λ e. e.vertex) xs) (λ w m.
      let e = image (λ (e : LiveVertex). e.vertex) xs w m in
      let less : live_cmp x e.it ≡ Less = each (λ y. live_cmp x y ≡ Less) xs s.0 e.it e.member in
      let same : x.inode ≡ e.it.inode = of x (first_member x xs) ∙ sym (of e.it (later_member x xs e.it e.member)) in
      subst (λ u. vertex_cmp x.vertex u ≡ Less) e.is (second x e.it same less)),
  vertices_rise inode xs (λ e m. of e (later_member x xs e m)) s.1,
)
  where
    second : (d e : LiveVertex) → d.inode ≡ e.inode → live_cmp d e ≡ Less → vertex_cmp d.vertex e.vertex ≡ Less
    second d e same less =
        let tied : point_cmp d.inode e.inode ≡ Equal = subst (λ p. point_cmp d.inode p ≡ Equal) same (tied_itself point_total d.inode) in
        subst (λ o. ordering_then o (vertex_cmp d.vertex e.vertex) ≡ Less) tied less

module _ (S : List Record) (entries : List LiveVertex) (lists : AreLiveText S entries) (inode : Point) where
  -- the vertices of the entries of the file are its live text
  pub live_listed : IsLiveList S inode (map (λ e. e.vertex) (filter (is_of inode) entries))
  live_listed = record {
    sorted = vertices_rise inode (filter (is_of inode) entries) of_file (IsStrictlySortedBy-filter live_cmp (is_of inode) entries lists.sorted);
    only = λ v m.
        let e = image (λ (e : LiveVertex). e.vertex) (filter (is_of inode) entries) v m in
        let p = passed (is_of inode) entries e.it e.member in
        subst (IsLiveIn S inode) e.is (subst (λ q. IsLiveIn S q e.it.vertex) (of_file e.it e.member) (lists.only e.it p.member));
    all = λ v h. mapped (λ (e : LiveVertex). e.vertex) (filter (is_of inode) entries) (entry inode v)
        (kept (is_of inode) entries (entry inode v) (lists.all (entry inode v) h) (same_point_itself inode));
  }
    where
      of_file : (e : LiveVertex) → Contains (filter (is_of inode) entries) e → e.inode ≡ inode
      of_file e m = same_point_is e.inode inode (passed (is_of inode) entries e m).passes

  live_found : list_any (is_of inode) entries ≡ true → (v : Vertex) × IsLiveIn S inode v
  live_found t =
      let p = passes (is_of inode) entries t in
      (p.it.vertex, subst (λ q. IsLiveIn S q p.it.vertex) (same_point_is p.it.inode inode p.is) (lists.only p.it p.member))

  -- the file has live text exactly where an entry is of it
  pub live_told : (list_any (is_of inode) entries ≡ true) ↔ ((v : Vertex) × IsLiveIn S inode v)
  live_told = (live_found, λ h. any_member (is_of inode) entries (entry inode h.0) (lists.all (entry inode h.0) h.1) (same_point_itself inode))

-- and its pieces are those of the list
pub pieces_told : (S : List Record) (inode : Point) (live : List Vertex) → IsLiveList S inode live → ArePieces S live (piece_at S live)
pieces_told S inode live lists i v at =
    subst (IsPiece S v) (sym (piece_at_is S live i v at)) (piece_is S v (lists.only v (numbered_member live i v at)).live.vertex)
