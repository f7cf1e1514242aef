-- The vertices that the table of cuts of a lawful list shows are the vertices of text of the list.
use Rattle.std.proofs.Common.{◌≡◌, ◌∙◌, sym, subst, refl, ℕ, ◌+◌, List, arith, inl, inr}
use Rattle.pj_name.specs.declared.name.Name.{Name}
use Rattle.pj_change.specs.declared.point.Point.{Point}
use Rattle.pj_change.specs.declared.graph.Vertex.{Vertex}
use Rattle.pj_change.specs.declared.change.Record.{Record}
use Rattle.pj_change.specs.Lawful.{IsLawful}
use Rattle.pj_change.specs.PointsIn.{LiesIn}
use Rattle.pj_change.specs.Vertices.{IsRun, IsVertexBy, IsVertex}
use Rattle.pj_change.proofs.DistinctRecords.{lawful_distinct}
use Rattle.pj_cuts.specs.Counted.{Counted, at_offset, length_at}
use Rattle.pj_cuts.specs.CountedVertices.{IsRunOf, IsVertexAt}
use Rattle.pj_cuts.specs.CutsOf.{AreCutsOf}
use Rattle.pj_cuts.proofs.SetTables.{counted_where_cut}
use Rattle.pj_outline.specs.Ends.{text_vertex, VertexOfTable, TableOfVertex}
use Rattle.pj_outline.proofs.BlocksOfSets.{IsBlockOf, block_found, block_there, block_kind}
use Rattle.pj_outline.proofs.TextOfInsertions.{IsRunOfBlock, run_of_block}

module _ (S : List Record) (lawful : IsLawful S) (c : Counted) (is : AreCutsOf S c) (n : Name) (start end first past : ℕ) (run : IsRunOf c n start end first past) where
  is_run : IsRun S (text_vertex S n start end) first past
  is_run = record {
    nonempty = run.nonempty;
    inside = run.inside.1;
    from = elim run.begins [ inl e ↦ inl e | inr k ↦ inr (sym (counted_where_cut S c is n start) ∙ k) ];
    upto = elim run.ends [ inl e ↦ inl e | inr k ↦ inr (sym (counted_where_cut S c is n end) ∙ k) ];
    uncut = λ k above below. sym (counted_where_cut S c is n k) ∙ run.uncut k above below;
  }

  run_vertex : IsBlockOf S n first past → IsVertex S (text_vertex S n start end)
  run_vertex b =
      let inside = run.inside in
      let some = run.nonempty in
      let kind = block_kind b.owner.change.hunks first past start b.made inside.0 (omega (arith, some, inside)) in
      record { owner = b.owner; member = b.member; name = b.named; is = subst (IsVertexBy S b.owner (text_vertex S n start end)) (sym kind) (is_run, refl, refl) }

pub vertex_of_table : VertexOfTable
vertex_of_table S lawful c is n at start end v =
    let inside = v.run.inside in
    let from = v.from in
    let upto = v.upto in
    run_vertex S lawful c is n start end v.first v.past v.run
    (block_found S (lawful_distinct S lawful) c is n at v.first v.past (record { from = omega (arith, inside, from); upto = omega (arith, inside, upto); block = v.run.block }))

-- ---- the other way round

module _ (S : List Record) (lawful : IsLawful S) (c : Counted) (is : AreCutsOf S c) (v : Vertex) (h : IsVertex S v) (b : IsRunOfBlock S v h.owner) where
  run_shown : IsRunOf c v.change v.start v.end b.first b.past
  run_shown =
      let low = b.low in
      let some = b.run.nonempty in
      let inside = b.run.inside in
      let block = block_there S (lawful_distinct S lawful) c is h.owner h.member b.first b.past v.start b.made b.low (omega arith) in
      record {
        nonempty = b.run.nonempty;
        begins = elim b.run.from [ inl e ↦ inl e | inr k ↦ inr (counted_where_cut S c is v.change v.start ∙ k) ];
        ends = elim b.run.upto [ inl e ↦ inl e | inr k ↦ inr (counted_where_cut S c is v.change v.end ∙ k) ];
        inside = (b.low, b.run.inside);
        uncut = λ k above below. counted_where_cut S c is v.change k ∙ b.run.uncut k above below;
        block = subst (λ n. b.first + length_at c (at_offset n b.first) ≡ b.past) h.name block.block;
      }

  vertex_shown : (p : Point) → LiesIn p v → IsVertexAt c p.change p.offset v.start v.end
  vertex_shown p lies = record {
    from = lies.low;
    upto = lies.high;
    first = b.first;
    past = b.past;
    run = subst (λ n. IsRunOf c n v.start v.end b.first b.past) lies.change run_shown;
  }

pub table_of_vertex : TableOfVertex
table_of_vertex S lawful c is v h text p lies = vertex_shown S lawful c is v h (run_of_block S v h text) p lies
