-- The text at a point of a lawful list, by its table of cuts.
use Rattle.std.proofs.Common.{ℕ, List, Option, Some, None, arith}
use Rattle.std.specs.Prelude.{MatchOption}
use Rattle.pj_change.specs.declared.point.Point.{Point}
use Rattle.pj_change.specs.declared.change.Record.{Record}
use Rattle.pj_change.specs.Lawful.{IsLawful}
use Rattle.pj_cuts.specs.Counted.{Counted, InNoBlock}
use Rattle.pj_cuts.specs.CountedVertices.{IsVertexAt}
use Rattle.pj_cuts.specs.CutsOf.{AreCutsOf}
use Rattle.pj_outline.proofs.TableVertices.{vertex_of_table, table_of_vertex}
use Rattle.pj_view.specs.Ends.{IsTextFrom, IsNoText}

module _ (S : List Record) (lawful : IsLawful S) (c : Counted) (is : AreCutsOf S c) (p : Point) where
  -- what the table shows as the vertex of the point is the text that has it
  pub text_there : (start end : ℕ) → IsVertexAt c p.change p.offset start end → IsTextFrom S p start end
  text_there start end v = record { vertex = vertex_of_table S lawful c is p.change p.offset start end v; from = v.from; upto = v.upto }

  -- no text has a point that no block has
  pub no_text : InNoBlock c p.change p.offset → IsNoText S p
  no_text none v h text lies =
      let t = table_of_vertex S lawful c is v h text p lies in
      let inside = t.run.inside in
      let from = t.from in
      let upto = t.upto in
      none t.first t.past (record { from = omega (arith, inside, from); upto = omega (arith, inside, upto); block = t.run.block })

  pub start_or_none : (found : Option ℕ) → MatchOption found (InNoBlock c p.change p.offset) (λ start. (end : ℕ) × IsVertexAt c p.change p.offset start end) →
      MatchOption found (IsNoText S p) (λ start. (end : ℕ) × IsTextFrom S p start end)
  start_or_none None none = no_text none
  start_or_none (Some start) v = (v.0, text_there start v.0 v.1)

  pub end_or_none : (found : Option ℕ) → MatchOption found (InNoBlock c p.change p.offset) (λ end. (start : ℕ) × IsVertexAt c p.change p.offset start end) →
      MatchOption found (IsNoText S p) (λ end. (start : ℕ) × IsTextFrom S p start end)
  end_or_none None none = no_text none
  end_or_none (Some end) v = (v.0, text_there v.0 end v.1)
