-- The text at a point of a lawful list, read off its table of cuts.
use Rattle.std.proofs.Common.{◌≡◌, sym, subst, refl, ℕ, List}
use Rattle.pj_change.specs.declared.point.Point.{Point}
use Rattle.pj_change.specs.declared.graph.Vertex.{Vertex}
use Rattle.pj_change.specs.declared.graph.Status.{Status}
use Rattle.pj_change.specs.declared.graph.VertexKind.TheVariants as vertex_kind
use Rattle.pj_change.specs.declared.change.Record.{Record}
use Rattle.pj_change.specs.Lawful.{IsLawful}
use Rattle.pj_change.specs.Status.{status_of}
use Rattle.pj_cuts.specs.Counted.{Counted, at_offset, InNoBlock}
use Rattle.pj_cuts.specs.CountedVertices.{IsVertexAt}
use Rattle.pj_cuts.specs.CutsOf.{AreCutsOf}
use Rattle.pj_outline.proofs.TableVertices.{vertex_of_table}
use Rattle.pj_view.proofs.TextRanges.{no_text}
use Rattle.pj_tables.specs.TextAt.{IsTextAt}

module _ (S : List Record) (lawful : IsLawful S) (c : Counted) (is : AreCutsOf S c) (p : Point) where
  abbrev text : ℕ → ℕ → Status → Vertex
  text start end status = record { change = p.change; start = start; end = end; kind = vertex_kind.Text; status = status }

  -- what the table shows as the vertex of the point is the text that has it
  pub text_found : (start end : ℕ) → IsVertexAt c p.change p.offset start end → (status : Status) → status ≡ status_of S (at_offset p.change start) → IsTextAt S p (text start end status)
  text_found start end v status same =
      subst (λ s. IsTextAt S p (text start end s)) (sym same)
      (record { vertex = vertex_of_table S lawful c is p.change p.offset start end v; text = refl; lies = record { change = refl; low = v.from; high = v.upto } })

  -- no text has a point that no block has
  pub text_in_block : InNoBlock c p.change p.offset → (v : Vertex) → IsTextAt S p v → ⊥
  text_in_block none v t = no_text S lawful c is p none v t.vertex t.text t.lies
