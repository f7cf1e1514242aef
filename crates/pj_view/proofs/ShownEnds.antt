-- Both ends of a block or order edge are shown in a view.
use Rattle.std.proofs.Common.{List, inl}
use Rattle.pj_change.specs.declared.graph.Vertex.{Vertex}
use Rattle.pj_change.specs.declared.change.Record.{Record}
use Rattle.pj_change.specs.Before.{Leads}
use Rattle.pj_change.specs.Lawful.{IsLawful}
use Rattle.pj_change.proofs.FileEdges.{leads_to_text}
use Rattle.pj_change.proofs.LawfulLists.{set_of}
use Rattle.pj_dead.specs.ViewOf.{IsShown}
use Rattle.pj_dead.proofs.SetRows.{leads_from}

module _ (L : List Record) (lawful : IsLawful L) (u v : Vertex) (l : Leads L u v) where
  -- the one that it leaves
  pub source_shown : IsShown L u
  source_shown = record { vertex = l.source; kind = leads_from L (set_of L lawful) u v l }

  -- and the one to which it leads
  pub target_shown : IsShown L v
  target_shown = record { vertex = l.target; kind = inl (leads_to_text L (set_of L lawful) u v l) }
