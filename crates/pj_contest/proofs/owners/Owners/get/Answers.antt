use Rattle.std.proofs.Common.{Bor, List, Option, sym, subst}
use Rattle.std.specs.Prelude.{Contains, IfSome}
use Rattle.pj_change.specs.declared.change.Record.{Record}
use Rattle.pj_change.proofs.EqualNames.{same_name_is}
use Rattle.pj_contest.proofs.owners.Owners.get.Goals as goal

pub returns-then-eq-clause-found : goal.returns-then-eq-clause-found
returns-then-eq-clause-found g c =
    let kept = subst (λ (o : Option (Bor Record)). IfSome o (λ r. Contains (g.P.Peers.records c.self.inside.peers.now) r.now)) c.in-Some.is c.self.invariant in (
      subst (λ (l : List Record). Contains l c.in-Some.record.now) c.self.view_is kept,
      same_name_is _ _ (sym c.if-eq.ensures),
    )
