use Rattle.std.proofs.Common.{◌∙◌, sym, ap, subst, refl, Some, None}
use Rattle.pj_states.specs.declared.survivors.Survivors.{Survivors}
use Rattle.pj_ranges.proofs.Walked.{step_same, falls_same}
use Rattle.pj_states.specs.Index.{AreIndexed}
use Rattle.pj_states.proofs.Seen.{AreSeen, seen_starts, seen_goes, seen_here, seen_zombie, seen_all, alive_without, status_with}
use Rattle.pj_states.proofs.SetStatuses.{status_of_set}
use Rattle.pj_states.proofs.versions.Versions.status.Goals as goal

pub loop-next-init : goal.loop-next-init
loop-next-init g c =
    let none = c.none-found.ensures in
    record {
      same = refl;
      walked = seen_starts c.args.self.now c.next_over-next.new.self c.args.at (g.C.ContestedHunks.contested c.args.contested.now) c.next_over-next.result (step_same c.args.at None c.next_over-next.result (sym c.next_over-next.ensures.same) c.next_over-next.ensures.next) c.none-found.result
          (ap (λ (s : Survivors). s.revived) none) (ap (λ (s : Survivors). s.deleted) none) (ap (λ (s : Survivors). s.contested) none);
    }

pub loop-next-preserved : goal.loop-next-preserved
loop-next-preserved g c =
    let e = c.seen-found.ensures in
    let contested = g.C.ContestedHunks.contested c.args.contested.now in
    record {
      same = c.next_over-next-in-Some.ensures.same ∙ c.loop-next.invariant.same;
      walked = seen_goes c.args.self.now c.next_over-next.new.self c.args.at contested c.in-Some.range c.loop-next.found c.seen-found.result
          (subst (λ n. AreSeen c.args.self.now c.next_over-next.new.self c.args.at contested n c.loop-next.found) c.in-Some.is c.loop-next.invariant.walked)
          (record { revived = e.revived; deleted = e.deleted; contested = e.contested }) c.next_over-next-in-Some.result (step_same c.args.at (Some c.in-Some.range) c.next_over-next-in-Some.result c.loop-next.invariant.same c.next_over-next-in-Some.ensures.next);
    }

pub loop-next-smaller : goal.loop-next-smaller
loop-next-smaller g c = rw c.in-Some.is (falls_same c.in-Some.range c.next_over-next-in-Some.result c.loop-next.invariant.same c.next_over-next-in-Some.ensures.falls)

pub next_over-next-requires-in-Some : goal.next_over-next-requires-in-Some
next_over-next-requires-in-Some g c =
    let e = c.seen-found.ensures in
    let contested = g.C.ContestedHunks.contested c.args.contested.now in
    seen_here c.args.self.now c.next_over-next.new.self c.args.at contested c.in-Some.range c.loop-next.found c.seen-found.result
    (subst (λ n. AreSeen c.args.self.now c.next_over-next.new.self c.args.at contested n c.loop-next.found) c.in-Some.is c.loop-next.invariant.walked)
    (record { revived = e.revived; deleted = e.deleted; contested = e.contested })

pub returns-then-is_zombie-clause-table : goal.returns-then-is_zombie-clause-table
returns-then-is_zombie-clause-table g c =
    let x = subst (AreIndexed c.args.self.now) (sym c.next_over-next.ensures.same) c.walk-walk.ensures in
    let e = c.seen-found.ensures in
    let contested = g.C.ContestedHunks.contested c.args.contested.now in
    sym (seen_zombie c.args.self.now c.next_over-next.new.self c.args.at contested c.in-Some.range c.loop-next.found c.seen-found.result
    (subst (λ n. AreSeen c.args.self.now c.next_over-next.new.self c.args.at contested n c.loop-next.found) c.in-Some.is c.loop-next.invariant.walked)
    (record { revived = e.revived; deleted = e.deleted; contested = e.contested }) x (sym c.is_zombie.ensures ∙ c.if-is_zombie.true))

pub returns-then-is_zombie-clause-set : goal.returns-then-is_zombie-clause-set
returns-then-is_zombie-clause-set g c = λ S of same.
    let x = subst (AreIndexed c.args.self.now) (sym c.next_over-next.ensures.same) c.walk-walk.ensures in
    returns-then-is_zombie-clause-table g c ∙ status_of_set S c.args.self.now x.rising of c.args.at (g.C.ContestedHunks.contested c.args.contested.now) same

pub returns-then-not-found-clause-table : goal.returns-then-not-found-clause-table
returns-then-not-found-clause-table g c =
    let x = subst (AreIndexed c.args.self.now) (sym c.next_over-next.ensures.same) c.walk-walk.ensures in
    let contested = g.C.ContestedHunks.contested c.args.contested.now in
    let all =
    seen_all c.args.self.now c.next_over-next.new.self c.args.at contested x c.loop-next.found
    (subst (λ n. AreSeen c.args.self.now c.next_over-next.new.self c.args.at contested n c.loop-next.found) c.in_default.is c.loop-next.invariant.walked)
    in
    alive_without c.args.self.now c.next_over-next.new.self c.args.at contested c.loop-next.found all c.if-not-found.true

pub returns-then-not-found-clause-set : goal.returns-then-not-found-clause-set
returns-then-not-found-clause-set g c = λ S of same.
    let x = subst (AreIndexed c.args.self.now) (sym c.next_over-next.ensures.same) c.walk-walk.ensures in
    returns-then-not-found-clause-table g c ∙ status_of_set S c.args.self.now x.rising of c.args.at (g.C.ContestedHunks.contested c.args.contested.now) same

pub returns-clause-table : goal.returns-clause-table
returns-clause-table g c =
    let x = subst (AreIndexed c.args.self.now) (sym c.next_over-next.ensures.same) c.walk-walk.ensures in
    let contested = g.C.ContestedHunks.contested c.args.contested.now in
    let all =
    seen_all c.args.self.now c.next_over-next.new.self c.args.at contested x c.loop-next.found
    (subst (λ n. AreSeen c.args.self.now c.next_over-next.new.self c.args.at contested n c.loop-next.found) c.in_default.is c.loop-next.invariant.walked)
    in
    c.status.ensures ∙ status_with c.args.self.now c.next_over-next.new.self c.args.at contested c.loop-next.found all c.survives-owner.result c.survives-owner.ensures

pub returns-clause-set : goal.returns-clause-set
returns-clause-set g c = λ S of same.
    let x = subst (AreIndexed c.args.self.now) (sym c.next_over-next.ensures.same) c.walk-walk.ensures in
    returns-clause-table g c ∙ status_of_set S c.args.self.now x.rising of c.args.at (g.C.ContestedHunks.contested c.args.contested.now) same
