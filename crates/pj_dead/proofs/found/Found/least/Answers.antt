use Rattle.std.proofs.Common.{◌≡◌, true, false}
use Rattle.pj_dead.proofs.Seen.{none_seen, least_seen}
use Rattle.pj_dead.proofs.found.Found.least.Goals as goal

pub returns-in-Some : goal.returns-in-Some
returns-in-Some c =
    rw (← c.self.view_is) (least_seen c.self.inside.list.items c.self.inside.seen c.self.invariant c.in-Some.least.now c.in-Some.ensures.member c.in-Some.ensures.least)

pub returns-in-None : goal.returns-in-None
returns-in-None c =
    rw (← c.self.view_is) (none_seen c.self.inside.list.items c.self.inside.seen c.self.invariant (λ l. (let f : false ≡ true = c.in-None.ensures.variant.1 l in cc)))
