use Rattle.std.proofs.Common.{◌≡◌, ◌≤◌, length, arith, subst, sym, Some}
use Rattle.pj_change.specs.Context.{meant}
use Rattle.pj_context.proofs.NeedLemmas.{length-needs, meant_need}
use Rattle.pj_context.proofs.scope.Scope.meant.Goals as goal

pub returns-else-owner-eq0 : goal.returns-else-owner-eq0
returns-else-owner-eq0 c =
    let few : c.args.owner ≤ length c.self.inside.itself.now.change.needs = subst (λ v. c.args.owner ≤ length v.itself.change.needs) (sym c.self.view_is) c.requires in
    let need = meant_need c.self.inside.itself.now c.self.inside.needs.now c.args.owner c.index-self-owner.result (omega arith)
    (omega (arith, length-needs c.self.inside.itself.now c.self.inside.needs.now c.self.invariant)) c.index-self-owner.is in
    subst (λ v. meant v.itself v.needs c.args.owner ≡ Some c.deref.result.now) c.self.view_is (cc)
