use Rattle.std.proofs.Common.{◌≡◌, ap, subst, arith, nat_lt}
use Rattle.pj_cuts.specs.Counted.{Counted, IsCounted, count_at}
use Rattle.pj_cuts.proofs.NextVertices.{next_cut, in_match}
use Rattle.pj_cuts.proofs.cuts.Cuts.next_inside.Goals as goal

pub returns-in-Some : goal.returns-in-Some
returns-in-Some c =
    let K : Counted → Type 0 = λ v. IsCounted v.counts v.blocks in
    let empty : count_at c.args.self.now c.args.at ≡ 0 = omega (arith, c.count.ensures) in
    next_cut c.args.self.now (subst K c.self.view_is c.self.invariant) c.args.at.change c.args.at.offset c.args.first c.args.past c.requires _ _ (λ e. omega arith) (ap (nat_lt 0) empty) c.in-Some.ensures.0 c.in-Some.ensures.1 c.end_in-end-in-Some.ensures

pub returns : goal.returns
returns c =
    let K : Counted → Type 0 = λ v. IsCounted v.counts v.blocks in
    let empty : count_at c.args.self.now c.args.at ≡ 0 = omega (arith, c.count.ensures) in
    in_match c.args.self.now (subst K c.self.view_is c.self.invariant) c.args.at.change c.args.at.offset c.args.first c.args.past c.requires (λ e. omega arith) (ap (nat_lt 0) empty) c.in_default.ensures _ c.first_of_next.ensures
