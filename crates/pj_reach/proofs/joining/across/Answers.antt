use Rattle.std.proofs.Common.{◌≡◌, subst, arith}
use Rattle.pj_reach.specs.Searches.{state, IsSearched}
use Rattle.pj_reach.proofs.Searching.{inner_skipped, all_joined}
use Rattle.pj_reach.proofs.joining.across.Goals as goal
use Rattle.pj_reach.proofs.joining.across.Goals.{then-not-inner-start+in_ok-search, else-not-inner-start}

pub loop-start-preserved : goal.loop-start-preserved
loop-start-preserved c =
    elim c.if-not-inner-start.branch [
      | then-not-inner-start+in_ok-search w ↦ rw w.search-is w.in_ok-search.ensures
      | else-not-inner-start w ↦ rw w.search-is (inner_skipped c.args.edges.now c.args.inner.now c.loop-start.start (state c.loop-start.search) c.loop-start.invariant w.if-not-inner-start.false)
    ]

pub returns : goal.returns
returns c =
    let over : c.loop-start.start ≡ c.args.n = omega arith in
    all_joined c.args.n c.args.edges.now c.args.inner.now (state c.loop-start.search) c.requires.graph
    (subst (λ end. IsSearched c.args.edges.now c.args.inner.now end (state c.loop-start.search)) over c.loop-start.invariant)
