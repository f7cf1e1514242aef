use Rattle.std.proofs.Common.{◌≡◌, arith, []}
use Rattle.std.proofs.lemmas.List.{nil_from_length}
use Rattle.std.proofs.lemmas.List.Elements.{Contains-push}
use Rattle.pj_tree.proofs.Walking.{walk_starts, walk_leaves, walk_turns, walk_ends}
use Rattle.pj_tree.proofs.walker.Guide.walk.Goals as goal

pub loop-top-init : goal.loop-top-init
loop-top-init c = rw (c.in_ok-push.ensures.items, c.new-frames.ensures.items) (walk_starts c.args.self.now c.args.frame _ c.requires.frame, c.requires.marked)

pub loop-top-preserved-then-top : goal.loop-top-preserved-then-top
loop-top-preserved-then-top c =
    (walk_leaves c.args.self.now c.args.frame c.in-Some.top c.pop.new.self.items _ _ c.if-top.true (rw c.in-Some.ensures.items at c.loop-top.invariant.0), c.loop-top.invariant.1)

pub visit-requires-clause-frame : goal.visit-requires-clause-frame
visit-requires-clause-frame c = (rw c.in-Some.ensures.items at c.loop-top.invariant.0).frame c.in-Some.top (Contains-push c.pop.new.self.items c.in-Some.top)

pub visit-requires-clause-left : goal.visit-requires-clause-left
visit-requires-clause-left c =
    let frame = (rw c.in-Some.ensures.items at c.loop-top.invariant.0).frame c.in-Some.top (Contains-push c.pop.new.self.items c.in-Some.top) in
    let within = frame.within in
    let other = c.if-top.false in
    omega arith

pub loop-top-preserved : goal.loop-top-preserved
loop-top-preserved c =
    rw c.in_ok-put_back.ensures (
      walk_turns c.args.self.now c.args.frame c.in-Some.top _ c.in_ok-inner.inner c.pop.new.self.items _ _ _ (rw c.in-Some.ensures.items at c.loop-top.invariant.0)
          c.in_ok-inner.ensures.turn c.in_ok-inner.ensures.frame c.in_ok-inner.ensures.inner,
      c.in_ok-inner.ensures.marked,
    )

pub returns-clause-visited : goal.returns-clause-visited
returns-clause-visited c =
    let none : c.loop-top.frames.items ≡ [] = nil_from_length _ (let h = c.in_default.ensures.cases.0 in let ok = c.loop-top.frames.ok in omega arith) in
    walk_ends c.args.self.now c.args.frame _ _ (rw none at c.loop-top.invariant.0)
