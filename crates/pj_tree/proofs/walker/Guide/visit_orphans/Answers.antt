use Rattle.std.proofs.Common.{◌≡◌, false, ◌&&◌, ◌||◌, not, get_or, sym, ap, ◌∙◌, arith}
use Rattle.std.proofs.lemmas.List.{get_or-map}
use Rattle.pj_change.specs.Walk.{is_seen}
use Rattle.pj_tree.specs.declared.row.Inode.{Inode}
use Rattle.pj_tree.specs.Frames.{has_name, has_child, seen_of}
use Rattle.pj_tree.proofs.Marks.{mark_at}
use Rattle.pj_tree.proofs.Lost.{orphans_end, orphans_pass, orphans_enter}
use Rattle.pj_tree.proofs.walker.Guide.visit_orphans.Goals as goal
use Rattle.pj_tree.proofs.walker.Guide.visit_orphans.Goals.{then-is_orphan+in_ok-enter, else-is_orphan}

pub loop-index-preserved : goal.loop-index-preserved
loop-index-preserved g c =
    let guide = c.args.self.now in
    let live = g.V.Lives.live c.args.lives.now in
    let i = c.loop-index.index in
    let at : Inode → Inode = get_or guide.inodes.now i in
    let inode = at c.index-self-index.result in
    let here = ap at (sym c.index-self-index.is) in
    let within = c.loop-index-test.true in
    let seen = c.index.ensures ∙ ap (λ l. get_or l i c.index.result.now) c.loop-index.invariant.1 ∙ mark_at guide.inodes.now i inode (seen_of c.loop-index.progress.steps.items) c.index.result.now within here in
    let named = ap (λ l. get_or l i false) c.requires.named ∙ get_or-map (λ i. has_name guide.pairings.now i.at) guide.inodes.now i inode false within ∙ ap (λ i. has_name guide.pairings.now i.at) here in
    let test : c.is_orphan.result ≡ (not (is_seen (seen_of c.loop-index.progress.steps.items) inode.at) && (not (has_name guide.pairings.now inode.at) && (live inode.at || has_child guide.pairings.now inode.at))) =
    c.is_orphan.ensures ∙ (λ j. not (seen j) && (not (named j) && (live inode.at || has_child guide.pairings.now inode.at))) in
    elim c.if-is_orphan.branch [
      | then-is_orphan+in_ok-enter w ↦
          rw w.progress-is
          (orphans_enter guide live i inode _ _ _ within here (sym test ∙ w.if-is_orphan.true) c.loop-index.invariant.0 w.in_ok-enter.ensures.entered, w.in_ok-enter.ensures.marked)
      | else-is_orphan w ↦ rw w.progress-is (orphans_pass guide live i inode _ _ within here (sym test ∙ w.if-is_orphan.false) c.loop-index.invariant.0, c.loop-index.invariant.1)
    ]

pub returns-clause-orphans : goal.returns-clause-orphans
returns-clause-orphans g c = orphans_end c.args.self.now (g.V.Lives.live c.args.lives.now) c.loop-index.index _ _ (let end = c.loop-index-test.false in omega arith) c.loop-index.invariant.0
