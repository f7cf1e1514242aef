use Rattle.std.proofs.Common.{◌≡◌, false, ◌&&◌, not, get_or, sym, ap, ◌∙◌, arith}
use Rattle.std.proofs.lemmas.List.{get_or-map}
use Rattle.pj_change.specs.Walk.{is_seen}
use Rattle.pj_tree.specs.declared.row.Inode.{Inode}
use Rattle.pj_tree.specs.Frames.{has_name, seen_of}
use Rattle.pj_tree.proofs.Marks.{mark_at}
use Rattle.pj_tree.proofs.Lost.{adrift_end, adrift_pass, adrift_enter, is_named, is_fresh, is_settled}
use Rattle.pj_tree.proofs.walker.Guide.visit_adrift.Goals as goal
use Rattle.pj_tree.proofs.walker.Guide.visit_adrift.Goals.{then-is_adrift+in_ok-enter, else-is_adrift}

pub loop-index-preserved : goal.loop-index-preserved
loop-index-preserved c =
    let guide = c.args.self.now in
    let i = c.loop-index.index in
    let at : Inode → Inode = get_or guide.inodes.now i in
    let inode = at c.index-self-index.result in
    let here = ap at (sym c.index-self-index.is) in
    let within = c.loop-index-test.true in
    let seen = c.index.ensures ∙ ap (λ l. get_or l i c.index.result.now) c.loop-index.invariant.1 ∙ mark_at guide.inodes.now i inode (seen_of c.loop-index.progress.steps.items) c.index.result.now within here in
    let named = ap (λ l. get_or l i false) c.requires.named ∙ get_or-map (λ i. has_name guide.pairings.now i.at) guide.inodes.now i inode false within ∙ ap (λ i. has_name guide.pairings.now i.at) here in
    let test : c.is_adrift.result ≡ (has_name guide.pairings.now inode.at && not (is_seen (seen_of c.loop-index.progress.steps.items) inode.at)) = c.is_adrift.ensures ∙ (λ j. named j && not (seen j)) in
    elim c.if-is_adrift.branch [
      | then-is_adrift+in_ok-enter w ↦
          let yes = sym test ∙ w.if-is_adrift.true in
          rw w.progress-is
          (adrift_enter guide i inode _ _ _ c.requires.sound within here (is_named _ _ yes) (is_fresh _ _ yes) c.loop-index.invariant.0 w.in_ok-enter.ensures.entered, w.in_ok-enter.ensures.marked)
      | else-is_adrift w ↦
          let no = sym test ∙ w.if-is_adrift.false in
          rw w.progress-is (adrift_pass guide i inode _ _ within here (is_settled _ _ no) c.loop-index.invariant.0, c.loop-index.invariant.1)
    ]

pub returns : goal.returns
returns c = adrift_end c.args.self.now c.loop-index.index _ _ (let end = c.loop-index-test.false in omega arith) c.loop-index.invariant.0
