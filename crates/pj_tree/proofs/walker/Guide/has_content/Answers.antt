use Rattle.std.proofs.Common.{not, ◌||◌, ◌==◌, length, sym, ap, ◌∙◌}
use Rattle.pj_tree.specs.Frames.{has_child}
use Rattle.pj_tree.proofs.Flags.{any_left}
use Rattle.pj_tree.proofs.walker.Guide.has_content.Goals as goal

pub returns-else-content : goal.returns-else-content
returns-else-content g c =
    ap not (c.is_empty.ensures ∙ ap (λ l. length l == 0) c.children.ensures)
    ∙ sym (any_left _ c.args.self.now.pairings.now)
    ∙ ap (λ b. b || has_child c.args.self.now.pairings.now c.args.inode) c.if-content.ensures
