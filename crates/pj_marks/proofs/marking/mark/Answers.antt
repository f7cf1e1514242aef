use Rattle.std.proofs.Common.{ℕ, length, subst, sym, ◌∙◌, ap}
use Rattle.std.proofs.lemmas.List.FromFn.{length-map-range_with_len}
use Rattle.pj_layout.specs.Shapes.{shape}
use Rattle.pj_reach.specs.Closure.{classes}
use Rattle.pj_marks.specs.Classes.{class_of}
use Rattle.pj_marks.specs.Names.{NamesBelow}
use Rattle.pj_marks.proofs.marking.mark.Goals as goal

pub put_layout-requires : goal.put_layout-requires
put_layout-requires g c =
    let all = ap length c.in_ok-classes.ensures ∙ length-map-range_with_len (class_of (g.T.Texts.piece c.args.texts.now) c.args.reached.now) 0 (classes c.args.reached.now) in
    subst (λ (n : ℕ). NamesBelow n (shape c.args.layout.now)) (sym all) c.requires.named
