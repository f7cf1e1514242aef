use Rattle.std.specs.Prelude.{decimal, codes, ◌∷◌, []}
use Rattle.pj_change.specs.Text.{line}
use Rattle.pj_gen.proofs.Texts.{four}
use Rattle.pj_gen.proofs.pieces.put_head.Goals as goal

pub returns : goal.returns
returns c =
    rw (c.in_ok-put_counted-3.ensures, c.in_ok-put_two.ensures, c.in_ok-put_counted-2.ensures, c.in_ok-put_counted.ensures)
    (four c.args.out.now.items (line (codes "pijul" ∷ codes "change" ∷ decimal 1 ∷ [])) (line (codes "message" ∷ decimal c.args.number ∷ [])) (line (codes "author" ∷ codes "load" ∷ [])) (line (codes "time" ∷ decimal c.args.number ∷ [])))
