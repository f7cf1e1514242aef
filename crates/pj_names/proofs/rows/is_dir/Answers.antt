use Rattle.std.proofs.Common.{◌≡◌, ◌∙◌, sym, false, true, [], ◌∷◌, ◌++◌}
use Rattle.pj_change.proofs.Members.{first_member}
use Rattle.pj_change.proofs.LawfulLists.{first_part, second_part}
use Rattle.pj_change.proofs.EqualNames.{same_name_is}
use Rattle.pj_names.proofs.Dirs.{one_each, dir_by, none_told}
use Rattle.pj_names.proofs.rows.is_dir.Goals as goal

pub returns-then-eq : goal.returns-then-eq
returns-then-eq g c =
    let S = g.P.Peers.records c.args.others.now in
    let r = c.args.change.now in
    c.has_dir.ensures ∙ sym (dir_by (S ++ r ∷ []) (one_each S r c.requires.one c.requires.fresh) r (second_part S (r ∷ []) r (first_member r [])) c.args.at (sym (same_name_is c.args.at.change r.name (sym c.if-eq.ensures))))

pub returns-in-Some : goal.returns-in-Some
returns-in-Some g c =
    let S = g.P.Peers.records c.args.others.now in
    let r = c.args.change.now in
    c.has_dir-in-Some.ensures ∙ sym (dir_by (S ++ r ∷ []) (one_each S r c.requires.one c.requires.fresh) c.in-Some.owner.now (first_part S (r ∷ []) c.in-Some.owner.now c.in-Some.ensures.found) c.args.at c.in-Some.ensures.named)

pub returns-in-None : goal.returns-in-None
returns-in-None g c =
    let S = g.P.Peers.records c.args.others.now in
    let r = c.args.change.now in
    sym (none_told S r c.args.at (λ s m e. (let t : false ≡ true = c.in-None.ensures.there.1 (m.0, s, m.1, m.2, e) in cc)) (sym c.if-eq.ensures))
