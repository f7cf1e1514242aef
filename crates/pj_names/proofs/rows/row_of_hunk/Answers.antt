use Rattle.std.proofs.Common.{[], ◌∷◌, subst}
use Rattle.std.specs.Prelude.{Contains}
use Rattle.pj_change.specs.declared.hunk.Hunk.TheVariants.{File, Dir, NameOf}
use Rattle.pj_change.proofs.Members.{first_member, later_member}
use Rattle.pj_change.proofs.PositionLemmas.{ref_is_numbered}
use Rattle.pj_names.proofs.rows.row_of_hunk.Goals as goal

pub row_of-requires-clause-numbered : goal.row_of-requires-clause-numbered
row_of-requires-clause-numbered g c =
    let r = c.args.change.now in
    let n = c.in-File in
    ref_is_numbered r n.parent (File n.parent n.name n.exec) (subst (λ h. Contains r.change.hunks h) n.is c.requires.member) (first_member n.parent [])

pub row_of-requires-in-Dir-clause-numbered : goal.row_of-requires-in-Dir-clause-numbered
row_of-requires-in-Dir-clause-numbered g c =
    let r = c.args.change.now in
    let n = c.in-Dir in
    ref_is_numbered r n.parent (Dir n.parent n.name) (subst (λ h. Contains r.change.hunks h) n.is c.requires.member) (first_member n.parent [])

pub resolve-child-requires : goal.resolve-child-requires
resolve-child-requires g c =
    let r = c.args.change.now in
    let n = c.in-NameOf in
    ref_is_numbered r n.child (NameOf n.parent n.child n.name n.exec) (subst (λ h. Contains r.change.hunks h) n.is c.requires.member)
    (later_member n.parent (n.child ∷ []) n.child (first_member n.child []))

pub row_of-requires-in-NameOf-clause-numbered : goal.row_of-requires-in-NameOf-clause-numbered
row_of-requires-in-NameOf-clause-numbered g c =
    let r = c.args.change.now in
    let n = c.in-NameOf in
    ref_is_numbered r n.parent (NameOf n.parent n.child n.name n.exec) (subst (λ h. Contains r.change.hunks h) n.is c.requires.member) (first_member n.parent (n.child ∷ []))
