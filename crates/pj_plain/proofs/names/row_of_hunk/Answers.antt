use Rattle.std.proofs.Common.{[], ◌∷◌, subst}
use Rattle.std.specs.Prelude.{Contains}
use Rattle.pj_change.specs.declared.hunk.Hunk.TheVariants.{File, Dir, NameOf}
use Rattle.pj_change.proofs.Members.{first_member, later_member}
use Rattle.pj_change.proofs.PositionLemmas.{ref_is_numbered}
use Rattle.pj_plain.proofs.names.row_of_hunk.Goals as goal

pub row_of-requires : goal.row_of-requires
row_of-requires c =
    let r = c.args.r.now in
    let n = c.in-File in
    ref_is_numbered r n.parent (File n.parent n.name n.exec) (subst (λ h. Contains r.change.hunks h) n.is c.requires.member) (first_member n.parent [])

pub row_of-requires-in-Dir : goal.row_of-requires-in-Dir
row_of-requires-in-Dir c =
    let r = c.args.r.now in
    let n = c.in-Dir in
    ref_is_numbered r n.parent (Dir n.parent n.name) (subst (λ h. Contains r.change.hunks h) n.is c.requires.member) (first_member n.parent [])

pub resolve-child-requires : goal.resolve-child-requires
resolve-child-requires c =
    let r = c.args.r.now in
    let n = c.in-NameOf in
    ref_is_numbered r n.child (NameOf n.parent n.child n.name n.exec) (subst (λ h. Contains r.change.hunks h) n.is c.requires.member)
    (later_member n.parent (n.child ∷ []) n.child (first_member n.child []))

pub row_of-requires-in-NameOf : goal.row_of-requires-in-NameOf
row_of-requires-in-NameOf c =
    let r = c.args.r.now in
    let n = c.in-NameOf in
    ref_is_numbered r n.parent (NameOf n.parent n.child n.name n.exec) (subst (λ h. Contains r.change.hunks h) n.is c.requires.member) (first_member n.parent (n.child ∷ []))
