-- Which change may come to the tree of a list, or go from it.
use Rattle.std.specs.Prelude.{◌≡◌, List, ◌∷◌, ◌++◌, Contains}
use Rattle.pj_change.specs.declared.change.Record.{Record}
use Rattle.pj_change.specs.Lawful.{IsLawful, Follows}
use Rattle.pj_change.specs.Sets.{HaveSameMembers}
use Rattle.pj_tree.specs.Rows.{Listing}
use Rattle.pj_tree.specs.TreeOf.{IsTreeOf}

-- the tree is that of a lawful list that the change may follow, and the others are the changes of the list
pub record MayGain (others : List Record) (tree : Listing) (r : Record) : Type 0 where
  pub list : List Record
  pub lawful : IsLawful list
  pub follows : Follows list r
  pub same : HaveSameMembers others list
  pub is : IsTreeOf list tree

-- the tree is that of a lawful list that is lawful without the change, and the others are the changes of the list without it
pub record MayLose (others : List Record) (tree : Listing) (r : Record) : Type 0 where
  pub before : List Record
  pub after : List Record
  pub lawful : IsLawful (before ++ r ∷ after)
  pub left : IsLawful (before ++ after)
  pub same : HaveSameMembers others (before ++ after)
  pub is : IsTreeOf (before ++ r ∷ after) tree

-- two of these of one name are one
abbrev pub HaveOneEach : List Record → Type 0
HaveOneEach S = (r s : Record) → Contains S r → Contains S s → r.name ≡ s.name → r ≡ s
