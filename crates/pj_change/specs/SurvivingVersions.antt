-- The surviving versions of a byte or a name in a set S, in order: the owner's, and then the others by the names of their changes.
use Rattle.std.specs.Prelude.{◌≡◌, ℕ, IsTrue, Bool, List, Option, Some, None, Contains, slice_get}
use Rattle.std.specs.declared.cmp.Ordering.{Ordering}
use Rattle.std.specs.Ordering.{on}
use Rattle.std.specs.Option.{option_cmp}
use Rattle.pj_name.specs.declared.name.Name.{Name}
use Rattle.pj_name.specs.Name.{name_cmp}
use Rattle.pj_change.specs.declared.point.Point.{Point}
use Rattle.pj_change.specs.declared.hunk.Hunk.{Hunk}
use Rattle.pj_change.specs.declared.version.Version.{Version}
use Rattle.pj_change.specs.declared.version.Version.TheVariants.{Owner, Deleted, Revived}
use Rattle.pj_change.specs.declared.change.Record.{Record}
use Rattle.pj_change.specs.Covers.{covers, is_delete, is_revive}
use Rattle.pj_change.specs.Versions.{survives}
use Rattle.pj_change.specs.Graph.{Lists}

-- a change of S of this name has at this number a hunk of such a kind that covers the point, and its version survives
pub record SurvivesBy (S : List Record) (p : Point) (is_kind : Hunk → Bool) (change : Name) (number : ℕ) : Type 0 where
  pub by : Record
  pub member : Contains S by
  pub name : by.name ≡ change
  pub hunk : Hunk
  pub there : slice_get by.change.hunks number ≡ Some hunk
  pub kind : IsTrue (is_kind hunk)
  pub covered : IsTrue (covers by hunk p)
  pub survives_it : IsTrue (survives S change p)

-- the version of the point survives
abbrev pub IsSurvivor : List Record → Point → Version → Type 0
IsSurvivor S p Owner = IsTrue (survives S p.change p)
IsSurvivor S p (Deleted change hunk) = SurvivesBy S p is_delete change hunk
IsSurvivor S p (Revived change hunk) = SurvivesBy S p is_revive change hunk

-- the change of a version that is not the owner's
abbrev pub changer : Version → Option Name
changer Owner = None
changer (Deleted change hunk) = Some change
changer (Revived change hunk) = Some change

-- the owner's first, then by the name of the change
abbrev pub version_cmp : Version → Version → Ordering
version_cmp = on changer (option_cmp name_cmp)

-- the surviving versions of the point, in order
abbrev pub AreSurvivors : List Record → Point → List Version → Type 0
AreSurvivors S p versions = Lists version_cmp (IsSurvivor S p) versions
