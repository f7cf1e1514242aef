-- The vertices in lists, one for each class.
use Rattle.std.specs.Prelude.{◌≡◌, ℕ, ◌<◌, List, [], length, slice_index_or}
use Rattle.pj_reach.specs.Closure.{Closure, classes}
use Rattle.pj_marks.specs.Classes.{members_below}

-- each list has the vertices of its class below n
pub record IsGrouped (r : Closure) (n : ℕ) (groups : List (List ℕ)) : Type 0 where
  pub each : length groups ≡ classes r
  pub group : (class : ℕ) → class < classes r → slice_index_or groups class [] ≡ members_below r n class
