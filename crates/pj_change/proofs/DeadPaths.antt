-- Paths over dead things alone, and the connected sets of dead things.
use Rattle.std.proofs.Common.{inl, inr}
use Rattle.std.specs.declared.cmp.Ordering.{Ordering}
use Rattle.pj_change.specs.AcrossDead.{IsAcross, straight, over}
use Rattle.pj_change.specs.DeadSets.{IsDeadPath, here, on, IsEitherWay, AreConnected, IsLeastMember}

-- ---- paths

-- what such a path leads to is dead
pub end_dead : {X : Type 0} {Step : X → X → Type 0} {Dead : X → Type 0} {u v : X} → IsDeadPath Step Dead u v → Dead v
end_dead (here d) = d
end_dead (on p s d) = d

-- what it begins at is dead
pub start_dead : {X : Type 0} {Step : X → X → Type 0} {Dead : X → Type 0} {u v : X} → IsDeadPath Step Dead u v → Dead u
start_dead (here d) = d
start_dead (on p s d) = start_dead p

-- two such paths that meet are one
pub dead_trans : {X : Type 0} {Step : X → X → Type 0} {Dead : X → Type 0} {u v w : X} → IsDeadPath Step Dead u v → IsDeadPath Step Dead v w → IsDeadPath Step Dead u w
dead_trans p (here d) = p
dead_trans p (on q s d) = on (dead_trans p q) s d

-- a step from a dead thing, and then such a path
pub dead_step : {X : Type 0} {Step : X → X → Type 0} {Dead : X → Type 0} {u v w : X} → Dead u → Step u v → IsDeadPath Step Dead v w → IsDeadPath Step Dead u w
dead_step d s p = dead_trans (on (here d) s (start_dead p)) p

-- ---- what leads across

-- such a path, and then what leads across dead things, lead across dead things
pub dead_then_across : {X : Type 0} {Step : X → X → Type 0} {Dead : X → Type 0} {u v w : X} → IsDeadPath Step Dead u v → IsAcross Step Dead v w → IsAcross Step Dead u w
dead_then_across (here d) a = a
dead_then_across (on p s d) a = dead_then_across p (over s d a)

-- such a path from u, and a step that leaves it to v
pub record IsLeftTo {X : Type 0} (Step : X → X → Type 0) (Dead : X → Type 0) (u v : X) : Type 0 where
  pub last : X
  pub dead : IsDeadPath Step Dead u last
  pub leaves : Step last v

-- what leads across from a dead thing is such a path and a step that leaves it
pub left_across : {X : Type 0} (Step : X → X → Type 0) (Dead : X → Type 0) {u v : X} → Dead u → IsAcross Step Dead u v → IsLeftTo Step Dead u v
left_across Step Dead {u} d (straight s) = record { last = u; dead = here d; leaves = s }
left_across Step Dead {u} {v = w} d (over {v} s e a) = behind (left_across Step Dead e a)
  where
    behind : IsLeftTo Step Dead v w → IsLeftTo Step Dead u w
    behind l = record { last = l.last; dead = dead_step d s l.dead; leaves = l.leaves }

-- ---- connected sets

module _ {X : Type 0} (Step : X → X → Type 0) (Dead : X → Type 0) where
  -- a step either way leads back
  pub other_way : (u v : X) → IsEitherWay Step u v → IsEitherWay Step v u
  other_way u v (inl s) = inr s
  other_way u v (inr s) = inl s

  -- so does a path over a connected set
  pub connected_back : {u v : X} → AreConnected Step Dead u v → AreConnected Step Dead v u
  connected_back (here d) = here d
  connected_back (on {v} {w} p s d) = dead_step d (other_way v w s) (connected_back p)

  -- what a path over dead things joins is connected
  pub path_connected : {u v : X} → IsDeadPath Step Dead u v → AreConnected Step Dead u v
  path_connected (here d) = here d
  path_connected (on p s d) = on (path_connected p) (inl s) d

  -- connected dead things have one least member
  pub same_least : (cmp : X → X → Ordering) (u v least : X) → AreConnected Step Dead u v → IsLeastMember Step Dead cmp u least → IsLeastMember Step Dead cmp v least
  same_least cmp u v least p l = record { member = dead_trans (connected_back p) l.member; below = λ w q. l.below w (dead_trans p q) }
