use Rattle.std.proofs.Common.{refl}
use Rattle.pj_tree.proofs.walker.Guide.inner.Goals as goal

pub returns-in_ok-inside-in-Dir : goal.returns-in_ok-inside-in-Dir
returns-in_ok-inside-in-Dir c = rw c.in-Dir.is (_, refl, record { prefix = c.in_ok-inside-in-Dir.ensures; are = c.children.ensures; first = refl })
