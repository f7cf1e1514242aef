use Rattle.pj_change.specs.Shared.{records}
use Rattle.pj_plain.specs.LiveText.{is_live_in}
use Rattle.pj_plain.proofs.Places.{Placed}
use Rattle.pj_plain.proofs.file_text.places.Given as goal

-- the first vertices have their places
abbrev pub invariant-loop-v : goal.invariant-loop-v
invariant-loop-v l = Placed (is_live_in (records l.set.changes.now) l.inode) l.set.vertices.now l.v-index l.count l.places.items
