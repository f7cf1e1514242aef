use Rattle.std.proofs.Common.{◌≡◌, map, take}
use Rattle.pj_tree.specs.Frames.{has_name}
use Rattle.pj_tree.proofs.inodes.named.Given as goal

abbrev pub invariant-loop-pairing : goal.invariant-loop-pairing
invariant-loop-pairing l = l.named.items ≡ map (λ i. has_name (take l.pairing-index l.pairings) i.at) l.inodes
