-- Points and references, counted along their lists.
use Rattle.std.proofs.Common.{◌≡◌, ◌∙◌, sym, ap, ℕ, ◌+◌, ◌<◌, ◌≤◌, List, length, take, get_or, arith, cond}
use Rattle.std.specs.Prelude.{Contains}
use Rattle.std.proofs.lemmas.List.Sums.{sum_by-take-le, count_by_more_yes}
use Rattle.pj_change.specs.declared.hunk.Hunk.{Hunk}
use Rattle.pj_change.specs.declared.hunk.Hunk.TheVariants.{File, Dir, NameOf, Insert, Order, Delete, Revive}
use Rattle.pj_change.specs.declared.change.Record.{Record}
use Rattle.pj_change.proofs.PositionLemmas.{insertion_some}
use Rattle.pj_change.specs.declared.point.Point.{Point}
use Rattle.pj_change.specs.Positions.{same_point}
use Rattle.pj_change.proofs.EqualNames.{same_point_itself}
use Rattle.pj_cuts.specs.CutsOf.{count_in, HasBytes}

-- a point of the list is counted once more than among those before it
pub room_at : (points : List Point) (i : ℕ) (p : Point) → i < length points → p ≡ get_or points i p → count_in (take i points) p + 1 ≤ count_in points p
room_at points i p l is =
    let step = count_by_more_yes (λ q. same_point q p) points i p l (ap (λ (q : Point). same_point q p) (sym is) ∙ same_point_itself p) in
    let most = sum_by-take-le (λ (q : Point). cond (same_point q p) 1 0) points (i + 1) in
    omega (arith, step, most)

-- the bytes of an insertion
pub has_bytes : (r : Record) (h : Hunk) → Contains r.change.hunks h → HasBytes h
has_bytes r (File parent name exec) m = tt
has_bytes r (Dir parent name) m = tt
has_bytes r (NameOf parent child name exec) m = tt
has_bytes r (Insert file ups downs bytes) m = let some = insertion_some r file ups downs bytes m in omega (arith, some)
has_bytes r (Order file source target) m = tt
has_bytes r (Delete owner start end by) m = tt
has_bytes r (Revive owner start end by) m = tt
