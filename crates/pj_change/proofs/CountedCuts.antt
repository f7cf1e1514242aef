-- A point is cut exactly where a cut is counted before it, and the count does not depend on the order of a set's list.
use Rattle.std.proofs.Common.{◌≡◌, ◌∙◌, ap, refl, ◌+◌, ◌≤◌, Bool, true, false, ◌&&◌, ◌||◌, List, nat_lt, nat_eq}
use Rattle.std.specs.Prelude.{flat_map, ◌↔◌}
use Rattle.std.specs.List.{list_any}
use Rattle.std.proofs.lemmas.List.Folds.{list_any-append}
use Rattle.pj_name.specs.Name.{same_name}
use Rattle.std.proofs.Math.Bool.{or-false}
use Rattle.pj_change.specs.declared.point.Point.{Point}
use Rattle.pj_change.specs.declared.point.Place.{Place}
use Rattle.pj_change.specs.declared.point.Place.TheVariants as placed
use Rattle.pj_change.specs.declared.hunk.Hunk.{Hunk}
use Rattle.pj_change.specs.declared.hunk.Hunk.TheVariants.{File, Dir, NameOf, Insert, Order, Delete, Revive}
use Rattle.pj_change.specs.declared.change.Record.{Record}
use Rattle.pj_change.specs.Positions.{resolve, numbered, same_point}
use Rattle.pj_change.specs.Sets.{HaveSameMembers, HaveDistinctNames}
use Rattle.pj_change.specs.Vertices.{is_just_before, is_at, is_cut, cuts}
use Rattle.pj_change.specs.CutCounts.{point_after, point_at, cut_points, cuts_by, cuts_before}
use Rattle.pj_change.proofs.Members.{any_each}
use Rattle.pj_change.proofs.Counting.{positive_sum, positive_count, any_flat, at_least_one, from_one}
use Rattle.pj_change.proofs.DistinctRecords.{set_sum}

spread : (a b c : Bool) → ((a && b) || ((a && c) || false)) ≡ (a && (b || c))
spread true b c = ap (λ x. b || x) (or-false c)
spread false b c = refl

module _ (p : Point) where
  any_after : (at : Place) → list_any (λ q. same_point q p) (point_after at) ≡ is_just_before p at
  any_after placed.Root = refl
  any_after (placed.At q) = or-false (same_point (record { change = q.change; offset = q.offset + 1 }) p)

  any_at : (at : Place) → list_any (λ q. same_point q p) (point_at at) ≡ is_at p at
  any_at placed.Root = refl
  any_at (placed.At q) = or-false (same_point q p)

  -- a hunk cuts before each of its points, and before no other
  any_points : (r : Record) (h : Hunk) → list_any (λ q. same_point q p) (cut_points r h) ≡ cuts r p h
  any_points r (File parent name exec) = refl
  any_points r (Dir parent name) = refl
  any_points r (NameOf parent child name exec) = refl
  any_points r (Insert file ups downs bytes) =
      list_any-append (λ q. same_point q p) (flat_map (λ up. point_after (resolve r up)) ups) (flat_map (λ down. point_at (resolve r down)) downs)
      ∙ (λ i. (any_flat (λ q. same_point q p) (λ up. point_after (resolve r up)) ups ∙ any_each _ _ ups (λ up. any_after (resolve r up))) i
      || (any_flat (λ q. same_point q p) (λ down. point_at (resolve r down)) downs ∙ any_each _ _ downs (λ down. any_at (resolve r down))) i)
  any_points r (Order file source target) =
      list_any-append (λ q. same_point q p) (point_after (resolve r source)) (point_at (resolve r target))
      ∙ (λ i. any_after (resolve r source) i || any_at (resolve r target) i)
  any_points r (Delete owner start end by) = spread (same_name (numbered r owner) p.change) (nat_eq start p.offset) (nat_eq end p.offset)
  any_points r (Revive owner start end by) = spread (same_name (numbered r owner) p.change) (nat_eq start p.offset) (nat_eq end p.offset)

  positive_by : (r : Record) → nat_lt 0 (cuts_by r p) ≡ list_any (cuts r p) r.change.hunks
  positive_by r =
      positive_count (λ q. same_point q p) (flat_map (cut_points r) r.change.hunks)
      ∙ any_flat (λ q. same_point q p) (cut_points r) r.change.hunks
      ∙ any_each _ _ r.change.hunks (any_points r)

  -- the test of the count is the test of a cut
  pub counted_cut : (S : List Record) → nat_lt 0 (cuts_before S p) ≡ is_cut S p
  counted_cut S = positive_sum (λ r. cuts_by r p) (λ r. list_any (cuts r p) r.change.hunks) S positive_by

-- a point is cut exactly where its count is at least 1
pub cut_where_counted : (S : List Record) (p : Point) → (is_cut S p ≡ true) ↔ (1 ≤ cuts_before S p)
cut_where_counted S p = (at_least_one (cuts_before S p) (is_cut S p) (counted_cut p S), from_one (cuts_before S p) (is_cut S p) (counted_cut p S))

-- two lists with the same members, each once, make as many cuts
pub cuts-same : (S T : List Record) → HaveSameMembers S T → HaveDistinctNames S → HaveDistinctNames T → (p : Point) → cuts_before S p ≡ cuts_before T p
cuts-same S T same left right p = set_sum S T same left right (λ r. cuts_by r p)
