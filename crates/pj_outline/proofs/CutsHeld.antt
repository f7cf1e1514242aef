-- A change cuts its own blocks and those of its needs alone, so a lawful list cuts only before points of its own changes.
use Rattle.std.proofs.Common.{◌≡◌, ◌∙◌, sym, subst, refl, ℕ, zero, suc, ◌+◌, true, List, [], ◌∷◌, nat_lt, inl, inr}
use Rattle.std.specs.Prelude.{Contains, ◌⊎◌, slice_index_or, flat_map}
use Rattle.pj_name.specs.declared.name.Name.{Name}
use Rattle.pj_change.specs.declared.point.Point.{Point}
use Rattle.pj_change.specs.declared.point.Ref.{Ref}
use Rattle.pj_change.specs.declared.point.Ref.TheVariants as ref
use Rattle.pj_change.specs.declared.hunk.Hunk.{Hunk}
use Rattle.pj_change.specs.declared.hunk.Hunk.TheVariants.{File, Dir, NameOf, Insert, Order, Delete, Revive}
use Rattle.pj_change.specs.declared.change.Record.{Record}
use Rattle.pj_change.specs.Positions.{resolve, numbered, same_point}
use Rattle.pj_change.specs.Vertices.{is_cut}
use Rattle.pj_change.specs.CutCounts.{point_after, point_at, cut_points, range_ends, cuts_by, cuts_before}
use Rattle.pj_change.specs.Lawful.{is_held, IsLawful}
use Rattle.pj_change.proofs.Members.{first_member, later_member, uncons, no_member, moved, same_member, passes, any_member, all_member, splits, before_member}
use Rattle.pj_change.proofs.LawfulLists.{append_cases, held, held_member}
use Rattle.pj_change.proofs.Counting.{positive_sum, positive_count}
use Rattle.pj_change.proofs.CountedCuts.{counted_cut}
use Rattle.pj_change.proofs.EqualNames.{same_point_is, same_point_itself}
use Rattle.pj_change.proofs.PickedMembers.{flat_from}

-- ---- whose points a change cuts before

-- a point of the change itself, or of one that it needs
abbrev IsOwnOrNeeded : Record → Point → Type 0
IsOwnOrNeeded r p = (p.change ≡ r.name) ⊎ Contains r.change.needs p.change

found_or_default : (names : List Name) (k : ℕ) (default : Name) → (slice_index_or names k default ≡ default) ⊎ Contains names (slice_index_or names k default)
found_or_default [] k default = inl refl
found_or_default (n ∷ names) zero default = inr (first_member n names)
found_or_default (n ∷ names) (suc k) default = elim (found_or_default names k default) [
  | inl e ↦ inl e
  | inr m ↦ inr (later_member n names (slice_index_or names k default) m)
]

-- what a number means
own_or_needed : (r : Record) (k : ℕ) → (numbered r k ≡ r.name) ⊎ Contains r.change.needs (numbered r k)
own_or_needed r zero = inl refl
own_or_needed r (suc k) = found_or_default r.change.needs k r.name

module _ (r : Record) (p : Point) where
  one_point : (q : Point) → IsOwnOrNeeded r q → Contains (q ∷ []) p → IsOwnOrNeeded r p
  one_point q own m = elim (uncons q [] p m) [ inl e ↦ subst (IsOwnOrNeeded r) e own | inr n ↦ absurd (no_member p n) ]

  after_ref : (at : Ref) → Contains (point_after (resolve r at)) p → IsOwnOrNeeded r p
  after_ref ref.Root m = absurd (no_member p m)
  after_ref (ref.At owner offset) m = one_point (record { change = numbered r owner; offset = offset + 1 }) (own_or_needed r owner) m

  at_ref : (at : Ref) → Contains (point_at (resolve r at)) p → IsOwnOrNeeded r p
  at_ref ref.Root m = absurd (no_member p m)
  at_ref (ref.At owner offset) m = one_point (record { change = numbered r owner; offset = offset }) (own_or_needed r owner) m

  range_end : (owner start end : ℕ) → Contains (range_ends r owner start end) p → IsOwnOrNeeded r p
  range_end owner start end m =
      let to : Point = record { change = numbered r owner; offset = end } in
      elim (uncons (record { change = numbered r owner; offset = start }) (to ∷ []) p m) [
        | inl e ↦ subst (IsOwnOrNeeded r) e (own_or_needed r owner)
        | inr n ↦ one_point to (own_or_needed r owner) n
      ]

  hunk_cuts : (h : Hunk) → Contains (cut_points r h) p → IsOwnOrNeeded r p
  hunk_cuts (File parent name exec) m = absurd (no_member p m)
  hunk_cuts (Dir parent name) m = absurd (no_member p m)
  hunk_cuts (NameOf parent child name exec) m = absurd (no_member p m)
  hunk_cuts (Insert file ups downs bytes) m = elim (append_cases (flat_map (λ up. point_after (resolve r up)) ups) _ p m) [
    | inl k ↦ (let h = flat_from (λ up. point_after (resolve r up)) ups p k in after_ref h.0 h.2)
    | inr k ↦ (let h = flat_from (λ down. point_at (resolve r down)) downs p k in at_ref h.0 h.2)
  ]
  hunk_cuts (Order file source target) m = elim (append_cases (point_after (resolve r source)) _ p m) [
    | inl k ↦ after_ref source k
    | inr k ↦ at_ref target k
  ]
  hunk_cuts (Delete owner start end by) m = range_end owner start end m
  hunk_cuts (Revive owner start end by) m = range_end owner start end m

  change_cuts : Contains (flat_map (cut_points r) r.change.hunks) p → IsOwnOrNeeded r p
  change_cuts m = (let h = flat_from (cut_points r) r.change.hunks p m in hunk_cuts h.0 h.2)

  -- a point that is counted is one of those before which the change cuts
  pub cut_listed : nat_lt 0 (cuts_by r p) ≡ true → Contains (flat_map (cut_points r) r.change.hunks) p
  cut_listed e =
      let k = passes (λ q. same_point q p) (flat_map (cut_points r) r.change.hunks) (sym (positive_count (λ q. same_point q p) (flat_map (cut_points r) r.change.hunks)) ∙ e) in
      same_member (flat_map (cut_points r) r.change.hunks) (same_point_is k.it p k.is) k.member

  -- and each of these is counted
  pub listed_cut : Contains (flat_map (cut_points r) r.change.hunks) p → nat_lt 0 (cuts_by r p) ≡ true
  listed_cut m = positive_count (λ q. same_point q p) (flat_map (cut_points r) r.change.hunks) ∙ any_member (λ q. same_point q p) (flat_map (cut_points r) r.change.hunks) p m (same_point_itself p)

-- ---- in a lawful list

module _ (S : List Record) (lawful : IsLawful S) where
  needs_held : (r : Record) → Contains S r → (n : Name) → Contains r.change.needs n → is_held S n ≡ true
  needs_held r m n need =
      let k = splits S r m in
      let f = lawful k.before r k.after k.is in
      let h = held k.before n (all_member (is_held k.before) r.change.needs n f.needs need) in
      held_member S n h.0 (record { member = moved h.0 (sym k.is) (before_member k.before k.after r h.0 h.1.member); named = h.1.named })

  -- a cut is before a point of one of its changes
  pub cut_held : (p : Point) → is_cut S p ≡ true → is_held S p.change ≡ true
  cut_held p e =
      let some : nat_lt 0 (cuts_before S p) ≡ true = counted_cut p S ∙ e in
      let k = passes (λ r. nat_lt 0 (cuts_by r p)) S (sym (positive_sum (λ r. cuts_by r p) (λ r. nat_lt 0 (cuts_by r p)) S (λ r. refl)) ∙ some) in
      elim (change_cuts k.it p (cut_listed k.it p k.is)) [
        | inl own ↦ held_member S p.change k.it (record { member = k.member; named = sym own })
        | inr need ↦ needs_held k.it k.member p.change need
      ]
