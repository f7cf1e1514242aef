-- A walk over the hunks that cover a point: what is still to come, and whether one that passes a test was seen.
use Rattle.std.proofs.Common.{◌≡◌, ◌∙◌, sym, ap, refl, Bool, true, false, not, ◌&&◌, ◌||◌, ◌⊎◌, inl, inr, List, Option, Some, None}
use Rattle.std.specs.Prelude.{Contains}
use Rattle.std.specs.List.{list_any}
use Rattle.std.specs.Ordering.{is_lt, ordering_reverse}
use Rattle.std.specs.declared.cmp.Ordering.{Ordering}
use Rattle.std.specs.declared.cmp.Ordering.TheVariants.{Less, Equal, Greater}
use Rattle.std.proofs.lemmas.Bool.{and_from, or_right}
use Rattle.pj_name.specs.declared.name.Name.{Name}
use Rattle.pj_change.specs.declared.point.Point.{Point}
use Rattle.pj_change.proofs.Members.{any_member, none_passes, any_alike}
use Rattle.pj_rows.specs.declared.values.Here.{Here}
use Rattle.pj_ranges.specs.declared.range.HunkAt.{HunkAt}
use Rattle.pj_ranges.specs.declared.range.RangeAt.{RangeAt}
use Rattle.pj_ranges.specs.Units.{range_cmp}
use Rattle.pj_ranges.specs.Over.{has_point, IsOver}
use Rattle.pj_ranges.proofs.RangeOrder.{range_total, range_tied, has_it}
use Rattle.pj_ranges.proofs.Walked.{IsStep}
use Rattle.pj_states.specs.declared.deletion.Deletion.{Deletion}
use Rattle.pj_states.specs.Rows.{Rows, said_by, said_has_by, covers_point, has_by}
use Rattle.pj_states.specs.Survivals.{survives_in}
use Rattle.pj_states.specs.Statuses.{any_survives, survives_at, passes_said}
use Rattle.pj_states.specs.Index.{range_by, AreIndexed}
use Rattle.pj_states.proofs.HunkOrder.{said_there, there_said}

-- ---- the ranges of a point

module _ (es : List (RangeAt × Here)) (p : Point) where
  -- the next range of a walk is there
  abbrev pub IsHere : Option RangeAt → Type 0
  IsHere None = Unit {0}
  IsHere (Some r) = IsOver es p None r

  -- the range is still to come
  abbrev pub IsToCome : Option RangeAt → RangeAt → Type 0
  IsToCome None q = ⊥
  IsToCome (Some r) q = is_lt (range_cmp q r) ≡ false

  pub here_after : (after n : Option RangeAt) → IsStep es p after n → IsHere n
  here_after after None s = tt
  here_after after (Some r) s = record { there = s.one.there; over = s.one.over; above = tt }

  pub to_come_first : (n : Option RangeAt) → IsStep es p None n → (q : RangeAt) → IsOver es p None q → IsToCome n q
  to_come_first None s q o = s q o
  to_come_first (Some r) s q o = s.first q o

  pub to_come_then : (r : RangeAt) (n : Option RangeAt) → IsStep es p (Some r) n → (q : RangeAt) → IsOver es p None q → IsToCome (Some r) q → (q ≡ r) ⊎ IsToCome n q
  to_come_then r n s q o t = by (range_cmp q r) refl
    where
      later : (m : Option RangeAt) → IsStep es p (Some r) m → IsOver es p (Some r) q → IsToCome m q
      later None s o = s q o
      later (Some next) s o = s.first q o

      by : (u : Ordering) → range_cmp q r ≡ u → (q ≡ r) ⊎ IsToCome n q
      by Less f = absurd (let c : true ≡ false = sym (ap is_lt f) ∙ t in cc)
      by Equal f = inl (range_tied q r f)
      by Greater f = inr (later n s (record { there = o.there; over = o.over; above = range_total.antisymm r q ∙ ap ordering_reverse f }))

  pub owner_here : (r : RangeAt) → IsOver es p None r → r.owner ≡ p.change
  owner_here r o = (has_it r p o.over).owner

  -- ---- a test of hunks

  module _ (test : HunkAt → Bool) where
    -- b says whether a hunk that passes was seen before the next range
    pub record IsWalked (next : Option RangeAt) (b : Bool) : Type 0 where
      pub here : IsHere next
      pub seen : (q : RangeAt) → IsOver es p None q → test q.by ≡ true → (b ≡ true) ⊎ IsToCome next q
      pub found : b ≡ true → (q : RangeAt) × IsOver es p None q × (test q.by ≡ true)

    pub walk_starts : (n : Option RangeAt) → IsStep es p None n → IsWalked n false
    walk_starts n s = record { here = here_after None n s; seen = λ q o t. inr (to_come_first n s q o); found = λ h. absurd (cc) }

    pub walk_goes : (r : RangeAt) (n : Option RangeAt) (b c : Bool) → IsWalked (Some r) b → IsStep es p (Some r) n → c ≡ (b || test r.by) → IsWalked n c
    walk_goes r n b c w s is = record {
      here = here_after (Some r) n s;
      seen = λ q o t. elim (w.seen q o t) [
        | inl f ↦ inl (is ∙ ap (λ x. x || test r.by) f)
        | inr k ↦ elim (to_come_then r n s q o k) [
          | inl same ↦ inl (is ∙ or_right b (test r.by) (ap (λ (x : RangeAt). test x.by) (sym same) ∙ t))
          | inr later ↦ inr later
        ]
      ];
      found = λ h. by b refl (sym is ∙ h);
    }
      where
        by : (x : Bool) → b ≡ x → (b || test r.by) ≡ true → (q : RangeAt) × IsOver es p None q × (test q.by ≡ true)
        by true f h = w.found f
        by false f h = (r, w.here, rw f at h)

-- ---- the hunks of a point

module _ (rows : Rows) (es : List (RangeAt × Here)) (x : AreIndexed rows es) (p : Point) where
  -- the hunk of a range that has the point covers it
  pub over_said : (r : RangeAt) → IsOver es p None r → (d : Deletion) × (said_by r.by rows ≡ Some d) × (covers_point d p ≡ true)
  over_said r o = let s = x.only r o.there in (s.0, s.1, sym (ap (λ q. has_point q p) s.2) ∙ o.over)

  -- and a hunk that covers it has such a range
  pub said_over : (k : HunkAt) (d : Deletion) → said_by k rows ≡ Some d → covers_point d p ≡ true → IsOver es p None (range_by k d)
  said_over k d h c = record { there = x.there k d h; over = c; above = tt }

  module _ (test : HunkAt → Bool) where
    pub over_passes : (r : RangeAt) → IsOver es p None r → test r.by ≡ true → list_any (λ e. covers_point e.1 p && test e.0) rows ≡ true
    over_passes r o t =
        let s = over_said r o in
        any_member (λ e. covers_point e.1 p && test e.0) rows (r.by, s.0) (there_said rows r.by s.0 s.1) (and_from _ _ s.2 t)

    pub walk_ends : (b : Bool) → IsWalked es p test None b → b ≡ list_any (λ e. covers_point e.1 p && test e.0) rows
    walk_ends true w = let f = w.found refl in sym (over_passes f.0 f.1 f.2)
    walk_ends false w = sym (none_passes (λ e. covers_point e.1 p && test e.0) rows (λ e m. by e m (covers_point e.1 p) refl (test e.0) refl))
      where
        by : (e : HunkAt × Deletion) → Contains rows e → (b : Bool) → covers_point e.1 p ≡ b → (c : Bool) → test e.0 ≡ c → (covers_point e.1 p && test e.0) ≡ false
        by e m true f true g = absurd (elim (w.seen (range_by e.0 e.1) (said_over e.0 e.1 (said_there rows x.rising e m) f) g) [ inl h ↦ (let c : false ≡ true = h in cc) | inr none ↦ none ])
        by e m true f false g = rw (f, g) refl
        by e m false f c g = rw f refl

  -- ---- what the walks ask

  -- whether a hunk has a change under `by`
  pub asked_by : (name : Name) → list_any (λ e. covers_point e.1 p && said_has_by (said_by e.0 rows) name) rows ≡ list_any (λ e. covers_point e.1 p && has_by e.1 name) rows
  asked_by name =
      any_alike (λ e. covers_point e.1 p && said_has_by (said_by e.0 rows) name) (λ e. covers_point e.1 p && has_by e.1 name) rows
      (λ e m. ap (λ o. covers_point e.1 p && said_has_by o name) (said_there rows x.rising e m))

  -- whether the version of a hunk that passes survives
  pub asked_survivors : (test : HunkAt → Deletion → Bool) → list_any (λ e. covers_point e.1 p && survives_at test rows p e.0) rows ≡ any_survives test rows p
  asked_survivors test =
      any_alike (λ e. covers_point e.1 p && survives_at test rows p e.0) (λ e. covers_point e.1 p && (survives_in rows e.0.change p && test e.0 e.1)) rows
      (λ e m. ap (λ o. covers_point e.1 p && (survives_in rows e.0.change p && passes_said test e.0 o)) (said_there rows x.rising e m))

  pub survives_found : (name : Name) (b : Bool) → b ≡ list_any (λ e. covers_point e.1 p && said_has_by (said_by e.0 rows) name) rows → not b ≡ survives_in rows name p
  survives_found name b h = ap not (h ∙ asked_by name)
