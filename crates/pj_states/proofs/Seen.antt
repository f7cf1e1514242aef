-- A walk over the hunks of a point: the kinds of versions that were seen to survive, and the status that follows.
use Rattle.std.proofs.Common.{◌≡◌, ◌∙◌, sym, refl, Bool, true, false, ◌&&◌, ◌||◌, ◌⊎◌, inl, inr, List, Option, Some, None}
use Rattle.std.specs.List.{list_any}
use Rattle.std.proofs.lemmas.Bool.{and_parts, or_cases, or_left, or_right}
use Rattle.pj_change.specs.declared.graph.Status.TheVariants.{Alive, Zombie}
use Rattle.pj_change.specs.declared.point.Point.{Point}
use Rattle.pj_rows.specs.declared.values.Here.{Here}
use Rattle.pj_ranges.specs.declared.range.HunkAt.{HunkAt}
use Rattle.pj_ranges.specs.declared.range.RangeAt.{RangeAt}
use Rattle.pj_ranges.proofs.Walked.{IsStep}
use Rattle.pj_states.specs.declared.deletion.Deletion.{Deletion}
use Rattle.pj_states.specs.declared.survivors.Survivors.{Survivors}
use Rattle.pj_states.specs.Rows.{Rows, covers_point}
use Rattle.pj_states.specs.Survivals.{survives_in}
use Rattle.pj_states.specs.Statuses.{any_survives, survives_at, is_deleting, is_reviving, is_contested_one, status_by, status_in}
use Rattle.pj_states.specs.Index.{AreIndexed}
use Rattle.pj_states.proofs.Walked.{IsWalked, walk_starts, walk_goes, walk_ends, over_passes, owner_here, asked_survivors}

zombie_by : (deleted owner revived contested : Bool) → deleted ≡ true → (revived || contested) ≡ true → status_by deleted (owner || revived) contested ≡ Zombie
zombie_by false owner revived contested d h = absurd (cc)
zombie_by true true revived contested d h = refl
zombie_by true false true contested d h = refl
zombie_by true false false true d h = refl
zombie_by true false false false d h = absurd (cc)

module _ (rows : Rows) (es : List (RangeAt × Here)) (p : Point) (is_opposed : HunkAt → Bool) where
  -- these kinds were seen before the next range
  pub record AreSeen (next : Option RangeAt) (found : Survivors) : Type 0 where
    pub revived : IsWalked es p (survives_at is_reviving rows p) next found.revived
    pub deleted : IsWalked es p (survives_at is_deleting rows p) next found.deleted
    pub contested : IsWalked es p (survives_at (is_contested_one is_opposed) rows p) next found.contested

  -- and these with the hunk too
  pub record AreMore (found : Survivors) (k : HunkAt) (more : Survivors) : Type 0 where
    pub revived : more.revived ≡ (found.revived || survives_at is_reviving rows p k)
    pub deleted : more.deleted ≡ (found.deleted || survives_at is_deleting rows p k)
    pub contested : more.contested ≡ (found.contested || survives_at (is_contested_one is_opposed) rows p k)

  -- these are all that survive
  pub record AreAll (found : Survivors) : Type 0 where
    pub revived : found.revived ≡ any_survives is_reviving rows p
    pub deleted : found.deleted ≡ any_survives is_deleting rows p
    pub contested : found.contested ≡ any_survives (is_contested_one is_opposed) rows p

  pub seen_starts : (n : Option RangeAt) → IsStep es p None n → (found : Survivors) → found.revived ≡ false → found.deleted ≡ false → found.contested ≡ false → AreSeen n found
  seen_starts n s found r d c = record {
    revived = rw r (walk_starts es p (survives_at is_reviving rows p) n s);
    deleted = rw d (walk_starts es p (survives_at is_deleting rows p) n s);
    contested = rw c (walk_starts es p (survives_at (is_contested_one is_opposed) rows p) n s);
  }

  module _ (r : RangeAt) (found more : Survivors) (w : AreSeen (Some r) found) (m : AreMore found r.by more) where
    pub seen_here : r.owner ≡ p.change
    seen_here = owner_here es p r w.deleted.here

    pub seen_goes : (n : Option RangeAt) → IsStep es p (Some r) n → AreSeen n more
    seen_goes n s = record {
      revived = walk_goes es p (survives_at is_reviving rows p) r n found.revived more.revived w.revived s m.revived;
      deleted = walk_goes es p (survives_at is_deleting rows p) r n found.deleted more.deleted w.deleted s m.deleted;
      contested = walk_goes es p (survives_at (is_contested_one is_opposed) rows p) r n found.contested more.contested w.contested s m.contested;
    }

    module _ (x : AreIndexed rows es) where
      -- what was seen survives
      seen_survives : (test : HunkAt → Deletion → Bool) (b c : Bool) → IsWalked es p (survives_at test rows p) (Some r) b → c ≡ (b || survives_at test rows p r.by) → c ≡ true → any_survives test rows p ≡ true
      seen_survives test b c v is h = sym (asked_survivors rows es x p test) ∙ by (or_cases b (survives_at test rows p r.by) (sym is ∙ h))
        where
          by : (b ≡ true) ⊎ (survives_at test rows p r.by ≡ true) → list_any (λ e. covers_point e.1 p && survives_at test rows p e.0) rows ≡ true
          by (inl f) = let q = v.found f in over_passes rows es x p (survives_at test rows p) q.0 q.1 q.2
          by (inr t) = over_passes rows es x p (survives_at test rows p) r v.here t

      -- a deletion that survives beside a revival, or that is contested, makes the point a zombie
      pub seen_zombie : (more.deleted && (more.revived || more.contested)) ≡ true → status_in is_opposed rows p ≡ Zombie
      seen_zombie h =
          let both = and_parts more.deleted (more.revived || more.contested) h in
          zombie_by (any_survives is_deleting rows p) (survives_in rows p.change p) (any_survives is_reviving rows p) (any_survives (is_contested_one is_opposed) rows p)
          (seen_survives is_deleting found.deleted more.deleted w.deleted m.deleted both.0) (opposed (or_cases more.revived more.contested both.1))
        where
          opposed : (more.revived ≡ true) ⊎ (more.contested ≡ true) → (any_survives is_reviving rows p || any_survives (is_contested_one is_opposed) rows p) ≡ true
          opposed (inl f) = or_left (any_survives is_reviving rows p) (any_survives (is_contested_one is_opposed) rows p) (seen_survives is_reviving found.revived more.revived w.revived m.revived f)
          opposed (inr f) =
              or_right (any_survives is_reviving rows p) (any_survives (is_contested_one is_opposed) rows p)
              (seen_survives (is_contested_one is_opposed) found.contested more.contested w.contested m.contested f)

  -- where no range is to come, what was seen is all
  pub seen_all : AreIndexed rows es → (found : Survivors) → AreSeen None found → AreAll found
  seen_all x found w = record {
    revived = walk_ends rows es x p (survives_at is_reviving rows p) found.revived w.revived ∙ asked_survivors rows es x p is_reviving;
    deleted = walk_ends rows es x p (survives_at is_deleting rows p) found.deleted w.deleted ∙ asked_survivors rows es x p is_deleting;
    contested = walk_ends rows es x p (survives_at (is_contested_one is_opposed) rows p) found.contested w.contested ∙ asked_survivors rows es x p (is_contested_one is_opposed);
  }

  pub alive_without : (found : Survivors) → AreAll found → found.deleted ≡ false → Alive ≡ status_in is_opposed rows p
  alive_without found a f = rw (sym a.deleted ∙ f) refl

  pub status_with : (found : Survivors) → AreAll found → (owner : Bool) → owner ≡ survives_in rows p.change p →
      status_by found.deleted (owner || found.revived) found.contested ≡ status_in is_opposed rows p
  status_with found a owner o = λ i. status_by (a.deleted i) (o i || a.revived i) (a.contested i)
