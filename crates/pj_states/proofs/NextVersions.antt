-- From the next hunk to the next version, and from that to the answer of `surviving`.
use Rattle.std.proofs.Common.{◌≡◌, ◌∙◌, sym, refl, Bool, true, false, Option, Some, None, cond}
use Rattle.std.specs.Prelude.{MatchOption}
use Rattle.std.specs.Ordering.{is_lt}
use Rattle.pj_name.specs.declared.name.Name.{Name}
use Rattle.pj_change.specs.declared.point.Point.{Point}
use Rattle.pj_change.specs.declared.version.Version.{Version}
use Rattle.pj_change.specs.declared.version.Version.TheVariants.{Owner, Deleted, Revived}
use Rattle.pj_change.specs.SurvivingVersions.{version_cmp, changer}
use Rattle.pj_ranges.specs.declared.range.HunkAt.{HunkAt}
use Rattle.pj_states.specs.declared.deletion.Deletion.{Deletion}
use Rattle.pj_states.specs.Rows.{Rows, hunk_at}
use Rattle.pj_states.specs.Survivals.{survives_in, comes_after, is_name_after, is_changer_after, version_by, SurvivesIn, IsSurvivorIn, IsNextSurvivor, IsNextHunk, IsNextChanged}

module _ (rows : Rows) (p : Point) where
  -- ---- the version of a hunk

  pub version_survives : (k : HunkAt) (d : Deletion) → SurvivesIn rows p k d → IsSurvivorIn rows p (version_by k d)
  version_survives k d s = by d.alive refl
    where
      by : (b : Bool) → d.alive ≡ b → IsSurvivorIn rows p (cond d.alive (Revived k.change k.hunk) (Deleted k.change k.hunk))
      by true f = rw f (d, s, f)
      by false f = rw f (d, s, f)

  changer_of : (k : HunkAt) (d : Deletion) → changer (version_by k d) ≡ Some k.change
  changer_of k d = by d.alive refl
    where
      by : (b : Bool) → d.alive ≡ b → changer (cond d.alive (Revived k.change k.hunk) (Deleted k.change k.hunk)) ≡ Some k.change
      by true f = rw f refl
      by false f = rw f refl

  after_by_changer : (after : Option Name) (k : HunkAt) (d : Deletion) → is_changer_after after (version_by k d) ≡ is_name_after after k.change
  after_by_changer after k d = by d.alive refl
    where
      by : (b : Bool) → d.alive ≡ b → is_changer_after after (cond d.alive (Revived k.change k.hunk) (Deleted k.change k.hunk)) ≡ is_name_after after k.change
      by true f = rw f refl
      by false f = rw f refl

  -- ---- from hunks to versions

  pub no_version : (after : Option Name) → ((k : HunkAt) (d : Deletion) → SurvivesIn rows p k d → is_name_after after k.change ≡ true → ⊥) →
      (v : Version) → IsSurvivorIn rows p v → is_changer_after after v ≡ true → ⊥
  no_version after none Owner s up = (let c : false ≡ true = up in cc)
  no_version after none (Deleted change hunk) s up = none (hunk_at change hunk) s.0 s.1 up
  no_version after none (Revived change hunk) s up = none (hunk_at change hunk) s.0 s.1 up

  pub next_changed : (after : Option Name) (k : HunkAt) (n : IsNextHunk rows p after k) → IsNextChanged rows p after (version_by k n.deletion)
  next_changed after k n = record {
    one = version_survives k n.deletion n.one;
    above = after_by_changer after k n.deletion ∙ n.above;
    first = first;
  }
    where
      first : (w : Version) → IsSurvivorIn rows p w → is_changer_after after w ≡ true → is_lt (version_cmp w (version_by k n.deletion)) ≡ false
      first Owner s up = absurd (let c : false ≡ true = up in cc)
      first (Deleted change hunk) s up = rw (changer_of k n.deletion) (n.first (hunk_at change hunk) s.0 s.1 up)
      first (Revived change hunk) s up = rw (changer_of k n.deletion) (n.first (hunk_at change hunk) s.0 s.1 up)

  -- ---- the owner's version

  abbrev IsAnswer : Option Version → Option Version → Type 0
  IsAnswer after r = MatchOption r ((v : Version) → IsSurvivorIn rows p v → comes_after after v ≡ true → ⊥) (IsNextSurvivor rows p after)

  abbrev IsChangedAnswer : Option Name → Option Version → Type 0
  IsChangedAnswer after r = MatchOption r ((v : Version) → IsSurvivorIn rows p v → is_changer_after after v ≡ true → ⊥) (IsNextChanged rows p after)

  pub owner_first : survives_in rows p.change p ≡ true → IsNextSurvivor rows p None Owner
  owner_first s = record { one = s; above = refl; first = first }
    where
      first : (w : Version) → IsSurvivorIn rows p w → comes_after None w ≡ true → is_lt (version_cmp w Owner) ≡ false
      first Owner t up = refl
      first (Deleted change hunk) t up = refl
      first (Revived change hunk) t up = refl

  -- without it the others are all
  pub others_first : survives_in rows p.change p ≡ false → (r : Option Version) → IsChangedAnswer None r → IsAnswer None r
  others_first gone None a = none
    where
      none : (v : Version) → IsSurvivorIn rows p v → comes_after None v ≡ true → ⊥
      none Owner s up = (let c : true ≡ false = sym s ∙ gone in cc)
      none (Deleted change hunk) s up = a (Deleted change hunk) s refl
      none (Revived change hunk) s up = a (Revived change hunk) s refl
  others_first gone (Some v) a = record { one = a.one; above = refl; first = first }
    where
      first : (w : Version) → IsSurvivorIn rows p w → comes_after None w ≡ true → is_lt (version_cmp w v) ≡ false
      first Owner s up = absurd (let c : true ≡ false = sym s ∙ gone in cc)
      first (Deleted change hunk) s up = a.first (Deleted change hunk) s refl
      first (Revived change hunk) s up = a.first (Revived change hunk) s refl

  -- ---- after a version

  after_one : (u v : Version) → is_changer_after (changer u) v ≡ comes_after (Some u) v
  after_one Owner Owner = refl
  after_one Owner (Deleted d l) = refl
  after_one Owner (Revived d l) = refl
  after_one (Deleted c k) Owner = refl
  after_one (Deleted c k) (Deleted d l) = refl
  after_one (Deleted c k) (Revived d l) = refl
  after_one (Revived c k) Owner = refl
  after_one (Revived c k) (Deleted d l) = refl
  after_one (Revived c k) (Revived d l) = refl

  pub next_after_one : (u : Version) (r : Option Version) → IsChangedAnswer (changer u) r → IsAnswer (Some u) r
  next_after_one u None a = λ v s up. a v s (after_one u v ∙ up)
  next_after_one u (Some v) a = record {
    one = a.one;
    above = sym (after_one u v) ∙ a.above;
    first = λ w s up. a.first w s (after_one u w ∙ up);
  }
