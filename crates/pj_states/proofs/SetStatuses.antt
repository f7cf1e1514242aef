-- The status by the table of a set is that of the set.
use Rattle.std.proofs.Common.{◌≡◌, ◌∙◌, sym, ap, refl, ℕ, Bool, true, false, not, ◌&&◌, ◌||◌, inl, inr, List}
use Rattle.std.proofs.lemmas.Bool.{and_parts, and_from, or_right}
use Rattle.std.specs.Cmp.{both_ways}
use Rattle.pj_name.specs.declared.name.Name.{Name}
use Rattle.pj_change.specs.declared.point.Point.{Point}
use Rattle.pj_change.specs.declared.version.Version.TheVariants.{Owner, Deleted, Revived}
use Rattle.pj_change.specs.declared.change.Record.{Record}
use Rattle.pj_change.specs.Contested.{is_hunk_contested}
use Rattle.pj_change.specs.Covers.{is_delete}
use Rattle.pj_change.specs.SurvivingVersions.{SurvivesBy, IsSurvivor}
use Rattle.pj_change.specs.Versions.{deletion_survives, life_survives}
use Rattle.pj_change.specs.Status.{is_contested, status_of}
use Rattle.pj_change.proofs.Members.{any_member, passes}
use Rattle.pj_change.proofs.VersionsInOrder.{deleted_survivor, living_survivor, contested_survivor}
use Rattle.pj_pmap.specs.Pairs.{IsRising}
use Rattle.pj_ranges.specs.declared.range.HunkAt.{HunkAt}
use Rattle.pj_ranges.specs.Units.{hunk_cmp}
use Rattle.pj_states.specs.declared.deletion.Deletion.{Deletion}
use Rattle.pj_states.specs.declared.survivors.Survivors.{Survivors}
use Rattle.pj_states.specs.Rows.{Rows, hunk_at, covers_point}
use Rattle.pj_states.specs.Survivals.{survives_in, SurvivesIn}
use Rattle.pj_states.specs.Statuses.{any_survives, is_deleting, is_reviving, is_contested_one, status_by, status_in}
use Rattle.pj_states.specs.OfSets.{AreVersionsOf, AreContestedOf, SurviveIn}
use Rattle.pj_states.proofs.HunkOrder.{said_there, there_said}
use Rattle.pj_states.proofs.OfSets.{survivor_of_set, survivor_in_table}

-- ---- tests of what survives

pub not_true : (b : Bool) → not b ≡ true → b ≡ false
not_true false h = refl
not_true true h = absurd (cc)

module _ (rows : Rows) (rising : IsRising hunk_cmp rows) (p : Point) (test : HunkAt → Deletion → Bool) where
  one_survives : any_survives test rows p ≡ true → (k : HunkAt) × (d : Deletion) × SurvivesIn rows p k d × (test k d ≡ true)
  one_survives h =
      let f = passes (λ e. covers_point e.1 p && (survives_in rows e.0.change p && test e.0 e.1)) rows h in
      let a = and_parts (covers_point f.it.1 p) (survives_in rows f.it.0.change p && test f.it.0 f.it.1) f.is in
      let b = and_parts (survives_in rows f.it.0.change p) (test f.it.0 f.it.1) a.1 in
      (f.it.0, f.it.1, record { there = said_there rows rising f.it f.member; covered = a.0; survives_it = b.0 }, b.1)

  survives_one : (k : HunkAt) (d : Deletion) → SurvivesIn rows p k d → test k d ≡ true → any_survives test rows p ≡ true
  survives_one k d s t =
      any_member (λ e. covers_point e.1 p && (survives_in rows e.0.change p && test e.0 e.1)) rows (k, d) (there_said rows k d s.there) (and_from _ _ s.covered (and_from _ _ s.survives_it t))

module _ (S : List Record) (rows : Rows) (rising : IsRising hunk_cmp rows) (of : AreVersionsOf S rows) (p : Point) where
  deletion_of_set : any_survives is_deleting rows p ≡ deletion_survives S p
  deletion_of_set = both_ways (any_survives is_deleting rows p) (deletion_survives S p) there back
    where
      there : any_survives is_deleting rows p ≡ true → deletion_survives S p ≡ true
      there h =
          let s = one_survives rows rising p is_deleting h in
          (deleted_survivor S p).1 (s.0.change, s.0.hunk, survivor_of_set S rows rising of p (Deleted s.0.change s.0.hunk) (s.1, s.2, not_true s.1.alive s.3))

      back : deletion_survives S p ≡ true → any_survives is_deleting rows p ≡ true
      back h =
          let s = (deleted_survivor S p).0 h in
          let t = survivor_in_table S rows rising of p (Deleted s.0 s.1) s.2 in
          survives_one rows rising p is_deleting (hunk_at s.0 s.1) t.0 t.1 (ap not t.2)

  life_of_set : (survives_in rows p.change p || any_survives is_reviving rows p) ≡ life_survives S p
  life_of_set = both_ways (survives_in rows p.change p || any_survives is_reviving rows p) (life_survives S p) (there (survives_in rows p.change p) refl) back
    where
      there : (b : Bool) → survives_in rows p.change p ≡ b → (survives_in rows p.change p || any_survives is_reviving rows p) ≡ true → life_survives S p ≡ true
      there true e h = (living_survivor S p).1 (inl (survivor_of_set S rows rising of p Owner e))
      there false e h =
          let s = one_survives rows rising p is_reviving (rw e at h) in
          (living_survivor S p).1 (inr (s.0.change, s.0.hunk, survivor_of_set S rows rising of p (Revived s.0.change s.0.hunk) (s.1, s.2, s.3)))

      revived : (change : Name) (hunk : ℕ) → IsSurvivor S p (Revived change hunk) → any_survives is_reviving rows p ≡ true
      revived change hunk s = let t = survivor_in_table S rows rising of p (Revived change hunk) s in survives_one rows rising p is_reviving (hunk_at change hunk) t.0 t.1 t.2

      back : life_survives S p ≡ true → (survives_in rows p.change p || any_survives is_reviving rows p) ≡ true
      back h = elim ((living_survivor S p).0 h) [
        | inl o ↦ ap (λ b. b || any_survives is_reviving rows p) (survivor_in_table S rows rising of p Owner o)
        | inr r ↦ or_right (survives_in rows p.change p) (any_survives is_reviving rows p) (revived r.0 r.1 r.2)
      ]

  contest_of_set : (contested : HunkAt → Bool) → AreContestedOf S contested → any_survives (is_contested_one contested) rows p ≡ is_contested S p
  contest_of_set contested same = both_ways (any_survives (is_contested_one contested) rows p) (is_contested S p) there back
    where
      hunk_contested : (change : Name) (hunk : ℕ) (s : SurvivesBy S p is_delete change hunk) → contested (hunk_at change hunk) ≡ is_hunk_contested S s.by s.hunk
      hunk_contested change hunk s = ap (λ n. contested (hunk_at n hunk)) (sym s.name) ∙ same s.by s.member hunk s.hunk s.there

      there : any_survives (is_contested_one contested) rows p ≡ true → is_contested S p ≡ true
      there h =
          let s = one_survives rows rising p (is_contested_one contested) h in
          let both = and_parts (not s.1.alive) (contested s.0) s.3 in
          let t = survivor_of_set S rows rising of p (Deleted s.0.change s.0.hunk) (s.1, s.2, not_true s.1.alive both.0) in
          (contested_survivor S p).1 (s.0.change, s.0.hunk, t, sym (hunk_contested s.0.change s.0.hunk t) ∙ both.1)

      back : is_contested S p ≡ true → any_survives (is_contested_one contested) rows p ≡ true
      back h =
          let s = (contested_survivor S p).0 h in
          let t = survivor_in_table S rows rising of p (Deleted s.0 s.1) s.2 in
          survives_one rows rising p (is_contested_one contested) (hunk_at s.0 s.1) t.0 t.1 (and_from _ _ (ap not t.2) (hunk_contested s.0 s.1 s.2 ∙ s.3))

  -- what survives in the table survives in the set
  pub survivors_of_set : (contested : HunkAt → Bool) → AreContestedOf S contested → (found : Survivors) →
      found.owner ≡ survives_in rows p.change p → found.revived ≡ any_survives is_reviving rows p →
      found.deleted ≡ any_survives is_deleting rows p → found.contested ≡ any_survives (is_contested_one contested) rows p → SurviveIn S p found
  survivors_of_set contested same found owner revived deleted asked =
      let alive : (found.owner || found.revived) ≡ (survives_in rows p.change p || any_survives is_reviving rows p) = λ i. owner i || revived i in
      record {
        deleted = deleted ∙ deletion_of_set;
        alive = alive ∙ life_of_set;
        contested = asked ∙ contest_of_set contested same;
      }

  pub status_of_set : (contested : HunkAt → Bool) → AreContestedOf S contested → status_in contested rows p ≡ status_of S p
  unfolding status_of
  status_of_set contested same = λ i. status_by (deletion_of_set i) (life_of_set i) (contest_of_set contested same i)
