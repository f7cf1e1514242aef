-- The table of a set says of each point what the set says.
use Rattle.std.proofs.Common.{◌≡◌, ◌∙◌, sym, ap, refl, ℕ, Bool, true, false, not, ◌&&◌, List, [], ◌∷◌, Some, map}
use Rattle.std.specs.Prelude.{Contains, slice_get, ◌||◌}
use Rattle.std.specs.List.{list_any}
use Rattle.std.specs.Cmp.{both_ways}
use Rattle.std.proofs.lemmas.Bool.{and_parts, and_from}
use Rattle.std.proofs.lemmas.Option.{slice_get-get_or}
use Rattle.pj_name.specs.declared.name.Name.{Name}
use Rattle.pj_name.specs.Name.{same_name}
use Rattle.pj_change.specs.declared.point.Point.{Point}
use Rattle.pj_change.specs.declared.hunk.Hunk.{Hunk}
use Rattle.pj_change.specs.declared.hunk.Hunk.TheVariants.{File, Dir, NameOf, Insert, Order, Delete, Revive}
use Rattle.pj_change.specs.declared.version.Version.{Version}
use Rattle.pj_change.specs.declared.version.Version.TheVariants.{Owner, Deleted, Revived}
use Rattle.pj_change.specs.declared.change.Record.{Record}
use Rattle.pj_change.specs.Positions.{numbered}
use Rattle.pj_change.specs.Covers.{covers, by_of, is_delete, is_revive}
use Rattle.pj_change.specs.Versions.{overrules, survives}
use Rattle.pj_change.specs.SurvivingVersions.{SurvivesBy, IsSurvivor}
use Rattle.pj_change.proofs.Members.{any_member, passes, member_at, no_member}
use Rattle.pj_pmap.specs.Pairs.{IsRising}
use Rattle.pj_ranges.specs.Units.{hunk_cmp}
use Rattle.pj_states.specs.declared.deletion.Deletion.{Deletion}
use Rattle.pj_states.specs.Rows.{Rows, hunk_at, said_by, covers_point, has_by}
use Rattle.pj_states.specs.Survivals.{survives_in, SurvivesIn, IsSurvivorIn}
use Rattle.pj_states.specs.OfSets.{deletion_of, IsSaid, AreVersionsOf}
use Rattle.pj_states.proofs.HunkOrder.{said_there, there_said}

pub versions_of_none : AreVersionsOf [] []
versions_of_none = λ k d. (λ h. absurd (cc), λ (s : IsSaid [] k d). absurd (no_member s.change s.member))

-- ---- what a hunk says

module _ (r : Record) (p : Point) where
  pub covers_said : (h : Hunk) (d : Deletion) → deletion_of r h ≡ Some d → covers r h p ≡ covers_point d p
  covers_said (Delete owner start end by) d e =
      let x : Deletion = record { owner = numbered r owner; start = start; end = end; by = map (numbered r) by; alive = false } in
      let s : x ≡ d = cc in
      ap (λ y. covers_point y p) s
  covers_said (Revive owner start end by) d e =
      let x : Deletion = record { owner = numbered r owner; start = start; end = end; by = map (numbered r) by; alive = true } in
      let s : x ≡ d = cc in
      ap (λ y. covers_point y p) s
  covers_said (File parent name exec) d e = absurd (cc)
  covers_said (Dir parent name) d e = absurd (cc)
  covers_said (NameOf parent child name exec) d e = absurd (cc)
  covers_said (Insert file ups downs bytes) d e = absurd (cc)
  covers_said (Order file source target) d e = absurd (cc)

  -- a hunk that covers a point says something
  pub covering_says : (h : Hunk) → covers r h p ≡ true → (d : Deletion) × (deletion_of r h ≡ Some d)
  covering_says (Delete owner start end by) c = (record { owner = numbered r owner; start = start; end = end; by = map (numbered r) by; alive = false }, refl)
  covering_says (Revive owner start end by) c = (record { owner = numbered r owner; start = start; end = end; by = map (numbered r) by; alive = true }, refl)
  covering_says (File parent name exec) c = absurd (cc)
  covering_says (Dir parent name) c = absurd (cc)
  covering_says (NameOf parent child name exec) c = absurd (cc)
  covering_says (Insert file ups downs bytes) c = absurd (cc)
  covering_says (Order file source target) c = absurd (cc)

module _ (r : Record) where
  any_map : {X Y : Type 0} (t : Y → Bool) (f : X → Y) (xs : List X) → list_any t (map f xs) ≡ list_any (λ x. t (f x)) xs
  any_map t f [] = refl
  any_map t f (x ∷ xs) = ap (λ b. t (f x) || b) (any_map t f xs)

  pub by_said : (name : Name) (h : Hunk) (d : Deletion) → deletion_of r h ≡ Some d → list_any (λ k. same_name (numbered r k) name) (by_of h) ≡ has_by d name
  by_said name (Delete owner start end by) d e =
      let x : Deletion = record { owner = numbered r owner; start = start; end = end; by = map (numbered r) by; alive = false } in
      let s : x ≡ d = cc in
      sym (any_map (λ n. same_name n name) (numbered r) by) ∙ ap (λ y. has_by y name) s
  by_said name (Revive owner start end by) d e =
      let x : Deletion = record { owner = numbered r owner; start = start; end = end; by = map (numbered r) by; alive = true } in
      let s : x ≡ d = cc in
      sym (any_map (λ n. same_name n name) (numbered r) by) ∙ ap (λ y. has_by y name) s
  by_said name (File parent n exec) d e = absurd (cc)
  by_said name (Dir parent n) d e = absurd (cc)
  by_said name (NameOf parent child n exec) d e = absurd (cc)
  by_said name (Insert file ups downs bytes) d e = absurd (cc)
  by_said name (Order file source target) d e = absurd (cc)

  -- what deletes, and what revives
  pub deleting_is : (h : Hunk) (d : Deletion) → deletion_of r h ≡ Some d → d.alive ≡ false → is_delete h ≡ true
  deleting_is (Delete owner start end by) d e a = refl
  deleting_is (Revive owner start end by) d e a =
      let x : Deletion = record { owner = numbered r owner; start = start; end = end; by = map (numbered r) by; alive = true } in
      let s : x ≡ d = cc in
      absurd (let c : true ≡ false = ap (λ (y : Deletion). y.alive) s ∙ a in cc)
  deleting_is (File parent name exec) d e a = absurd (cc)
  deleting_is (Dir parent name) d e a = absurd (cc)
  deleting_is (NameOf parent child name exec) d e a = absurd (cc)
  deleting_is (Insert file ups downs bytes) d e a = absurd (cc)
  deleting_is (Order file source target) d e a = absurd (cc)

  pub reviving_is : (h : Hunk) (d : Deletion) → deletion_of r h ≡ Some d → d.alive ≡ true → is_revive h ≡ true
  reviving_is (Revive owner start end by) d e a = refl
  reviving_is (Delete owner start end by) d e a =
      let x : Deletion = record { owner = numbered r owner; start = start; end = end; by = map (numbered r) by; alive = false } in
      let s : x ≡ d = cc in
      absurd (let c : false ≡ true = ap (λ (y : Deletion). y.alive) s ∙ a in cc)
  reviving_is (File parent name exec) d e a = absurd (cc)
  reviving_is (Dir parent name) d e a = absurd (cc)
  reviving_is (NameOf parent child name exec) d e a = absurd (cc)
  reviving_is (Insert file ups downs bytes) d e a = absurd (cc)
  reviving_is (Order file source target) d e a = absurd (cc)

  pub is_deleting_says : (h : Hunk) (d : Deletion) → deletion_of r h ≡ Some d → is_delete h ≡ true → d.alive ≡ false
  is_deleting_says (Delete owner start end by) d e k =
      let x : Deletion = record { owner = numbered r owner; start = start; end = end; by = map (numbered r) by; alive = false } in
      let s : x ≡ d = cc in
      sym (ap (λ (y : Deletion). y.alive) s)
  is_deleting_says (Revive owner start end by) d e k = absurd (cc)
  is_deleting_says (File parent name exec) d e k = absurd (cc)
  is_deleting_says (Dir parent name) d e k = absurd (cc)
  is_deleting_says (NameOf parent child name exec) d e k = absurd (cc)
  is_deleting_says (Insert file ups downs bytes) d e k = absurd (cc)
  is_deleting_says (Order file source target) d e k = absurd (cc)

  pub is_reviving_says : (h : Hunk) (d : Deletion) → deletion_of r h ≡ Some d → is_revive h ≡ true → d.alive ≡ true
  is_reviving_says (Revive owner start end by) d e k =
      let x : Deletion = record { owner = numbered r owner; start = start; end = end; by = map (numbered r) by; alive = true } in
      let s : x ≡ d = cc in
      sym (ap (λ (y : Deletion). y.alive) s)
  is_reviving_says (Delete owner start end by) d e k = absurd (cc)
  is_reviving_says (File parent name exec) d e k = absurd (cc)
  is_reviving_says (Dir parent name) d e k = absurd (cc)
  is_reviving_says (NameOf parent child name exec) d e k = absurd (cc)
  is_reviving_says (Insert file ups downs bytes) d e k = absurd (cc)
  is_reviving_says (Order file source target) d e k = absurd (cc)

-- ---- versions that survive

module _ (S : List Record) (rows : Rows) (rising : IsRising hunk_cmp rows) (of : AreVersionsOf S rows) (p : Point) where
  -- a hunk of a change of S is in the table
  pub own_said : (r : Record) → Contains S r → (number : ℕ) (h : Hunk) → slice_get r.change.hunks number ≡ Some h → (d : Deletion) → deletion_of r h ≡ Some d → said_by (hunk_at r.name number) rows ≡ Some d
  own_said r m number h there d is = (of (hunk_at r.name number) d).1 (record { change = r; member = m; name = refl; hunk = h; there = there; is = is })

  pub survives_of_set : (name : Name) → survives_in rows name p ≡ survives S name p
  survives_of_set name = ap not (both_ways (list_any (λ e. covers_point e.1 p && has_by e.1 name) rows) (list_any (λ d. list_any (overrules d name p) d.change.hunks) S) there back)
    where
      there : list_any (λ e. covers_point e.1 p && has_by e.1 name) rows ≡ true → list_any (λ d. list_any (overrules d name p) d.change.hunks) S ≡ true
      there e =
          let f = passes (λ e. covers_point e.1 p && has_by e.1 name) rows e in
          let both = and_parts (covers_point f.it.1 p) (has_by f.it.1 name) f.is in
          let s = (of f.it.0 f.it.1).0 (said_there rows rising f.it f.member) in
          any_member (λ d. list_any (overrules d name p) d.change.hunks) S s.change s.member
          (any_member (overrules s.change name p) s.change.change.hunks s.hunk (member_at s.change.change.hunks f.it.0.hunk s.hunk s.there)
          (and_from _ _ (covers_said s.change p s.hunk f.it.1 s.is ∙ both.0) (by_said s.change name s.hunk f.it.1 s.is ∙ both.1)))

      back : list_any (λ d. list_any (overrules d name p) d.change.hunks) S ≡ true → list_any (λ e. covers_point e.1 p && has_by e.1 name) rows ≡ true
      back e =
          let d = passes (λ d. list_any (overrules d name p) d.change.hunks) S e in
          let h = passes (overrules d.it name p) d.it.change.hunks d.is in
          let both = and_parts (covers d.it h.it p) (list_any (λ k. same_name (numbered d.it k) name) (by_of h.it)) h.is in
          let x = covering_says d.it p h.it both.0 in
          let number = h.member.0 in
          let at : slice_get d.it.change.hunks number ≡ Some h.it = slice_get-get_or d.it.change.hunks number h.it h.member.1 ∙ ap Some h.member.2 in
          let said = own_said d.it d.member number h.it at x.0 x.1 in
          any_member (λ e. covers_point e.1 p && has_by e.1 name) rows (hunk_at d.it.name number, x.0) (there_said rows (hunk_at d.it.name number) x.0 said)
          (and_from _ _ (sym (covers_said d.it p h.it x.0 x.1) ∙ both.0) (sym (by_said d.it name h.it x.0 x.1) ∙ both.1))

  survives_by : (is_kind : Hunk → Bool) (change : Name) (number : ℕ) (d : Deletion) → SurvivesIn rows p (hunk_at change number) d →
      ((r : Record) (h : Hunk) → deletion_of r h ≡ Some d → is_kind h ≡ true) → SurvivesBy S p is_kind change number
  survives_by is_kind change number d s kind =
      let i = (of (hunk_at change number) d).0 s.there in
      record {
        by = i.change;
        member = i.member;
        name = i.name;
        hunk = i.hunk;
        there = i.there;
        kind = kind i.change i.hunk i.is;
        covered = covers_said i.change p i.hunk d i.is ∙ s.covered;
        survives_it = sym (survives_of_set change) ∙ s.survives_it;
      }

  pub survivor_of_set : (v : Version) → IsSurvivorIn rows p v → IsSurvivor S p v
  survivor_of_set Owner s = sym (survives_of_set p.change) ∙ s
  survivor_of_set (Deleted change hunk) s = survives_by is_delete change hunk s.0 s.1 (λ r h e. deleting_is r h s.0 e s.2)
  survivor_of_set (Revived change hunk) s = survives_by is_revive change hunk s.0 s.1 (λ r h e. reviving_is r h s.0 e s.2)

  said_survives : (is_kind : Hunk → Bool) (change : Name) (number : ℕ) → (s : SurvivesBy S p is_kind change number) → (d : Deletion) → deletion_of s.by s.hunk ≡ Some d → SurvivesIn rows p (hunk_at change number) d
  said_survives is_kind change number s d is = record {
    there = ap (λ n. said_by (hunk_at n number) rows) (sym s.name) ∙ own_said s.by s.member number s.hunk s.there d is;
    covered = sym (covers_said s.by p s.hunk d is) ∙ s.covered;
    survives_it = survives_of_set change ∙ s.survives_it;
  }

  pub survivor_in_table : (v : Version) → IsSurvivor S p v → IsSurvivorIn rows p v
  survivor_in_table Owner s = survives_of_set p.change ∙ s
  survivor_in_table (Deleted change hunk) s =
      let d = covering_says s.by p s.hunk s.covered in
      (d.0, said_survives is_delete change hunk s d.0 d.1, is_deleting_says s.by s.hunk d.0 d.1 s.kind)
  survivor_in_table (Revived change hunk) s =
      let d = covering_says s.by p s.hunk s.covered in
      (d.0, said_survives is_revive change hunk s d.0 d.1, is_reviving_says s.by s.hunk d.0 d.1 s.kind)
