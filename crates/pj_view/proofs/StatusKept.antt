-- A change more leaves the status of each point that it does not cover, but for those at which it contests a deletion first.
use Rattle.std.proofs.Common.{◌≡◌, ◌∙◌, sym, ap, subst, refl, ℕ, zero, suc, Bool, true, false, List, [], ◌∷◌, inl, inr}
use Rattle.std.specs.Prelude.{◌⊎◌, not, ◌&&◌, ◌||◌, Contains, if◌then◌else◌, slice_index_or}
use Rattle.std.specs.List.{list_any}
use Rattle.std.proofs.lemmas.Bool.{and_parts}
use Rattle.pj_name.specs.declared.name.Name.{Name}
use Rattle.pj_name.specs.Name.{same_name}
use Rattle.pj_change.specs.declared.point.Point.{Point}
use Rattle.pj_change.specs.declared.hunk.Hunk.{Hunk}
use Rattle.pj_change.specs.declared.hunk.Hunk.TheVariants.{File, Dir, NameOf, Insert, Order, Delete, Revive}
use Rattle.pj_change.specs.declared.graph.Status.TheVariants.{Alive, Dead, Zombie}
use Rattle.pj_change.specs.declared.change.Record.{Record}
use Rattle.pj_change.specs.ContestCounts.{is_contested_by}
use Rattle.pj_change.specs.Contested.{is_hunk_contested, is_range_contested, opposes, deleted_at}
use Rattle.pj_change.specs.Covers.{covers, is_delete, is_revive, by_of, deletes, revives, touches}
use Rattle.pj_change.specs.Lawful.{is_held, IsLawful}
use Rattle.pj_change.specs.Positions.{numbered}
use Rattle.pj_change.specs.Status.{status_of, is_contested}
use Rattle.pj_change.specs.Versions.{overrules, survives, deletion_survives, life_survives}
use Rattle.pj_change.proofs.EqualNames.{same_name_is}
use Rattle.pj_change.proofs.LawfulLists.{held, held_member}
use Rattle.pj_change.proofs.Members.{any_member, passes, none_member, none_passes, any_alike, all_member, splits, moved, before_member, first_member, later_member}
use Rattle.pj_view.specs.Added.{MayTurn, covered, contested}
use Rattle.pj_view.specs.Touched.{HasOneMore}

-- ---- tests of two sets

-- tests that hold together are one
pub both_ways : (a b : Bool) → (a ≡ true → b ≡ true) → (b ≡ true → a ≡ true) → a ≡ b
both_ways true b f g = sym (f refl)
both_ways false true f g = g refl
both_ways false false f g = refl

named : (names : List Name) (k : ℕ) (default : Name) → (slice_index_or names k default ≡ default) ⊎ Contains names (slice_index_or names k default)
named [] k default = inl refl
named (n ∷ names) zero default = inr (first_member n names)
named (n ∷ names) (suc k) default = elim (named names k default) [
  | inl e ↦ inl e
  | inr m ↦ inr (later_member n names (slice_index_or names k default) m)
]

-- ---- where a status may become another one

module _ (S : List Record) (c : Record) (p : Point) where
  abbrev turns_by : Record → Hunk → Bool
  turns_by d h = covers d h p && (is_contested_by S d h c && not (is_hunk_contested S d h))

  abbrev turns_in : Record → Bool
  turns_in d = list_any (turns_by d) d.change.hunks

  not_false : (b : Bool) → not b ≡ true → b ≡ false
  not_false true e = absurd (cc)
  not_false false e = refl

  -- whether it may is decided
  pub may_or_not : MayTurn S c p ⊎ (MayTurn S c p → ⊥)
  may_or_not = by (touches c p) refl (list_any turns_in S) refl
    where
      by : (t : Bool) → touches c p ≡ t → (n : Bool) → list_any turns_in S ≡ n → MayTurn S c p ⊎ (MayTurn S c p → ⊥)
      by true e n f = inl (covered e)
      by false e true f =
          let d = passes turns_in S f in
          let h = passes (turns_by d.it) d.it.change.hunks d.is in
          let a = and_parts (covers d.it h.it p) (is_contested_by S d.it h.it c && not (is_hunk_contested S d.it h.it)) h.is in
          let b = and_parts (is_contested_by S d.it h.it c) (not (is_hunk_contested S d.it h.it)) a.1 in
          inl (contested d.it d.member h.it h.member a.0 b.0 (not_false (is_hunk_contested S d.it h.it) b.1))
      by false e false f = inr none
        where
          none : MayTurn S c p → ⊥
          none (covered t) = (let k : true ≡ false = sym t ∙ e in cc)
          none (contested d m h n k o free) =
              let quiet : turns_in d ≡ false = none_member turns_in S d f m in
              let q : turns_by d h ≡ false = none_member (turns_by d) d.change.hunks h quiet n in
              let clash : true ≡ false = rw (k, o, free) at q in
              cc

own_or_need : (r : Record) (k : ℕ) → (numbered r k ≡ r.name) ⊎ Contains r.change.needs (numbered r k)
own_or_need r zero = inl refl
own_or_need r (suc k) = named r.change.needs k r.name

module _ (S T : List Record) (c : Record) (more : HasOneMore S T c) where
  -- a test that c fails passes in T where it passes in S
  any_kept : (f g : Record → Bool) → ((r : Record) → Contains S r → f r ≡ g r) → f c ≡ false → list_any f T ≡ list_any g S
  any_kept f g same fails = both_ways (list_any f T) (list_any g S) there back
    where
      there : list_any f T ≡ true → list_any g S ≡ true
      there e =
          let k = passes f T e in
          elim (more.only k.it k.member) [
            | inl m ↦ any_member g S k.it m (sym (same k.it m) ∙ k.is)
            | inr s ↦ absurd (let t : f c ≡ true = subst (λ r. f r ≡ true) s k.is in let clash : false ≡ true = sym fails ∙ t in cc)
          ]

      back : list_any g S ≡ true → list_any f T ≡ true
      back e = (let k = passes g S e in any_member f T k.it (more.kept k.it k.member) (same k.it k.member ∙ k.is))

  -- a test that passes in S passes in T
  any_more : (f : Record → Bool) → list_any f S ≡ true → list_any f T ≡ true
  any_more f e = (let k = passes f S e in any_member f T k.it (more.kept k.it k.member) k.is)

  -- a hunk that is contested in S is contested in T
  contest_more : (d : Record) (h : Hunk) → is_hunk_contested S d h ≡ true → is_hunk_contested T d h ≡ true
  contest_more d (File parent name exec) e = e
  contest_more d (Dir parent name) e = e
  contest_more d (NameOf parent child name exec) e = e
  contest_more d (Insert file ups downs bytes) e = e
  contest_more d (Order file source target) e = e
  contest_more d (Revive owner start end by) e = e
  contest_more d (Delete owner start end by) e =
      let k = passes (λ o. same_name o.name (numbered d owner) && is_range_contested S d o start end) S e in
      let a = and_parts (same_name k.it.name (numbered d owner)) (is_range_contested S d k.it start end) k.is in
      let range : is_range_contested T d k.it start end ≡ true = any_more (λ i. opposes i d k.it.name start end (deleted_at k.it start)) a.1 in
      any_member (λ o. same_name o.name (numbered d owner) && is_range_contested T d o start end) T k.it (more.kept k.it k.member) (rw (a.0, range) refl)

  module _ (lawful : IsLawful S) where
    -- a change of S speaks of no change but those of S
    pub not_new : (d : Record) → Contains S d → (owner : ℕ) → numbered d owner ≡ c.name → ⊥
    not_new d m owner e =
        let there : is_held S (numbered d owner) ≡ true = elim (own_or_need d owner) [
          | inl own ↦ held_member S (numbered d owner) d (record { member = m; named = sym own })
          | inr need ↦ (
              let s = splits S d m in
              let f = lawful s.before d s.after s.is in
              let w = held s.before (numbered d owner) (all_member (is_held s.before) d.change.needs (numbered d owner) f.needs need) in
              held_member S (numbered d owner) w.0 (record { member = moved w.0 (sym s.is) (before_member s.before s.after d w.0 w.1.member); named = w.1.named }))
        ] in
        let f : is_held S (numbered d owner) ≡ false = ap (is_held S) e ∙ more.fresh in
        let clash : true ≡ false = sym there ∙ f in
        cc

    other : (b : Bool) → (b ≡ true → ⊥) → b ≡ false
    other true n = absurd (n refl)
    other false n = refl

    and_false : (a b : Bool) → a ≡ false → (a && b) ≡ false
    and_false true b e = absurd (cc)
    and_false false b e = refl

    -- a hunk of S that c does not contest is contested in both or in none
    contest_kept : (d : Record) → Contains S d → (h : Hunk) → is_contested_by S d h c ≡ false → is_hunk_contested T d h ≡ is_hunk_contested S d h
    contest_kept d m (File parent name exec) e = refl
    contest_kept d m (Dir parent name) e = refl
    contest_kept d m (NameOf parent child name exec) e = refl
    contest_kept d m (Insert file ups downs bytes) e = refl
    contest_kept d m (Order file source target) e = refl
    contest_kept d m (Revive owner start end by) e = refl
    contest_kept d m (Delete owner start end by) e =
        any_kept (λ o. same_name o.name (numbered d owner) && is_range_contested T d o start end) (λ o. same_name o.name (numbered d owner) && is_range_contested S d o start end)
        (λ o n. of_owner o n (same_name o.name (numbered d owner)) refl)
        (and_false (same_name c.name (numbered d owner)) (is_range_contested T d c start end) (other (same_name c.name (numbered d owner)) (λ s. not_new d m owner (sym (same_name_is c.name (numbered d owner) s)))))
      where
        of_owner : (o : Record) → Contains S o → (b : Bool) → same_name o.name (numbered d owner) ≡ b →
            (same_name o.name (numbered d owner) && is_range_contested T d o start end) ≡ (same_name o.name (numbered d owner) && is_range_contested S d o start end)
        of_owner o n false k = and_false (same_name o.name (numbered d owner)) (is_range_contested T d o start end) k ∙ sym (and_false (same_name o.name (numbered d owner)) (is_range_contested S d o start end) k)
        of_owner o n true k =
            let none : (same_name o.name (numbered d owner) && opposes c d o.name start end (deleted_at o start)) ≡ false =
            none_member (λ (w : Record). same_name w.name (numbered d owner) && opposes c d w.name start end (deleted_at w start)) S o e n in
            let quiet : opposes c d o.name start end (deleted_at o start) ≡ false = sym (ap (λ b. b && opposes c d o.name start end (deleted_at o start)) k) ∙ none in
            ap (λ b. same_name o.name (numbered d owner) && b) (any_kept (λ i. opposes i d o.name start end (deleted_at o start)) (λ i. opposes i d o.name start end (deleted_at o start)) (λ i l. refl) quiet)

    module _ (p : Point) (still : MayTurn S c p → ⊥) where
      uncovered : (h : Hunk) → Contains c.change.hunks h → covers c h p ≡ false
      uncovered h m = none_member (λ k. covers c k p) c.change.hunks h (other (touches c p) (λ t. still (covered t))) m

      survives_kept : (n : Name) → survives T n p ≡ survives S n p
      survives_kept n = ap not (any_kept (λ d. list_any (overrules d n p) d.change.hunks) (λ d. list_any (overrules d n p) d.change.hunks) (λ d m. refl)
          (none_passes (overrules c n p) c.change.hunks (λ h m. and_false (covers c h p) (list_any (λ k. same_name (numbered c k) n) (by_of h)) (uncovered h m))))

      and_none : (a b : Bool) → b ≡ false → (a && b) ≡ false
      and_none true b e = e
      and_none false b e = refl

      deletion_kept : deletion_survives T p ≡ deletion_survives S p
      deletion_kept = any_kept (λ d. deletes d p && survives T d.name p) (λ d. deletes d p && survives S d.name p) (λ d m. ap (λ b. deletes d p && b) (survives_kept d.name))
          (and_false (deletes c p) (survives T c.name p) (none_passes (λ h. is_delete h && covers c h p) c.change.hunks (λ h m. and_none (is_delete h) (covers c h p) (uncovered h m))))

      revival_kept : list_any (λ d. revives d p && survives T d.name p) T ≡ list_any (λ d. revives d p && survives S d.name p) S
      revival_kept = any_kept (λ d. revives d p && survives T d.name p) (λ d. revives d p && survives S d.name p) (λ d m. ap (λ b. revives d p && b) (survives_kept d.name))
          (and_false (revives c p) (survives T c.name p) (none_passes (λ h. is_revive h && covers c h p) c.change.hunks (λ h m. and_none (is_revive h) (covers c h p) (uncovered h m))))

      life_kept : life_survives T p ≡ life_survives S p
      life_kept = λ i. survives_kept p.change i || revival_kept i

      hunk_kept : (d : Record) → Contains S d → (h : Hunk) → Contains d.change.hunks h → (covers d h p && is_hunk_contested T d h) ≡ (covers d h p && is_hunk_contested S d h)
      hunk_kept d m h n = by (covers d h p) refl
        where
          by : (b : Bool) → covers d h p ≡ b → (covers d h p && is_hunk_contested T d h) ≡ (covers d h p && is_hunk_contested S d h)
          by false e = and_false (covers d h p) (is_hunk_contested T d h) e ∙ sym (and_false (covers d h p) (is_hunk_contested S d h) e)
          by true e = ap (λ b. covers d h p && b) (same (is_hunk_contested S d h) refl)
            where
              same : (b : Bool) → is_hunk_contested S d h ≡ b → is_hunk_contested T d h ≡ is_hunk_contested S d h
              same true f = contest_more d h f ∙ sym f
              same false f = contest_kept d m h (other (is_contested_by S d h c) (λ t. still (contested d m h n e t f)))

      contested_kept : is_contested T p ≡ is_contested S p
      contested_kept = any_kept (λ d. survives T d.name p && list_any (λ h. covers d h p && is_hunk_contested T d h) d.change.hunks)
          (λ d. survives S d.name p && list_any (λ h. covers d h p && is_hunk_contested S d h) d.change.hunks)
          (λ d m. λ i. survives_kept d.name i && any_alike (λ h. covers d h p && is_hunk_contested T d h) (λ h. covers d h p && is_hunk_contested S d h) d.change.hunks (hunk_kept d m) i)
          (and_none (survives T c.name p) (list_any (λ h. covers c h p && is_hunk_contested T c h) c.change.hunks)
          (none_passes (λ h. covers c h p && is_hunk_contested T c h) c.change.hunks (λ h m. and_false (covers c h p) (is_hunk_contested T c h) (uncovered h m))))

      pub status_kept : status_of T p ≡ status_of S p
      unfolding status_of
      status_kept = λ i. if not (deletion_kept i) then Alive else (if life_kept i || contested_kept i then Zombie else Dead)
