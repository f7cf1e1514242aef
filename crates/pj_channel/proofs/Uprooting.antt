-- Ways from a change up to those that need it, and what is left where the last of a way is taken out.
use Rattle.std.proofs.Common.{◌≡◌, ◌∙◌, refl, sym, ap, subst, inl, inr, true, false, List, [], ◌∷◌, ◌++◌, append_assoc, length, length-append, arith}
use Rattle.std.specs.Prelude.{Bool, ◌<◌, Contains, not}
use Rattle.pj_name.specs.declared.name.Name.{Name}
use Rattle.pj_name.specs.Name.{same_name}
use Rattle.pj_change.specs.declared.change.Record.{Record}
use Rattle.pj_change.specs.Lawful.{is_held, IsLawful}
use Rattle.pj_change.specs.Unrecord.{IsHolder, MayLeave, without}
use Rattle.pj_change.specs.Uproot.{Reaches, itself, by_need, IsWithout, IsUprooted}
use Rattle.pj_change.proofs.EqualNames.{same_name_is, is_same_name}
use Rattle.pj_change.proofs.LawfulChanges.{stands}
use Rattle.pj_change.proofs.LawfulLists.{held, held_member, one_record, not_held, IsRecord}
use Rattle.pj_change.proofs.Members.{splits, Splits, all_member, first_member, later_member, same_member}
use Rattle.pj_change.proofs.PickedMembers.{passed, kept}
use Rattle.pj_apply.specs.Walks.{after_name}
use Rattle.pj_apply.proofs.Distinct.{after_middle}
use Rattle.pj_channel.specs.Ways.{Climbs, IsWay}

-- ---- a change that needs another stands behind it

module _ (list : List Record) (lawful : IsLawful list) (need holder : Name) (h : IsHolder list need holder) where
  later_in : (before : List Record) (c : Record) (after : List Record) → list ≡ before ++ c ∷ after → (d : Record) → IsRecord before need d → Splits before d →
      length after < length (after_name list need)
  later_in before c after is d r s =
      let whole : list ≡ s.before ++ d ∷ (s.after ++ c ∷ after) = is ∙ ap (λ (l : List Record). l ++ c ∷ after) s.is ∙ append_assoc s.before (d ∷ s.after) (c ∷ after) in
      let fresh = (lawful s.before d (s.after ++ c ∷ after) whole).fresh in
      let behind : after_name list need ≡ s.after ++ c ∷ after =
      ap (after_name list) (sym r.named) ∙ ap (λ (l : List Record). after_name l d.name) whole ∙ after_middle d (s.after ++ c ∷ after) s.before fresh in
      let all = ap length behind ∙ length-append s.after (c ∷ after) in
      omega (arith, all)

  -- so fewer stand behind it
  pub fewer_behind : length (after_name list holder) < length (after_name list need)
  fewer_behind =
      let s = splits list h.needing h.member in
      let f = lawful s.before h.needing s.after s.is in
      let d = held s.before need (all_member (is_held s.before) h.needing.change.needs need f.needs h.needs) in
      let behind : after_name list holder ≡ s.after =
      ap (after_name list) (sym h.named) ∙ ap (λ (l : List Record). after_name l h.needing.name) s.is ∙ after_middle h.needing s.after s.before f.fresh in
      subst (λ (l : List Record). length l < length (after_name list need)) (sym behind) (later_in s.before h.needing s.after s.is d.0 d.1 (splits s.before d.0 d.1.member))

-- ---- one name more

climbs_more : (list : List Record) (need : Name) (names : List Name) (n m : Name) → IsHolder list n m → Climbs list need (names ++ n ∷ []) → Climbs list need ((names ++ n ∷ []) ++ m ∷ [])
climbs_more list need [] n m h c = (c.0, (h, tt))
climbs_more list need (x ∷ names) n m h c = (c.0, climbs_more list x names n m h c.1)

pub way_more : (list : List Record) (name : Name) (names : List Name) (n m : Name) → IsHolder list n m → IsWay list name (names ++ n ∷ []) → IsWay list name ((names ++ n ∷ []) ++ m ∷ [])
way_more list name [] n m h w = (w.0, w.1, (h, tt))
way_more list name (x ∷ names) n m h w = (w.0, w.1, climbs_more list x names n m h w.2)

-- where no name is left, the first is not held
pub no_way : (list : List Record) (name : Name) (names : List Name) → length names ≡ 0 → IsWay list name names → is_held list name ≡ false
no_way list name [] e w = w
no_way list name (x ∷ names) e w = absurd (omega arith)

-- ---- the last change of a way reaches the first

-- a change of this name that reaches the other one
pub record Reached (list : List Record) (name n : Name) : Type 0 where
  pub change : Record
  pub member : Contains list change
  pub named : change.name ≡ n
  pub reaches : Reaches list name change

module _ (list : List Record) (name : Name) where
  reached_up : (n m : Name) → Reached list name n → IsHolder list n m → Reached list name m
  reached_up n m a h = record {
    change = h.needing;
    member = h.member;
    named = h.named;
    reaches = by_need a.member (same_member h.needing.change.needs (sym a.named) h.needs) a.reaches;
  }

  reached_last : (need : Name) (names : List Name) (n : Name) → Reached list name need → Climbs list need (names ++ n ∷ []) → Reached list name n
  reached_last need [] n a c = reached_up need n a c.0
  reached_last need (m ∷ names) n a c = reached_last m names n (reached_up need m a c.0) c.1

  reached_first : (first : Name) → first ≡ name → is_held list name ≡ true → Reached list name first
  reached_first first is there = (let h = held list name there in record { change = h.0; member = h.1.member; named = h.1.named ∙ sym is; reaches = itself h.1.named })

  pub way_reaches : (names : List Name) (n : Name) → IsWay list name (names ++ n ∷ []) → Reached list name n
  way_reaches [] n w = reached_first n w.0 w.1
  way_reaches (first ∷ names) n w = reached_last first names n (reached_first first w.0 w.1) w.2

  -- where none needs it, it may leave
  pub last_may_leave : (names : List Name) (n : Name) → IsWay list name (names ++ n ∷ []) → ((holder : Name) → IsHolder list n holder → ⊥) → MayLeave list n
  last_may_leave names n w free = (let r = way_reaches names n w in (held_member list n r.change (record { member = r.member; named = r.named }), free))

-- ---- the way without its last change

module _ (list : List Record) (top : Name) (may : MayLeave list top) where
  -- others stay
  stays : (r : Record) → Contains list r → (r.name ≡ top → ⊥) → Contains (without list top) r
  stays r m other = kept (λ (s : Record). not (same_name s.name top)) list r m (ap not (go (same_name r.name top) refl))
    where
      go : (b : Bool) → same_name r.name top ≡ b → same_name r.name top ≡ false
      go true h = absurd (other (same_name_is r.name top h))
      go false h = h

  -- what another change needs is another
  needed : (n m : Name) → IsHolder list n m → n ≡ top → ⊥
  needed n m h is = may.1 m (subst (λ (k : Name). IsHolder list k m) is h)

  first_holder : (need : Name) (names : List Name) → Climbs list need (names ++ top ∷ []) → (m : Name) × IsHolder list need m
  first_holder need [] c = (top, c.0)
  first_holder need (m ∷ names) c = (m, c.0)

  holder_stays : (n m : Name) → IsHolder list n m → (m ≡ top → ⊥) → IsHolder (without list top) n m
  holder_stays n m h other = record { needing = h.needing; member = stays h.needing h.member (λ e. other (sym h.named ∙ e)); needs = h.needs; named = h.named }

  climbs_stay : (need : Name) (names : List Name) → Climbs list need (names ++ top ∷ []) → Climbs (without list top) need names
  climbs_stay need [] c = tt
  climbs_stay need (m ∷ names) c =
      let f = first_holder m names c.1 in
      (holder_stays need m c.0 (needed m f.0 f.1), climbs_stay m names c.1)

  gone : is_held (without list top) top ≡ false
  gone = not_held (without list top) top (λ r h. both r h.named (passed (λ (s : Record). not (same_name s.name top)) list r h.member).passes)
    where
      both : (r : Record) → r.name ≡ top → not (same_name r.name top) ≡ true → ⊥
      both r is other = let same = is_same_name r.name top is in let n = ap not same in cc

  pub way_less : (name : Name) (names : List Name) → IsWay list name (names ++ top ∷ []) → IsWay (without list top) name names
  way_less name [] w = subst (λ (n : Name). is_held (without list top) n ≡ false) w.0 gone
  way_less name (first ∷ names) w =
      let f = first_holder first names w.2 in
      let h = held list name w.1 in
      let there = held_member (without list top) name h.0 (record { member = stays h.0 h.1.member (λ e. needed first f.0 f.1 (w.0 ∙ sym h.1.named ∙ e)); named = h.1.named }) in
      (w.0, there, climbs_stay first names w.2)

  -- ---- what is uprooted of the others is uprooted of the list

  module _ (name : Name) where
    wider : (r : Record) → Reaches (without list top) name r → Reaches list name r
    wider r (itself e) = itself e
    wider r (by_need {s = s} m n q) = by_need (passed (λ (t : Record). not (same_name t.name top)) list s m).member n (wider s q)

    narrower : (r : Record) → Contains list r → Reaches list name r → Reaches (without list top) name r
    narrower r k (itself e) = itself e
    narrower r k (by_need {s = s} m n q) =
        by_need (stays s m (λ e. may.1 r.name (record { needing = r; member = k; needs = same_member r.change.needs e n; named = refl }))) n (narrower s m q)

-- where a name is taken out first
module _ (P Q : Record → Type 0) (name : Name) where
  taken_first : (list : List Record) →
      ((r : Record) → Contains list r → r.name ≡ name → Q r) → ((r : Record) → Contains list r → P r → Q r) → ((r : Record) → Contains list r → Q r → P r) →
      (rest : List Record) → IsWithout P (without list name) rest → IsWithout Q list rest
  taken_first [] out there back rest w = w
  taken_first (r ∷ list) out there back rest w =
      go (same_name r.name name) refl w
      (taken_first list (λ s m. out s (later_member r list s m)) (λ s m. there s (later_member r list s m)) (λ s m. back s (later_member r list s m)))
    where
      go : (b : Bool) → same_name r.name name ≡ b → IsWithout P (without (r ∷ list) name) rest → ((rest : List Record) → IsWithout P (without list name) rest → IsWithout Q list rest) → IsWithout Q (r ∷ list) rest
      go true h w on = inl (out r (first_member r list) (same_name_is r.name name h), on rest (rw h at w))
      go false h w on = one (rw h at w)
        where
          one : IsWithout P (r ∷ without list name) rest → IsWithout Q (r ∷ list) rest
          one w = elim w [
            | inl k ↦ inl (there r (first_member r list) k.0, on rest k.1)
            | inr k ↦ inr ((λ q. k.0 (back r (first_member r list) q)), k.1, k.2, on k.1 k.3)
          ]

pub uprooted_more : (list : List Record) (name top : Name) → IsLawful list → MayLeave list top → Reached list name top → (rest : List Record) → IsUprooted (without list top) name rest → IsUprooted list name rest
uprooted_more list name top lawful may r =
    taken_first (Reaches (without list top) name) (Reaches list name) top list
    (λ s m e. subst (Reaches list name) (one_record list lawful r.change s r.member m (r.named ∙ sym e)) r.reaches)
    (λ s m. wider list top may name s)
    (λ s m. narrower list top may name s m)

-- ---- fewer are left

pub fewer_left : (list : List Record) (name : Name) → IsLawful list → MayLeave list name → length (without list name) < length list
fewer_left list name lawful may =
    let s = stands list name lawful may.0 in
    let less = ap length s.left ∙ length-append s.before s.after in
    let all = ap length s.is ∙ length-append s.before (s.change ∷ s.after) in
    omega (arith, less, all)
