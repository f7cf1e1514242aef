-- A lawful set with the inverse of one of its changes is lawful.
use Rattle.std.proofs.Common.{◌≡◌, ℕ, suc, zero, ◌+◌, ◌-◌, ◌<◌, ◌≤◌, List, [], ◌∷◌, ◌++◌, take, length, refl, sym, ◌∙◌, ap, subst, inl, inr, true, arith}
use Rattle.std.specs.Prelude.{Contains, slice_get, Some, option_and_then, sum_by}
use Rattle.std.specs.List.{list_all, slice_index_or, range_with_len}
use Rattle.std.proofs.lemmas.Bool.{and_parts, and_from, or_left, or_right, le-leb, lt-ltb, eq-eqb}
use Rattle.std.proofs.lemmas.Option.{slice_get_within, get_or_from_slice_get}
use Rattle.std.proofs.lemmas.List.Sums.{sum_by-cons}
use Rattle.pj_name.specs.declared.name.Name.{Name}
use Rattle.pj_name.specs.Name.{same_name}
use Rattle.pj_change.specs.declared.point.Ref.TheVariants as ref
use Rattle.pj_change.specs.declared.hunk.Hunk.{Hunk}
use Rattle.pj_change.specs.declared.hunk.Hunk.TheVariants.{File, Dir, NameOf, Insert, Order, Delete, Revive}
use Rattle.pj_change.specs.declared.kind.Kind.TheVariants.{NameAt}
use Rattle.pj_change.specs.declared.change.Record.{Record}
use Rattle.pj_change.specs.Rules.{position_count}
use Rattle.pj_change.specs.Positions.{numbered, place, kind_at, kind_in}
use Rattle.pj_change.specs.Covers.{covers, touches}
use Rattle.pj_change.specs.Context.{meant, kind_of, is_one, answers_for, is_answered_for, holds}
use Rattle.pj_change.specs.Lawful.{is_held, needs_of, Follows, IsLawful, IsLawfulSet}
use Rattle.pj_change.specs.Inverse.{IsNumberOf, DeletesOwn, Undoes, UndoEach, IsInverseNeed}
use Rattle.pj_change.specs.Inverse.IsInverseNeed.{itself, deleted}
use Rattle.pj_change.proofs.Members.{uncons, no_member, same_member, moved, member_at, all_member, all_from, any_member, splits, first_member, later_member, before_member}
use Rattle.pj_change.proofs.EqualNames.{is_same_name}
use Rattle.pj_change.proofs.NeedNumbers.{IsNeedNumber, delete_owner, numbered_need}
use Rattle.pj_change.proofs.PositionLemmas.{kind_at_first, insertion_some}
use Rattle.pj_change.proofs.LawfulLists.{held_member, not_held, append_cases, first_part, second_part, one_record}
use Rattle.pj_change.proofs.LawfulChanges.{lawful_push}
use Rattle.pj_change.proofs.Inodes.{need_at}
use Rattle.pj_inverse.specs.Undone.{IsUndoing}
use Rattle.pj_inverse.proofs.Undoing.{needs_held, not_new}

-- ---- the needs of v

-- the record at the place of a need
need_record : (list : List Record) → IsLawful list → (v : Record) → list_all (is_held list) v.change.needs ≡ true → (n : Name) (k : ℕ) → IsNumberOf v.change.needs n k →
    (o : Record) → Contains list o → o.name ≡ n → meant v (needs_of list v) k ≡ Some o
need_record list lawful v needs n k a o m named =
    let at = need_at list v.change.needs v.name a.0 needs (slice_get_within v.change.needs a.0 n a.2) in
    let name : slice_index_or v.change.needs a.0 v.name ≡ n = get_or_from_slice_get v.change.needs a.0 n v.name a.2 in
    let same : at.it ≡ o = one_record list lawful at.it o at.record_is.member m (at.record_is.named ∙ name ∙ sym named) in
    ap (meant v (needs_of list v)) a.1 ∙ at.is ∙ ap Some same

means : (v : Record) (n : Name) (k : ℕ) → IsNumberOf v.change.needs n k → numbered v k ≡ n
means v n k a = ap (numbered v) a.1 ∙ get_or_from_slice_get v.change.needs a.0 n v.name a.2

-- what stands at a place of a need
kind_there : (v : Record) (rs : List Record) (k start : ℕ) (o : Record) → meant v rs k ≡ Some o → kind_of v rs (ref.At k start) ≡ kind_at o.change.hunks start
kind_there v rs k start o e = ap (option_and_then (λ (r : Record). kind_at r.change.hunks start)) e

-- the owner answers for its positions
owner_answers : (name : Name) (start end : ℕ) (o : Record) → o.name ≡ name → answers_for name start end (Some o) ≡ true
owner_answers name start end o e = or_left (same_name o.name name) (list_all (λ offset. touches o (record { change = name; offset = offset })) (range_with_len start (end - start))) (is_same_name o.name name e)

module _ (list : List Record) (lawful : IsLawful list) (c : Record) (member : Contains list c) (v : Record) (needs : list_all (is_held list) v.change.needs ≡ true) where
  -- ---- a deletion of positions of c

  own_holds : (start end : ℕ) (g : Hunk) → DeletesOwn c v.change.needs start end g → is_one (kind_at c.change.hunks start) start end ≡ true → holds v (needs_of list v) g ≡ true
  own_holds start end g u one =
      let k = u.0 in
      let it = need_record list lawful v needs c.name k u.1 c member refl in
      let name = means v c.name k u.1 in
      let within : is_one (kind_of v (needs_of list v) (ref.At k start)) start end ≡ true = ap (λ kind. is_one kind start end) (kind_there v (needs_of list v) k start c it) ∙ one in
      let answers : answers_for (numbered v k) start end (meant v (needs_of list v) k) ≡ true = ap (answers_for (numbered v k) start end) it ∙ owner_answers (numbered v k) start end c (sym name) in
      ap (holds v (needs_of list v)) u.2
      ∙ and_from _ _ within (all_from (λ l. answers_for (numbered v l) start end (meant v (needs_of list v) l)) (k ∷ []) (λ l m. elim (uncons k [] l m) [
        | inl e ↦ subst (λ j. answers_for (numbered v j) start end (meant v (needs_of list v) j) ≡ true) e answers
        | inr q ↦ absurd (no_member l q)
      ]))

  one_name : (i : ℕ) (h : Hunk) → slice_get c.change.hunks i ≡ Some h → 0 < position_count h → kind_in i (place c.change.hunks i) h 0 ≡ NameAt i →
      is_one (kind_at c.change.hunks (place c.change.hunks i)) (place c.change.hunks i) (place c.change.hunks i + 1) ≡ true
  one_name i h there some is =
      ap (λ kind. is_one kind (place c.change.hunks i) (place c.change.hunks i + 1)) (kind_at_first c.change.hunks i h there some ∙ ap Some is)
      ∙ eq-eqb (place c.change.hunks i + 1) (place c.change.hunks i + 1) refl

  one_block : (i : ℕ) (file : _) (ups downs : _) (bytes : List ℕ) → slice_get c.change.hunks i ≡ Some (Insert file ups downs bytes) → 0 < length bytes →
      is_one (kind_at c.change.hunks (place c.change.hunks i)) (place c.change.hunks i) (place c.change.hunks i + length bytes) ≡ true
  one_block i file ups downs bytes there some =
      ap (λ kind. is_one kind (place c.change.hunks i) (place c.change.hunks i + length bytes)) (kind_at_first c.change.hunks i (Insert file ups downs bytes) there some)
      ∙ le-leb (place c.change.hunks i + length bytes) (place c.change.hunks i + length bytes) (omega arith)

  -- ---- a revival of what c deletes

  in_range : (a n x : ℕ) → Contains (range_with_len a n) x → (a ≤ x) × (x < a + n)
  in_range a zero x m = absurd (no_member x m)
  in_range a (suc n) x m = elim (uncons a (range_with_len (a + 1) n) x m) [
    | inl e ↦ (omega arith, omega arith)
    | inr q ↦ (let h = in_range (a + 1) n x q in let low = h.0 in let high = h.1 in (omega arith, omega arith))
  ]

  -- the owner of what c deletes, and what stands there
  record Owner (owner start end : ℕ) : Type 0 where
    it : Record
    there : Contains list it
    named : it.name ≡ numbered c owner
    one : is_one (kind_at it.change.hunks start) start end ≡ true

  owner_of : (owner start end : ℕ) (by : List ℕ) → Contains c.change.hunks (Delete owner start end by) → IsNeedNumber (length c.change.needs) owner → Owner owner start end
  owner_of zero start end by m number = absurd (let l = number.from in omega (arith, l))
  owner_of (suc k) start end by m number =
      let s = splits list c member in
      let follows = lawful s.before c s.after s.is in
      let need = need_at s.before c.change.needs c.name k follows.needs (let l = number.upto in omega (arith, l)) in
      let context : is_answered_for c (needs_of s.before c) (suc k) start end by ≡ true = all_member (holds c (needs_of s.before c)) c.change.hunks (Delete (suc k) start end by) follows.context m in
      record {
        it = need.it;
        there = moved need.it (sym s.is) (before_member s.before s.after c need.it need.record_is.member);
        named = need.record_is.named;
        one = sym (ap (λ kind. is_one kind start end) (kind_there c (needs_of s.before c) (suc k) start need.it need.is)) ∙ (and_parts _ _ context).0;
      }

  revival_holds : (owner start end : ℕ) (by : List ℕ) → Contains c.change.hunks (Delete owner start end by) → (k l : ℕ) → IsNumberOf v.change.needs (numbered c owner) k → IsNumberOf v.change.needs c.name l →
      holds v (needs_of list v) (Revive k start end (l ∷ [])) ≡ true
  revival_holds owner start end by m k l a b =
      let o = owner_of owner start end by m (delete_owner c owner start end by m) in
      let it = need_record list lawful v needs (numbered c owner) k a o.it o.there o.named in
      let c_it = need_record list lawful v needs c.name l b c member refl in
      let name = means v (numbered c owner) k a in
      let within : is_one (kind_of v (needs_of list v) (ref.At k start)) start end ≡ true = ap (λ kind. is_one kind start end) (kind_there v (needs_of list v) k start o.it it) ∙ o.one in
      let touched : list_all (λ offset. touches c (record { change = numbered v k; offset = offset })) (range_with_len start (end - start)) ≡ true =
      all_from (λ offset. touches c (record { change = numbered v k; offset = offset })) (range_with_len start (end - start)) (λ x q. at_offset x name (in_range start (end - start) x q)) in
      let answers : answers_for (numbered v k) start end (meant v (needs_of list v) l) ≡ true =
      ap (answers_for (numbered v k) start end) c_it ∙ or_right (same_name c.name (numbered v k)) (list_all (λ offset. touches c (record { change = numbered v k; offset = offset })) (range_with_len start (end - start))) touched in
      and_from _ _ within (all_from (λ j. answers_for (numbered v k) start end (meant v (needs_of list v) j)) (l ∷ []) (λ j q. elim (uncons l [] j q) [
        | inl e ↦ subst (λ i. answers_for (numbered v k) start end (meant v (needs_of list v) i) ≡ true) e answers
        | inr n ↦ absurd (no_member j n)
      ]))
    where
      at_offset : (x : ℕ) → numbered v k ≡ numbered c owner → (start ≤ x) × (x < start + (end - start)) → touches c (record { change = numbered v k; offset = x }) ≡ true
      at_offset x name bounds =
          let low = bounds.0 in
          let high = bounds.1 in
          let below : x < end = omega arith in
          any_member (λ h. covers c h (record { change = numbered v k; offset = x })) c.change.hunks (Delete owner start end by) m
          (and_from _ _ (and_from _ _ (is_same_name (numbered c owner) (numbered v k) (sym name)) (le-leb start x low)) (lt-ltb x end below))

  -- ---- the hunks of v

  one_holds : (i : ℕ) (h g : Hunk) → slice_get c.change.hunks i ≡ Some h → Undoes c v.change.needs (place c.change.hunks i) h g → holds v (needs_of list v) g ≡ true
  one_holds i (File parent name exec) g there u = own_holds (place c.change.hunks i) (place c.change.hunks i + 1) g u (one_name i (File parent name exec) there (omega arith) refl)
  one_holds i (Dir parent name) g there u = own_holds (place c.change.hunks i) (place c.change.hunks i + 1) g u (one_name i (Dir parent name) there (omega arith) refl)
  one_holds i (NameOf parent child name exec) g there u = own_holds (place c.change.hunks i) (place c.change.hunks i + 1) g u (one_name i (NameOf parent child name exec) there (omega arith) refl)
  one_holds i (Insert file ups downs bytes) g there u =
      own_holds (place c.change.hunks i) (place c.change.hunks i + length bytes) g u
      (one_block i file ups downs bytes there (let some = insertion_some c file ups downs bytes (member_at c.change.hunks i (Insert file ups downs bytes) there) in omega (arith, some)))
  one_holds i (Order file source target) g there u = absurd u
  one_holds i (Revive owner start end by) g there u = absurd u
  one_holds i (Delete owner start end by) g there u =
      ap (holds v (needs_of list v)) u.5 ∙ revival_holds owner start end by (member_at c.change.hunks i (Delete owner start end by) there) u.1 u.2 u.3 u.4

  -- hunks of c stand where they stand in c
  StandsAt : ℕ → List Hunk → Type 0
  StandsAt first hs = (i : ℕ) (h : Hunk) → slice_get hs i ≡ Some h → (j : ℕ) × (slice_get c.change.hunks j ≡ Some h) × (place c.change.hunks j ≡ first + sum_by position_count (take i hs))

  each_holds : (first : ℕ) (hs gs : List Hunk) → StandsAt first hs → UndoEach c v.change.needs first hs gs → (g : Hunk) → Contains gs g → holds v (needs_of list v) g ≡ true
  unfolding StandsAt
  each_holds first [] gs at u g m = absurd (no_member g (moved g u m))
  each_holds first (h ∷ hs) [] at u g m = absurd u
  each_holds first (h ∷ hs) (f ∷ gs) at u g m = elim (uncons f gs g m) [
    | inl e ↦ here e (at 0 h refl)
    | inr n ↦ each_holds (first + position_count h) hs gs (λ i k e. later i (at (suc i) k e)) u.1 g n
  ]
    where
      here : f ≡ g → (j : ℕ) × (slice_get c.change.hunks j ≡ Some h) × (place c.change.hunks j ≡ first + 0) → holds v (needs_of list v) g ≡ true
      here e a = (let place_is = a.2 in one_holds a.0 h g a.1 (subst (λ n. Undoes c v.change.needs n h g) (omega (arith, place_is)) (subst (Undoes c v.change.needs first h) e u.0)))

      later : {k : Hunk} (i : ℕ) → (j : ℕ) × (slice_get c.change.hunks j ≡ Some k) × (place c.change.hunks j ≡ first + sum_by position_count (h ∷ take i hs)) →
          (j : ℕ) × (slice_get c.change.hunks j ≡ Some k) × (place c.change.hunks j ≡ first + position_count h + sum_by position_count (take i hs))
      later i a = (let place_is = a.2 in (a.0, a.1, omega (arith, place_is, sum_by-cons position_count h (take i hs))))

  all_hold : UndoEach c v.change.needs 0 c.change.hunks v.change.hunks → list_all (holds v (needs_of list v)) v.change.hunks ≡ true
  unfolding StandsAt
  all_hold u = all_from (holds v (needs_of list v)) v.change.hunks (each_holds 0 c.change.hunks v.change.hunks (λ i h e. (i, e, omega arith)) u)

-- ---- the set with v

module _ (S : List Record) (c v : Record) (u : IsUndoing S c v) where
  abbrev list : List Record
  list = u.lawful.list

  in_list : Contains list c
  in_list = u.lawful.same.back c u.member

  need_there : (n : Name) → IsInverseNeed c c.change.hunks n → is_held list n ≡ true
  need_there n itself = held_member list c.name c (record { member = in_list; named = refl })
  need_there n (deleted {owner} {start} {end} {by} m) =
      let h = needs_held S u.lawful c u.member (numbered c owner) (numbered_need c owner (delete_owner c owner start end by m)) in
      held_member list (numbered c owner) h.0 (record { member = u.lawful.same.back h.0 h.1.member; named = h.1.named })

  follows : Follows list v
  follows =
      let needs : list_all (is_held list) v.change.needs ≡ true = all_from (is_held list) v.change.needs (λ n m. need_there n (u.inverse.needs.only n m)) in
      record {
        fresh = not_held list v.name (λ r h. not_new S c v u r (u.lawful.same.there r h.member) h.named);
        needs = needs;
        context = all_hold list u.lawful.lawful c in_list v needs u.inverse.hunks;
      }

  -- S with v is lawful
  pub undone_lawful : IsLawfulSet (v ∷ S)
  undone_lawful = record {
    list = list ++ v ∷ [];
    same = record {
      there = λ r m. elim (append_cases list (v ∷ []) r m) [
        | inl n ↦ later_member v S r (u.lawful.same.there r n)
        | inr n ↦ elim (uncons v [] r n) [ inl e ↦ same_member (v ∷ S) e (first_member v S) | inr q ↦ absurd (no_member r q) ]
      ];
      back = λ r m. elim (uncons v S r m) [
        | inl e ↦ second_part list (v ∷ []) r (same_member (v ∷ []) e (first_member v []))
        | inr n ↦ first_part list (v ∷ []) r (u.lawful.same.back r n)
      ];
    };
    lawful = lawful_push list v u.lawful.lawful follows;
  }
