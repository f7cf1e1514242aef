-- As many names as records that pass, where the names are those of the records that pass.
use Rattle.std.proofs.Common.{◌≡◌, ℕ, ◌+◌, Bool, true, false, not, ⊎_elim, List, [], ◌∷◌, refl, sym, ap, ◌∙◌, subst, arith, cond, count_by, length}
use Rattle.std.specs.Prelude.{Contains, ◌≢◌, filter, ◌↔◌}
use Rattle.std.specs.List.Sorted.{IsStrictlySortedBy}
use Rattle.std.specs.Ordering.{is_eq}
use Rattle.std.specs.Cmp.{Equal-is}
use Rattle.std.proofs.lemmas.Cmp.{tied_itself}
use Rattle.std.proofs.lemmas.List.Kept.{IsStrictlySortedBy-filter}
use Rattle.std.proofs.lemmas.List.Sums.{length-filter}
use Rattle.std.proofs.lemmas.List.Filters.{length-filter_both}
use Rattle.pj_pmap.proofs.Lookups.{contains_first}
use Rattle.pj_name.specs.declared.name.Name.{Name}
use Rattle.pj_name.specs.Name.{name_cmp}
use Rattle.pj_name.proofs.Names.{name_cmp-total}
use Rattle.pj_change.specs.declared.change.Record.{Record}
use Rattle.pj_change.proofs.Members.{uncons, first_member, later_member, no_member}
use Rattle.pj_change.proofs.Listings.{IsRelated}
use Rattle.pj_contest.specs.Rivals.{IsNameOfOne}
use Rattle.pj_change.proofs.EqualNames.{name_tied}
use Rattle.pj_change.proofs.PickedMembers.{passed, kept}
use Rattle.pj_contest.proofs.Once.{times_once}
use Rattle.pj_rows.proofs.KeyLemmas.{count_cons}

one_name : (ns : List Name) → ((n : Name) → Contains ns n → ⊥) → length ns ≡ 0
one_name [] h = refl
one_name (n ∷ ns) h = absurd (h n (contains_first n ns))

pub names_count : (S : List Record) → IsRelated (λ r s. r.name ≢ s.name) S → (p : Record → Bool) (ns : List Name) → IsStrictlySortedBy name_cmp ns → ((n : Name) → Contains ns n ↔ IsNameOfOne S p n) → length ns ≡ count_by p S
names_count [] a p ns s are = one_name ns (λ n m. let h = (are n).0 m in no_member h.it h.member)
names_count (r ∷ S) a p ns s are = by (names_count S a.1 p) (p r) refl
  where
    here : Record → Name → Bool
    here r n = is_eq (name_cmp r.name n)

    later : (n : Name) → IsNameOfOne S p n → IsNameOfOne (r ∷ S) p n
    later n h = record { it = h.it; member = later_member r S h.it h.member; name = h.name; passes = h.passes }

    by : ((ms : List Name) → IsStrictlySortedBy name_cmp ms → ((n : Name) → Contains ms n ↔ IsNameOfOne S p n) → length ms ≡ count_by p S) → (b : Bool) → p r ≡ b → length ns ≡ count_by p (r ∷ S)
    by rest false f =
        let same = rest ns s (λ n. (
          λ m. let h = (are n).0 m in
              ⊎_elim (λ (e : r ≡ h.it). absurd (let g : p r ≡ true = ap p e ∙ h.passes in let k : false ≡ true = sym f ∙ g in cc)) (λ (l : Contains S h.it). record { it = h.it; member = l; name = h.name; passes = h.passes }) (uncons r S h.it h.member),
          λ h. (are n).1 (later n h),
        )) in
        same ∙ sym (count_cons p r S ∙ ap (λ b. cond b 1 0 + count_by p S) f ∙ (let z : 0 + count_by p S ≡ count_by p S = omega arith in z))
    by rest true f =
        let out : Name → Bool = λ n. not (here r n) in
        let ms = filter out ns in
        let mine : Contains ns r.name = (are r.name).1 (record { it = r; member = first_member r S; name = refl; passes = f }) in
        let one : count_by (here r) ns ≡ 1 = times_once name_cmp name_cmp-total name_tied ns s r.name true (λ m. refl) (λ e. mine) in
        let fewer = rest ms (IsStrictlySortedBy-filter name_cmp out ns s) (λ n. (
          λ m. (let k = passed out ns n m in let h = (are n).0 k.member in
              ⊎_elim (λ (e : r ≡ h.it). absurd (not_out n (ap (λ (x : Record). x.name) e ∙ h.name) k.passes)) (λ (l : Contains S h.it). record { it = h.it; member = l; name = h.name; passes = h.passes }) (uncons r S h.it h.member)),
          λ h. kept out ns n ((are n).1 (later n h)) (is_out n (is_eq (name_cmp r.name n)) refl (λ e. a.0 h.it h.member (e ∙ sym h.name))),
        )) in
        let cut = length-filter_both (here r) out (λ n. refl) ns in
        let first = length-filter (here r) ns in
        let sum = count_cons p r S ∙ ap (λ b. cond b 1 0 + count_by p S) f in
        add (length ns) (length ms) (length (filter (here r) ns)) (count_by (here r) ns) (count_by p S) (count_by p (r ∷ S)) cut first one fewer sum
      where
        not_out : (n : Name) → r.name ≡ n → not (here r n) ≡ true → ⊥
        not_out n e h = (let t : is_eq (name_cmp r.name n) ≡ true = subst (λ (m : Name). is_eq (name_cmp r.name m) ≡ true) e (ap is_eq (tied_itself name_cmp-total r.name)) in let k : not true ≡ true = sym (ap not t) ∙ h in cc)

        is_out : (n : Name) (b : Bool) → is_eq (name_cmp r.name n) ≡ b → (r.name ≡ n → ⊥) → not (here r n) ≡ true
        is_out n true e other = absurd (other (name_tied r.name n ((Equal-is (name_cmp r.name n)).0 e)))
        is_out n false e other = ap not e

        add : (a b c d e g : ℕ) → c + b ≡ a → c ≡ d → d ≡ 1 → b ≡ e → g ≡ 1 + e → a ≡ g
        add a b c d e g h i j k l = omega arith
