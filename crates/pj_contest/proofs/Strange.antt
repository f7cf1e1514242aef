-- Which changes are strangers to one that none of them needs, by their names.
use Rattle.std.proofs.Common.{◌≡◌, ℕ, suc, ◌≤◌, Bool, true, false, not, ◌&&◌, ◌||◌, ◌⊎◌, inl, inr, ⊎_elim, List, [], ◌∷◌, refl, sym, ap, ◌∙◌, subst, arith, length, nat_lt, count_by}
use Rattle.std.specs.Prelude.{Contains}
use Rattle.std.specs.List.{list_any}
use Rattle.std.specs.Cmp.{both_ways}
use borrow.Author.Tests.{ltb-false}
use Rattle.pj_name.specs.declared.name.Name.{Name}
use Rattle.pj_name.specs.Name.{same_name}
use Rattle.pj_change.specs.declared.change.Record.{Record}
use Rattle.pj_change.specs.Lawful.{is_held}
use Rattle.pj_change.specs.Parts.{knows}
use Rattle.pj_change.specs.Contested.{are_strangers}
use Rattle.pj_change.proofs.Counting.{positive_count}
use Rattle.pj_change.proofs.EqualNames.{same_name_is, is_same_name}
use Rattle.pj_change.proofs.Members.{uncons, any_member, none_passes, passes, later_member}
use Rattle.pj_contest.specs.Contests.{IsFree, knows_more}
use Rattle.pj_contest.specs.Rivals.{is_stranger_of}
use Rattle.pj_contest.specs.Sought.{KnowNoMore}
use Rattle.pj_contest.proofs.Named.{AreApart, any_named, none_named}

-- where no change that knows more is counted, there is none
pub know_no_more : (S : List Record) → count_by knows_more S ≡ 0 → KnowNoMore S
know_no_more S e d m = by (knows_more d) refl
  where
    by : (b : Bool) → knows_more d ≡ b → knows_more d ≡ false
    by true f = absurd (let t : nat_lt 0 (count_by knows_more S) ≡ true = positive_count knows_more S ∙ any_member knows_more S d m f in let z : nat_lt 0 0 ≡ true = sym (ap (nat_lt 0) e) ∙ t in cc)
    by false f = f

-- how many know more is not above 0, or none does
pub more_or_none : (S : List Record) (n : ℕ) → n ≡ count_by knows_more S → (b : Bool) → b ≡ nat_lt 0 n → (b ≡ true) ⊎ KnowNoMore S
more_or_none S n e true f = inl refl
more_or_none S n e false f = inr (know_no_more S (sym e ∙ none n (sym f)))
  where
    none : (n : ℕ) → nat_lt 0 n ≡ false → n ≡ 0
    none n f = (let l = ltb-false 0 n f in omega arith)

listed : (a b c : Bool) → c ≡ true → (not a && not b && not c) ≡ false
listed true b true e = refl
listed false true true e = refl
listed false false true e = refl
listed a b false e = absurd (cc)

neither : (a b c : Bool) → a ≡ false → c ≡ false → (not a && not b && not c) ≡ not b
neither false true false e f = refl
neither false false false e f = refl
neither true b c e f = absurd (cc)
neither a b true e f = absurd (cc)

same_turned : (m n : Name) → same_name m n ≡ same_name n m
same_turned m n = both_ways _ _ (λ e. is_same_name n m (sym (same_name_is m n e))) (λ e. is_same_name m n (sym (same_name_is n m e)))

-- who is a stranger to a change, to that it is one
pub strangers_turned : (i d : Record) → are_strangers i d ≡ are_strangers d i
strangers_turned i d = ap (λ (b : Bool). not b && not (knows i d.name) && not (knows d i.name)) (same_turned i.name d.name) ∙ turned (same_name d.name i.name) (knows i d.name) (knows d i.name)
  where
    turned : (a b c : Bool) → (not a && not b && not c) ≡ (not a && not c && not b)
    turned true b c = refl
    turned false true true = refl
    turned false true false = refl
    turned false false true = refl
    turned false false false = refl

module _ (S : List Record) (i : Record) where
  -- one that the change lists is none
  pub listed_none : (n : Name) → knows i n ≡ true → is_stranger_of S i n ≡ false
  listed_none n e = none_passes (λ d. same_name d.name n && are_strangers d i) S (λ d m. by d (same_name d.name n) refl)
    where
      by : (d : Record) (b : Bool) → same_name d.name n ≡ b → (same_name d.name n && are_strangers d i) ≡ false
      by d true f =
          let k : knows i d.name ≡ true = subst (λ (n : Name). knows i n ≡ true) (sym (same_name_is d.name n f)) e in
          rw f (listed (same_name d.name i.name) (knows d i.name) (knows i d.name) k)
      by d false f = rw f refl

  -- another is one, unless it lists the change
  pub other_is : AreApart S → (n : Name) (d : Record) → Contains S d → d.name ≡ n → (n ≡ i.name → ⊥) → knows i n ≡ false → is_stranger_of S i n ≡ not (knows d i.name)
  other_is apart n d m e other unlisted = any_named S n (λ d. are_strangers d i) apart d m e
      ∙ neither (same_name d.name i.name) (knows d i.name) (knows i d.name) (unlike (same_name d.name i.name) refl) (subst (λ (n : Name). knows i n ≡ false) (sym e) unlisted)
    where
      unlike : (b : Bool) → same_name d.name i.name ≡ b → same_name d.name i.name ≡ false
      unlike true f = absurd (other (sym e ∙ same_name_is d.name i.name f))
      unlike false f = f

  -- none of these lists a change that none needs
  pub unlisted : IsFree S i → KnowNoMore S → (d : Record) → Contains S d → knows d i.name ≡ false
  unlisted free less d m = both (list_any (λ (m : Name). same_name m i.name) d.change.needs) (list_any (λ (m : Name). same_name m i.name) d.change.knows) needs (more d.change.knows (less d m))
    where
      both : (a b : Bool) → a ≡ false → b ≡ false → (a || b) ≡ false
      both false false e f = refl
      both true b e f = absurd (cc)
      both a true e f = absurd (cc)

      needs : list_any (λ (m : Name). same_name m i.name) d.change.needs ≡ false
      needs = none_passes (λ (m : Name). same_name m i.name) d.change.needs (λ n c. by n c (same_name n i.name) refl)
        where
          by : (n : Name) → Contains d.change.needs n → (b : Bool) → same_name n i.name ≡ b → same_name n i.name ≡ false
          by n c true f = absurd (free d (later_member i S d m) (subst (Contains d.change.needs) (same_name_is n i.name f) c))
          by n c false f = f

      more : (ns : List Name) → nat_lt 0 (length ns) ≡ false → list_any (λ (m : Name). same_name m i.name) ns ≡ false
      more [] e = refl
      more (n ∷ ns) e = absurd (let l : suc (length ns) ≤ 0 = ltb-false 0 (suc (length ns)) e in omega arith)

  -- a name other than its own that is held with it is that of another
  pub held_other : (n : Name) → is_held (i ∷ S) n ≡ true → (n ≡ i.name → ⊥) → (d : Record) × Contains S d × (d.name ≡ n)
  held_other n h other =
      let d = passes (λ (r : Record). same_name r.name n) (i ∷ S) h in
      let e = same_name_is d.it.name n d.is in
      ⊎_elim (λ (s : i ≡ d.it). absurd (other (sym e ∙ sym (ap (λ (r : Record). r.name) s)))) (λ (m : Contains S d.it). (d.it, m, e)) (uncons i S d.it d.member)

  -- a range of one of these is by one of these
  pub own_none : is_held S i.name ≡ false → (n : Name) → n ≡ i.name → is_stranger_of S i n ≡ false
  own_none fresh n e = none_named S n (λ d. are_strangers d i) (subst (λ (n : Name). is_held S n ≡ false) (sym e) fresh)
