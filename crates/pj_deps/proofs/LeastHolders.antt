-- The least need that is not held, and the least holder, by the table and by the set.
use Rattle.std.proofs.Common.{◌≡◌, ◌∙◌, sym, ap, subst, refl, Bool, true, false, not, List, [], ◌∷◌, find, inl, inr}
use Rattle.std.specs.Prelude.{Contains, IsTrue, ◌↔◌, is_some, Option, Some, None, MatchOption}
use Rattle.std.specs.List.{list_all}
use Rattle.std.specs.Ordering.{is_lt, ordering_then, ordering_reverse}
use Rattle.std.specs.declared.cmp.Ordering.{Ordering}
use Rattle.std.specs.declared.cmp.Ordering.TheVariants.{Less, Equal, Greater}
use Rattle.std.proofs.lemmas.Bool.{not-true}
use Rattle.pj_name.specs.declared.name.Name.{Name}
use Rattle.pj_name.specs.Name.{name_cmp, name_below, no_name}
use Rattle.pj_name.proofs.Names.{name_cmp-total, no_name-least}
use Rattle.pj_change.specs.declared.change.Record.{Record}
use Rattle.pj_change.specs.Lawful.{is_held}
use Rattle.pj_change.specs.Least.{IsLeast}
use Rattle.pj_change.specs.Apply.{IsMissing}
use Rattle.pj_change.specs.Unrecord.{IsHolder}
use Rattle.pj_change.proofs.EqualNames.{name_tied}
use Rattle.pj_change.proofs.Members.{uncons, no_member, all_from}
use Rattle.pj_change.proofs.LeastNames.{find_least}
use Rattle.pj_change.proofs.OneCover.{less_is}
use Rattle.pj_pmap.specs.Pairs.{value_at, next_of, IsRising}
use Rattle.pj_rows.specs.declared.values.Here.{Here}
use Rattle.pj_rows.specs.Found.{IsNextFound}
use Rattle.pj_rows.proofs.FoundLemmas.{next_found, none_above}
use Rattle.pj_deps.specs.declared.keys.HeldBy.{HeldBy}
use Rattle.pj_deps.specs.Dependents.{Dependents, holder_cmp, pair, has_change, has_pair, IsLacking, IsAfter, IsHolderAfter, AreDepsOf}
use Rattle.pj_deps.proofs.PairKeys.{holder_total, of_one_need}

-- an answer to the one question answers the other, where they ask for the same names
pub answers_alike : (P Q : Name → Type 0) (r : Option Name) → ((n : Name) → P n ↔ Q n) →
    MatchOption r ((n : Name) → P n → ⊥) (IsLeast P) → MatchOption r ((n : Name) → Q n → ⊥) (IsLeast Q)
answers_alike P Q None same none = λ n q. none n ((same n).1 q)
answers_alike P Q (Some m) same l = record { one = (same m).0 l.one; none_below = λ n q. l.none_below n ((same n).1 q) }

-- ---- needs that are not held

module _ (d : Dependents) (c : Record) where
  abbrev lacked : Name → Bool
  lacked n = not (has_change d n)

  none_found : (names : List Name) → find lacked names ≡ None → (n : Name) → Contains names n → has_change d n ≡ false → ⊥
  none_found [] e n m h = no_member n m
  none_found (k ∷ names) e n m h = by (λ g k. none_found names g n k h) (has_change d k) refl
    where
      by : (find lacked names ≡ None → Contains names n → ⊥) → (b : Bool) → has_change d k ≡ b → ⊥
      by rest false f = let g : find lacked (k ∷ names) ≡ Some k = rw f refl in let g2 : Some k ≡ None = sym g ∙ e in cc
      by rest true f = elim (uncons k names n m) [
        | inl same ↦ (let t : has_change d n ≡ true = ap (has_change d) (sym same) ∙ f in let g : true ≡ false = sym t ∙ h in cc)
        | inr later ↦ (let g : find lacked (k ∷ names) ≡ find lacked names = rw f refl in rest (sym g ∙ e) later)
      ]

  pub least_lacking : (r : Option Name) → r ≡ find lacked c.change.needs → MatchOption r ((n : Name) → IsLacking d c n → ⊥) (IsLeast (IsLacking d c))
  least_lacking None e = λ n k. none_found c.change.needs (sym e) n k.0 k.1
  least_lacking (Some m) e =
      let l = find_least lacked c.change.needs m c.change.keeps.needs_rise (sym e) in
      record {
        one = (l.one.member, not-true (has_change d m) l.one.passes);
        none_below = λ n k. l.none_below n (record { member = k.0; passes = ap not k.1 });
      }

  pub least_missing : (S : List Record) → AreDepsOf S d → (r : Option Name) → MatchOption r ((n : Name) → IsLacking d c n → ⊥) (IsLeast (IsLacking d c)) →
      MatchOption r (IsTrue (list_all (is_held S) c.change.needs)) (IsLeast (IsMissing S c))
  least_missing S of None none = all_from (is_held S) c.change.needs (λ n m. by n m (is_held S n) refl)
    where
      by : (n : Name) → Contains c.change.needs n → (b : Bool) → is_held S n ≡ b → is_held S n ≡ true
      by n m true h = h
      by n m false h = absurd (none n (m, of.held n ∙ h))
  least_missing S of (Some m) l = answers_alike (IsLacking d c) (IsMissing S c) (Some m) (λ n. (λ k. (k.0, sym (of.held n) ∙ k.1), λ k. (k.0, of.held n ∙ k.1))) l

-- ---- holders

is_there : {X : Type 0} (o : Option X) → is_some o ≡ true → (x : X) × (o ≡ Some x)
is_there None e = absurd (cc)
is_there (Some x) e = (x, refl)

module _ (d : Dependents) (rising : IsRising holder_cmp d.holders) (need after : Name) where
  -- a holder above this one is above in the order of the pairs
  above_pair : (n : Name) → IsAfter (Some after) n → holder_cmp (pair need after) (pair need n) ≡ Less
  above_pair n h = of_one_need need after n ∙ less_is (name_cmp after n) h

  -- no pair is above
  pub none_after : next_of holder_cmp (pair need after) d.holders ≡ None → (n : Name) → IsHolderAfter d need (Some after) n → ⊥
  none_after e n h =
      let at = is_there (value_at holder_cmp (pair need n) d.holders) h.0 in
      let low = none_above holder_cmp holder_total (pair need after) d.holders e (pair need n) at.0 at.1 in
      let high : is_lt (holder_cmp (pair need after) (pair need n)) ≡ true = ap is_lt (above_pair n h.1) in
      let f : true ≡ false = sym high ∙ low in
      cc

  module _ (next : HeldBy) (v : Here) (e : next_of holder_cmp (pair need after) d.holders ≡ Some (next, v)) where
    abbrev found : IsNextFound holder_cmp (pair need after) d.holders (next, v)
    found = next_found holder_cmp holder_total (pair need after) d.holders (next, v) rising e

    -- a holder above is not below the next pair
    not_below : (n : Name) → IsHolderAfter d need (Some after) n → is_lt (holder_cmp (pair need n) next) ≡ false
    not_below n h =
        let at = is_there (value_at holder_cmp (pair need n) d.holders) h.0 in
        found.first (pair need n) at.0 at.1 (above_pair n h.1)

    -- the next pair is of the need
    pub least_after : next.need ≡ need → IsLeast (IsHolderAfter d need (Some after)) next.holder
    least_after same =
        let next_is : next ≡ pair need next.holder = λ i. record { need = same i; holder = next.holder } in
        let there : value_at holder_cmp (pair need next.holder) d.holders ≡ Some v = subst (λ k. value_at holder_cmp k d.holders ≡ Some v) next_is found.found in
        let above : holder_cmp (pair need after) (pair need next.holder) ≡ Less = subst (λ k. holder_cmp (pair need after) k ≡ Less) next_is found.above in
        record {
          one = (ap is_some there, ap is_lt (sym (of_one_need need after next.holder) ∙ above));
          none_below = λ n h. ap is_lt (sym (of_one_need need n next.holder)) ∙ subst (λ k. is_lt (holder_cmp (pair need n) k) ≡ false) next_is (not_below n h);
        }

    -- the next pair is of another need
    pub none_of_need : (next.need ≡ need → ⊥) → (n : Name) → IsHolderAfter d need (Some after) n → ⊥
    none_of_need other n h = by (name_cmp need next.need) refl
      where
        by : (o : Ordering) → name_cmp need next.need ≡ o → ⊥
        by Less f =
            let g : holder_cmp (pair need n) next ≡ Less = ap (λ o. ordering_then o (name_cmp n next.holder)) f in
            let low = not_below n h in
            let k : true ≡ false = sym (ap is_lt g) ∙ low in
            cc
        by Equal f = other (sym (name_tied need next.need f))
        by Greater f =
            let g : holder_cmp (pair need after) next ≡ Greater = ap (λ o. ordering_then o (name_cmp after next.holder)) f in
            let k : Greater ≡ Less = sym g ∙ found.above in
            cc

-- ---- the least holder of all

module _ (d : Dependents) (need : Name) where
  abbrev pub has_it : Name → Type 0
  has_it holder = IsTrue (has_pair d need holder)

  pub least_is_first : has_it no_name → IsLeast has_it no_name
  least_is_first h = record { one = h; none_below = λ n k. no_name-least n }

  -- every holder but the least name is above it
  after_least : has_pair d need no_name ≡ false → (n : Name) → has_it n → IsAfter (Some no_name) n
  after_least none n h = by (name_cmp no_name n) refl
    where
      by : (o : Ordering) → name_cmp no_name n ≡ o → is_lt (name_cmp no_name n) ≡ true
      by Less f = ap is_lt f
      by Equal f =
          let same = name_tied no_name n f in
          let g : has_pair d need no_name ≡ true = ap (has_pair d need) same ∙ h in
          let k : true ≡ false = sym g ∙ none in
          absurd (cc)
      by Greater f =
          let g : name_below n no_name ≡ true = ap is_lt (name_cmp-total.antisymm n no_name ∙ ap ordering_reverse f) in
          let k : true ≡ false = sym g ∙ no_name-least n in
          absurd (cc)

  pub holders_after_least : has_pair d need no_name ≡ false → (n : Name) → IsHolderAfter d need (Some no_name) n ↔ has_it n
  holders_after_least none n = (λ h. h.0, λ h. (h, after_least none n h))

  -- without a bound, each holder is asked for
  pub holders_unbounded : (n : Name) → has_it n ↔ IsHolderAfter d need None n
  holders_unbounded n = (λ h. (h, tt), λ h. h.0)

  -- in the table of a set
  pub holders_of_set : (S : List Record) → AreDepsOf S d → (n : Name) → has_it n ↔ IsHolder S need n
  holders_of_set S of n = of.holders need n

  pub holders_after_of_set : (S : List Record) → AreDepsOf S d → (after : Option Name) → (n : Name) → IsHolderAfter d need after n ↔ (IsHolder S need n × IsAfter after n)
  holders_after_of_set S of after n = (λ h. ((of.holders need n).0 h.0, h.1), λ h. ((of.holders need n).1 h.0, h.1))
