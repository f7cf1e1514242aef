-- The next of some points, one after another.
use Rattle.std.proofs.Common.{◌≡◌, ℕ, ◌<◌, ◌≤◌, Bool, true, false, List, [], ◌∷◌, Option, Some, None, length, filter, refl, sym, ap, subst, inl, inr, arith}
use Rattle.std.specs.Prelude.{◌≢◌, ◌⊎◌, not, IsTrue, Contains, MatchOption}
use Rattle.std.specs.Ordering.{is_lt}
use Rattle.std.specs.List.Sorted.{IsStrictlySortedBy}
use Rattle.std.specs.declared.cmp.Ordering.{Ordering}
use Rattle.std.specs.declared.cmp.Ordering.TheVariants.{Less, Equal, Greater}
use Rattle.std.proofs.lemmas.Cmp.{tied_itself}
use Rattle.pj_change.specs.declared.point.Point.{Point}
use Rattle.pj_change.specs.Graph.{point_cmp}
use Rattle.pj_change.proofs.EqualNames.{point_tied}
use Rattle.pj_change.proofs.Listings.{not_both}
use Rattle.pj_change.proofs.Members.{first_member, later_member, uncons, no_member, each}
use Rattle.pj_change.proofs.Orders.{point_total}
use Rattle.pj_pmap.proofs.Order.{less_back}
use Rattle.pj_rows.specs.declared.values.Here.{Here}
use Rattle.pj_dead.specs.declared.row.PseudoRow.{PseudoRow}
use Rattle.pj_dead.specs.PointGraphs.{is_above, next_above}
use Rattle.pj_dead.specs.Pseudo.{Leads, IsNoTarget, IsNextTarget}
use Rattle.pj_output.specs.Targets.{IsNextOf, IsNext, lesser}

-- ---- among the members of a rising list

next_in : (x : Point) (xs : List Point) (after : Option Point) → IsStrictlySortedBy point_cmp (x ∷ xs) → IsNext (Contains xs) after (next_above xs after) →
    (b : Bool) → is_above after x ≡ b → IsNext (Contains (x ∷ xs)) after (next_above (x ∷ xs) after)
unfolding IsStrictlySortedBy
next_in x xs after s rest true e = rw e (record {
  is = first_member x xs;
  above = e;
  first = λ q m a. elim (uncons x xs q m) [
    | inl same ↦ (λ less. let t : point_cmp x x ≡ Less = subst (λ y. point_cmp y x ≡ Less) (sym same) less in let i = tied_itself point_total x in cc)
    | inr n ↦ not_both point_cmp point_total x q (each (λ y. point_cmp x y ≡ Less) xs s.0 q n)
  ];
})
next_in x xs after s rest false e = rw e (later (next_above xs after) rest)
  where
    not_first : (q : Point) → x ≡ q → IsTrue (is_above after q) → ⊥
    not_first q same a = (let f : is_above after q ≡ false = subst (λ y. is_above after y ≡ false) same e in cc)

    later : (found : Option Point) → IsNext (Contains xs) after found → IsNext (Contains (x ∷ xs)) after found
    later None n = λ q m a. elim (uncons x xs q m) [ inl same ↦ not_first q same a | inr k ↦ n q k a ]
    later (Some p) n = record {
      is = later_member x xs p n.is;
      above = n.above;
      first = λ q m a. elim (uncons x xs q m) [ inl same ↦ absurd (not_first q same a) | inr k ↦ n.first q k a ];
    }

pub next_told : (xs : List Point) (after : Option Point) → IsStrictlySortedBy point_cmp xs → IsNext (Contains xs) after (next_above xs after)
unfolding IsStrictlySortedBy
next_told [] after s = λ q m a. no_member q m
next_told (x ∷ xs) after s = next_in x xs after s (next_told xs after s.1) (is_above after x) refl

-- ---- the lesser of two

module _ (P Q : Point → Type 0) (after : Option Point) where
  abbrev Either : Point → Type 0
  Either q = P q ⊎ Q q

  first_of : (p q : Point) (o : Ordering) → point_cmp p q ≡ o → o ≢ Greater → IsNextOf P after p → IsNextOf Q after q → IsNextOf Either after p
  first_of p q o e low a b = record {
    is = inl a.is;
    above = a.above;
    first = λ r h above. elim h [
      | inl k ↦ a.first r k above
      | inr k ↦ (λ less. b.first r k above (below o e low r less))
    ];
  }
    where
      below : (o : Ordering) → point_cmp p q ≡ o → o ≢ Greater → (r : Point) → point_cmp r p ≡ Less → point_cmp r q ≡ Less
      below Less e low r less = point_total.trans r p q less e
      below Equal e low r less = subst (λ y. point_cmp r y ≡ Less) (point_tied p q e) less
      below Greater e low r less = absurd (low refl)

  other_of : (p q : Point) → point_cmp p q ≡ Greater → IsNextOf P after p → IsNextOf Q after q → IsNextOf Either after q
  other_of p q e a b = record {
    is = inr b.is;
    above = b.above;
    first = λ r h above. elim h [
      | inl k ↦ (λ less. a.first r k above (point_total.trans r q p less (less_back point_total p q e)))
      | inr k ↦ b.first r k above
    ];
  }

  both : (p q : Point) → IsNextOf P after p → IsNextOf Q after q → (o : Ordering) → point_cmp p q ≡ o → IsNext Either after (lesser (Some p) (Some q))
  both p q a b Less e = rw e (first_of p q Less e (λ k. absurd (cc)) a b)
  both p q a b Equal e = rw e (first_of p q Equal e (λ k. absurd (cc)) a b)
  both p q a b Greater e = rw e (other_of p q e a b)

  pub lesser_told : (one other : Option Point) → IsNext P after one → IsNext Q after other → IsNext Either after (lesser one other)
  lesser_told None None a b = λ q h above. elim h [ inl k ↦ a q k above | inr k ↦ b q k above ]
  lesser_told None (Some q) a b = record {
    is = inr b.is;
    above = b.above;
    first = λ r h above. elim h [ inl k ↦ absurd (a r k above) | inr k ↦ b.first r k above ];
  }
  lesser_told (Some p) None a b = record {
    is = inl a.is;
    above = a.above;
    first = λ r h above. elim h [ inl k ↦ a.first r k above | inr k ↦ absurd (b r k above) ];
  }
  lesser_told (Some p) (Some q) a b = both p q a b (point_cmp p q) refl

-- the next target of a row is the next point to which one leads
pub rows_told : (rows : List (PseudoRow × Here)) (source : Point) (after found : Option Point) → MatchOption found (IsNoTarget rows source after) (IsNextTarget rows source after) →
    IsNext (Leads rows source) after found
rows_told rows source after None n = n
rows_told rows source after (Some q) n = record { is = n.leads; above = n.above; first = n.first }

-- ---- how many are left

-- the point is below the bound, as all are where there is none
abbrev pub is_before : Option Point → Point → Bool
is_before None q = true
is_before (Some p) q = is_lt (point_cmp q p)

-- the number of those that are not below the bound
abbrev pub left : List Point → Option Point → ℕ
left all found = length (filter (λ q. not (is_before found q)) all)

-- a bound goes up
abbrev pub GoesUp : Point → Option Point → Type 0
GoesUp p next = (r : Point) → next ≡ Some r → point_cmp p r ≡ Less

not_back : (p : Point) (next : Option Point) → GoesUp p next → (q : Point) → not (is_before next q) ≡ true → not (is_before (Some p) q) ≡ true
not_back p None up q h = absurd (cc)
not_back p (Some r) up q h = by (point_cmp q p) refl
  where
    by : (o : Ordering) → point_cmp q p ≡ o → not (is_lt o) ≡ true
    by Less e =
        let less : point_cmp q r ≡ Less = point_total.trans q p r e (up r refl) in
        let yes : is_lt (point_cmp q r) ≡ true = ap is_lt less in
        absurd (let f : not (is_lt (point_cmp q r)) ≡ false = ap not yes in cc)
    by Equal e = refl
    by Greater e = refl

not_itself : (p : Point) (next : Option Point) → GoesUp p next → not (is_before next p) ≡ false
not_itself p None up = refl
not_itself p (Some r) up = (let less : is_lt (point_cmp p r) ≡ true = ap is_lt (up r refl) in ap not less)

itself : (p : Point) → not (is_before (Some p) p) ≡ true
itself p = (let tied : is_lt (point_cmp p p) ≡ false = ap is_lt (tied_itself point_total p) in ap not tied)

-- fewer pass a narrower test, and one that fails it alone makes it less
module _ (f g : Point → Bool) (narrow : (q : Point) → f q ≡ true → g q ≡ true) where
  fewer_in : (x : Point) (xs : List Point) → length (filter f xs) ≤ length (filter g xs) → (a b : Bool) → f x ≡ a → g x ≡ b → length (filter f (x ∷ xs)) ≤ length (filter g (x ∷ xs))
  fewer_in x xs l true true e h = rw (e, h) (omega arith)
  fewer_in x xs l true false e h = absurd (let t = narrow x e in cc)
  fewer_in x xs l false true e h = rw (e, h) (omega arith)
  fewer_in x xs l false false e h = rw (e, h) l

  fewer : (xs : List Point) → length (filter f xs) ≤ length (filter g xs)
  fewer [] = omega arith
  fewer (x ∷ xs) = fewer_in x xs (fewer xs) (f x) (g x) refl refl

  less_here : (x : Point) (xs : List Point) → f x ≡ false → g x ≡ true → length (filter f (x ∷ xs)) < length (filter g (x ∷ xs))
  less_here x xs e h = (let l = fewer xs in rw (e, h) (omega arith))

  less_in : (x : Point) (xs : List Point) → length (filter f xs) < length (filter g xs) → (a b : Bool) → f x ≡ a → g x ≡ b → length (filter f (x ∷ xs)) < length (filter g (x ∷ xs))
  less_in x xs l true true e h = rw (e, h) (omega arith)
  less_in x xs l true false e h = absurd (let t = narrow x e in cc)
  less_in x xs l false true e h = rw (e, h) (omega arith)
  less_in x xs l false false e h = rw (e, h) l

  less_by : (p : Point) → f p ≡ false → g p ≡ true → (xs : List Point) → Contains xs p → length (filter f xs) < length (filter g xs)
  less_by p e h [] m = absurd (no_member p m)
  less_by p e h (x ∷ xs) m = elim (uncons x xs p m) [
    | inl same ↦ less_here x xs (subst (λ y. f y ≡ false) (sym same) e) (subst (λ y. g y ≡ true) (sym same) h)
    | inr n ↦ less_in x xs (less_by p e h xs n) (f x) (g x) refl refl
  ]

pub left_less : (all : List Point) (p : Point) (next : Option Point) → Contains all p → GoesUp p next → left all next < left all (Some p)
left_less all p next m up = less_by (λ q. not (is_before next q)) (λ q. not (is_before (Some p) q)) (not_back p next up) p (not_itself p next up) (itself p) all m
