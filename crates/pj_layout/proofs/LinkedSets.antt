-- A search for the classes that links join to one.
use Rattle.std.proofs.Common.{◌≡◌, ◌≢◌, ℕ, Bool, true, false, List, refl, sym, ◌∙◌, subst, inl, inr}
use Rattle.std.specs.Prelude.{◌⊎◌, ◌&&◌, ◌||◌, not, Contains, filter}
use Rattle.std.specs.List.{range_with_len}
use Rattle.std.proofs.lemmas.Bool.{cases_eq, cases_Bool, and_parts, or_cases, or_right, not-true, both_ways}
use Rattle.pj_bits.specs.Matrix.{bit}
use Rattle.pj_bits.specs.Row.{has, size as columns}
use Rattle.pj_change.specs.Layout.{IsChain, here, on, IsLinked, AreOrdered, AreUnordered}
use Rattle.pj_layout.specs.Orders.{Before}
use Rattle.pj_layout.specs.Parts.{Joins, IsTaken}
use Rattle.pj_layout.specs.declared.link.Link.{Link}
use Rattle.pj_layout.specs.declared.link.Link.TheVariants.{Ordered, Unordered}
use Rattle.pj_layout.proofs.Bits.{ones_sorted, ones_are_set, set_in_ones}

-- ---- links go both ways

pub joins_back : (kind : Link) (before : ℕ → ℕ → Type 0) (x y : ℕ) → Joins kind before x y → Joins kind before y x
joins_back Ordered before x y l = elim l [ inl b ↦ inr b | inr b ↦ inl b ]
joins_back Unordered before x y l = (λ e. l.0 (sym e), l.2, l.1)

module _ (link : ℕ → ℕ → Type 0) (back : (x y : ℕ) → link x y → link y x) (X : List ℕ) where
  last_member : {x y : ℕ} → IsChain link X x y → Contains X y
  last_member (here m) = m
  last_member (on c l m) = m

  joined : {x y z : ℕ} → IsChain link X x y → IsChain link X y z → IsChain link X x z
  joined c (here m) = c
  joined c (on d l m) = on (joined c d) l m

  turned : {x y : ℕ} → IsChain link X x y → IsChain link X y x
  turned (here m) = here m
  turned (on {y = y} {z = z} c l m) = joined (on (here m) (back y z l) (last_member c)) (turned c)

  -- links from one member to each one join each two
  linked_by_hub : (start : ℕ) → ((x : ℕ) → Contains X x → IsChain link X start x) → IsLinked link X
  linked_by_hub start from x y m n = joined (turned (from x m)) (from y n)

-- ---- the search

-- a class that was found: its links are followed, or it waits on the frontier
abbrev pub Found : List Bool → List Bool → ℕ → Type 0
Found done frontier x = (has done x ≡ true) ⊎ (has frontier x ≡ true)

-- Links lead from the start to each class that was found, and none leads from a class that is done to the rest.
pub record IsSearch (link : ℕ → ℕ → Type 0) (old done frontier rest : List Bool) (start : ℕ) : Type 0 where
  pub start_found : Found done frontier start
  pub found_were : (x : ℕ) → Found done frontier x → has old x ≡ true
  pub rest_were : (x : ℕ) → has rest x ≡ true → has old x ≡ true
  pub all : (x : ℕ) → has old x ≡ true → Found done frontier x ⊎ (has rest x ≡ true)
  pub gone : (x : ℕ) → Found done frontier x → has rest x ≡ true → ⊥
  pub waits : (x : ℕ) → has frontier x ≡ true → has done x ≡ true → ⊥
  pub reached : (X : List ℕ) → ((x : ℕ) → Found done frontier x → Contains X x) → (x : ℕ) → Found done frontier x → IsChain link X start x
  pub apart : (x y : ℕ) → has done x ≡ true → has rest y ≡ true → link x y → ⊥

pub not_done : (link : ℕ → ℕ → Type 0) (old done frontier rest : List Bool) (start class : ℕ) → IsSearch link old done frontier rest start → has frontier class ≡ true → has done class ≡ false
not_done link old done frontier rest start class s waited = elim (cases_Bool (has done class)) [ inl d ↦ absurd (s.waits class waited d) | inr c ↦ c ]

-- the start alone is found
module _ (link : ℕ → ℕ → Type 0) (old done empty frontier rest : List Bool) (start : ℕ) (start_in : has old start ≡ true)
    (done_clear : (c : ℕ) → has done c ≡ false) (empty_clear : (c : ℕ) → has empty c ≡ false)
    (frontier_here : has frontier start ≡ true) (frontier_others : (c : ℕ) → c ≢ start → has frontier c ≡ has empty c)
    (rest_here : has rest start ≡ false) (rest_others : (c : ℕ) → c ≢ start → has rest c ≡ has old c) where
  only_start : (x : ℕ) → Found done frontier x → start ≡ x
  only_start x f = elim (cases_eq x start) [
    | inl e ↦ sym e
    | inr n ↦ absurd (elim f [ inl d ↦ both_ways (has done x) (done_clear x) d | inr h ↦ both_ways (has frontier x) (frontier_others x n ∙ empty_clear x) h ])
  ]

  rest_old : (x : ℕ) → has rest x ≡ true → has old x ≡ true
  rest_old x r = elim (cases_eq x start) [
    | inl e ↦ subst (λ z. has old z ≡ true) (sym e) start_in
    | inr n ↦ sym (rest_others x n) ∙ r
  ]

  pub search_begins : IsSearch link old done frontier rest start
  search_begins = record {
    start_found = inr frontier_here;
    found_were = λ x f. subst (λ z. has old z ≡ true) (only_start x f) start_in;
    rest_were = rest_old;
    all = λ x o. elim (cases_eq x start) [
      | inl e ↦ inl (inr (subst (λ z. has frontier z ≡ true) (sym e) frontier_here))
      | inr n ↦ inr (rest_others x n ∙ o)
    ];
    gone = λ x f r. both_ways (has rest x) (subst (λ z. has rest z ≡ false) (only_start x f) rest_here) r;
    waits = λ x f d. both_ways (has done x) (done_clear x) d;
    reached = λ X m x f. subst (λ z. IsChain link X start z) (only_start x f) (here (m start (inr frontier_here)));
    apart = λ x y d r l. both_ways (has done x) (done_clear x) d;
  }

-- ---- the links of a class are followed

-- the classes of the rest that links join to the class go to the frontier
pub record IsFollowed (link : ℕ → ℕ → Type 0) (class : ℕ) (frontier rest frontier' rest' : List Bool) : Type 0 where
  pub kept : (x : ℕ) → has rest' x ≡ true → (has rest x ≡ true) × (link class x → ⊥)
  pub moved : (x : ℕ) → has frontier' x ≡ true → (has frontier x ≡ true) ⊎ ((has rest x ≡ true) × link class x)
  pub stays : (x : ℕ) → has frontier x ≡ true → has frontier' x ≡ true
  pub goes : (x : ℕ) → has rest x ≡ true → (has rest' x ≡ true) ⊎ (has frontier' x ≡ true)

module _ (link : ℕ → ℕ → Type 0) (old done frontier rest : List Bool) (start : ℕ) (s : IsSearch link old done frontier rest start)
    (class : ℕ) (waited : has frontier class ≡ true) (done' others frontier' rest' : List Bool)
    (done_here : has done' class ≡ true) (done_others : (c : ℕ) → c ≢ class → has done' c ≡ has done c)
    (others_here : has others class ≡ false) (others_others : (c : ℕ) → c ≢ class → has others c ≡ has frontier c)
    (f : IsFollowed link class others rest frontier' rest') where
  wider : (x : ℕ) → Found done frontier x → Found done' frontier' x
  wider x h = elim (cases_eq x class) [
    | inl e ↦ inl (subst (λ z. has done' z ≡ true) (sym e) done_here)
    | inr n ↦ elim h [ inl d ↦ inl (done_others x n ∙ d) | inr w ↦ inr (f.stays x (others_others x n ∙ w)) ]
  ]

  other_waited : (x : ℕ) → has others x ≡ true → has frontier x ≡ true
  other_waited x h = elim (cases_eq x class) [
    | inl e ↦ subst (λ z. has frontier z ≡ true) (sym e) waited
    | inr n ↦ sym (others_others x n) ∙ h
  ]

  -- what is found now was found, or it stood in the rest, and a link joins it to the class
  was : (x : ℕ) → Found done' frontier' x → Found done frontier x ⊎ ((has rest x ≡ true) × link class x)
  was x h = elim (cases_eq x class) [
    | inl e ↦ inl (inr (subst (λ z. has frontier z ≡ true) (sym e) waited))
    | inr n ↦ elim h [
      | inl d ↦ inl (inl (sym (done_others x n) ∙ d))
      | inr w ↦ elim (f.moved x w) [ inl o ↦ inl (inr (other_waited x o)) | inr l ↦ inr l ]
    ]
  ]

  still_waits : (x : ℕ) → has frontier' x ≡ true → has done' x ≡ true → ⊥
  still_waits x w d = elim (cases_eq x class) [
    | inl e ↦ elim (f.moved x w) [
      | inl o ↦ both_ways (has others x) (subst (λ z. has others z ≡ false) (sym e) others_here) o
      | inr l ↦ s.gone x (inr (subst (λ z. has frontier z ≡ true) (sym e) waited)) l.0
    ]
    | inr n ↦ elim (f.moved x w) [
      | inl o ↦ s.waits x (other_waited x o) (sym (done_others x n) ∙ d)
      | inr l ↦ s.gone x (inl (sym (done_others x n) ∙ d)) l.0
    ]
  ]

  pub search_goes_on : IsSearch link old done' frontier' rest' start
  search_goes_on = record {
    start_found = wider start s.start_found;
    found_were = λ x h. elim (was x h) [ inl w ↦ s.found_were x w | inr l ↦ s.rest_were x l.0 ];
    rest_were = λ x r. s.rest_were x (f.kept x r).0;
    all = λ x o. elim (s.all x o) [
      | inl h ↦ inl (wider x h)
      | inr r ↦ elim (f.goes x r) [ inl k ↦ inr k | inr m ↦ inl (inr m) ]
    ];
    gone = λ x h r. elim (was x h) [ inl w ↦ s.gone x w (f.kept x r).0 | inr l ↦ (f.kept x r).1 l.1 ];
    waits = still_waits;
    reached = λ X m x h.
        let earlier = s.reached X (λ y w. m y (wider y w)) in
        elim (was x h) [ inl w ↦ earlier x w | inr l ↦ on (earlier class (inr waited)) l.1 (m x h) ];
    apart = λ x y d r l. elim (cases_eq x class) [
      | inl e ↦ (f.kept y r).1 (subst (λ z. link z y) e l)
      | inr n ↦ s.apart x y (sym (done_others x n) ∙ d) (f.kept y r).0 l
    ];
  }

-- ---- by the rows of the matrix and of the one turned round

module _ (before after : List (List Bool)) (turned_round : (x y : ℕ) → bit after x y ≡ bit before y x) (class : ℕ) (row near : List Bool)
    (copied : (c : ℕ) → has row c ≡ bit before class c) (with_after : (c : ℕ) → has near c ≡ (has row c || bit after class c))
    (frontier rest frontier' rest' : List Bool) where
  near_is : (x : ℕ) → has near x ≡ (bit before class x || bit before x class)
  near_is x = with_after x ∙ rw (copied x, turned_round class x) refl

  near_is_ordered : (x : ℕ) → has near x ≡ true → AreOrdered (Before before) class x
  near_is_ordered x h = or_cases (bit before class x) (bit before x class) (sym (near_is x) ∙ h)

  ordered_is_near : (x : ℕ) → AreOrdered (Before before) class x → has near x ≡ true
  ordered_is_near x l = near_is x ∙ elim l [ inl b ↦ rw b refl | inr b ↦ or_right (bit before class x) (bit before x class) b ]

  -- a bit that was moved was there, or it was in the rest and chosen
  moved_bit : (a b c : Bool) → (a || (b && c)) ≡ true → (a ≡ true) ⊎ ((b ≡ true) × (c ≡ true))
  moved_bit a b c e = elim (or_cases a (b && c) e) [ inl h ↦ inl h | inr h ↦ inr (and_parts b c h) ]

  pub common_followed : ((c : ℕ) → has rest' c ≡ (has rest c && not (has near c))) → ((c : ℕ) → has frontier' c ≡ (has frontier c || (has rest c && has near c))) →
      IsFollowed (AreOrdered (Before before)) class frontier rest frontier' rest'
  common_followed kept moved = record {
    kept = λ x r. (let h = and_parts (has rest x) (not (has near x)) (sym (kept x) ∙ r) in (h.0, λ l. both_ways (has near x) (not-true (has near x) h.1) (ordered_is_near x l)));
    moved = λ x w. elim (moved_bit (has frontier x) (has rest x) (has near x) (sym (moved x) ∙ w)) [ inl a ↦ inl a | inr b ↦ inr (b.0, near_is_ordered x b.1) ];
    stays = λ x w. moved x ∙ rw w refl;
    goes = λ x r. elim (cases_Bool (has near x)) [ inl n ↦ inr (moved x ∙ rw (r, n) (or_right (has frontier x) true refl)) | inr n ↦ inl (kept x ∙ rw (r, n) refl) ];
  }

  pub others_followed : (has rest class ≡ true → ⊥) → ((c : ℕ) → has rest' c ≡ (has rest c && has near c)) → ((c : ℕ) → has frontier' c ≡ (has frontier c || (has rest c && not (has near c)))) →
      IsFollowed (AreUnordered (Before before)) class frontier rest frontier' rest'
  others_followed class_gone kept moved = record {
    kept = λ x r. (let h = and_parts (has rest x) (has near x) (sym (kept x) ∙ r) in (h.0, λ l. elim (near_is_ordered x h.1) [ inl b ↦ l.1 b | inr b ↦ l.2 b ]));
    moved = λ x w. elim (moved_bit (has frontier x) (has rest x) (not (has near x)) (sym (moved x) ∙ w)) [ inl a ↦ inl a | inr b ↦ inr (b.0, unordered x b.0 (not-true (has near x) b.1)) ];
    stays = λ x w. moved x ∙ rw w refl;
    goes = λ x r. elim (cases_Bool (has near x)) [ inl n ↦ inl (kept x ∙ rw (r, n) refl) | inr n ↦ inr (moved x ∙ rw (r, n) (or_right (has frontier x) true refl)) ];
  }
    where
      unordered : (x : ℕ) → has rest x ≡ true → has near x ≡ false → AreUnordered (Before before) class x
      unordered x r n = (
        λ e. class_gone (subst (λ z. has rest z ≡ true) (sym e) r),
        λ b. both_ways (has near x) n (ordered_is_near x (inl b)),
        λ b. both_ways (has near x) n (ordered_is_near x (inr b)),
      )

-- ---- no class waits

module _ (link : ℕ → ℕ → Type 0) (back : (x y : ℕ) → link x y → link y x) (old done frontier rest : List Bool) (start : ℕ) (s : IsSearch link old done frontier rest start)
    (none_waits : (c : ℕ) → has frontier c ≡ false) (part : List ℕ) (is : part ≡ filter (has done) (range_with_len 0 (columns done))) where
  found_done : (x : ℕ) → Found done frontier x → has done x ≡ true
  found_done x f = elim f [ inl d ↦ d | inr w ↦ absurd (both_ways (has frontier x) (none_waits x) w) ]

  found_in_part : (x : ℕ) → Found done frontier x → Contains part x
  found_in_part x f = set_in_ones done part is x (found_done x f)

  part_found : (x : ℕ) → Contains part x → Found done frontier x
  part_found x m = inl (ones_are_set done part is x m)

  pub search_ends : IsTaken link old rest start part
  search_ends = record {
    start_in = found_in_part start s.start_found;
    sorted = ones_sorted done part is;
    linked = linked_by_hub link back part start (λ x m. s.reached part found_in_part x (part_found x m));
    were = λ x m. s.found_were x (part_found x m);
    gone = λ x m r. s.gone x (part_found x m) r;
    others = s.rest_were;
    all = λ x o. elim (s.all x o) [ inl f ↦ inl (found_in_part x f) | inr r ↦ inr r ];
    apart = λ x y m r l. s.apart x y (ones_are_set done part is x m) r l;
  }
