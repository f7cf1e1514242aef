-- A tangle in the making: the least free class is taken again and again.
use Rattle.std.proofs.Common.{◌≡◌, ◌≢◌, ℕ, ◌+◌, ◌<◌, ◌≤◌, Bool, true, false, List, [], ◌∷◌, ◌++◌, length, nat_eq, Less, refl, sym, ◌∙◌, ap, subst, arith, inl, inr}
use Rattle.std.specs.Prelude.{Contains, IsTrue, not, filter, ◌⊎◌, ◌&&◌, ◌||◌, All}
use Rattle.std.specs.Ordering.{nat_cmp}
use Rattle.std.specs.List.Sorted.{IsStrictlySortedBy}
use Rattle.std.proofs.lemmas.Bool.{cases_Bool, cases_eq, cases_lt, false_from_ne_true, ne_eqb, eq-eqb, and_parts, or_cases, or_right, not-true}
use Rattle.std.proofs.lemmas.List.Kept.{IsStrictlySortedBy-filter}
use Rattle.std.proofs.lemmas.Map.Views.{All-after_first}
use Rattle.std.proofs.lemmas.Map.Keys.{sorted_tail}
use Rattle.std.proofs.lemmas.List.Elements.{All-contains}
use Rattle.std.specs.Cmp.{nat_cmp_total}
use Rattle.pj_bits.specs.Matrix.{bit, size as size_of}
use Rattle.pj_bits.specs.Row.{has}
use Rattle.pj_change.specs.Layout.{IsStrictOrder, IsFree, IsTangle}
use Rattle.pj_change.proofs.Members.{uncons, first_member, later_member, no_member}
use Rattle.pj_change.proofs.Listings.{not_both}
use Rattle.pj_layout.specs.Counts.{count, digit, predecessors}
use Rattle.pj_layout.specs.Orders.{Before}
use Rattle.pj_layout.specs.Tangles.{left, WereTaken}
use Rattle.pj_layout.proofs.Filters.{filtered_member, member_filtered, shorter, is_not, not_is, itself}
use Rattle.pj_layout.proofs.Predecessors.{none_before, none_counted}

-- a list without a number
abbrev pub without : ℕ → List ℕ → List ℕ
without x xs = filter (λ y. not (nat_eq x y)) xs

-- ---- one class more is taken

pub left_more : (X xs : List ℕ) (x : ℕ) → left X (xs ++ x ∷ []) ≡ without x (left X xs)
left_more X [] x = refl
left_more X (y ∷ ys) x = left_more (without y X) ys x

pub left_sorted : (X xs : List ℕ) → IsStrictlySortedBy nat_cmp X → IsStrictlySortedBy nat_cmp (left X xs)
left_sorted X [] sorted = sorted
left_sorted X (y ∷ ys) sorted = left_sorted (without y X) ys (IsStrictlySortedBy-filter nat_cmp (λ z. not (nat_eq y z)) X sorted)

module _ (before : ℕ → ℕ → Type 0) where
  pub taken_more : (X xs : List ℕ) (x : ℕ) → WereTaken before X xs → IsFree before (left X xs) x → ((y : ℕ) → IsFree before (left X xs) y → x ≤ y) → WereTaken before X (xs ++ x ∷ [])
  taken_more X [] x w free least = (free, least, tt)
  taken_more X (y ∷ ys) x w free least = (w.0, w.1, taken_more (without y X) ys x w.2 free least)

  pub all_taken : (X xs : List ℕ) → WereTaken before X xs → left X xs ≡ [] → IsTangle before X xs
  all_taken X [] w e = e
  all_taken X (y ∷ ys) w e = (w.0, w.1, all_taken (without y X) ys w.2 e)

-- ---- a count without a number

module _ (before : List (List Bool)) where
  kept : (x class : ℕ) (xs : List ℕ) → ((y : ℕ) → Contains xs y → x ≢ y) → predecessors before (without x xs) class ≡ predecessors before xs class
  kept x class [] apart = refl
  kept x class (y ∷ ys) apart =
      let e : nat_eq x y ≡ false = ne_eqb x y (apart y (first_member y ys)) in
      let rest = kept x class ys (λ z m. apart z (later_member y ys z m)) in
      rw e (omega arith)

  pub uncounted : (x class : ℕ) (xs : List ℕ) → IsStrictlySortedBy nat_cmp xs → Contains xs x → predecessors before xs class ≡ predecessors before (without x xs) class + digit (bit before x class)
  uncounted x class [] sorted m = absurd (no_member x m)
  uncounted x class (y ∷ ys) sorted m = elim (cases_eq x y) [
    | inl same ↦
        let e : nat_eq x y ≡ true = eq-eqb x y same in
        let rest = kept x class ys (λ z n f. above ys (All-after_first nat_cmp y ys sorted) z n (sym same ∙ f)) in
        rw (e, same) (omega (arith, rw same at rest))
    | inr differ ↦
        let e : nat_eq x y ≡ false = ne_eqb x y differ in
        let rest = uncounted x class ys (sorted_tail nat_cmp y ys sorted) (elim (uncons y ys x m) [ inl same ↦ absurd (differ (sym same)) | inr later ↦ later ]) in
        rw e (omega arith)
  ]
    where
      -- y is not among those that stand after it
      above : (zs : List ℕ) → All (λ q. nat_cmp y q ≡ Less) zs → (z : ℕ) → Contains zs z → y ≡ z → ⊥
      above zs all z n f = not_both nat_cmp nat_cmp_total y y (subst (λ w. nat_cmp y w ≡ Less) (sym f) (All-contains (λ q. nat_cmp y q ≡ Less) zs z all n)) (subst (λ w. nat_cmp y w ≡ Less) (sym f) (All-contains (λ q. nat_cmp y q ≡ Less) zs z all n))

-- ---- a class that is free

-- some class of a set that is not empty is free
pub record HasFree (before : ℕ → ℕ → Type 0) (X : List ℕ) : Type 0 where
  pub class : ℕ
  pub free : IsFree before X class

module _ (test : ℕ → ℕ → Bool) (strict : IsStrictOrder (λ x y. IsTrue (test x y))) where
  pub some_free : (x : ℕ) (xs : List ℕ) → HasFree (λ x y. IsTrue (test x y)) (x ∷ xs)
  some_free x [] = record { class = x; free = record { member = first_member x []; first = λ y m b. elim (uncons x [] y m) [ inl same ↦ strict.irreflexive x (subst (λ z. IsTrue (test z x)) (sym same) b) | inr later ↦ no_member y later ] } }
  some_free x (y ∷ ys) = go (some_free y ys)
    where
      go : HasFree (λ x y. IsTrue (test x y)) (y ∷ ys) → HasFree (λ x y. IsTrue (test x y)) (x ∷ y ∷ ys)
      go f = elim (cases_Bool (test x f.class)) [
        | inl is ↦ record {
          class = x;
          free = record {
            member = first_member x (y ∷ ys);
            first = λ z m b. elim (uncons x (y ∷ ys) z m) [
              | inl same ↦ strict.irreflexive x (subst (λ w. IsTrue (test w x)) (sym same) b)
              | inr later ↦ f.free.first z later (strict.transitive z x f.class b is)
            ];
          };
        }
        | inr is ↦ record {
          class = f.class;
          free = record {
            member = later_member x (y ∷ ys) f.class f.free.member;
            first = λ z m b. elim (uncons x (y ∷ ys) z m) [
              | inl same ↦ (let h : test z f.class ≡ true = b in let g : test x f.class ≡ true = subst (λ w. test w f.class ≡ true) (sym same) h in absurd (let t : ◌≡◌ {A = Bool} true false = sym g ∙ is in cc))
              | inr later ↦ f.free.first z later b
            ];
          };
        }
      ]

-- ---- the loop

-- before its counts are lowered by the row of the class that was taken last
pub record Taking (before : List (List Bool)) (X taken : List ℕ) (rest free row : List Bool) (counts : List (List Bool)) : Type 0 where
  pub wide : All (λ (d : List Bool). length d ≡ size_of before) counts
  pub rest_width : length rest ≡ size_of before
  pub free_width : length free ≡ size_of before
  pub row_width : length row ≡ size_of before
  pub were : WereTaken (Before before) X taken
  pub counted : (c : ℕ) → count counts c ≡ predecessors before (left X taken) c + digit (has row c)
  pub rest_in : (c : ℕ) → has rest c ≡ true → Contains (left X taken) c
  pub free_in : (c : ℕ) → has free c ≡ true → IsFree (Before before) (left X taken) c
  pub all_in : (c : ℕ) → Contains (left X taken) c → (has rest c ≡ true) ⊎ (has free c ≡ true)

-- and after: the free row has just the free classes
pub record Sorted (before : List (List Bool)) (X taken : List ℕ) (rest free : List Bool) (counts : List (List Bool)) : Type 0 where
  pub were : WereTaken (Before before) X taken
  pub counted : (c : ℕ) → count counts c ≡ predecessors before (left X taken) c
  pub rest_in : (c : ℕ) → has rest c ≡ true → Contains (left X taken) c × (IsFree (Before before) (left X taken) c → ⊥)
  pub free_in : (c : ℕ) → has free c ≡ true → IsFree (Before before) (left X taken) c
  pub all_in : (c : ℕ) → Contains (left X taken) c → (has rest c ≡ true) ⊎ (has free c ≡ true)

is_false : {b : Bool} → b ≡ false → IsTrue b → ⊥
is_false e h = (let t : ◌≡◌ {A = Bool} false true = sym e ∙ h in (cc))

module _ (before : List (List Bool)) (R : List ℕ) (c : ℕ) where
  free_from_count : Contains R c → predecessors before R c ≡ 0 → IsFree (Before before) R c
  free_from_count m e = record { member = m; first = λ y n b. is_false (none_before before R c e y n) b }

  count_from_free : IsFree (Before before) R c → predecessors before R c ≡ 0
  count_from_free f = none_counted before R c (λ y n. false_from_ne_true (bit before y c) (λ e. f.first y n e))

-- the counts are lowered, and what is counted no longer is free
module _ (before : List (List Bool)) (X taken : List ℕ) (rest free row : List Bool) (counts : List (List Bool)) (rest_next free_next clear counted : List Bool) (lowered : List (List Bool))
    (low : (c : ℕ) → count lowered c + digit (has row c) ≡ count counts c) (none : (c : ℕ) → has clear c ≡ false) (are : (c : ℕ) → has counted c ≡ (has clear c || not (nat_eq (count lowered c) 0)))
    (kept : (c : ℕ) → has rest_next c ≡ (has rest c && has counted c)) (moved : (c : ℕ) → has free_next c ≡ (has free c || (has rest c && not (has counted c))))
    (t : Taking before X taken rest free row counts) where
  counts_left : (c : ℕ) → count lowered c ≡ predecessors before (left X taken) c
  counts_left c = (let l = low c in let k = t.counted c in omega arith)

  -- a class is counted where one is left before it
  yes : (c : ℕ) → has counted c ≡ true → predecessors before (left X taken) c ≢ 0
  yes c e z =
      let none_left : count lowered c ≡ 0 = counts_left c ∙ z in
      let f : nat_eq (count lowered c) 0 ≡ true = eq-eqb (count lowered c) 0 none_left in
      let g : has counted c ≡ false = are c ∙ rw (none c, f) refl in
      let t : ◌≡◌ {A = Bool} true false = sym e ∙ g in (cc)

  no : (c : ℕ) → has counted c ≡ false → predecessors before (left X taken) c ≡ 0
  no c e = elim (cases_eq (count lowered c) 0) [
    | inl z ↦ sym (counts_left c) ∙ z
    | inr n ↦ absurd (
        let f : nat_eq (count lowered c) 0 ≡ false = ne_eqb (count lowered c) 0 n in
        let g : has counted c ≡ true = are c ∙ rw (none c, f) refl in
        let t : ◌≡◌ {A = Bool} true false = sym g ∙ e in cc
        )
  ]

  pub sorted_out : Sorted before X taken rest_next free_next lowered
  sorted_out = record {
    were = t.were;
    counted = counts_left;
    rest_in = λ c h. (let parts = and_parts (has rest c) (has counted c) (sym (kept c) ∙ h) in (t.rest_in c parts.0, λ f. yes c parts.1 (count_from_free before (left X taken) c f)));
    free_in = λ c h. elim (or_cases (has free c) (has rest c && not (has counted c)) (sym (moved c) ∙ h)) [
      | inl was ↦ t.free_in c was
      | inr new ↦ (let parts = and_parts (has rest c) (not (has counted c)) new in free_from_count before (left X taken) c (t.rest_in c parts.0) (no c (not-true (has counted c) parts.1)))
    ];
    all_in = λ c m. elim (t.all_in c m) [
      | inl in_rest ↦ elim (cases_Bool (has counted c)) [
        | inl e ↦ inl (kept c ∙ rw (in_rest, e) refl)
        | inr e ↦ inr (moved c ∙ rw (in_rest, e) (or_right (has free c) true refl))
      ]
      | inr in_free ↦ inr (moved c ∙ rw in_free refl)
    ];
  }

-- the least free class is taken
module _ (before : List (List Bool)) (X taken : List ℕ) (rest free : List Bool) (counts : List (List Bool)) (class : ℕ) (free_next row : List Bool)
    (is : has free class ≡ true) (first : (c : ℕ) → c < class → has free c ≡ false)
    (gone : has free_next class ≡ false) (others : (c : ℕ) → c ≢ class → has free_next c ≡ has free c) (copied : (c : ℕ) → has row c ≡ bit before class c)
    (sorted : IsStrictlySortedBy nat_cmp X) (s : Sorted before X taken rest free counts) where
  least : (y : ℕ) → IsFree (Before before) (left X taken) y → class ≤ y
  least y f = elim (cases_lt y class) [
    | inl below ↦ absurd (elim (s.all_in y f.member) [
      | inl in_rest ↦ (s.rest_in y in_rest).1 f
      | inr in_free ↦ (let e = first y below in let t : ◌≡◌ {A = Bool} true false = sym in_free ∙ e in cc)
    ])
    | inr above ↦ above
  ]

  pub class_taken : All (λ (d : List Bool). length d ≡ size_of before) counts → length rest ≡ size_of before → length free_next ≡ size_of before → length row ≡ size_of before →
      Taking before X (taken ++ class ∷ []) rest free_next row counts
  class_taken wide rest_width free_width row_width =
      let now : left X (taken ++ class ∷ []) ≡ without class (left X taken) = left_more X taken class in
      let it = s.free_in class is in
      let there : (c : ℕ) → Contains (left X taken) c → c ≢ class → Contains (left X (taken ++ class ∷ [])) c =
      λ c m n. rw now (filtered_member (λ y. not (nat_eq class y)) (left X taken) c m (is_not class c (λ e. n (sym e)))) in
      let was : (c : ℕ) → Contains (left X (taken ++ class ∷ [])) c → Contains (left X taken) c × (c ≢ class) =
      λ c m. (let k = member_filtered (λ y. not (nat_eq class y)) (left X taken) c (rw now at m) in (k.0, λ e. not_is class c k.1 (sym e))) in
      record {
        wide = wide;
        rest_width = rest_width;
        free_width = free_width;
        row_width = row_width;
        were = taken_more (Before before) X taken class s.were it least;
        counted = λ c. s.counted c ∙ uncounted before class c (left X taken) (left_sorted X taken sorted) it.member ∙ rw (now, copied c) refl;
        rest_in = λ c h. (let k = s.rest_in c h in there c k.0 (λ e. k.1 (subst (λ z. IsFree (Before before) (left X taken) z) (sym e) it)));
        free_in = λ c h.
            let n : c ≢ class = λ e. (let g : has free_next c ≡ false = ap (has free_next) e ∙ gone in let t : ◌≡◌ {A = Bool} true false = sym h ∙ g in (cc)) in
            let f = s.free_in c (sym (others c n) ∙ h) in
            record { member = there c f.member n; first = λ y m b. f.first y (was y m).0 b };
        all_in = λ c m. (let k = was c m in elim (s.all_in c k.0) [ inl in_rest ↦ inl in_rest | inr in_free ↦ inr (others c k.1 ∙ in_free) ]);
      }

  pub fewer_left : length (left X (taken ++ class ∷ [])) < length (left X taken)
  fewer_left = (let it = s.free_in class is in rw (left_more X taken class) (shorter (λ y. not (nat_eq class y)) (left X taken) class it.member (itself class)))

-- where no class is free none is left
pub none_left : (before : List (List Bool)) → IsStrictOrder (Before before) → (X taken : List ℕ) (rest free : List Bool) (counts : List (List Bool)) →
    ((c : ℕ) → has free c ≡ false) → Sorted before X taken rest free counts → IsTangle (Before before) X taken
none_left before strict X taken rest free counts none s = all_taken (Before before) X taken s.were (empty (left X taken) refl)
  where
    empty : (R : List ℕ) → left X taken ≡ R → left X taken ≡ []
    empty [] e = e
    empty (x ∷ xs) e = absurd (
        let f = some_free (bit before) strict x xs in
        let g : IsFree (Before before) (left X taken) f.class = subst (λ l. IsFree (Before before) l f.class) (sym e) f.free in
        elim (s.all_in f.class g.member) [
          | inl in_rest ↦ (s.rest_in f.class in_rest).1 g
          | inr in_free ↦ (let t : ◌≡◌ {A = Bool} true false = sym in_free ∙ none f.class in cc)
        ]
        )
