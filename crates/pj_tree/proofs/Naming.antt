-- One more name, after those whose pairs are there.
use Rattle.std.proofs.Common.{◌≡◌, ◌≢◌, Bool, true, false, ◌&&◌, ◌||◌, List, [], ◌∷◌, ◌++◌, refl, sym, ap, ◌∙◌, subst, inl, inr, ◌⊎◌, ⊎_elim, Contains, if◌then◌else◌}
use Rattle.std.specs.List.{list_any, AllByRecursion}
use Rattle.std.specs.List.Sorted.{IsStrictlySortedBy}
use Rattle.std.specs.Ordering.{is_eq, ordering_then, ordering_reverse}
use Rattle.std.specs.declared.cmp.Ordering.{Ordering}
use Rattle.std.specs.declared.cmp.Ordering.TheVariants.{Less, Equal, Greater}
use Rattle.std.specs.Cmp.{Equal-is}
use Rattle.std.proofs.Math.Bool.{and-false, or-false, or-true}
use Rattle.std.proofs.lemmas.Bool.{and_parts, false_from_ne_true}
use Rattle.std.proofs.lemmas.Cmp.{tied_itself, tied_back, alike_right}
use Rattle.std.proofs.lemmas.List.Folds.{list_any-append}
use Rattle.std.proofs.lemmas.List.Elements.{Contains-append_left, Contains-push, Contains-push_cases}
use Rattle.pj_change.specs.declared.point.Point.{Point}
use Rattle.pj_change.specs.declared.graph.Status.{Status}
use Rattle.pj_change.specs.declared.graph.Status.TheVariants.{Alive, Dead, Zombie}
use Rattle.pj_change.specs.declared.print.StepWord.{StepWord}
use Rattle.pj_change.specs.declared.print.StepWord.TheVariants as word
use Rattle.pj_change.proofs.Members.{each, passes, any_member, uncons, no_member, first_member, later_member}
use Rattle.pj_tree.specs.declared.row.NameRow.{NameRow}
use Rattle.pj_tree.specs.declared.pairings.Pairing.{Pairing}
use Rattle.pj_tree.specs.Rows.{pair_cmp, row_cmp}
use Rattle.pj_tree.specs.RowOrder.{pair_total}
use Rattle.pj_tree.specs.Pairings.{pairing_cmp, has_word, is_pair, says, says_exec, IsPairing, IsCovered, ArePairings, merged, merged_by}

-- ---- lists in order

pub sorted_before : {X : Type 0} (cmp : X → X → Ordering) (xs : List X) (x y : X) → IsStrictlySortedBy cmp (xs ++ x ∷ []) → Contains xs y → cmp y x ≡ Less
unfolding IsStrictlySortedBy
sorted_before cmp [] x y s m = absurd (no_member y m)
sorted_before {X} cmp (z ∷ xs) x y s m = elim (uncons z xs y m) [
  | inl e ↦ subst (λ w. cmp w x ≡ Less) e (each (λ w. cmp z w ≡ Less) (xs ++ x ∷ []) s.0 x (Contains-push xs x))
  | inr n ↦ sorted_before cmp xs x y s.1 n
]

pub sorted_left : {X : Type 0} (cmp : X → X → Ordering) (xs ys : List X) → IsStrictlySortedBy cmp (xs ++ ys) → IsStrictlySortedBy cmp xs
unfolding IsStrictlySortedBy
sorted_left cmp [] ys s = tt
sorted_left {X} cmp (x ∷ xs) ys s = (all xs s.0, sorted_left cmp xs ys s.1)
  where
    all : (zs : List X) → AllByRecursion (λ y. cmp x y ≡ Less) (zs ++ ys) → AllByRecursion (λ y. cmp x y ≡ Less) zs
    all [] h = tt
    all (z ∷ zs) h = (h.0, all zs h.1)

pub sorted_push : {X : Type 0} (cmp : X → X → Ordering) (xs : List X) (x : X) → IsStrictlySortedBy cmp xs → ((y : X) → Contains xs y → cmp y x ≡ Less) → IsStrictlySortedBy cmp (xs ++ x ∷ [])
unfolding IsStrictlySortedBy
sorted_push cmp [] x s below = (tt, tt)
sorted_push {X} cmp (z ∷ xs) x s below = (all xs s.0, sorted_push cmp xs x s.1 (λ y m. below y (later_member z xs y m)))
  where
    all : (zs : List X) → AllByRecursion (λ y. cmp z y ≡ Less) zs → AllByRecursion (λ y. cmp z y ≡ Less) (zs ++ x ∷ [])
    all [] h = (below z (first_member z xs), tt)
    all (y ∷ zs) h = (h.0, all zs h.1)

-- no row, no pairing
pub no_pairings : (status : Point → Status) → ArePairings status [] []
unfolding IsStrictlySortedBy
no_pairings status = record { sorted = tt; each = λ e m. absurd (no_member e m); all = λ r m live. absurd (no_member r m) }

-- ---- tests

pub any_push : {X : Type 0} (p : X → Bool) (xs : List X) (x : X) → list_any p (xs ++ x ∷ []) ≡ (list_any p xs || p x)
any_push p xs x = list_any-append p xs (x ∷ []) ∙ ap (λ b. list_any p xs || b) (or-false (p x))

word_is : (s : Status) (w : StepWord) → has_word s w ≡ true → has_word s word.Alive ≡ true → w ≡ word.Alive
word_is Alive word.Alive h g = refl
word_is Alive word.Zombie h g = absurd (cc)
word_is Alive word.Orphan h g = absurd (cc)
word_is Alive word.Adrift h g = absurd (cc)
word_is Dead w h g = absurd (cc)
word_is Zombie w h g = absurd (cc)

pub not_dead : (s : Status) (w : StepWord) → has_word s w ≡ true → s ≢ Dead
not_dead Alive w h e = cc
not_dead Zombie w h e = cc
not_dead Dead w h e = cc h

dead_is : (s : Status) → ((w : StepWord) → has_word s w ≡ false) → s ≡ Dead
dead_is Alive h = absurd (let f = h word.Alive in cc)
dead_is Dead h = refl
dead_is Zombie h = absurd (let f = h word.Zombie in cc)

module _ (status : Point → Status) (rows : List NameRow) (r : NameRow) where
  abbrev more : List NameRow
  more = rows ++ r ∷ []

  says_push : (p : NameRow) (w : StepWord) → says status more p w ≡ (says status rows p w || (is_pair p r && has_word (status r.at) w))
  says_push p w = any_push (λ q. is_pair p q && has_word (status q.at) w) rows r

  exec_push : (p : NameRow) (w : StepWord) → says_exec status more p w ≡ (says_exec status rows p w || (is_pair p r && (has_word (status r.at) w && r.exec)))
  exec_push p w = any_push (λ q. is_pair p q && (has_word (status q.at) w && q.exec)) rows r

  -- ---- a name that says nothing of the pair

  abbrev IsQuiet : NameRow → Type 0
  IsQuiet p = (w : StepWord) → (is_pair p r && has_word (status r.at) w) ≡ false

  says_quiet : (p : NameRow) → IsQuiet p → (w : StepWord) → says status more p w ≡ says status rows p w
  says_quiet p q w = says_push p w ∙ ap (λ b. says status rows p w || b) (q w) ∙ or-false (says status rows p w)

  exec_quiet : (p : NameRow) → IsQuiet p → (w : StepWord) → says_exec status more p w ≡ says_exec status rows p w
  exec_quiet p q w = exec_push p w ∙ ap (λ b. says_exec status rows p w || b) (three (is_pair p r) (has_word (status r.at) w) r.exec (q w)) ∙ or-false (says_exec status rows p w)
    where
      three : (a b c : Bool) → (a && b) ≡ false → (a && (b && c)) ≡ false
      three true true c h = absurd (cc)
      three true false c h = refl
      three false b c h = refl

  pairing_quiet : (e : Pairing) → IsQuiet e.row.now → IsPairing status rows e → IsPairing status more e
  pairing_quiet e q h = record {
    there = Contains-append_left rows (r ∷ []) e.row.now h.there;
    said = says_quiet e.row.now q e.word ∙ h.said;
    word = h.word ∙ ap (λ b. if b then word.Alive else word.Zombie) (sym (says_quiet e.row.now q word.Alive));
    exec = h.exec ∙ sym (exec_quiet e.row.now q e.word);
  }

  quiet_apart : (e : Pairing) → pair_cmp e.row.now r ≡ Less → IsQuiet e.row.now
  quiet_apart e low w =
      let f : is_pair e.row.now r ≡ false = ap is_eq (pair_total.antisymm r e.row.now ∙ ap ordering_reverse low) in
      ap (λ b. b && has_word (status r.at) w) f

  -- ---- a dead name

  pub naming_dead : (pairings : List Pairing) → ArePairings status rows pairings → ((w : StepWord) → has_word (status r.at) w ≡ false) → ArePairings status more pairings
  naming_dead pairings a dead = record {
    sorted = a.sorted;
    each = λ e m. pairing_quiet e (λ w. ap (λ b. is_pair e.row.now r && b) (dead w) ∙ and-false (is_pair e.row.now r)) (a.each e m);
    all = λ q m live. ⊎_elim (λ (h : Contains rows q). a.all q h live) (λ (h : r ≡ q). absurd (live (ap (λ (x : NameRow). status x.at) (sym h) ∙ dead_is (status r.at) dead))) (Contains-push_cases rows r q m);
  }

  -- ---- the order of the pairs

  -- a pair of a row is not after that of a later row
  not_after : IsStrictlySortedBy row_cmp more → (q : NameRow) → Contains rows q → is_eq (pair_cmp q r) ≡ false → pair_cmp q r ≡ Less
  not_after s q m other = first (pair_cmp q r) _ (sorted_before row_cmp rows r q s m) other
    where
      first : (a b : Ordering) → ordering_then a b ≡ Less → is_eq a ≡ false → a ≡ Less
      first Less b h n = refl
      first Equal b h n = absurd (cc)
      first Greater b h n = absurd (cc)

  pub below_last : (init : List Pairing) (last : Pairing) → ArePairings status rows (init ++ last ∷ []) → IsStrictlySortedBy row_cmp more → is_eq (pair_cmp last.row.now r) ≡ false →
      (e : Pairing) → Contains (init ++ last ∷ []) e → pair_cmp e.row.now r ≡ Less
  below_last init last a s other e m = ⊎_elim
      (λ (h : Contains init e). pair_total.trans e.row.now last.row.now r (sorted_before pairing_cmp init last e a.sorted h) low)
      (λ (h : last ≡ e). subst (λ (x : Pairing). pair_cmp x.row.now r ≡ Less) h low)
      (Contains-push_cases init last e m)
    where
      low : pair_cmp last.row.now r ≡ Less
      low = not_after s last.row.now (a.each last (Contains-push init last)).there other

  -- ---- the first name of a pair

  pair_itself : is_pair r r ≡ true
  pair_itself = ap is_eq (tied_itself pair_total r)

  none_says : (pairings : List Pairing) → ArePairings status rows pairings → ((e : Pairing) → Contains pairings e → pair_cmp e.row.now r ≡ Less) → (w : StepWord) → says status rows r w ≡ false
  none_says pairings a below w = false_from_ne_true (says status rows r w) (λ h. none h)
    where
      none : says status rows r w ≡ true → ⊥
      none h =
          let p = passes (λ q. is_pair r q && has_word (status q.at) w) rows h in
          let both = and_parts (is_pair r p.it) (has_word (status p.it.at) w) p.is in
          let c = a.all p.it p.member (not_dead (status p.it.at) w both.1) in
          let q_r : pair_cmp p.it r ≡ Equal = (Equal-is (pair_cmp p.it r)).0 both.0 in
          let e_q : pair_cmp c.pairing.row.now p.it ≡ Equal = (Equal-is (pair_cmp c.pairing.row.now p.it)).0 c.is in
          let e_r : pair_cmp c.pairing.row.now r ≡ Equal = pair_total.congr c.pairing.row.now p.it r e_q ∙ q_r in
          let low = below c.pairing c.there in
          let f = sym e_r ∙ low in cc

  none_exec : (p : NameRow) (w : StepWord) → says status rows p w ≡ false → says_exec status rows p w ≡ false
  none_exec p w none = false_from_ne_true (says_exec status rows p w) (λ h.
      let q = passes (λ q. is_pair p q && (has_word (status q.at) w && q.exec)) rows h in
      let both = and_parts (is_pair p q.it) (has_word (status q.it.at) w && q.it.exec) q.is in
      let word_and = and_parts (has_word (status q.it.at) w) q.it.exec both.1 in
      let t : says status rows p w ≡ true = any_member (λ q. is_pair p q && has_word (status q.at) w) rows q.it q.member (λ i. both.0 i && word_and.0 i) in
      let f = sym t ∙ none in cc)

  pub naming_new : (pairings : List Pairing) (e : Pairing) (w : StepWord) → ArePairings status rows pairings → ((x : Pairing) → Contains pairings x → pair_cmp x.row.now r ≡ Less) →
      has_word (status r.at) w ≡ true → e.row.now ≡ r → e.word ≡ w → e.exec ≡ r.exec → ArePairings status more (pairings ++ e ∷ [])
  naming_new pairings e w a below live row_is word_is_w exec_is = record {
    sorted = sorted_push pairing_cmp pairings e a.sorted (λ x m. subst (λ q. pair_cmp x.row.now q ≡ Less) (sym row_is) (below x m));
    each = λ x m. ⊎_elim (λ (h : Contains pairings x). pairing_quiet x (quiet_apart x (below x h)) (a.each x h)) (λ (h : e ≡ x). subst (IsPairing status more) h mine) (Contains-push_cases pairings e x m);
    all = λ q m alive. ⊎_elim
        (λ (h : Contains rows q). let c = a.all q h alive in record { pairing = c.pairing; there = Contains-append_left pairings (e ∷ []) c.pairing c.there; is = c.is })
        (λ (h : r ≡ q). record { pairing = e; there = Contains-push pairings e; is = subst (λ x. is_pair x e.row.now ≡ true) h (subst (λ x. is_pair r x ≡ true) (sym row_is) pair_itself) })
        (Contains-push_cases rows r q m);
  }
    where
      here : (v : StepWord) → says status more r v ≡ has_word (status r.at) v
      here v = says_push r v ∙ (λ i. none_says pairings a below v i || (pair_itself i && has_word (status r.at) v))

      exec_here : says_exec status more r w ≡ r.exec
      exec_here = exec_push r w ∙ (λ i. none_exec r w (none_says pairings a below w) i || (pair_itself i && (live i && r.exec)))

      word_of : (b : Bool) → has_word (status r.at) word.Alive ≡ b → w ≡ (if b then word.Alive else word.Zombie)
      word_of true h = word_is (status r.at) w live h
      word_of false h = zombie (status r.at) w live h
        where
          zombie : (s : Status) (v : StepWord) → has_word s v ≡ true → has_word s word.Alive ≡ false → v ≡ word.Zombie
          zombie Alive v h g = absurd (cc)
          zombie Dead v h g = absurd (cc)
          zombie Zombie word.Alive h g = absurd (cc)
          zombie Zombie word.Zombie h g = refl
          zombie Zombie word.Orphan h g = absurd (cc)
          zombie Zombie word.Adrift h g = absurd (cc)

      mine : IsPairing status more e
      mine = record {
        there = subst (Contains more) (sym row_is) (Contains-push rows r);
        said = (λ i. says status more (row_is i) (word_is_w i)) ∙ here w ∙ live;
        word = word_is_w ∙ word_of (has_word (status r.at) word.Alive) refl ∙ ap (λ b. if b then word.Alive else word.Zombie) (sym ((λ i. says status more (row_is i) word.Alive) ∙ here word.Alive));
        exec = exec_is ∙ sym ((λ i. says_exec status more (row_is i) (word_is_w i)) ∙ exec_here);
      }

  -- ---- a further name of the last pair

  merged_row : (v w : StepWord) (e : Pairing) (x : Bool) → (merged_by v w e x).row.now ≡ e.row.now
  merged_row word.Alive word.Alive e x = refl
  merged_row word.Alive word.Zombie e x = refl
  merged_row word.Alive word.Orphan e x = refl
  merged_row word.Alive word.Adrift e x = refl
  merged_row word.Zombie word.Alive e x = refl
  merged_row word.Zombie word.Zombie e x = refl
  merged_row word.Zombie word.Orphan e x = refl
  merged_row word.Zombie word.Adrift e x = refl
  merged_row word.Orphan w e x = refl
  merged_row word.Adrift w e x = refl

  module _ (last : Pairing) (h : IsPairing status rows last) (tied : pair_cmp last.row.now r ≡ Equal) where
    abbrev pair : NameRow
    pair = last.row.now

    same : is_pair pair r ≡ true
    same = ap is_eq (tied_back pair_total pair r tied)

    says_now : (u : StepWord) → says status more pair u ≡ (says status rows pair u || has_word (status r.at) u)
    says_now u = says_push pair u ∙ (λ i. says status rows pair u || (same i && has_word (status r.at) u))

    exec_now : (u : StepWord) → says_exec status more pair u ≡ (says_exec status rows pair u || (has_word (status r.at) u && r.exec))
    exec_now u = exec_push pair u ∙ (λ i. says_exec status rows pair u || (same i && (has_word (status r.at) u && r.exec)))

    still_there : Contains more pair
    still_there = Contains-append_left rows (r ∷ []) pair h.there

    abbrev chosen : Bool → StepWord
    chosen b = if b then word.Alive else word.Zombie

    said_as : (v : StepWord) → last.word ≡ v → says status rows pair v ≡ true
    said_as v e = subst (λ u. says status rows pair u ≡ true) e h.said

    exec_as : (v : StepWord) → last.word ≡ v → last.exec ≡ says_exec status rows pair v
    exec_as v e = subst (λ u. last.exec ≡ says_exec status rows pair u) e h.exec

    not_alive : last.word ≡ word.Zombie → says status rows pair word.Alive ≡ false
    not_alive e = by (says status rows pair word.Alive) refl
      where
        by : (b : Bool) → says status rows pair word.Alive ≡ b → says status rows pair word.Alive ≡ false
        by false g = g
        by true g = absurd (let f : word.Zombie ≡ word.Alive = sym e ∙ h.word ∙ ap chosen g in cc)

    no_other : (v : StepWord) → last.word ≡ v → (v ≢ word.Alive) → (v ≢ word.Zombie) → ⊥
    no_other v e a z = by (says status rows pair word.Alive) refl
      where
        by : (b : Bool) → says status rows pair word.Alive ≡ b → ⊥
        by true g = a (sym e ∙ h.word ∙ ap chosen g)
        by false g = z (sym e ∙ h.word ∙ ap chosen g)

    zombie_only : has_word (status r.at) word.Zombie ≡ true → has_word (status r.at) word.Alive ≡ false
    zombie_only live = by (status r.at) live
      where
        by : (s : Status) → has_word s word.Zombie ≡ true → has_word s word.Alive ≡ false
        by Alive g = absurd (cc)
        by Dead g = refl
        by Zombie g = refl

    no_word : (w : StepWord) → has_word (status r.at) w ≡ true → (w ≡ word.Alive) ⊎ (w ≡ word.Zombie)
    no_word w live = by (status r.at) w live
      where
        by : (s : Status) (u : StepWord) → has_word s u ≡ true → (u ≡ word.Alive) ⊎ (u ≡ word.Zombie)
        by s word.Alive g = inl refl
        by s word.Zombie g = inr refl
        by Alive word.Orphan g = absurd (cc)
        by Dead word.Orphan g = absurd (cc)
        by Zombie word.Orphan g = absurd (cc)
        by Alive word.Adrift g = absurd (cc)
        by Dead word.Adrift g = absurd (cc)
        by Zombie word.Adrift g = absurd (cc)

    -- a pairing that is the first of its kind, or has the same word
    again_said : (v : StepWord) → last.word ≡ v → says status more pair v ≡ true
    again_said v e = says_now v ∙ ap (λ b. b || has_word (status r.at) v) (said_as v e)

    again_exec : (v : StepWord) → last.word ≡ v → has_word (status r.at) v ≡ true → (last.exec || r.exec) ≡ says_exec status more pair v
    again_exec v e live = sym (exec_now v ∙ (λ i. sym (exec_as v e) i || (live i && r.exec)))

    alive_word : (b : says status more pair word.Alive ≡ true) → word.Alive ≡ chosen (says status more pair word.Alive)
    alive_word b = ap chosen (sym b)

    still_zombie : last.word ≡ word.Zombie → has_word (status r.at) word.Zombie ≡ true → word.Zombie ≡ chosen (says status more pair word.Alive)
    still_zombie e live = ap chosen (sym (says_now word.Alive ∙ (λ i. not_alive e i || zombie_only live i)))

    now_alive : has_word (status r.at) word.Alive ≡ true → says status more pair word.Alive ≡ true
    now_alive live = says_now word.Alive ∙ ap (λ b. says status rows pair word.Alive || b) live ∙ or-true (says status rows pair word.Alive)

    merged_pairing : (v w : StepWord) → last.word ≡ v → has_word (status r.at) w ≡ true → IsPairing status more (merged_by v w last r.exec)
    merged_pairing word.Alive word.Alive e live = record { there = still_there; said = again_said word.Alive e; word = alive_word (again_said word.Alive e); exec = again_exec word.Alive e live }
    merged_pairing word.Zombie word.Zombie e live = record { there = still_there; said = again_said word.Zombie e; word = still_zombie e live; exec = again_exec word.Zombie e live }
    merged_pairing word.Zombie word.Alive e live = record {
      there = still_there;
      said = now_alive live;
      word = alive_word (now_alive live);
      exec = sym (exec_now word.Alive ∙ (λ i. none_exec pair word.Alive (not_alive e) i || (live i && r.exec)));
    }
    merged_pairing word.Alive word.Zombie e live =
        let other : has_word (status r.at) last.word ≡ false = ap (has_word (status r.at)) e ∙ zombie_only live in
        record {
          there = still_there;
          said = says_now last.word ∙ ap (λ b. b || has_word (status r.at) last.word) h.said;
          word = e ∙ alive_word (again_said word.Alive e);
          exec = h.exec ∙ sym (exec_now last.word ∙ (λ i. says_exec status rows pair last.word || (other i && r.exec)) ∙ or-false (says_exec status rows pair last.word));
        }
    merged_pairing word.Orphan w e live = absurd (no_other word.Orphan e (λ f. cc) (λ f. cc))
    merged_pairing word.Adrift w e live = absurd (no_other word.Adrift e (λ f. cc) (λ f. cc))
    merged_pairing word.Alive word.Orphan e live = absurd (elim (no_word word.Orphan live) [ inl f ↦ cc | inr f ↦ cc ])
    merged_pairing word.Alive word.Adrift e live = absurd (elim (no_word word.Adrift live) [ inl f ↦ cc | inr f ↦ cc ])
    merged_pairing word.Zombie word.Orphan e live = absurd (elim (no_word word.Orphan live) [ inl f ↦ cc | inr f ↦ cc ])
    merged_pairing word.Zombie word.Adrift e live = absurd (elim (no_word word.Adrift live) [ inl f ↦ cc | inr f ↦ cc ])

  pub naming_more : (init : List Pairing) (last : Pairing) (w : StepWord) → ArePairings status rows (init ++ last ∷ []) → is_eq (pair_cmp last.row.now r) ≡ true → has_word (status r.at) w ≡ true →
      ArePairings status more (init ++ merged last w r.exec ∷ [])
  naming_more init last w a tie live = record {
    sorted = sorted_push pairing_cmp init new (sorted_left pairing_cmp init (last ∷ []) a.sorted) (λ x m. subst (λ q. pair_cmp x.row.now q ≡ Less) (sym row_is) (sorted_before pairing_cmp init last x a.sorted m));
    each = λ x m. ⊎_elim
        (λ (h : Contains init x). pairing_quiet x (quiet_apart x (low x h)) (a.each x (Contains-append_left init (last ∷ []) x h)))
        (λ (h : new ≡ x). subst (IsPairing status more) h (merged_pairing last (a.each last (Contains-push init last)) tied last.word w refl live))
        (Contains-push_cases init new x m);
    all = λ q m alive. ⊎_elim
        (λ (h : Contains rows q). kept q (a.all q h alive))
        (λ (h : r ≡ q). record { pairing = new; there = Contains-push init new; is = subst (λ x. is_pair x new.row.now ≡ true) h (subst (λ x. is_pair r x ≡ true) (sym row_is) tie) })
        (Contains-push_cases rows r q m);
  }
    where
      new : Pairing
      new = merged last w r.exec

      tied : pair_cmp last.row.now r ≡ Equal
      tied = (Equal-is (pair_cmp last.row.now r)).0 tie

      row_is : new.row.now ≡ last.row.now
      row_is = merged_row last.word w last r.exec

      low : (x : Pairing) → Contains init x → pair_cmp x.row.now r ≡ Less
      low x h = sym (alike_right pair_total last.row.now r x.row.now tied) ∙ sorted_before pairing_cmp init last x a.sorted h

      kept : (q : NameRow) → IsCovered (init ++ last ∷ []) q → IsCovered (init ++ new ∷ []) q
      kept q c = ⊎_elim
          (λ (h : Contains init c.pairing). record { pairing = c.pairing; there = Contains-append_left init (new ∷ []) c.pairing h; is = c.is })
          (λ (h : last ≡ c.pairing). record { pairing = new; there = Contains-push init new; is = subst (λ x. is_pair q x ≡ true) (sym (row_is ∙ ap (λ (x : Pairing). x.row.now) h)) c.is })
          (Contains-push_cases init last c.pairing c.there)
