-- Runs: what a leaf has of the pairs from one on.
use Rattle.std.proofs.Common.{◌≡◌, ℕ, ◌+◌, ◌-◌, ◌<◌, ◌≤◌, false, List, [], ◌∷◌, ◌++◌, length, map, get_or, take, drop, refl, sym, ap, ◌∙◌, subst, arith, append_assoc, append-nil}
use Rattle.std.specs.Cmp.{IsTotalOrder}
use Rattle.std.specs.List.{flat_map}
use Rattle.std.specs.declared.cmp.Ordering.{Ordering}
use Rattle.std.specs.declared.cmp.Ordering.TheVariants.{Less, Equal, Greater}
use Rattle.std.proofs.lemmas.List.{drop_all, take_rest}
use Rattle.pj_pmap.specs.Pairs.{AllBelow, IsRising, IsPlace, next_of, rest_after, first_of, shown_pair, starts_above}
use Rattle.pj_pmap.specs.Lookups.{IsRunOf, IsStretch}
use Rattle.pj_pmap.proofs.Chosen.{flat_from}
use Rattle.pj_pmap.proofs.Cuts
use Rattle.pj_pmap.proofs.Levels.{below_rising}
use Rattle.pj_pmap.proofs.Places.{rest_shown}
use Rattle.pj_pmap.proofs.Rising
use Rattle.pj_pmap.proofs.Walks.{next_begins}

-- ---- runs of any list

module _ {P : Type 0} where
  -- a list is its own run
  pub run_whole : (es : List P) → IsRunOf es es
  run_whole es = record { rest = []; is = sym (append-nil es); some = λ e. refl }

  -- a run that is not empty is one of a longer list
  pub run_longer : (xs ys run : List P) → 0 < length run → IsRunOf xs run → IsRunOf (xs ++ ys) run
  run_longer xs ys run l r = record {
    rest = r.rest ++ ys;
    is = ap (λ (zs : List P). zs ++ ys) r.is ∙ append_assoc run r.rest ys;
    some = λ e. absurd (let n : length run ≡ 0 = ap length e in omega arith);
  }

  -- where a list is empty, a run of what is after it is one of both
  pub run_later : (xs ys none run : List P) → none ≡ [] → IsRunOf xs none → IsRunOf ys run → IsRunOf (xs ++ ys) run
  run_later xs ys none run e n r = rw (empty e n) r
    where
      empty : none ≡ [] → IsRunOf xs none → xs ≡ []
      empty e n = n.is ∙ rw (e, n.some e) refl

  -- a run begins with the first of its list
  pub first_same : (es run : List P) → IsRunOf es run → first_of es ≡ first_of run
  first_same es [] r = ap first_of (r.is ∙ r.some refl)
  first_same es (p ∷ ps) r = ap first_of r.is

-- ---- a list of nodes in turn

module _ {N P : Type 0} (pairs : N → List P) (ns : List N) (i : ℕ) (rest run : List P) where
  -- where a node has none, the run is that of the next node
  pub run_next : run ≡ [] → IsRunOf rest run → (child node : N) (more : List P) → i + 1 < length ns → child ≡ get_or ns (i + 1) child → node ≡ child → 0 < length more → IsRunOf (pairs node) more → IsRunOf (rest ++ flat_map pairs (drop (i + 1) ns)) more
  run_next empty r child node more l is value some first =
      run_later rest _ run more empty r (rw (flat_from pairs ns (i + 1) child node l is value) (run_longer (pairs node) _ more some first))

  -- the last node has no next one
  pub run_last : IsRunOf rest run → length ns ≤ i + 1 → IsRunOf (rest ++ flat_map pairs (drop (i + 1) ns)) run
  run_last r l = rw (drop_all (i + 1) ns l, append-nil rest) r

-- ---- runs of sorted pairs

module _ {K V : Type 0} (cmp : K → K → Ordering) where
  -- what is above a key ends the list
  ends : (k : K) (es : List (K × V)) → (before : List (K × V)) × (es ≡ before ++ rest_after cmp k es)
  ends k [] = ([], refl)
  ends k (e ∷ es) = by (ends k es) (cmp k e.0) refl
    where
      by : (before : List (K × V)) × (es ≡ before ++ rest_after cmp k es) → (o : Ordering) → cmp k e.0 ≡ o → (before : List (K × V)) × (e ∷ es ≡ before ++ rest_after cmp k (e ∷ es))
      by rest Less f = ([], rw f refl)
      by rest Equal f = (e ∷ [], rw f refl)
      by (before, is) Greater f = (e ∷ before, rw f (ap (λ (xs : List (K × V)). e ∷ xs) is))

  -- so a run of it stands in the list
  pub stretch_run : (k : K) (es run : List (K × V)) → IsRunOf (rest_after cmp k es) run → IsStretch es run
  stretch_run k es run r = by (ends k es)
    where
      by : (before : List (K × V)) × (es ≡ before ++ rest_after cmp k es) → IsStretch es run
      by (before, is) = record { before = before; after = r.rest; is = is ∙ ap (λ (xs : List (K × V)). before ++ xs) r.is }

  -- a stretch of a rising list rises
  pub stretch_rises : (es run : List (K × V)) → IsRising cmp es → IsStretch es run → IsRising cmp run
  stretch_rises es run rises s =
      Rising.IsRising-left cmp run s.after (Rising.IsRising-right cmp s.before (run ++ s.after) (subst (IsRising cmp) s.is rises))

  -- where a part has a pair above k, the rest is that of the part and all after it
  rest_part : (k : K) (xs ys : List (K × V)) → 0 < length (rest_after cmp k xs) → rest_after cmp k (xs ++ ys) ≡ rest_after cmp k xs ++ ys
  rest_part k [] ys l = absurd (omega arith)
  rest_part k (x ∷ xs) ys l = by (rest_part k xs ys) (cmp k x.0) refl
    where
      by : (0 < length (rest_after cmp k xs) → rest_after cmp k (xs ++ ys) ≡ rest_after cmp k xs ++ ys) → (o : Ordering) → cmp k x.0 ≡ o → rest_after cmp k (x ∷ xs ++ ys) ≡ rest_after cmp k (x ∷ xs) ++ ys
      by rest Less f = rw f refl
      by rest Equal f = rw f refl
      by rest Greater f = rw f (rest (rw f at l))

  module _ (order : IsTotalOrder cmp) where
    -- the next pair is the first of the run
    pub next_run : (k : K) (es run : List (K × V)) → IsRising cmp es → IsRunOf (rest_after cmp k es) run → next_of cmp k es ≡ first_of run
    next_run k es run rises r = next_begins cmp order k es rises ∙ first_same (rest_after cmp k es) run r

    -- what a stretch that begins at or below k has above k is a run of all that is above k
    pub run_near : (k : K) (es run near : List (K × V)) → IsRising cmp es → IsStretch es run → 0 < length near → starts_above cmp k run ≡ false → rest_after cmp k run ≡ near → IsRunOf (rest_after cmp k es) near
    run_near k es [] near rises s l low is = absurd (let n : 0 ≡ length near = ap length is in omega arith)
    run_near k es (e ∷ run) near rises s l low is =
        let below : AllBelow cmp k s.before = below_rising order k s.before e (run ++ s.after) (subst (IsRising cmp) s.is rises) low in
        record {
          rest = s.after;
          is = ap (rest_after cmp k) s.is ∙ Cuts.rest-below cmp k s.before (e ∷ run ++ s.after) below ∙ rest_part k (e ∷ run) s.after (rw is l) ∙ ap (λ (xs : List (K × V)). xs ++ s.after) is;
          some = λ n. absurd (let m : length near ≡ 0 = ap length n in omega arith);
        }

-- what a leaf has above the key of a place
pub rest_leaf : {K V : Type 0} {cmp : K → K → Ordering} {k : K} (shown : V → V) (es : List (K × V)) {start end : ℕ} → IsPlace cmp k (map (shown_pair shown) es) start end → rest_after cmp k (map (shown_pair shown) es) ≡ map (shown_pair shown) (take (length es - end) (drop end es))
rest_leaf shown es {start} {end} place = rw (take_rest es end) (rest_shown shown es place)

-- so it is a run
pub leaf_run : {K V : Type 0} {cmp : K → K → Ordering} {k : K} (shown : V → V) (es : List (K × V)) {start end : ℕ} → IsPlace cmp k (map (shown_pair shown) es) start end → IsRunOf (rest_after cmp k (map (shown_pair shown) es)) (map (shown_pair shown) (take (length es - end) (drop end es)))
leaf_run shown es place = rw (rest_leaf shown es place) (run_whole _)
