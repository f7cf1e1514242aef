-- A walk over the neighbours of a vertex, which rise.
use Rattle.std.proofs.Common.{◌≡◌, ◌<◌, true, false, List, [], ◌∷◌, ◌++◌, length, arith, refl, sym, ap, ◌∙◌, Option, Some, None, append_assoc, append-nil, length-append}
use Rattle.std.specs.List.{AllByRecursion}
use Rattle.std.specs.List.Sorted.{IsStrictlySortedBy}
use Rattle.std.specs.Ordering.{is_lt}
use Rattle.std.specs.declared.cmp.Ordering.TheVariants.{Less}
use Rattle.std.proofs.lemmas.Cmp.{tied_itself}
use Rattle.pj_pmap.proofs.Order.{greater_back}
use Rattle.pj_change.specs.declared.point.Point.{Point}
use Rattle.pj_change.specs.Graph.{point_cmp}
use Rattle.pj_change.proofs.Orders.{point_total}
use Rattle.pj_dead.specs.PointGraphs.{next_above}
use Rattle.pj_dead.specs.Searches.{IsWalked}

above_first : (x : Point) (xs : List Point) → AllByRecursion (λ y. point_cmp x y ≡ Less) xs → next_above xs (Some x) ≡ next_above xs None
above_first x [] h = refl
above_first x (y ∷ ys) h = (let e : is_lt (point_cmp x y) ≡ true = ap is_lt h.0 in rw e refl)

above_later : (z : Point) (zs : List Point) (x : Point) (xs : List Point) → AllByRecursion (λ y. point_cmp z y ≡ Less) (zs ++ x ∷ xs) → point_cmp z x ≡ Less
above_later z [] x xs h = h.0
above_later z (y ∷ ys) x xs h = above_later z ys x xs h.1

next_past : (list : List Point) (x : Point) (xs : List Point) → IsStrictlySortedBy point_cmp (list ++ x ∷ xs) → next_above (list ++ x ∷ xs) (Some x) ≡ next_above xs None
unfolding IsStrictlySortedBy
next_past [] x xs s =
    let e : is_lt (point_cmp x x) ≡ false = ap is_lt (tied_itself point_total x) in
    rw e (above_first x xs s.0)
next_past (z ∷ zs) x xs s =
    let e : is_lt (point_cmp x z) ≡ false = ap is_lt (greater_back point_total z x (above_later z zs x xs s.0)) in
    rw e (next_past zs x xs s.1)

-- ---- the loop

pub walk_starts : (all : List Point) (found : Option Point) → found ≡ next_above all None → IsWalked all [] found
walk_starts all found e = record { rest = all; is = refl; next = e }

walk_on_at : (all list rest : List Point) (p : Point) → IsStrictlySortedBy point_cmp all → all ≡ list ++ rest → Some p ≡ next_above rest None → IsWalked all (list ++ p ∷ []) (next_above all (Some p))
walk_on_at all list [] p rising is next = absurd (cc)
walk_on_at all list (x ∷ xs) p rising is next =
    let e : p ≡ x = cc in
    record {
      rest = xs;
      is = rw (append_assoc, e) is;
      next = rw (e, is) (next_past list x xs (rw is at rising));
    }

pub walk_on : (all list : List Point) (p : Point) → IsStrictlySortedBy point_cmp all → IsWalked all list (Some p) → IsWalked all (list ++ p ∷ []) (next_above all (Some p))
walk_on all list p rising w = walk_on_at all list w.rest p rising w.is w.next

walk_ends_at : (all list rest : List Point) → all ≡ list ++ rest → None ≡ next_above rest None → list ≡ all
walk_ends_at all list [] is next = sym (append-nil list) ∙ sym is
walk_ends_at all list (x ∷ xs) is next = absurd (cc)

pub walk_ends : (all list : List Point) → IsWalked all list None → list ≡ all
walk_ends all list w = walk_ends_at all list w.rest w.is w.next

walk_less_at : (all list rest : List Point) (p : Point) → all ≡ list ++ rest → Some p ≡ next_above rest None → length list < length all
walk_less_at all list [] p is next = absurd (cc)
walk_less_at all list (x ∷ xs) p is next = rw (is, length-append) (omega arith)

pub walk_less : (all list : List Point) (p : Point) → IsWalked all list (Some p) → length list < length all
walk_less all list p w = walk_less_at all list w.rest p w.is w.next
