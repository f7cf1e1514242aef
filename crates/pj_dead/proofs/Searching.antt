-- How a search over dead vertices goes on, and that it ends with all that it reaches.
use Rattle.std.proofs.Common.{◌≡◌, ◌↔◌, ℕ, ◌+◌, ◌<◌, ◌≤◌, List, [], ◌∷◌, ◌++◌, length, get_or, take, arith, refl, sym, ap, ◌∙◌, subst, inl, inr, append-nil, append_assoc, length-append}
use Rattle.std.specs.Prelude.{Contains, ◌⊎◌}
use Rattle.std.proofs.lemmas.List.{take_more, take-append-le, take_all}
use Rattle.std.proofs.lemmas.List.Elements.{Contains-append_cases, Contains-append_left, Contains-append_right, Contains-push, Contains-push_cases}
use Rattle.pj_change.specs.declared.point.Point.{Point}
use Rattle.pj_change.specs.DeadSets.{here, on}
use Rattle.pj_change.proofs.Members.{uncons, first_member, later_member, no_member, moved}
use Rattle.pj_change.proofs.DeadPaths.{end_dead}
use Rattle.pj_dead.specs.declared.near.Way.{Way}
use Rattle.pj_dead.specs.declared.near.Way.TheVariants.{Ahead, Back, Either}
use Rattle.pj_dead.specs.PointGraphs.{PointGraph, IsVertex, IsEdge, IsDead, IsWhole}
use Rattle.pj_dead.specs.Searches.{IsStep, around, Reaches, AreApart, GoesOn, AreReached, IsClosedTo}

-- ---- neighbours

module _ (g : PointGraph) (lawful : IsWhole g) where
  edge_ahead : (v w : Point) → IsVertex g v → Contains (g.outs v) w → IsEdge g v w
  edge_ahead v w there m = record { source = there; out = m }

  edge_back : (v w : Point) → IsVertex g v → Contains (g.ins v) w → IsEdge g w v
  edge_back v w there m = (let k = lawful.out w v there m in record { source = k.0; out = k.1 })

  back_edge : (v w : Point) → IsEdge g w v → Contains (g.ins v) w
  back_edge v w e = (lawful.into w v e.source e.out).1

  pub step_from : (way : Way) (v w : Point) → IsVertex g v → Contains (around g way v) w → IsStep g way v w
  step_from Ahead v w there m = edge_ahead v w there m
  step_from Back v w there m = edge_back v w there m
  step_from Either v w there m = elim (Contains-append_cases (g.outs v) (g.ins v) w m) [ inl o ↦ inl (edge_ahead v w there o) | inr i ↦ inr (edge_back v w there i) ]

  pub step_to : (way : Way) (v w : Point) → IsStep g way v w → Contains (around g way v) w
  step_to Ahead v w e = e.out
  step_to Back v w e = back_edge v w e
  step_to Either v w (inl e) = Contains-append_left (g.outs v) (g.ins v) w e.out
  step_to Either v w (inr e) = Contains-append_right (g.outs v) (g.ins v) w (back_edge v w e)

  pub step_vertex : (way : Way) (v w : Point) → IsStep g way v w → IsVertex g w
  step_vertex Ahead v w e = (lawful.into v w e.source e.out).0
  step_vertex Back v w e = e.source
  step_vertex Either v w (inl e) = (lawful.into v w e.source e.out).0
  step_vertex Either v w (inr e) = e.source

  pub near_vertex : (way : Way) (v w : Point) → IsVertex g v → Contains (around g way v) w → IsVertex g w
  near_vertex way v w there m = step_vertex way v w (step_from way v w there m)

-- ---- lists whose members each stand once

pub apart_push : (xs : List Point) (y : Point) → AreApart xs → (Contains xs y → ⊥) → AreApart (xs ++ y ∷ [])
apart_push [] y a n = (no_member y, tt)
apart_push (x ∷ xs) y a n = (
  λ c. elim (Contains-push_cases xs y x c) [
    | inl d ↦ a.0 d
    | inr e ↦ n (subst (Contains (x ∷ xs)) (sym e) (first_member x xs))
  ],
  apart_push xs y a.1 (λ c. n (later_member x xs y c)),
)

record IsCut (ys : List Point) (x : Point) : Type 0 where
  before : List Point
  after : List Point
  is : ys ≡ before ++ x ∷ after

cut_at : (ys : List Point) (x : Point) → Contains ys x → IsCut ys x
cut_at [] x c = absurd (no_member x c)
cut_at (y ∷ ys) x c = elim (uncons y ys x c) [
  | inl e ↦ record { before = []; after = ys; is = ap (λ z. z ∷ ys) e }
  | inr d ↦ (let k = cut_at ys x d in record { before = y ∷ k.before; after = k.after; is = ap (λ zs. y ∷ zs) k.is })
]

others : (before after : List Point) (x v : Point) → Contains (before ++ x ∷ after) v → (x ≡ v → ⊥) → Contains (before ++ after) v
others before after x v c n = elim (Contains-append_cases before (x ∷ after) v c) [
  | inl b ↦ Contains-append_left before after v b
  | inr a ↦ elim (uncons x after v a) [ inl e ↦ absurd (n e) | inr d ↦ Contains-append_right before after v d ]
]

-- such a list is no longer than a list that has its members
pub apart_short : (xs ys : List Point) → AreApart xs → ((v : Point) → Contains xs v → Contains ys v) → length xs ≤ length ys
apart_short [] ys a h = omega arith
apart_short (x ∷ xs) ys a h =
    let k = cut_at ys x (h x (first_member x xs)) in
    let shorter : length xs ≤ length (k.before ++ k.after) =
    apart_short xs (k.before ++ k.after) a.1 (λ v c. others k.before k.after x v (moved v k.is (h v (later_member x xs v c))) (λ e. a.0 (subst (Contains xs) (sym e) c))) in
    let l = ap length k.is in
    omega (arith, length-append k.before k.after, length-append k.before (x ∷ k.after), l, shorter)

-- ---- lists that go on

pub goes_nowhere : (P : Point → Type 0) (list : List Point) → ((x : Point) → P x → Contains list x) → GoesOn P list list
goes_nowhere P list h = record { rest = []; is = sym (append-nil list); only = λ x m. absurd (no_member x m); all = h; apart = λ a. a }

pub goes_by_one : (P : Point → Type 0) (list : List Point) (p : Point) → P p → ((x : Point) → P x → p ≡ x) → (Contains list p → ⊥) → GoesOn P list (list ++ p ∷ [])
goes_by_one P list p is same new = record {
  rest = p ∷ [];
  is = refl;
  only = λ x m. elim (uncons p [] x m) [ inl e ↦ subst P e is | inr n ↦ absurd (no_member x n) ];
  all = λ x q. subst (Contains (list ++ p ∷ [])) (same x q) (Contains-push list p);
  apart = λ a. apart_push list p a new;
}

pub goes_alike : (P Q : Point → Type 0) (old new : List Point) → ((x : Point) → P x → Q x) → ((x : Point) → Q x → P x) → GoesOn P old new → GoesOn Q old new
goes_alike P Q old new there back h = record { rest = h.rest; is = h.is; only = λ x m. there x (h.only x m); all = λ x q. h.all x (back x q); apart = h.apart }

pub goes_kept : (P : Point → Type 0) (old new : List Point) → GoesOn P old new → (x : Point) → Contains old x → Contains new x
goes_kept P old new h x m = moved x (sym h.is) (Contains-append_left old h.rest x m)

pub goes_cases : (P : Point → Type 0) (old new : List Point) → GoesOn P old new → (x : Point) → Contains new x → Contains old x ⊎ P x
goes_cases P old new h x m = elim (Contains-append_cases old h.rest x (moved x h.is m)) [ inl k ↦ inl k | inr r ↦ inr (h.only x r) ]

pub goes_from_none : (P : Point → Type 0) (list : List Point) → GoesOn P [] list → (x : Point) → Contains list x ↔ P x
goes_from_none P list h x = (λ m. elim (goes_cases P [] list h x m) [ inl n ↦ absurd (no_member x n) | inr p ↦ p ], h.all x)

-- one more of these things
pub goes_more : (Q : Point → Type 0) (points : List Point) (i : ℕ) (p d : Point) → i < length points → p ≡ get_or points i d → (old middle new : List Point) →
    GoesOn (λ x. Contains (take i points) x × Q x) old middle → GoesOn (λ x. (p ≡ x) × Q p) middle new → GoesOn (λ x. Contains (take (i + 1) points) x × Q x) old new
goes_more Q points i p d low is old middle new a b = record {
  rest = a.rest ++ b.rest;
  is = b.is ∙ ap (λ z. z ++ b.rest) a.is ∙ append_assoc old a.rest b.rest;
  only = λ x m. elim (Contains-append_cases a.rest b.rest x m) [
    | inl k ↦ (let o = a.only x k in (moved x (sym e) (Contains-append_left (take i points) (p ∷ []) x o.0), o.1))
    | inr k ↦ (let o = b.only x k in (moved x (sym e) (subst (Contains (take i points ++ p ∷ [])) o.0 (Contains-push (take i points) p)), subst Q o.0 o.1))
  ];
  all = λ x q. elim (Contains-push_cases (take i points) p x (moved x e q.0)) [
    | inl k ↦ moved x (sym b.is) (Contains-append_left middle b.rest x (a.all x (k, q.1)))
    | inr s ↦ b.all x (s, subst Q (sym s) q.1)
  ];
  apart = λ k. b.apart (a.apart k);
}
  where
    e : take (i + 1) points ≡ take i points ++ p ∷ []
    e = take_more points i d low ∙ ap (λ z. take i points ++ z ∷ []) (sym is)

pub goes_none : (Q : Point → Type 0) (points list : List Point) → GoesOn (λ x. Contains (take 0 points) x × Q x) list list
goes_none Q points list = goes_nowhere (λ x. Contains (take 0 points) x × Q x) list (λ x h. absurd (no_member x h.0))

pub goes_all : (Q : Point → Type 0) (points : List Point) (i : ℕ) → length points ≤ i → (old new : List Point) → GoesOn (λ x. Contains (take i points) x × Q x) old new → GoesOn (λ x. Contains points x × Q x) old new
goes_all Q points i l old new h = subst (λ ps. GoesOn (λ x. Contains ps x × Q x) old new) (take_all i points l) h

-- with the members of one list, and then with those of another
pub goes_both : (xs ys old middle new : List Point) → GoesOn (Contains xs) old middle → GoesOn (Contains ys) middle new → GoesOn (Contains (xs ++ ys)) old new
goes_both xs ys old middle new a b = record {
  rest = a.rest ++ b.rest;
  is = b.is ∙ ap (λ l. l ++ b.rest) a.is ∙ append_assoc old a.rest b.rest;
  only = λ x m. elim (Contains-append_cases a.rest b.rest x m) [
    | inl k ↦ Contains-append_left xs ys x (a.only x k)
    | inr k ↦ Contains-append_right xs ys x (b.only x k)
  ];
  all = λ x m. elim (Contains-append_cases xs ys x m) [
    | inl k ↦ goes_kept (Contains ys) middle new b x (a.all x k)
    | inr k ↦ b.all x k
  ];
  apart = λ k. b.apart (a.apart k);
}

-- ---- the search

module _ (g : PointGraph) (way : Way) (from : Point) where
  pub reached_first : IsDead g from → (list : List Point) → GoesOn (λ p. from ≡ p) [] list → AreReached g way from list
  reached_first d list h = record {
    start = h.all from refl;
    reached = λ v m. elim (goes_cases (λ p. from ≡ p) [] list h v m) [ inl n ↦ absurd (no_member v n) | inr e ↦ subst (Reaches g way from) e (here d) ];
    apart = h.apart tt;
  }

  pub reached_more : IsWhole g → (list new : List Point) (at : Point) → Contains list at → AreReached g way from list → GoesOn (λ p. Contains (around g way at) p × IsDead g p) list new → AreReached g way from new
  reached_more lawful list new at there r h = record {
    start = goes_kept (λ p. Contains (around g way at) p × IsDead g p) list new h from r.start;
    reached = λ v m. elim (goes_cases (λ p. Contains (around g way at) p × IsDead g p) list new h v m) [
      | inl k ↦ r.reached v k
      | inr n ↦ (let p = r.reached at there in on p (step_from g lawful way at v (end_dead p).vertex n.0) n.1)
    ];
    apart = h.apart r.apart;
  }

  pub reached_short : IsWhole g → (list : List Point) → AreReached g way from list → length list ≤ length g.vertices
  reached_short lawful list r = apart_short list g.vertices r.apart (λ v m. lawful.few v (end_dead (r.reached v m)).vertex)

  pub closed_first : (list : List Point) → IsClosedTo g way list 0
  closed_first list = record { within = omega arith; closed = λ v w m. absurd (no_member v m) }

  pub closed_more : (list new : List Point) (n : ℕ) (at : Point) → n < length list → at ≡ get_or list n at → GoesOn (λ p. Contains (around g way at) p × IsDead g p) list new → IsClosedTo g way list n → IsClosedTo g way new (n + 1)
  closed_more list new n at l e h k = record {
    within = (let s = ap length h.is in omega (arith, length-append list h.rest, s));
    closed = λ v w m near dead.
        let c1 = moved v (ap (take (n + 1)) h.is ∙ take-append-le (n + 1) list h.rest (omega arith)) m in
        let c2 = moved v (take_more list n at l) c1 in
        elim (Contains-push_cases (take n list) (get_or list n at) v c2) [
          | inl o ↦ goes_kept (λ p. Contains (around g way at) p × IsDead g p) list new h w (k.closed v w o near dead)
          | inr f ↦ h.all w (subst (λ z. Contains (around g way z) w) (sym (e ∙ f)) near, dead)
        ];
  }

  module _ (list : List Point) (lawful : IsWhole g) (r : AreReached g way from list) (closed : IsClosedTo g way list (length list)) where
    in_list : {v : Point} → Reaches g way from v → Contains list v
    in_list (here d) = r.start
    in_list (on {v} {w} p s d) = closed.closed v w (moved v (sym (take_all (length list) list (omega arith))) (in_list p)) (step_to g lawful way v w s) d

    pub all_reached : (v : Point) → Contains list v ↔ Reaches g way from v
    all_reached v = (r.reached v, λ p. in_list p)
