-- A search across inner numbers: what it knows after one more number is reached, and when it is over.
use Rattle.std.proofs.Common.{◌≡◌, ℕ, ◌+◌, ◌<◌, ◌≤◌, ◌⊎◌, ◌==◌, Bool, true, false, cond, Option, Some, None, List, [], ◌∷◌, ◌++◌, length, get_or, set, refl, sym, ◌∙◌, ap, subst, inl, inr, arith, IfSome, Contains, ◌↔◌}
use Rattle.std.proofs.lemmas.Bool.{cases_eq}
use Rattle.std.proofs.lemmas.Bool.Decides.{eqb_tells}
use Rattle.std.proofs.lemmas.List.{get_or-set_same, get_or-set_other, length-set, length_push}
use Rattle.std.proofs.lemmas.List.Sums.{sum_by-set}
use Rattle.std.proofs.lemmas.List.Elements.{Contains-append_left, Contains-push, Contains-push_cases}
use Rattle.std.specs.List.{sum_by}
use Rattle.std.specs.Option.{option_eq}
use Rattle.pj_reach.specs.Reach.{IsEdge, AreEdgesBelow}
use Rattle.pj_reach.specs.Links.{source, target, edges_up_to, IsLastLeaving}
use Rattle.pj_reach.specs.Traversals.{Among}
use Rattle.pj_reach.specs.Across.{is_inner, IsAcross, straight, over, AreJoined}
use Rattle.pj_reach.specs.Searches.{State, IsReached, IsWay, IsFollowed, IsSearch, GoesOn, IsSearched, unreached}
use Rattle.pj_reach.proofs.Pushes.{each_push, each_init, each_last, among_push_old, among_push_new, among_push_cases, among_nil}
use Rattle.pj_reach.proofs.Paths.{edge_place, edge_below}
use Rattle.pj_reach.proofs.Rows.{chain_step, link_leaves}

-- ---- paths across inner numbers

-- a path goes on from an inner number
pub across_edge : (edges : List (ℕ × ℕ)) (inner : List Bool) (a b c : ℕ) → IsAcross edges inner a b → is_inner inner b ≡ true → IsEdge edges b c → IsAcross edges inner a c
across_edge edges inner a b c (straight h) at_inner step = over h at_inner (straight step)
across_edge edges inner a b c (over {b = x} h x_inner more) at_inner step = over h x_inner (across_edge edges inner x b c more at_inner step)

-- a path begins with an edge
pub across_begins : (edges : List (ℕ × ℕ)) (inner : List Bool) (a b : ℕ) → IsAcross edges inner a b → (c : ℕ) × IsEdge edges a c
across_begins edges inner a b (straight h) = (b, h)
across_begins edges inner a b (over {b = x} h x_inner more) = (x, h)

module _ (edges : List (ℕ × ℕ)) (inner : List Bool) (start : ℕ) where
  -- start leads to wherever an edge leads from a number at which the search goes on
  pub way_edge : (s : State) → IsSearch edges inner start s → (a b : ℕ) → IsWay inner start s a → IsEdge edges a b → IsAcross edges inner start b
  way_edge s was a b way step =
      elim way [
        | inl same ↦ straight (subst (λ x. IsEdge edges x b) same step)
        | inr at ↦ across_edge edges inner start a b (was.sound a at.0) at.1 step
      ]

  -- where the edges of all numbers are followed at which the search goes on, it has reached all that start leads to
  pub all_reached : (s : State) → ((a : ℕ) → IsWay inner start s a → IsFollowed edges start s a) → (a b : ℕ) → IsWay inner start s a → IsAcross edges inner a b → IsReached s start b
  all_reached s followed a b way (straight h) = followed a way b h
  all_reached s followed a b way (over {b = x} h x_inner more) = all_reached s followed x b (inr (followed a way x h, x_inner)) more

-- ---- a number is reached

module _ (start b : ℕ) (marks : List (Option ℕ)) where
  pub now_reached : b < length marks → get_or (set marks b (Some start)) b None ≡ Some start
  now_reached h = get_or-set_same marks b (Some start) None h

  pub still_reached : b < length marks → (x : ℕ) → get_or marks x None ≡ Some start → get_or (set marks b (Some start)) x None ≡ Some start
  still_reached h x was = elim (cases_eq x b) [
    | inl same ↦ ap (λ y. get_or (set marks b (Some start)) y None) same ∙ now_reached h
    | inr other ↦ get_or-set_other marks b x (Some start) None other ∙ was
  ]

  pub reached_cases : (x : ℕ) → get_or (set marks b (Some start)) x None ≡ Some start → (get_or marks x None ≡ Some start) ⊎ (x ≡ b)
  reached_cases x is = elim (cases_eq x b) [
    | inl same ↦ inr same
    | inr other ↦ inl (sym (get_or-set_other marks b x (Some start) None other) ∙ is)
  ]

  pub latest_set : b < length marks → ((x : ℕ) → IfSome (get_or marks x None) (λ a. a ≤ start)) → (x : ℕ) → IfSome (get_or (set marks b (Some start)) x None) (λ a. a ≤ start)
  latest_set h was x = elim (cases_eq x b) [
    | inl same ↦ subst (λ (o : Option ℕ). IfSome o (λ a. a ≤ start)) (sym (ap (λ y. get_or (set marks b (Some start)) y None) same ∙ now_reached h)) (let low : start ≤ start = omega arith in low)
    | inr other ↦ subst (λ (o : Option ℕ). IfSome o (λ a. a ≤ start)) (sym (get_or-set_other marks b x (Some start) None other)) (was x)
  ]

  pub fewer_unreached : b < length marks → unreached start (get_or marks b None) ≡ 1 → sum_by (unreached start) (set marks b (Some start)) + 1 ≡ sum_by (unreached start) marks
  fewer_unreached h was =
      let sums = sum_by-set (unreached start) marks b (Some start) None h in
      let none : unreached start (Some start) ≡ 0 = elim (eqb_tells start start) [ inl same ↦ ap (λ t. cond t 0 1) same.0 | inr other ↦ absurd (other.1 refl) ] in
      omega (arith, sums, was, none)

-- what the comparison of two links to a start tells
pub not_reached : (start : ℕ) (from : Option ℕ) → option_eq (λ a b. a == b) from (Some start) ≡ false → unreached start from ≡ 1
not_reached start None h = refl
not_reached start (Some a) h = ap (λ t. cond t 0 1) h

abbrev pub state_of : List (Option ℕ) → List ℕ → List (ℕ × ℕ) → State
state_of marks waiting pairs = record { reached_from = marks; waiting = waiting; pairs = pairs }

module _ (edges : List (ℕ × ℕ)) (inner : List Bool) (start b : ℕ) (marks : List (Option ℕ)) (waiting : List ℕ) (pairs : List (ℕ × ℕ)) (was : IsSearch edges inner start (state_of marks waiting pairs)) (b_in : b < length inner) where
  in_marks : b < length marks
  in_marks = omega (arith, b_in, was.reached_len)

  still_way : (x : ℕ) → IsWay inner start (state_of marks waiting pairs) x → IsWay inner start (state_of (set marks b (Some start)) waiting pairs) x
  still_way x way = elim way [ inl same ↦ inl same | inr at ↦ inr (still_reached start b marks in_marks x at.0, at.1) ]

  reach_sound : IsAcross edges inner start b → (x : ℕ) → get_or (set marks b (Some start)) x None ≡ Some start → IsAcross edges inner start x
  reach_sound path x h = elim (reached_cases start b marks x h) [
    | inl old ↦ was.sound x old
    | inr same ↦ subst (λ y. IsAcross edges inner start y) (sym same) path
  ]

  -- an inner number is reached, and waits
  pub reach_inner : IsAcross edges inner start b → is_inner inner b ≡ true → IsSearch edges inner start (state_of (set marks b (Some start)) (waiting ++ b ∷ []) pairs)
  reach_inner path b_inner = record {
    reached_len = length-set marks b (Some start) ∙ was.reached_len;
    latest = latest_set start b marks in_marks was.latest;
    sound = reach_sound path;
    waits = each_push (λ x. (x < length inner) × IsWay inner start (state_of (set marks b (Some start)) waiting pairs) x) waiting b
        (λ i h. ((was.waits i h).0, still_way (get_or waiting i 0) (was.waits i h).1))
        (b_in, inr (now_reached start b marks in_marks, b_inner));
    joined = was.joined;
    paired = λ x h apart. elim (reached_cases start b marks x h) [
      | inl old ↦ was.paired x old apart
      | inr same ↦ let no : ◌≡◌ {A = Bool} true false = sym b_inner ∙ ap (λ y. get_or inner y false) (sym same) ∙ apart in absurd (cc no)
    ];
  }

  -- a number that is not inner is reached, and joined to start
  pub reach_other : IsAcross edges inner start b → is_inner inner start ≡ false → is_inner inner b ≡ false → IsSearch edges inner start (state_of (set marks b (Some start)) waiting (pairs ++ (start, b) ∷ []))
  reach_other path start_apart b_apart = record {
    reached_len = length-set marks b (Some start) ∙ was.reached_len;
    latest = latest_set start b marks in_marks was.latest;
    sound = reach_sound path;
    waits = λ i h. ((was.waits i h).0, still_way (get_or waiting i 0) (was.waits i h).1);
    joined = λ x y h. elim (Contains-push_cases pairs (start, b) (x, y) h) [
      | inl old ↦ was.joined x y old
      | inr new ↦ subst (λ (pair : ℕ × ℕ). AreJoined edges inner pair.0 pair.1) new (start_apart, b_apart, path)
    ];
    paired = λ x h apart. elim (reached_cases start b marks x h) [
      | inl old ↦ Contains-append_left pairs ((start, b) ∷ []) (start, x) (was.paired x old apart)
      | inr same ↦ subst (λ y. Contains (pairs ++ (start, b) ∷ []) (start, y)) (sym same) (Contains-push pairs (start, b))
    ];
  }

  pub inner_goes_on : unreached start (get_or marks b None) ≡ 1 → GoesOn inner start (state_of marks waiting pairs) (state_of (set marks b (Some start)) (waiting ++ b ∷ []) pairs)
  inner_goes_on fresh = record {
    reached = still_reached start b marks in_marks;
    waiting = among_push_old waiting b;
    pairs = λ pair h. h;
    ways = λ a way. elim way [
      | inl same ↦ inr (inl same)
      | inr at ↦ elim (reached_cases start b marks a at.0) [
        | inl old ↦ inr (inr (old, at.1))
        | inr same ↦ inl (among_push_new waiting b a (sym same))
      ]
    ];
    falls = let fewer = fewer_unreached start b marks in_marks fresh in omega (arith, fewer, length_push waiting b);
  }

-- ---- one step after another

pub then_goes_on : (inner : List Bool) (start : ℕ) (old mid new : State) → GoesOn inner start old mid → GoesOn inner start mid new → GoesOn inner start old new
then_goes_on inner start old mid new first second = record {
  reached = λ b h. second.reached b (first.reached b h);
  waiting = λ a h. second.waiting a (first.waiting a h);
  pairs = λ pair h. second.pairs pair (first.pairs pair h);
  ways = λ a way. elim (second.ways a way) [
    | inl waits ↦ inl waits
    | inr between ↦ elim (first.ways a between) [ inl waits ↦ inl (second.waiting a waits) | inr before ↦ inr before ]
  ];
  falls = omega (arith, first.falls, second.falls);
}

-- ---- the edges that leave a number

-- the edges that leave the number are followed but for those up to the link
pub record Following (edges : List (ℕ × ℕ)) (inner : List Bool) (start at : ℕ) (old new : State) (next : Option ℕ) : Type 0 where
  pub next_is : IfSome next (λ e. (e < length edges) × (source edges e ≡ at))
  pub search : IsSearch edges inner start new
  pub goes_on : GoesOn inner start old new
  pub passed : (e : ℕ) → e < length edges → source edges e ≡ at → edges_up_to next ≤ e → IsReached new start (target edges e)

module _ (edges : List (ℕ × ℕ)) (inner : List Bool) (start at : ℕ) where
  pub following_step : (old mid new : State) (e : ℕ) (link : Option ℕ) → Following edges inner start at old mid (Some e) → IsLastLeaving edges (source edges e) e link → IsSearch edges inner start new → GoesOn inner start mid new → IsReached new start (target edges e) → Following edges inner start at old new link
  following_step old mid new e link was is search on here = record {
    next_is = link_leaves edges at e link was.next_is.0 was.next_is.1 is;
    search = search;
    goes_on = then_goes_on inner start old mid new was.goes_on on;
    passed = chain_step (λ f. IsReached new start (target edges f)) edges at e link was.next_is.1 is here
        (λ f f_in from up. on.reached (target edges f) (was.passed f f_in from up));
  }

  pub following_end : (old new : State) → Following edges inner start at old new None → IsFollowed edges start new at
  following_end old new was b h =
      let p = edge_place edges at b h in
      subst (λ x. IsReached new start x) p.3 (was.passed p.0 p.1 p.2 (omega arith))

-- ---- the numbers that wait

-- each number at which the search from start goes on waits, or its edges are followed; the old pairs are kept
pub record Searching (edges : List (ℕ × ℕ)) (inner : List Bool) (start : ℕ) (old s : State) : Type 0 where
  pub search : IsSearch edges inner start s
  pub followed : (a : ℕ) → IsWay inner start s a → Among s.waiting a ⊎ IsFollowed edges start s a
  pub pairs : (pair : ℕ × ℕ) → Contains old.pairs pair → Contains s.pairs pair

earlier_is_latest : (start : ℕ) (from : Option ℕ) → IfSome from (λ a. a < start) → IfSome from (λ a. a ≤ start)
earlier_is_latest start None h = tt
earlier_is_latest start (Some a) h = omega (arith, h)

latest_is_earlier : (start : ℕ) (from : Option ℕ) → IfSome from (λ a. a ≤ start) → IfSome from (λ a. a < start + 1)
latest_is_earlier start None h = tt
latest_is_earlier start (Some a) h = omega (arith, h)

module _ (edges : List (ℕ × ℕ)) (inner : List Bool) (start : ℕ) where
  module _ (at : ℕ) (marks : List (Option ℕ)) (waiting : List ℕ) (pairs : List (ℕ × ℕ)) where
    pub last_waits : IsSearch edges inner start (state_of marks (waiting ++ at ∷ []) pairs) → (at < length inner) × IsWay inner start (state_of marks waiting pairs) at
    last_waits was = each_last (λ x. (x < length inner) × IsWay inner start (state_of marks waiting pairs) x) waiting at was.waits

    pub last_taken : IsSearch edges inner start (state_of marks (waiting ++ at ∷ []) pairs) → IsSearch edges inner start (state_of marks waiting pairs)
    last_taken was = record {
      reached_len = was.reached_len;
      latest = was.latest;
      sound = was.sound;
      waits = each_init (λ x. (x < length inner) × IsWay inner start (state_of marks waiting pairs) x) waiting at was.waits;
      joined = was.joined;
      paired = was.paired;
    }

    pub searching_step : (old new : State) → Searching edges inner start old (state_of marks (waiting ++ at ∷ []) pairs) → IsSearch edges inner start new → GoesOn inner start (state_of marks waiting pairs) new → IsFollowed edges start new at → Searching edges inner start old new
    searching_step old new was search on here = record {
      search = search;
      followed = λ a way. elim (on.ways a way) [
        | inl waits ↦ inl waits
        | inr before ↦ elim (was.followed a before) [
          | inl waits ↦ elim (among_push_cases waiting at a waits) [
            | inl kept ↦ inl (on.waiting a kept)
            | inr same ↦ inr (subst (λ x. IsFollowed edges start new x) same here)
          ]
          | inr done ↦ inr (λ b h. on.reached b (done b h))
        ]
      ];
      pairs = λ pair h. on.pairs pair (was.pairs pair h);
    }

  pub searching_end : (old : State) (marks : List (Option ℕ)) (waiting after : List ℕ) (pairs : List (ℕ × ℕ)) → IsSearched edges inner start old → Searching edges inner start old (state_of marks waiting pairs) → waiting ≡ [] → after ≡ [] → IsSearched edges inner (start + 1) (state_of marks after pairs)
  searching_end old marks waiting after pairs before was none_waits at_rest =
      let followed : (a : ℕ) → IsWay inner start (state_of marks waiting pairs) a → IsFollowed edges start (state_of marks waiting pairs) a =
      λ a way. elim (was.followed a way) [
        | inl waits ↦ absurd (among_nil a (subst (λ xs. Among xs a) none_waits waits))
        | inr done ↦ done
      ] in
      record {
        reached_len = was.search.reached_len;
        earlier = λ b. latest_is_earlier start (get_or marks b None) (was.search.latest b);
        at_rest = at_rest;
        joined = was.search.joined;
        whole = λ a b low are. elim (cases_eq a start) [
          | inl same ↦
              let reached = all_reached edges inner start (state_of marks waiting pairs) followed start b (inl refl) (subst (λ x. IsAcross edges inner x b) same are.2) in
              subst (λ x. Contains pairs (x, b)) (sym same) (was.search.paired b reached are.1)
          | inr other ↦ was.pairs (a, b) (before.whole a b (omega (arith, low, other)) are)
        ];
      }

-- ---- all searches

-- nothing is joined to an inner number
pub inner_skipped : (edges : List (ℕ × ℕ)) (inner : List Bool) (start : ℕ) (s : State) → IsSearched edges inner start s → is_inner inner start ≡ true → IsSearched edges inner (start + 1) s
inner_skipped edges inner start s was start_inner = record {
  reached_len = was.reached_len;
  earlier = λ b. latest_is_earlier start (get_or s.reached_from b None) (earlier_is_latest start (get_or s.reached_from b None) (was.earlier b));
  at_rest = was.at_rest;
  joined = was.joined;
  whole = λ a b low are. elim (cases_eq a start) [
    | inl same ↦ let no : ◌≡◌ {A = Bool} true false = sym start_inner ∙ ap (λ y. get_or inner y false) (sym same) ∙ are.0 in absurd (cc no)
    | inr other ↦ was.whole a b (omega (arith, low, other)) are
  ];
}

pub all_joined : (size : ℕ) (edges : List (ℕ × ℕ)) (inner : List Bool) (s : State) → AreEdgesBelow size edges → IsSearched edges inner size s → (a b : ℕ) → Contains s.pairs (a, b) ↔ AreJoined edges inner a b
all_joined size edges inner s graph all a b =
    (all.joined a b, λ are. let first = across_begins edges inner a b are.2 in all.whole a b (edge_below size edges a first.0 graph first.1).0 are)
