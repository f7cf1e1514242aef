-- How many pairs and nodes there are.
use Rattle.std.proofs.Common.{Bool, true, false, ◌≡◌, ℕ, suc, ◌+◌, ◌-◌, ◌*◌, ◌<◌, ◌≤◌, List, [], ◌∷◌, ◌++◌, length, Option, Some, None, refl, sym, ap, ◌∙◌, subst, arith}
use Rattle.std.specs.Cmp.{IsTotalOrder}
use Rattle.std.specs.List.{flat_map}
use Rattle.std.specs.Bool.{IsTrue}
use Rattle.std.specs.Int.{from_bool}
use Rattle.std.specs.declared.cmp.Ordering.{Ordering}
use Rattle.std.specs.declared.cmp.Ordering.TheVariants.{Less, Equal, Greater}
use Rattle.std.proofs.Math.Nat.{mul-le-mul_right}
use Rattle.std.proofs.lemmas.List.{length-append}
use Rattle.std.proofs.lemmas.List.Concat.{flat_map-append}
use Rattle.pj_pmap.specs.Pairs.{IsRising, value_at, with_pair, without_key}
use Rattle.pj_pmap.specs.Nodes.{IsNode, AllNodes, IsLevel}
use Rattle.pj_pmap.proofs.Rising

-- ---- pairs of nodes

module _ {N P : Type 0} (pairs : N → List P) where
  pub length_level : (most : ℕ) (ns : List N) → AllNodes pairs most ns → length (flat_map pairs ns) ≤ length ns * most
  length_level most [] h = omega arith
  length_level most (n ∷ ns) h =
      let rest = length_level most ns h.1 in
      let here = h.0.few in
      let both = length-append (pairs n) (flat_map pairs ns) in
      omega (arith, rest, here, both)

  -- where there is a node, there is a pair
  pub some_level : (most : ℕ) (ns : List N) → AllNodes pairs most ns → 0 < length ns → 0 < length (flat_map pairs ns)
  some_level most [] h l = l
  some_level most (n ∷ ns) h l =
      let here = h.0.some in
      let both = length-append (pairs n) (flat_map pairs ns) in
      omega (arith, here, both)

  -- where there is a pair, there is a node
  pub some_nodes : (ns : List N) → 0 < length (flat_map pairs ns) → 0 < length ns
  some_nodes [] l = l
  some_nodes (n ∷ ns) l = omega arith

  -- a branch over at most so many nodes
  pub node_of_level : (most widest : ℕ) (ns : List N) → AllNodes pairs most ns → IsNode widest ns → IsNode (widest * most) (flat_map pairs ns)
  node_of_level most widest ns all h =
      let many = length_level most ns all in
      let times = mul-le-mul_right most h.few in
      record {
        some = some_level most ns all (let s = h.some in omega arith);
        few = omega (arith, many, times);
      }

-- ---- both parts of a level

-- their pairs are those of the level
pub flat_cut : {N P : Type 0} (pairs : N → List P) (first rest list : List N) → first ++ rest ≡ list → flat_map pairs first ++ flat_map pairs rest ≡ flat_map pairs list
flat_cut pairs first rest list cut = sym (flat_map-append pairs first rest) ∙ ap (flat_map pairs) cut

module _ {N P : Type 0} (pairs : N → List P) (most : ℕ) where
  AllNodes-left : (xs ys : List N) → AllNodes pairs most (xs ++ ys) → AllNodes pairs most xs
  AllNodes-left [] ys h = tt
  AllNodes-left (x ∷ xs) ys h = (h.0, AllNodes-left xs ys h.1)

  AllNodes-right : (xs ys : List N) → AllNodes pairs most (xs ++ ys) → AllNodes pairs most ys
  AllNodes-right [] ys h = h
  AllNodes-right (x ∷ xs) ys h = AllNodes-right xs ys h.1

module _ {K V N : Type 0} {cmp : K → K → Ordering} (pairs : N → List (K × V)) (most : ℕ) where
  parts : (first rest list : List N) → first ++ rest ≡ list → IsLevel cmp pairs most list → IsLevel cmp pairs most (first ++ rest)
  parts first rest list cut h = subst (IsLevel cmp pairs most) (sym cut) h

  pub level_first : (first rest list : List N) → first ++ rest ≡ list → IsLevel cmp pairs most list → IsLevel cmp pairs most first
  level_first first rest list cut h =
      let both : IsLevel cmp pairs most (first ++ rest) = parts first rest list cut h in
      record {
        rising = Rising.IsRising-left cmp (flat_map pairs first) (flat_map pairs rest) (subst (IsRising cmp) (flat_map-append pairs first rest) both.rising);
        nodes = AllNodes-left pairs most first rest both.nodes;
      }

  pub level_rest : (first rest list : List N) → first ++ rest ≡ list → IsLevel cmp pairs most list → IsLevel cmp pairs most rest
  level_rest first rest list cut h =
      let both : IsLevel cmp pairs most (first ++ rest) = parts first rest list cut h in
      record {
        rising = Rising.IsRising-right cmp (flat_map pairs first) (flat_map pairs rest) (subst (IsRising cmp) (flat_map-append pairs first rest) both.rising);
        nodes = AllNodes-right pairs most first rest both.nodes;
      }

-- ---- the number of pairs after a change

module _ {K V : Type 0} (cmp : K → K → Ordering) where
  pub some_with : (k : K) (v : V) (es : List (K × V)) → 0 < length (with_pair cmp k v es)
  some_with k v [] = omega arith
  some_with k v (e ∷ es) = by (cmp k e.0) refl
    where
      by : (c : Ordering) → cmp k e.0 ≡ c → 0 < length (with_pair cmp k v (e ∷ es))
      by Less f = rw f (omega arith)
      by Equal f = rw f (omega arith)
      by Greater f = rw f (omega arith)

  pub length_with_new : (k : K) (v : V) (es : List (K × V)) → value_at cmp k es ≡ None → length (with_pair cmp k v es) ≡ length es + 1
  length_with_new k v [] h = omega arith
  length_with_new k v (e ∷ es) h = by (length_with_new k v es) (cmp k e.0) refl
    where
      by : (value_at cmp k es ≡ None → length (with_pair cmp k v es) ≡ length es + 1) → (c : Ordering) → cmp k e.0 ≡ c → length (with_pair cmp k v (e ∷ es)) ≡ length (e ∷ es) + 1
      by rest Less f = rw f (omega arith)
      by rest Equal f = let g = rw f at h in cc
      by rest Greater f = rw f (let r = rest (rw f at h) in omega arith)

  -- without a key that has no value the list is the same
  pub without_absent : (k : K) (es : List (K × V)) → value_at cmp k es ≡ None → without_key cmp k es ≡ es
  without_absent k [] h = refl
  without_absent k (e ∷ es) h = by (without_absent k es) (cmp k e.0) refl
    where
      by : (value_at cmp k es ≡ None → without_key cmp k es ≡ es) → (c : Ordering) → cmp k e.0 ≡ c → without_key cmp k (e ∷ es) ≡ e ∷ es
      by rest Less f = rw f refl
      by rest Equal f = let g = rw f at h in cc
      by rest Greater f = rw f (ap (λ (r : List (K × V)). e ∷ r) (rest (rw f at h)))

  module _ (order : IsTotalOrder cmp) where
    -- a key below the first has no value
    no_value : (k : K) (e : K × V) (es : List (K × V)) → IsRising cmp (e ∷ es) → cmp k e.0 ≡ Less → value_at cmp k es ≡ None
    no_value k e es r h = Rising.value-none_above cmp k es (Rising.AllAbove-less cmp order k e.0 es h r.0)

    pub length_with_old : (k : K) (v w : V) (es : List (K × V)) → IsRising cmp es → value_at cmp k es ≡ Some w → length (with_pair cmp k v es) ≡ length es
    length_with_old k v w [] r h = cc
    length_with_old k v w (e ∷ es) r h = by (length_with_old k v w es r.1) (cmp k e.0) refl
      where
        by : (value_at cmp k es ≡ Some w → length (with_pair cmp k v es) ≡ length es) → (c : Ordering) → cmp k e.0 ≡ c → length (with_pair cmp k v (e ∷ es)) ≡ length (e ∷ es)
        by rest Less f = let g = rw f at h in let n = no_value k e es r f in cc
        by rest Equal f = rw f refl
        by rest Greater f = rw f (ap (λ (n : ℕ). suc n) (rest (rw f at h)))

    -- one pair more where the key had no value
    pub length_with : (k : K) (v : V) (es : List (K × V)) → IsRising cmp es → (b : Bool) → (IsTrue b → value_at cmp k es ≡ None) × (value_at cmp k es ≡ None → IsTrue b) → length (with_pair cmp k v es) ≡ length es + from_bool b
    length_with k v es r true new = length_with_new k v es (new.0 refl)
    length_with k v es r false new = by (value_at cmp k es) refl
      where
        by : (o : Option V) → value_at cmp k es ≡ o → length (with_pair cmp k v es) ≡ length es + 0
        by None f = let t = new.1 f in cc
        by (Some w) f = let same = length_with_old k v w es r f in omega (arith, same)

    pub length_without : (k : K) (w : V) (es : List (K × V)) → IsRising cmp es → value_at cmp k es ≡ Some w → length (without_key cmp k es) + 1 ≡ length es
    length_without k w [] r h = cc
    length_without k w (e ∷ es) r h = by (length_without k w es r.1) (cmp k e.0) refl
      where
        by : (value_at cmp k es ≡ Some w → length (without_key cmp k es) + 1 ≡ length es) → (c : Ordering) → cmp k e.0 ≡ c → length (without_key cmp k (e ∷ es)) + 1 ≡ length (e ∷ es)
        by rest Less f = let g = rw f at h in let n = no_value k e es r f in cc
        by rest Equal f = rw f (omega arith)
        by rest Greater f = rw f (let s = rest (rw f at h) in omega arith)

    -- a key whose value is not none has one
    pub length_without_there : (k : K) (es : List (K × V)) → IsRising cmp es → (value_at cmp k es ≡ None → ⊥) → length (without_key cmp k es) + 1 ≡ length es
    length_without_there k es r there = by (value_at cmp k es) refl
      where
        by : (o : Option V) → value_at cmp k es ≡ o → length (without_key cmp k es) + 1 ≡ length es
        by None f = absurd (there f)
        by (Some w) f = length_without k w es r f

-- ---- the list at the top of a map

module _ {K V N : Type 0} (cmp : K → K → Ordering) (pairs : N → List (K × V)) (k : K) (list was : List N) (es : List (K × V)) (view : flat_map pairs was ≡ es) where
  pub top_with : (v : V) (len : ℕ) → flat_map pairs list ≡ with_pair cmp k v (flat_map pairs was) → len ≡ length (with_pair cmp k v es) → (0 < length list) × (len ≡ length (flat_map pairs list))
  top_with v len same h =
      let is : flat_map pairs list ≡ with_pair cmp k v es = same ∙ ap (with_pair cmp k v) view in
      (some_nodes pairs list (rw is (some_with cmp k v es)), h ∙ ap length (sym is))

  top_without : flat_map pairs list ≡ without_key cmp k (flat_map pairs was) → flat_map pairs list ≡ without_key cmp k es
  top_without same = same ∙ ap (without_key cmp k) view

  pub top_emptied : list ≡ [] → flat_map pairs list ≡ without_key cmp k (flat_map pairs was) → [] ≡ without_key cmp k es
  top_emptied none same = sym (ap (λ (l : List N). flat_map pairs l) none) ∙ top_without same

  pub top_fewer : IsTotalOrder cmp → IsRising cmp (flat_map pairs was) → (value_at cmp k es ≡ None → ⊥) → (len : ℕ) → flat_map pairs list ≡ without_key cmp k (flat_map pairs was) → len ≡ length (flat_map pairs was) → len - 1 ≡ length (flat_map pairs list)
  top_fewer order rises there len same h =
      let fewer = length_without_there cmp order k es (subst (IsRising cmp) view rises) there in
      let is = top_without same in
      let long : len ≡ length es = h ∙ ap length view in
      rw is (omega (arith, fewer, long))
