-- A list of classes is made of the linked sets that a search finds in it.
use Rattle.std.proofs.Common.{◌≡◌, ℕ, ◌≤◌, List, [], ◌∷◌, length, get_or, subst, sym, ◌∙◌, arith}
use Rattle.std.specs.Prelude.{Contains, Any, All, ◌↔◌}
use Rattle.std.proofs.lemmas.List.Elements.{All-contains, Contains-get_or}
use Rattle.pj_change.specs.Layout.{IsChain, here, on, IsLinked, AreLinkedSets}
use Rattle.pj_layout.specs.Parts.{ArePartsOf}

-- a chain within a set is one within a larger set
chain-wider : (link : ℕ → ℕ → Type 0) {X Y : List ℕ} → ((x : ℕ) → Contains X x → Contains Y x) → {x y : ℕ} → IsChain link X x y → IsChain link Y x y
chain-wider link wider {x = x} (here m) = here (wider x m)
chain-wider link wider (on {z = z} c l m) = on (chain-wider link wider c) l (wider z m)

-- two members of a list of no more than one are the same
only_member : {X : Type 0} (xs : List X) (x y : X) → length xs ≤ 1 → Contains xs x → Contains xs y → x ≡ y
only_member [] x y short m n = absurd (omega (arith, m.1))
only_member {X = A} (z ∷ []) x y short m n = sym (is x m) ∙ is y n
  where
    is : (v : A) → Contains (z ∷ []) v → z ≡ v
    is v h = (let first : h.0 ≡ 0 = omega (arith, h.1) in subst (λ k. get_or (z ∷ []) k v ≡ v) first h.2)
only_member (z ∷ w ∷ zs) x y short m n = absurd (omega (arith, short))

module _ (link : ℕ → ℕ → Type 0) (X xs : List ℕ) (parts : List (List ℕ)) (same : (x : ℕ) → Contains X x ↔ Contains xs x) (found : ArePartsOf link xs parts) where
  members : (x : ℕ) → Contains X x ↔ Any (λ part. Contains part x) parts
  members x = (
    λ m. (found.members x).0 ((same x).0 m),
    λ a. (same x).1 ((found.members x).1 a),
  )

  part_within : (part : List ℕ) → Contains parts part → (x : ℕ) → Contains part x → Contains X x
  part_within part p x m = (members x).1 (p.0, part, p.1, p.2, m)

  -- what holds of each class of the list holds of each class of each part
  pub all_parts : (P : ℕ → Type 0) → All P X → All (All P) parts
  all_parts P each k d lt i e low =
      let part = get_or parts k d in
      All-contains P X (get_or part i e) each (part_within part (Contains-get_or parts k d lt) (get_or part i e) (Contains-get_or part i e low))

  -- two or more parts are the linked sets of the list
  pub several_parts : 2 ≤ length parts → AreLinkedSets link X parts
  several_parts several = record {
    several = several;
    members = members;
    sorted = found.sorted;
    nonempty = found.nonempty;
    linked = found.linked;
    apart = found.apart;
  }

  -- with no more than one part, links join each two classes of the list
  pub linked_by_one_part : length parts ≤ 1 → IsLinked link X
  linked_by_one_part single x y m n =
      let a = (members x).0 m in
      let b = (members y).0 n in
      let a_in : Contains parts a.1 = (a.0, a.2, a.3) in
      let b_in : Contains parts b.1 = (b.0, b.2, b.3) in
      let other : Contains a.1 y = subst (λ part. Contains part y) (only_member parts b.1 a.1 single b_in a_in) b.4 in
      chain-wider link (part_within a.1 a_in) (All-contains (IsLinked link) parts a.1 found.linked a_in x y a.4 other)
