-- Paths whose inner things are of a list are decided, member by member.
use Rattle.std.proofs.Common.{◌≡◌, List, [], ◌∷◌, sym, subst, inl, inr}
use Rattle.std.specs.Prelude.{Contains, ◌⊎◌}
use Rattle.pj_change.proofs.Members.{uncons, no_member}
use Rattle.pj_change.proofs.Decided.{Known, known_both, known_one}

-- a path of one or more steps whose inner things are of the list
pub Via : {X : Type 0} → (X → X → Type 0) → List X → X → X → Type 0
Via Step [] u v = Step u v
Via Step (x ∷ xs) u v = Via Step xs u v ⊎ (Via Step xs u x × Via Step xs x v)

module _ {X : Type 0} (Step : X → X → Type 0) where
  -- where steps are decided, such paths are
  pub known_via : ((u v : X) → Known (Step u v)) → (xs : List X) (u v : X) → Known (Via Step xs u v)
  unfolding Via
  known_via known [] u v = known u v
  known_via known (x ∷ xs) u v = known_one (known_via known xs u v) (known_both (known_via known xs u x) (known_via known xs x v))

  -- a step is such a path
  pub via_step : (xs : List X) (u v : X) → Step u v → Via Step xs u v
  unfolding Via
  via_step [] u v s = s
  via_step (x ∷ xs) u v s = inl (via_step xs u v s)

  -- what steps keep, such paths keep
  pub via_keeps : (P : X → Type 0) → ((u v : X) → P u → Step u v → P v) → (xs : List X) (u v : X) → P u → Via Step xs u v → P v
  unfolding Via
  via_keeps P f [] u v a s = f u v a s
  via_keeps P f (x ∷ xs) u v a (inl p) = via_keeps P f xs u v a p
  via_keeps P f (x ∷ xs) u v a (inr p) = via_keeps P f xs x v (via_keeps P f xs u x a p.0) p.1

  to_first : (x : X) (xs : List X) (u : X) → Via Step (x ∷ xs) u x → Via Step xs u x
  unfolding Via
  to_first x xs u (inl p) = p
  to_first x xs u (inr p) = p.0

  from_first : (x : X) (xs : List X) (v : X) → Via Step (x ∷ xs) x v → Via Step xs x v
  unfolding Via
  from_first x xs v (inl p) = p
  from_first x xs v (inr p) = p.1

  both : (y : X) (xs : List X) (u x v : X) → (Via Step xs u x → Via Step xs x v → Via Step xs u v) → (Via Step xs y x → Via Step xs x v → Via Step xs y v) →
      (Via Step xs u x → Via Step xs x y → Via Step xs u y) → Via Step (y ∷ xs) u x → Via Step (y ∷ xs) x v → Via Step (y ∷ xs) u v
  unfolding Via
  both y xs u x v here after before (inl p) (inl q) = inl (here p q)
  both y xs u x v here after before (inl p) (inr q) = inr (before p q.0, q.1)
  both y xs u x v here after before (inr p) (inl q) = inr (p.0, after p.1 q)
  both y xs u x v here after before (inr p) (inr q) = inr (p.0, q.1)

  -- two such paths that meet at a member are one
  pub via_member : (xs : List X) (x : X) → Contains xs x → (u v : X) → Via Step xs u x → Via Step xs x v → Via Step xs u v
  unfolding Via
  via_member [] x m u v p q = absurd (no_member x m)
  via_member (y ∷ ys) x m u v p q = elim (uncons y ys x m) [
    | inl e ↦ at_first e
    | inr n ↦ both y ys u x v (via_member ys x n u v) (via_member ys x n y v) (via_member ys x n u y) p q
  ]
    where
      at_first : y ≡ x → Via Step (y ∷ ys) u v
      at_first e = inr (to_first y ys u (subst (Via Step (y ∷ ys) u) (sym e) p), from_first y ys v (subst (λ z. Via Step (y ∷ ys) z v) (sym e) q))
