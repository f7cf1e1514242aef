-- Whether a path leads from one thing to another is decided, where the steps are and lead to finitely many things.
use Rattle.std.proofs.Common.{◌≡◌, List, [], ◌∷◌, sym, subst, inl, inr}
use Rattle.std.specs.Prelude.{Contains, ◌⊎◌}
use Rattle.pj_change.specs.AcrossDead.{IsPath, one, more}
use Rattle.pj_change.proofs.Decided.{Known, known_as, known_both, known_one}
use Rattle.pj_change.proofs.Members.{uncons, no_member}

module _ {X : Type 0} (Step : X → X → Type 0) where
  -- a step, or steps over some of these
  abbrev IsVia : List X → X → X → Type 0
  IsVia [] u v = Step u v
  IsVia (w ∷ ws) u v = IsVia ws u v ⊎ (IsVia ws u w × IsVia ws w v)

  -- two paths that meet are one
  pub joined : {u v w : X} → IsPath Step u v → IsPath Step v w → IsPath Step u w
  joined (one s) q = more s q
  joined (more s p) q = more s (joined p q)

  -- ways are paths
  via_path : (ws : List X) (u v : X) → IsVia ws u v → IsPath Step u v
  via_path [] u v s = one s
  via_path (w ∷ ws) u v (inl h) = via_path ws u v h
  via_path (w ∷ ws) u v (inr h) = joined (via_path ws u w h.0) (via_path ws w v h.1)

  -- a step is a way
  step_via : (ws : List X) (u v : X) → Step u v → IsVia ws u v
  step_via [] u v s = s
  step_via (w ∷ ws) u v s = inl (step_via ws u v s)

  -- ways that meet at one of these are one
  over : (ws : List X) (u x v : X) → Contains ws x → IsVia ws u x → IsVia ws x v → IsVia ws u v
  over [] u x v m a b = absurd (no_member x m)
  over (w ∷ ws) u x v m a b = elim (uncons w ws x m) [
    | inl e ↦ inr (to_first e a, from_first e b)
    | inr n ↦ later (λ t z. over ws t x z n) a b
  ]
    where
      to_first : w ≡ x → IsVia (w ∷ ws) u x → IsVia ws u w
      to_first e (inl h) = subst (IsVia ws u) (sym e) h
      to_first e (inr h) = h.0

      from_first : w ≡ x → IsVia (w ∷ ws) x v → IsVia ws w v
      from_first e (inl h) = subst (λ y. IsVia ws y v) (sym e) h
      from_first e (inr h) = h.1

      later : ((t z : X) → IsVia ws t x → IsVia ws x z → IsVia ws t z) → IsVia (w ∷ ws) u x → IsVia (w ∷ ws) x v → IsVia (w ∷ ws) u v
      later deep (inl h) (inl k) = inl (deep u v h k)
      later deep (inl h) (inr k) = inr (deep u w h k.0, k.1)
      later deep (inr h) (inl k) = inr (h.0, deep w v h.1 k)
      later deep (inr h) (inr k) = inr (h.0, k.1)

  module _ (things : List X) (within : (u v : X) → Step u v → Contains things v) where
    -- paths are ways
    path_via : {u v : X} → IsPath Step u v → IsVia things u v
    path_via (one {u} {v} s) = step_via things u v s
    path_via (more {u} {v} {w} s p) = over things u v w (within u v s) (step_via things u v s) (path_via p)

    -- whether there is a way is decided
    known_via : ((u v : X) → Known (Step u v)) → (ws : List X) (u v : X) → Known (IsVia ws u v)
    known_via known [] u v = known u v
    known_via known (w ∷ ws) u v = known_one (known_via known ws u v) (known_both (known_via known ws u w) (known_via known ws w v))

    -- so whether there is a path is
    pub known_path : ((u v : X) → Known (Step u v)) → (u v : X) → Known (IsPath Step u v)
    known_path known u v = known_as (via_path things u v) path_via (known_via known things u v)
