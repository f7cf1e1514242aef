-- A path between live things goes over live things, each joined to the next across dead ones alone.
use Rattle.std.proofs.Common.{◌≡◌, refl, subst, inl, inr, Bool, true, false}
use Rattle.std.specs.Prelude.{◌⊎◌, ◌↔◌}
use Rattle.pj_change.specs.AcrossDead.{IsPath, one, more, IsAcross, straight, over, IsAmong}

pub path_trans : {X : Type 0} {R : X → X → Type 0} {u v w : X} → IsPath R u v → IsPath R v w → IsPath R u w
path_trans (one r) q = more r q
path_trans (more r p) q = more r (path_trans p q)

-- a path of steps of one kind is one of steps of another kind that they are
pub path_map : {X : Type 0} (R Q : X → X → Type 0) → ((u v : X) → R u v → Q u v) → {u v : X} → IsPath R u v → IsPath Q u v
path_map R Q f (one {u} {v} r) = one (f u v r)
path_map R Q f (more {u} {v} r p) = more (f u v r) (path_map R Q f p)

-- what leads across leads there
pub across_path : {X : Type 0} {Step : X → X → Type 0} {Dead : X → Type 0} {u v : X} → IsAcross Step Dead u v → IsPath Step u v
across_path (straight s) = one s
across_path (over s d a) = more s (across_path a)

pub among_path : {X : Type 0} {Step : X → X → Type 0} {Dead Live : X → Type 0} {u v : X} → IsPath (IsAmong Live (IsAcross Step Dead)) u v → IsPath Step u v
among_path (one a) = across_path a.2
among_path (more a p) = path_trans (across_path a.2) (among_path p)

-- the first live thing of a path, and the path from there on
record Onward {X : Type 0} (Step : X → X → Type 0) (Dead Live : X → Type 0) (u v : X) : Type 0 where
  next : X
  live : Live next
  across : IsAcross Step Dead u next
  rest : (next ≡ v) ⊎ IsPath (IsAmong Live (IsAcross Step Dead)) next v

module _ {X : Type 0} (Step : X → X → Type 0) (Dead Live : X → Type 0) (either : (u v : X) → Step u v → Dead v ⊎ Live v) where
  from_live : (u v : X) → Live u → Onward Step Dead Live u v → IsPath (IsAmong Live (IsAcross Step Dead)) u v
  from_live u v l o = elim o.rest [
    | inl e ↦ one (l, subst Live e o.live, subst (IsAcross Step Dead u) e o.across)
    | inr p ↦ more (l, o.live, o.across) p
  ]

  onward : {u v : X} → Live v → IsPath Step u v → Onward Step Dead Live u v
  onward {u} {v} l (one s) = record { next = v; live = l; across = straight s; rest = inl refl }
  onward {u} {v = w} l (more {v} s p) = elim (either u v s) [
    | inl d ↦ past d (onward l p)
    | inr k ↦ record { next = v; live = k; across = straight s; rest = inr (from_live v w k (onward l p)) }
  ]
    where
      past : Dead v → Onward Step Dead Live v w → Onward Step Dead Live u w
      past d o = record { next = o.next; live = o.live; across = over s d o.across; rest = o.rest }

  pub paths_across : (u v : X) → Live u → Live v → IsPath Step u v ↔ IsPath (IsAmong Live (IsAcross Step Dead)) u v
  paths_across u v k l = (λ p. from_live u v k (onward l p), λ p. among_path p)

-- a test says one of two
pub true_or_false : (b : Bool) → (b ≡ true) ⊎ (b ≡ false)
true_or_false true = inl refl
true_or_false false = inr refl
