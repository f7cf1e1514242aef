-- Where dead things are finitely many and steps are decided, a connected set of dead things is decided and has a least member.
use Rattle.std.proofs.Common.{◌≡◌, List, [], ◌∷◌, refl, sym, subst, inl, inr}
use Rattle.std.specs.Prelude.{Contains, ◌⊎◌, ◌≢◌}
use Rattle.std.specs.Cmp.{IsTotalOrder}
use Rattle.std.specs.declared.cmp.Ordering.{Ordering}
use Rattle.std.specs.declared.cmp.Ordering.TheVariants.{Less, Equal, Greater}
use Rattle.pj_change.specs.DeadSets.{here, on, IsEitherWay, AreConnected, IsLeastMember}
use Rattle.pj_change.proofs.Members.{uncons, no_member}
use Rattle.pj_change.proofs.Listings.{not_both}
use Rattle.pj_change.proofs.Decided.{Known, known_both, known_one}
use Rattle.pj_change.proofs.DeadPaths.{end_dead}
use Rattle.pj_change.proofs.ViaMembers.{Via, known_via, via_step, via_keeps, via_member}

-- ---- the least of a list

-- the least of u and the members of which P holds
pub record LeastOf {X : Type 0} (cmp : X → X → Ordering) (P : X → Type 0) (u : X) (xs : List X) : Type 0 where
  pub it : X
  pub is : (u ≡ it) ⊎ P it
  pub own : cmp u it ≢ Less
  pub below : (v : X) → Contains xs v → P v → cmp v it ≢ Less

module _ {X : Type 0} (cmp : X → X → Ordering) (total : IsTotalOrder cmp) (P : X → Type 0) (known : (x : X) → Known (P x)) (u : X) where
  not_self : (x : X) → cmp x x ≢ Less
  not_self x e = not_both cmp total x x e e

  less_or_not : (o : Ordering) → (o ≡ Less) ⊎ (o ≢ Less)
  less_or_not Less = inl refl
  less_or_not Equal = inr (λ e. cc)
  less_or_not Greater = inr (λ e. cc)

  -- there is one, where P is decided
  pub least_of : (xs : List X) → LeastOf cmp P u xs
  least_of [] = record { it = u; is = inl refl; own = not_self u; below = λ v m p. absurd (no_member v m) }
  least_of (x ∷ xs) = go (least_of xs) (known x)
    where
      keep : (l : LeastOf cmp P u xs) → (P x → cmp x l.it ≢ Less) → LeastOf cmp P u (x ∷ xs)
      keep l first = record {
        it = l.it;
        is = l.is;
        own = l.own;
        below = λ v m p. elim (uncons x xs v m) [
          | inl e ↦ subst (λ z. cmp z l.it ≢ Less) e (first (subst P (sym e) p))
          | inr n ↦ l.below v n p
        ];
      }

      take_it : (l : LeastOf cmp P u xs) → P x → cmp x l.it ≡ Less → LeastOf cmp P u (x ∷ xs)
      take_it l p less = record {
        it = x;
        is = inr p;
        own = λ e. l.own (total.trans u x l.it e less);
        below = λ v m q. elim (uncons x xs v m) [
          | inl e ↦ subst (λ z. cmp z x ≢ Less) e (not_self x)
          | inr n ↦ λ e. l.below v n q (total.trans v x l.it e less)
        ];
      }

      choose : (l : LeastOf cmp P u xs) → P x → (cmp x l.it ≡ Less) ⊎ (cmp x l.it ≢ Less) → LeastOf cmp P u (x ∷ xs)
      choose l p (inl e) = take_it l p e
      choose l p (inr n) = keep l (λ q. n)

      go : LeastOf cmp P u xs → Known (P x) → LeastOf cmp P u (x ∷ xs)
      go l (inl p) = choose l p (less_or_not (cmp x l.it))
      go l (inr n) = keep l (λ p. absurd (n p))

-- ---- connected sets

-- all dead things are of the list
module _ {X : Type 0} (Step : X → X → Type 0) (Dead : X → Type 0) (known_step : (u v : X) → Known (Step u v)) (known_dead : (v : X) → Known (Dead v))
    (all : List X) (listed : (v : X) → Dead v → Contains all v) where
  -- a step leads one way or the other, to a dead thing
  abbrev pub IsDeadStep : X → X → Type 0
  IsDeadStep v w = IsEitherWay Step v w × Dead w

  known_dead_step : (v w : X) → Known (IsDeadStep v w)
  known_dead_step v w = known_both (known_one (known_step v w) (known_step w v)) (known_dead w)

  -- what is connected is one thing, or joined by way of members of the list
  pub connected_via : {u v : X} → AreConnected Step Dead u v → (u ≡ v) ⊎ Via IsDeadStep all u v
  connected_via (here d) = inl refl
  connected_via {u} (on {v} {w} p s d) = inr (elim (connected_via p) [
    | inl e ↦ via_step IsDeadStep all u w (subst (λ z. IsEitherWay Step z w) (sym e) s, d)
    | inr q ↦ via_member IsDeadStep all v (listed v (end_dead p)) u w q (via_step IsDeadStep all v w (s, d))
  ])

  -- and the other way round
  pub via_connected : (u v w : X) → AreConnected Step Dead u v → Via IsDeadStep all v w → AreConnected Step Dead u w
  via_connected u v w p q = via_keeps IsDeadStep (AreConnected Step Dead u) (λ x y a s. on a s.0 s.1) all v w p q

  -- a connected set of dead things has a least member
  pub least_there : (cmp : X → X → Ordering) → IsTotalOrder cmp → (u : X) → Dead u → (least : X) × IsLeastMember Step Dead cmp u least
  least_there cmp total u d =
      let l = least_of cmp total (Via IsDeadStep all u) (known_via IsDeadStep known_dead_step all u) u all in (
        l.it,
        record {
          member = elim l.is [ inl e ↦ subst (AreConnected Step Dead u) e (here d) | inr p ↦ via_connected u u l.it (here d) p ];
          below = λ v p. elim (connected_via p) [ inl e ↦ subst (λ z. cmp z l.it ≢ Less) e l.own | inr q ↦ l.below v (listed v (end_dead p)) q ];
        },
      )
