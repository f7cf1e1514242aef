-- Paths: one more edge at the end, one path after another, and the edges of a graph by their places.
use Rattle.std.proofs.Common.{◌≡◌, ℕ, ◌<◌, List, length, get_or, ◌∙◌, ap, arith}
use Rattle.std.proofs.lemmas.List.{get_or_default}
use Rattle.pj_reach.specs.Reach.{IsEdge, AreEdgesBelow, Reaches, edge, onward}
use Rattle.pj_reach.specs.Links.{source, target}

-- the place of an edge in the list
pub edge_place : (edges : List (ℕ × ℕ)) (a b : ℕ) → IsEdge edges a b → (e : ℕ) × (e < length edges) × (source edges e ≡ a) × (target edges e ≡ b)
unfolding IsEdge
edge_place edges a b h =
    let at : get_or edges h.0 (0, 0) ≡ (a, b) = get_or_default edges h.0 (0, 0) (a, b) h.1 ∙ h.2 in
    (h.0, h.1, ap (λ x. x.0) at, ap (λ x. x.1) at)

pub place_edge : (edges : List (ℕ × ℕ)) (e : ℕ) → e < length edges → IsEdge edges (source edges e) (target edges e)
unfolding IsEdge
place_edge edges e h = (e, h, get_or_default edges e (source edges e, target edges e) (0, 0) h)

pub ends_below : (size : ℕ) (edges : List (ℕ × ℕ)) → AreEdgesBelow size edges → (e : ℕ) → e < length edges → (source edges e < size) × (target edges e < size)
ends_below size edges graph e h = graph e (0, 0) h

pub edge_below : (size : ℕ) (edges : List (ℕ × ℕ)) (a b : ℕ) → AreEdgesBelow size edges → IsEdge edges a b → (a < size) × (b < size)
edge_below size edges a b graph h =
    let p = edge_place edges a b h in
    let q = ends_below size edges graph p.0 p.1 in
    (omega (arith, q.0, p.2), omega (arith, q.1, p.3))

pub reaches_trans : (edges : List (ℕ × ℕ)) (a b c : ℕ) → Reaches edges a b → Reaches edges b c → Reaches edges a c
reaches_trans edges a b c (edge h) rest = onward h rest
reaches_trans edges a b c (onward {b = x} h more) rest = onward h (reaches_trans edges x b c more rest)

pub reaches_edge : (edges : List (ℕ × ℕ)) (a b c : ℕ) → Reaches edges a b → IsEdge edges b c → Reaches edges a c
reaches_edge edges a b c path h = reaches_trans edges a b c path (edge h)
