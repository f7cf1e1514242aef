-- The ends of vertices, from the cuts next to a position.
use Rattle.std.proofs.Common.{◌≡◌, ◌∙◌, ap, refl, ℕ, zero, suc, ◌+◌, ◌-◌, ◌<◌, ◌≤◌, Bool, true, false, arith, ◌⊎◌, inl, inr}
use Rattle.pj_name.specs.declared.name.Name.{Name}
use Rattle.pj_cuts.specs.Counted.{Counted, is_counted, InBlock}
use Rattle.pj_cuts.specs.CountedVertices.{IsVertexAt}
use Rattle.pj_cuts.specs.Neighbours.{IsStart, IsEnd, IsNextBlock, IsFirstOfNext}

module _ (c : Counted) (n : Name) where
  pub start_none : (at first : ℕ) → first ≤ at → ((k : ℕ) → k ≤ at → is_counted c n k ≡ false) → IsStart c n at first first
  start_none at first l none = record { inside = omega arith; low = l; begins = inl refl; last = λ k a b. none k b }

  pub end_none : (at past : ℕ) → at < past → ((k : ℕ) → at < k → is_counted c n k ≡ false) → IsEnd c n at past past
  end_none at past l none = record { above = l; inside = omega arith; ends = inl refl; first = λ k a b. none k a }

  pub vertex_between : (at f p start end : ℕ) → InBlock c n at f p → IsStart c n at f start → IsEnd c n at p end → IsVertexAt c n at start end
  vertex_between at f p start end b s e =
      let low = s.low in
      let above = e.above in
      record {
        from = low;
        upto = above;
        first = f;
        past = p;
        run = record {
          nonempty = omega arith;
          begins = s.begins;
          ends = e.ends;
          inside = (s.inside, e.inside);
          uncut = λ k l m. by_side k l m (side k at);
          block = b.block;
        };
      }
    where
      side : (k at : ℕ) → (k ≤ at) ⊎ (at < k)
      side k at = grind arith

      by_side : (k : ℕ) → start < k → k < end → (k ≤ at) ⊎ (at < k) → is_counted c n k ≡ false
      by_side k l m (inl h) = s.last k l h
      by_side k l m (inr h) = e.first k h m

  -- ---- each point of a block has a vertex

  some_end : (at past left k : ℕ) → at < k → k + left ≡ past → ((j : ℕ) → at < j → j < k → is_counted c n j ≡ false) → (o : ℕ) × IsEnd c n at past o
  some_end at past zero k above e none = (past, record { above = omega arith; inside = omega arith; ends = inl refl; first = λ j a b. none j a (omega arith) })
  some_end at past (suc left) k above e none = by (is_counted c n k) refl (some_end at past left (k + 1))
    where
      past_one : is_counted c n k ≡ false → (j : ℕ) → at < j → j < k + 1 → (j < k) ⊎ (j ≡ k) → is_counted c n j ≡ false
      past_one f j a b (inl l) = none j a l
      past_one f j a b (inr same) = ap (is_counted c n) same ∙ f

      side : (j : ℕ) → j < k + 1 → (j < k) ⊎ (j ≡ k)
      side j b = grind arith

      by : (t : Bool) → is_counted c n k ≡ t → (at < k + 1 → k + 1 + left ≡ past → ((j : ℕ) → at < j → j < k + 1 → is_counted c n j ≡ false) → (o : ℕ) × IsEnd c n at past o) → (o : ℕ) × IsEnd c n at past o
      by true f rest = (k, record { above = above; inside = omega arith; ends = inr f; first = none })
      by false f rest = rest (omega arith) (omega arith) (λ j a b. past_one f j a b (side j b))

  some_start : (at first more : ℕ) → first + more ≤ at → ((j : ℕ) → first + more < j → j ≤ at → is_counted c n j ≡ false) → (o : ℕ) × IsStart c n at first o
  some_start at first zero low none = (first, record { inside = omega arith; low = omega arith; begins = inl refl; last = λ j a b. none j (omega arith) b })
  some_start at first (suc more) low none = by (is_counted c n (first + suc more)) refl (some_start at first more)
    where
      past_one : is_counted c n (first + suc more) ≡ false → (j : ℕ) → j ≤ at → (first + suc more < j) ⊎ (j ≡ first + suc more) → is_counted c n j ≡ false
      past_one f j b (inl l) = none j l b
      past_one f j b (inr same) = ap (is_counted c n) same ∙ f

      side : (j : ℕ) → first + more < j → (first + suc more < j) ⊎ (j ≡ first + suc more)
      side j a = grind arith

      by : (t : Bool) → is_counted c n (first + suc more) ≡ t →
          (first + more ≤ at → ((j : ℕ) → first + more < j → j ≤ at → is_counted c n j ≡ false) → (o : ℕ) × IsStart c n at first o) → (o : ℕ) × IsStart c n at first o
      by true f rest = (first + suc more, record { inside = omega arith; low = low; begins = inr f; last = none })
      by false f rest = rest (omega arith) (λ j a b. past_one f j b (side j a))

  pub vertex_from : (at f p start : ℕ) → InBlock c n at f p → IsStart c n at f start → (end : ℕ) × IsVertexAt c n at start end
  vertex_from at f p start b s =
      let upto = b.upto in
      let e = some_end at p (p - (at + 1)) (at + 1) (omega arith) (omega arith) (λ j a b. absurd (omega arith)) in
      (e.0, vertex_between at f p start e.0 b s e.1)

  pub vertex_upto : (at f p end : ℕ) → InBlock c n at f p → IsEnd c n at p end → (start : ℕ) × IsVertexAt c n at start end
  vertex_upto at f p end b e =
      let from = b.from in
      let s = some_start at f (at - f) (omega arith) (λ j a b. absurd (omega arith)) in
      (s.0, vertex_between at f p s.0 end b s.1 e)

  pub first_of_next : (at f p end : ℕ) → IsNextBlock c n at f p → IsEnd c n f p end → IsFirstOfNext c n at f end
  first_of_next at f p end b e = record {
    above = b.above;
    past = p;
    run = record { nonempty = e.above; begins = inl refl; ends = e.ends; inside = (omega arith, e.inside); uncut = λ k l m. e.first k l m; block = b.block };
    least = b.least;
  }
