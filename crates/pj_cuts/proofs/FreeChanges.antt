-- A change has no vertex exactly where no block has a position of it.
use Rattle.std.proofs.Common.{◌≡◌, refl, ℕ, ◌↔◌, inl, Bool, true, false, not, Option, Some, None, MatchOption, arith}
use Rattle.std.specs.Prelude.{IsTrue, is_some}
use Rattle.pj_name.specs.declared.name.Name.{Name}
use Rattle.pj_cuts.specs.Counted.{Counted, InBlock, InNoBlock}
use Rattle.pj_cuts.specs.CountedVertices.{IsNextVertex, IsPastAll}

module _ (c : Counted) (n : Name) where
  -- a block would begin a vertex
  none_begins : IsPastAll c n 0 → (at : ℕ) → InNoBlock c n at
  none_begins none at first past b =
      let here : InBlock c n first first past = record { from = omega arith; upto = omega (arith, b.from, b.upto); block = b.block } in
      none first (omega arith) (record { first = first; past = past; block = here; begins = inl refl })

  -- a vertex lies in a block
  vertex_in_block : (start end : ℕ) → IsNextVertex c n 0 start end → ((at : ℕ) → InNoBlock c n at) → ⊥
  vertex_in_block start end v free =
      free start v.first v.past (record { from = v.run.inside.0; upto = omega (arith, v.run.nonempty, v.run.inside.1); block = v.run.block })

  pub free_of_none : (r : Option (ℕ × ℕ)) → MatchOption r (IsPastAll c n 0) (λ v. IsNextVertex c n 0 v.0 v.1) → (b : Bool) → is_some r ≡ not b →
      IsTrue b ↔ ((at : ℕ) → InNoBlock c n at)
  free_of_none None m true e = (λ is. none_begins m, λ free. refl)
  free_of_none None m false e = absurd (cc)
  free_of_none (Some v) m true e = absurd (cc)
  free_of_none (Some v) m false e = (λ is. absurd (cc), λ free. absurd (vertex_in_block v.0 v.1 m free))
