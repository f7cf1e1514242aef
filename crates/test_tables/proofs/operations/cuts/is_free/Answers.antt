use Rattle.std.proofs.Common.{◌≡◌, ℕ, ◌+◌, ◌<◌, ◌⊎◌, inl, inr, Option, Some, None, false, arith, subst, sym, ◌∙◌}
use Rattle.std.specs.Prelude.{is_some, MatchOption}
use Rattle.pj_change.specs.declared.point.Point.{Point}
use Rattle.pj_cuts.specs.Counted.{Counted, InBlock, InNoBlock}
use Rattle.test_tables.proofs.operations.cuts.is_free.Goals as goal

none_here : (c : Counted) (p : Point) (offset : ℕ) (r : Option (ℕ × ℕ)) → MatchOption r (InNoBlock c p.change offset) (λ b. InBlock c p.change offset b.0 b.1) → is_some r ≡ false → InNoBlock c p.change offset
none_here c p offset None m e = m
none_here c p offset (Some b) m e = absurd (cc)

last_or_before : (at offset : ℕ) → at < offset + 1 → (at < offset) ⊎ (offset ≡ at)
last_or_before at offset low = grind arith

pub loop-offset-preserved : goal.loop-offset-preserved
loop-offset-preserved c = λ at from upto.
    let here = none_here c.args.cuts.now c.args.first c.loop-offset.offset c.block_of.result c.block_of.ensures (sym c.is_some.ensures ∙ c.if-is_some.false) in
    elim (last_or_before at c.loop-offset.offset upto) [
      | inl before ↦ c.loop-offset.invariant at from before
      | inr same ↦ subst (λ o. InNoBlock c.args.cuts.now c.args.first.change o) same here
    ]

pub returns : goal.returns
returns c = λ is at from upto. c.loop-offset.invariant at from (omega arith)
