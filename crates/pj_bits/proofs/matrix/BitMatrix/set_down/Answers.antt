use Rattle.std.proofs.Common.{◌≡◌, ◌≢◌, ℕ, ◌+◌, ◌^◌, ◌<◌, Bool, true, false, nat_eq, refl, sym, ◌∙◌, inl, inr, arith}
use Rattle.std.specs.Prelude.{◌||◌}
use Rattle.std.specs.Int.{bit_at, w64, trailing_zeros}
use Rattle.std.proofs.lemmas.Bool.{cases_eq}
use Rattle.pj_bits.specs.Matrix.{bit}
use Rattle.pj_bits.proofs.LowBits.{without_lowest, lowest_below, lowest_was_set, other_stays, less_without_lowest}
use Rattle.pj_bits.proofs.matrix.BitMatrix.set_down.Goals as goal
use Rattle.pj_bits.proofs.matrix.BitMatrix.set_down.Goals.{then-lowest-size, else-lowest-size}

pub loop-left-smaller : goal.loop-left-smaller
loop-left-smaller c = less_without_lowest c.loop-left.left (omega (arith, c.loop-left.auto.left-fits)) c.loop-left-test.true

-- the bits at a place of the matrix, before and after the step
step_here : (left bits j : ℕ) (old now start : Bool) → left < 2 ^ 64 → left ≢ 0 → j < 64 → (j ≡ trailing_zeros w64 left → now ≡ true) → (j ≢ trailing_zeros w64 left → now ≡ old) →
    (old || nat_eq (bit_at left j) 1) ≡ (start || nat_eq (bit_at bits j) 1) → (now || nat_eq (bit_at (without_lowest left) j) 1) ≡ (start || nat_eq (bit_at bits j) 1)
step_here left bits j old now start fits some below is_set is_kept was = elim (cases_eq j (trailing_zeros w64 left)) [
  | inl e ↦ (let k : now ≡ true = is_set e in rw k (sym (all_true old (nat_eq (bit_at left j) 1) (rw e (lowest_was_set left fits some))) ∙ was))
  | inr n ↦ (let k : now ≡ old = is_kept n in let f : bit_at (without_lowest left) j ≡ bit_at left j = other_stays left fits some j below n in rw (k, f) was)
]
  where
    all_true : (a b : Bool) → b ≡ true → (a || b) ≡ true
    all_true true b e = refl
    all_true false b e = e

pub loop-left-preserved : goal.loop-left-preserved
loop-left-preserved c = elim c.if-lowest-size.branch [
  | then-lowest-size w ↦ rw w.self-is (record {
    size = w.set.ensures.size ∙ c.loop-left.invariant.size;
    here = λ j h b. step_here c.loop-left.left c.args.bits j (bit c.loop-left.self (c.args.first + j) c.args.column) (bit w.set.new.self (c.args.first + j) c.args.column) (bit c.args.self.now (c.args.first + j) c.args.column)
        (omega (arith, c.loop-left.auto.left-fits)) c.loop-left-test.true h
        (λ e. rw e w.set.ensures.here)
        (λ n. w.set.ensures.others (c.args.first + j) c.args.column (inl (λ e. n (omega arith))))
        (c.loop-left.invariant.here j h b);
    others = λ r k o.
        let low = lowest_below c.loop-left.left (omega (arith, c.loop-left.auto.left-fits)) c.loop-left-test.true in
        let inside = w.if-lowest-size.true in
        let size = c.size-size.ensures.size in
        w.set.ensures.others r k (elim o [
          | inl n ↦ inr n
          | inr p ↦ inl (λ e. elim p [ inl q ↦ omega arith | inr q ↦ elim q [ inl far ↦ omega arith | inr past ↦ omega arith ] ])
        ]) ∙ c.loop-left.invariant.others r k o;
  })
  | else-lowest-size w ↦ rw w.self-is (record {
    size = c.loop-left.invariant.size;
    here = λ j h b. step_here c.loop-left.left c.args.bits j (bit c.loop-left.self (c.args.first + j) c.args.column) (bit c.loop-left.self (c.args.first + j) c.args.column) (bit c.args.self.now (c.args.first + j) c.args.column)
        (omega (arith, c.loop-left.auto.left-fits)) c.loop-left-test.true h
        (λ e. absurd (omega (arith, w.if-lowest-size.false, c.size-size.ensures.size)))
        (λ n. refl)
        (c.loop-left.invariant.here j h b);
    others = c.loop-left.invariant.others;
  })
]
