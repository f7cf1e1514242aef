-- How the images over a run of calls follow from those over each call.
use Rattle.std.proofs.Common.{inl, inr, ⊎_elim, ℕ, List, arith}
use Rattle.pj_disk.specs.Moments.{Elapses, LeavesOnly}

module _ {D : Type 0} (moment : D → ℕ) (left_since : D → ℕ → List ℕ → Type 0) where
  -- one call of a disk, of whose images of before and of now each has P
  pub one_call : (old new : D) (P may_leave : List ℕ → Type 0)
      → ((c : List ℕ) → left_since old (moment old) c → P c)
      → Elapses (moment old) (moment new) (left_since old) (left_since new) may_leave
      → ((c : List ℕ) → may_leave c → P c)
      → LeavesOnly moment left_since old new P
  one_call old new P may_leave before time now = record {
    later = time.later;
    each = λ c left. ⊎_elim (before c) (now c) (time.nothing_else (moment old) c (omega arith) left);
    before = λ t c le left. ⊎_elim (λ was. inl was) (λ is. inr (now c is)) (time.nothing_else t c le left);
  }

  -- one run after another
  pub and_then : (old mid new : D) (P Q : List ℕ → Type 0)
      → LeavesOnly moment left_since old mid P → LeavesOnly moment left_since mid new Q → ((c : List ℕ) → Q c → P c)
      → LeavesOnly moment left_since old new P
  and_then old mid new P Q first second within = record {
    later = omega (arith, first.later, second.later);
    each = λ c left. ⊎_elim (first.each c) (within c) (second.before (moment old) c first.later left);
    before = λ t c le left. ⊎_elim (first.before t c le) (λ is. inr (within c is)) (second.before t c (omega (arith, le, first.later)) left);
  }

  -- the same run, with a property that follows
  pub weaker : (old new : D) (P Q : List ℕ → Type 0)
      → LeavesOnly moment left_since old new Q → ((c : List ℕ) → Q c → P c) → LeavesOnly moment left_since old new P
  weaker old new P Q run within = record {
    later = run.later;
    each = λ c left. within c (run.each c left);
    before = λ t c le left. ⊎_elim (λ was. inl was) (λ is. inr (within c is)) (run.before t c le left);
  }
