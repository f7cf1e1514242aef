-- What stands at a position of a change, and the hunk that it is in.
use Rattle.std.proofs.Common.{◌≡◌, ℕ, suc, ◌+◌, ◌-◌, ◌<◌, Bool, true, false, List, [], ◌∷◌, take, refl, subst, arith, nat_lt}
use Rattle.std.specs.Prelude.{Some, slice_get, sum_by}
use Rattle.std.proofs.lemmas.Bool.{ltb-true, ltb-false}
use Rattle.std.proofs.lemmas.List.Sums.{sum_by-cons}
use Rattle.pj_change.specs.declared.hunk.Hunk.{Hunk}
use Rattle.pj_change.specs.declared.kind.Kind.{Kind}
use Rattle.pj_change.specs.Rules.{position_count}
use Rattle.pj_change.specs.Positions.{kind_in, kind_from, kind_at}

-- it stands at a distance into a hunk, where hunks are counted from k and positions from first
pub record StandsIn (k first : ℕ) (hs : List Hunk) (at : ℕ) (kind : Kind) : Type 0 where
  pub number : ℕ
  pub hunk : Hunk
  pub within : ℕ
  pub there : slice_get hs number ≡ Some hunk
  pub at_is : at ≡ sum_by position_count (take number hs) + within
  pub low : within < position_count hunk
  pub kind_is : kind_in (k + number) (first + sum_by position_count (take number hs)) hunk within ≡ kind

pub stands_from : (k first : ℕ) (hs : List Hunk) (at : ℕ) (kind : Kind) → kind_from k first hs at ≡ Some kind → StandsIn k first hs at kind
unfolding kind_from
stands_from k first [] at kind e = absurd (cc)
stands_from k first (h ∷ hs) at kind e = go (stands_from (k + 1) (first + position_count h) hs (at - position_count h) kind) (nat_lt at (position_count h)) refl
  where
    go : (kind_from (k + 1) (first + position_count h) hs (at - position_count h) ≡ Some kind → StandsIn (k + 1) (first + position_count h) hs (at - position_count h) kind) →
        (b : Bool) → nat_lt at (position_count h) ≡ b → StandsIn k first (h ∷ hs) at kind
    go rest true l =
        let here : Some (kind_in k first h at) ≡ Some kind = rw l at e in
        let is : kind_in k first h at ≡ kind = cc in
        record {
          number = 0;
          hunk = h;
          within = at;
          there = refl;
          at_is = omega arith;
          low = ltb-true at (position_count h) l;
          kind_is = subst (λ n. kind_in n (first + 0) h at ≡ kind) (omega arith) (subst (λ n. kind_in k n h at ≡ kind) (omega arith) is);
        }
    go rest false l =
        let r = rest (rw l at e) in
        let past = ltb-false at (position_count h) l in
        let more = sum_by-cons position_count h (take r.number hs) in
        let at_is = r.at_is in
        record {
          number = suc r.number;
          hunk = r.hunk;
          within = r.within;
          there = r.there;
          at_is = omega (arith, more, at_is, past);
          low = r.low;
          kind_is = subst (λ n. kind_in n (first + sum_by position_count (h ∷ take r.number hs)) r.hunk r.within ≡ kind) (omega arith)
              (subst (λ n. kind_in (k + 1 + r.number) n r.hunk r.within ≡ kind) (omega (arith, more)) r.kind_is);
        }

pub stands : (hs : List Hunk) (at : ℕ) (kind : Kind) → kind_at hs at ≡ Some kind → StandsIn 0 0 hs at kind
stands hs at kind e = stands_from 0 0 hs at kind e
