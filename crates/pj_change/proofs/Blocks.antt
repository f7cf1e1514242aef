-- The positions of a block are bytes of it.
use Rattle.std.proofs.Common.{◌≡◌, ℕ, zero, suc, ◌+◌, ◌-◌, ◌<◌, ◌≤◌, List, [], ◌∷◌, length, refl, sym, ◌∙◌, ap, arith, Bool, true, false}
use Rattle.std.specs.Prelude.{Some, nat_lt}
use Rattle.std.proofs.lemmas.Bool.Decides.{nat_tests}
use Rattle.std.proofs.lemmas.Option.{same_Some}
use Rattle.pj_change.specs.declared.hunk.Hunk.{Hunk}
use Rattle.pj_change.specs.declared.hunk.Hunk.TheVariants.{File, Dir, NameOf, Insert, Order, Delete, Revive}
use Rattle.pj_change.specs.declared.kind.Kind.TheVariants.{Text}
use Rattle.pj_change.specs.Rules.{position_count}
use Rattle.pj_change.specs.Positions.{kind_in, kind_from, kind_at}
use Rattle.pj_change.proofs.KindLemmas.{kind_cons_here, kind_cons_on}

-- the block that this text is of, among hunks whose first position is first
record IsBlockFrom (k first : ℕ) (hs : List Hunk) (at hunk start past : ℕ) : Type 0 where
  from : first ≤ start
  low : start ≤ first + at
  high : first + at < past
  all : (other : ℕ) → start ≤ first + other → first + other < past → kind_from k first hs other ≡ Some (Text hunk start past)

-- a hunk that takes positions and has text there is an insertion
first_block : (k first at hunk start past : ℕ) (g : Hunk) (hs : List Hunk) → nat_lt at (position_count g) ≡ true → kind_in k first g at ≡ Text hunk start past →
    IsBlockFrom k first (g ∷ hs) at hunk start past
first_block k first zero hunk start past (File parent name exec) hs l e = absurd (cc)
first_block k first (suc at) hunk start past (File parent name exec) hs l e = absurd (cc)
first_block k first zero hunk start past (Dir parent name) hs l e = absurd (cc)
first_block k first (suc at) hunk start past (Dir parent name) hs l e = absurd (cc)
first_block k first at hunk start past (NameOf parent child name exec) hs l e = absurd (cc)
first_block k first at hunk start past (Order file source target) hs l e = absurd (let h : nat_lt at 0 ≡ true = l in grind (arith, nat_tests))
first_block k first at hunk start past (Delete owner s t by) hs l e = absurd (let h : nat_lt at 0 ≡ true = l in grind (arith, nat_tests))
first_block k first at hunk start past (Revive owner s t by) hs l e = absurd (let h : nat_lt at 0 ≡ true = l in grind (arith, nat_tests))
first_block k first at hunk start past (Insert file ups downs bytes) hs l e =
    let s : first ≡ start = cc in
    let t : first + length bytes ≡ past = cc in
    let low : at < length bytes = grind (arith, nat_tests) in
    record {
      from = omega arith;
      low = omega arith;
      high = omega arith;
      all = λ other a b. (
          let h : nat_lt other (length bytes) ≡ true = (let c : other < length bytes = omega arith in grind (arith, nat_tests)) in
          kind_cons_here k first other (Insert file ups downs bytes) hs h ∙ ap Some e);
    }

later_block : (k first at hunk start past : ℕ) (g : Hunk) (hs : List Hunk) → nat_lt at (position_count g) ≡ false →
    IsBlockFrom (k + 1) (first + position_count g) hs (at - position_count g) hunk start past → IsBlockFrom k first (g ∷ hs) at hunk start past
later_block k first at hunk start past g hs l b =
    let n = b.from in
    let low = b.low in
    let high = b.high in
    let behind : position_count g ≤ at = grind (arith, nat_tests) in
    record {
      from = omega arith;
      low = omega arith;
      high = omega arith;
      all = λ other p q. (
          let h : nat_lt other (position_count g) ≡ false = (let c : position_count g ≤ other = omega arith in grind (arith, nat_tests)) in
          kind_cons_on k first other g hs h ∙ b.all (other - position_count g) (omega arith) (omega arith));
    }

no_hunk : (k first at hunk start past : ℕ) → kind_from k first [] at ≡ Some (Text hunk start past) → ⊥
unfolding kind_from
no_hunk k first at hunk start past e = cc

block_from : (k first : ℕ) (hs : List Hunk) (at hunk start past : ℕ) → kind_from k first hs at ≡ Some (Text hunk start past) → IsBlockFrom k first hs at hunk start past
block_from k first [] at hunk start past e = absurd (no_hunk k first at hunk start past e)
block_from k first (g ∷ hs) at hunk start past e = go (block_from (k + 1) (first + position_count g) hs (at - position_count g) hunk start past) (nat_lt at (position_count g)) refl
  where
    go : (kind_from (k + 1) (first + position_count g) hs (at - position_count g) ≡ Some (Text hunk start past) → IsBlockFrom (k + 1) (first + position_count g) hs (at - position_count g) hunk start past) →
        (b : Bool) → nat_lt at (position_count g) ≡ b → IsBlockFrom k first (g ∷ hs) at hunk start past
    go rest true h = first_block k first at hunk start past g hs h (same_Some _ _ (sym (kind_cons_here k first at g hs h) ∙ e))
    go rest false h = later_block k first at hunk start past g hs h (rest (sym (kind_cons_on k first at g hs h) ∙ e))

-- each position of a block stands in it
pub block_at : (hs : List Hunk) (at hunk start past : ℕ) → kind_at hs at ≡ Some (Text hunk start past) → (other : ℕ) → start ≤ other → other < past → kind_at hs other ≡ Some (Text hunk start past)
block_at hs at hunk start past e other l h = (block_from 0 0 hs at hunk start past e).all other (omega arith) (omega arith)

pub block_starts : (hs : List Hunk) (at hunk start past : ℕ) → kind_at hs at ≡ Some (Text hunk start past) → start ≤ at
block_starts hs at hunk start past e = (let l = (block_from 0 0 hs at hunk start past e).low in omega arith)

-- a byte of a block stands before the block's end
pub block_ends : (hs : List Hunk) (at hunk start past : ℕ) → kind_at hs at ≡ Some (Text hunk start past) → at < past
block_ends hs at hunk start past e = (let b = block_from 0 0 hs at hunk start past e in let high = b.high in omega arith)
