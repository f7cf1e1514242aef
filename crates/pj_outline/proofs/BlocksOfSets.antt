-- In the table of cuts of a set, the blocks are those that the insertions of its changes make.
use Rattle.std.proofs.Common.{◌≡◌, ◌∙◌, sym, ap, subst, refl, ℕ, zero, suc, ◌+◌, ◌-◌, ◌<◌, ◌≤◌, Bool, true, false, List, [], ◌∷◌, length, take, get_or, cond, nat_lt, nat_eq, arith, sum_by, inl, inr}
use Rattle.std.specs.Prelude.{Contains, ◌⊎◌, Some, slice_get}
use Rattle.std.proofs.lemmas.Bool.Decides.{nat_tests}
use Rattle.std.proofs.lemmas.List.Sums.{sum_by-cons}
use Rattle.std.proofs.lemmas.Option.{slice_get_within, get_or_from_slice_get, same_Some}
use Rattle.pj_name.specs.declared.name.Name.{Name}
use Rattle.pj_name.specs.Name.{same_name}
use Rattle.pj_change.specs.declared.point.Ref.{Ref}
use Rattle.pj_change.specs.declared.hunk.Hunk.{Hunk}
use Rattle.pj_change.specs.declared.hunk.Hunk.TheVariants.{File, Dir, NameOf, Insert, Order, Delete, Revive}
use Rattle.pj_change.specs.declared.kind.Kind.TheVariants.{Text}
use Rattle.pj_change.specs.declared.change.Record.{Record}
use Rattle.pj_change.specs.Rules.{position_count}
use Rattle.pj_change.specs.Positions.{place, kind_at, own_point}
use Rattle.pj_change.specs.Sets.{HaveDistinctNames}
use Rattle.pj_change.proofs.Members.{passes, member_at}
use Rattle.pj_change.proofs.Counting.{positive_sum}
use Rattle.pj_change.proofs.EqualNames.{same_name_is}
use Rattle.pj_change.proofs.PositionLemmas.{insertion_some, kind_at_into}
use Rattle.pj_cuts.specs.Counted.{Counted, at_offset, length_at, InBlock}
use Rattle.pj_cuts.specs.CutsOf.{block_here, block_from, block_length, block_by, AreCutsOf}
use Rattle.pj_cuts.proofs.BlockLengths.{block_first}
use Rattle.pj_cuts.proofs.SetTables.{blocks_where_held}

-- ---- the blocks of a change

-- an insertion makes the block from first up to past
pub record IsInsertion (hs : List Hunk) (first past : ℕ) : Type 0 where
  pub number : ℕ
  pub file : Ref
  pub ups : List Ref
  pub downs : List Ref
  pub bytes : List ℕ
  pub there : slice_get hs number ≡ Some (Insert file ups downs bytes)
  pub first_is : place hs number ≡ first
  pub past_is : first + length bytes ≡ past

-- the numbered hunk of a list, of which the first has the first position first, is an insertion that begins there
record BeginsAt (first : ℕ) (hs : List Hunk) (at : ℕ) : Type 0 where
  number : ℕ
  file : Ref
  ups : List Ref
  downs : List Ref
  bytes : List ℕ
  there : slice_get hs number ≡ Some (Insert file ups downs bytes)
  at_is : first + place hs number ≡ at

here_or_later : (a b : ℕ) → 0 < a + b → (0 < a) ⊎ (0 < b)
here_or_later zero b l = inr (omega (arith, l))
here_or_later (suc a) b l = inl (omega arith)

begins_first : (first : ℕ) (h : Hunk) (hs : List Hunk) (at : ℕ) → 0 < block_here h first at → BeginsAt first (h ∷ hs) at
begins_first first (File parent name exec) hs at l = absurd (omega (arith, l))
begins_first first (Dir parent name) hs at l = absurd (omega (arith, l))
begins_first first (NameOf parent child name exec) hs at l = absurd (omega (arith, l))
begins_first first (Insert file ups downs bytes) hs at l = record { number = 0; file = file; ups = ups; downs = downs; bytes = bytes; there = refl; at_is = (let same = go (nat_eq first at) refl in omega (arith, same)) }
  where
    go : (b : Bool) → nat_eq first at ≡ b → first ≡ at
    go true e = grind (arith, nat_tests)
    go false e = absurd (let none : 0 < cond false (length bytes) 0 = rw e at l in omega (arith, none))
begins_first first (Order file source target) hs at l = absurd (omega (arith, l))
begins_first first (Delete owner start end by) hs at l = absurd (omega (arith, l))
begins_first first (Revive owner start end by) hs at l = absurd (omega (arith, l))

begins_from : (first : ℕ) (hs : List Hunk) (at : ℕ) → 0 < block_from first hs at → BeginsAt first hs at
unfolding block_from
begins_from first [] at l = absurd (omega (arith, l))
begins_from first (h ∷ hs) at l = elim (here_or_later (block_here h first at) (block_from (first + position_count h) hs at) l) [
  | inl here ↦ begins_first first h hs at here
  | inr later ↦ (
      let b = begins_from (first + position_count h) hs at later in
      let whole : first + place (h ∷ hs) (suc b.number) ≡ first + position_count h + place hs b.number = omega (arith, sum_by-cons position_count h (take b.number hs)) in
      record { number = suc b.number; file = b.file; ups = b.ups; downs = b.downs; bytes = b.bytes; there = b.there; at_is = whole ∙ b.at_is })
]

here_before : (h : Hunk) (first at : ℕ) → first + position_count h ≤ at → block_here h first at ≡ 0
here_before (File parent name exec) first at l = refl
here_before (Dir parent name) first at l = refl
here_before (NameOf parent child name exec) first at l = refl
here_before (Insert file ups downs bytes) first at l = by (nat_eq first at) refl
  where
    by : (b : Bool) → nat_eq first at ≡ b → cond b (length bytes) 0 ≡ 0
    by true e = let same : first ≡ at = grind (arith, nat_tests) in omega (arith, same, l)
    by false e = refl
here_before (Order file source target) first at l = refl
here_before (Delete owner start end by) first at l = refl
here_before (Revive owner start end by) first at l = refl

-- no block of these hunks begins behind them
block_behind : (first : ℕ) (hs : List Hunk) (at : ℕ) → first + sum_by position_count hs ≤ at → block_from first hs at ≡ 0
unfolding block_from
block_behind first [] at l = refl
block_behind first (h ∷ hs) at l =
    let sum = sum_by-cons position_count h hs in
    omega (arith, here_before h first at (omega (arith, sum, l)), block_behind (first + position_count h) hs at (omega (arith, sum, l)))

-- the block of an insertion has the length of its bytes
block_size : (hs : List Hunk) (number : ℕ) (file : Ref) (ups downs : List Ref) (bytes : List ℕ) → slice_get hs number ≡ Some (Insert file ups downs bytes) → 0 < length bytes →
    block_from 0 hs (place hs number) ≡ length bytes
block_size hs number file ups downs bytes there some =
    let h : Hunk = Insert file ups downs bytes in
    let low = slice_get_within hs number h there in
    let is : h ≡ get_or hs number h = sym (get_or_from_slice_get hs number h h there) in
    let here : block_here h (place hs number) (place hs number) ≡ length bytes = let e : nat_eq (place hs number) (place hs number) ≡ true = grind (arith, nat_tests) in ap (λ b. cond b (length bytes) 0) e in
    let first = block_first hs number h low is (omega (arith, here, some)) some in
    let before = block_behind 0 (take number hs) (place hs number) (omega arith) in
    omega (arith, first, before, here)

made_at : (r : Record) (first : ℕ) (i : BeginsAt 0 r.change.hunks first) → place r.change.hunks i.number ≡ first → IsInsertion r.change.hunks first (first + block_length r first)
made_at r first i begin =
    let bytes = insertion_some r i.file i.ups i.downs i.bytes (member_at r.change.hunks i.number (Insert i.file i.ups i.downs i.bytes) i.there) in
    let size = block_size r.change.hunks i.number i.file i.ups i.downs i.bytes i.there (omega (arith, bytes)) in
    let length_is : block_length r first ≡ length i.bytes = subst (λ f. block_from 0 r.change.hunks f ≡ length i.bytes) begin size in
    record { number = i.number; file = i.file; ups = i.ups; downs = i.downs; bytes = i.bytes; there = i.there; first_is = begin; past_is = ap (λ n. first + n) (sym length_is) }

-- a position where a block of the change begins is the first one of an insertion
made_block : (r : Record) (first : ℕ) → 0 < block_length r first → IsInsertion r.change.hunks first (first + block_length r first)
made_block r first some =
    let i = begins_from 0 r.change.hunks first some in
    made_at r first i (let e = i.at_is in omega (arith, e))

-- ---- the blocks of a set

-- an insertion of a member of S makes the block from first up to past
pub record IsBlockOf (S : List Record) (n : Name) (first past : ℕ) : Type 0 where
  pub owner : Record
  pub member : Contains S owner
  pub named : owner.name ≡ n
  pub made : IsInsertion owner.change.hunks first past

module _ (S : List Record) (distinct : HaveDistinctNames S) (c : Counted) (is : AreCutsOf S c) where
  own_block : (r : Record) (n : Name) (first : ℕ) → nat_lt 0 (block_by r (at_offset n first)) ≡ true → (r.name ≡ n) × (0 < block_length r first)
  own_block r n first l = by (same_name r.name n) refl
    where
      by : (b : Bool) → same_name r.name n ≡ b → (r.name ≡ n) × (0 < block_length r first)
      by true e = (same_name_is r.name n e, (let k : nat_lt 0 (cond true (block_length r first) 0) ≡ true = rw e at l in grind (arith, nat_tests)))
      by false e = absurd (let k : nat_lt 0 0 ≡ true = rw e at l in cc)

  -- a block of the table at a first position of a member
  found_by : (owner : Record) → Contains S owner → (n : Name) (at first past : ℕ) → owner.name ≡ n → 0 < block_length owner first → InBlock c n at first past → IsBlockOf S n first past
  found_by owner m n at first past named some b =
      let made = made_block owner first some in
      let held = blocks_where_held S c is distinct owner m first in
      let same : length_at c (own_point owner first) ≡ length_at c (at_offset n first) = ap (λ name. length_at c (at_offset name first)) named in
      let end : first + block_length owner first ≡ past = let block = b.block in omega (arith, block, held, same) in
      record { owner = owner; member = m; named = named; made = subst (IsInsertion owner.change.hunks first) end made }

  -- a block of the table is one of the set
  pub block_found : (n : Name) (at first past : ℕ) → InBlock c n at first past → IsBlockOf S n first past
  block_found n at first past b =
      let p = at_offset n first in
      let some : 0 < sum_by (λ r. block_by r p) S = let from = b.from in let upto = b.upto in let block = b.block in omega (arith, from, upto, block, is.blocks p) in
      let k = passes (λ r. nat_lt 0 (block_by r p)) S (sym (positive_sum (λ r. block_by r p) (λ r. nat_lt 0 (block_by r p)) S (λ r. refl)) ∙ (grind (arith, nat_tests))) in
      let own = own_block k.it n first k.is in
      found_by k.it k.member n at first past own.0 own.1 b

  -- and a block of the set is one of the table
  pub block_there : (owner : Record) → Contains S owner → (first past at : ℕ) → IsInsertion owner.change.hunks first past → first ≤ at → at < past → InBlock c owner.name at first past
  block_there owner m first past at i from upto =
      let bytes = insertion_some owner i.file i.ups i.downs i.bytes (member_at owner.change.hunks i.number (Insert i.file i.ups i.downs i.bytes) i.there) in
      let size = block_size owner.change.hunks i.number i.file i.ups i.downs i.bytes i.there (omega (arith, bytes)) in
      let length_is : block_length owner first ≡ length i.bytes = subst (λ f. block_from 0 owner.change.hunks f ≡ length i.bytes) i.first_is size in
      record { from = from; upto = upto; block = (let past_is = i.past_is in omega (arith, past_is, length_is, blocks_where_held S c is distinct owner m first)) }

-- what stands at each position of a block
pub block_kind : (hs : List Hunk) (first past at : ℕ) → (i : IsInsertion hs first past) → first ≤ at → at < past → kind_at hs at ≡ Some (Text i.number first past)
block_kind hs first past at i from upto =
    let first_is = i.first_is in
    let past_is = i.past_is in
    let there = kind_at_into hs i.number (Insert i.file i.ups i.downs i.bytes) (at - first) i.there (omega (arith, from, upto, past_is)) in
    let position : place hs i.number + (at - first) ≡ at = omega (arith, first_is, from) in
    ap (kind_at hs) (sym position) ∙ there
    ∙ ap (λ f. Some (Text i.number f (f + length i.bytes))) first_is ∙ ap (λ q. Some (Text i.number first q)) past_is

-- two blocks of a change with a common position begin together
pub begin_together : (hs : List Hunk) (first past other end at : ℕ) → IsInsertion hs first past → IsInsertion hs other end → first ≤ at → at < past → other ≤ at → at < end → first ≡ other
begin_together hs first past other end at i j from upto low high =
    let same = same_Some (Text i.number first past) (Text j.number other end) (sym (block_kind hs first past at i from upto) ∙ block_kind hs other end at j low high) in
    cc
