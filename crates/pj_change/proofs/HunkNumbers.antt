-- What stands in a change was made by one of its hunks.
use Rattle.std.proofs.Common.{◌≡◌, ℕ, zero, suc, ◌+◌, ◌-◌, ◌<◌, ◌≤◌, Bool, true, false, List, [], ◌∷◌, length, nat_lt, get_or, subst, refl, sym, ap, ◌∙◌, arith}
use Rattle.std.specs.Prelude.{Some, slice_get, option_and_then}
use Rattle.std.proofs.lemmas.Option.{slice_get_read}
use Rattle.pj_change.specs.declared.hunk.Hunk.{Hunk}
use Rattle.pj_change.specs.declared.hunk.Hunk.TheVariants.{File, Dir, NameOf, Insert, Order, Delete, Revive}
use Rattle.pj_change.specs.declared.kind.Kind.{Kind}
use Rattle.pj_change.specs.declared.kind.Kind.TheVariants.{Text}
use Rattle.pj_change.specs.declared.change.Record.{Record}
use Rattle.pj_change.specs.Rules.{position_count}
use Rattle.pj_change.specs.Makers.{maker}
use Rattle.pj_change.specs.Positions.{kind_in, kind_from, kind_at, file_of}
use Rattle.pj_change.specs.Context.{file_by, file_at}

-- what a hunk has at a distance, it made
maker_in : (k first : ℕ) (h : Hunk) (at : ℕ) → maker (kind_in k first h at) ≡ k
maker_in k first (File parent name exec) zero = refl
maker_in k first (File parent name exec) (suc at) = refl
maker_in k first (Dir parent name) zero = refl
maker_in k first (Dir parent name) (suc at) = refl
maker_in k first (NameOf parent child name exec) at = refl
maker_in k first (Insert file ups downs bytes) at = refl
maker_in k first (Order file source target) at = refl
maker_in k first (Delete owner start end by) at = refl
maker_in k first (Revive owner start end by) at = refl

-- the number is one of those of hunks that are counted from k
record IsCounted (k : ℕ) (hs : List Hunk) (number : ℕ) : Type 0 where
  from : k ≤ number
  below : number < k + length hs

maker_from : (k first : ℕ) (hs : List Hunk) (at : ℕ) (kind : Kind) → kind_from k first hs at ≡ Some kind → IsCounted k hs (maker kind)
unfolding kind_from
maker_from k first [] at kind e = absurd (cc)
maker_from k first (h ∷ hs) at kind e = go (maker_from (k + 1) (first + position_count h) hs (at - position_count h) kind) (nat_lt at (position_count h)) refl
  where
    go : (kind_from (k + 1) (first + position_count h) hs (at - position_count h) ≡ Some kind → IsCounted (k + 1) hs (maker kind)) →
        (b : Bool) → nat_lt at (position_count h) ≡ b → IsCounted k (h ∷ hs) (maker kind)
    go rest true l =
        let here : Some (kind_in k first h at) ≡ Some kind = rw l at e in
        let is : kind_in k first h at ≡ kind = cc in
        let number : maker kind ≡ k = sym (ap maker is) ∙ maker_in k first h at in
        record { from = omega arith; below = omega arith }
    go rest false l =
        let later = rest (rw l at e) in
        let from = later.from in
        let below = later.below in
        record { from = omega arith; below = omega arith }

-- a hunk of the change made what stands at a position
pub maker_below : (hs : List Hunk) (at : ℕ) (kind : Kind) → kind_at hs at ≡ Some kind → maker kind < length hs
maker_below hs at kind e = (let h = (maker_from 0 0 hs at kind e).below in omega arith)

-- it is this hunk
pub maker_is : (hs : List Hunk) (at : ℕ) (kind : Kind) (hunks : List Hunk) (h : Hunk) → kind_at hs at ≡ Some kind → hunks ≡ hs → h ≡ get_or hunks (maker kind) h →
    slice_get hs (maker kind) ≡ Some h
maker_is hs at kind hunks h e same is = slice_get_read hs (length hs) (maker kind) h refl (maker_below hs at kind e) (subst (λ l. h ≡ get_or l (maker kind) h) same is)

-- the file of a byte is that of the insertion which made it
pub file_at_made : (r : Record) (offset hunk first past : ℕ) (h : Hunk) → kind_at r.change.hunks offset ≡ Some (Text hunk first past) → slice_get r.change.hunks hunk ≡ Some h → file_at r offset ≡ file_of r h
file_at_made r offset hunk first past h kind made = ap (file_by r) kind ∙ ap (option_and_then (file_of r)) made
