-- The steps of a change: hunk by hunk, and where the table says of its hunks what they say.
use Rattle.std.proofs.Common.{◌≡◌, ◌∙◌, sym, ap, subst, ℕ, zero, suc, ◌+◌, ◌≤◌, List, [], ◌∷◌, take, Option, Some, None, length, refl, arith}
use Rattle.std.specs.Prelude.{slice_get, sum_by, Contains}
use Rattle.std.proofs.lemmas.List.{length-map}
use Rattle.std.proofs.lemmas.List.Sums.{sum_by_more, sum_by-cons}
use Rattle.std.proofs.lemmas.Option.{slice_get_within, get_or_from_slice_get}
use Rattle.pj_change.specs.declared.hunk.Hunk.{Hunk}
use Rattle.pj_change.specs.declared.hunk.Hunk.TheVariants.{File, Dir, NameOf, Insert, Order, Delete, Revive}
use Rattle.pj_change.specs.declared.change.Record.{Record}
use Rattle.pj_change.specs.Lawful.{IsLawful}
use Rattle.pj_change.specs.Positions.{numbered}
use Rattle.pj_change.proofs.LawfulLists.{one_record}
use Rattle.pj_ranges.specs.declared.range.HunkAt.{HunkAt}
use Rattle.pj_states.specs.declared.deletion.Deletion.{Deletion}
use Rattle.pj_states.specs.Rows.{Rows, hunk_at, said_by}
use Rattle.pj_states.specs.Named.{by_count}
use Rattle.pj_states.specs.OfSets.{deletion_of, AreVersionsOf}
use Rattle.pj_states.specs.Given.{deletion_in, hunk_steps, SaysNoOther}
use Rattle.pj_states.proofs.SetChanges.{gone_by}

-- the steps of the first hunks, with one hunk more
pub steps_more : (hs : List Hunk) (i : ℕ) (h : Hunk) → slice_get hs i ≡ Some h → sum_by hunk_steps (take (i + 1) hs) ≡ sum_by hunk_steps (take i hs) + hunk_steps h
steps_more hs i h at =
    sum_by_more hunk_steps hs i h (slice_get_within hs i h at)
    ∙ ap (λ g. sum_by hunk_steps (take i hs) + hunk_steps g) (get_or_from_slice_get hs i h h at)

pub steps_within : (hs : List Hunk) (n : ℕ) → sum_by hunk_steps (take n hs) ≤ sum_by hunk_steps hs
steps_within [] zero = omega arith
steps_within [] (suc n) = omega arith
steps_within (h ∷ hs) zero = omega arith
steps_within (h ∷ hs) (suc n) = (let rest = steps_within hs n in let whole = sum_by-cons hunk_steps h hs in let part = sum_by-cons hunk_steps h (take n hs) in omega (arith, rest, whole, part))

-- those of a hunk that says this
pub said_steps : (r : Record) (h : Hunk) (d : Deletion) → deletion_of r h ≡ Some d → 2 + length d.by ≡ hunk_steps h
said_steps r (Delete owner start end by) d e =
    let names : length d.by ≡ length by = ap by_count (sym e) ∙ length-map by (numbered r) in
    omega (arith, names)
said_steps r (Revive owner start end by) d e =
    let names : length d.by ≡ length by = ap by_count (sym e) ∙ length-map by (numbered r) in
    omega (arith, names)
said_steps r (File parent name exec) d e = absurd (cc)
said_steps r (Dir parent name) d e = absurd (cc)
said_steps r (NameOf parent child name exec) d e = absurd (cc)
said_steps r (Insert file ups downs bytes) d e = absurd (cc)
said_steps r (Order file source target) d e = absurd (cc)

-- ---- taken away

-- where the table says no other, what it says by a hunk has no more names than the hunk
pub removed_steps : (r : Record) (rows : Rows) → SaysNoOther r rows → (number : ℕ) (h : Hunk) (x : Deletion) → slice_get r.change.hunks number ≡ Some h → deletion_of r h ≡ Some x →
    2 + by_count (said_by (hunk_at r.name number) rows) ≤ hunk_steps h
removed_steps r rows no_other number h x at is = by (said_by (hunk_at r.name number) rows) refl
  where
    by : (s : Option Deletion) → said_by (hunk_at r.name number) rows ≡ s → 2 + by_count (said_by (hunk_at r.name number) rows) ≤ hunk_steps h
    by None e = (let none : by_count (said_by (hunk_at r.name number) rows) ≡ 0 = ap by_count e in let steps = said_steps r h x is in omega (arith, none, steps))
    by (Some d) e =
        let said : deletion_of r h ≡ Some d = ap (deletion_in r) (sym at) ∙ no_other number d e in
        let some : by_count (said_by (hunk_at r.name number) rows) ≡ length d.by = ap by_count e in
        let steps = said_steps r h d said in
        omega (arith, some, steps)

-- with fewer hunks it says no other either
pub still_no_other : (r : Record) (given : HunkAt → Option Deletion) (was now : Rows) → ((k : HunkAt) → said_by k now ≡ gone_by (given k) (said_by k was)) → SaysNoOther r was → SaysNoOther r now
still_no_other r given was now less no_other number d e = no_other number d (left (given (hunk_at r.name number)) (said_by (hunk_at r.name number) was) (sym (less (hunk_at r.name number)) ∙ e))
  where
    left : (g s : Option Deletion) → gone_by g s ≡ Some d → s ≡ Some d
    left None s h = h
    left (Some x) s h = absurd (let c : None ≡ Some d = h in cc)

-- the table of a lawful list says what the hunks of its changes say
pub says_no_other : (S : List Record) (rows : Rows) → IsLawful S → AreVersionsOf S rows → (r : Record) → Contains S r → SaysNoOther r rows
says_no_other S rows lawful are r m number d e =
    let s = (are (hunk_at r.name number) d).0 e in
    let same : s.change ≡ r = one_record S lawful s.change r s.member m s.name in
    subst (λ (c : Record). deletion_in c (slice_get c.change.hunks number) ≡ Some d) same (ap (deletion_in s.change) s.there ∙ s.is)
