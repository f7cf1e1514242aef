-- Entries to a range of positions, where each step goes to the end of the text that has a position, or else to the next one.
use Rattle.std.proofs.Common.{◌≡◌, ℕ, ◌+◌, ◌<◌, ◌≤◌, List, [], ◌∷◌, ◌++◌, true, refl, subst, sym, inl, inr, arith}
use Rattle.std.specs.Prelude.{◌⊎◌, ◌&&◌, Contains, nat_lt, nat_le}
use Rattle.std.proofs.lemmas.Bool.{and_parts, cases_lt}
use Rattle.std.proofs.lemmas.Bool.Decides.{nat_tests}
use Rattle.pj_name.specs.declared.name.Name.{Name}
use Rattle.pj_name.specs.Name.{same_name}
use Rattle.pj_change.specs.declared.point.Point.{Point}
use Rattle.pj_change.specs.declared.change.Record.{Record}
use Rattle.pj_change.specs.Covers.{is_within}
use Rattle.pj_change.proofs.EqualNames.{same_name_is, name_itself}
use Rattle.pj_change.proofs.LawfulLists.{first_part, second_part}
use Rattle.pj_change.proofs.Members.{first_member, moved}
use Rattle.pj_cuts.specs.Counted.{at_offset}
use Rattle.pj_outline.specs.Ends.{text_vertex}
use Rattle.pj_view.specs.Added.{HasEntries, HasEntry, itself, ahead}
use Rattle.pj_view.specs.Ends.{IsTextFrom}
use Rattle.pj_view.proofs.Additions.{none_added, fewer_added, entry_stays}

-- ---- ranges

-- the point is one of these positions of the change
pub record IsIn (n : Name) (start end : ℕ) (p : Point) : Type 0 where
  pub change : n ≡ p.change
  pub from : start ≤ p.offset
  pub upto : p.offset < end

pub within_in : (n : Name) (start end : ℕ) (p : Point) → is_within n start end p ≡ true → IsIn n start end p
within_in n start end p e =
    let a = and_parts (same_name n p.change && nat_le start p.offset) (nat_lt p.offset end) e in
    let b = and_parts (same_name n p.change) (nat_le start p.offset) a.0 in
    let low = b.1 in
    let high = a.1 in
    record { change = same_name_is n p.change b.0; from = from low; upto = upto high }
  where
    from : nat_le start p.offset ≡ true → start ≤ p.offset
    from h = grind (arith, nat_tests)

    upto : nat_lt p.offset end ≡ true → p.offset < end
    upto h = grind (arith, nat_tests)

pub in_within : (n : Name) (start end : ℕ) (p : Point) → IsIn n start end p → is_within n start end p ≡ true
in_within n start end p i =
    let a : same_name n p.change ≡ true = subst (λ m. same_name n m ≡ true) i.change (name_itself n) in
    let b : nat_le start p.offset ≡ true = from i.from in
    let c : nat_lt p.offset end ≡ true = upto i.upto in
    rw (a, b, c) refl
  where
    from : start ≤ p.offset → nat_le start p.offset ≡ true
    from h = grind (arith, nat_tests)

    upto : p.offset < end → nat_lt p.offset end ≡ true
    upto h = grind (arith, nat_tests)

-- one of them
abbrev pub Within : Name → ℕ → ℕ → Point → Type 0
Within n start end p = is_within n start end p ≡ true

module _ (S : List Record) (n : Name) (start : ℕ) where
  -- nothing yet
  pub nothing_walked : (ps : List Point) → HasEntries S ps ps (Within n start start)
  nothing_walked ps = none_added ps (Within n start start) (λ p b. (let i = within_in n start start p b in let low = i.from in let high = i.upto in omega (arith, low, high)))

  module _ (old now later : List Point) (at : ℕ) (was : HasEntries S old now (Within n start at)) (pushed : later ≡ now ++ at_offset n at ∷ []) where
    kept : (p : Point) → Contains now p → Contains later p
    kept p m = moved p (sym pushed) (first_part now (at_offset n at ∷ []) p m)

    there : Contains later (at_offset n at)
    there = moved (at_offset n at) (sym pushed) (second_part now (at_offset n at ∷ []) (at_offset n at) (first_member (at_offset n at) []))

    step : (past : ℕ) → ((p : Point) → n ≡ p.change → at ≤ p.offset → p.offset < past → HasEntry S later p) → HasEntries S old later (Within n start past)
    step past behind = record { kept = λ p m. kept p (was.kept p m); added = λ p b. parts p (within_in n start past p b) (cases_lt p.offset at) }
      where
        parts : (p : Point) → IsIn n start past p → (p.offset < at) ⊎ (at ≤ p.offset) → HasEntry S later p
        parts p i (inl l) = entry_stays S now later kept p (was.added p (in_within n start at p (record { change = i.change; from = i.from; upto = l })))
        parts p i (inr l) = behind p i.change l i.upto

    -- to the end of a text
    pub text_walked : (first past : ℕ) → IsTextFrom S (at_offset n at) first past → HasEntries S old later (Within n start past)
    text_walked first past t = step past (λ p change low high.
        (let from = t.from in
        let upto = t.upto in
        ahead (text_vertex S n first past) t.vertex (record { change = change; low = omega (arith, from, low); high = high }) (at_offset n at) there (record { change = refl; low = from; high = upto }) low))

    -- by one position
    pub point_walked : HasEntries S old later (Within n start (at + 1))
    point_walked = step (at + 1) (λ p change low high.
        (let same : at ≡ p.offset = omega (arith, low, high) in
        let is : at_offset n at ≡ p = λ i. record { change = change i; offset = same i } in
        itself (subst (Contains later) is there)))

  -- up to the end of the range, or past it
  pub all_walked : (old later : List Point) (at end : ℕ) → end ≤ at → HasEntries S old later (Within n start at) → HasEntries S old later (Within n start end)
  all_walked old later at end past = fewer_added old later (Within n start at) (Within n start end)
      (λ p b. (let i = within_in n start end p b in let high = i.upto in in_within n start at p (record { change = i.change; from = i.from; upto = omega (arith, high, past) })))
