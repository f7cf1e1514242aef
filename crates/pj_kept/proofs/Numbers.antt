-- The journal of a repository all of whose passes are listed.
use Rattle.std.proofs.Common.{◌≡◌, ◌∙◌, ℕ, zero, suc, ◌<◌, List, [], ◌∷◌, length, map, get_or, ap, arith}
use Rattle.std.specs.Prelude.{Contains}
use Rattle.std.proofs.lemmas.List.{get_or-map, length-map}
use Rattle.std.proofs.lemmas.List.Elements.{All-head, All-tail}
use mathlib.Core.Logic.{dite}
use native.Mathlib.Decide.{dec_le}
use Rattle.pj_machine.specs.declared.journal.Entry.{Entry}
use Rattle.pj_machine.specs.Call.{PassView, entries_of, own}
use Rattle.pj_repo.specs.IsJournalOf.{HasOwn, IsJournalOf}
use Rattle.pj_load.specs.Seats.{AreNumbered}
use Rattle.pj_load.proofs.SeatRows.{element}
use Rattle.pj_kept.specs.Journals.{IsOfOne, IsOfTwo}

-- the passes have the numbers from 0 on
pub numbered_one : (z f : PassView) → z.number ≡ 0 → f.number ≡ 1 → AreNumbered (z ∷ f ∷ [])
numbered_one z f none one zero d lt = none
numbered_one z f none one (suc zero) d lt = one
numbered_one z f none one (suc (suc i)) d lt = absurd (omega arith)

-- and so have three
pub numbered_two : (z f s : PassView) → z.number ≡ 0 → f.number ≡ 1 → s.number ≡ 2 → AreNumbered (z ∷ f ∷ s ∷ [])
numbered_two z f s none one two zero d lt = none
numbered_two z f s none one two (suc zero) d lt = one
numbered_two z f s none one two (suc (suc zero)) d lt = two
numbered_two z f s none one two (suc (suc (suc i))) d lt = absurd (omega arith)

-- what stands in numbered passes is below their count
below : (passes : List PassView) (n : ℕ) → AreNumbered passes → Contains (map (λ p. p.number) passes) n → n < length passes
below passes n numbered has =
    let size = length-map passes (λ p. p.number) in
    let inside = has.1 in
    let lt : has.0 < length passes = omega arith in
    let x = element passes has.0 lt in
    let at : get_or (map (λ p. p.number) passes) has.0 n ≡ has.0 = get_or-map (λ p. p.number) passes has.0 x.0 n lt ∙ numbered has.0 x.0 lt in
    let is = has.2 in omega (arith, lt, at, is)

-- a pass without entries has none in the journal
none_of : (journal : List Entry) (z : PassView) → z.number ≡ 0 → own z ≡ [] → HasOwn journal z → (n : ℕ) → n < 1 → entries_of n journal ≡ []
none_of journal z none nothing has n lt =
    let same : n ≡ z.number = omega arith in ap (λ m. entries_of m journal) same ∙ has.own ∙ nothing

-- where pass 0 was asked nothing, the journal is that of pass 1
pub of_one : (journal : List Entry) (z f : PassView) → z.number ≡ 0 → own z ≡ [] → f.number ≡ 1 → IsJournalOf journal (z ∷ f ∷ []) → IsOfOne journal f
of_one journal z f none nothing one is =
    let has_z : HasOwn journal z = All-head (HasOwn journal) z (f ∷ []) is.each in
    let has_f : HasOwn journal f = All-head (HasOwn journal) f [] (All-tail (HasOwn journal) z (f ∷ []) is.each) in
    record {
      begins = has_f.begins;
      own_is = has_f.own;
      others = λ n not_one. dite (dec_le 1 n)
          (λ some. is.others n (λ has. let low = below (z ∷ f ∷ []) n (numbered_one z f none one) has in not_one (omega (arith, low, some))))
          (λ not. none_of journal z none nothing has_z n (omega (arith, not)));
    }

-- and where pass 2 was asked too, that of both
pub of_two : (journal : List Entry) (z f s : PassView) → z.number ≡ 0 → own z ≡ [] → f.number ≡ 1 → s.number ≡ 2 →
    IsJournalOf journal (z ∷ f ∷ s ∷ []) → IsOfTwo journal f s
of_two journal z f s none nothing one two is =
    let has_z : HasOwn journal z = All-head (HasOwn journal) z (f ∷ s ∷ []) is.each in
    let rest = All-tail (HasOwn journal) z (f ∷ s ∷ []) is.each in
    let has_f : HasOwn journal f = All-head (HasOwn journal) f (s ∷ []) rest in
    let has_s : HasOwn journal s = All-head (HasOwn journal) s [] (All-tail (HasOwn journal) f (s ∷ []) rest) in
    record {
      begins = has_f.begins;
      own_is = has_f.own;
      begins_second = has_s.begins;
      own_second = has_s.own;
      others = λ n not_one not_two. dite (dec_le 1 n)
          (λ some. is.others n (λ has. let low = below (z ∷ f ∷ s ∷ []) n (numbered_two z f s none one two) has in
          dite (dec_le n 1) (λ le. not_one (omega (arith, le, some))) (λ above. not_two (omega (arith, above, low)))))
          (λ not. none_of journal z none nothing has_z n (omega (arith, not)));
    }
