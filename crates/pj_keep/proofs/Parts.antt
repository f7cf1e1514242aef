-- A journal of two passes, of which the second one began when the first one had ended.
use Rattle.std.proofs.Common.{◌≡◌, ◌≢◌, ◌==◌, ◌∙◌, ◌⊎◌, ℕ, Bool, true, false, cond, List, [], ◌∷◌, ◌++◌, All, inl, inr, ⊎_elim, refl, sym, ap, arith, eq-eqb}
use Rattle.std.proofs.lemmas.List.{append_cancel_left, append-nil}
use Rattle.std.proofs.lemmas.List.Elements.{All-cons, All-nil, filter-append}
use mathlib.Core.Logic.{dite}
use native.Mathlib.Decide.{dec_le}
use Rattle.pj_machine.specs.declared.journal.Entry.{Entry}
use Rattle.pj_machine.specs.Call.{entries_of}

-- two numbers are the same, or not
same_or_other : (m n : ℕ) → (m ≡ n) ⊎ (m ≢ n)
same_or_other m n = dite (dec_le m n)
    (λ le. dite (dec_le n m) (λ ge. inl (omega (arith, le, ge))) (λ not. inr (λ is. not (omega (arith, is)))))
    (λ not. inr (λ is. not (omega (arith, is))))

-- what is empty has empty parts
left_empty : (a b : List Entry) → a ++ b ≡ [] → a ≡ []
left_empty [] b none = refl
left_empty (x ∷ a) b none = absurd (cc none)

right_empty : (a b : List Entry) → a ++ b ≡ [] → b ≡ []
right_empty [] b none = none
right_empty (x ∷ a) b none = absurd (cc none)

-- the entries of a pass in two parts
parted : (n : ℕ) (a b : List Entry) → entries_of n (a ++ b) ≡ entries_of n a ++ entries_of n b
parted n a b = filter-append (λ e. e.pass == n) a b

-- where no other pass has an entry, all are of this one
pub only_of : (p : ℕ) (journal : List Entry) → ((n : ℕ) → n ≢ p → entries_of n journal ≡ []) →
    (entries_of p journal ≡ journal) × All (λ e. e.pass ≡ p) journal
only_of p [] none = (refl, All-nil (λ (e : Entry). e.pass ≡ p))
only_of p (e ∷ es) none = ⊎_elim
    (λ is.
    let rest = only_of p es (λ n other. tail n (e.pass == n) (none n other)) in (
      ap (λ b. cond b (e ∷ entries_of p es) (entries_of p es)) (eq-eqb e.pass p is) ∙ ap (λ l. e ∷ l) rest.0,
      All-cons (λ (x : Entry). x.pass ≡ p) e es is rest.1,
    ))
    (λ other.
    let here : e ∷ entries_of e.pass es ≡ [] =
    sym (ap (λ b. cond b (e ∷ entries_of e.pass es) (entries_of e.pass es)) (eq-eqb e.pass e.pass refl)) ∙ none e.pass other in
    absurd (cc here))
    (same_or_other e.pass p)
  where
    tail : (n : ℕ) (b : Bool) → cond b (e ∷ entries_of n es) (entries_of n es) ≡ [] → entries_of n es ≡ []
    tail n true gone = absurd (cc gone)
    tail n false gone = gone

-- the parts of the two passes
pub record AreParts (first second journal : List Entry) : Type 0 where
  pub all_first : entries_of 1 first ≡ first
  pub all_second : entries_of 2 journal ≡ second
  pub of_second : All (λ e. e.pass ≡ 2) second

-- pass 1 has its entries in the first part, and pass 2 in what stands behind it
pub two_parts : (first second journal : List Entry) → journal ≡ first ++ second → entries_of 1 journal ≡ entries_of 1 first → entries_of 2 first ≡ [] →
    ((n : ℕ) → n ≢ 1 → n ≢ 2 → entries_of n journal ≡ []) → AreParts first second journal
two_parts first second journal whole ones no_twos others =
    let both : (n : ℕ) → entries_of n journal ≡ entries_of n first ++ entries_of n second = λ n. ap (λ j. entries_of n j) whole ∙ parted n first second in
    let in_first : (n : ℕ) → n ≢ 1 → entries_of n first ≡ [] = λ n not_one. ⊎_elim
    (λ two. ap (λ m. entries_of m first) two ∙ no_twos)
    (λ not_two. left_empty (entries_of n first) (entries_of n second) (sym (both n) ∙ others n not_one not_two))
    (same_or_other n 2) in
    let no_ones : entries_of 1 second ≡ [] =
    append_cancel_left (entries_of 1 first) (entries_of 1 second) [] (sym (both 1) ∙ ones ∙ sym (append-nil (entries_of 1 first))) in
    let in_second : (n : ℕ) → n ≢ 2 → entries_of n second ≡ [] = λ n not_two. ⊎_elim
    (λ one. ap (λ m. entries_of m second) one ∙ no_ones)
    (λ not_one. right_empty (entries_of n first) (entries_of n second) (sym (both n) ∙ others n not_one not_two))
    (same_or_other n 1) in
    let second_is = only_of 2 second in_second in
    record {
      all_first = (only_of 1 first in_first).0;
      all_second = both 2 ∙ ap (λ l. l ++ entries_of 2 second) no_twos ∙ second_is.0;
      of_second = second_is.1;
    }
