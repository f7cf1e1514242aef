-- One session more at a door.
use Rattle.std.proofs.Common.{◌≡◌, ◌≢◌, ℕ, zero, suc, ◌+◌, ◌<◌, List, [], ◌∷◌, ◌++◌, length, get_or, set, refl, sym, ◌∙◌, ap, subst, arith}
use Rattle.std.proofs.lemmas.List.{get_or_append_left, get_or_push, get_or-set_same, get_or-set_other, length-set, length_push}
use mathlib.Core.Logic.{dite}
use native.Mathlib.Decide.{dec_le}
use Rattle.pj_machine.specs.declared.limits.Limits.{Limits}
use Rattle.pj_session.specs.declared.end.Ended.{Ended}
use Rattle.pj_serve.specs.declared.finish.Kept.{Kept}
use Rattle.pj_machine.specs.Call.{PassView}
use Rattle.pj_serve.specs.declared.working.Turn.{Turn}
use Rattle.pj_io.specs.Meanings.{Streams, Doors}
use Rattle.pj_serve.specs.Workers.{WorkedAt, Working}

module _ {T S D W : Type 0} (view : T → PassView) (doors : Doors W) (streams : Streams S D) (limits : Limits) (old mid new : W) (before after after' : List (Turn T)) (kept kept' : List (Kept S D)) (ends ends' : List Ended) (i : ℕ) (item left : Turn T) (used : Kept S D) (ended : Ended) where
  pub working_push : Working view doors streams limits old mid before after kept ends → length kept ≡ i → i < length after → item ≡ get_or after i item → after' ≡ set after i left → kept' ≡ kept ++ used ∷ [] → ends' ≡ ends ++ ended ∷ []
      → doors.left mid ≡ doors.left new + 1
      → WorkedAt view doors streams limits old i item left used ended
      → Working view doors streams limits old new before after' kept' ends'
  working_push w at inside read set_is kept_is ends_is fewer one =
      let many : length kept' ≡ length kept + 1 = ap (λ (l : List (Kept S D)). length l) kept_is ∙ length_push kept used in
      let many_ends : length ends' ≡ length ends + 1 = ap (λ (l : List Ended). length l) ends_is ∙ length_push ends ended in
      let count = w.as_many_kept in
      let same = w.as_many_ends in
      record {
        as_many_kept = omega arith;
        as_many_ends = omega arith;
        as_many_turns = ap (λ (l : List (Turn T)). length l) set_is ∙ length-set after i left ∙ w.as_many_turns;
        each = λ k p q r e lt. dite (dec_le (length kept) k)
            (λ le. let here : i ≡ k = omega (arith, le) in
            let passes : item ≡ get_or before k p =
            read ∙ sym (in_range after i item p inside) ∙ w.others i p (omega arith) ∙ ap (λ n. get_or before n p) here in
            let left_is : left ≡ get_or after' k q = sym (get_or-set_same after i left q inside) ∙ ap (λ l. get_or l i q) (sym set_is) ∙ ap (λ n. get_or after' n q) here in
            let used_is : used ≡ get_or kept' k r = sym (get_or_push kept used r i at) ∙ ap (λ l. get_or l i r) (sym kept_is) ∙ ap (λ n. get_or kept' n r) here in
            let ended_is : ended ≡ get_or ends' k e = sym (get_or_push ends ended e i (same ∙ at)) ∙ ap (λ l. get_or l i e) (sym ends_is) ∙ ap (λ n. get_or ends' n e) here in
            let P : ℕ → Turn T → Turn T → Kept S D → Ended → Type 0 = λ n a b c d. WorkedAt view doors streams limits old n a b c d in
            subst (λ d. P k (get_or before k p) (get_or after' k q) (get_or kept' k r) d) ended_is
            (subst (λ c. P k (get_or before k p) (get_or after' k q) c ended) used_is
            (subst (λ b. P k (get_or before k p) b used ended) left_is
            (subst (λ a. P k a left used ended) passes (subst (λ n. P n item left used ended) here one)))))
            (λ below. let under : k < length kept = omega (arith, below) in
            let differs : k ≢ i = λ e'. absurd (omega (arith, below, e')) in
            let left_is : get_or after k q ≡ get_or after' k q = sym (get_or-set_other after i k left q differs) ∙ ap (λ l. get_or l k q) (sym set_is) in
            let used_is : get_or kept k r ≡ get_or kept' k r = sym (get_or_append_left kept (used ∷ []) r k under) ∙ ap (λ l. get_or l k r) (sym kept_is) in
            let ended_is : get_or ends k e ≡ get_or ends' k e = sym (get_or_append_left ends (ended ∷ []) e k (omega arith)) ∙ ap (λ l. get_or l k e) (sym ends_is) in
            let P : Turn T → Kept S D → Ended → Type 0 = λ b c d. WorkedAt view doors streams limits old k (get_or before k p) b c d in
            subst (λ d. P (get_or after' k q) (get_or kept' k r) d) ended_is (subst (λ c. P (get_or after' k q) c (get_or ends k e)) used_is (subst (λ b. P b (get_or kept k r) (get_or ends k e)) left_is (w.each k p q r e under))));
        others = λ k p le. let differs : k ≢ i = λ e'. absurd (omega (arith, le, e')) in
            ap (λ l. get_or l k p) set_is ∙ get_or-set_other after i k left p differs ∙ w.others k p (omega (arith, le));
      }
    where
      in_range : (xs : List (Turn T)) (n : ℕ) (a b : Turn T) → n < length xs → get_or xs n b ≡ get_or xs n a
      in_range [] n a b lt = absurd (omega arith)
      in_range (x ∷ xs) zero a b lt = refl
      in_range (x ∷ xs) (suc n) a b lt = in_range xs n a b (omega arith)

-- no session came, and the list of passes is as before
pub working_still : {T S D W : Type 0} (view : T → PassView) (doors : Doors W) (streams : Streams S D) (limits : Limits) (old mid new : W) (before after after' : List (Turn T)) (kept : List (Kept S D)) (ends : List Ended) → Working view doors streams limits old mid before after kept ends → doors.left new ≡ doors.left mid → after' ≡ after → Working view doors streams limits old new before after' kept ends
working_still view doors streams limits old mid new before after after' kept ends w same unchanged =
    subst (λ l. Working view doors streams limits old new before l kept ends) (sym unchanged) (record {
      as_many_kept = ap (λ n. length kept + n) same ∙ w.as_many_kept;
      as_many_ends = w.as_many_ends;
      as_many_turns = w.as_many_turns;
      each = w.each;
      others = w.others;
    })
