-- Passes that are numbered in their order are all that were made.
use Rattle.std.proofs.Common.{◌≡◌, ℕ, ◌<◌, List, length, map, get_or, sym, ◌∙◌, ap, arith}
use Rattle.std.proofs.lemmas.List.{get_or-map, length-map}
use Rattle.pj_book.specs.Token.{Token}
use Rattle.pj_book.specs.IsAll.{numbers, IsAll}
use Rattle.pj_machine.specs.declared.command.Write.{Write}
use Rattle.pj_repo.specs.Views.{pass_view}
use Rattle.pj_load.specs.Seats.{AreNumbered}
use Rattle.pj_load.proofs.SeatRows.{element}

module _ (made : ℕ) (passes : List (Token Write)) (row : AreNumbered (map pass_view passes)) (size : length passes ≡ made) where
  at : (k d : ℕ) → k < length passes → get_or (numbers passes) k d ≡ k
  at k d lt =
      let p = element passes k lt in
      let view_at : get_or (map pass_view passes) k (pass_view p.0) ≡ pass_view p.0 = get_or-map pass_view passes k p.0 (pass_view p.0) lt ∙ ap pass_view (p.1 p.0) in
      get_or-map (λ q. q.number) passes k p.0 d lt ∙ ap (λ q. q.number) (p.1 p.0) ∙ sym (ap (λ q. q.number) view_at)
      ∙ row k (pass_view p.0) (let m = length-map passes pass_view in omega arith)

  pub all_numbered : IsAll made passes
  all_numbered =
      let many : length (numbers passes) ≡ length passes = length-map passes (λ q. q.number) in
      record {
        count = size;
        below = λ k d lt. (let h = at k d (omega arith) in omega arith);
        each = λ k lt. (k, (omega arith), at k k (omega arith));
        once = λ i j d a b same. (let x = at i d (omega arith) in let y = at j d (omega arith) in absurd (omega arith));
      }
