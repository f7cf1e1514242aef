-- The front of the bytes left goes to the front of the buffer.
use Rattle.std.proofs.Common.{◌≡◌, ◌∙◌, ◌<◌, ◌≤◌, ℕ, zero, suc, min, List, [], ◌∷◌, length, slice_get, Option, None, Some, ◌++◌, ◌+◌, ◌-◌, take, drop, refl, ap, sym, arith}
use Rattle.std.proofs.lemmas.Grind.{common_steps}
use Rattle.std.proofs.lemmas.List.{take_at, drop_at, take-append-drop, drop-drop, nil_from_length, take_rest}
use Rattle.pj_io.specs.Source.{Took}
use Rattle.pj_io.specs.Pieces.{AllPositive, piece_at, within_piece}

-- each piece of a list without 0 lets a byte through
positive_at : (pieces : List ℕ) (place piece : ℕ)
    → AllPositive pieces → slice_get pieces place ≡ Some piece → 0 < piece
positive_at [] place piece positive found = cc
positive_at (p ∷ pieces) zero piece positive found = grind (arith, common_steps)
positive_at (p ∷ pieces) (suc place) piece positive found = positive_at pieces place piece (grind (arith, common_steps)) found

none_within_positive : (found : Option ℕ) (count : ℕ)
    → ((piece : ℕ) → found ≡ Some piece → 0 < piece) → within_piece found count ≡ 0 → count ≡ 0
none_within_positive None count positive none = none
none_within_positive (Some piece) count positive none = let h : 0 < piece = positive piece refl in omega arith

-- a call gives nothing only where there is nothing to give
pub none_within : (pieces : List ℕ) (call count : ℕ)
    → AllPositive pieces → within_piece (piece_at pieces call) count ≡ 0 → count ≡ 0
none_within pieces call count positive none =
    none_within_positive (piece_at pieces call) count (λ piece found. positive_at pieces _ piece positive found) none

-- what a source does that copies the first n bytes left to the front of the buffer
takes_front : (left left_after into into_after : List ℕ) (n : ℕ)
    → left_after ≡ drop n left
    → into_after ≡ take n left ++ drop n into
    → n ≤ min (length into) (length left)
    → (n ≡ 0 → min (length into) (length left) ≡ 0)
    → Took left left_after into into_after n
takes_front left left_after into into_after n e f bound end =
    let long : length (take n left) ≡ n = grind (arith, common_steps) in
    record {
      moved = rw (f, e, take_at (take n left) (drop n into) n long) (sym (take-append-drop n left));
      rest = ap (drop n) f ∙ drop_at (take n left) (drop n into) n long;
      end = λ room. (
        λ none. let all : min (length into) (length left) ≡ 0 = end none in nil_from_length left (omega arith),
        λ empty. let short : length left ≡ 0 = ap length empty in omega arith,
      );
    }

-- the same for a source that has taken so many of its bytes, and lends the others as a slice
pub takes_lent : (left bytes lent into into_after : List ℕ) (taken n : ℕ)
    → drop taken bytes ≡ left
    → lent ≡ bytes
    → into_after ≡ take n (take (length lent - taken) (drop taken lent)) ++ drop n into
    → n ≤ min (length into) (length (take (length lent - taken) (drop taken lent)))
    → (n ≡ 0 → min (length into) (length (take (length lent - taken) (drop taken lent))) ≡ 0)
    → Took left (drop (taken + n) bytes) into into_after n
takes_lent left bytes lent into into_after taken n view same copied bound end =
    let slice : take (length lent - taken) (drop taken lent) ≡ left = take_rest lent taken ∙ ap (drop taken) same ∙ view in
    let most = ap (λ rest. min (length into) (length rest)) slice in
    takes_front left _ into into_after n
    (sym (drop-drop n taken bytes) ∙ ap (drop n) view)
    (copied ∙ ap (λ rest. take n rest ++ drop n into) slice)
    (rw most at bound)
    (λ none. sym most ∙ end none)
