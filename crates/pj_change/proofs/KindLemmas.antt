-- What stands at a position, found hunk by hunk.
use Rattle.std.proofs.Common.{◌≡◌, ℕ, suc, ◌+◌, ◌-◌, ◌<◌, ◌≤◌, Bool, true, false, List, [], ◌∷◌, length, get_or, take, drop, refl, sym, ◌∙◌, ap, arith, nat_lt, drop-cons, drop_of_length-le, add-one}
use Rattle.std.specs.Prelude.{Some, None, ◌↔◌, sum_by}
use Rattle.std.proofs.Math.Seq.{take-length}
use Rattle.std.proofs.lemmas.Bool.{lt-ltb, le-ltb}
use Rattle.std.proofs.lemmas.Bool.Decides.{nat_tests}
use Rattle.std.proofs.lemmas.List.Sums.{sum_by-cons}
use Rattle.pj_change.specs.declared.hunk.Hunk.{Hunk}
use Rattle.pj_change.specs.Rules.{position_count}
use Rattle.pj_change.specs.Positions.{place, kind_in, kind_from, kind_at}

drop_here : (hs : List Hunk) (k : ℕ) (h : Hunk) → h ≡ get_or hs k h → k < length hs → drop k hs ≡ h ∷ drop (k + 1) hs
drop_here hs k h at low =
    let e : drop k hs ≡ get_or hs k h ∷ drop (suc k) hs = drop-cons hs k h low in
    rw add-one (e ∙ ap (λ x. x ∷ drop (suc k) hs) (sym at))

-- what stands in the first hunk
pub kind_cons_here : (k first at : ℕ) (h : Hunk) (hs : List Hunk) → nat_lt at (position_count h) ≡ true → kind_from k first (h ∷ hs) at ≡ Some (kind_in k first h at)
unfolding kind_from
kind_cons_here k first at h hs e = rw e refl

-- what stands behind it
pub kind_cons_on : (k first at : ℕ) (h : Hunk) (hs : List Hunk) → nat_lt at (position_count h) ≡ false → kind_from k first (h ∷ hs) at ≡ kind_from (k + 1) (first + position_count h) hs (at - position_count h)
unfolding kind_from
kind_cons_on k first at h hs e = rw e refl

-- it stands in hunk k
pub kind_here : (hs : List Hunk) (k first at : ℕ) (h : Hunk) → h ≡ get_or hs k h → k < length hs → at < position_count h →
    kind_from k first (drop k hs) at ≡ Some (kind_in k first h at)
kind_here hs k first at h is low small =
    ap (λ l. kind_from k first l at) (drop_here hs k h is low) ∙ kind_cons_here k first at h (drop (k + 1) hs) (lt-ltb at (position_count h) small)

-- it stands behind hunk k, which takes n positions
pub kind_on : (hs : List Hunk) (k first offset n : ℕ) (h : Hunk) → h ≡ get_or hs k h → k < length hs → n ≡ position_count h → n ≤ offset - first →
    kind_from k first (drop k hs) (offset - first) ≡ kind_from (k + 1) (first + n) (drop (k + 1) hs) (offset - (first + n))
kind_on hs k first offset n h is low count past =
    let less : nat_lt (offset - first) (position_count h) ≡ false = le-ltb (offset - first) (position_count h) (omega arith) in
    let rest : offset - first - position_count h ≡ offset - (first + n) = omega arith in
    ap (λ l. kind_from k first l (offset - first)) (drop_here hs k h is low)
    ∙ kind_cons_on k first (offset - first) h (drop (k + 1) hs) less
    ∙ ap (λ m. kind_from (k + 1) (first + m) (drop (k + 1) hs) (offset - first - position_count h)) (sym count)
    ∙ ap (λ m. kind_from (k + 1) (first + n) (drop (k + 1) hs) m) rest

-- nothing stands behind the last hunk
pub kind_past : (hs : List Hunk) (k first at : ℕ) → length hs ≤ k → kind_from k first (drop k hs) at ≡ None
unfolding kind_from
kind_past hs k first at past = rw (drop_of_length-le hs past) refl

-- ---- past the last position

sum_more : (h : Hunk) (hs : List Hunk) (at : ℕ) → position_count h ≤ at → (sum_by position_count hs ≤ at - position_count h) ↔ (sum_by position_count (h ∷ hs) ≤ at)
sum_more h hs at low = (λ le. omega (arith, le, low, sum_by-cons position_count h hs), λ le. omega (arith, le, low, sum_by-cons position_count h hs))

pub none_from : (hs : List Hunk) (k first at : ℕ) → (kind_from k first hs at ≡ None) ↔ (sum_by position_count hs ≤ at)
unfolding kind_from
none_from [] k first at = (λ e. omega arith, λ le. refl)
none_from (h ∷ hs) k first at = go (none_from hs (k + 1) (first + position_count h) (at - position_count h)) (nat_lt at (position_count h)) refl
  where
    go : (kind_from (k + 1) (first + position_count h) hs (at - position_count h) ≡ None) ↔ (sum_by position_count hs ≤ at - position_count h) →
        (b : Bool) → nat_lt at (position_count h) ≡ b → (kind_from k first (h ∷ hs) at ≡ None) ↔ (sum_by position_count (h ∷ hs) ≤ at)
    go rest true e = (
      λ none. absurd (let here = kind_cons_here k first at h hs e in cc),
      λ le. absurd (let low : at < position_count h = grind (arith, nat_tests) in omega (arith, le, low, sum_by-cons position_count h hs)),
    )
    go rest false e =
        let low : position_count h ≤ at = grind (arith, nat_tests) in
        let on = kind_cons_on k first at h hs e in
        let more = sum_more h hs at low in
        (λ none. more.0 (rest.0 (sym on ∙ none)), λ le. on ∙ rest.1 (more.1 le))

-- nothing stands at a position exactly past those of the hunks
pub none_past : (hs : List Hunk) (offset : ℕ) → (kind_at hs offset ≡ None) ↔ (place hs (length hs) ≤ offset)
none_past hs offset =
    let all : sum_by position_count (take (length hs) hs) ≡ sum_by position_count hs = ap (sum_by position_count) (take-length hs) in
    let none = none_from hs 0 0 offset in
    (λ e. omega (arith, all, none.0 e), λ le. none.1 (omega (arith, all, le)))
