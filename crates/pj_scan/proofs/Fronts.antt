-- The longest front of a list whose elements pass a test.
use Rattle.std.proofs.Common.{◌≡◌, refl, sym, ap, subst, ◌∙◌, ℕ, ◌<◌, Bool, true, cond, inl, inr, List, [], ◌∷◌, ◌++◌, length, drop, get_or, arith}
use Rattle.std.specs.List.{AllPass, prefix_len, take_while}
use Rattle.std.proofs.lemmas.Bool.{cases_lt}
use Rattle.std.proofs.lemmas.List.{drop_all, drop_more, get_or-take, length-take-le, take-append-drop}
use Rattle.std.proofs.lemmas.List.Elements.{All-head, All-tail}
use Rattle.std.proofs.lemmas.List.Sums.{prefix_len-le-length, prefix_len_passes, prefix_len_stops, take_while-cons}
use Rattle.pj_scan.specs.Scan.{IsPiece, Stops}

-- its elements pass
pub AllPass-take_while : (p : ℕ → Bool) (bytes : List ℕ) → AllPass p (take_while p bytes)
AllPass-take_while p bytes k d below =
    let within = prefix_len-le-length p bytes in
    let count = length-take-le (prefix_len p bytes) bytes within in
    let lt : k < prefix_len p bytes = omega (arith, count) in
    let passes = prefix_len_passes p bytes k d lt in
    rw (get_or-take (prefix_len p bytes) bytes k d lt) passes

-- what is left behind it does not begin with one that passes
pub Stops-drop : (p : ℕ → Bool) (bytes : List ℕ) → Stops p (drop (prefix_len p bytes) bytes)
Stops-drop p bytes =
    let P : List ℕ → Type 0 = Stops p in
    elim (cases_lt (prefix_len p bytes) (length bytes)) [
      | inl below ↦ subst P (sym (drop_more bytes (prefix_len p bytes) 0 below)) (prefix_len_stops p bytes 0 below)
      | inr past ↦ subst P (sym (drop_all (prefix_len p bytes) bytes past)) tt
    ]

-- the first of two fronts of one length is the second, and so are what they leave
pub same_fronts : (a b x y : List ℕ) → a ++ x ≡ b ++ y → length a ≡ length b → (a ≡ b) × (x ≡ y)
same_fronts [] [] x y e count = (refl, e)
same_fronts [] (c ∷ b) x y e count = absurd (omega arith)
same_fronts (c ∷ a) [] x y e count = absurd (omega arith)
same_fronts (c ∷ a) (d ∷ b) x y e count =
    let head : c ≡ d = ap (λ (s : List ℕ). get_or s 0 0) e in
    let more = same_fronts a b x y (ap (drop 1) e) (omega arith) in
    (λ i. head i ∷ more.0 i, more.1)

-- a piece of its length is it
pub piece-take_while : (p : ℕ → Bool) (bytes piece left : List ℕ) → IsPiece (length (take_while p bytes)) bytes piece left
    → (piece ≡ take_while p bytes) × Stops p left
piece-take_while p bytes piece left is =
    let same = same_fronts piece (take_while p bytes) left (drop (prefix_len p bytes) bytes) (sym is.stands ∙ sym (take-append-drop (prefix_len p bytes) bytes)) is.whole in
    let P : List ℕ → Type 0 = Stops p in
    (same.0, subst P (sym same.1) (Stops-drop p bytes))

-- a front whose elements pass, and behind which none does, is the longest
pub take_while-front : (p : ℕ → Bool) (front left : List ℕ) → AllPass p front → Stops p left → take_while p (front ++ left) ≡ front
take_while-front p [] [] all stops = refl
take_while-front p [] (b ∷ left) all stops = take_while-cons p b left ∙ ap (λ (t : Bool). cond t (b ∷ take_while p left) []) stops
take_while-front p (f ∷ front) left all stops =
    let IsPassing : ℕ → Type 0 = λ c. p c ≡ true in
    take_while-cons p f (front ++ left)
    ∙ ap (λ (t : Bool). cond t (f ∷ take_while p (front ++ left)) []) (All-head IsPassing f front all)
    ∙ ap (λ (s : List ℕ). f ∷ s) (take_while-front p front left (All-tail IsPassing f front all) stops)

-- two fronts of one list whose elements pass, behind each of which none does, are one
pub fronts_are_one : (p : ℕ → Bool) (a b x y : List ℕ) → a ++ x ≡ b ++ y → AllPass p a → Stops p x → AllPass p b → Stops p y → (a ≡ b) × (x ≡ y)
fronts_are_one p a b x y e all_a stops_x all_b stops_y =
    let same : a ≡ b = sym (take_while-front p a x all_a stops_x) ∙ ap (take_while p) e ∙ take_while-front p b y all_b stops_y in
    (same, (same_fronts a b x y e (ap length same)).1)
