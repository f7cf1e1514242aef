-- Members one after the other, and with marker lines between them.
use Rattle.std.proofs.Common.{◌≡◌, ℕ, ◌-◌, ◌<◌, ◌≤◌, List, [], ◌∷◌, ◌++◌, length, map, take, drop, get_or, codes, decimal, refl, sym, ◌∙◌, ap, arith}
use Rattle.std.proofs.lemmas.List.{take_rest, drop_all}
use Rattle.std.proofs.lemmas.Simd.{map-map}
use Rattle.pj_change.specs.MarkedText.{Piece, Marking, put_marker, close_run, put_piece, put_apart}

-- vertices by number are put as their pieces are
pub pieces_of : (piece : ℕ → Piece) (members : List ℕ) → map put_piece (map piece members) ≡ map (λ at. put_piece (piece at)) members
pieces_of piece members = map-map put_piece piece members

-- the line between two members
abbrev pub separate : ℕ → Marking → Marking
separate k m = put_marker (close_run m) (codes "======= " ++ decimal k)

-- the members after the first, each after such a line
abbrev pub put_others : ℕ → List (Marking → Marking) → Marking → Marking
put_others k [] m = m
put_others k (put ∷ puts) m = put_others k puts (put (separate k m))

-- the first, then the others
first_then_others : (k : ℕ) (put : Marking → Marking) (puts : List (Marking → Marking)) (m : Marking) → put_apart k (put ∷ puts) m ≡ put_others k puts (put m)
first_then_others k put [] m = refl
first_then_others k put (next ∷ puts) m = first_then_others k next puts (separate k (put m))

-- the members but the first
abbrev pub others : {X : Type 0} → List X → List X
others xs = take (length xs - 1) (drop 1 xs)

module _ {X : Type 0} (put : X → Marking → Marking) (k : ℕ) where
  apart : (xs : List X) (first : X) (m : Marking) → 0 < length xs → put_apart k (map put xs) m ≡ put_others k (map put (others xs)) (put (get_or xs 0 first) m)
  apart [] first m some = absurd (omega (arith, some))
  apart (x ∷ xs) first m some = rw (take_rest (x ∷ xs) 1) (first_then_others k (put x) (map put xs) m)

  -- the first member stands, and none of the others is left: all stand
  pub all_apart : (xs : List X) (first : X) (i : ℕ) (m one all : Marking) → 0 < length xs → one ≡ put (get_or xs 0 first) m → length (others xs) ≤ i
      → put_others k (map put (drop i (others xs))) all ≡ put_others k (map put (others xs)) one → all ≡ put_apart k (map put xs) m
  all_apart xs first i m one all some is_first none_left so_far =
      sym (ap (λ (left : List X). put_others k (map put left) all) (drop_all i (others xs) none_left))
      ∙ so_far ∙ ap (put_others k (map put (others xs))) is_first ∙ sym (apart xs first m some)
