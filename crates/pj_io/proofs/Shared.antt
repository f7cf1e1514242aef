-- What holds of the first sessions of a list.
use Rattle.std.proofs.Common.{◌≡◌, min, get_or, inl, inr, add-one, ◌∙◌, ◌+◌, ◌-◌, ◌<◌, ◌≤◌, ℕ, zero, suc, List, [], ◌∷◌, ◌++◌, length, take, drop, Option, None, Some, unwrap_or, refl, ap, sym, arith}
use Rattle.std.specs.Option.{option_to_list}
use Rattle.std.specs.declared.vec.Vec.{Vec}
use Rattle.std.proofs.lemmas.List.{take-map, drop-map, take_min, drop_all, append-nil, append_assoc}
use Rattle.std.proofs.lemmas.Bool.{cases_lt}
use Rattle.std.proofs.Math.Seq.{drop-cons}
use Rattle.pj_io.specs.Sessions.{first_sessions, shared_sessions, bytes_of_each}

-- as many as there are: all
pub all_sessions : (sessions : List (List ℕ)) → first_sessions (length sessions) sessions ≡ sessions
unfolding first_sessions
all_sessions [] = refl
all_sessions (session ∷ sessions) = ap (λ rest. session ∷ rest) (all_sessions sessions)

-- members past the first n do not matter
pub first_of_front : (n : ℕ) (sessions : List (List ℕ)) → first_sessions n (take n sessions) ≡ first_sessions n sessions
unfolding first_sessions
first_of_front zero sessions = refl
first_of_front (suc n) [] = refl
first_of_front (suc n) (session ∷ sessions) = ap (λ rest. session ∷ rest) (first_of_front n sessions)

-- the next session is the first of the list, or empty past its end
pub next_session : {A : Type 0}
    (left : ℕ) (listed after : List (Vec ℕ A)) (popped : Option (Vec ℕ A)) (empty : Vec ℕ A)
    → 0 < left
    → listed ≡ option_to_list popped ++ after
    → after ≡ drop 1 listed
    → empty.items ≡ []
    → first_sessions left (bytes_of_each listed) ≡ (unwrap_or popped empty).items ∷ first_sessions (left - 1) (bytes_of_each after)
unfolding first_sessions
next_session zero listed after popped empty some e f none = absurd (omega arith)
next_session (suc n) listed after (Some session) empty some e f none = let fewer : suc n - 1 ≡ n = omega arith in rw (e, fewer) refl
next_session (suc n) [] after None empty some e f none = let fewer : suc n - 1 ≡ n = omega arith in rw (← e, none, fewer) refl
next_session (suc n) (session ∷ listed) after None empty some e f none =
    let longer : suc (length listed) ≡ length listed = ap length (e ∙ f) in absurd (omega arith)

-- dropping as many as there are at most
drop_min : {X : Type 0} (n : ℕ) (xs : List X) → drop (min n (length xs)) xs ≡ drop n xs
drop_min n xs =
    elim (cases_lt n (length xs)) [
      | inl few ↦ let same : min n (length xs) ≡ n = omega arith in ap (λ m. drop m xs) same
      | inr all ↦ drop_all (min n (length xs)) xs (omega arith) ∙ sym (drop_all n xs all)
    ]

-- one more door takes its share of the rest
pub one_more_door : {A : Type 0}
    (parts parts_after : List (List (List ℕ))) (rest own copies after : List (Vec ℕ A))
    (shares : List ℕ) (i count : ℕ) (whole : List (List (List ℕ)))
    → i < length shares
    → count ≡ min (get_or shares i 0) (length rest)
    → own ≡ take count rest
    → after ≡ drop count rest
    → bytes_of_each copies ≡ bytes_of_each own
    → parts_after ≡ parts ++ first_sessions (get_or shares i 0) (bytes_of_each copies) ∷ []
    → parts ++ shared_sessions (bytes_of_each rest) (drop i shares) ≡ whole
    → parts_after ++ shared_sessions (bytes_of_each after) (drop (i + 1) shares) ≡ whole
unfolding shared_sessions
one_more_door parts parts_after rest own copies after shares i count whole in_range counted front back copied pushed before =
    let share = get_or shares i 0 in
    let own_bytes : bytes_of_each copies ≡ take share (bytes_of_each rest) =
    copied ∙ ap bytes_of_each (front ∙ ap (λ n. take n rest) counted ∙ take_min share rest) ∙ sym (take-map (λ session. session.items) share rest) in
    let rest_bytes : bytes_of_each after ≡ drop share (bytes_of_each rest) =
    ap bytes_of_each (back ∙ ap (λ n. drop n rest) counted ∙ drop_min share rest) ∙ sym (drop-map (λ session. session.items) share rest) in
    let part : first_sessions share (bytes_of_each copies) ≡ first_sessions share (bytes_of_each rest) =
    ap (first_sessions share) own_bytes ∙ first_of_front share (bytes_of_each rest) in
    rw (pushed, part, rest_bytes, append_assoc, ← before, drop-cons shares i 0 in_range, add-one) refl

-- the doors are all there at the end of the shares
pub no_more_doors : {A : Type 0}
    (parts : List (List (List ℕ))) (rest : List (Vec ℕ A)) (shares : List ℕ) (i : ℕ) (whole : List (List (List ℕ)))
    → length shares ≤ i
    → parts ++ shared_sessions (bytes_of_each rest) (drop i shares) ≡ whole
    → parts ≡ whole
unfolding shared_sessions
no_more_doors parts rest shares i whole all e = sym (append-nil parts) ∙ rw (drop_all i shares all) at e
