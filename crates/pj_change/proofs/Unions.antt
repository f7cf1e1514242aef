-- The union of lists: idempotent and associative, and commutative on sets.
use Rattle.std.proofs.Common.{◌≡◌, List, [], ◌∷◌, ◌++◌, refl, sym, ◌∙◌, ap, inl, inr, Bool, true, false, not, filter, append_assoc, append-nil}
use Rattle.std.specs.Prelude.{Contains, ◌⊎◌, ◌||◌, ◌&&◌}
use Rattle.std.proofs.lemmas.List.Folds.{list_any-append}
use Rattle.std.proofs.lemmas.List.Elements.{filter-append}
use Rattle.std.proofs.lemmas.Bool.{or_right}
use Rattle.pj_name.specs.declared.name.Name.{Name}
use Rattle.pj_name.specs.Name.{same_name}
use Rattle.pj_change.specs.declared.change.Record.{Record}
use Rattle.pj_change.specs.Lawful.{is_held}
use Rattle.pj_change.specs.Sets.{HaveSameMembers, HaveOneText}
use Rattle.pj_change.specs.Union.{union}
use Rattle.pj_change.proofs.EqualNames.{same_name_is}
use Rattle.pj_change.proofs.EqualRecords.{have_one_record, one_text_within}
use Rattle.pj_change.proofs.LawfulLists.{append_cases, first_part, second_part, held_member}
use Rattle.pj_change.proofs.Members.{first_member, later_member}
use Rattle.pj_change.proofs.Without.{union_member}
use Rattle.pj_change.proofs.RunLemmas.{union_within}

-- ---- filters

module _ {X : Type 0} where
  filter_twice : (p q : X → Bool) (xs : List X) → filter p (filter q xs) ≡ filter (λ x. q x && p x) xs
  filter_twice p q [] = refl
  filter_twice p q (x ∷ xs) = go (filter_twice p q xs) (q x) (p x) refl refl
    where
      go : filter p (filter q xs) ≡ filter (λ y. q y && p y) xs → (b c : Bool) → q x ≡ b → p x ≡ c → filter p (filter q (x ∷ xs)) ≡ filter (λ y. q y && p y) (x ∷ xs)
      go rest true true h k = rw h (rw k (ap (λ l. x ∷ l) rest))
      go rest true false h k = rw h (rw k rest)
      go rest false c h k = rw h rest

  filter_alike : (p q : X → Bool) (xs : List X) → ((x : X) → p x ≡ q x) → filter p xs ≡ filter q xs
  filter_alike p q [] e = refl
  filter_alike p q (x ∷ xs) e = go (filter_alike p q xs e) (q x) (e x) refl
    where
      go : filter p xs ≡ filter q xs → (b : Bool) → p x ≡ q x → q x ≡ b → filter p (x ∷ xs) ≡ filter q (x ∷ xs)
      go rest true h k = (let j : p x ≡ true = h ∙ k in rw j (rw k (ap (λ l. x ∷ l) rest)))
      go rest false h k = (let j : p x ≡ false = h ∙ k in rw j (rw k rest))

  filter_none : (p : X → Bool) (xs : List X) → ((x : X) → Contains xs x → p x ≡ false) → filter p xs ≡ []
  filter_none p [] e = refl
  filter_none p (x ∷ xs) e = (let h = e x (first_member x xs) in rw h (filter_none p xs (λ y m. e y (later_member x xs y m))))

-- ---- what a union holds

abbrev lacked : List Record → Record → Bool
lacked a r = not (is_held a r.name)

held_lacking : (a b : List Record) (n : Name) → is_held (filter (lacked a) b) n ≡ (not (is_held a n) && is_held b n)
held_lacking a [] n = and_no (not (is_held a n))
  where
    and_no : (x : Bool) → false ≡ (x && false)
    and_no true = refl
    and_no false = refl
held_lacking a (r ∷ b) n = go (held_lacking a b n) (is_held a r.name) (same_name r.name n) refl refl
  where
    rest_only : (x y : Bool) → (x && y) ≡ (x && (false || y))
    rest_only x y = refl

    both : (x y : Bool) → x ≡ false → true ≡ (not x && (true || y))
    both true y e = absurd (cc)
    both false y e = refl

    none : (x y : Bool) → x ≡ true → (not x && y) ≡ (not x && (true || y))
    none true y e = refl
    none false y e = absurd (cc)

    go : is_held (filter (lacked a) b) n ≡ (not (is_held a n) && is_held b n) → (x y : Bool) → is_held a r.name ≡ x → same_name r.name n ≡ y →
        is_held (filter (lacked a) (r ∷ b)) n ≡ (not (is_held a n) && is_held (r ∷ b) n)
    go rest true true h k =
        let e : is_held a n ≡ true = ap (is_held a) (sym (same_name_is r.name n k)) ∙ h in
        rw h (rw k (rest ∙ none (is_held a n) (is_held b n) e))
    go rest true false h k = rw h (rw k rest)
    go rest false true h k =
        let e : is_held a n ≡ false = ap (is_held a) (sym (same_name_is r.name n k)) ∙ h in
        rw h (rw k (both (is_held a n) (is_held b n) e))
    go rest false false h k = rw h (rw k rest)

or_lacking : (x y : Bool) → (x || (not x && y)) ≡ (x || y)
or_lacking true y = refl
or_lacking false y = refl

pub held_union : (a b : List Record) (n : Name) → is_held (union a b) n ≡ (is_held a n || is_held b n)
held_union a b n =
    list_any-append (λ r. same_name r.name n) a (filter (lacked a) b)
    ∙ ap (λ x. is_held a n || x) (held_lacking a b n) ∙ or_lacking (is_held a n) (is_held b n)

-- ---- the laws

nothing_lacked : (a b : List Record) → ((r : Record) → Contains b r → is_held a r.name ≡ true) → union a b ≡ a
nothing_lacked a b e = ap (λ l. a ++ l) (filter_none (lacked a) b (λ r m. ap not (e r m))) ∙ append-nil a

pub union_itself : (a : List Record) → union a a ≡ a
union_itself a = nothing_lacked a a (λ r m. held_member a r.name r (record { member = m; named = refl }))

pub union_again : (a b : List Record) → union (union a b) b ≡ union a b
union_again a b =
    nothing_lacked (union a b) b
    (λ r m. held_union a b r.name ∙ or_right (is_held a r.name) (is_held b r.name) (held_member b r.name r (record { member = m; named = refl })))

not_or : (x y : Bool) → not (x || y) ≡ (not y && not x)
not_or true true = refl
not_or true false = refl
not_or false true = refl
not_or false false = refl

pub union_associative : (a b c : List Record) → union (union a b) c ≡ union a (union b c)
union_associative a b c =
    let last : filter (lacked (union a b)) c ≡ filter (lacked a) (filter (lacked b) c) =
    filter_alike (lacked (union a b)) (λ r. lacked b r && lacked a r) c (λ r. ap not (held_union a b r.name) ∙ not_or (is_held a r.name) (is_held b r.name))
    ∙ sym (filter_twice (lacked a) (lacked b) c) in
    append_assoc a (filter (lacked a) b) (filter (lacked (union a b)) c)
    ∙ ap (λ l. a ++ (filter (lacked a) b ++ l)) last
    ∙ ap (λ l. a ++ l) (sym (filter-append (lacked a) b (filter (lacked b) c)))

swapped : {X : Type 0} (a b : List X) (x : X) → Contains (b ++ a) x → Contains (a ++ b) x
swapped a b x m = elim (append_cases b a x m) [ inl k ↦ second_part a b x k | inr k ↦ first_part a b x k ]

pub union_commutes : (a b : List Record) → HaveOneText (a ++ b) → HaveSameMembers (union a b) (union b a)
union_commutes a b unique =
    let turned : HaveOneText (b ++ a) = one_text_within (a ++ b) (b ++ a) unique (λ r m. swapped a b r m) in
    let ab = union_member a b (have_one_record (a ++ b) unique) in
    let ba = union_member b a (have_one_record (b ++ a) turned) in
    record {
      there = λ r m. (ba r).1 (turn ((ab r).0 m));
      back = λ r m. (ab r).1 (turn ((ba r).0 m));
    }
  where
    turn : {P Q : Type 0} → P ⊎ Q → Q ⊎ P
    turn p = elim p [ inl k ↦ inr k | inr k ↦ inl k ]

pub union_one_text : (a b : List Record) → HaveOneText (a ++ b) → HaveOneText (union a b)
union_one_text a b unique = one_text_within (a ++ b) (union a b) unique (union_within a b)
