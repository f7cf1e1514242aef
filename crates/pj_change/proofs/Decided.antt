-- What is decided: it holds or it does not.
use Rattle.std.proofs.Common.{◌≡◌, ℕ, zero, suc, ◌<◌, List, [], ◌∷◌, length, refl, sym, ◌∙◌, ap, subst, inl, inr, arith, Bool, true, false}
use Rattle.std.specs.Prelude.{Contains, ◌⊎◌, Option, Some, None, slice_get}
use Rattle.std.proofs.lemmas.Bool.{cases_eq, cases_lt}
use Rattle.pj_name.specs.declared.name.Name.{Name}
use Rattle.pj_name.specs.Name.{same_name}
use Rattle.pj_change.specs.declared.point.Point.{Point}
use Rattle.pj_change.specs.declared.point.Place.{Place}
use Rattle.pj_change.specs.declared.point.Place.TheVariants as placed
use Rattle.pj_change.specs.declared.graph.Status.{Status}
use Rattle.pj_change.specs.declared.graph.Status.TheVariants.{Alive, Dead, Zombie}
use Rattle.pj_change.specs.declared.graph.VertexKind.{VertexKind}
use Rattle.pj_change.specs.declared.graph.VertexKind.TheVariants as vertex_kind
use Rattle.pj_change.proofs.Members.{uncons, first_member, later_member, no_member}
use Rattle.pj_change.proofs.EqualNames.{same_name_is, is_same_name}

abbrev pub Known : Type 0 → Type 0
Known A = A ⊎ (A → ⊥)

-- ---- of parts

pub known_as : {A B : Type 0} → (A → B) → (B → A) → Known A → Known B
known_as f g (inl a) = inl (f a)
known_as f g (inr n) = inr (λ b. n (g b))

pub known_both : {A B : Type 0} → Known A → Known B → Known (A × B)
known_both (inl a) (inl b) = inl (a, b)
known_both (inl a) (inr n) = inr (λ c. n c.1)
known_both (inr n) b = inr (λ c. n c.0)

pub known_three : {A B C : Type 0} → Known A → Known B → Known C → Known (A × B × C)
known_three a b c = known_as (λ t. (t.0, t.1.0, t.1.1)) (λ t. (t.0, (t.1, t.2))) (known_both a (known_both b c))

pub known_one : {A B : Type 0} → Known A → Known B → Known (A ⊎ B)
known_one (inl a) b = inl (inl a)
known_one (inr n) (inl b) = inl (inr b)
known_one (inr n) (inr m) = inr (λ c. elim c [ inl a ↦ n a | inr b ↦ m b ])

pub known_not : {A : Type 0} → Known A → Known (A → ⊥)
known_not (inl a) = inr (λ n. n a)
known_not (inr n) = inl n

-- ---- of some, of all

pub known_some : {X : Type 0} (P : X → Type 0) (xs : List X) → ((x : X) → Known (P x)) → Known ((x : X) × Contains xs x × P x)
known_some P [] k = inr (λ s. no_member s.0 s.1)
known_some P (x ∷ xs) k = elim (k x) [
  | inl p ↦ inl (x, first_member x xs, p)
  | inr n ↦ elim (known_some P xs k) [
    | inl s ↦ inl (s.0, later_member x xs s.0 s.1, s.2)
    | inr m ↦ inr (λ s. elim (uncons x xs s.0 s.1) [ inl e ↦ n (subst P (sym e) s.2) | inr t ↦ m (s.0, t, s.2) ])
  ]
]

pub known_below : (P : ℕ → Type 0) (n : ℕ) → ((k : ℕ) → Known (P k)) → Known ((k : ℕ) × (k < n) × P k)
known_below P zero known = inr (λ s. omega (arith, s.1))
known_below P (suc n) known = elim (known n) [
  | inl p ↦ inl (n, omega arith, p)
  | inr not_n ↦ elim (known_below P n known) [
    | inl s ↦ inl (s.0, (let l = s.1 in omega arith), s.2)
    | inr m ↦ inr (λ s. elim (cases_lt s.0 n) [
      | inl l ↦ m (s.0, l, s.2)
      | inr l ↦ not_n (subst P (let h = s.1 in omega arith) s.2)
    ])
  ]
]

pub known_all_below : (P : ℕ → Type 0) (n : ℕ) → ((k : ℕ) → Known (P k)) → Known ((k : ℕ) → k < n → P k)
known_all_below P n known = elim (known_below (λ k. P k → ⊥) n (λ k. known_not (known k))) [
  | inl s ↦ inr (λ f. s.2 (f s.0 s.1))
  | inr none ↦ inl (λ k l. elim (known k) [ inl p ↦ p | inr n ↦ absurd (none (k, l, n)) ])
]

-- ---- of equal things

pub known_test : (b c : Bool) → Known (b ≡ c)
known_test true true = inl refl
known_test false false = inl refl
known_test true false = inr (λ e. cc)
known_test false true = inr (λ e. cc)

pub known_number : (m n : ℕ) → Known (m ≡ n)
known_number m n = cases_eq m n

pub known_less : (m n : ℕ) → Known (m < n)
known_less m n = elim (cases_lt m n) [ inl l ↦ inl l | inr l ↦ inr (λ k. omega arith) ]

pub known_name : (m n : Name) → Known (m ≡ n)
known_name m n = known_as (same_name_is m n) (is_same_name m n) (known_test (same_name m n) true)

pub known_point : (p q : Point) → Known (p ≡ q)
known_point p q = known_as (λ e. λ i. record { change = e.0 i; offset = e.1 i }) (λ e. (ap (λ (p : Point). p.change) e, ap (λ (p : Point). p.offset) e))
    (known_both (known_name p.change q.change) (known_number p.offset q.offset))

pub known_place : (p q : Place) → Known (p ≡ q)
known_place placed.Root placed.Root = inl refl
known_place placed.Root (placed.At q) = inr (λ e. cc)
known_place (placed.At p) placed.Root = inr (λ e. cc)
known_place (placed.At p) (placed.At q) = known_as (ap placed.At) (λ e. cc) (known_point p q)

-- ---- of words

-- a word has a number, and the number is of that word
known_by : {X : Type 0} (rank : X → ℕ) (at : ℕ → X) → ((x : X) → at (rank x) ≡ x) → (x y : X) → Known (x ≡ y)
known_by rank at back x y = known_as (λ e. sym (back x) ∙ ap at e ∙ back y) (ap rank) (known_number (rank x) (rank y))

status_rank : Status → ℕ
status_rank Alive = 0
status_rank Dead = 1
status_rank Zombie = 2

status_at : ℕ → Status
status_at zero = Alive
status_at (suc zero) = Dead
status_at (suc (suc n)) = Zombie

pub known_status : (s t : Status) → Known (s ≡ t)
unfolding status_at status_rank
known_status = known_by status_rank status_at back
  where
    back : (s : Status) → status_at (status_rank s) ≡ s
    back Alive = refl
    back Dead = refl
    back Zombie = refl

kind_rank : VertexKind → ℕ
kind_rank vertex_kind.Name = 0
kind_rank vertex_kind.ExecName = 1
kind_rank vertex_kind.File = 2
kind_rank vertex_kind.Dir = 3
kind_rank vertex_kind.Text = 4

ranked_kind : ℕ → VertexKind
ranked_kind zero = vertex_kind.Name
ranked_kind (suc zero) = vertex_kind.ExecName
ranked_kind (suc (suc zero)) = vertex_kind.File
ranked_kind (suc (suc (suc zero))) = vertex_kind.Dir
ranked_kind (suc (suc (suc (suc n)))) = vertex_kind.Text

pub known_kind : (a b : VertexKind) → Known (a ≡ b)
unfolding ranked_kind kind_rank
known_kind = known_by kind_rank ranked_kind back
  where
    back : (a : VertexKind) → ranked_kind (kind_rank a) ≡ a
    back vertex_kind.Name = refl
    back vertex_kind.ExecName = refl
    back vertex_kind.File = refl
    back vertex_kind.Dir = refl
    back vertex_kind.Text = refl

-- ---- of what stands in a list

-- a list has something at a number of which P holds
pub record HasAt {X : Type 0} (P : ℕ → X → Type 0) (xs : List X) : Type 0 where
  pub number : ℕ
  pub it : X
  pub there : slice_get xs number ≡ Some it
  pub is : P number it

get_low : {X : Type 0} (xs : List X) (k : ℕ) (x : X) → slice_get xs k ≡ Some x → k < length xs
get_low [] k x e = absurd (cc)
get_low (y ∷ ys) zero x e = omega arith
get_low (y ∷ ys) (suc k) x e = (let l = get_low ys k x e in omega arith)

pub known_at : {X : Type 0} (P : ℕ → X → Type 0) (xs : List X) → ((k : ℕ) (x : X) → Known (P k x)) → Known (HasAt P xs)
known_at {X} P xs known =
    known_as (λ s. record { number = s.0; it = s.2.0; there = s.2.1; is = s.2.2 }) (λ h. (h.number, get_low xs h.number h.it h.there, (h.it, h.there, h.is)))
    (known_below (λ k. (x : X) × (slice_get xs k ≡ Some x) × P k x) (length xs) (λ k. here k (slice_get xs k) refl))
  where
    here : (k : ℕ) (o : Option X) → slice_get xs k ≡ o → Known ((x : X) × (slice_get xs k ≡ Some x) × P k x)
    here k None e = inr (λ s. absurd (let f : None ≡ Some s.0 = sym e ∙ s.1 in cc))
    here k (Some x) e = known_as (λ p. (x, e, p)) (λ s. subst (P k) (let f : Some s.0 ≡ Some x = sym s.1 ∙ e in cc) s.2) (known k x)
