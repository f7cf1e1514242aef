-- What loops over the vertices of a table find.
use Rattle.std.proofs.Common.{◌≡◌, ◌∙◌, sym, ap, subst, refl, ℕ, zero, suc, ◌+◌, ◌<◌, ◌≤◌, Bool, true, false, List, [], ◌∷◌, ◌++◌, length, get_or, take, arith, cond, inl, inr}
use Rattle.std.specs.Prelude.{◌⊎◌, ◌||◌, Some, None, nat_le}
use Rattle.std.specs.List.{find, filter, list_any}
use Rattle.std.proofs.lemmas.Bool.{and_parts}
use Rattle.std.proofs.lemmas.Bool.Decides.{nat_tests}
use Rattle.std.proofs.lemmas.List.{take_more, take_all}
use Rattle.std.proofs.lemmas.List.Folds.{list_any_more}
use Rattle.std.proofs.lemmas.List.Elements.{filter-append}
use Rattle.std.proofs.lemmas.List.{map-append}
use Rattle.pj_change.specs.declared.point.Point.{Point}
use Rattle.pj_change.proofs.EqualNames.{same_name_is}
use Rattle.test_tables.specs.declared.dead.shape.Shape.{Shape}
use Rattle.test_tables.specs.ListedGraphs.{firsts, IsShape, IsBefore, AreApart, is_shape}

-- ---- a search

pub none_yet : {X : Type 0} (t : X → Bool) (xs : List X) (i : ℕ) (x : X) → i < length xs → x ≡ get_or xs i x → list_any t (take i xs) ≡ false → t x ≡ false → list_any t (take (i + 1) xs) ≡ false
none_yet t xs i x low is before now = list_any_more t xs i x low ∙ ap (λ b. b || t (get_or xs i x)) before ∙ ap t (sym is) ∙ now

pub found_now : {X : Type 0} (t : X → Bool) (xs : List X) (i : ℕ) (x : X) → i < length xs → x ≡ get_or xs i x → list_any t (take i xs) ≡ false → t x ≡ true → find t xs ≡ Some x
found_now t [] i x low is before now = absurd (omega (arith, low))
found_now t (y ∷ ys) zero x low is before now =
    let e : t y ≡ true = sym (ap t is) ∙ now in
    rw e (ap Some (sym is))
found_now t (y ∷ ys) (suc i) x low is before now = by (t y) refl (found_now t ys i x (omega (arith, low)) is)
  where
    by : (b : Bool) → t y ≡ b → (list_any t (take i ys) ≡ false → t x ≡ true → find t ys ≡ Some x) → find t (y ∷ ys) ≡ Some x
    by true e rest = absurd (let f : true ≡ false = rw e at before in cc)
    by false e rest = (let f : list_any t (take i ys) ≡ false = rw e at before in rw e (rest f now))

pub none_found : {X : Type 0} (t : X → Bool) (xs : List X) → list_any t xs ≡ false → find t xs ≡ None
none_found t [] none = refl
none_found t (y ∷ ys) none = by (t y) refl (none_found t ys)
  where
    by : (b : Bool) → t y ≡ b → (list_any t ys ≡ false → find t ys ≡ None) → find t (y ∷ ys) ≡ None
    by true e rest = absurd (let f : true ≡ false = rw e at none in cc)
    by false e rest = (let f : list_any t ys ≡ false = rw e at none in rw e (rest f))

pub none_at_all : {X : Type 0} (t : X → Bool) (xs : List X) (i : ℕ) → length xs ≤ i → list_any t (take i xs) ≡ false → list_any t xs ≡ false
none_at_all t xs i high none = subst (λ l. list_any t l ≡ false) (take_all i xs high) none

-- ---- a neighbour

-- one vertex more
pub one_more : (t : Point → Bool) (shapes : List Shape) (i : ℕ) (s : Shape) → i < length shapes → s ≡ get_or shapes i s → filter t (firsts (take (i + 1) shapes)) ≡ filter t (firsts (take i shapes)) ++ cond (t s.first) (s.first ∷ []) []
one_more t shapes i s low is =
    ap (λ l. filter t (firsts l)) (take_more shapes i s low ∙ ap (λ z. take i shapes ++ z ∷ []) (sym is))
    ∙ ap (filter t) (map-append (λ (z : Shape). z.first) (take i shapes) (s ∷ []))
    ∙ filter-append t (firsts (take i shapes)) (s.first ∷ [])

pub all_of_them : (t : Point → Bool) (shapes : List Shape) (i : ℕ) → length shapes ≤ i → filter t (firsts (take i shapes)) ≡ filter t (firsts shapes)
all_of_them t shapes i high = ap (λ l. filter t (firsts l)) (take_all i shapes high)

-- ---- order

nat_le_is : (m n : ℕ) → nat_le m n ≡ true → m ≤ n
nat_le_is m n h = grind (arith, nat_tests)

pub shape_is : (s : Shape) → is_shape s ≡ true → IsShape s
shape_is s h =
    let a = and_parts _ (nat_le s.first.offset s.last.offset) h in
    (same_name_is s.last.change s.first.change a.0, nat_le_is s.first.offset s.last.offset a.1)

-- the first ones are vertices, and end before each one behind them begins
pub record AreApartTo (shapes : List Shape) (n : ℕ) : Type 0 where
  pub each : (k : ℕ) (d : Shape) → k < n → k < length shapes → IsShape (get_or shapes k d)
  pub apart : (k j : ℕ) (d : Shape) → k < n → k < j → j < length shapes → IsBefore (get_or shapes k d) (get_or shapes j d)

pub apart_none : (shapes : List Shape) → AreApartTo shapes 0
apart_none shapes = record { each = λ k d low. absurd (omega (arith, low)); apart = λ k j d low. absurd (omega (arith, low)) }

below_next : (k n : ℕ) → k < n + 1 → (k < n) ⊎ (k ≡ n)
below_next k n l = grind (arith)

any_default : {X : Type 0} (xs : List X) (i : ℕ) (d e : X) → i < length xs → get_or xs i d ≡ get_or xs i e
any_default [] i d e l = absurd (omega (arith, l))
any_default (x ∷ xs) zero d e l = refl
any_default (x ∷ xs) (suc i) d e l = any_default xs i d e (omega (arith, l))

pub apart_more : (shapes : List Shape) (n : ℕ) (s : Shape) → n < length shapes → s ≡ get_or shapes n s → AreApartTo shapes n → IsShape s →
    ((j : ℕ) (d : Shape) → n < j → j < length shapes → IsBefore (get_or shapes n d) (get_or shapes j d)) → AreApartTo shapes (n + 1)
apart_more shapes n s low is so_far shape before = record {
  each = λ k d less within. elim (below_next k n less) [
    | inl l ↦ so_far.each k d l within
    | inr e ↦ subst (λ m. IsShape (get_or shapes m d)) (sym e) (subst IsShape (is ∙ any_default shapes n s d low) shape)
  ];
  apart = λ k j d less up within. elim (below_next k n less) [
    | inl l ↦ so_far.apart k j d l up within
    | inr e ↦ subst (λ m. IsBefore (get_or shapes m d) (get_or shapes j d)) (sym e) (before j d (subst (λ m. m < j) e up) within)
  ];
}

pub apart_all : (shapes : List Shape) (n : ℕ) → length shapes ≤ n → AreApartTo shapes n → AreApart shapes
apart_all shapes n high a = record {
  each = λ s m. subst IsShape m.2 (a.each m.0 s (omega (arith, high, m.1)) m.1);
  apart = λ i j d up within. a.apart i j d (omega (arith, high, up, within)) up within;
}
