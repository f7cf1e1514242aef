-- The next target of a source.
use Rattle.std.proofs.Common.{◌≡◌, ◌∙◌, sym, ap, subst, refl, ℕ, zero, suc, ◌<◌, ◌^◌, true, false, List, [], ◌∷◌, length, Option, Some, None, MatchOption, arith}
use Rattle.std.specs.Prelude.{is_some, IsTrue, ◌≢◌, replicate, slice_index}
use Rattle.std.specs.Cmp.Lexicographic.{slice_cmp}
use Rattle.std.specs.Ordering.{is_lt, nat_cmp, ordering_then}
use Rattle.std.specs.declared.cmp.Ordering.{Ordering}
use Rattle.std.specs.declared.cmp.Ordering.TheVariants.{Less, Equal, Greater}
use Rattle.std.proofs.lemmas.Bool.Decides.{nat_tests}
use Rattle.std.proofs.lemmas.Cmp.{tied_itself}
use Rattle.pj_name.specs.Name.{name_cmp, no_name}
use Rattle.pj_name.proofs.Names.{no_name-least}
use Rattle.pj_change.specs.declared.point.Point.{Point}
use Rattle.pj_change.specs.Graph.{point_cmp}
use Rattle.pj_change.proofs.Orders.{point_total}
use Rattle.pj_change.proofs.EqualNames.{point_tied}
use Rattle.pj_pmap.specs.Pairs.{value_at, next_of, IsRising}
use Rattle.pj_pmap.proofs.Order.{less_back, greater_back}
use Rattle.pj_rows.specs.declared.values.Here.{Here}
use Rattle.pj_rows.proofs.KeyLemmas.{value_alike}
use Rattle.pj_rows.proofs.FoundLemmas.{next_found, none_above}
use Rattle.pj_dead.specs.declared.row.PseudoRow.{PseudoRow}
use Rattle.pj_dead.specs.PointGraphs.{is_above}
use Rattle.pj_dead.specs.Pseudo.{row_cmp, HasRow, IsNoTarget, IsNextTarget, IsNoneAbove, IsFirstAbove, least_point}
use Rattle.pj_dead.proofs.RowKeys.{row_total}

-- ---- the order

found : (k : PseudoRow) (rows : List (PseudoRow × Here)) → HasRow rows k → (v : Here) × (value_at row_cmp k rows ≡ Some v)
found k rows h = by (value_at row_cmp k rows) refl h
  where
    by : (v : Option Here) → value_at row_cmp k rows ≡ v → is_some v ≡ true → (v : Here) × (value_at row_cmp k rows ≡ Some v)
    by None e t = absurd (cc)
    by (Some v) e t = (v, e)

no_less : (o : Ordering) → o ≡ Less → is_lt o ≡ false → ⊥
no_less o e h = (let l : is_lt o ≡ true = ap is_lt e in cc)

not_less : (o : Ordering) → is_lt o ≡ false → o ≢ Less
not_less o h e = no_less o e h

less_is : (o : Ordering) → is_lt o ≡ true → o ≡ Less
less_is Less h = refl
less_is Equal h = absurd (cc)
less_is Greater h = absurd (cc)

not_equal : Less ≡ Equal → ⊥
not_equal e = cc

above_not_equal : Greater ≡ Equal → ⊥
above_not_equal e = cc

pub points_apart : (p q : Point) (o : Ordering) → point_cmp p q ≡ o → (o ≡ Equal → ⊥) → p ≡ q → ⊥
points_apart p q o h n e = n (sym h ∙ subst (λ x. point_cmp p x ≡ Equal) e (tied_itself point_total p))

rest_of : PseudoRow → PseudoRow → Ordering
rest_of a b = ordering_then (point_cmp a.target b.target) (point_cmp a.least b.least)

source_first : (a b : PseudoRow) (o : Ordering) → point_cmp a.source b.source ≡ o → (o ≡ Equal → ⊥) → row_cmp a b ≡ o
unfolding rest_of
source_first a b Less h n = ap (λ c. ordering_then c (rest_of a b)) h
source_first a b Equal h n = absurd (n refl)
source_first a b Greater h n = ap (λ c. ordering_then c (rest_of a b)) h

same_source : (a b : PseudoRow) → a.source ≡ b.source → row_cmp a b ≡ ordering_then (point_cmp a.target b.target) (point_cmp a.least b.least)
same_source a b e = (let t : point_cmp a.source b.source ≡ Equal = subst (λ s. point_cmp a.source s ≡ Equal) e (tied_itself point_total a.source) in ap (λ c. ordering_then c (ordering_then (point_cmp a.target b.target) (point_cmp a.least b.least))) t)

below_by_target : (a b : PseudoRow) → a.source ≡ b.source → point_cmp a.target b.target ≡ Less → row_cmp a b ≡ Less
below_by_target a b e l = same_source a b e ∙ ap (λ c. ordering_then c (point_cmp a.least b.least)) l

-- ---- the greatest point and the least one

byte_under : (b : ℕ) → b < 256 → nat_cmp b 255 ≡ Greater → ⊥
byte_under b l f = grind (arith, nat_tests)

bytes_under : (b : ℕ) (rest : Ordering) → b < 256 → rest ≢ Greater → ordering_then (nat_cmp b 255) rest ≢ Greater
bytes_under b rest l more h = by (nat_cmp b 255) refl
  where
    by : (o : Ordering) → nat_cmp b 255 ≡ o → ⊥
    by Less f = (let g : Less ≡ Greater = sym (ap (λ o. ordering_then o rest) f) ∙ h in cc)
    by Equal f = more (sym (ap (λ o. ordering_then o rest) f) ∙ h)
    by Greater f = byte_under b l f

under_most : (bytes : List ℕ) (n : ℕ) → length bytes ≡ n → ((i : ℕ) → slice_index bytes i < 256) → slice_cmp nat_cmp bytes (replicate n 255) ≢ Greater
under_most [] zero e small h = cc
under_most [] (suc n) e small h = absurd (omega arith)
under_most (b ∷ bytes) zero e small h = absurd (omega arith)
under_most (b ∷ bytes) (suc n) e small h = bytes_under b (slice_cmp nat_cmp bytes (replicate n 255)) (small 0) (under_most bytes n (omega arith) (λ i. small (suc i))) h

offset_under : (m : ℕ) → m < 2 ^ 32 → nat_cmp m 4294967295 ≢ Greater
offset_under m l h = grind (arith, nat_tests)

not_greater_then : (a b : Ordering) → a ≢ Greater → b ≢ Greater → ordering_then a b ≢ Greater
not_greater_then Less b h k e = cc
not_greater_then Equal b h k e = k e
not_greater_then Greater b h k e = h refl

pub under_greatest : (p most : Point) → most.change.bytes ≡ replicate 32 255 → most.offset ≡ 4294967295 → p.offset < 2 ^ 32 → point_cmp p most ≢ Greater
under_greatest p most e f l =
    not_greater_then (name_cmp p.change most.change) (nat_cmp p.offset most.offset)
    (subst (λ bs. slice_cmp nat_cmp p.change.bytes bs ≢ Greater) (sym e) (under_most p.change.bytes 32 p.change.whole p.change.small))
    (subst (λ n. nat_cmp p.offset n ≢ Greater) (sym f) (offset_under p.offset l))

not_less_then : (a b : Ordering) → is_lt a ≡ false → is_lt b ≡ false → is_lt (ordering_then a b) ≡ false
not_less_then Less b h k = h
not_less_then Equal b h k = k
not_less_then Greater b h k = refl

zero_least : (n : ℕ) → is_lt (nat_cmp n 0) ≡ false
zero_least n = grind (arith, nat_tests)

point_least : (p : Point) → is_lt (point_cmp p least_point) ≡ false
point_least p = not_less_then (name_cmp p.change no_name) (nat_cmp p.offset 0) (no_name-least p.change) (zero_least p.offset)

-- ---- the row after a key

module _ (rows : List (PseudoRow × Here)) (key : PseudoRow) where
  pub none_after : next_of row_cmp key rows ≡ None → IsNoneAbove rows key
  none_after e row there of above = (let w = found row rows there in no_less (row_cmp key row) above (none_above row_cmp row_total key rows e row w.0 w.1))

  module _ (rising : IsRising row_cmp rows) (row : PseudoRow) (v : Here) (e : next_of row_cmp key rows ≡ Some (row, v)) where
    pub other_after : (row.source ≡ key.source → ⊥) → IsNoneAbove rows key
    other_after other q there of above =
        let n = next_found row_cmp row_total key rows (row, v) rising e in
        let w = found q rows there in
        by (point_cmp key.source row.source) refl n.above (n.first q w.0 w.1 above)
      where
        by : (o : Ordering) → point_cmp key.source row.source ≡ o → row_cmp key row ≡ Less → is_lt (row_cmp q row) ≡ false → ⊥
        by Less t next low = no_less (row_cmp q row) (source_first q row Less (ap (λ s. point_cmp s row.source) of ∙ t) not_equal) low
        by Equal t next low = other (sym (point_tied key.source row.source t))
        by Greater t next low = (let clash : Greater ≡ Less = sym (source_first key row Greater t above_not_equal) ∙ next in cc)

    pub same_after : row.least.offset < 2 ^ 32 → row.source ≡ key.source → IsFirstAbove rows key row.target
    same_after small of =
        let n = next_found row_cmp row_total key rows (row, v) rising e in
        let same : row ≡ record { source = key.source; target = row.target; least = row.least } = λ i. record { source = of i; target = row.target; least = row.least } in
        record {
          least = row.least;
          small = small;
          there = subst (HasRow rows) same (ap is_some n.found);
          above = subst (λ r. row_cmp key r ≡ Less) same n.above;
          first = λ q there of_q above less.
              (let w = found q rows there in no_less (row_cmp q row) (below_by_target q row (of_q ∙ sym of) less) (n.first q w.0 w.1 above));
        }

-- ---- from one source

module _ (rows : List (PseudoRow × Here)) (source : Point) where
  abbrev pub to_row : Point → Point → PseudoRow
  to_row target least = record { source = source; target = target; least = least }

  module _ (target most : Point) (greatest : (p : Point) → p.offset < 2 ^ 32 → point_cmp p most ≢ Greater) where
    above_key : (q least : Point) → IsTrue (is_above (Some target) q) → row_cmp (to_row target most) (to_row q least) ≡ Less
    above_key q least a = below_by_target (to_row target most) (to_row q least) refl (less_is (point_cmp target q) a)

    key_above : (q least : Point) → least.offset < 2 ^ 32 → row_cmp (to_row target most) (to_row q least) ≡ Less → IsTrue (is_above (Some target) q)
    key_above q least small h = by (point_cmp target q) refl (sym (same_source (to_row target most) (to_row q least) refl) ∙ h)
      where
        by : (o : Ordering) → point_cmp target q ≡ o → ordering_then (point_cmp target q) (point_cmp most least) ≡ Less → is_lt (point_cmp target q) ≡ true
        by Less e k = ap is_lt e
        by Equal e k =
            let l : point_cmp most least ≡ Less = sym (ap (λ o. ordering_then o (point_cmp most least)) e) ∙ k in
            absurd (greatest least small (greater_back point_total most least l))
        by Greater e k = absurd (let l : Greater ≡ Less = sym (ap (λ o. ordering_then o (point_cmp most least)) e) ∙ k in cc)

    pub no_target : IsNoneAbove rows (to_row target most) → IsNoTarget rows source (Some target)
    no_target none q l a = none (to_row q l.least) l.there refl (above_key q l.least a)

    pub next_target : (q : Point) → IsFirstAbove rows (to_row target most) q → IsNextTarget rows source (Some target) q
    next_target q f = record {
      leads = record { least = f.least; there = f.there };
      above = key_above q f.least f.small f.above;
      first = λ r l a. f.first (to_row r l.least) l.there refl (above_key r l.least a);
    }

  -- ---- the first target

  pub least_target : HasRow rows (to_row least_point least_point) → IsNextTarget rows source None least_point
  least_target there = record { leads = record { least = least_point; there = there }; above = refl; first = λ q l a. not_less (point_cmp q least_point) (point_least q) }

  least_below : (q least : Point) → is_lt (row_cmp (to_row q least) (to_row least_point least_point)) ≡ false
  least_below q least = ap is_lt (same_source (to_row q least) (to_row least_point least_point) refl) ∙ not_less_then (point_cmp q least_point) (point_cmp least least_point) (point_least q) (point_least least)

  -- where the least row is not there, all rows of the source are above it
  above_least : value_at row_cmp (to_row least_point least_point) rows ≡ None → (q least : Point) → HasRow rows (to_row q least) → row_cmp (to_row least_point least_point) (to_row q least) ≡ Less
  above_least none q least there = by (row_cmp (to_row q least) (to_row least_point least_point)) refl
    where
      by : (o : Ordering) → row_cmp (to_row q least) (to_row least_point least_point) ≡ o → row_cmp (to_row least_point least_point) (to_row q least) ≡ Less
      by Less e = absurd (no_less (row_cmp (to_row q least) (to_row least_point least_point)) e (least_below q least))
      by Equal e =
          let v : value_at row_cmp (to_row q least) rows ≡ None = value_alike row_cmp row_total (to_row q least) (to_row least_point least_point) rows e ∙ none in
          absurd (let f : is_some (value_at row_cmp (to_row q least) rows) ≡ false = ap is_some v in let k : true ≡ false = sym there ∙ f in cc)
      by Greater e = less_back row_total (to_row q least) (to_row least_point least_point) e

  module _ (none : value_at row_cmp (to_row least_point least_point) rows ≡ None) where
    pub no_first : IsNoneAbove rows (to_row least_point least_point) → IsNoTarget rows source None
    no_first h q l a = h (to_row q l.least) l.there refl (above_least none q l.least l.there)

    pub first_target : (q : Point) → IsFirstAbove rows (to_row least_point least_point) q → IsNextTarget rows source None q
    first_target q f = record {
      leads = record { least = f.least; there = f.there };
      above = refl;
      first = λ r l a. f.first (to_row r l.least) l.there refl (above_least none r l.least l.there);
    }

  -- ---- answers

  pub next_answer : (target most : Point) → ((p : Point) → p.offset < 2 ^ 32 → point_cmp p most ≢ Greater) → (answer : Option Point) →
      MatchOption answer (IsNoneAbove rows (to_row target most)) (IsFirstAbove rows (to_row target most)) → MatchOption answer (IsNoTarget rows source (Some target)) (IsNextTarget rows source (Some target))
  next_answer target most greatest None h = no_target target most greatest h
  next_answer target most greatest (Some q) h = next_target target most greatest q h

  pub first_answer : value_at row_cmp (to_row least_point least_point) rows ≡ None → (answer : Option Point) →
      MatchOption answer (IsNoneAbove rows (to_row least_point least_point)) (IsFirstAbove rows (to_row least_point least_point)) → MatchOption answer (IsNoTarget rows source None) (IsNextTarget rows source None)
  first_answer none None h = no_first none h
  first_answer none (Some q) h = first_target none q h
