-- The map of the changes under `by`: its order, what one hunk gives to it, and when no hunk has a change.
use Rattle.std.proofs.Common.{◌≡◌, ◌∙◌, sym, ap, refl, Bool, true, false, not, ◌&&◌, ◌||◌, List, [], ◌∷◌, map, Option, Some, None, is_some, cond}
use Rattle.std.specs.Cmp.{IsTotalOrder, on_total, then_total}
use Rattle.std.specs.Cmp.Lexicographic.{options_total}
use Rattle.std.specs.Option.{option_cmp}
use Rattle.std.specs.Ordering.{is_eq, is_lt, ordering_then}
use Rattle.std.specs.declared.cmp.Ordering.{Ordering}
use Rattle.std.specs.declared.cmp.Ordering.TheVariants.{Less, Equal, Greater}
use Rattle.std.proofs.lemmas.Cmp.{tied_itself}
use Rattle.pj_name.specs.declared.name.Name.{Name}
use Rattle.pj_name.specs.Name.{name_cmp, same_name}
use Rattle.pj_name.proofs.Names.{name_cmp-total}
use Rattle.pj_change.proofs.EqualNames.{name_tied, same_name_is, name_itself}
use Rattle.pj_pmap.specs.Pairs.{IsRising, next_of, value_at, with_pair, without_key}
use Rattle.pj_pmap.proofs.Lookups.{value_with, value_without}
use Rattle.pj_rows.specs.declared.values.Here.{Here}
use Rattle.pj_rows.specs.Keys.{is_among}
use Rattle.pj_rows.proofs.FoundLemmas.{none_above, next_found}
use Rattle.pj_ranges.specs.declared.range.HunkAt.{HunkAt}
use Rattle.pj_ranges.specs.Units.{hunk_cmp}
use Rattle.pj_ranges.proofs.RangeOrder.{hunk_total}
use Rattle.pj_states.specs.declared.deletion.Deletion.{Deletion}
use Rattle.pj_states.specs.declared.named.NamedAt.{NamedAt}
use Rattle.pj_states.specs.Named.{named_cmp, named_at, is_named, is_one_of, AreNamed}
use Rattle.pj_states.specs.Rows.{Rows, said_by, said_has_by}
use Rattle.pj_states.proofs.HunkOrder.{hunk_tied}

-- ---- the order

named_total : IsTotalOrder named_cmp
named_total = then_total (on_total (λ (k : NamedAt). k.name) name_cmp-total) (on_total (λ (k : NamedAt). k.by) (options_total hunk_total))

-- a test of names is the test of their order
same_by_order : (n b : Name) → is_eq (name_cmp n b) ≡ same_name b n
same_by_order n b = by (name_cmp n b) refl (same_name b n) refl
  where
    by : (o : Ordering) → name_cmp n b ≡ o → (t : Bool) → same_name b n ≡ t → is_eq (name_cmp n b) ≡ same_name b n
    by o e true f = (let is = same_name_is b n f in ap is_eq (ap (name_cmp n) is ∙ tied_itself name_cmp-total n) ∙ sym f)
    by Less e false f = ap is_eq e ∙ sym f
    by Equal e false f = absurd (let is = name_tied n b e in let k : true ≡ false = sym (name_itself n) ∙ ap (λ m. same_name m n) is ∙ f in cc)
    by Greater e false f = ap is_eq e ∙ sym f

-- one key
named_test : (n b : Name) (k j : HunkAt) → is_eq (named_cmp (named_at n k) (named_at b j)) ≡ (same_name b n && is_eq (hunk_cmp k j))
named_test n b k j = by (name_cmp n b) refl (same_by_order n b)
  where
    by : (o : Ordering) → name_cmp n b ≡ o → is_eq (name_cmp n b) ≡ same_name b n → is_eq (named_cmp (named_at n k) (named_at b j)) ≡ (same_name b n && is_eq (hunk_cmp k j))
    by Less e s = ap (λ o. is_eq (ordering_then o (hunk_cmp k j))) e ∙ ap (λ t. t && is_eq (hunk_cmp k j)) (sym (ap is_eq e) ∙ s)
    by Equal e s = ap (λ o. is_eq (ordering_then o (hunk_cmp k j))) e ∙ ap (λ t. t && is_eq (hunk_cmp k j)) (sym (ap is_eq e) ∙ s)
    by Greater e s = ap (λ o. is_eq (ordering_then o (hunk_cmp k j))) e ∙ ap (λ t. t && is_eq (hunk_cmp k j)) (sym (ap is_eq e) ∙ s)

or_and : (a b c : Bool) → ((a && c) || (b && c)) ≡ ((a || b) && c)
or_and true true true = refl
or_and true true false = refl
or_and true false true = refl
or_and true false false = refl
or_and false true true = refl
or_and false true false = refl
or_and false false true = refl
or_and false false false = refl

-- the keys of one hunk
pub among_named : (names : List Name) (by k : HunkAt) (n : Name) → is_among named_cmp (named_at n k) (map (λ name. named_at name by) names) ≡ (is_one_of names n && is_eq (hunk_cmp k by))
among_named [] by k n = refl
among_named (b ∷ names) by k n =
    ap (λ t. t || is_among named_cmp (named_at n k) (map (λ name. named_at name by) names)) (named_test n b k by)
    ∙ ap (λ t. (same_name b n && is_eq (hunk_cmp k by)) || t) (among_named names by k n)
    ∙ or_and (same_name b n) (is_one_of names n) (is_eq (hunk_cmp k by))

-- ---- a search for a change

-- before all hunks of a change
abbrev before : Name → NamedAt
before name = record { name = name; by = None }

above_before : (n : Name) (k : HunkAt) → named_cmp (before n) (named_at n k) ≡ Less
above_before n k = ap (λ o. ordering_then o (option_cmp hunk_cmp None (Some k))) (tied_itself name_cmp-total n)

some_here : {X : Type 0} (o : Option X) → is_some o ≡ true → (x : X) × (o ≡ Some x)
some_here None e = absurd (cc)
some_here (Some x) e = (x, refl)

module _ (es : List (NamedAt × Here)) (rising : IsRising named_cmp es) (n : Name) where
  -- nothing comes
  pub none_named : next_of named_cmp (before n) es ≡ None → (k : HunkAt) → is_named es n k ≡ true → false ≡ true
  none_named none k there =
      let v = some_here (value_at named_cmp (named_at n k) es) there in
      let high : is_lt (named_cmp (before n) (named_at n k)) ≡ false = none_above named_cmp named_total (before n) es none (named_at n k) v.0 v.1 in
      sym high ∙ ap is_lt (above_before n k)

  -- what comes first is of another change
  pub other_named : (p : NamedAt × Here) → next_of named_cmp (before n) es ≡ Some p → (k : HunkAt) → is_named es n k ≡ true → same_name p.0.name n ≡ true
  other_named p next k there = by (name_cmp n p.0.name) refl
    where
      v : (x : Here) × (value_at named_cmp (named_at n k) es ≡ Some x)
      v = some_here (value_at named_cmp (named_at n k) es) there

      first : is_lt (named_cmp (named_at n k) p.0) ≡ false
      first = (next_found named_cmp named_total (before n) es p rising next).first (named_at n k) v.0 v.1 (above_before n k)

      above : named_cmp (before n) p.0 ≡ Less
      above = (next_found named_cmp named_total (before n) es p rising next).above

      by : (o : Ordering) → name_cmp n p.0.name ≡ o → same_name p.0.name n ≡ true
      by Equal e = sym (same_by_order n p.0.name) ∙ ap is_eq e
      by Less e = absurd (let low : is_lt (named_cmp (named_at n k) p.0) ≡ true = ap (λ o. is_lt (ordering_then o (option_cmp hunk_cmp (Some k) p.0.by))) e in let c : false ≡ true = sym first ∙ low in cc)
      by Greater e = absurd (let high : named_cmp (before n) p.0 ≡ Greater = ap (λ o. ordering_then o (option_cmp hunk_cmp None p.0.by)) e in let c : Greater ≡ Less = sym high ∙ above in cc)

-- ---- the map of a table

pub named_none : AreNamed [] []
named_none name k = refl

module _ (rows : Rows) (named now : List (NamedAt × Here)) (x : AreNamed rows named) (k : HunkAt) (d : Deletion) where
  false_and : (b : Bool) → (b && false) ≡ false
  false_and true = refl
  false_and false = refl

  true_and : (b : Bool) → (b && true) ≡ b
  true_and true = refl
  true_and false = refl

  or_false : (b : Bool) → (b || false) ≡ b
  or_false true = refl
  or_false false = refl

  -- with a hunk
  pub named_with : said_by k rows ≡ None → ((name : Name) (j : HunkAt) → is_named now name j ≡ ((is_one_of d.by name && is_eq (hunk_cmp j k)) || is_named named name j)) → AreNamed (with_pair hunk_cmp k d rows) now
  named_with fresh more name j =
      more name j ∙ ap (λ t. (is_one_of d.by name && is_eq (hunk_cmp j k)) || t) (x name j) ∙ by (is_eq (hunk_cmp j k)) refl
      ∙ sym (ap (λ s. said_has_by s name) (value_with hunk_cmp hunk_total j k d rows))
    where
      tie : (o : Ordering) → hunk_cmp j k ≡ o → is_eq (hunk_cmp j k) ≡ true → said_by j rows ≡ None
      tie Less e f = absurd (let c : false ≡ true = sym (ap is_eq e) ∙ f in cc)
      tie Equal e f = ap (λ i. said_by i rows) (hunk_tied j k e) ∙ fresh
      tie Greater e f = absurd (let c : false ≡ true = sym (ap is_eq e) ∙ f in cc)

      by : (b : Bool) → is_eq (hunk_cmp j k) ≡ b → ((is_one_of d.by name && is_eq (hunk_cmp j k)) || said_has_by (said_by j rows) name) ≡ said_has_by (cond (is_eq (hunk_cmp j k)) (Some d) (said_by j rows)) name
      by true e =
          let none = tie (hunk_cmp j k) refl e in
          ap (λ t. (is_one_of d.by name && t) || said_has_by (said_by j rows) name) e ∙ ap (λ s. (is_one_of d.by name && true) || said_has_by s name) none ∙ or_false (is_one_of d.by name && true) ∙ true_and (is_one_of d.by name)
          ∙ sym (ap (λ t. said_has_by (cond t (Some d) (said_by j rows)) name) e)
      by false e =
          ap (λ t. (is_one_of d.by name && t) || said_has_by (said_by j rows) name) e ∙ ap (λ t. t || said_has_by (said_by j rows) name) (false_and (is_one_of d.by name))
          ∙ sym (ap (λ t. said_has_by (cond t (Some d) (said_by j rows)) name) e)

  -- without it
  pub named_without : IsRising hunk_cmp rows → said_by k rows ≡ Some d → ((name : Name) (j : HunkAt) → is_named now name j ≡ (not (is_one_of d.by name && is_eq (hunk_cmp j k)) && is_named named name j)) →
      AreNamed (without_key hunk_cmp k rows) now
  named_without rising said less name j =
      less name j ∙ ap (λ t. not (is_one_of d.by name && is_eq (hunk_cmp j k)) && t) (x name j) ∙ by (is_eq (hunk_cmp j k)) refl
      ∙ sym (ap (λ s. said_has_by s name) (value_without hunk_cmp hunk_total j k rows rising))
    where
      tie : (o : Ordering) → hunk_cmp j k ≡ o → is_eq (hunk_cmp j k) ≡ true → said_by j rows ≡ Some d
      tie Less e f = absurd (let c : false ≡ true = sym (ap is_eq e) ∙ f in cc)
      tie Equal e f = ap (λ i. said_by i rows) (hunk_tied j k e) ∙ said
      tie Greater e f = absurd (let c : false ≡ true = sym (ap is_eq e) ∙ f in cc)

      none_left : (b : Bool) → (not b && b) ≡ false
      none_left true = refl
      none_left false = refl

      by : (b : Bool) → is_eq (hunk_cmp j k) ≡ b → (not (is_one_of d.by name && is_eq (hunk_cmp j k)) && said_has_by (said_by j rows) name) ≡ said_has_by (cond (is_eq (hunk_cmp j k)) None (said_by j rows)) name
      by true e =
          ap (λ t. not (is_one_of d.by name && t) && said_has_by (said_by j rows) name) e ∙ ap (λ t. not t && said_has_by (said_by j rows) name) (true_and (is_one_of d.by name))
          ∙ ap (λ s. not (is_one_of d.by name) && said_has_by s name) (tie (hunk_cmp j k) refl e) ∙ none_left (is_one_of d.by name)
          ∙ sym (ap (λ t. said_has_by (cond t None (said_by j rows)) name) e)
      by false e =
          ap (λ t. not (is_one_of d.by name && t) && said_has_by (said_by j rows) name) e ∙ ap (λ t. not t && said_has_by (said_by j rows) name) (false_and (is_one_of d.by name))
          ∙ sym (ap (λ t. said_has_by (cond t None (said_by j rows)) name) e)
