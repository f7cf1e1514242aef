-- The rows of a lawful list with one change more, and with one less.
use Rattle.std.proofs.Common.{◌≡◌, ◌∙◌, sym, ap, subst, refl, ℕ, ◌+◌, ◌<◌, Bool, true, false, not, ◌&&◌, ◌||◌, List, [], ◌∷◌, ◌++◌, append_assoc, length, nat_lt, arith, inl, inr}
use Rattle.std.specs.Prelude.{Contains, ◌⊎◌, Some, slice_get}
use Rattle.std.specs.List.{list_any}
use Rattle.std.proofs.lemmas.Bool.Decides.{nat_tests}
use Rattle.std.proofs.lemmas.Bool.{or_cases, or_left, or_right, and_parts, and_from}
use Rattle.pj_change.specs.declared.point.Point.{Point}
use Rattle.pj_change.specs.declared.hunk.Hunk.{Hunk}
use Rattle.pj_change.specs.declared.hunk.Hunk.TheVariants.{File, Dir, NameOf, Insert, Order, Delete, Revive}
use Rattle.pj_change.specs.declared.row.EdgeRow.{EdgeRow}
use Rattle.pj_change.specs.declared.change.Record.{Record}
use Rattle.pj_change.specs.Positions.{place, own_point}
use Rattle.pj_change.specs.Vertices.{is_cut, cuts}
use Rattle.pj_change.specs.CutCounts.{cuts_by}
use Rattle.pj_change.specs.EdgeRows.{IsInside, IsOwnRow, IsInnerRow, IsEdgeRow}
use Rattle.pj_change.specs.Lawful.{is_held, IsLawful, Follows}
use Rattle.pj_change.proofs.Members.{first_member, uncons, no_member, member_at, same_member, passes, any_member, before_member, middle_member, after_member, splits}
use Rattle.pj_change.proofs.LawfulLists.{append_cases, middle_cases, first_part, second_part, held_member, not_held, not_record, one_record}
use Rattle.pj_change.proofs.LawfulChanges.{lawful_push}
use Rattle.pj_change.proofs.DistinctRecords.{lawful_distinct, set_sum}
use Rattle.pj_change.proofs.CountedCuts.{cuts-same}
use Rattle.pj_change.proofs.EqualNames.{at_is}
use Rattle.pj_change.proofs.PositionLemmas.{insertion_some}
use Rattle.pj_cuts.specs.Counted.{Counted, count_at, is_counted}
use Rattle.pj_cuts.specs.CutsOf.{all_cut_points, block_by, AreCutsOf}
use Rattle.pj_cuts.proofs.SetTables.{counted_where_cut}
use Rattle.pj_edges.specs.Orders.{same_row}
use Rattle.pj_edges.specs.Rows.{Rows, has_row}
use Rattle.pj_edges.specs.OwnRows.{rows_of, row_before, IsRowOf, IsRowWithin, AreRowsOf}
use Rattle.pj_edges.proofs.RowOrder.{same_row_equal}
use Rattle.pj_edges.proofs.ListedRows.{own_row_listed}
use Rattle.pj_edges.proofs.TablesOfSets.{given, giving}
use Rattle.pj_outline.specs.Inner as table
use Rattle.pj_outline.specs.Inner.{IsNotInside, IsRowOnceCut, AreRowsOnceCut}
use Rattle.pj_outline.specs.Steps.{OutlineOfMembers}
use Rattle.pj_outline.proofs.CutsHeld.{cut_listed, listed_cut, cut_held}
use Rattle.pj_outline.proofs.BlocksOfSets.{IsInsertion, IsBlockOf, block_found, block_there, begin_together}

-- ---- rows of a list

row_listed : (row : EdgeRow) (rows : List EdgeRow) → list_any (same_row row) rows ≡ true → Contains rows row
row_listed row rows e = (let k = passes (same_row row) rows e in same_member rows (sym ((same_row_equal row k.it).0 k.is)) k.member)

listed_row : (row : EdgeRow) (rows : List EdgeRow) → Contains rows row → list_any (same_row row) rows ≡ true
listed_row row rows m = any_member (same_row row) rows row m ((same_row_equal row row).1 refl)

not_listed : (row : EdgeRow) (rows : List EdgeRow) → (Contains rows row → ⊥) → list_any (same_row row) rows ≡ false
not_listed row rows none = by (list_any (same_row row) rows) refl
  where
    by : (b : Bool) → list_any (same_row row) rows ≡ b → list_any (same_row row) rows ≡ false
    by true e = absurd (none (row_listed row rows e))
    by false e = e

-- ---- blocks

-- a hunk with a point inside is an insertion
inside_made : (hs : List Hunk) (number : ℕ) (hunk : Hunk) → slice_get hs number ≡ Some hunk → (at : ℕ) → IsInside (place hs number) hunk at → (past : ℕ) × IsInsertion hs (place hs number) past × (place hs number < at) × (at < past)
inside_made hs number (File parent name exec) there at i = absurd i
inside_made hs number (Dir parent name) there at i = absurd i
inside_made hs number (NameOf parent child name exec) there at i = absurd i
inside_made hs number (Insert file ups downs bytes) there at i = (
  place hs number + length bytes,
  record { number = number; file = file; ups = ups; downs = downs; bytes = bytes; there = there; first_is = refl; past_is = refl },
  i.0,
  i.1,
)
inside_made hs number (Order file source target) there at i = absurd i
inside_made hs number (Delete owner start end by) there at i = absurd i
inside_made hs number (Revive owner start end by) there at i = absurd i

module _ (S : List Record) (lawful : IsLawful S) (c : Counted) (is : AreCutsOf S c) where
  -- a block of the set that has the point after its first one
  of_inside : (p : Point) → (i : table.IsInside c p) → IsBlockOf S p.change i.first i.past
  of_inside p i = block_found S (lawful_distinct S lawful) c is p.change p.offset i.first i.past i.block

  -- where the table has no such block, the set has none
  not_inside : (w : Record) → Contains S w → (number : ℕ) (hunk : Hunk) → slice_get w.change.hunks number ≡ Some hunk → (at : ℕ) → IsInside (place w.change.hunks number) hunk at → IsNotInside c (own_point w at) → ⊥
  not_inside w m number hunk there at i none =
      let made = inside_made w.change.hunks number hunk there at i in
      let above = made.2 in
      let below = made.3 in
      let block = block_there S (lawful_distinct S lawful) c is w m (place w.change.hunks number) made.0 at made.1 (omega (arith, above)) below in
      elim none [
        | inl free ↦ free (place w.change.hunks number) made.0 block
        | inr begins ↦ (
            let other = block_found S (lawful_distinct S lawful) c is w.name at at begins.0 begins.1 in
            let same : other.owner ≡ w = one_record S lawful other.owner w other.member m other.named in
            let insertion : IsInsertion w.change.hunks at begins.0 = subst (λ (r : Record). IsInsertion r.change.hunks at begins.0) same other.made in
            let upto = begins.1.upto in
            let together = begin_together w.change.hunks (place w.change.hunks number) made.0 at begins.0 at made.1 insertion (omega (arith, above)) below (omega arith) upto in
            omega (arith, together, above))
      ]

  -- a row inside a block of the set, to a point that the set cuts
  row_within : (p : Point) → table.IsInside c p → is_cut S p ≡ true → (row : EdgeRow) → row ≡ row_before p → IsRowWithin S row
  row_within p i cut row e =
      let b = of_inside p i in
      let point : own_point b.owner p.offset ≡ p = λ j. record { change = b.named j; offset = p.offset } in
      record {
        owner = b.owner;
        member = b.member;
        number = b.made.number;
        hunk = Insert b.made.file b.made.ups b.made.downs b.made.bytes;
        there = b.made.there;
        at = p.offset;
        inside = (
            let first = b.made.first_is in
            let past = b.made.past_is in
            let after = i.after in
            let upto = i.block.upto in
            (omega (arith, first, after), omega (arith, first, past, upto)));
        cut = subst (λ q. is_cut S q ≡ true) (sym point) cut;
        is = e ∙ ap row_before (sym point);
      }

  -- the row that an insertion gives to its first position leads to no point inside a block
  no_own_row : (p : Point) → table.IsInside c p → (s : Record) → Contains S s → IsRowOf s (row_before p) → ⊥
  no_own_row p i s m r = told r.hunk r.there r.own
    where
      b : IsBlockOf S p.change i.first i.past
      b = of_inside p i

      told : (hunk : Hunk) → slice_get s.change.hunks r.number ≡ Some hunk → IsOwnRow s (place s.change.hunks r.number) hunk (row_before p) → ⊥
      told (File parent name exec) there own = elim own [ inl k ↦ (let l = k.labelled in cc) | inr k ↦ (let l = k.labelled in cc) ]
      told (Dir parent name) there own = elim own [ inl k ↦ (let l = k.labelled in cc) | inr k ↦ (let l = k.labelled in cc) ]
      told (NameOf parent child name exec) there own = elim own [ inl k ↦ (let l = k.labelled in cc) | inr k ↦ (let l = k.labelled in cc) ]
      told (Insert file ups downs bytes) there own = elim own [
        | inl up ↦ (
            let target : p ≡ own_point s (place s.change.hunks r.number) = at_is p (own_point s (place s.change.hunks r.number)) up.2.to in
            let same : b.owner ≡ s = one_record S lawful b.owner s b.member m (b.named ∙ ap (λ (q : Point). q.change) target) in
            let insertion : IsInsertion s.change.hunks i.first i.past = subst (λ (w : Record). IsInsertion w.change.hunks i.first i.past) same b.made in
            let first : IsInsertion s.change.hunks (place s.change.hunks r.number) (place s.change.hunks r.number + length bytes) =
            record { number = r.number; file = file; ups = ups; downs = downs; bytes = bytes; there = there; first_is = refl; past_is = refl } in
            let offset : p.offset ≡ place s.change.hunks r.number = ap (λ (q : Point). q.offset) target in
            let some = insertion_some s file ups downs bytes (member_at s.change.hunks r.number (Insert file ups downs bytes) there) in
            let after = i.after in
            let upto = i.block.upto in
            let together = begin_together s.change.hunks i.first i.past (place s.change.hunks r.number) (place s.change.hunks r.number + length bytes) p.offset insertion first (omega (arith, after)) upto (omega (arith, offset)) (omega (arith, offset, some)) in
            omega (arith, together, offset, after))
        | inr down ↦ (let l = down.2.labelled in cc)
      ]
      told (Order file source target) there own = (let l = own.labelled in cc)
      told (Delete owner start end by) there own = own
      told (Revive owner start end by) there own = own

-- a row that a hunk says is of its change
own_introducer : (r : Record) (first : ℕ) (hunk : Hunk) (row : EdgeRow) → IsOwnRow r first hunk row → row.introducer ≡ r.name
own_introducer r first (File parent name exec) row own = elim own [ inl k ↦ k.by | inr k ↦ k.by ]
own_introducer r first (Dir parent name) row own = elim own [ inl k ↦ k.by | inr k ↦ k.by ]
own_introducer r first (NameOf parent child name exec) row own = elim own [ inl k ↦ k.by | inr k ↦ k.by ]
own_introducer r first (Insert file ups downs bytes) row own = elim own [ inl k ↦ k.2.by | inr k ↦ k.2.by ]
own_introducer r first (Order file source target) row own = own.by
own_introducer r first (Delete owner start end by) row own = absurd own
own_introducer r first (Revive owner start end by) row own = absurd own

-- and a row of a set of one of its changes
row_held : (S : List Record) (row : EdgeRow) → IsEdgeRow S row → is_held S row.introducer ≡ true
row_held S row h = held_member S row.introducer h.introducer (record { member = h.member; named = sym (by h.is) })
  where
    by : IsOwnRow h.introducer (place h.introducer.change.hunks h.number) h.hunk row ⊎ IsInnerRow S h.introducer (place h.introducer.change.hunks h.number) h.hunk row → row.introducer ≡ h.introducer.name
    by (inl own) = own_introducer h.introducer (place h.introducer.change.hunks h.number) h.hunk row own
    by (inr inner) = ap (λ (q : EdgeRow). q.introducer) inner.is

-- what fewer changes cut, more cut
more_cut : (S T : List Record) → ((r : Record) → Contains S r → Contains T r) → (p : Point) → is_cut S p ≡ true → is_cut T p ≡ true
more_cut S T within p e =
    let k = passes (λ r. list_any (cuts r p) r.change.hunks) S e in
    any_member (λ r. list_any (cuts r p) r.change.hunks) T k.it (within k.it k.member) k.is

-- the rows of fewer changes are rows of more
fewer_rows : (S T : List Record) → ((r : Record) → Contains S r → Contains T r) → (row : EdgeRow) → IsEdgeRow S row → IsEdgeRow T row
fewer_rows S T within row h = record {
  introducer = h.introducer;
  member = within h.introducer h.member;
  number = h.number;
  hunk = h.hunk;
  there = h.there;
  is = elim h.is [
    | inl own ↦ inl own
    | inr inner ↦ inr (record { at = inner.at; inner = inner.inner; cut = more_cut S T within (own_point h.introducer inner.at) inner.cut; is = inner.is })
  ];
}

-- ---- cuts

is_zero : (n : ℕ) → nat_lt 0 n ≡ false → n ≡ 0
is_zero n e = grind (arith, nat_tests)

zero_is : (n : ℕ) → n ≡ 0 → nat_lt 0 n ≡ false
zero_is n e = grind (arith, nat_tests)

some_of : (a b n : ℕ) → n ≡ a + b → nat_lt 0 n ≡ true → a ≡ 0 → nat_lt 0 b ≡ true
some_of a b n e l z = grind (arith, nat_tests)

-- ---- one change more

module _ (S : List Record) (r : Record) (lawful : IsLawful S) (follows : Follows S r) (c d : Counted) (counted : AreCutsOf S c) (more : AreCutsOf (S ++ r ∷ []) d)
    (counts : (p : Point) → count_at d p ≡ count_at c p + cuts_by r p) (e f : Rows) (rows : AreRowsOf S e) (inner : List EdgeRow) (new : AreRowsOnceCut c d (all_cut_points r) inner)
    (has : (q : EdgeRow) → has_row f q ≡ (list_any (same_row q) (rows_of r) || (list_any (same_row q) inner || has_row e q))) where
  whole : IsLawful (S ++ r ∷ [])
  whole = lawful_push S r lawful follows

  within : (s : Record) → Contains S s → Contains (S ++ r ∷ []) s
  within s m = first_part S (r ∷ []) s m

  last : Contains (S ++ r ∷ []) r
  last = second_part S (r ∷ []) r (first_member r [])

  -- a change of the whole that is held before is one of those before
  member_before : (w : Record) → Contains (S ++ r ∷ []) w → is_held S w.name ≡ true → Contains S w
  member_before w m h = elim (append_cases S (r ∷ []) w m) [
    | inl k ↦ k
    | inr k ↦ elim (uncons r [] w k) [
      | inl same ↦ absurd (let fresh = follows.fresh in let name : r.name ≡ w.name = ap (λ (s : Record). s.name) same in let none : is_held S w.name ≡ false = subst (λ n. is_held S n ≡ false) name fresh in cc)
      | inr n ↦ absurd (no_member w n)
    ]
  ]

  listed_there : (row : EdgeRow) → has_row f row ≡ true → IsEdgeRow (S ++ r ∷ []) row
  listed_there row h = elim (or_cases _ _ (sym (has row) ∙ h)) [
    | inl own ↦ giving (S ++ r ∷ []) row (inl (r, last, row_listed row (rows_of r) own))
    | inr rest ↦ elim (or_cases _ _ rest) [
      | inl once ↦ (
          let k = new.each row (row_listed row inner once) in
          let now = count_some k.0 k.1 in
          giving (S ++ r ∷ []) row (inr (row_within (S ++ r ∷ []) whole d more k.0 k.2.inside (sym (counted_where_cut (S ++ r ∷ []) d more k.0.change k.0.offset) ∙ now) row k.2.is)))
      | inr old ↦ fewer_rows S (S ++ r ∷ []) within row ((rows row).0 old)
    ]
  ]
    where
      count_some : (p : Point) → Contains (all_cut_points r) p → is_counted d p.change p.offset ≡ true
      count_some p m = (let l = listed_cut r p m in let n = counts p in grind (arith, nat_tests))

  there_listed : (row : EdgeRow) → IsEdgeRow (S ++ r ∷ []) row → has_row f row ≡ true
  there_listed row h = has row ∙ by (given (S ++ r ∷ []) row h)
    where
      at_old : IsEdgeRow S row → (list_any (same_row row) (rows_of r) || (list_any (same_row row) inner || has_row e row)) ≡ true
      at_old k = or_right _ _ (or_right _ _ ((rows row).1 k))

      at_inner : (w : IsRowWithin (S ++ r ∷ []) row) (b : Bool) → is_counted c w.owner.name w.at ≡ b → (list_any (same_row row) (rows_of r) || (list_any (same_row row) inner || has_row e row)) ≡ true
      at_inner w true some =
          let p = own_point w.owner w.at in
          let cut : is_cut S p ≡ true = sym (counted_where_cut S c counted w.owner.name w.at) ∙ some in
          let before = member_before w.owner w.member (cut_held S lawful p cut) in
          at_old (giving S row (inr (record { owner = w.owner; member = before; number = w.number; hunk = w.hunk; there = w.there; at = w.at; inside = w.inside; cut = cut; is = w.is })))
      at_inner w false none_yet =
          let p = own_point w.owner w.at in
          let now : is_counted d w.owner.name w.at ≡ true = counted_where_cut (S ++ r ∷ []) d more w.owner.name w.at ∙ w.cut in
          let none : count_at c p ≡ 0 = is_zero (count_at c p) none_yet in
          let point = cut_listed r p (some_of (count_at c p) (cuts_by r p) (count_at d p) (counts p) now none) in
          elim (new.all p point) [
            | inl not ↦ absurd (not_inside (S ++ r ∷ []) whole d more w.owner w.member w.number w.hunk w.there w.at w.inside (not none))
            | inr there ↦ or_right _ _ (or_left _ _ (listed_row row inner (same_member inner (sym w.is) there)))
          ]

      by : ((s : Record) × Contains (S ++ r ∷ []) s × Contains (rows_of s) row) ⊎ IsRowWithin (S ++ r ∷ []) row → (list_any (same_row row) (rows_of r) || (list_any (same_row row) inner || has_row e row)) ≡ true
      by (inl own) = elim (append_cases S (r ∷ []) own.0 own.1) [
        | inl k ↦ at_old (giving S row (inl (own.0, k, own.2)))
        | inr k ↦ elim (uncons r [] own.0 k) [
          | inl same ↦ or_left _ _ (listed_row row (rows_of r) (subst (λ s. Contains (rows_of s) row) (sym same) own.2))
          | inr n ↦ absurd (no_member own.0 n)
        ]
      ]
      by (inr w) = at_inner w (is_counted c w.owner.name w.at) refl

  pub one_more : AreRowsOf (S ++ r ∷ []) f
  one_more row = (listed_there row, there_listed row)

-- ---- one change less

module _ (before : List Record) (r : Record) (after : List Record) (lawful : IsLawful (before ++ r ∷ after)) (left : IsLawful (before ++ after)) (c d : Counted)
    (counted : AreCutsOf (before ++ r ∷ after) c) (fewer : AreCutsOf (before ++ after) d) (counts : (p : Point) → count_at d p + cuts_by r p ≡ count_at c p) (e f : Rows)
    (rows : AreRowsOf (before ++ r ∷ after) e) (inner : List EdgeRow) (new : AreRowsOnceCut d c (all_cut_points r) inner)
    (has : (q : EdgeRow) → has_row f q ≡ (not (list_any (same_row q) (rows_of r)) && (not (list_any (same_row q) inner) && has_row e q))) where
  others_within : (s : Record) → Contains (before ++ after) s → Contains (before ++ r ∷ after) s
  others_within s m = elim (append_cases before after s m) [ inl b ↦ before_member before after r s b | inr a ↦ after_member before after r s a ]

  -- the others have other names
  gone : is_held (before ++ after) r.name ≡ false
  gone = not_held (before ++ after) r.name (λ s h. elim (append_cases before after s h.member) [
    | inl b ↦ not_record before r.name (lawful before r after refl).fresh s (record { member = b; named = h.named })
    | inr a ↦ (
        let k = splits after s a in
        let place : before ++ r ∷ after ≡ (before ++ r ∷ k.before) ++ s ∷ k.after = ap (λ l. before ++ r ∷ l) k.is ∙ sym (append_assoc before (r ∷ k.before) (s ∷ k.after)) in
        not_record (before ++ r ∷ k.before) s.name (lawful (before ++ r ∷ k.before) s k.after place).fresh r (record { member = middle_member before k.before r; named = sym h.named }))
  ])

  -- a change of the whole that is held without r is one of the others
  member_left : (w : Record) → Contains (before ++ r ∷ after) w → is_held (before ++ after) w.name ≡ true → Contains (before ++ after) w
  member_left w m h = elim (middle_cases before r after w m) [
    | inl b ↦ first_part before after w b
    | inr k ↦ elim k [
      | inl same ↦ absurd (let none : is_held (before ++ after) w.name ≡ false = subst (λ (s : Record). is_held (before ++ after) s.name ≡ false) same gone in cc)
      | inr a ↦ second_part before after w a
    ]
  ]

  listed_left : (row : EdgeRow) → has_row f row ≡ true → IsEdgeRow (before ++ after) row
  listed_left row h = by (given (before ++ r ∷ after) row ((rows row).0 parts.2))
    where
      parts : (not (list_any (same_row row) (rows_of r)) ≡ true) × (not (list_any (same_row row) inner) ≡ true) × (has_row e row ≡ true)
      parts = (let p = and_parts _ _ (sym (has row) ∙ h) in let q = and_parts _ _ p.1 in (p.0, q.0, q.1))

      not_among : (rows : List EdgeRow) → not (list_any (same_row row) rows) ≡ true → Contains rows row → ⊥
      not_among rows n m = (let l = listed_row row rows m in let k : not true ≡ true = rw l at n in cc)

      at_inner : (w : IsRowWithin (before ++ r ∷ after) row) (b : Bool) → is_counted d w.owner.name w.at ≡ b → IsEdgeRow (before ++ after) row
      at_inner w true some =
          let p = own_point w.owner w.at in
          let cut : is_cut (before ++ after) p ≡ true = sym (counted_where_cut (before ++ after) d fewer w.owner.name w.at) ∙ some in
          let stays = member_left w.owner w.member (cut_held (before ++ after) left p cut) in
          giving (before ++ after) row (inr (record { owner = w.owner; member = stays; number = w.number; hunk = w.hunk; there = w.there; at = w.at; inside = w.inside; cut = cut; is = w.is }))
      at_inner w false none_yet =
          let p = own_point w.owner w.at in
          let was : is_counted c w.owner.name w.at ≡ true = counted_where_cut (before ++ r ∷ after) c counted w.owner.name w.at ∙ w.cut in
          let none : count_at d p ≡ 0 = is_zero (count_at d p) none_yet in
          let point = cut_listed r p (some_of (count_at d p) (cuts_by r p) (count_at c p) (sym (counts p)) was none) in
          elim (new.all p point) [
            | inl not ↦ absurd (not_inside (before ++ r ∷ after) lawful c counted w.owner w.member w.number w.hunk w.there w.at w.inside (not none))
            | inr there ↦ absurd (not_among inner parts.1 (same_member inner (sym w.is) there))
          ]

      by : ((s : Record) × Contains (before ++ r ∷ after) s × Contains (rows_of s) row) ⊎ IsRowWithin (before ++ r ∷ after) row → IsEdgeRow (before ++ after) row
      by (inl own) = elim (middle_cases before r after own.0 own.1) [
        | inl b ↦ giving (before ++ after) row (inl (own.0, first_part before after own.0 b, own.2))
        | inr k ↦ elim k [
          | inl same ↦ absurd (not_among (rows_of r) parts.0 (subst (λ s. Contains (rows_of s) row) (sym same) own.2))
          | inr a ↦ giving (before ++ after) row (inl (own.0, second_part before after own.0 a, own.2))
        ]
      ]
      by (inr w) = at_inner w (is_counted d w.owner.name w.at) refl

  left_listed : (row : EdgeRow) → IsEdgeRow (before ++ after) row → has_row f row ≡ true
  left_listed row h = has row ∙ and_from _ _ (ap not (not_listed row (rows_of r) not_own)) (and_from _ _ (ap not (not_listed row inner not_once)) ((rows row).1 (fewer_rows (before ++ after) (before ++ r ∷ after) others_within row h)))
    where
      not_own : Contains (rows_of r) row → ⊥
      not_own m =
          let own = (own_row_listed r row).0 m in
          let introducer : row.introducer ≡ r.name = own_introducer r (place r.change.hunks own.number) own.hunk row own.own in
          let there = row_held (before ++ after) row h in
          let none : is_held (before ++ after) row.introducer ≡ false = ap (is_held (before ++ after)) introducer ∙ gone in
          cc

      not_once : Contains inner row → ⊥
      not_once m = (let k = new.each row m in by k.0 k.2 (given (before ++ after) row h))
        where
          by : (p : Point) → IsRowOnceCut d c p row → ((s : Record) × Contains (before ++ after) s × Contains (rows_of s) row) ⊎ IsRowWithin (before ++ after) row → ⊥
          by p once (inl own) = no_own_row (before ++ r ∷ after) lawful c counted p once.inside own.0 (others_within own.0 own.1) ((own_row_listed own.0 (row_before p)).0 (same_member (rows_of own.0) once.is own.2))
          by p once (inr w) =
              let target : p ≡ own_point w.owner w.at = ap (λ (q : EdgeRow). q.target) (sym once.is ∙ w.is) in
              let some : is_counted d w.owner.name w.at ≡ true = counted_where_cut (before ++ after) d fewer w.owner.name w.at ∙ w.cut in
              let none : is_counted d w.owner.name w.at ≡ false = zero_is (count_at d (own_point w.owner w.at)) (ap (count_at d) (sym target) ∙ once.uncut) in
              cc

  pub one_less : AreRowsOf (before ++ after) f
  one_less row = (listed_left row, left_listed row)

-- ---- the same changes

-- the outline of a list is that of each list with the same members
pub outline_of_members : OutlineOfMembers
outline_of_members S T same left right o is = record {
  cuts = record {
    counts = λ p. is.cuts.counts p ∙ cuts-same S T same left right p;
    blocks = λ p. is.cuts.blocks p ∙ set_sum S T same left right (λ r. block_by r p);
  };
  edges = λ row. (
    λ h. fewer_rows S T same.there row ((is.edges row).0 h),
    λ h. (is.edges row).1 (fewer_rows T S same.back row h),
  );
}
