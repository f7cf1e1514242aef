-- The hunks that undo those of a change keep the rules of a change.
use Rattle.std.proofs.Common.{◌≡◌, ℕ, ◌+◌, ◌*◌, ◌<◌, ◌≤◌, ◌^◌, List, [], ◌∷◌, length, refl, sym, ◌∙◌, ap, subst, inl, inr, arith, true, length-append}
use Rattle.std.specs.Prelude.{Contains, ◌⊎◌, Some, slice_get, sum_by, flat_map, decimal, nat_le}
use Rattle.std.specs.List.{list_all}
use Rattle.std.proofs.lemmas.Bool.{and_parts, and_from}
use Rattle.std.proofs.lemmas.Bool.Decides.{nat_tests}
use Rattle.std.proofs.lemmas.Fmt.{length-decimal-le}
use Rattle.std.proofs.lemmas.List.Sums.{sum_by-cons}
use Rattle.std.proofs.lemmas.Option.{slice_get_within}
use Rattle.pj_name.specs.declared.name.Name.{Name}
use Rattle.pj_change.specs.declared.hunk.Hunk.{Hunk}
use Rattle.pj_change.specs.declared.hunk.Hunk.TheVariants.{File, Dir, NameOf, Insert, Order, Delete, Revive}
use Rattle.pj_change.specs.declared.change.Record.{Record}
use Rattle.pj_change.specs.Inverse.{IsNumberOf, Undoes, UndoEach}
use Rattle.pj_change.specs.Parts.{parts_of}
use Rattle.pj_change.specs.Positions.{numbered}
use Rattle.pj_change.specs.Rules.{position_count, is_need, are_owners, is_range, is_hunk, are_hunks, rising, each_pair, version_of, apart, ranges_apart}
use Rattle.pj_change.specs.Text.{hunk_text, range, owners}
use Rattle.pj_change.proofs.Decided.{Known, known_number}
use Rattle.pj_change.proofs.HunkLemmas.{hunk_rule, delete_rules}
use Rattle.pj_change.proofs.LengthLemmas.{length-range, length-owners}
use Rattle.pj_change.proofs.Members.{uncons, first_member, later_member, no_member, all_member, all_from}
use Rattle.pj_change.proofs.NeedNumbers.{delete_owner, numbered_need}
use Rattle.pj_change.proofs.OneCover.{numbered_once}
use Rattle.pj_change.proofs.PositionLemmas.{insertion_some}

-- ---- a hunk of an inverse with so many needs

-- it keeps the rules wherever it stands, takes no position, is of a version there is, and is short
pub record Fits (needs : ℕ) (g : Hunk) : Type 0 where
  pub rule : (at : ℕ) → is_hunk needs at g ≡ true
  pub none : position_count g ≡ 0
  pub version : nat_le (version_of g) 2 ≡ true
  pub short : length (hunk_text g) ≤ 60

-- the number of a need
pub record IsNumber (needs k : ℕ) : Type 0 where
  pub from : 1 ≤ k
  pub upto : k ≤ needs

-- a range by one need keeps the rules
range_rule : (needs k start end l : ℕ) → IsNumber needs k → IsNumber needs l → start < end → end < 2 ^ 32 → is_range needs k start end (l ∷ []) ≡ true
unfolding is_range is_need are_owners rising
range_rule needs k start end l a b some small =
    let p = a.from in
    let q = a.upto in
    let r = b.from in
    let s = b.upto in
    grind (arith, nat_tests)

-- a number below 2 ^ 32 has at most ten digits
number_short : (n : ℕ) → n < 2 ^ 32 → length (decimal n) ≤ 10
number_short n small = length-decimal-le 10 n (omega arith) (omega arith) (omega arith)

-- a range is short
range_short : (k start end : ℕ) → k < 2 ^ 32 → start < 2 ^ 32 → end < 2 ^ 32 → length (range k start end) ≤ 32
unfolding range
range_short k start end a b c = simp length-append (omega (arith, number_short k a, number_short start b, number_short end c))

-- so is one owner
owner_short : (l : ℕ) → l < 2 ^ 32 → length (owners (l ∷ [])) ≤ 10
owner_short l small = (let e = length-owners (l ∷ []) (omega arith) in let s = number_short l small in omega (arith, e, s))

-- a `delete` of an inverse
delete_fits : (needs k start end l : ℕ) → needs ≤ 256 → IsNumber needs k → IsNumber needs l → start < end → end < 2 ^ 32 → Fits needs
    (Delete k start end (l ∷ []))
unfolding is_hunk
delete_fits needs k start end l few a b some small = record {
  rule = λ at. range_rule needs k start end l a b some small;
  none = refl;
  version = refl;
  short =
      let e = length-range (Delete k start end (l ∷ [])) k start end (l ∷ []) (inl refl) in
      let p = a.upto in
      let q = b.upto in
      let r = range_short k start end (omega arith) (omega arith) small in
      let o = owner_short l (omega arith) in
      omega (arith, e, r, o);
}

-- a `revive` of an inverse
revive_fits : (needs k start end l : ℕ) → needs ≤ 256 → IsNumber needs k → IsNumber needs l → start < end → end < 2 ^ 32 → Fits needs
    (Revive k start end (l ∷ []))
unfolding is_hunk
revive_fits needs k start end l few a b some small = record {
  rule = λ at. range_rule needs k start end l a b some small;
  none = refl;
  version = refl;
  short =
      let e = length-range (Revive k start end (l ∷ [])) k start end (l ∷ []) (inr refl) in
      let p = a.upto in
      let q = b.upto in
      let r = range_short k start end (omega arith) (omega arith) small in
      let o = owner_short l (omega arith) in
      omega (arith, e, r, o);
}

-- ---- ranges that are apart

-- one ends before the other begins
ranges_after : (k a b l c d : ℕ) → b ≤ c → ranges_apart k a b l c d ≡ true
ranges_after k a b l c d h = grind (arith, nat_tests)

-- of different needs
ranges_other : (k a b l c d : ℕ) → (k ≡ l → ⊥) → ranges_apart k a b l c d ≡ true
ranges_other k a b l c d n = grind (arith, nat_tests)

-- of one need, under whichever numbers
ranges_moved : (o a b c d k l : ℕ) → ranges_apart o a b o c d ≡ true → ranges_apart k a b l c d ≡ true
ranges_moved o a b c d k l h = grind (arith, nat_tests)

-- ---- what undoes a hunk

module _ (c : Record) (needs : List Name) where
  -- a `delete` of positions of the change's own, of a hunk whose first position is first
  abbrev IsOwn : ℕ → Hunk → Hunk → Type 0
  IsOwn first h g = (k : ℕ) × (end : ℕ) × IsNumberOf needs c.name k × (first < end) × (end ≤ first + position_count h) × (g ≡ Delete k first end (k ∷ []))

  -- a `revive` of what the hunk deletes
  abbrev IsBack : Hunk → Hunk → Type 0
  IsBack h g =
      (owner : ℕ) × (start : ℕ) × (end : ℕ) × (by : List ℕ) × (k : ℕ) × (l : ℕ) × (h ≡ Delete owner start end by)
      × IsNumberOf needs (numbered c owner) k × IsNumberOf needs c.name l × (g ≡ Revive k start end (l ∷ []))

  -- what undoes a hunk of the change is one of them
  made : (first : ℕ) (h g : Hunk) → Contains c.change.hunks h → Undoes c needs first h g → IsOwn first h g ⊎ IsBack h g
  made first (File parent name exec) g m u = inl (u.0, first + 1, u.1, omega arith, omega arith, u.2)
  made first (Dir parent name) g m u = inl (u.0, first + 1, u.1, omega arith, omega arith, u.2)
  made first (NameOf parent child name exec) g m u = inl (u.0, first + 1, u.1, omega arith, omega arith, u.2)
  made first (Insert file ups downs bytes) g m u =
      (let some = insertion_some c file ups downs bytes m in inl (u.0, first + length bytes, u.1, omega arith, omega arith, u.2))
  made first (Delete owner start end by) g m u = inr (owner, start, end, by, u.1, u.2, refl, u.3, u.4, u.5)
  made first (Order file source target) g m u = absurd u
  made first (Revive owner start end by) g m u = absurd u

  -- a number of a name is that of a need
  number_is : (n : Name) (k : ℕ) → IsNumberOf needs n k → IsNumber (length needs) k
  number_is n k a =
      let low = slice_get_within needs a.0 n a.2 in
      let e = a.1 in
      record { from = omega arith; upto = omega (arith, low) }

  -- a number is that of one name
  one_name : (m n : Name) (k l : ℕ) → IsNumberOf needs m k → IsNumberOf needs n l → k ≡ l → m ≡ n
  one_name m n k l a b e =
      let p = a.1 in
      let q = b.1 in
      let same : a.0 ≡ b.0 = omega arith in
      let f : Some m ≡ Some n = sym a.2 ∙ ap (slice_get needs) same ∙ b.2 in
      cc

  module _ (few : length needs ≤ 256) (apart_from_itself : Contains c.change.needs c.name → ⊥) where
    -- it keeps the rules
    fits : (first : ℕ) (h g : Hunk) → Contains c.change.hunks h → first + position_count h < 2 ^ 32 → IsOwn first h g ⊎ IsBack h g → Fits (length needs) g
    fits first h g m low (inl (k, end, number, some, inside, is)) =
        subst (Fits (length needs)) (sym is) (delete_fits (length needs) k first end k few (number_is c.name k number)
        (number_is c.name k number) some (omega arith))
    fits first h g m low (inr (owner, start, end, by, k, l, same, number, itself, is)) =
        let rule = hunk_rule (parts_of c.change) c.change.keeps (Delete owner start end by) (subst (Contains c.change.hunks) same m) in
        let r = delete_rules (length c.change.needs) rule.0 owner start end by rule.1 in
        subst (Fits (length needs)) (sym is) (revive_fits (length needs) k start end l few (number_is (numbered c owner) k number)
        (number_is c.name l itself) r.nonempty r.small)

    -- the number of the change itself is that of no change which it deletes from
    other_number : (owner start end : ℕ) (by : List ℕ) → Contains c.change.hunks (Delete owner start end by) → (k l : ℕ) →
        IsNumberOf needs c.name k → IsNumberOf needs (numbered c owner) l → k ≡ l → ⊥
    other_number owner start end by m k l a b e =
        let same : c.name ≡ numbered c owner = one_name c.name (numbered c owner) k l a b e in
        apart_from_itself (subst (Contains c.change.needs) (sym same) (numbered_need c owner (delete_owner c owner start end by m)))

    -- what undoes two hunks one after the other is apart
    made_apart : (first later : ℕ) (h i g f : Hunk) → Contains c.change.hunks h → Contains c.change.hunks i → first + position_count h ≤ later →
        apart h i ≡ true →
        IsOwn first h g ⊎ IsBack h g → IsOwn later i f ⊎ IsBack i f → apart g f ≡ true
    made_apart first later h i g f m n low e (inl (k, end, number, some, inside, is)) (inl (l, stop, other, more, within, so)) =
        subst (λ x. apart x f ≡ true) (sym is) (subst (λ y. apart (Delete k first end (k ∷ [])) y ≡ true) (sym so)
        (ranges_after k first end l later stop (omega arith)))
    made_apart first later h i g f m n low e (inl (k, end, number, some, inside, is)) (inr (owner, start, stop, by, l, j, same, other, itself, so)) =
        let differ = other_number owner start stop by (subst (Contains c.change.hunks) same n) k l number other in
        subst (λ x. apart x f ≡ true) (sym is) (subst (λ y. apart (Delete k first end (k ∷ [])) y ≡ true) (sym so)
        (ranges_other k first end l start stop differ))
    made_apart first later h i g f m n low e (inr (owner, start, end, by, l, j, same, other, itself, is)) (inl (k, stop, number, some, inside, so)) =
        let differ : l ≡ k → ⊥ = λ d. other_number owner start end by (subst (Contains c.change.hunks) same m) k l number other (sym d) in
        subst (λ x. apart x f ≡ true) (sym is) (subst (λ y. apart (Revive l start end (j ∷ [])) y ≡ true) (sym so)
        (ranges_other l start end k later stop differ))
    made_apart first later h i g f m n low e (inr (owner, start, end, by, k, j, same, number, itself, is))
        (inr (o, a, b, by', l, j', same', number', itself', so)) =
        subst (λ x. apart x f ≡ true) (sym is) (subst (λ y. apart (Revive k start end (j ∷ [])) y ≡ true) (sym so) (by_numbers (known_number k l)))
      where
        by_numbers : Known (k ≡ l) → ranges_apart k start end l a b ≡ true
        by_numbers (inr differ) = ranges_other k start end l a b differ
        by_numbers (inl one) =
            let names : numbered c owner ≡ numbered c o = one_name (numbered c owner) (numbered c o) k l number number' one in
            let deleted = subst (Contains c.change.hunks) same m in
            let deleted' = subst (Contains c.change.hunks) same' n in
            let one_owner : owner ≡ o = numbered_once c owner o (delete_owner c owner start end by deleted) (delete_owner c o a b by' deleted') names in
            let ranges : ranges_apart owner start end o a b ≡ true =
            subst (λ y. apart (Delete owner start end by) y ≡ true) same' (subst (λ x. apart x i ≡ true) same e) in
            ranges_moved owner start end a b k l (subst (λ p. ranges_apart owner start end p a b ≡ true) (sym one_owner) ranges)

    -- ---- all of them

    -- a hunk that undoes one of some
    record IsOfOne (first : ℕ) (hs : List Hunk) (g : Hunk) : Type 0 where
      hunk : Hunk
      member : Contains hs hunk
      at : ℕ
      low : first ≤ at
      high : at + position_count hunk ≤ first + sum_by position_count hs
      undoes : Undoes c needs at hunk g

    -- each hunk of an inverse undoes one
    of_one : (first : ℕ) (hs gs : List Hunk) → UndoEach c needs first hs gs → (g : Hunk) → Contains gs g → IsOfOne first hs g
    of_one first [] gs u g m = absurd (no_member g (subst (λ l. Contains l g) u m))
    of_one first (h ∷ hs) [] u g m = absurd u
    of_one first (h ∷ hs) (f ∷ gs) u g m = elim (uncons f gs g m) [
      | inl e ↦ record {
        hunk = h;
        member = first_member h hs;
        at = first;
        low = omega arith;
        high = omega (arith, sum_by-cons position_count h hs);
        undoes = subst (Undoes c needs first h) e u.0;
      }
      | inr n ↦ (
          let r = of_one (first + position_count h) hs gs u.1 g n in
          let l = r.low in
          let k = r.high in
          record {
            hunk = r.hunk;
            member = later_member h hs r.hunk r.member;
            at = r.at;
            low = omega arith;
            high = omega (
              arith,
              k,
              sum_by-cons position_count h hs,
            );
            undoes = r.undoes;
          })
    ]

    module _ (total : sum_by position_count c.change.hunks < 2 ^ 32) where
      -- so each keeps the rules
      pub each_fits : (gs : List Hunk) → UndoEach c needs 0 c.change.hunks gs → (g : Hunk) → Contains gs g → Fits (length needs) g
      each_fits gs u g m =
          let o = of_one 0 c.change.hunks gs u g m in
          let h = o.high in
          fits o.at o.hunk g o.member (omega (arith, h, total)) (made o.at o.hunk g o.member o.undoes)

    -- and each two are apart
    pub pairs_apart : (first : ℕ) (hs gs : List Hunk) → ((h : Hunk) → Contains hs h → Contains c.change.hunks h) → each_pair apart hs ≡ true →
        UndoEach c needs first hs gs → each_pair apart gs ≡ true
    unfolding each_pair
    pairs_apart first [] gs within e u = subst (λ l. each_pair apart l ≡ true) (sym u) refl
    pairs_apart first (h ∷ hs) [] within e u = absurd u
    pairs_apart first (h ∷ hs) (g ∷ gs) within e u =
        let both = and_parts (list_all (apart h) hs) (each_pair apart hs) e in
        let h_in = within h (first_member h hs) in
        and_from (list_all (apart g) gs) (each_pair apart gs)
        (all_from (apart g) gs (λ f m. (
        let o = of_one (first + position_count h) hs gs u.1 f m in
        let i_in = within o.hunk (later_member h hs o.hunk o.member) in
        made_apart first o.at h o.hunk g f h_in i_in o.low (all_member (apart h) hs o.hunk both.0 o.member) (made first h g h_in u.0)
        (made o.at o.hunk f i_in o.undoes))))
        (pairs_apart (first + position_count h) hs gs (λ x m. within x (later_member h hs x m)) both.1 u.1)

-- there are as many hunks
pub same_count : (c : Record) (needs : List Name) (first : ℕ) (hs gs : List Hunk) → UndoEach c needs first hs gs → length gs ≡ length hs
same_count c needs first [] gs u = ap length u
same_count c needs first (h ∷ hs) [] u = absurd u
same_count c needs first (h ∷ hs) (g ∷ gs) u = (let r = same_count c needs (first + position_count h) hs gs u.1 in omega (arith, r))

-- hunks that fit keep the rules one after the other
pub hunks_fit : (needs at : ℕ) (gs : List Hunk) → ((g : Hunk) → Contains gs g → Fits needs g) → are_hunks needs at gs ≡ true
unfolding are_hunks
hunks_fit needs at [] fit = refl
hunks_fit needs at (g ∷ gs) fit =
    let here = fit g (first_member g gs) in
    and_from (is_hunk needs at g) (are_hunks needs (at + position_count g) gs) (here.rule at)
    (hunks_fit needs (at + position_count g) gs (λ f m. fit f (later_member g gs f m)))

-- and are short
pub hunks_short : (needs : ℕ) (gs : List Hunk) → ((g : Hunk) → Contains gs g → Fits needs g) → length (flat_map hunk_text gs) ≤ 60 * length gs
hunks_short needs [] fit = omega arith
hunks_short needs (g ∷ gs) fit =
    let here = (fit g (first_member g gs)).short in
    let rest = hunks_short needs gs (λ f m. fit f (later_member g gs f m)) in
    omega (arith, length-append (hunk_text g) (flat_map hunk_text gs), here, rest)
