-- The inverse of a change that does not need itself, or its first hunk without one.
use Rattle.std.proofs.Common.{◌≡◌, ℕ, zero, suc, ◌+◌, ◌*◌, ◌<◌, ◌≤◌, List, [], ◌∷◌, ◌++◌, length, take, refl, sym, ◌∙◌, ap, subst, inl, inr, arith, true, not, length-append}
use Rattle.std.specs.Prelude.{Contains, ◌⊎◌, Option, Some, None, slice_get, flat_map, codes, decimal, nat_eq, nat_le}
use Rattle.std.specs.List.Sorted.{IsStrictlySortedBy}
use Rattle.std.specs.Ordering.{is_lt}
use Rattle.std.specs.declared.cmp.Ordering.TheVariants.{Less}
use Rattle.std.proofs.Math.Seq.{take-length}
use Rattle.std.proofs.lemmas.Bool.{cases_lt, and_from, le-leb}
use Rattle.std.proofs.lemmas.Bool.Decides.{nat_tests}
use Rattle.std.proofs.lemmas.Fmt.{length-decimal-le}
use Rattle.std.proofs.lemmas.Option.{slice_get_read, same_Some}
use Rattle.pj_name.specs.declared.name.Name.{Name}
use Rattle.pj_name.specs.Name.{hex, name_cmp, name_below, is_lower_hex_digit}
use Rattle.pj_name.proofs.Names.{name_cmp-total, IsHex-hex, length-hex}
use Rattle.pj_change.specs.declared.hunk.Hunk.{Hunk}
use Rattle.pj_change.specs.declared.hunk.Hunk.TheVariants.{File, Dir, NameOf, Insert, Order, Delete, Revive}
use Rattle.pj_change.specs.declared.limits.TheConstants.{MOST_NEEDS}
use Rattle.pj_change.specs.declared.change.Change.{Change}
use Rattle.pj_change.specs.declared.change.Record.{Record}
use Rattle.pj_change.specs.Inverse.{IsInverseNeed, AreInverseNeeds, IsNumberOf, DeletesOwn, Undoes, UndoEach, IsInverse, IsUndoable, HasInverse, IsFirstWithoutInverse}
use Rattle.pj_change.specs.Inverse.IsInverseNeed.{itself, deleted}
use Rattle.pj_change.specs.Parts.{parts_of}
use Rattle.pj_change.specs.Positions.{numbered}
use Rattle.pj_change.specs.Rules.{position_count, rising, is_line, version_of, IsChange}
use Rattle.pj_change.specs.Text.{Parts, parts, hunk_text, text_of}
use Rattle.pj_change.proofs.ChangeLemmas.{length-line}
use Rattle.pj_change.proofs.Decided.{Known, known_as, known_both}
use Rattle.pj_change.proofs.EqualNames.{name_tied}
use Rattle.pj_change.proofs.LengthLemmas.{length-text_of}
use Rattle.pj_change.proofs.Members.{first_member, later_member, all_from, each}
use Rattle.pj_change.proofs.PlaceLemmas.{few_positions}
use Rattle.pj_change.proofs.Separated.{lacks-append}
use Rattle.pj_inverse.proofs.FirstRefused.{needs_one}
use Rattle.pj_inverse.proofs.InverseNeeds.{deleted_change, needs_start}
use Rattle.pj_answers.proofs.Finite as finite
use Rattle.pj_answers.proofs.InverseRules.{Fits, each_fits, pairs_apart, same_count, hunks_fit, hunks_short}
use Rattle.pj_answers.proofs.Tests.{known_bytes}
use Rattle.pj_answers.proofs.Texts.{known_up_to}

module _ (c : Record) where
  -- ---- the needs

  -- the change itself, or one that a hunk deletes from
  abbrev IsNeed : List Hunk → Name → Type 0
  IsNeed hs n = (c.name ≡ n) ⊎ ((h : Hunk) × Contains hs h × (deleted_change c h ≡ Some n))

  -- these are the needs of an inverse
  need_is : (hs : List Hunk) (n : Name) → IsNeed hs n → IsInverseNeed c hs n
  need_is hs n (inl e) = subst (IsInverseNeed c hs) e itself
  need_is hs n (inr (h, m, e)) = at h m e
    where
      at : (h : Hunk) → Contains hs h → deleted_change c h ≡ Some n → IsInverseNeed c hs n
      at (Delete owner start end by) m e = subst (IsInverseNeed c hs) (same_Some (numbered c owner) n e) (deleted m)
      at (File parent name exec) m e = absurd (cc)
      at (Dir parent name) m e = absurd (cc)
      at (NameOf parent child name exec) m e = absurd (cc)
      at (Insert file ups downs bytes) m e = absurd (cc)
      at (Order file source target) m e = absurd (cc)
      at (Revive owner start end by) m e = absurd (cc)

  -- and no others
  is_need : (hs : List Hunk) (n : Name) → IsInverseNeed c hs n → IsNeed hs n
  is_need hs n itself = inl refl
  is_need hs n (deleted {owner} {start} {end} {by} m) = inr (Delete owner start end by, m, refl)

  -- the needs of an inverse of some hunks
  needs_there : (hs : List Hunk) → (needs : List Name) × AreInverseNeeds c hs needs
  needs_there hs = finite.listed name_cmp name_cmp-total (IsInverseNeed c hs)
      (finite.alike (IsNeed hs) (IsInverseNeed c hs) (need_is hs) (is_need hs)
      (finite.either _ _ (finite.one (λ n. c.name ≡ n) c.name refl (λ n e. e))
      (finite.some (λ h n. deleted_change c h ≡ Some n) hs (λ h m. by (deleted_change c h)))))
      (λ m n a b e. name_tied m n e)
    where
      by : (o : Option Name) → finite.Finite (λ n. o ≡ Some n)
      by None = finite.none (λ n. None ≡ Some n) (λ n e. cc)
      by (Some m) = finite.one (λ n. Some m ≡ Some n) m refl (λ n e. same_Some m n e)

  -- ---- whether a hunk has an inverse

  -- whether it can be undone
  known_undoable : (h : Hunk) → Known (IsUndoable h)
  known_undoable (Delete owner start end by) = known_bytes by (owner ∷ [])
  known_undoable (Order file source target) = inr (λ h. h)
  known_undoable (Revive owner start end by) = inr (λ h. h)
  known_undoable (File parent name exec) = inl tt
  known_undoable (Dir parent name) = inl tt
  known_undoable (NameOf parent child name exec) = inl tt
  known_undoable (Insert file ups downs bytes) = inl tt

  -- and the needs are few enough
  known_has : (k : ℕ) → Known (HasInverse c k)
  known_has k = by (slice_get c.change.hunks k) refl
    where
      by : (o : Option Hunk) → slice_get c.change.hunks k ≡ o → Known (HasInverse c k)
      by None e = inr (λ has. (let f : None ≡ Some has.hunk = sym e ∙ has.there in cc))
      by (Some h) e =
          let needs = needs_there (take (suc k) c.change.hunks) in
          known_as (λ x. record { hunk = h; there = e; undoable = x.0; needs = needs.0; needs_are = needs.1; few = x.1 })
          (λ has. (
            subst IsUndoable (same_Some has.hunk h (sym has.there ∙ e)) has.undoable,
            subst (λ l. length l ≤ MOST_NEEDS) (needs_one c (take (suc k) c.change.hunks) has.needs needs.0 has.needs_are needs.1) has.few,
          ))
          (known_both (known_undoable h) (known_up_to (length needs.0) MOST_NEEDS))

  -- a hunk is the first without an inverse, or all have one
  first_without : (n : ℕ) → n ≤ length c.change.hunks → ((k : ℕ) × IsFirstWithoutInverse c k) ⊎ ((j : ℕ) → j < n → HasInverse c j)
  first_without zero low = inr (λ j l. absurd (omega (arith, l)))
  first_without (suc n) low = by (first_without n (omega (arith, low))) (known_has n)
    where
      by : ((k : ℕ) × IsFirstWithoutInverse c k) ⊎ ((j : ℕ) → j < n → HasInverse c j) → Known (HasInverse c n) →
          ((k : ℕ) × IsFirstWithoutInverse c k) ⊎ ((j : ℕ) → j < suc n → HasInverse c j)
      by (inl f) k = inl f
      by (inr before) (inl has) = inr (λ j l. elim
          (cases_lt j n) [ inl k ↦ before j k | inr k ↦ subst (HasInverse c) (let e : n ≡ j = omega (arith, k, l) in e) has ])
      by (inr before) (inr without) = inl (n, record { within = omega (arith, low); without = without; before = before })

  -- ---- the inverse

  module _ (has : (j : ℕ) → j < length c.change.hunks → HasInverse c j) (apart_from_itself : Contains c.change.needs c.name → ⊥) where
    -- each hunk can be undone
    undoable : (h : Hunk) → Contains c.change.hunks h → IsUndoable h
    undoable h m =
        let i = has m.0 m.1 in
        subst IsUndoable (same_Some i.hunk h (sym i.there ∙ slice_get_read c.change.hunks _ m.0 h refl m.1 (sym m.2))) i.undoable

    -- the needs of the inverse
    needs : List Name
    needs = (needs_there c.change.hunks).0

    -- they are just those
    are : AreInverseNeeds c c.change.hunks needs
    unfolding needs
    are = (needs_there c.change.hunks).1

    -- the needs are few enough
    few : length needs ≤ 256
    few = by (length c.change.hunks) refl
      where
        empty : (hs : List Hunk) → length hs ≡ 0 → hs ≡ []
        empty [] e = refl
        empty (h ∷ hs) e = absurd (omega (arith, e))

        by : (n : ℕ) → length c.change.hunks ≡ n → length needs ≤ 256
        by zero e =
            let same = needs_one c [] needs (c.name ∷ []) (subst (λ hs. AreInverseNeeds c hs needs) (empty c.change.hunks e) are) (needs_start c) in
            let one = ap length same in
            omega (arith, one)
        by (suc k) e =
            let i = has k (omega (arith, e)) in
            let whole : take (suc k) c.change.hunks ≡ c.change.hunks = ap (λ n. take n c.change.hunks) (sym e) ∙ take-length c.change.hunks in
            let same = needs_one c c.change.hunks i.needs needs (subst (λ hs. AreInverseNeeds c hs i.needs) whole i.needs_are) are in
            let l = i.few in
            let k = ap length same in
            omega (arith, l, k)

    -- the number of a need
    number : (n : Name) → IsInverseNeed c c.change.hunks n → (k : ℕ) × IsNumberOf needs n k
    number n is = (let m = are.all n is in (suc m.0, (m.0, refl, slice_get_read needs _ m.0 n refl m.1 (sym m.2))))

    -- a `delete` of the change's own positions
    own : (start end : ℕ) → (g : Hunk) × DeletesOwn c needs start end g
    own start end = (let k = number c.name itself in (Delete k.0 start end (k.0 ∷ []), (k.0, k.1, refl)))

    -- each hunk is undone
    undo : (first : ℕ) (h : Hunk) → Contains c.change.hunks h → IsUndoable h → (g : Hunk) × Undoes c needs first h g
    undo first (File parent name exec) m u = own first (first + 1)
    undo first (Dir parent name) m u = own first (first + 1)
    undo first (NameOf parent child name exec) m u = own first (first + 1)
    undo first (Insert file ups downs bytes) m u = own first (first + length bytes)
    undo first (Delete owner start end by) m u =
        let k = number (numbered c owner) (deleted m) in
        let l = number c.name itself in
        (Revive k.0 start end (l.0 ∷ []), (u, k.0, l.0, k.1, l.1, refl))
    undo first (Order file source target) m u = absurd u
    undo first (Revive owner start end by) m u = absurd u

    -- and so are all
    undo_each : (first : ℕ) (hs : List Hunk) → ((h : Hunk) → Contains hs h → Contains c.change.hunks h) → (gs : List Hunk) × UndoEach c needs first hs gs
    undo_each first [] within = ([], refl)
    undo_each first (h ∷ hs) within =
        let m = within h (first_member h hs) in
        let g = undo first h m (undoable h m) in
        let rest = undo_each (first + position_count h) hs (λ i n. within i (later_member h hs i n)) in
        (g.0 ∷ rest.0, (g.1, rest.1))

    -- ---- it is a change

    -- names in order rise
    rises : (names : List Name) → IsStrictlySortedBy name_cmp names → rising name_below names ≡ true
    unfolding rising IsStrictlySortedBy
    rises [] s = refl
    rises (n ∷ []) s = refl
    rises (m ∷ n ∷ names) s =
        and_from (name_below m n) (rising name_below (n ∷ names))
        (ap is_lt (each (λ x. name_cmp m x ≡ Less) (n ∷ names) s.0 n (first_member n names))) (rises (n ∷ names) s.1)

    -- its message
    message : List ℕ
    message = codes "inverse " ++ hex c.name.bytes

    -- a hex digit is no newline
    no_newline : (b : ℕ) → is_lower_hex_digit b ≡ true → not (nat_eq b 10) ≡ true
    no_newline b e = grind (arith, nat_tests)

    -- which has 72 bytes
    message_length : length message ≡ 72
    unfolding message
    message_length = (let l = length-hex c.name in omega (arith, length-append (codes "inverse ") (hex c.name.bytes), l))

    -- and is a line
    message_line : is_line message ≡ true
    unfolding is_line message
    message_line = and_from _ _ (le-leb (length message) 1000 (omega (arith, message_length)))
        (lacks-append 10 (codes "inverse ") (hex c.name.bytes) refl
        (all_from (λ b. not (nat_eq b 10)) (hex c.name.bytes) (λ b m. no_newline b (ap is_lower_hex_digit (sym m.2) ∙ (IsHex-hex c.name).1 m.0 b m.1))))

    module _ (gs : List Hunk) (undone : UndoEach c needs 0 c.change.hunks gs) where
      -- the parts of the inverse
      made : Parts
      made = parts 2 message c.change.author c.change.time needs [] gs

      -- its hunks keep the rules
      fit : (g : Hunk) → Contains gs g → Fits (length needs) g
      fit = each_fits c needs few apart_from_itself (let f = few_positions (parts_of c.change) c.change.keeps in omega (arith, f)) gs undone

      -- its text is short
      short : length (text_of made) ≤ 16777216
      unfolding made
      short =
          let e : length (text_of (parts 2 message c.change.author c.change.time needs [] gs)) ≡
          41 + length (decimal 2) + length message + length c.change.author + length (decimal c.change.time) + 71 * (length needs + 0) + length
          (flat_map hunk_text gs) =
          length-text_of (parts 2 message c.change.author c.change.time needs [] gs) in
          let author_length = length-line c.change.author c.change.keeps.author in
          let two = length-decimal-le 10 2 (omega arith) (omega arith) (omega arith) in
          let time = length-decimal-le 10 c.change.time (omega arith) (let t = c.change.keeps.time in omega (arith, t))
          (let t = c.change.keeps.time in omega (arith, t)) in
          let hunks = hunks_short (length needs) gs fit in
          let count = same_count c needs 0 c.change.hunks gs undone in
          let most = c.change.keeps.few_hunks in
          omega (arith, e, message_length, author_length, two, time, hunks, count, most, few)

      -- so the parts are those of a change
      keeps : IsChange made
      unfolding made rising
      keeps = record {
        version = refl;
        message = message_line;
        author = c.change.keeps.author;
        time = c.change.keeps.time;
        few_needs = few;
        few_knows = omega arith;
        few_hunks = (let count = same_count c needs 0 c.change.hunks gs undone in let most = c.change.keeps.few_hunks in omega (arith, count, most));
        needs_rise = rises needs are.sorted;
        knows_rise = refl;
        no_need_known = refl;
        versions = all_from (λ h. nat_le (version_of h) 2) gs (λ g m. (fit g m).version);
        hunks = hunks_fit (length needs) 0 gs fit;
        disjoint = pairs_apart c needs few apart_from_itself 0 c.change.hunks gs (λ h m. m) c.change.keeps.disjoint undone;
        short = short;
      }

    -- a change is the inverse
    pub inverse_there : (v : Change) × IsInverse c v
    unfolding made needs message
    inverse_there =
        let gs = undo_each 0 c.change.hunks (λ h m. m) in (
          record {
            version = 2;
            message = message;
            author = c.change.author;
            time = c.change.time;
            needs = needs;
            knows = [];
            hunks = gs.0;
            keeps = keeps gs.0 gs.1;
          },
          record { version = refl; message = refl; author = refl; time = refl; needs = are; knows = refl; hunks = gs.1 },
        )

-- a change that does not need itself has an inverse, or a first hunk without one
pub inverse_or_first : (c : Record) → (Contains c.change.needs c.name → ⊥) →
    ((k : ℕ) × IsFirstWithoutInverse c k) ⊎ (((k : ℕ) → IsFirstWithoutInverse c k → ⊥) × ((v : Change) × IsInverse c v))
inverse_or_first c apart_from_itself = by (first_without c (length c.change.hunks) (omega arith))
  where
    by : ((k : ℕ) × IsFirstWithoutInverse c k) ⊎ ((j : ℕ) → j < length c.change.hunks → HasInverse c j) →
        ((k : ℕ) × IsFirstWithoutInverse c k) ⊎ (((k : ℕ) → IsFirstWithoutInverse c k → ⊥) × ((v : Change) × IsInverse c v))
    by (inl f) = inl f
    by (inr has) = inr ((λ k f. f.without (has k f.within)), inverse_there c has apart_from_itself)
