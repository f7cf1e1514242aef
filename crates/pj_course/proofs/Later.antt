-- The hunks of the later changes have their contexts.
use Rattle.std.proofs.Common.{◌≡◌, ℕ, zero, suc, ◌+◌, ◌*◌, ◌/◌, ◌%◌, ◌<◌, List, [], ◌∷◌, length, refl, sym, ◌∙◌, ap, subst, inl, inr, arith, Bool, true, false}
use Rattle.std.specs.Prelude.{Contains, ◌||◌, Option, Some, None, slice_get, nat_eq, flat_map, option_and_then, if◌then◌else◌}
use Rattle.std.specs.List.{list_all, slice_index_or}
use Rattle.std.proofs.lemmas.Bool.{and_from, or_left, le-leb, eqb-true}
use Rattle.std.proofs.lemmas.Bool.Decides.{nat_tests}
use Rattle.std.proofs.lemmas.Option.{same_Some}
use Rattle.std.proofs.lemmas.List.Folds.{list_all-append}
use Rattle.pj_name.specs.declared.name.Name.{Name}
use Rattle.pj_name.specs.Name.{name_of, name_below, same_name}
use Rattle.pj_change.specs.declared.point.Point.{Point}
use Rattle.pj_change.specs.declared.point.Place.{Place}
use Rattle.pj_change.specs.declared.point.Place.TheVariants as placed
use Rattle.pj_change.specs.declared.point.Ref.{Ref}
use Rattle.pj_change.specs.declared.point.Ref.TheVariants as ref
use Rattle.pj_change.specs.declared.hunk.Hunk.{Hunk}
use Rattle.pj_change.specs.declared.hunk.Hunk.TheVariants.{Insert, Delete}
use Rattle.pj_change.specs.declared.kind.Kind.TheVariants.{Text}
use Rattle.pj_change.specs.declared.change.Record.{Record}
use Rattle.pj_change.specs.Context.{is_file_inode, is_file, is_byte, is_some_place, is_one, answers_for, kind_of, meant, file_at, file_by, holds}
use Rattle.pj_change.specs.Lawful.{is_held, needs_of, Follows}
use Rattle.pj_change.specs.Parts.{parts_of}
use Rattle.pj_change.specs.Positions.{kind_at, numbered, resolve, same_place, file_of}
use Rattle.pj_change.specs.Text.{Parts, text_of}
use Rattle.pj_change.proofs.EqualNames.{is_same_name, same_point_itself}
use Rattle.pj_change.proofs.Inodes.{need_at}
use Rattle.pj_change.proofs.Members.{first_member, later_member}
use Rattle.pj_change.proofs.PositionLemmas.{kind_at_into}
use Rattle.pj_gen.specs.Draws.{draws_from, number_after}
use Rattle.pj_gen.specs.Changes.{eight, file_hunks, zero_name, zero_text, inode, first_byte, load_change, deletion, insertion, following, behind, insertion_or_following, change_after, file_after, last_after, last_insertion}
use Rattle.pj_gen.specs.Changes as gen
use Rattle.pj_course.specs.Laws.{zero_parts, later_parts, IsOfRun, HasRunNames}
use Rattle.pj_course.proofs.Zero.{zero_hunks, inode_stands, byte_stands, byte_file}

-- ---- the needs that a change finds

-- a place is itself
some_itself : (p : Point) (o : Option Place) → o ≡ Some (placed.At p) → is_some_place (placed.At p) o ≡ true
some_itself p o e = ap (is_some_place (placed.At p)) e ∙ same_point_itself p

-- change 0 is the need with this number
record IsZeroAt (c : Record) (needs : List Record) (z : ℕ) : Type 0 where
  it : Record
  is : meant c needs z ≡ Some it
  name : it.name ≡ zero_name
  number : numbered c z ≡ zero_name
  hunks : it.change.hunks ≡ zero_hunks

module _ (c : Record) (needs : List Record) (z : ℕ) (zero_at : IsZeroAt c needs z) where
  -- the file of a line is a file
  file_is : (j : ℕ) → j < 8 → is_file c needs (ref.At z (inode j)) ≡ true
  file_is j low =
      ap (λ m. is_file_inode (option_and_then (λ (r : Record). kind_at r.change.hunks (inode j)) m)) zero_at.is
      ∙ ap (λ hs. is_file_inode (kind_at hs (inode j))) zero_at.hunks
      ∙ ap is_file_inode (inode_stands j low)

  -- a byte of change 0 is one of its file
  byte_is : (j : ℕ) → j < 8 → (q : ℕ) → q < 64 → is_byte c needs (ref.At z (inode j)) (ref.At z (first_byte j + q)) ≡ true
  byte_is j low q few =
      let names : zero_at.it.name ≡ numbered c z = zero_at.name ∙ sym zero_at.number in
      some_itself (record { change = numbered c z; offset = inode j }) (option_and_then (λ r. file_at r (first_byte j + q)) (meant c needs z))
      (ap (option_and_then (λ r. file_at r (first_byte j + q))) zero_at.is
      ∙ byte_file zero_at.it zero_at.hunks j low q few
      ∙ ap (λ n. Some (placed.At (record { change = n; offset = inode j }))) names)

  -- a deletion of a line of change 0 has its context
  deletion_holds : (j : ℕ) → j < 8 → (q : ℕ) → q < 64 → holds c needs (Delete z (first_byte j + 8 * (q / 8)) (first_byte j + 8 * (q / 8) + 8) (z ∷ [])) ≡ true
  deletion_holds j low q few =
      let start : ℕ = first_byte j + 8 * (q / 8) in
      let one : is_one (kind_of c needs (ref.At z start)) start (start + 8) ≡ true =
      ap (λ m. is_one (option_and_then (λ (r : Record). kind_at r.change.hunks start) m) start (start + 8)) zero_at.is
      ∙ ap (λ hs. is_one (kind_at hs start) start (start + 8)) zero_at.hunks
      ∙ ap (λ k. is_one k start (start + 8)) (byte_stands j low (8 * (q / 8)) (omega (arith, few)))
      ∙ le-leb (start + 8) (first_byte j + 64) (omega (arith, few)) in
      let named : same_name zero_at.it.name (numbered c z) ≡ true = is_same_name zero_at.it.name (numbered c z) (zero_at.name ∙ sym zero_at.number) in
      let answered : answers_for (numbered c z) start (start + 8) (meant c needs z) ≡ true =
      ap (answers_for (numbered c z) start (start + 8)) zero_at.is ∙ or_left (same_name zero_at.it.name (numbered c z)) _ named in
      and_from _ _ one (and_from _ _ answered refl)

  -- an insertion behind a byte of the file, before others
  insertion_holds : (j : ℕ) → j < 8 → (up : Ref) (downs : List Ref) (bytes : List ℕ) → is_byte c needs (ref.At z (inode j)) up ≡ true →
      list_all (is_byte c needs (ref.At z (inode j))) downs ≡ true → holds c needs (Insert (ref.At z (inode j)) (up ∷ []) downs bytes) ≡ true
  insertion_holds j low up downs bytes at below =
      let file : Ref = ref.At z (inode j) in
      let ups : list_all (λ u. same_place (resolve c u) (resolve c file) || is_byte c needs file u) (up ∷ []) ≡ true =
      and_from _ _ (right (same_place (resolve c up) (resolve c file)) (is_byte c needs file up) at) refl in
      and_from _ _ (and_from _ _ (file_is j low) ups) below
    where
      right : (a b : Bool) → b ≡ true → (a || b) ≡ true
      right true b e = refl
      right false b e = e

-- ---- what a change of the run finds in a list

module _ (number : ℕ) (list : List Record) (names : HasRunNames number list) (c : Record) (needs_held : list_all (is_held list) c.change.needs ≡ true) where
  -- change 0
  zero_found : (k : ℕ) → k < length c.change.needs → slice_index_or c.change.needs k c.name ≡ zero_name → IsZeroAt c (needs_of list c) (suc k)
  unfolding zero_text
  zero_found k low e =
      let need = need_at list c.change.needs c.name k needs_held low in
      let r = need.record_is in
      let named : need.it.name ≡ zero_name = r.named ∙ e in
      let parts = names need.it r.member zero_parts (inl refl) named in
      record { it = need.it; is = need.is; name = named; number = e; hunks = ap (λ (p : Parts). p.hunks) parts }

-- a change that inserts eight bytes into the file
record Inserts (p : Parts) (file : ℕ) : Type 0 where
  low : file < 8
  k : ℕ
  ups : List Ref
  downs : List Ref
  bytes : List ℕ
  hunks : p.hunks ≡ Insert (ref.At (suc k) (inode file)) ups downs bytes ∷ []
  long : length bytes ≡ 8
  zero_there : (d : Name) → slice_index_or p.needs k d ≡ zero_name

-- the name is that of a change of the run that inserts into the file
record IsLast (number : ℕ) (name : Name) (file : ℕ) : Type 0 where
  parts : Parts
  of_run : IsOfRun number parts
  named : name ≡ name_of (text_of parts)
  inserts : Inserts parts file

-- an insertion into a file of change 0 inserts
insertion_inserts : (i : ℕ) (x : ℕ) → (draws_from x).file < 8 → Inserts (insertion i (draws_from x)) (draws_from x).file
unfolding insertion gen.numbered
insertion_inserts i x low = record { low = low; k = 0; ups = _; downs = _; bytes = gen.numbered i; hunks = refl; long = refl; zero_there = λ n. refl }

-- so does one behind the last
following_inserts : (i : ℕ) (last : _) (p : Parts) → p ≡ following i last → last.file < 8 → Inserts p last.file
unfolding following gen.numbered
following_inserts i last p e low = subst (λ q. Inserts q last.file) (sym e) (by (name_below zero_name last.name))
  where
    by : (b : Bool) → Inserts (if b
        then load_change i (zero_name ∷ last.name ∷ []) (behind i last 1 2 ∷ [])
        else load_change i (last.name ∷ zero_name ∷ []) (behind i last 2 1 ∷ [])) last.file
    by true = record { low = low; k = 0; ups = _; downs = _; bytes = gen.numbered i; hunks = refl; long = refl; zero_there = λ n. refl }
    by false = record { low = low; k = 1; ups = _; downs = _; bytes = gen.numbered i; hunks = refl; long = refl; zero_there = λ n. refl }

-- so each that is no deletion
after_inserts : (last : _) (i : ℕ) (x : ℕ) (p : Parts) → p ≡ insertion_or_following last i (draws_from x) → (draws_from x).file < 8 →
    ((it : _) → last ≡ Some it → it.file < 8) → Inserts p (file_after last (draws_from x))
after_inserts None i x p e low before = subst (λ q. Inserts q (draws_from x).file) (sym e) (insertion_inserts i x low)
after_inserts (Some it) i x p e low before = by (nat_eq (draws_from x).kind 3) e
  where
    by : (b : Bool) → p ≡ (if b then following i it else insertion i (draws_from x)) → Inserts p (if b then it.file else (draws_from x).file)
    by true f = following_inserts i it p f (before it refl)
    by false f = subst (λ q. Inserts q (draws_from x).file) (sym f) (insertion_inserts i x low)

-- what is drawn is small
file_small : (x : ℕ) → (draws_from x).file < 8
file_small x = omega arith

-- and so is the place
place_small : (x : ℕ) → (draws_from x).place < 64
place_small x = omega arith

-- so the last insertion is of such a change
last_is : (number l n : ℕ) (last : _) → last_insertion number l n ≡ Some last → IsLast number last.name last.file
unfolding last_insertion
last_is number l zero last e = absurd (cc)
last_is number l (suc n) last e = by (nat_eq (n % 8) l) refl e (λ it f. last_is number l n it f)
  where
    by : (b : Bool) → nat_eq (n % 8) l ≡ b →
        (if b then last_after (last_insertion number l n) (draws_from (number_after number n))
        (name_of (text_of (change_after (last_insertion number l n) (n + 1)
        (draws_from (number_after number n))))) else last_insertion number l n) ≡ Some last →
        ((it : _) → last_insertion number l n ≡ Some it → IsLast number it.name it.file) → IsLast number last.name last.file
    by false f e rest = rest last e
    by true f e rest = kinds (nat_eq (draws_from (number_after number n)).kind 0) refl e
      where
        p : Parts
        p = change_after (last_insertion number l n) (n + 1) (draws_from (number_after number n))

        kinds : (k : Bool) → nat_eq (draws_from (number_after number n)).kind 0 ≡ k →
            (if k then last_insertion number l n else Some
            (record { name = name_of (text_of p); file = file_after (last_insertion number l n) (draws_from (number_after number n)) })) ≡ Some last →
            IsLast number last.name last.file
        kinds true g e = rest last e
        kinds false g e =
            let same = same_Some _ last e in
            let line : l ≡ n % 8 = sym (eqb-true (n % 8) l f) in
            let of_run : p ≡ later_parts number n = ap (λ m. change_after (last_insertion number m n) (n + 1) (draws_from (number_after number n))) line in
            let shape : p ≡ insertion_or_following (last_insertion number l n) (n + 1) (draws_from (number_after number n)) =
            ap (λ b. if b then deletion (n + 1) (draws_from (number_after number n)) else insertion_or_following (last_insertion number l n) (n + 1)
            (draws_from (number_after number n))) g in
            let inserts = after_inserts (last_insertion number l n) (n + 1) (number_after number n) p shape (file_small (number_after number n))
            (λ it h. (rest it h).inserts.low) in
            let file : file_after (last_insertion number l n) (draws_from (number_after number n)) ≡ last.file = λ j. (same j).file in
            let name : name_of (text_of p) ≡ last.name = λ j. (same j).name in
            record { parts = p; of_run = inr (n, of_run); named = sym name; inserts = subst (Inserts p) file inserts }

-- ---- what each later change has

-- a byte that another change inserted into the file
module _ (c : Record) (needs : List Record) (z : ℕ) (zero_at : IsZeroAt c needs z) (l : ℕ) (L : Record) (there : meant c needs l ≡ Some L) (file : ℕ)
    (is : Inserts (parts_of L.change) file) where
  -- it is a byte of the file
  behind_is : is_byte c needs (ref.At z (inode file)) (ref.At l 7) ≡ true
  behind_is =
      let h : Hunk = Insert (ref.At (suc is.k) (inode file)) is.ups is.downs is.bytes in
      let long = is.long in
      let kind : kind_at L.change.hunks 7 ≡ Some (Text 0 0 (0 + length is.bytes)) = ap (λ hs. kind_at hs 7) is.hunks ∙ kind_at_into
      (h ∷ []) 0 h 7 refl (omega (arith, long)) in
      let zero_is : numbered L (suc is.k) ≡ numbered c z = is.zero_there L.name ∙ sym zero_at.number in
      some_itself (record { change = numbered c z; offset = inode file }) (option_and_then (λ r. file_at r 7) (meant c needs l))
      (ap (option_and_then (λ r. file_at r 7)) there
      ∙ ap (file_by L) kind
      ∙ ap (λ hs. option_and_then (file_of L) (slice_get hs 0)) is.hunks
      ∙ ap (λ n. Some (placed.At (record { change = n; offset = inode file }))) zero_is)

module _ (number n : ℕ) (list : List Record) (names : HasRunNames number list) (c : Record) (fresh : is_held list c.name ≡ false)
    (needs_held : list_all (is_held list) c.change.needs ≡ true) where
  -- its one hunk has its context
  follows : (h : Hunk) → c.change.hunks ≡ h ∷ [] → holds c (needs_of list c) h ≡ true → Follows list c
  follows h e ok = record { fresh = fresh; needs = needs_held; context = ap (list_all (holds c (needs_of list c))) e ∙ and_from _ _ ok refl }

  -- change 0 is its need of this number
  zero_at : (k : ℕ) → (ns : List Name) → c.change.needs ≡ ns → k < length ns → slice_index_or ns k c.name ≡ zero_name → IsZeroAt c (needs_of list c) (suc k)
  zero_at k ns e low is = zero_found number list names c needs_held k (subst (λ l. k < length l) (sym e) low) (ap (λ l. slice_index_or l k c.name) e ∙ is)

  -- a deletion may follow
  of_deletion : (x : ℕ) → (draws_from x).file < 8 → (draws_from x).place < 64 → parts_of c.change ≡ deletion (n + 1) (draws_from x) → Follows list c
  unfolding deletion
  of_deletion x low few e =
      let zero_is = zero_at 0 (zero_name ∷ []) (ap (λ (p : Parts). p.needs) e) (omega arith) refl in
      follows _ (ap (λ (p : Parts). p.hunks) e) (deletion_holds c (needs_of list c) 1 zero_is (draws_from x).file low (draws_from x).place few)

  -- so may an insertion
  of_insertion : (x : ℕ) → (draws_from x).file < 8 → (draws_from x).place < 64 → parts_of c.change ≡ insertion (n + 1) (draws_from x) → Follows list c
  unfolding insertion
  of_insertion x low few e =
      let zero_is = zero_at 0 (zero_name ∷ []) (ap (λ (p : Parts). p.needs) e) (omega arith) refl in
      follows _ (ap (λ (p : Parts). p.hunks) e)
      (insertion_holds c (needs_of list c) 1 zero_is (draws_from x).file low (ref.At 1 (first_byte (draws_from x).file + (draws_from x).place)) _
      (gen.numbered (n + 1))
      (byte_is c (needs_of list c) 1 zero_is (draws_from x).file low (draws_from x).place few) (downs zero_is (nat_eq (draws_from x).place 63) refl))
    where
      downs : IsZeroAt c (needs_of list c) 1 → (b : Bool) → nat_eq (draws_from x).place 63 ≡ b →
          list_all (is_byte c (needs_of list c) (ref.At 1 (inode (draws_from x).file)))
          (if b then [] else ref.At 1 (first_byte (draws_from x).file + (draws_from x).place + 1) ∷ []) ≡ true
      downs zero_is true f = refl
      downs zero_is false f =
          let next : first_byte (draws_from x).file + ((draws_from x).place + 1) ≡ first_byte (draws_from x).file + (draws_from x).place + 1 = omega arith in
          let less : (draws_from x).place + 1 < 64 = not_last (draws_from x).place few f in
          and_from _ _ (subst (λ at. is_byte c (needs_of list c) (ref.At 1 (inode (draws_from x).file)) (ref.At 1 at) ≡ true) next
          (byte_is c (needs_of list c) 1 zero_is (draws_from x).file low ((draws_from x).place + 1) less)) refl
        where
          not_last : (q : ℕ) → q < 64 → nat_eq q 63 ≡ false → q + 1 < 64
          not_last q l g = grind (arith, nat_tests)

  -- and one behind the last insertion
  of_following : (it : _) → parts_of c.change ≡ following (n + 1) it → IsLast number it.name it.file → Follows list c
  unfolding following
  of_following it e last = by (name_below zero_name it.name) e
    where
      -- the last insertion is its need of this number
      last_at : (k : ℕ) (ns : List Name) → c.change.needs ≡ ns → k < length ns → slice_index_or ns k c.name ≡ it.name → (L : Record) ×
          (meant c (needs_of list c) (suc k) ≡ Some L) × Inserts (parts_of L.change) it.file
      last_at k ns f low is =
          let need = need_at list c.change.needs c.name k needs_held (subst (λ l. k < length l) (sym f) low) in
          let r = need.record_is in
          let named = r.named ∙ ap (λ l. slice_index_or l k c.name) f ∙ is in
          let parts = names need.it r.member last.parts last.of_run (named ∙ last.named) in
          (need.it, need.is, subst (λ p. Inserts p it.file) (sym parts) last.inserts)

      by : (b : Bool) → parts_of c.change ≡ (if b
          then load_change (n + 1) (zero_name ∷ it.name ∷ []) (behind (n + 1) it 1 2 ∷ [])
          else load_change (n + 1) (it.name ∷ zero_name ∷ []) (behind (n + 1) it 2 1 ∷ [])) → Follows list c
      by true f =
          let ns = ap (λ (p : Parts). p.needs) f in
          let z = zero_at 0 (zero_name ∷ it.name ∷ []) ns (omega arith) refl in
          let l = last_at 1 (zero_name ∷ it.name ∷ []) ns (omega arith) refl in
          follows _ (ap (λ (p : Parts). p.hunks) f)
          (insertion_holds c (needs_of list c) 1 z it.file last.inserts.low (ref.At 2 7) [] (gen.numbered (n + 1))
          (behind_is c (needs_of list c) 1 z 2 l.0 l.1 it.file l.2) refl)
      by false f =
          let ns = ap (λ (p : Parts). p.needs) f in
          let z = zero_at 1 (it.name ∷ zero_name ∷ []) ns (omega arith) refl in
          let l = last_at 0 (it.name ∷ zero_name ∷ []) ns (omega arith) refl in
          follows _ (ap (λ (p : Parts). p.hunks) f)
          (insertion_holds c (needs_of list c) 2 z it.file last.inserts.low (ref.At 1 7) [] (gen.numbered (n + 1))
          (behind_is c (needs_of list c) 2 z 1 l.0 l.1 it.file l.2) refl)

  -- a later change may follow
  pub later : parts_of c.change ≡ later_parts number n → Follows list c
  later e = kinds (nat_eq (draws_from (number_after number n)).kind 0) e
    where
      low : (draws_from (number_after number n)).file < 8
      low = file_small (number_after number n)

      few : (draws_from (number_after number n)).place < 64
      few = place_small (number_after number n)

      thirds : (it : _) → (b : Bool) → parts_of c.change ≡
          (if b then following (n + 1) it else insertion (n + 1) (draws_from (number_after number n))) → IsLast number it.name it.file → Follows list c
      thirds it true f last = of_following it f last
      thirds it false f last = of_insertion (number_after number n) low few f

      lasts : (last : _) → last_insertion number (n % 8) n ≡ last → parts_of c.change ≡ insertion_or_following last (n + 1)
          (draws_from (number_after number n)) → Follows list c
      lasts None g f = of_insertion (number_after number n) low few f
      lasts (Some it) g f = thirds it (nat_eq (draws_from (number_after number n)).kind 3) f (last_is number (n % 8) n it g)

      kinds : (b : Bool) → parts_of c.change ≡ (if b then deletion (n + 1) (draws_from (number_after number n)) else insertion_or_following
          (last_insertion number (n % 8) n) (n + 1) (draws_from (number_after number n))) → Follows list c
      kinds true f = of_deletion (number_after number n) low few f
      kinds false f = lasts (last_insertion number (n % 8) n) refl f

-- ---- change 0

-- the hunks of a file of change 0 have their contexts
file_holds : (c : Record) (needs : List Record) → c.change.hunks ≡ zero_hunks → (j : ℕ) → j < 8 → list_all (holds c needs) (file_hunks j) ≡ true
file_holds c needs e j low =
    let at : is_file c needs (ref.At 0 (inode j)) ≡ true = ap (λ hs. is_file_inode (kind_at hs (inode j))) e ∙ ap is_file_inode (inode_stands j low) in
    let itself : same_place (resolve c (ref.At 0 (inode j))) (resolve c (ref.At 0 (inode j))) ≡ true = same_point_itself
    (record { change = c.name; offset = inode j }) in
    and_from _ _ refl (and_from _ _ (and_from _ _ (and_from _ _ at (and_from _ _ (or_left _ _ itself) refl)) refl) refl)

-- change 0 may follow any list without it
pub zero_follows : (list : List Record) (c : Record) → parts_of c.change ≡ zero_parts → is_held list c.name ≡ false → Follows list c
zero_follows list c e fresh =
    let hunks : c.change.hunks ≡ zero_hunks = ap (λ (p : Parts). p.hunks) e in
    let all : list_all (holds c (needs_of list c)) (flat_map file_hunks eight) ≡ true = each_of eight
    (λ j m. file_holds c (needs_of list c) hunks j (in_eight j m)) in
    record { fresh = fresh; needs = ap (λ (p : Parts). list_all (is_held list) p.needs) e; context = ap (list_all (holds c (needs_of list c))) hunks ∙ all }
  where
    in_eight : (j : ℕ) → Contains eight j → j < 8
    in_eight j (zero, low, is) = omega (arith, is)
    in_eight j (suc zero, low, is) = omega (arith, is)
    in_eight j (suc (suc zero), low, is) = omega (arith, is)
    in_eight j (suc (suc (suc zero)), low, is) = omega (arith, is)
    in_eight j (suc (suc (suc (suc zero))), low, is) = omega (arith, is)
    in_eight j (suc (suc (suc (suc (suc zero)))), low, is) = omega (arith, is)
    in_eight j (suc (suc (suc (suc (suc (suc zero))))), low, is) = omega (arith, is)
    in_eight j (suc (suc (suc (suc (suc (suc (suc zero)))))), low, is) = omega (arith, is)
    in_eight j (suc (suc (suc (suc (suc (suc (suc (suc n))))))), low, is) = absurd (omega (arith, low))

    each_of : (js : List ℕ) → ((j : ℕ) → Contains js j → list_all (holds c (needs_of list c)) (file_hunks j) ≡ true) → list_all
        (holds c (needs_of list c)) (flat_map file_hunks js) ≡ true
    each_of [] f = refl
    each_of (j ∷ js) f =
        list_all-append (holds c (needs_of list c)) (file_hunks j) (flat_map file_hunks js)
        ∙ and_from _ _ (f j (first_member j js)) (each_of js (λ i m. f i (later_member j js i m)))
