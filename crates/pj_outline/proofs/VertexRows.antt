-- A row leaves the last point of a vertex, and enters the first point of one.
use Rattle.std.proofs.Common.{◌≡◌, ◌∙◌, sym, ap, subst, refl, ℕ, ◌+◌, ◌-◌, ◌<◌, ◌≤◌, Bool, true, false, List, [], ◌∷◌, length, nat_eq, arith, inl, inr}
use Rattle.std.specs.Prelude.{Contains, ◌⊎◌, Option, Some, None, slice_get, IsTrue, if◌then◌else◌}
use Rattle.std.specs.List.{list_any}
use Rattle.std.proofs.lemmas.Bool.Decides.{nat_tests}
use Rattle.std.proofs.lemmas.Bool.{or_left, or_right, and_parts, and_from}
use Rattle.std.proofs.lemmas.Option.{same_Some}
use Rattle.pj_change.specs.declared.point.Point.{Point}
use Rattle.pj_change.specs.declared.point.Place.{Place}
use Rattle.pj_change.specs.declared.point.Place.TheVariants as placed
use Rattle.pj_change.specs.declared.point.Ref.{Ref}
use Rattle.pj_change.specs.declared.point.Ref.TheVariants as ref
use Rattle.pj_change.specs.declared.hunk.Hunk.{Hunk}
use Rattle.pj_change.specs.declared.hunk.Hunk.TheVariants.{File, Dir, NameOf, Insert, Order, Delete, Revive}
use Rattle.pj_change.specs.declared.kind.Kind.{Kind}
use Rattle.pj_change.specs.declared.kind.Kind.TheVariants.{NameAt, FileInode, DirInode, Text}
use Rattle.pj_change.specs.declared.graph.Status.{Status}
use Rattle.pj_change.specs.declared.graph.Vertex.{Vertex}
use Rattle.pj_change.specs.declared.graph.VertexKind.{VertexKind}
use Rattle.pj_change.specs.declared.row.EdgeRow.{EdgeRow}
use Rattle.pj_change.specs.declared.change.Record.{Record}
use Rattle.pj_change.specs.Rules.{position_count}
use Rattle.pj_change.specs.Positions.{kind_in, kind_at, place, resolve, own_point}
use Rattle.pj_change.specs.Context.{is_file, is_file_inode, is_dir_inode, is_inode, is_parent, kind_of, holds}
use Rattle.pj_change.specs.Children.{IsInode}
use Rattle.pj_change.specs.EdgeRows.{IsNameRow, IsOwnRow, IsInside, IsEdgeRow}
use Rattle.pj_change.specs.Lawful.{IsLawful, needs_of}
use Rattle.pj_change.specs.PointsIn.{LiesIn}
use Rattle.pj_change.specs.Vertices.{is_just_before, is_at, cuts, is_cut, first_point, last_point, IsSingle, IsVertexBy, IsVertex}
use Rattle.pj_change.specs.Weight.{refs_of}
use Rattle.pj_change.proofs.Blocks.{block_at, block_starts}
use Rattle.pj_change.proofs.EqualNames.{name_itself, at_is, same_point_itself}
use Rattle.pj_change.proofs.LawfulLists.{one_record}
use Rattle.pj_change.proofs.Members.{any_member, all_member, first_member, later_member, member_at, splits, Splits}
use Rattle.pj_change.proofs.NamedInodes.{names, child_named}
use Rattle.pj_change.proofs.PositionLemmas.{kind_at_into, kind_at_first, insertion_some, ref_is_numbered}
use Rattle.pj_outline.specs.Ends.{RowLeavesLastPoint, RowEntersFirstPoint}
use Rattle.pj_outline.proofs.BlocksOfSets.{IsInsertion, block_kind}

abbrev next_point : Point → Point
next_point p = record { change = p.change; offset = p.offset + 1 }

-- a position inside a block is above 0
pub inside_above : (first : ℕ) (h : Hunk) (at : ℕ) → IsInside first h at → 0 < at
inside_above first (File parent name exec) at i = absurd i
inside_above first (Dir parent name) at i = absurd i
inside_above first (NameOf parent child name exec) at i = absurd i
inside_above first (Insert file ups downs bytes) at i = (let l = i.0 in omega (arith, l))
inside_above first (Order file source target) at i = absurd i
inside_above first (Delete owner start end by) at i = absurd i
inside_above first (Revive owner start end by) at i = absurd i

module _ (S : List Record) (lawful : IsLawful S) where
  -- where a byte of a block of S stands at the point, this holds of the block
  abbrev InBlocks : Point → (ℕ → ℕ → Type 0) → Type 0
  InBlocks p P = (o : Record) → Contains S o → o.name ≡ p.change → (hunk first past : ℕ) → kind_at o.change.hunks p.offset ≡ Some (Text hunk first past) → P first past

  -- S cuts behind the point, or it is the last one of its block
  abbrev EndsAt : Point → Type 0
  EndsAt p = (is_cut S (next_point p) ≡ true) ⊎ InBlocks p (λ first past. p.offset + 1 ≡ past)

  -- S cuts before the point, or it is the first one of its block
  abbrev StartsAt : Point → Type 0
  StartsAt p = (is_cut S p ≡ true) ⊎ InBlocks p (λ first past. p.offset ≡ first)

  -- ---- vertices

  module _ (v : Vertex) (is : IsVertex S v) (p : Point) (lies : LiesIn p v) where
    at_last : p.offset + 1 ≡ v.end → p ≡ last_point v
    at_last e = let k : p.offset ≡ v.end - 1 = omega (arith, e) in λ i. record { change = sym lies.change i; offset = k i }

    at_first : p.offset ≡ v.start → p ≡ first_point v
    at_first e = λ i. record { change = sym lies.change i; offset = e i }

    single_last : (kind : VertexKind) (status : Status) → IsSingle v kind status → p ≡ last_point v
    single_last kind status s = at_last (let size = s.0 in let low = lies.low in let high = lies.high in omega (arith, size, low, high))

    single_first : (kind : VertexKind) (status : Status) → IsSingle v kind status → p ≡ first_point v
    single_first kind status s = at_first (let size = s.0 in let low = lies.low in let high = lies.high in omega (arith, size, low, high))

    more_or_end : (n : ℕ) → n < v.end → (n + 1 < v.end) ⊎ (n + 1 ≡ v.end)
    more_or_end n l = grind (arith)

    later_or_start : (n : ℕ) → v.start ≤ n → (v.start < n) ⊎ (n ≡ v.start)
    later_or_start n l = grind (arith)

    ends_last : EndsAt p → p ≡ last_point v
    ends_last ends = go (kind_at is.owner.change.hunks v.start) refl is.is
      where
        go : (k : Option Kind) → kind_at is.owner.change.hunks v.start ≡ k → IsVertexBy S is.owner v k → p ≡ last_point v
        go None e none = absurd none
        go (Some (NameAt hunk)) e s = single_last _ _ s
        go (Some (FileInode hunk)) e s = single_last _ _ s
        go (Some (DirInode hunk)) e s = single_last _ _ s
        go (Some (Text hunk first past)) e t =
            let run = t.0 in
            let inside = run.inside in
            let low = lies.low in
            let high = lies.high in
            let from = block_starts is.owner.change.hunks v.start hunk first past e in
            let there = block_at is.owner.change.hunks v.start hunk first past e p.offset (omega (arith, from, low)) (omega (arith, high, inside)) in
            at_last (elim ends [
              | inl cut ↦ elim (more_or_end p.offset high) [
                | inl more ↦ absurd (
                    let none = run.uncut (p.offset + 1) (omega (arith, low)) more in
                    let same : is_cut S (record { change = v.change; offset = p.offset + 1 }) ≡ is_cut S (next_point p) = ap (λ n. is_cut S (record { change = n; offset = p.offset + 1 })) lies.change in
                    cc)
                | inr end ↦ end
              ]
              | inr last ↦ (let end = last is.owner is.member (is.name ∙ lies.change) hunk first past there in omega (arith, end, inside, high))
            ])

    starts_first : StartsAt p → p ≡ first_point v
    starts_first starts = go (kind_at is.owner.change.hunks v.start) refl is.is
      where
        go : (k : Option Kind) → kind_at is.owner.change.hunks v.start ≡ k → IsVertexBy S is.owner v k → p ≡ first_point v
        go None e none = absurd none
        go (Some (NameAt hunk)) e s = single_first _ _ s
        go (Some (FileInode hunk)) e s = single_first _ _ s
        go (Some (DirInode hunk)) e s = single_first _ _ s
        go (Some (Text hunk first past)) e t =
            let run = t.0 in
            let inside = run.inside in
            let low = lies.low in
            let high = lies.high in
            let from = block_starts is.owner.change.hunks v.start hunk first past e in
            let there = block_at is.owner.change.hunks v.start hunk first past e p.offset (omega (arith, from, low)) (omega (arith, high, inside)) in
            at_first (elim starts [
              | inl cut ↦ elim (later_or_start p.offset low) [
                | inl later ↦ absurd (
                    let none = run.uncut p.offset later high in
                    let same : is_cut S (record { change = v.change; offset = p.offset }) ≡ is_cut S p = ap (λ n. is_cut S (record { change = n; offset = p.offset })) lies.change in
                    cc)
                | inr start ↦ start
              ]
              | inr begin ↦ (let start = begin is.owner is.member (is.name ∙ lies.change) hunk first past there in omega (arith, start, from, low))
            ])

  -- ---- points without text

  -- where something else stands than text
  other_kind : (r : Record) → Contains S r → (p : Point) → r.name ≡ p.change → ((hunk first past : ℕ) → kind_at r.change.hunks p.offset ≡ Some (Text hunk first past) → ⊥) → (P : ℕ → ℕ → Type 0) → InBlocks p P
  other_kind r m p named none P o n name hunk first past e =
      let same : o ≡ r = one_record S lawful o r n m (name ∙ sym named) in
      absurd (none hunk first past (ap (λ (w : Record). kind_at w.change.hunks p.offset) (sym same) ∙ e))

  no_text : (k : Option Kind) (dir : Bool) → IsTrue (if dir then is_dir_inode k else is_file_inode k) → (hunk first past : ℕ) → k ≡ Some (Text hunk first past) → ⊥
  no_text k true is hunk first past e = let f : is_dir_inode k ≡ false = ap is_dir_inode e in absurd (let clash : true ≡ false = sym is ∙ f in cc)
  no_text k false is hunk first past e = let f : is_file_inode k ≡ false = ap is_file_inode e in absurd (let clash : true ≡ false = sym is ∙ f in cc)

  inode_kind : (p : Point) (dir : Bool) → IsInode S p dir → (P : ℕ → ℕ → Type 0) → InBlocks p P
  inode_kind p dir i P = other_kind i.owner i.member p i.name (no_text (kind_at i.owner.change.hunks p.offset) dir i.is) P

  -- ---- what a change refers to

  module _ (r : Record) (member : Contains S r) (number : ℕ) where
    at_own : (offset : ℕ) (kind : Kind) → kind_at r.change.hunks offset ≡ Some kind → ((hunk first past : ℕ) → kind ≡ Text hunk first past → ⊥) → (P : ℕ → ℕ → Type 0) → InBlocks (own_point r offset) P
    at_own offset kind e none P = other_kind r member (own_point r offset) refl (λ hunk first past f. none hunk first past (same_Some kind (Text hunk first past) (sym e ∙ f))) P

    parent_kind : (h : Hunk) (parent : Ref) → Contains r.change.hunks h → Contains (refs_of h) parent → (s : Splits S r) → is_parent r (needs_of s.before r) parent ≡ true →
        (p : Point) → placed.At p ≡ resolve r parent → (P : ℕ → ℕ → Type 0) → InBlocks p P
    parent_kind h ref.Root m n s ok p e P = absurd (cc)
    parent_kind h (ref.At owner offset) m n s ok p e P =
        let named = names S lawful s.before r s.after s.is owner offset (ref_is_numbered r (ref.At owner offset) h m n) in
        let same : p ≡ named.point = at_is p named.point (e ∙ named.is) in
        let dir : is_dir_inode (kind_at named.owner.change.hunks named.point.offset) ≡ true = ap is_dir_inode (sym named.kind_is) ∙ ok in
        subst (λ q. InBlocks q P) (sym same) (other_kind named.owner named.member named.point named.name (no_text (kind_at named.owner.change.hunks named.point.offset) true dir) P)

    child_kind : (h : Hunk) (child : Ref) → Contains r.change.hunks h → Contains (refs_of h) child → (s : Splits S r) → is_inode r (needs_of s.before r) child ≡ true →
        (p : Point) → placed.At p ≡ resolve r child → (P : ℕ → ℕ → Type 0) → InBlocks p P
    child_kind h child m n s ok p e P =
        let c = child_named S lawful s.before r s.after s.is child (ref_is_numbered r child h m n) ok in
        let same : p ≡ c.0 = at_is p c.0 (e ∙ c.2) in
        subst (λ q. InBlocks q P) (sym same) (inode_kind c.0 c.1 c.3 P)

    context : (s : Splits S r) (h : Hunk) → Contains r.change.hunks h → holds r (needs_of s.before r) h ≡ true
    context s h m = all_member (holds r (needs_of s.before r)) r.change.hunks h (lawful s.before r s.after s.is).context m

    cut_by : (h : Hunk) → Contains r.change.hunks h → (p : Point) → cuts r p h ≡ true → is_cut S p ≡ true
    cut_by h m p e = any_member (λ w. list_any (cuts w p) w.change.hunks) S r member (any_member (cuts r p) r.change.hunks h m e)

    just_before : (p : Point) (at : Place) → at ≡ placed.At p → is_just_before (next_point p) at ≡ true
    just_before p at e = ap (is_just_before (next_point p)) e ∙ and_from _ _ (name_itself p.change) (let same : nat_eq (p.offset + 1) (p.offset + 1) ≡ true = grind (arith, nat_tests) in same)

    just_at : (p : Point) (at : Place) → placed.At p ≡ at → is_at p at ≡ true
    just_at p at e = ap (is_at p) (sym e) ∙ same_point_itself p

    -- ---- the rows of a hunk

    abbrev insertion : (file : Ref) (ups downs : List Ref) (bytes : List ℕ) → slice_get r.change.hunks number ≡ Some (Insert file ups downs bytes) →
        IsInsertion r.change.hunks (place r.change.hunks number) (place r.change.hunks number + length bytes)
    insertion file ups downs bytes there = record { number = number; file = file; ups = ups; downs = downs; bytes = bytes; there = there; first_is = refl; past_is = refl }

    bytes_some : (file : Ref) (ups downs : List Ref) (bytes : List ℕ) → slice_get r.change.hunks number ≡ Some (Insert file ups downs bytes) → 1 ≤ length bytes
    bytes_some file ups downs bytes there = insertion_some r file ups downs bytes (member_at r.change.hunks number (Insert file ups downs bytes) there)

    -- what holds of the block of the insertion holds of the blocks with a position of it
    of_block : (file : Ref) (ups downs : List Ref) (bytes : List ℕ) → slice_get r.change.hunks number ≡ Some (Insert file ups downs bytes) → (at : ℕ) → place r.change.hunks number ≤ at → at < place r.change.hunks number + length bytes →
        (P : ℕ → ℕ → Type 0) → P (place r.change.hunks number) (place r.change.hunks number + length bytes) → InBlocks (own_point r at) P
    of_block file ups downs bytes there at from upto P holds_it o m named hunk first past e =
        let same : o ≡ r = one_record S lawful o r m member named in
        let mine = block_kind r.change.hunks (place r.change.hunks number) (place r.change.hunks number + length bytes) at (insertion file ups downs bytes there) from upto in
        let kinds = same_Some (Text number (place r.change.hunks number) (place r.change.hunks number + length bytes)) (Text hunk first past) (sym mine ∙ ap (λ (w : Record). kind_at w.change.hunks at) (sym same) ∙ e) in
        let begin : place r.change.hunks number ≡ first = cc in
        let end : place r.change.hunks number + length bytes ≡ past = cc in
        subst (P first) end (subst (λ f. P f (place r.change.hunks number + length bytes)) begin holds_it)

    name_point : (h : Hunk) → slice_get r.change.hunks number ≡ Some h → 0 < position_count h → kind_in number (place r.change.hunks number) h 0 ≡ NameAt number → (P : ℕ → ℕ → Type 0) → InBlocks (own_point r (place r.change.hunks number)) P
    name_point h there some kind P = at_own (place r.change.hunks number) (NameAt number) (kind_at_first r.change.hunks number h there some ∙ ap Some kind) (λ hunk first past e. cc) P

    inode_point : (h : Hunk) → slice_get r.change.hunks number ≡ Some h → 1 < position_count h → (kind : Kind) → kind_in number (place r.change.hunks number) h 1 ≡ kind → ((hunk first past : ℕ) → kind ≡ Text hunk first past → ⊥) →
        (P : ℕ → ℕ → Type 0) → InBlocks (own_point r (place r.change.hunks number + 1)) P
    inode_point h there some kind is none P = at_own (place r.change.hunks number + 1) kind (kind_at_into r.change.hunks number h 1 there some ∙ ap Some is) none P

    -- a point that a name row joins has no text
    name_joins : (h : Hunk) → slice_get r.change.hunks number ≡ Some h → (p : Point) (P : ℕ → ℕ → Type 0) → (parent child : Place) → InBlocks (own_point r (place r.change.hunks number)) P →
        ((q : Point) → placed.At q ≡ parent → InBlocks q P) → ((q : Point) → placed.At q ≡ child → InBlocks q P) → (row : EdgeRow) → IsNameRow r (place r.change.hunks number) parent child row →
        (row.source ≡ placed.At p → InBlocks p P) × (InBlocks row.target P)
    name_joins h there p P parent child name of_parent of_child row joins = elim joins [
      | inl k ↦ (λ e. of_parent p (sym e ∙ k.from), subst (λ q. InBlocks q P) (sym (at_is row.target (own_point r (place r.change.hunks number)) k.to)) name)
      | inr k ↦ (λ e. subst (λ q. InBlocks q P) (sym (at_is p (own_point r (place r.change.hunks number)) (sym e ∙ k.from))) name, of_child row.target k.to)
    ]

    child_ok : (needs : List Record) (parent child : Ref) (name : List ℕ) (exec : Bool) → holds r needs (NameOf parent child name exec) ≡ true → is_inode r needs child ≡ true
    child_ok needs parent child name true e = or_left (is_file r needs child) (is_dir_inode (kind_of r needs child)) (and_parts (is_parent r needs parent) (is_file r needs child) e).1
    child_ok needs parent child name false e = (and_parts (is_parent r needs parent) (is_inode r needs child) e).1

    parent_ok : (needs : List Record) (parent child : Ref) (name : List ℕ) (exec : Bool) → holds r needs (NameOf parent child name exec) ≡ true → is_parent r needs parent ≡ true
    parent_ok needs parent child name true e = (and_parts (is_parent r needs parent) (is_file r needs child) e).0
    parent_ok needs parent child name false e = (and_parts (is_parent r needs parent) (is_inode r needs child) e).0

    -- both ends of a row of a hunk
    own_ends : (h : Hunk) → slice_get r.change.hunks number ≡ Some h → (row : EdgeRow) → IsOwnRow r (place r.change.hunks number) h row → (p : Point) → (row.source ≡ placed.At p → EndsAt p) × StartsAt row.target
    own_ends (File parent name exec) there row own p =
        let h : Hunk = File parent name exec in
        let m = member_at r.change.hunks number h there in
        let s = splits S r member in
        let both = λ (P : ℕ → ℕ → Type 0). name_joins h there p P (resolve r parent) (placed.At (own_point r (place r.change.hunks number + 1))) (name_point h there (omega arith) refl P)
        (λ q e. parent_kind h parent m (first_member parent []) s (context s h m) q e P)
        (λ q e. subst (λ w. InBlocks w P) (sym (at_is q (own_point r (place r.change.hunks number + 1)) e)) (inode_point h there (omega arith) (FileInode number) refl (λ hunk first past f. cc) P)) row own in
        (λ e. inr ((both (λ first past. p.offset + 1 ≡ past)).0 e), inr (both (λ first past. row.target.offset ≡ first)).1)
    own_ends (Dir parent name) there row own p =
        let h : Hunk = Dir parent name in
        let m = member_at r.change.hunks number h there in
        let s = splits S r member in
        let both = λ (P : ℕ → ℕ → Type 0). name_joins h there p P (resolve r parent) (placed.At (own_point r (place r.change.hunks number + 1))) (name_point h there (omega arith) refl P)
        (λ q e. parent_kind h parent m (first_member parent []) s (context s h m) q e P)
        (λ q e. subst (λ w. InBlocks w P) (sym (at_is q (own_point r (place r.change.hunks number + 1)) e)) (inode_point h there (omega arith) (DirInode number) refl (λ hunk first past f. cc) P)) row own in
        (λ e. inr ((both (λ first past. p.offset + 1 ≡ past)).0 e), inr (both (λ first past. row.target.offset ≡ first)).1)
    own_ends (NameOf parent child name exec) there row own p =
        let h : Hunk = NameOf parent child name exec in
        let m = member_at r.change.hunks number h there in
        let s = splits S r member in
        let ok = context s h m in
        let both = λ (P : ℕ → ℕ → Type 0). name_joins h there p P (resolve r parent) (resolve r child) (name_point h there (omega arith) refl P)
        (λ q e. parent_kind h parent m (first_member parent (child ∷ [])) s (parent_ok (needs_of s.before r) parent child name exec ok) q e P)
        (λ q e. child_kind h child m (later_member parent (child ∷ []) child (first_member child [])) s (child_ok (needs_of s.before r) parent child name exec ok) q e P) row own in
        (λ e. inr ((both (λ first past. p.offset + 1 ≡ past)).0 e), inr (both (λ first past. row.target.offset ≡ first)).1)
    own_ends (Insert file ups downs bytes) there row own p =
        let h : Hunk = Insert file ups downs bytes in
        let m = member_at r.change.hunks number h there in
        let some = bytes_some file ups downs bytes there in
        let last = place r.change.hunks number + length bytes - 1 in
        elim own [
          | inl up ↦ (
            λ e. inl (cut_by h m (next_point p) (or_left _ _ (any_member (λ u. is_just_before (next_point p) (resolve r u)) ups up.0 up.1 (just_before p (resolve r up.0) (sym up.2.from ∙ e))))),
            inr (subst (λ q. InBlocks q (λ first past. row.target.offset ≡ first)) (sym (at_is row.target (own_point r (place r.change.hunks number)) up.2.to))
                (of_block file ups downs bytes there (place r.change.hunks number) (omega arith) (omega (arith, some)) (λ first past. row.target.offset ≡ first)
                (ap (λ (q : Point). q.offset) (at_is row.target (own_point r (place r.change.hunks number)) up.2.to)))),
          )
          | inr down ↦ (
            λ e. inr (
                let same : p ≡ own_point r last = at_is p (own_point r last) (sym e ∙ down.2.from) in
                let offset : p.offset ≡ last = ap (λ (q : Point). q.offset) same in
                subst (λ q. InBlocks q (λ first past. p.offset + 1 ≡ past)) (sym same) (of_block file ups downs bytes there last (omega (arith, some)) (omega (arith, some)) (λ first past. p.offset + 1 ≡ past) (omega (arith, offset, some)))),
            inl (cut_by h m row.target (or_right _ _ (any_member (λ d. is_at row.target (resolve r d)) downs down.0 down.1 (just_at row.target (resolve r down.0) down.2.to)))),
          )
        ]
    own_ends (Order file source target) there row own p =
        let h : Hunk = Order file source target in
        let m = member_at r.change.hunks number h there in
        (λ e. inl (cut_by h m (next_point p) (or_left _ _ (just_before p (resolve r source) (sym own.from ∙ e)))), inl (cut_by h m row.target (or_right _ _ (just_at row.target (resolve r target) own.to))))
    own_ends (Delete owner start end by) there row own p = absurd own
    own_ends (Revive owner start end by) there row own p = absurd own

  -- both ends of a row
  row_ends : (row : EdgeRow) → IsEdgeRow S row → (p : Point) → (row.source ≡ placed.At p → EndsAt p) × StartsAt row.target
  row_ends row k p = elim k.is [
    | inl own ↦ own_ends k.introducer k.member k.number k.hunk k.there row own p
    | inr inner ↦ (
        let above = inside_above (place k.introducer.change.hunks k.number) k.hunk inner.at inner.inner in
        let target : row.target ≡ own_point k.introducer inner.at = ap (λ (q : EdgeRow). q.target) inner.is in (
          λ e. inl (
              let source : p ≡ own_point k.introducer (inner.at - 1) = at_is p (own_point k.introducer (inner.at - 1)) (sym e ∙ ap (λ (q : EdgeRow). q.source) inner.is) in
              let offset : p.offset ≡ inner.at - 1 = ap (λ (q : Point). q.offset) source in
              let next : p.offset + 1 ≡ inner.at = omega (arith, offset, above) in
              let point : next_point p ≡ own_point k.introducer inner.at = λ i. record { change = (source i).change; offset = next i } in
              ap (is_cut S) point ∙ inner.cut),
          inl (ap (is_cut S) target ∙ inner.cut),
        ))
  ]

  -- it leaves the last point of the vertex that has its source
  pub edge_leaves_last : (row : EdgeRow) → IsEdgeRow S row → (v : Vertex) → IsVertex S v → (p : Point) → row.source ≡ placed.At p → LiesIn p v → p ≡ last_point v
  edge_leaves_last row k v is p source lies = ends_last v is p lies ((row_ends row k p).0 source)

  -- and enters the first point of the vertex that has its target
  pub edge_enters_first : (row : EdgeRow) → IsEdgeRow S row → (v : Vertex) → IsVertex S v → LiesIn row.target v → row.target ≡ first_point v
  edge_enters_first row k v is lies = starts_first v is row.target lies (row_ends row k row.target).1

pub leaves_last : RowLeavesLastPoint
leaves_last S lawful e of row there = edge_leaves_last S lawful row ((of row).0 there)

pub enters_first : RowEntersFirstPoint
enters_first S lawful e of row there = edge_enters_first S lawful row ((of row).0 there)
