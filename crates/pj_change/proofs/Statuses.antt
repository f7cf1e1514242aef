-- In a lawful set each point has a surviving version, and the points of a vertex have one status.
use Rattle.std.proofs.Common.{◌≡◌, ℕ, zero, suc, ◌+◌, ◌-◌, ◌<◌, ◌≤◌, List, refl, sym, ◌∙◌, ap, inl, inr, arith, Bool, true, false}
use Rattle.std.specs.Prelude.{Contains, ◌⊎◌, not, ◌&&◌, ◌||◌, nat_eq, nat_le, nat_lt, if◌then◌else◌, Option, Some, None}
use Rattle.std.specs.List.{list_any}
use Rattle.std.proofs.lemmas.Bool.Decides.{nat_tests}
use Rattle.pj_name.specs.declared.name.Name.{Name}
use Rattle.pj_name.specs.Name.{same_name}
use Rattle.pj_change.specs.declared.point.Point.{Point}
use Rattle.pj_change.specs.declared.hunk.Hunk.{Hunk}
use Rattle.pj_change.specs.declared.hunk.Hunk.TheVariants.{File, Dir, NameOf, Insert, Order, Delete, Revive}
use Rattle.pj_change.specs.declared.graph.Status.TheVariants.{Alive, Dead, Zombie}
use Rattle.pj_change.specs.declared.change.Record.{Record}
use Rattle.pj_change.specs.Positions.{numbered}
use Rattle.pj_change.specs.Covers.{is_within, covers, is_delete, is_revive, by_of, deletes, revives, touches}
use Rattle.pj_change.specs.Versions.{survives, deletion_survives, life_survives}
use Rattle.pj_change.specs.Contested.{is_hunk_contested}
use Rattle.pj_change.specs.Status.{is_contested, status_of}
use Rattle.pj_change.specs.Vertices.{is_end, cuts, is_cut}
use Rattle.pj_change.specs.declared.kind.Kind.{Kind}
use Rattle.pj_change.specs.declared.kind.Kind.TheVariants.{NameAt, FileInode, DirInode, Text}
use Rattle.pj_change.specs.declared.graph.Vertex.{Vertex}
use Rattle.pj_change.specs.Positions.{kind_at}
use Rattle.pj_change.specs.Context.{is_file_inode, is_dir_inode}
use Rattle.pj_change.specs.Lawful.{IsLawfulSet}
use Rattle.pj_change.specs.Vertices.{IsVertexBy, IsVertex, first_point}
use Rattle.pj_change.proofs.Members.{any_alike, none_member, any_member, passes, none_passes}
use Rattle.std.proofs.lemmas.Bool.{and_parts, both_ways}
use Rattle.pj_change.proofs.Inodes.{touched}

-- ---- from a point to the next one, where no cut lies between

within_step : (b : Bool) (start end i : ℕ) → (b && (nat_eq start (i + 1) || nat_eq end (i + 1))) ≡ false →
    (b && nat_le start i && nat_lt i end) ≡ (b && nat_le start (i + 1) && nat_lt (i + 1) end)
within_step true start end i e = grind (arith, nat_tests)
within_step false start end i e = refl

abbrev pub point : Name → ℕ → Point
point change offset = record { change = change; offset = offset }

ends_step : (d : Record) (change : Name) (i owner start end : ℕ) → is_end d owner start end (point change (i + 1)) ≡ false →
    is_within (numbered d owner) start end (point change i) ≡ is_within (numbered d owner) start end (point change (i + 1))
ends_step d change i owner start end e = within_step (same_name (numbered d owner) change) start end i e

covers_step : (d : Record) (change : Name) (i : ℕ) (h : Hunk) → cuts d (point change (i + 1)) h ≡ false → covers d h (point change i) ≡ covers d h (point change (i + 1))
covers_step d change i (Delete owner start end by) e = ends_step d change i owner start end e
covers_step d change i (Revive owner start end by) e = ends_step d change i owner start end e
covers_step d change i (File parent name exec) e = refl
covers_step d change i (Dir parent name) e = refl
covers_step d change i (NameOf parent child name exec) e = refl
covers_step d change i (Insert file ups downs bytes) e = refl
covers_step d change i (Order file source target) e = refl

module _ (S : List Record) (change : Name) (i : ℕ) (uncut : is_cut S (point change (i + 1)) ≡ false) where
  hunk_step : (d : Record) → Contains S d → (h : Hunk) → Contains d.change.hunks h → covers d h (point change i) ≡ covers d h (point change (i + 1))
  hunk_step d m h n = covers_step d change i h
      (none_member (cuts d (point change (i + 1))) d.change.hunks h
      (none_member (λ r. list_any (cuts r (point change (i + 1))) r.change.hunks) S d uncut m) n)

  survives_step : (name : Name) → survives S name (point change i) ≡ survives S name (point change (i + 1))
  survives_step name = ap not (any_alike _ _ S (λ d m. any_alike _ _ d.change.hunks (λ h n. ap (λ b. b && list_any (λ k. same_name (numbered d k) name) (by_of h)) (hunk_step d m h n))))

  deletes_step : (d : Record) → Contains S d → deletes d (point change i) ≡ deletes d (point change (i + 1))
  deletes_step d m = any_alike _ _ d.change.hunks (λ h n. ap (λ b. is_delete h && b) (hunk_step d m h n))

  revives_step : (d : Record) → Contains S d → revives d (point change i) ≡ revives d (point change (i + 1))
  revives_step d m = any_alike _ _ d.change.hunks (λ h n. ap (λ b. is_revive h && b) (hunk_step d m h n))

  deletion_step : deletion_survives S (point change i) ≡ deletion_survives S (point change (i + 1))
  deletion_step = any_alike _ _ S (λ d m n. deletes_step d m n && survives_step d.name n)

  revived_step : list_any (λ d. revives d (point change i) && survives S d.name (point change i)) S ≡ list_any (λ d. revives d (point change (i + 1)) && survives S d.name (point change (i + 1))) S
  revived_step = any_alike _ _ S (λ d m n. revives_step d m n && survives_step d.name n)

  life_step : life_survives S (point change i) ≡ life_survives S (point change (i + 1))
  life_step = λ n. survives_step change n || revived_step n

  contested_step : (d : Record) → Contains S d →
      list_any (λ h. covers d h (point change i) && is_hunk_contested S d h) d.change.hunks ≡ list_any (λ h. covers d h (point change (i + 1)) && is_hunk_contested S d h) d.change.hunks
  contested_step d m = any_alike _ _ d.change.hunks (λ h n. ap (λ b. b && is_hunk_contested S d h) (hunk_step d m h n))

  is_contested_step : is_contested S (point change i) ≡ is_contested S (point change (i + 1))
  is_contested_step = any_alike _ _ S (λ d m n. survives_step d.name n && contested_step d m n)

  pub status_step : status_of S (point change i) ≡ status_of S (point change (i + 1))
  unfolding status_of
  status_step = λ n. if not (deletion_step n) then Alive else (if life_step n || is_contested_step n then Zombie else Dead)

-- the points up to one before which no cut lies have one status
pub status_run : (S : List Record) (change : Name) (start : ℕ) (more : ℕ) →
    ((k : ℕ) → start < k → k ≤ start + more → is_cut S (point change k) ≡ false) → status_of S (point change (start + more)) ≡ status_of S (point change start)
status_run S change start zero uncut = ap (λ k. status_of S (point change k)) (omega arith)
status_run S change start (suc more) uncut =
    let e : start + more + 1 ≡ start + suc more = omega arith in
    let last : is_cut S (point change (start + more + 1)) ≡ false = uncut (start + more + 1) (omega arith) (omega arith) in
    let step : status_of S (point change (start + more)) ≡ status_of S (point change (start + more + 1)) = status_step S change (start + more) last in
    let rest : status_of S (point change (start + more)) ≡ status_of S (point change start) = status_run S change start more (λ k l h. uncut k l (omega arith)) in
    ap (λ k. status_of S (point change k)) (sym e) ∙ sym step ∙ rest

-- ---- inodes

deletes_touches : (d : Record) (p : Point) → deletes d p ≡ true → touches d p ≡ true
deletes_touches d p e =
    let h = passes (λ h. is_delete h && covers d h p) d.change.hunks e in
    any_member (λ h. covers d h p) d.change.hunks h.it h.member (and_parts _ _ h.is).1

untouched_alive : (S : List Record) (p : Point) → ((d : Record) → Contains S d → touches d p ≡ true → ⊥) → status_of S p ≡ Alive
unfolding status_of
untouched_alive S p f =
    let none : deletion_survives S p ≡ false = none_passes (λ d. deletes d p && survives S d.name p) S (λ d m. go d m (deletes d p) refl) in
    rw none refl
  where
    go : (d : Record) → Contains S d → (b : Bool) → deletes d p ≡ b → (deletes d p && survives S d.name p) ≡ false
    go d m true h = absurd (f d m (deletes_touches d p h))
    go d m false h = rw h refl

-- ---- vertices

module _ (S : List Record) (set : IsLawfulSet S) (v : Vertex) (owner : Record) (member : Contains S owner) (name : owner.name ≡ v.change) where
  inode_untouched : (is_file_inode (kind_at owner.change.hunks v.start) ≡ true) ⊎ (is_dir_inode (kind_at owner.change.hunks v.start) ≡ true) →
      (d : Record) → Contains S d → touches d (first_point v) ≡ true → ⊥
  inode_untouched k d m t =
      let n = touched set.list set.lawful (first_point v) owner (set.same.back owner member) name d (set.same.back d m) t in
      elim k [ inl f ↦ both_ways _ n.no_file f | inr f ↦ both_ways _ n.no_dir f ]

  status_by : (k : Option Kind) → kind_at owner.change.hunks v.start ≡ k → IsVertexBy S owner v k → (i : ℕ) → v.start ≤ i → i < v.end → status_of S (point v.change i) ≡ v.status
  status_by None e h i l u = absurd h
  status_by (Some (NameAt hunk)) e h i l u =
      let one = h.0 in
      let same : i ≡ v.start = omega arith in
      ap (λ i. status_of S (point v.change i)) same ∙ sym h.2
  status_by (Some (FileInode hunk)) e h i l u =
      let one = h.0 in
      let same : i ≡ v.start = omega arith in
      ap (λ i. status_of S (point v.change i)) same ∙ untouched_alive S (first_point v) (inode_untouched (inl (ap is_file_inode e))) ∙ sym h.2
  status_by (Some (DirInode hunk)) e h i l u =
      let one = h.0 in
      let same : i ≡ v.start = omega arith in
      ap (λ i. status_of S (point v.change i)) same ∙ untouched_alive S (first_point v) (inode_untouched (inr (ap is_dir_inode e))) ∙ sym h.2
  status_by (Some (Text hunk first past)) e h i l u =
      let same : i ≡ v.start + (i - v.start) = omega arith in
      let run : status_of S (point v.change (v.start + (i - v.start))) ≡ status_of S (first_point v) =
      status_run S v.change v.start (i - v.start) (λ k a b. h.0.uncut k a (omega arith)) in
      ap (λ i. status_of S (point v.change i)) same ∙ run ∙ sym h.2

-- in a lawful set each point of a vertex has the status of the vertex
pub vertex_status : (S : List Record) → IsLawfulSet S → (v : Vertex) → IsVertex S v → (i : ℕ) → v.start ≤ i → i < v.end → status_of S (point v.change i) ≡ v.status
vertex_status S set v h i l u = status_by S set v h.owner h.member h.name (kind_at h.owner.change.hunks v.start) refl h.is i l u
