-- The bytes of a vertex of a set are those that its owner gives to it.
use Rattle.std.proofs.Common.{◌≡◌, ℕ, Bool, true, false, List, [], ◌∷◌, refl, sym, ◌∙◌, ap, inl, inr}
use Rattle.std.specs.Prelude.{Contains, ◌↔◌, IsTrue, Some, None, slice_get}
use Rattle.std.proofs.lemmas.Option.{same_Some, none-some}
use Rattle.pj_name.specs.Name.{same_name}
use Rattle.pj_change.specs.declared.graph.Status.{Status}
use Rattle.pj_change.specs.declared.graph.Status.TheVariants.{Alive, Dead, Zombie}
use Rattle.pj_change.specs.declared.graph.Vertex.{Vertex}
use Rattle.pj_change.specs.declared.change.Record.{Record}
use Rattle.pj_change.specs.FileText.{bytes_of, IsPiece}
use Rattle.pj_change.specs.Lawful.{record_of}
use Rattle.pj_change.specs.Vertices.{IsVertex}
use Rattle.pj_change.proofs.EqualNames.{same_name_is, is_same_name}
use Rattle.pj_change.proofs.Members.{uncons, first_member, later_member, no_member}
use Rattle.pj_print.specs.Pieces.{is_zombie, bytes_in, piece_of, piece_by, piece_at}

-- ---- by the first change of the name

bytes_first : (r : Record) (rs : List Record) (v : Vertex) → same_name r.name v.change ≡ true → bytes_in (r ∷ rs) v ≡ bytes_of r.change.hunks v
bytes_first r rs v e = rw e refl

bytes_later : (r : Record) (rs : List Record) (v : Vertex) → same_name r.name v.change ≡ false → bytes_in (r ∷ rs) v ≡ bytes_in rs v
bytes_later r rs v e = rw e refl

found_first : (r : Record) (rs : List Record) (v : Vertex) → same_name r.name v.change ≡ true → record_of (r ∷ rs) v.change ≡ Some r
found_first r rs v e = rw e refl

found_later : (r : Record) (rs : List Record) (v : Vertex) → same_name r.name v.change ≡ false → record_of (r ∷ rs) v.change ≡ record_of rs v.change
found_later r rs v e = rw e refl

bytes_found_in : (r : Record) (rs : List Record) (v : Vertex) (owner : Record) → record_of (r ∷ rs) v.change ≡ Some owner → (record_of rs v.change ≡ Some owner → bytes_in rs v ≡ bytes_of owner.change.hunks v) →
    (b : Bool) → same_name r.name v.change ≡ b → bytes_in (r ∷ rs) v ≡ bytes_of owner.change.hunks v
bytes_found_in r rs v owner e rest true k = bytes_first r rs v k ∙ ap (λ (o : Record). bytes_of o.change.hunks v) (same_Some r owner (sym (found_first r rs v k) ∙ e))
bytes_found_in r rs v owner e rest false k = bytes_later r rs v k ∙ rest (sym (found_later r rs v k) ∙ e)

pub bytes_found : (S : List Record) (v : Vertex) (owner : Record) → record_of S v.change ≡ Some owner → bytes_in S v ≡ bytes_of owner.change.hunks v
bytes_found [] v owner e = absurd (none-some owner e)
bytes_found (r ∷ rs) v owner e = bytes_found_in r rs v owner e (bytes_found rs v owner) (same_name r.name v.change) refl

bytes_missing_in : (r : Record) (rs : List Record) (v : Vertex) → record_of (r ∷ rs) v.change ≡ None → (record_of rs v.change ≡ None → bytes_in rs v ≡ []) →
    (b : Bool) → same_name r.name v.change ≡ b → bytes_in (r ∷ rs) v ≡ []
bytes_missing_in r rs v e rest true k = absurd (none-some r (sym e ∙ found_first r rs v k))
bytes_missing_in r rs v e rest false k = bytes_later r rs v k ∙ rest (sym (found_later r rs v k) ∙ e)

pub bytes_missing : (S : List Record) (v : Vertex) → record_of S v.change ≡ None → bytes_in S v ≡ []
bytes_missing [] v e = refl
bytes_missing (r ∷ rs) v e = bytes_missing_in r rs v e (bytes_missing rs v) (same_name r.name v.change) refl

-- ---- by an owner

-- a change of the set that gives the vertex its bytes
record HasOwner (S : List Record) (v : Vertex) : Type 0 where
  owner : Record
  member : Contains S owner
  name : owner.name ≡ v.change
  bytes : bytes_in S v ≡ bytes_of owner.change.hunks v

owned_later : (s : Record) (S : List Record) (v : Vertex) → HasOwner S v → same_name s.name v.change ≡ false → HasOwner (s ∷ S) v
owned_later s S v h k = record { owner = h.owner; member = later_member s S h.owner h.member; name = h.name; bytes = bytes_later s S v k ∙ h.bytes }

owned_in : (s : Record) (S : List Record) (v : Vertex) (r : Record) → Contains (s ∷ S) r → r.name ≡ v.change → (Contains S r → HasOwner S v) → (b : Bool) → same_name s.name v.change ≡ b → HasOwner (s ∷ S) v
owned_in s S v r m e rest true k = record { owner = s; member = first_member s S; name = same_name_is s.name v.change k; bytes = bytes_first s S v k }
owned_in s S v r m e rest false k = elim (uncons s S r m) [
  | inl same ↦ absurd (let t : same_name s.name v.change ≡ true = is_same_name s.name v.change (ap (λ (o : Record). o.name) same ∙ e) in cc)
  | inr n ↦ owned_later s S v (rest n) k
]

owned : (S : List Record) (v : Vertex) (r : Record) → Contains S r → r.name ≡ v.change → HasOwner S v
owned [] v r m e = absurd (no_member r m)
owned (s ∷ S) v r m e = owned_in s S v r m e (λ n. owned S v r n e) (same_name s.name v.change) refl

zombie_told : (s : Status) → IsTrue (is_zombie s) ↔ (s ≡ Zombie)
zombie_told Zombie = (λ e. refl, λ e. refl)
zombie_told Alive = (λ e. absurd (cc), λ e. absurd (cc))
zombie_told Dead = (λ e. absurd (cc), λ e. absurd (cc))

-- a vertex of the set as it is written
pub piece_is : (S : List Record) (v : Vertex) → IsVertex S v → IsPiece S v (piece_of S v)
piece_is S v h =
    let o = owned S v h.owner h.member h.name in
    record { zombie = zombie_told v.status; owner = o.owner; member = o.member; name = o.name; bytes = o.bytes }

pub piece_at_is : (S : List Record) (live : List Vertex) (at : ℕ) (v : Vertex) → slice_get live at ≡ Some v → piece_at S live at ≡ piece_of S v
piece_at_is S live at v e = ap (piece_by S) e
