-- A list of changes with distinct names, kept as links by name.
use Rattle.std.specs.Prelude.{◌≡◌, ℕ, zero, suc, Bool, false, cond, List, [], ◌∷◌, length, Option, Some, None}
use Rattle.std.specs.Option.{option_map}
use Rattle.std.specs.Ordering.{on}
use Rattle.std.specs.declared.cmp.Ordering.{Ordering}
use Rattle.std.specs.Ptr.{null_ptr}
use Rattle.std.specs.Arc.{arc_value}
use Rattle.pj_name.specs.declared.name.Name.{Name}
use Rattle.pj_name.specs.Name.{same_name, name_cmp}
use Rattle.pj_change.specs.declared.change.Record.{Record}
use Rattle.pj_change.specs.Lawful.{is_held}
use Rattle.pj_pmap.specs.Pairs.{value_at, IsRising}
use Rattle.pj_apply.specs.declared.link.HeldName.{HeldName}
use Rattle.pj_apply.specs.declared.link.Link.{Link}

-- the key of a name
abbrev pub key : Name → HeldName
key name = record { name = name }

-- keys in the order of their names
abbrev pub key_cmp : HeldName → HeldName → Ordering
key_cmp = on (λ k. k.name) name_cmp

-- what contracts see of the link of a change between two names
abbrev pub link : Record → Option Name → Option Name → Link
link r before after = record { change = record { ptr = null_ptr; value = r }; before = before; after = after }

-- what contracts see of a link, wherever its change is kept
abbrev pub shown_link : Link → Link
shown_link l = link (arc_value l.change) l.before l.after

-- ---- the links of a list that stands between two names

-- the name of the first change, or what stands after them where there is none
abbrev pub first_name : List Record → Option Name → Option Name
first_name [] after = after
first_name (r ∷ list) after = Some r.name

-- the name of the last change, or what stands before them where there is none
abbrev pub last_name : Option Name → List Record → Option Name
last_name before [] = before
last_name before (r ∷ list) = last_name (Some r.name) list

-- the link of the first change of this name
abbrev pub link_of : Option Name → List Record → Option Name → Name → Option Link
link_of before [] after name = None
link_of before (r ∷ list) after name = cond (same_name r.name name) (Some (link r before (first_name list after))) (link_of (Some r.name) list after name)

-- the end of a list: the other name, where nothing stands between it and the end
abbrev pub moved_end : Option Name → Option Name → Option Name → Option Name
moved_end None other end = other
moved_end (Some name) other end = end

-- no change has the name of one after it
abbrev pub AreDistinct : List Record → Type 0
AreDistinct [] = Unit {0}
AreDistinct (r ∷ list) = (is_held list r.name ≡ false) × AreDistinct list

-- the pairs, and the names of the first and the last change, keep the list
pub record IsKept (list : List Record) (pairs : List (HeldName × Link)) (first last : Option Name) : Type 0 where
  pub distinct : AreDistinct list
  pub first_is : first ≡ first_name list None
  pub last_is : last ≡ last_name None list
  pub links : (name : Name) → value_at key_cmp (key name) pairs ≡ link_of None list None name
  pub count : length pairs ≡ length list
  pub rising : IsRising key_cmp pairs

-- ---- the list of the links

-- the link of a name, if there is one
abbrev pub found : List (HeldName × Link) → Option Name → Option Link
found pairs None = None
found pairs (Some name) = value_at key_cmp (key name) pairs

-- the change of the link, and what comes after it
abbrev pub step : Option Link → (Option Name → List Record) → List Record
step None rest = []
step (Some l) rest = arc_value l.change ∷ rest l.after

-- the changes from this name on, at most so many
abbrev pub listed : List (HeldName × Link) → ℕ → Option Name → List Record
listed pairs zero at = []
listed pairs (suc n) at = step (found pairs at) (listed pairs n)

-- ---- a link with another neighbour

-- this is the name
abbrev pub is_at : Option Name → Name → Bool
is_at None name = false
is_at (Some n) name = same_name n name

-- the link with this name before it
abbrev pub set_before : Option Name → Link → Link
set_before name l = record l { before = name }

-- the link with this name after it
abbrev pub set_after : Option Name → Link → Link
set_after name l = record l { after = name }

-- what is found under a name once the link at a place is set
abbrev pub set_at : Option Name → (Link → Link) → Name → Option Link → Option Link
set_at at set name found = cond (is_at at name) (option_map set found) found

-- the pairs are the old ones, but for the link at this place
pub record IsSet (at : Option Name) (set : Link → Link) (old new : List (HeldName × Link)) : Type 0 where
  pub links : (name : Name) → value_at key_cmp (key name) new ≡ set_at at set name (value_at key_cmp (key name) old)
  pub count : length new ≡ length old
  pub rising : IsRising key_cmp new
