-- The pairs of the names that are not dead, as the walk keeps them: in order, each once, and the children of a parent together.
use Rattle.std.specs.Prelude.{◌≡◌, ◌≢◌, Bool, true, false, ◌&&◌, ◌||◌, List, Contains, map, filter, if◌then◌else◌}
use Rattle.std.specs.List.{list_any}
use Rattle.std.specs.List.Sorted.{IsStrictlySortedBy}
use Rattle.std.specs.declared.cmp.Ordering.{Ordering}
use Rattle.std.specs.Ordering.{is_eq, on}
use Rattle.pj_change.specs.declared.point.Point.{Point}
use Rattle.pj_change.specs.declared.point.Place.{Place}
use Rattle.pj_change.specs.declared.graph.Status.{Status}
use Rattle.pj_change.specs.declared.graph.Status.TheVariants.{Alive, Dead, Zombie}
use Rattle.pj_change.specs.declared.print.StepWord.{StepWord}
use Rattle.pj_change.specs.declared.print.StepWord.TheVariants as word
use Rattle.pj_change.specs.Positions.{same_place}
use Rattle.pj_change.specs.Children.{Child}
use Rattle.pj_tree.specs.declared.row.NameRow.{NameRow}
use Rattle.pj_tree.specs.declared.pairings.Pairing.{Pairing}
use Rattle.pj_tree.specs.Rows.{pair_cmp}

-- ---- children

-- the child that a pairing is
abbrev pub child_of : Pairing → Child
child_of e = record { bytes = e.row.now.name; inode = e.row.now.child; word = e.word; exec = e.exec }

-- the parent of the pairing is this one
abbrev pub is_in : Place → Pairing → Bool
is_in parent e = same_place e.row.now.parent parent

-- the pairings whose parent is this one
abbrev pub pairings_in : Place → List Pairing → List Pairing
pairings_in parent pairings = filter (is_in parent) pairings

-- the children that those pairings are
abbrev pub children_in : Place → List Pairing → List Child
children_in parent pairings = map child_of (pairings_in parent pairings)

-- by parent, then by name and inode
abbrev pub pairing_cmp : Pairing → Pairing → Ordering
pairing_cmp = on (λ e. e.row.now) pair_cmp

-- ---- what the names say of a pair

-- a name of this status gives a pairing this word
abbrev pub has_word : Status → StepWord → Bool
has_word Alive word.Alive = true
has_word Zombie word.Zombie = true
has_word s w = false

-- the two names have one pair
abbrev pub is_pair : NameRow → NameRow → Bool
is_pair r q = is_eq (pair_cmp q r)

-- a pairing has the pair of r
pub record IsCovered (pairings : List Pairing) (r : NameRow) : Type 0 where
  pub pairing : Pairing
  pub there : Contains pairings pairing
  pub is : is_pair r pairing.row.now ≡ true

module _ (status : Point → Status) (rows : List NameRow) where
  -- a name that gives this word says the pair of r
  abbrev pub says : NameRow → StepWord → Bool
  says r w = list_any (λ q. is_pair r q && has_word (status q.at) w) rows

  -- so does an executable one
  abbrev pub says_exec : NameRow → StepWord → Bool
  says_exec r w = list_any (λ q. is_pair r q && (has_word (status q.at) w && q.exec)) rows

  -- a name that is not dead says the pair; the word is that of one that is alive, or else that of a zombie
  pub record IsPairing (e : Pairing) : Type 0 where
    pub there : Contains rows e.row.now
    pub said : says e.row.now e.word ≡ true
    pub word : e.word ≡ (if says e.row.now word.Alive then word.Alive else word.Zombie)
    pub exec : e.exec ≡ says_exec e.row.now e.word

  -- the pairings are those of the pairs of the names that are not dead
  pub record ArePairings (pairings : List Pairing) : Type 0 where
    pub sorted : IsStrictlySortedBy pairing_cmp pairings
    pub each : (e : Pairing) → Contains pairings e → IsPairing e
    pub all : (r : NameRow) → Contains rows r → (status r.at ≢ Dead) → IsCovered pairings r

-- ---- one more name

-- the pairing of the word v with one more name of its pair, which gives the word w
abbrev pub merged_by : StepWord → StepWord → Pairing → Bool → Pairing
merged_by word.Alive word.Alive e exec = record { row = e.row; word = word.Alive; exec = e.exec || exec }
merged_by word.Zombie word.Zombie e exec = record { row = e.row; word = word.Zombie; exec = e.exec || exec }
merged_by word.Zombie word.Alive e exec = record { row = e.row; word = word.Alive; exec = exec }
merged_by v w e exec = e

-- the pairing with one more name of its pair, which gives the word w
abbrev pub merged : Pairing → StepWord → Bool → Pairing
merged e w exec = merged_by e.word w e exec
