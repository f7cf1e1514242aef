-- What the replies to a pass are, in one journal.
use Rattle.std.specs.Prelude.{◌≢◌, ℕ, ◌+◌, ◌<◌, ◌≤◌, List, [], ◌∷◌, length, All}
use Rattle.pj_machine.specs.declared.command.Command.{Command}
use Rattle.pj_machine.specs.declared.journal.Entry.{Entry}
use Rattle.pj_machine.specs.declared.limits.Limits.{Limits}
use Rattle.pj_machine.specs.declared.reply.Numbered.{Numbered}
use Rattle.pj_machine.specs.declared.reply.Numbered.TheVariants.{At, NoMemory}
use Rattle.pj_machine.specs.Call.{entries_of, entries_at, IsResult}

-- the place is not below `low`, and is above it where the call has an entry
abbrev pub IsPlaced : List Entry → ℕ → ℕ → ℕ → Numbered → Type 0
IsPlaced journal pass call low (At place reply) = (low ≤ place) × (entries_at pass call journal ≢ [] → low < place)
IsPlaced journal pass call low NoMemory = Unit {0}

-- the greatest place, after one result more
abbrev pub place_after : ℕ → Numbered → ℕ
place_after low (At place reply) = place
place_after low NoMemory = low

-- the results of the calls from this number on, where `low` is the greatest place before
abbrev pub AreResults : Limits → List Entry → ℕ → ℕ → ℕ → List Command → List Numbered → Type 0
AreResults limits journal pass call low [] [] = Unit {0}
AreResults limits journal pass call low (x ∷ xs) (r ∷ rs) =
    IsResult limits journal pass call x r × IsPlaced journal pass call low r
    × AreResults limits journal pass (call + 1) (place_after low r) xs rs
AreResults limits journal pass call low [] (r ∷ rs) = ⊥
AreResults limits journal pass call low (x ∷ xs) [] = ⊥

-- the entry is of one of the first calls
abbrev pub IsOfFirst : ℕ → Entry → Type 0
IsOfFirst calls e = (0 < e.call) × (e.call ≤ calls)

-- in this journal the pass asked this and was replied this, and has no other entries
pub record Spoke (limits : Limits) (journal : List Entry) (pass : ℕ) (xs : List Command) (rs : List Numbered) : Type 0 where
  pub results : AreResults limits journal pass 1 0 xs rs
  pub no_other : All (IsOfFirst (length xs)) (entries_of pass journal)
