-- Images that keep a prefix of a file, over the calls of a disk.
use Rattle.std.proofs.Common.{◌∙◌, ℕ, ◌≤◌, min, List, length, sym, ap, arith, length-take}
use Rattle.std.proofs.lemmas.List.{length-take-le, take_min}
use Rattle.pj_disk.specs.Image.{Torn, Follows}
use Rattle.pj_disk.specs.Moments.{Elapses}
use Rattle.pj_journal.specs.Group.{HasPrefix, KeepsPrefix}
use Rattle.pj_journal.proofs.Slices.{same_front}
use Rattle.pj_journal.proofs.Moments.{one_call, and_then}

-- an image that has the first bytes of a file which has so many is no shorter
prefix_long : (n : ℕ) (file c : List ℕ) → n ≤ length file → HasPrefix n file c → n ≤ length c
prefix_long n file c long has = omega (arith, ap length has, length-take-le n file long, length-take n c)

-- a torn write behind them keeps them
torn_keeps : (n at k : ℕ) (file d c : List ℕ) → n ≤ at → n ≤ length file → HasPrefix n file d → Torn at k d c → HasPrefix n file c
torn_keeps n at k file d c behind long has torn =
    let d_long = prefix_long n file d long has in
    let least : n ≤ min at (length d) = omega arith in
    same_front (min at (length d)) n c d (torn.before ∙ sym (take_min at d)) least ∙ has

module _ {D : Type 0} (seen : D → List ℕ) (may_leave : D → List ℕ → Type 0) (moment : D → ℕ) (left_since : D → ℕ → List ℕ → Type 0) (n : ℕ) where
  -- a run of calls that keeps the first n bytes
  abbrev pub Keeps : D → D → Type 0
  Keeps old new = KeepsPrefix seen may_leave moment left_since n old new

  -- each image has them
  abbrev pub AllHave : D → Type 0
  AllHave disk = (c : List ℕ) → may_leave disk c → HasPrefix n (seen disk) c

  -- one write
  pub one_write : (reads : (disk : D) → may_leave disk (seen disk)) (only_now : (disk : D) (c : List ℕ) → left_since disk (moment disk) c → may_leave disk c)
      (old new : D) (at k : ℕ) → n ≤ at → at ≤ length (seen old) → Follows (Torn at k) (may_leave old) (may_leave new)
      → Elapses (moment old) (moment new) (left_since old) (left_since new) (may_leave new) → AllHave old → Keeps old new
  one_write reads only_now old new at k behind within images time before =
      let now : (c : List ℕ) → may_leave new c → HasPrefix n (seen old) c = λ c is.
      let from = images c is in torn_keeps n at k (seen old) from.0 c behind (omega arith) (before from.0 from.1) from.2 in
      record {
        images = now;
        stays = now (seen new) (reads new);
        moments = one_call moment left_since old new (HasPrefix n (seen old)) (may_leave new) (λ c left. before c (only_now old c left)) time now;
      }

  -- one run of calls after another
  pub keeps_then : (old mid new : D) → Keeps old mid → (AllHave mid → Keeps mid new) → Keeps old new
  keeps_then old mid new first then =
      let second = then (λ c is. first.images c is ∙ sym first.stays) in
      record {
        images = λ c is. second.images c is ∙ first.stays;
        stays = second.stays ∙ first.stays;
        moments = and_then moment left_since old mid new (HasPrefix n (seen old)) (HasPrefix n (seen mid)) first.moments second.moments
            (λ c has. has ∙ first.stays);
      }
