-- What all workers did, in the journal of the closed repository.
use Rattle.std.proofs.Common.{◌≡◌, ℕ, zero, suc, ◌+◌, ◌-◌, ◌<◌, ◌≤◌, List, [], ◌∷◌, ◌++◌, length, map, get_or, All, refl, sym, ◌∙◌, ap, subst, arith, append_assoc, append-nil, length-append}
use Rattle.std.specs.Prelude.{flat_map, Option}
use Rattle.std.proofs.lemmas.List.{get_or_append_left, get_or-append_right, get_or_push, length_push}
use mathlib.Core.Logic.{dite}
use native.Mathlib.Decide.{dec_le}
use Rattle.pj_machine.specs.declared.limits.Limits.{Limits}
use Rattle.pj_machine.specs.Call.{PassView, own}
use Rattle.pj_serve.specs.declared.working.Turn.{Turn}
use Rattle.pj_serve.specs.declared.working.Worker.{Worker}
use Rattle.pj_io.specs.Meanings.{Streams, Doors}
use Rattle.pj_serve.specs.Shares.{total}
use Rattle.pj_serve.specs.Shifts.{Shift, own_end, own_ends}
use Rattle.pj_serve.specs.Workers.{IsTurn, AreTurns, IsReady, IsWorkerAt, AreWorkers, HasWorked}
use Rattle.pj_load.proofs.SeatRows.{element}

module _ {T S D V : Type 0} (view : T → PassView) (doors : Doors V) (streams : Streams S D) (limits : Limits) where
  -- each worker did its work
  abbrev pub HaveWorked : List (Worker T S D V) → List (Worker T S D V) → Type 0
  HaveWorked [] [] = Unit {0}
  HaveWorked (a ∷ before) (b ∷ after) = HasWorked view doors streams limits a b × HaveWorked before after
  HaveWorked [] (b ∷ after) = ⊥
  HaveWorked (a ∷ before) [] = ⊥

  pub have_worked : (before after : List (Worker T S D V)) → length after ≡ length before → ((i : ℕ) (d : Worker T S D V) → i < length before → HasWorked view doors streams limits (get_or before i d) (get_or after i d)) → HaveWorked before after
  have_worked [] [] same each = tt
  have_worked [] (b ∷ after) same each = absurd (omega arith)
  have_worked (a ∷ before) [] same each = absurd (omega arith)
  have_worked (a ∷ before) (b ∷ after) same each = (each 0 a (omega arith), have_worked before after (omega arith) (λ i d lt. each (suc i) d (omega arith)))

  -- the workers may begin
  pub all_ready : (first : ℕ) (vs : List V) (ws : List (Worker T S D V)) → AreWorkers view doors first vs ws → All (IsReady view doors) ws
  all_ready first [] [] h i d lt = absurd (omega arith)
  all_ready first [] (w ∷ ws) h i d lt = absurd h
  all_ready first (v ∷ vs) [] h i d lt = absurd h
  all_ready first (v ∷ vs) (w ∷ ws) h zero d lt = h.0.ready
  all_ready first (v ∷ vs) (w ∷ ws) h (suc i) d lt = all_ready (first + doors.left v) vs ws h.1 i d (omega arith)

  -- the passes of a row of turns have the numbers from this one on
  abbrev pub NumberedFrom : ℕ → List (Turn T) → Type 0
  NumberedFrom first ts = (k : ℕ) (d : Turn T) → k < length ts → (view (get_or ts k d).pass).number ≡ first + k

  pub numbered_none : (first : ℕ) → NumberedFrom first []
  numbered_none first k d lt = absurd (omega arith)

  pub numbered_append : (first : ℕ) (xs ys : List (Turn T)) → NumberedFrom first xs → NumberedFrom (first + length xs) ys → NumberedFrom first (xs ++ ys)
  numbered_append first xs ys p q k d lt =
      let size = length-append xs ys in
      dite (dec_le (length xs) k)
      (λ le. let at = get_or-append_right xs ys (length xs) k d refl le in let n = q (k - length xs) d (omega (arith, le)) in
      ap (λ t. (view t.pass).number) at ∙ n ∙ omega (arith, le))
      (λ below. ap (λ t. (view t.pass).number) (get_or_append_left xs ys d k (omega (arith, below))) ∙ p k d (omega (arith, below)))

  module _ (first : ℕ) (v : V) (a b : Worker T S D V) (at : IsWorkerAt view doors first v a) (w : HasWorked view doors streams limits a b) where
    pub as_many_turns : length b.turns.items ≡ doors.left v
    as_many_turns = w.working.as_many_turns ∙ at.ready.count ∙ ap doors.left at.door_is

    pub as_many_kept : length b.kept.items + doors.left b.door ≡ doors.left v
    as_many_kept = w.working.as_many_kept ∙ ap doors.left at.door_is

    inside : (k : ℕ) → k < length b.turns.items → k < length a.turns.items
    inside k lt = let m = w.working.as_many_turns in omega arith

    pub number_at : NumberedFrom first b.turns.items
    number_at k d lt =
        let t = at.turns k d (inside k lt) in
        dite (dec_le (length b.kept.items) k)
        (λ le. ap (λ x. (view x.pass).number) (w.working.others k d le) ∙ t.of_pass)
        (λ below. let r = element b.kept.items k (omega (arith, below)) in
        let e = element b.ends.items k (let m = w.working.as_many_ends in omega (arith, below)) in
        (w.working.each k d d r.0 e.0 (omega (arith, below))).spoken.number ∙ t.of_pass)

    pub unused_at : (k : ℕ) (d : Turn T) → k < length b.turns.items → length b.kept.items ≤ k → own (view (get_or b.turns.items k d).pass) ≡ []
    unused_at k d lt le = ap (λ x. own (view x.pass)) (w.working.others k d le) ∙ (at.turns k d (inside k lt)).fresh.own

  -- the passes of all workers have the numbers from this one on
  pub all_numbered_at : (first : ℕ) (vs : List V) (ws ws' : List (Worker T S D V)) → AreWorkers view doors first vs ws → HaveWorked ws ws' → NumberedFrom first (flat_map (λ w. w.turns.items) ws')
  all_numbered_at first [] [] [] h w = numbered_none first
  all_numbered_at first [] [] (b ∷ ws') h w = absurd w
  all_numbered_at first [] (a ∷ ws) ws' h w = absurd h
  all_numbered_at first (v ∷ vs) [] ws' h w = absurd h
  all_numbered_at first (v ∷ vs) (a ∷ ws) [] h w = absurd w
  all_numbered_at first (v ∷ vs) (a ∷ ws) (b ∷ ws') h w =
      numbered_append first b.turns.items (flat_map (λ x. x.turns.items) ws') (number_at first v a b h.0 w.0)
      (subst (λ n. NumberedFrom (first + n) (flat_map (λ x. x.turns.items) ws')) (sym (as_many_turns first v a b h.0 w.0)) (all_numbered_at (first + doors.left v) vs ws ws' h.1 w.1))

  -- how much all workers leave
  pub record Leaves (sessions workers : ℕ) (ws' : List (Worker T S D V)) : Type 0 where
    pub turns : length (flat_map (λ w. w.turns.items) ws') ≡ sessions
    pub kept : length (flat_map (λ w. w.kept.items) ws') ≤ sessions
    pub ends : length (flat_map (λ w. w.ends.items) ws') ≤ sessions
    pub workers_are : length ws' ≡ workers

  pub leaves : (first : ℕ) (vs : List V) (ws ws' : List (Worker T S D V)) → AreWorkers view doors first vs ws → HaveWorked ws ws' → Leaves (total (map doors.left vs)) (length vs) ws'
  leaves first [] [] [] h w = record { turns = refl; kept = omega arith; ends = omega arith; workers_are = refl }
  leaves first [] [] (b ∷ ws') h w = absurd w
  leaves first [] (a ∷ ws) ws' h w = absurd h
  leaves first (v ∷ vs) [] ws' h w = absurd h
  leaves first (v ∷ vs) (a ∷ ws) [] h w = absurd w
  leaves first (v ∷ vs) (a ∷ ws) (b ∷ ws') h w =
      let rest = leaves (first + doors.left v) vs ws ws' h.1 w.1 in
      let turns = as_many_turns first v a b h.0 w.0 in
      let kept = as_many_kept first v a b h.0 w.0 in
      let ends = w.0.working.as_many_ends in
      let t = rest.turns in let k = rest.kept in let e = rest.ends in let m = rest.workers_are in
      let more_turns = length-append b.turns.items (flat_map (λ x. x.turns.items) ws') in
      let more_kept = length-append b.kept.items (flat_map (λ x. x.kept.items) ws') in
      let more_ends = length-append b.ends.items (flat_map (λ x. x.ends.items) ws') in
      record { turns = omega arith; kept = omega arith; ends = omega arith; workers_are = omega arith }

-- the workers themselves have at most an end each
pub few_own_ends : {S D V : Type 0} (number : ℕ) (shifts : List (Shift S D V)) → length (own_ends number shifts) ≤ length shifts
few_own_ends number [] = omega arith
few_own_ends {S} {D} {V} number (shift ∷ shifts) =
    let rest = few_own_ends (number + 1) shifts in
    let one = at_most_one shift.own in
    let both = length-append (own_end number shift.own) (own_ends (number + 1) shifts) in
    omega arith
  where
    at_most_one : (o : Option _) → length (own_end number o) ≤ 1
    at_most_one Option.None = omega arith
    at_most_one (Option.Some e) = omega arith

-- ---- passes and workers are made one by one

pub turns_none : {T : Type 0} (view : T → PassView) (first : ℕ) (ts : List (Turn T)) → ts ≡ [] → AreTurns view first ts
turns_none {T} view first ts none = subst (λ l. AreTurns view first l) (sym none) (λ k d lt. absurd (omega arith))

pub turns_more : {T : Type 0} (view : T → PassView) (first : ℕ) (ts ts' : List (Turn T)) (t : Turn T) → AreTurns view first ts → ts' ≡ ts ++ t ∷ [] → IsTurn view (first + length ts) t → AreTurns view first ts'
turns_more view first ts ts' t before made is k d lt =
    let size : length ts' ≡ length ts + 1 = ap (λ (l : List (Turn _)). length l) made ∙ length_push ts t in
    dite (dec_le (length ts) k)
    (λ le. let at : length ts ≡ k = omega (arith, le, size, lt) in
    let here : t ≡ get_or ts' k d = sym (get_or_push ts t d (length ts) refl) ∙ ap (λ l. get_or l (length ts) d) (sym made) ∙ ap (λ n. get_or ts' n d) at in
    subst (λ x. IsTurn view (first + k) x) here (subst (λ n. IsTurn view (first + n) t) at is))
    (λ below. let under : k < length ts = omega (arith, below) in
    subst (λ x. IsTurn view (first + k) x) (sym (get_or_append_left ts (t ∷ []) d k under) ∙ ap (λ l. get_or l k d) (sym made)) (before k d under))

module _ {T S D V : Type 0} (view : T → PassView) (doors : Doors V) (first : ℕ) (all : List V) where
  pub workers_begin : (left : List V) (done : List (Worker T S D V)) → done ≡ [] → left ≡ all → (ws : List (Worker T S D V)) → AreWorkers view doors first left ws → AreWorkers view doors first all (done ++ ws)
  workers_begin left done none same ws h = subst (λ d. AreWorkers view doors first all (d ++ ws)) (sym none) (subst (λ l. AreWorkers view doors first l ws) same h)

  pub workers_more : (made made' : ℕ) (left left' : List V) (done done' : List (Worker T S D V)) (v : V) (w : Worker T S D V)
      → ((ws : List (Worker T S D V)) → AreWorkers view doors made left ws → AreWorkers view doors first all (done ++ ws)) → left ≡ v ∷ left' → made' ≡ made + doors.left v → IsWorkerAt view doors made v w → done' ≡ done ++ w ∷ []
      → (ws : List (Worker T S D V)) → AreWorkers view doors made' left' ws → AreWorkers view doors first all (done' ++ ws)
  workers_more made made' left left' done done' v w before taken made_is at pushed ws h =
      subst (λ l. AreWorkers view doors first all (l ++ ws)) (sym pushed)
      (subst (λ l. AreWorkers view doors first all l) (sym (append_assoc done (w ∷ []) ws))
      (before (w ∷ ws) (subst (λ l. AreWorkers view doors made l (w ∷ ws)) (sym taken) (at, subst (λ n. AreWorkers view doors n left' ws) made_is h))))

  pub workers_end : (made : ℕ) (left : List V) (done : List (Worker T S D V)) → ((ws : List (Worker T S D V)) → AreWorkers view doors made left ws → AreWorkers view doors first all (done ++ ws)) → left ≡ [] → AreWorkers view doors first all done
  workers_end made left done before none = subst (λ l. AreWorkers view doors first all l) (append-nil done) (before [] (subst (λ l. AreWorkers {S = S} {D = D} view doors made l []) (sym none) tt))

-- how many sessions the doors that are left have
pub total_taken : {V : Type 0} (count : V → ℕ) (left left' : List V) (v : V) → left ≡ v ∷ left' → total (map count left) ≡ count v + total (map count left')
total_taken count left left' v taken = ap (λ l. total (map count l)) taken
