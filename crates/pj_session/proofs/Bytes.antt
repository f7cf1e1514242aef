-- Bytes of requests and of replies.
use Rattle.std.proofs.Common.{◌≡◌, ℕ, suc, ◌+◌, ◌<◌, ◌≤◌, Bool, true, false, List, [], ◌∷◌, ◌++◌, length, take, drop, min, All, Result, Ok, Err, refl, sym, ◌∙◌, ap, subst, arith, append_assoc, append-nil, length-append, length-take}
use Rattle.std.proofs.lemmas.List.{take-append-le, length-take-le}
use Rattle.std.proofs.lemmas.List.Concat.{flat_map-append}
use mathlib.Core.Logic.{dite}
use native.Mathlib.Decide.{dec_le}
use Rattle.pj_io.specs.Sink.{AppendsFront, GivesAll}
use Rattle.pj_machine.specs.declared.command.Command.{Command}
use Rattle.pj_machine.specs.declared.command.Command.TheVariants as command
use Rattle.pj_machine.specs.declared.reply.Numbered.{Numbered}
use Rattle.pj_wire.specs.Requests.{spelling, spellings, IsRequest, IsCall, IsPart, HasNone, Begins, HasRequests}
use Rattle.pj_wire.specs.Replies.{reply_bytes, written}
use Rattle.pj_wire.proofs.Readings.{spellings_append}

-- ---- requests

-- a request has at least two bytes
pub spelling_some : (x : Command) → 2 ≤ length (spelling x)
spelling_some (command.Put text) = omega arith
spelling_some (command.Get change) = omega arith
spelling_some (command.Inverse change) = omega arith
spelling_some (command.New name) = omega arith
spelling_some (command.Fork from to) = omega arith
spelling_some (command.Drop name) = omega arith
spelling_some (command.Apply name change) = omega arith
spelling_some (command.Unrecord name change) = omega arith
spelling_some (command.Uproot name change) = omega arith
spelling_some (command.Pull to from) = omega arith
spelling_some (command.Graph name) = omega arith
spelling_some (command.Print name) = omega arith
spelling_some (command.Log name) = omega arith
spelling_some command.Channels = omega arith
spelling_some command.Journal = omega arith
spelling_some command.Quit = omega arith

-- what follows a request is shorter by two
pub shorter : (old new : List ℕ) (x : Command) → old ≡ spelling x ++ new → length new + 2 ≤ length old
shorter old new x e = omega (arith, spelling_some x, length-append (spelling x) new, ap (λ (t : List ℕ). length t) e)

-- as many requests as half the bytes at most
pub no_longer : (xs : List Command) → length xs + length xs ≤ length (spellings xs)
no_longer [] = omega arith
no_longer (x ∷ xs) = omega (arith, spelling_some x, no_longer xs, length-append (spelling x) (spellings xs))

pub spellings_push : (xs : List Command) (x : Command) → spellings (xs ++ x ∷ []) ≡ spellings xs ++ spelling x
spellings_push xs x = spellings_append xs (x ∷ []) ∙ ap (λ t. spellings xs ++ t) (append-nil (spelling x))

pub nothing_is_part : IsPart []
nothing_is_part = record { value = command.Quit; allowed = tt; missing = spelling command.Quit; whole = refl; some = omega arith }

-- a request that is not the one to quit has a reply
pub is_call : (x : Command) (b : Bool) → IsRequest x → (x ≡ command.Quit → b ≡ true) → b ≡ false → IsCall x
is_call x b allowed tests no' = record { allowed = allowed; replied = λ e. let h : true ≡ false = sym (tests e) ∙ no' in cc }

-- bytes that are these requests and a rest
pub begins_with : (bytes : List ℕ) (xs : List Command) (rest : List ℕ) → bytes ≡ spellings xs ++ rest → All IsCall xs → Begins bytes xs false rest
begins_with bytes xs rest e each = record { whole = e ∙ ap (λ t. t ++ rest) (sym (append-nil (spellings xs))); each = each }

pub all_requests : (bytes : List ℕ) (xs : List Command) (rest : List ℕ) → bytes ≡ spellings xs ++ rest → All IsCall xs → HasNone rest → HasRequests bytes xs false rest
all_requests bytes xs rest e each none = record { begins = begins_with bytes xs rest e each; no_more = λ h. none }

pub all_to_quit : (bytes : List ℕ) (xs : List Command) (rest : List ℕ) → bytes ≡ spellings xs ++ (spelling command.Quit ++ rest) → All IsCall xs → HasRequests bytes xs true rest
all_to_quit bytes xs rest e each = record { begins = record { whole = e ∙ sym (append_assoc (spellings xs) (spelling command.Quit) rest); each = each }; no_more = λ h. cc }

-- ---- a piece of bytes

-- what follows a request that was not whole before the piece is shorter than the piece
less_than_piece : (left got : List ℕ) (x : Command) (more : List ℕ) → HasNone left → IsRequest x → left ++ got ≡ spelling x ++ more → length more < length got
less_than_piece left got x more none allowed e =
    let sizes : length left + length got ≡ length (spelling x) + length more = sym (length-append left got) ∙ ap (λ (t : List ℕ). length t) e ∙ length-append (spelling x) more in
    dite (dec_le (length (spelling x)) (length left))
    (λ le. absurd (none x (drop (length (spelling x)) left) allowed (longer (spelling x) left got more le e)))
    (λ above. omega (arith, above))
  where
    longer : (s l g m : List ℕ) → length s ≤ length l → l ++ g ≡ s ++ m → l ≡ s ++ drop (length s) l
    longer [] l g m le e = refl
    longer (y ∷ s) [] g m le e = absurd (omega arith)
    longer (y ∷ s) (z ∷ l) g m le e = let same : z ≡ y = cc in ap (λ k. k ∷ l) same ∙ ap (λ t. y ∷ t) (longer s l g m (omega arith) (cc))

-- all that follows several requests is shorter too
pub rest_of_more : (left got : List ℕ) (xs : List Command) (rest : List ℕ) → HasNone left → All IsCall xs → 0 < length xs → left ++ got ≡ spellings xs ++ rest → length rest < length got
rest_of_more left got [] rest none each some e = absurd (omega arith)
rest_of_more left got (x ∷ xs) rest none each some e =
    let first : length (spellings xs ++ rest) < length got = less_than_piece left got x (spellings xs ++ rest) none (each 0 x (omega arith)).allowed (e ∙ append_assoc (spelling x) (spellings xs) rest) in
    omega (arith, first, length-append (spellings xs) rest)

pub rest_of_quit : (left got : List ℕ) (xs : List Command) (rest : List ℕ) → HasNone left → All IsCall xs → left ++ got ≡ spellings xs ++ (spelling command.Quit ++ rest) → length rest < length got
rest_of_quit left got [] rest none each e = less_than_piece left got command.Quit rest none tt e
rest_of_quit left got (x ∷ xs) rest none each e = omega (arith, rest_of_more left got (x ∷ xs) (spelling command.Quit ++ rest) none each (omega arith) e, length-append (spelling command.Quit) rest)

-- the bytes of a piece, as they stand in the buffer that they were put into
pub got_facts : (into later old : List ℕ) (count wanted room : ℕ) → count ≤ length (take wanted old) → length into ≡ length (take wanted old) → wanted ≡ min room 4096
    → (take count (into ++ later) ≡ take count into) × (length (take count (into ++ later)) ≡ count) × (count ≤ room) × (count ≤ 4096)
got_facts into later old count wanted room bound same is =
    let within : count ≤ length into = omega arith in
    let front : take count (into ++ later) ≡ take count into = take-append-le count into later within in
    let few : count ≤ wanted = omega (arith, length-take wanted old) in
    (front, ap (λ (t : List ℕ). length t) front ∙ length-take-le count into within, omega arith, omega arith)

-- ---- replies

pub written_append : (rs qs : List Numbered) → written (rs ++ qs) ≡ written rs ++ written qs
written_append rs qs = flat_map-append reply_bytes rs qs

pub written_push : (rs : List Numbered) (r : Numbered) → written (rs ++ r ∷ []) ≡ written rs ++ reply_bytes r
written_push rs r = written_append rs (r ∷ []) ∙ ap (λ t. written rs ++ t) (append-nil (reply_bytes r))

-- a front of the later bytes, behind all of the first ones, is a front of both
front_more : (w w1 w2 a b c : List ℕ) → w1 ≡ w ++ a → AppendsFront w1 w2 b → AppendsFront w w2 (a ++ (b ++ c))
front_more w w1 w2 a b c first more =
    let n = more.0 in
    let few : n ≤ length b = more.1 in (
      length a + n,
      omega (arith, length-append a (b ++ c), length-append b c),
      more.2 ∙ ap (λ t. t ++ take n b) first ∙ append_assoc w a (take n b)
          ∙ ap (λ t. w ++ (a ++ t)) (sym (take-append-le n b c few)) ∙ ap (λ t. w ++ t) (sym (take_behind a (b ++ c) n)),
    )
  where
    take_behind : (a s : List ℕ) (n : ℕ) → take (length a + n) (a ++ s) ≡ a ++ take n s
    take_behind [] s n = let zero_add : 0 + n ≡ n = omega arith in ap (λ k. take k s) zero_add
    take_behind (x ∷ a) s n = let next : suc (length a) + n ≡ suc (length a + n) = omega arith in ap (λ k. take k (x ∷ (a ++ s))) next ∙ ap (λ t. x ∷ t) (take_behind a s n)

-- all of the first bytes, and then what a call gave of the later ones
pub gave_more : {E : Type 0} (w w1 w2 a b : List ℕ) (r : Result (Unit {0}) E) → w1 ≡ w ++ a → GivesAll w1 w2 b r → GivesAll w w2 (a ++ b) r
gave_more w w1 w2 a b (Ok u) first g = g ∙ ap (λ t. t ++ b) first ∙ append_assoc w a b
gave_more w w1 w2 a b (Err e) first g = subst (λ t. AppendsFront w w2 (a ++ t)) (append-nil b) (front_more w w1 w2 a b [] first g)
