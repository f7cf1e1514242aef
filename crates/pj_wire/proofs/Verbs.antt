-- A request has one verb, and what stands behind it.
use Rattle.std.proofs.Common.{◌≡◌, ℕ, ◌+◌, ◌<◌, false, List, [], ◌∷◌, ◌++◌, length, take, drop, get_or, codes, decimal, refl, sym, ◌∙◌, ap, inl, inr, arith, append-nil, append_assoc, length-append, length-take}
use Rattle.std.specs.Prelude.{if◌then◌else◌}
use Rattle.std.specs.List.{AllPass}
use Rattle.std.specs.Str.{bytes_eq}
use Rattle.std.proofs.lemmas.List.{append_cancel_left, take_at, take-append-drop}
use Rattle.pj_name.specs.Name.{hex, no_name}
use Rattle.pj_scan.specs.Scan.{is_word_byte}
use Rattle.pj_machine.specs.declared.command.Command.{Command}
use Rattle.pj_machine.specs.declared.command.Command.TheVariants as command
use Rattle.pj_wire.specs.declared.verb.Verb.{Verb}
use Rattle.pj_wire.specs.declared.verb.Verb.TheVariants as verb
use Rattle.pj_wire.specs.declared.verb.TheConstants.{VERBS}
use Rattle.pj_wire.specs.Requests.{spelling, IsRequest}
use Rattle.pj_wire.specs.Verbs.{text_of, end_of, word_of, GoesOn}
use Rattle.pj_wire.specs.Stages.{Completes}
use Rattle.pj_wire.proofs.Channels.{a_channel}
use Rattle.pj_wire.proofs.Fronts.{either_begins}
use Rattle.pj_wire.proofs.Words.{ended_words, passes}

-- ---- verbs are told apart

verb_inside : (v : Verb) → AllPass is_word_byte (text_of v)
verb_inside verb.Apply = passes (codes "apply") refl
verb_inside verb.Channels = passes (codes "channels") refl
verb_inside verb.Drop = passes (codes "drop") refl
verb_inside verb.Fork = passes (codes "fork") refl
verb_inside verb.Get = passes (codes "get") refl
verb_inside verb.Graph = passes (codes "graph") refl
verb_inside verb.Inverse = passes (codes "inverse") refl
verb_inside verb.Journal = passes (codes "journal") refl
verb_inside verb.Log = passes (codes "log") refl
verb_inside verb.New = passes (codes "new") refl
verb_inside verb.Print = passes (codes "print") refl
verb_inside verb.Pull = passes (codes "pull") refl
verb_inside verb.Put = passes (codes "put") refl
verb_inside verb.Quit = passes (codes "quit") refl
verb_inside verb.Unrecord = passes (codes "unrecord") refl
verb_inside verb.Uproot = passes (codes "uproot") refl

verb_stop : (v : Verb) → is_word_byte (end_of v) ≡ false
verb_stop verb.Apply = refl
verb_stop verb.Channels = refl
verb_stop verb.Drop = refl
verb_stop verb.Fork = refl
verb_stop verb.Get = refl
verb_stop verb.Graph = refl
verb_stop verb.Inverse = refl
verb_stop verb.Journal = refl
verb_stop verb.Log = refl
verb_stop verb.New = refl
verb_stop verb.Print = refl
verb_stop verb.Pull = refl
verb_stop verb.Put = refl
verb_stop verb.Quit = refl
verb_stop verb.Unrecord = refl
verb_stop verb.Uproot = refl

-- the verb with this text
abbrev named : List ℕ → Verb
named t =
    if bytes_eq t (codes "apply") then verb.Apply else (
    if bytes_eq t (codes "channels") then verb.Channels else (
    if bytes_eq t (codes "drop") then verb.Drop else (
    if bytes_eq t (codes "fork") then verb.Fork else (
    if bytes_eq t (codes "get") then verb.Get else (
    if bytes_eq t (codes "graph") then verb.Graph else (
    if bytes_eq t (codes "inverse") then verb.Inverse else (
    if bytes_eq t (codes "journal") then verb.Journal else (
    if bytes_eq t (codes "log") then verb.Log else (
    if bytes_eq t (codes "new") then verb.New else (
    if bytes_eq t (codes "print") then verb.Print else (
    if bytes_eq t (codes "pull") then verb.Pull else (
    if bytes_eq t (codes "put") then verb.Put else (
    if bytes_eq t (codes "quit") then verb.Quit else (
    if bytes_eq t (codes "unrecord") then verb.Unrecord else verb.Uproot))))))))))))))

named_text : (v : Verb) → named (text_of v) ≡ v
named_text verb.Apply = refl
named_text verb.Channels = refl
named_text verb.Drop = refl
named_text verb.Fork = refl
named_text verb.Get = refl
named_text verb.Graph = refl
named_text verb.Inverse = refl
named_text verb.Journal = refl
named_text verb.Log = refl
named_text verb.New = refl
named_text verb.Print = refl
named_text verb.Pull = refl
named_text verb.Put = refl
named_text verb.Quit = refl
named_text verb.Unrecord = refl
named_text verb.Uproot = refl

-- two verbs at one front, each with the byte that ends it
verbs_apart : (u v : Verb) (a b : List ℕ) → word_of u ++ a ≡ word_of v ++ b → u ≡ v
verbs_apart u v a b e =
    let same = ended_words (text_of u) (text_of v) a b (end_of u) (end_of v) (verb_inside u) (verb_inside v) (verb_stop u) (verb_stop v)
    (sym (append_assoc (text_of u) (end_of u ∷ []) a) ∙ e ∙ append_assoc (text_of v) (end_of v ∷ []) b) in
    sym (named_text u) ∙ ap named same.0 ∙ named_text v

-- each verb has a place among all of them
pub place_of : (v : Verb) → (k : ℕ) × (k < length VERBS) × (get_or VERBS k verb.Apply ≡ v)
place_of verb.Apply = (0, omega arith, refl)
place_of verb.Channels = (1, omega arith, refl)
place_of verb.Drop = (2, omega arith, refl)
place_of verb.Fork = (3, omega arith, refl)
place_of verb.Get = (4, omega arith, refl)
place_of verb.Graph = (5, omega arith, refl)
place_of verb.Inverse = (6, omega arith, refl)
place_of verb.Journal = (7, omega arith, refl)
place_of verb.Log = (8, omega arith, refl)
place_of verb.New = (9, omega arith, refl)
place_of verb.Print = (10, omega arith, refl)
place_of verb.Pull = (11, omega arith, refl)
place_of verb.Put = (12, omega arith, refl)
place_of verb.Quit = (13, omega arith, refl)
place_of verb.Unrecord = (14, omega arith, refl)
place_of verb.Uproot = (15, omega arith, refl)

-- ---- the verb of a request

abbrev pub verb_of : Command → Verb
verb_of (command.Put text) = verb.Put
verb_of (command.Get change) = verb.Get
verb_of (command.Inverse change) = verb.Inverse
verb_of (command.New name) = verb.New
verb_of (command.Fork from to) = verb.Fork
verb_of (command.Drop name) = verb.Drop
verb_of (command.Apply name change) = verb.Apply
verb_of (command.Unrecord name change) = verb.Unrecord
verb_of (command.Uproot name change) = verb.Uproot
verb_of (command.Pull to from) = verb.Pull
verb_of (command.Graph name) = verb.Graph
verb_of (command.Print name) = verb.Print
verb_of (command.Log name) = verb.Log
verb_of command.Channels = verb.Channels
verb_of command.Journal = verb.Journal
verb_of command.Quit = verb.Quit

-- what stands behind it
abbrev pub behind_of : Command → List ℕ
behind_of (command.Put text) = decimal (length text) ++ 10 ∷ (text ++ 10 ∷ [])
behind_of (command.Get change) = hex change.bytes ++ 10 ∷ []
behind_of (command.Inverse change) = hex change.bytes ++ 10 ∷ []
behind_of (command.New name) = name ++ 10 ∷ []
behind_of (command.Fork from to) = from ++ 32 ∷ (to ++ 10 ∷ [])
behind_of (command.Drop name) = name ++ 10 ∷ []
behind_of (command.Apply name change) = name ++ 32 ∷ (hex change.bytes ++ 10 ∷ [])
behind_of (command.Unrecord name change) = name ++ 32 ∷ (hex change.bytes ++ 10 ∷ [])
behind_of (command.Uproot name change) = name ++ 32 ∷ (hex change.bytes ++ 10 ∷ [])
behind_of (command.Pull to from) = to ++ 32 ∷ (from ++ 10 ∷ [])
behind_of (command.Graph name) = name ++ 10 ∷ []
behind_of (command.Print name) = name ++ 10 ∷ []
behind_of (command.Log name) = name ++ 10 ∷ []
behind_of command.Channels = []
behind_of command.Journal = []
behind_of command.Quit = []

two_words : (v : Verb) (a b : List ℕ) → word_of v ++ ((a ++ 32 ∷ b) ++ 10 ∷ []) ≡ word_of v ++ (a ++ 32 ∷ (b ++ 10 ∷ []))
two_words v a b = ap (λ (s : List ℕ). word_of v ++ s) (append_assoc a (32 ∷ b) (10 ∷ []))

pub spelled : (x : Command) → spelling x ≡ word_of (verb_of x) ++ behind_of x
spelled (command.Put text) =
    let digits : List ℕ = decimal (length text) in
    ap (λ (s : List ℕ). codes "put " ++ s) (append_assoc (digits ++ 10 ∷ []) text (10 ∷ []) ∙ append_assoc digits (10 ∷ []) (text ++ 10 ∷ []))
spelled (command.Get change) = refl
spelled (command.Inverse change) = refl
spelled (command.New name) = refl
spelled (command.Fork from to) = two_words verb.Fork from to
spelled (command.Drop name) = refl
spelled (command.Apply name change) = two_words verb.Apply name (hex change.bytes)
spelled (command.Unrecord name change) = two_words verb.Unrecord name (hex change.bytes)
spelled (command.Uproot name change) = two_words verb.Uproot name (hex change.bytes)
spelled (command.Pull to from) = two_words verb.Pull to from
spelled (command.Graph name) = refl
spelled (command.Print name) = refl
spelled (command.Log name) = refl
spelled command.Channels = refl
spelled command.Journal = refl
spelled command.Quit = refl

-- a request that begins with a verb has it, and goes on behind it
pub behind_verb : (v : Verb) (x : Command) (more : List ℕ) → word_of v ++ more ≡ spelling x → (verb_of x ≡ v) × (behind_of x ≡ more)
behind_verb v x more e =
    let same : verb_of x ≡ v = verbs_apart (verb_of x) v (behind_of x) more (sym (spelled x) ∙ sym e) in
    (same, append_cancel_left (word_of v) (behind_of x) more (ap (λ (u : Verb). word_of u ++ behind_of x) (sym same) ∙ sym (spelled x) ∙ sym e))

-- a request of each verb
pub some_request : (v : Verb) → (x : Command) × IsRequest x × (verb_of x ≡ v)
some_request verb.Apply = (command.Apply (97 ∷ []) no_name, a_channel, refl)
some_request verb.Channels = (command.Channels, tt, refl)
some_request verb.Drop = (command.Drop (97 ∷ []), a_channel, refl)
some_request verb.Fork = (command.Fork (97 ∷ []) (97 ∷ []), (a_channel, a_channel), refl)
some_request verb.Get = (command.Get no_name, tt, refl)
some_request verb.Graph = (command.Graph (97 ∷ []), a_channel, refl)
some_request verb.Inverse = (command.Inverse no_name, tt, refl)
some_request verb.Journal = (command.Journal, tt, refl)
some_request verb.Log = (command.Log (97 ∷ []), a_channel, refl)
some_request verb.New = (command.New (97 ∷ []), a_channel, refl)
some_request verb.Print = (command.Print (97 ∷ []), a_channel, refl)
some_request verb.Pull = (command.Pull (97 ∷ []) (97 ∷ []), (a_channel, a_channel), refl)
some_request verb.Put = (command.Put [], omega arith, refl)
some_request verb.Quit = (command.Quit, tt, refl)
some_request verb.Unrecord = (command.Unrecord (97 ∷ []) no_name, a_channel, refl)
some_request verb.Uproot = (command.Uproot (97 ∷ []) no_name, a_channel, refl)

-- ---- a verb that is cut

-- behind the same bytes it has one more
next_front : (v u : Verb) (read byte : ℕ) → read < length (word_of v) → GoesOn v read byte u → take (read + 1) (word_of u) ≡ take read (word_of v) ++ byte ∷ []
next_front v u read byte within on =
    let front : List ℕ = take read (word_of v) in
    let whole : word_of u ≡ (front ++ byte ∷ []) ++ on.0 = on.1 ∙ sym (append_assoc front (byte ∷ []) on.0) in
    ap (λ (s : List ℕ). take (read + 1) s) whole ∙ take_at (front ++ byte ∷ []) on.0 (read + 1) (omega (arith, length-append front (byte ∷ []), length-take read (word_of v), within))

-- what completes the one completes the other
pub verb_goes_on : (v u : Verb) (read byte : ℕ) → read < length (word_of v) → GoesOn v read byte u → (more : List ℕ)
    → (Completes (take read (word_of v)) (byte ∷ more) → Completes (take (read + 1) (word_of u)) more) × (Completes (take (read + 1) (word_of u)) more → Completes (take read (word_of v)) (byte ∷ more))
verb_goes_on v u read byte within on more =
    let front : List ℕ = take read (word_of v) in
    let same : take (read + 1) (word_of u) ++ more ≡ front ++ byte ∷ more = ap (λ (s : List ℕ). s ++ more) (next_front v u read byte within on) ∙ append_assoc front (byte ∷ []) more in
    (λ h. (h.0, h.1, same ∙ h.2), λ h. (h.0, h.1, sym same ∙ h.2))

-- a byte with which no verb goes on completes nothing
pub no_verb : (v : Verb) (read byte : ℕ) → read < length (word_of v) → ((u : Verb) → GoesOn v read byte u → ⊥) → (more : List ℕ) → Completes (take read (word_of v)) (byte ∷ more) → ⊥
no_verb v read byte within none more h = elim (either_begins front (byte ∷ more) (word_of u) (behind_of h.0) both) [ inl r ↦ shorter r.0 r.1 | inr r ↦ longer r.0 r.1 ]
  where
    front : List ℕ
    front = take read (word_of v)

    u : Verb
    u = verb_of h.0

    both : take read (word_of v) ++ byte ∷ more ≡ word_of (verb_of h.0) ++ behind_of h.0
    both = h.2 ∙ spelled h.0

    longer : (r : List ℕ) → take read (word_of v) ≡ word_of (verb_of h.0) ++ r → ⊥
    longer r is =
        let whole : word_of v ++ [] ≡ word_of (verb_of h.0) ++ (r ++ drop read (word_of v)) =
        append-nil (word_of v) ∙ sym (take-append-drop read (word_of v)) ∙ ap (λ (s : List ℕ). s ++ drop read (word_of v)) is ∙ append_assoc (word_of (verb_of h.0)) r (drop read (word_of v)) in
        let same : length (word_of v) ≡ length (word_of (verb_of h.0)) = ap (λ (w : Verb). length (word_of w)) (verbs_apart v (verb_of h.0) [] (r ++ drop read (word_of v)) whole) in
        let count : length (take read (word_of v)) ≡ length (word_of (verb_of h.0)) + length r = ap (λ (s : List ℕ). length s) is ∙ length-append (word_of (verb_of h.0)) r in
        omega (arith, same, count, within, length-take read (word_of v))

    shorter : (r : List ℕ) → take read (word_of v) ++ r ≡ word_of (verb_of h.0) → ⊥
    shorter [] is = longer [] (sym (append-nil (take read (word_of v))) ∙ is ∙ sym (append-nil (word_of (verb_of h.0))))
    shorter (c ∷ r) is =
        let behind : byte ∷ more ≡ c ∷ (r ++ behind_of h.0) = append_cancel_left (take read (word_of v)) (byte ∷ more) (c ∷ (r ++ behind_of h.0))
        (both ∙ ap (λ (s : List ℕ). s ++ behind_of h.0) (sym is) ∙ append_assoc (take read (word_of v)) (c ∷ r) (behind_of h.0)) in
        let same : c ≡ byte = ap (λ (s : List ℕ). get_or s 0 0) (sym behind) in
        none (verb_of h.0) (r, sym is ∙ ap (λ (b : ℕ). take read (word_of v) ++ b ∷ r) same)
