-- No request is a proper front of another, and a request is spelled by one command.
use Rattle.std.proofs.Common.{◌≡◌, ℕ, ◌<◌, ◌^◌, Bool, ◌||◌, List, [], ◌∷◌, ◌++◌, length, drop, get_or, codes, decimal, refl, sym, ◌∙◌, ap, arith, append_assoc}
use Rattle.std.specs.Prelude.{if◌then◌else◌}
use Rattle.std.specs.List.{join_with_byte}
use Rattle.std.specs.Str.{bytes_eq}
use Rattle.std.proofs.lemmas.Fmt.{decimal_injective}
use Rattle.pj_name.specs.declared.name.Name.{Name}
use Rattle.pj_name.specs.Name.{hex, no_name}
use Rattle.pj_name.proofs.Names.{hex-injective}
use Rattle.pj_machine.specs.declared.command.Command.{Command}
use Rattle.pj_machine.specs.declared.command.Command.TheVariants as command
use Rattle.pj_wire.specs.Requests.{spelling, IsRequest}
use Rattle.pj_wire.proofs.OneLine.{AllWords, one_line, one_body, word_at}
use Rattle.pj_wire.proofs.Words.{passes, channel_inside, hex_inside, decimal_inside}

-- ---- the parts of a request

-- the first word
abbrev verb : Command → List ℕ
verb (command.Put text) = codes "put"
verb (command.Get change) = codes "get"
verb (command.Inverse change) = codes "inverse"
verb (command.New name) = codes "new"
verb (command.Fork from to) = codes "fork"
verb (command.Drop name) = codes "drop"
verb (command.Apply name change) = codes "apply"
verb (command.Unrecord name change) = codes "unrecord"
verb (command.Uproot name change) = codes "uproot"
verb (command.Pull to from) = codes "pull"
verb (command.Graph name) = codes "graph"
verb (command.Print name) = codes "print"
verb (command.Log name) = codes "log"
verb command.Channels = codes "channels"
verb command.Journal = codes "journal"
verb command.Quit = codes "quit"

-- the other words
abbrev operands : Command → List (List ℕ)
operands (command.Put text) = decimal (length text) ∷ []
operands (command.Get change) = hex change.bytes ∷ []
operands (command.Inverse change) = hex change.bytes ∷ []
operands (command.New name) = name ∷ []
operands (command.Fork from to) = from ∷ to ∷ []
operands (command.Drop name) = name ∷ []
operands (command.Apply name change) = name ∷ hex change.bytes ∷ []
operands (command.Unrecord name change) = name ∷ hex change.bytes ∷ []
operands (command.Uproot name change) = name ∷ hex change.bytes ∷ []
operands (command.Pull to from) = to ∷ from ∷ []
operands (command.Graph name) = name ∷ []
operands (command.Print name) = name ∷ []
operands (command.Log name) = name ∷ []
operands command.Channels = []
operands command.Journal = []
operands command.Quit = []

-- the text of a `put`
abbrev text_of : Command → List ℕ
text_of (command.Put text) = text
text_of x = []

-- the change that is named
abbrev change_of : Command → Name
change_of (command.Get change) = change
change_of (command.Inverse change) = change
change_of (command.Apply name change) = change
change_of (command.Unrecord name change) = change
change_of (command.Uproot name change) = change
change_of x = no_name

-- ---- from the words back to the parts

-- the verb of a `put`
abbrev is_put : List ℕ → Bool
is_put v = bytes_eq v (codes "put")

-- what stands behind the line
abbrev body_of : List ℕ → List ℕ → List ℕ
body_of v text = if is_put v then text ++ 10 ∷ [] else []

-- the digits of the length of the text
abbrev length_word : List ℕ → List (List ℕ) → List ℕ
length_word v ws = if is_put v then word_at 0 ws else decimal 0

-- a verb with a change alone, and one with a channel and a change
abbrev has_change : List ℕ → Bool
has_change v = bytes_eq v (codes "get") || bytes_eq v (codes "inverse")

abbrev has_channel_change : List ℕ → Bool
has_channel_change v = bytes_eq v (codes "apply") || bytes_eq v (codes "unrecord") || bytes_eq v (codes "uproot")

-- the digits of the change
abbrev change_word : List ℕ → List (List ℕ) → List ℕ
change_word v ws = if has_change v then word_at 0 ws else (if has_channel_change v then word_at 1 ws else hex no_name.bytes)

-- the command of a verb, its words, a text and a change
abbrev made_of : List ℕ → List (List ℕ) → List ℕ → Name → Command
made_of v ws text change =
    if bytes_eq v (codes "put") then command.Put text else (
    if bytes_eq v (codes "get") then command.Get change else (
    if bytes_eq v (codes "inverse") then command.Inverse change else (
    if bytes_eq v (codes "new") then command.New (word_at 0 ws) else (
    if bytes_eq v (codes "fork") then command.Fork (word_at 0 ws) (word_at 1 ws) else (
    if bytes_eq v (codes "drop") then command.Drop (word_at 0 ws) else (
    if bytes_eq v (codes "apply") then command.Apply (word_at 0 ws) change else (
    if bytes_eq v (codes "unrecord") then command.Unrecord (word_at 0 ws) change else (
    if bytes_eq v (codes "uproot") then command.Uproot (word_at 0 ws) change else (
    if bytes_eq v (codes "pull") then command.Pull (word_at 0 ws) (word_at 1 ws) else (
    if bytes_eq v (codes "graph") then command.Graph (word_at 0 ws) else (
    if bytes_eq v (codes "print") then command.Print (word_at 0 ws) else (
    if bytes_eq v (codes "log") then command.Log (word_at 0 ws) else (
    if bytes_eq v (codes "channels") then command.Channels else (
    if bytes_eq v (codes "journal") then command.Journal else (
    command.Quit)))))))))))))))

abbrev Facts : Command → Type 0
Facts x =
    (made_of (verb x) (operands x) (text_of x) (change_of x) ≡ x)
    × (length_word (verb x) (operands x) ≡ decimal (length (text_of x)))
    × (change_word (verb x) (operands x) ≡ hex (change_of x).bytes)
    × (text_of x ≡ (if is_put (verb x) then text_of x else []))

facts : (x : Command) → Facts x
facts (command.Put text) = (refl, refl, refl, refl)
facts (command.Get change) = (refl, refl, refl, refl)
facts (command.Inverse change) = (refl, refl, refl, refl)
facts (command.New name) = (refl, refl, refl, refl)
facts (command.Fork from to) = (refl, refl, refl, refl)
facts (command.Drop name) = (refl, refl, refl, refl)
facts (command.Apply name change) = (refl, refl, refl, refl)
facts (command.Unrecord name change) = (refl, refl, refl, refl)
facts (command.Uproot name change) = (refl, refl, refl, refl)
facts (command.Pull to from) = (refl, refl, refl, refl)
facts (command.Graph name) = (refl, refl, refl, refl)
facts (command.Print name) = (refl, refl, refl, refl)
facts (command.Log name) = (refl, refl, refl, refl)
facts command.Channels = (refl, refl, refl, refl)
facts command.Journal = (refl, refl, refl, refl)
facts command.Quit = (refl, refl, refl, refl)

-- the words on a line, and what stands behind it
spelled : (x : Command) → spelling x ≡ join_with_byte 32 (verb x ∷ operands x) ++ 10 ∷ body_of (verb x) (text_of x)
spelled (command.Put text) =
    let digits : List ℕ = decimal (length text) in
    ap (λ (s : List ℕ). codes "put " ++ s) (append_assoc (digits ++ 10 ∷ []) text (10 ∷ []) ∙ append_assoc digits (10 ∷ []) (text ++ 10 ∷ []))
spelled (command.Get change) = refl
spelled (command.Inverse change) = refl
spelled (command.New name) = refl
spelled (command.Fork from to) = refl
spelled (command.Drop name) = refl
spelled (command.Apply name change) = refl
spelled (command.Unrecord name change) = refl
spelled (command.Uproot name change) = refl
spelled (command.Pull to from) = refl
spelled (command.Graph name) = refl
spelled (command.Print name) = refl
spelled (command.Log name) = refl
spelled command.Channels = refl
spelled command.Journal = refl
spelled command.Quit = refl

inside : (x : Command) → IsRequest x → AllWords (verb x ∷ operands x)
inside (command.Put text) ok = (passes (codes "put") refl, (decimal_inside (length text) ok, tt))
inside (command.Get change) ok = (passes (codes "get") refl, (hex_inside change, tt))
inside (command.Inverse change) ok = (passes (codes "inverse") refl, (hex_inside change, tt))
inside (command.New name) ok = (passes (codes "new") refl, (channel_inside name ok, tt))
inside (command.Fork from to) ok = (passes (codes "fork") refl, (channel_inside from ok.0, (channel_inside to ok.1, tt)))
inside (command.Drop name) ok = (passes (codes "drop") refl, (channel_inside name ok, tt))
inside (command.Apply name change) ok = (passes (codes "apply") refl, (channel_inside name ok, (hex_inside change, tt)))
inside (command.Unrecord name change) ok = (passes (codes "unrecord") refl, (channel_inside name ok, (hex_inside change, tt)))
inside (command.Uproot name change) ok = (passes (codes "uproot") refl, (channel_inside name ok, (hex_inside change, tt)))
inside (command.Pull to from) ok = (passes (codes "pull") refl, (channel_inside to ok.0, (channel_inside from ok.1, tt)))
inside (command.Graph name) ok = (passes (codes "graph") refl, (channel_inside name ok, tt))
inside (command.Print name) ok = (passes (codes "print") refl, (channel_inside name ok, tt))
inside (command.Log name) ok = (passes (codes "log") refl, (channel_inside name ok, tt))
inside command.Channels ok = (passes (codes "channels") refl, tt)
inside command.Journal ok = (passes (codes "journal") refl, tt)
inside command.Quit ok = (passes (codes "quit") refl, tt)

-- a text is not too long
short : (x : Command) → IsRequest x → length (text_of x) < 2 ^ 64
short (command.Put text) ok = omega (arith, ok)
short (command.Get change) ok = omega arith
short (command.Inverse change) ok = omega arith
short (command.New name) ok = omega arith
short (command.Fork from to) ok = omega arith
short (command.Drop name) ok = omega arith
short (command.Apply name change) ok = omega arith
short (command.Unrecord name change) ok = omega arith
short (command.Uproot name change) ok = omega arith
short (command.Pull to from) ok = omega arith
short (command.Graph name) ok = omega arith
short (command.Print name) ok = omega arith
short (command.Log name) ok = omega arith
short command.Channels ok = omega arith
short command.Journal ok = omega arith
short command.Quit ok = omega arith

-- ---- one request

pub one_request : (x y : Command) (a b : List ℕ) → IsRequest x → IsRequest y → spelling x ++ a ≡ spelling y ++ b → (x ≡ y) × (a ≡ b)
one_request x y a b p q e =
    let join : Command → List ℕ = λ x. join_with_byte 32 (verb x ∷ operands x) in
    let body : Command → List ℕ = λ x. body_of (verb x) (text_of x) in
    let apart : (x : Command) (a : List ℕ) → spelling x ++ a ≡ join x ++ 10 ∷ (body x ++ a) = λ x a. ap (λ (s : List ℕ). s ++ a) (spelled x) ∙ append_assoc (join x) (10 ∷ body x) a in
    let lines = one_line (verb x) (verb y) (operands x) (operands y) (body x ++ a) (body y ++ b) (inside x p) (inside y q) (sym (apart x a) ∙ e ∙ apart y b) in
    let verbs : verb x ≡ verb y = ap (λ (l : List (List ℕ)). get_or l 0 []) lines.0 in
    let words : operands x ≡ operands y = ap (λ (l : List (List ℕ)). drop 1 l) lines.0 in
    let fx = facts x in
    let fy = facts y in
    let counts : decimal (length (text_of x)) ≡ decimal (length (text_of y)) = sym fx.1 ∙ ap (λ (v : List ℕ). length_word v (operands x)) verbs ∙ ap (λ (l : List (List ℕ)). length_word (verb y) l) words ∙ fy.1 in
    let count = decimal_injective (length (text_of x)) (length (text_of y)) (short x p) (short y q) counts in
    let names : hex (change_of x).bytes ≡ hex (change_of y).bytes = sym fx.2 ∙ ap (λ (v : List ℕ). change_word v (operands x)) verbs ∙ ap (λ (l : List (List ℕ)). change_word (verb y) l) words ∙ fy.2 in
    let name = hex-injective (change_of x) (change_of y) names in
    let bodies = one_body (is_put (verb y)) (text_of x) (text_of y) a b count
    (fx.3 ∙ ap (λ (v : List ℕ). if is_put v then text_of x else []) verbs) fy.3
    (ap (λ (v : List ℕ). body_of v (text_of x) ++ a) (sym verbs) ∙ lines.1) in (
      sym fx.0
          ∙ ap (λ (v : List ℕ). made_of v (operands x) (text_of x) (change_of x)) verbs
          ∙ ap (λ (l : List (List ℕ)). made_of (verb y) l (text_of x) (change_of x)) words
          ∙ ap (λ (t : List ℕ). made_of (verb y) (operands y) t (change_of x)) bodies.0
          ∙ ap (λ (n : Name). made_of (verb y) (operands y) (text_of y) n) name
          ∙ fy.0,
      bodies.1,
    )
