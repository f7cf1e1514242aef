-- What is to come behind a verb, and that something always may.
use Rattle.std.proofs.Common.{◌≡◌, ℕ, zero, suc, ◌-◌, ◌<◌, ◌≤◌, Bool, true, Option, Some, None, List, [], ◌∷◌, ◌++◌, length, take, drop, replicate, decimal, refl, sym, ◌∙◌, ap, subst, arith, append-nil, append_assoc, length-append, length-drop}
use Rattle.std.specs.Prelude.{◌↔◌}
use Rattle.std.specs.List.{AllPass}
use Rattle.std.proofs.lemmas.List.{take-append-drop, length-replicate}
use Rattle.std.proofs.lemmas.List.Elements.{All-nil, All-cons}
use Rattle.pj_name.specs.declared.name.Name.{Name}
use Rattle.pj_name.specs.Name.{hex, no_name, is_lower_hex_digit}
use Rattle.pj_name.proofs.Names.{IsHex-hex, length-hex, name_spelled}
use Rattle.pj_machine.specs.ChannelName.{is_channel_byte, IsChannelName}
use Rattle.pj_machine.specs.declared.command.Command.{Command}
use Rattle.pj_machine.specs.declared.command.Command.TheVariants as command
use Rattle.pj_wire.specs.declared.verb.Verb.{Verb}
use Rattle.pj_wire.specs.declared.verb.Verb.TheVariants as verb
use Rattle.pj_wire.specs.declared.stage.After.{After}
use Rattle.pj_wire.specs.declared.stage.After.TheVariants as after
use Rattle.pj_wire.specs.declared.stage.Stage.{Stage}
use Rattle.pj_wire.specs.declared.stage.Stage.TheVariants as stage
use Rattle.pj_wire.specs.Requests.{IsRequest}
use Rattle.pj_wire.specs.Verbs.{word_of}
use Rattle.pj_wire.specs.Stages.{Completes, IsWordThen, IsEnd, AfterRest, end_before, Rest, IsStage, Moves, fields_of}
use Rattle.pj_wire.proofs.Channels.{a_channel}
use Rattle.pj_wire.proofs.Verbs.{verb_of, behind_of, spelled, behind_verb, some_request}

-- ---- words

channel_then : (end : ℕ) (Behind : List ℕ → Type 0) (name rest : List ℕ) → IsChannelName name → Behind rest → IsWordThen is_channel_byte 1 64 end Behind (name ++ end ∷ rest)
channel_then end Behind name rest is behind = record {
  word = name;
  rest = rest;
  whole = refl;
  kind = is.bytes;
  enough = let some = is.some in omega (arith, some);
  few = is.short;
  behind = behind;
}

change_then : (name : Name) → IsWordThen is_lower_hex_digit 64 64 10 IsEnd (hex name.bytes ++ 10 ∷ [])
change_then name = record {
  word = hex name.bytes;
  rest = [];
  whole = refl;
  kind = (IsHex-hex name).1;
  enough = omega (arith, length-hex name);
  few = omega (arith, length-hex name);
  behind = refl;
}

channel_of : (end : ℕ) (Behind : List ℕ → Type 0) (more : List ℕ) → IsWordThen is_channel_byte 1 64 end Behind more
    → (name : List ℕ) × (rest : List ℕ) × IsChannelName name × Behind rest × (more ≡ name ++ end ∷ rest)
channel_of end Behind more w =
    let enough = w.enough in
    (w.word, w.rest, record { some = omega (arith, enough); short = w.few; bytes = w.kind }, w.behind, w.whole)

channel_end : (more : List ℕ) → IsWordThen is_channel_byte 1 64 10 IsEnd more → (name : List ℕ) × IsChannelName name × (more ≡ name ++ 10 ∷ [])
channel_end more w = let read = channel_of 10 IsEnd more w in (read.0, read.2, read.4 ∙ ap (λ (s : List ℕ). read.0 ++ 10 ∷ s) read.3)

change_end : (more : List ℕ) → IsWordThen is_lower_hex_digit 64 64 10 IsEnd more → (name : Name) × (more ≡ hex name.bytes ++ 10 ∷ [])
change_end more w =
    let enough = w.enough in
    let few = w.few in
    let long : length w.word ≡ 64 = omega (arith, enough, few) in
    let name = name_spelled w.word (long, w.kind) in
    (name.0, w.whole ∙ ap (λ (s : List ℕ). s ++ 10 ∷ w.rest) name.1 ∙ ap (λ (s : List ℕ). hex name.0.bytes ++ 10 ∷ s) w.behind)

two_channels : (more : List ℕ) → IsWordThen is_channel_byte 1 64 32 (AfterRest after.Channel) more
    → (a : List ℕ) × (b : List ℕ) × (IsChannelName a × IsChannelName b) × (more ≡ a ++ 32 ∷ (b ++ 10 ∷ []))
two_channels more w =
    let first = channel_of 32 (AfterRest after.Channel) more w in
    let second = channel_end first.1 first.3 in
    (first.0, second.0, (first.2, second.1), first.4 ∙ ap (λ (s : List ℕ). first.0 ++ 32 ∷ s) second.2)

channel_change : (more : List ℕ) → IsWordThen is_channel_byte 1 64 32 (AfterRest after.Change) more
    → (a : List ℕ) × (name : Name) × IsChannelName a × (more ≡ a ++ 32 ∷ (hex name.bytes ++ 10 ∷ []))
channel_change more w =
    let first = channel_of 32 (AfterRest after.Change) more w in
    let second = change_end first.1 first.3 in
    (first.0, second.0, first.2, first.4 ∙ ap (λ (s : List ℕ). first.0 ++ 32 ∷ s) second.1)

-- ---- behind a verb

abbrev RestOf : Option Stage → List ℕ → Type 0
RestOf (Some s) more = Rest s more
RestOf None more = more ≡ []

abbrev IsStart : Option Stage → Type 0
IsStart (Some s) = IsStage s
IsStart None = Unit {0}

to_moves : (A : List ℕ → Type 0) (o : Option Stage) → IsStart o → ((more : List ℕ) → A more ↔ RestOf o more) → Moves A o
to_moves A (Some s) start same = (start, same)
to_moves A None start same = λ more. (same more).0

starts : (v : Verb) → IsStart (fields_of v)
starts verb.Channels = tt
starts verb.Journal = tt
starts verb.Quit = tt
starts verb.Put = tt
starts verb.Get = omega arith
starts verb.Inverse = omega arith
starts verb.Drop = omega arith
starts verb.Graph = omega arith
starts verb.Log = omega arith
starts verb.New = omega arith
starts verb.Print = omega arith
starts verb.Fork = omega arith
starts verb.Pull = omega arith
starts verb.Apply = omega arith
starts verb.Unrecord = omega arith
starts verb.Uproot = omega arith

rest_of : (x : Command) → IsRequest x → RestOf (fields_of (verb_of x)) (behind_of x)
rest_of (command.Put text) ok = record { more = decimal (length text); text = text; number = refl; small = ok; whole = refl }
rest_of (command.Get change) ok = change_then change
rest_of (command.Inverse change) ok = change_then change
rest_of (command.New name) ok = channel_then 10 IsEnd name [] ok refl
rest_of (command.Fork from to) ok = channel_then 32 (AfterRest after.Channel) from (to ++ 10 ∷ []) ok.0 (channel_then 10 IsEnd to [] ok.1 refl)
rest_of (command.Drop name) ok = channel_then 10 IsEnd name [] ok refl
rest_of (command.Apply name change) ok = channel_then 32 (AfterRest after.Change) name (hex change.bytes ++ 10 ∷ []) ok (change_then change)
rest_of (command.Unrecord name change) ok = channel_then 32 (AfterRest after.Change) name (hex change.bytes ++ 10 ∷ []) ok (change_then change)
rest_of (command.Uproot name change) ok = channel_then 32 (AfterRest after.Change) name (hex change.bytes ++ 10 ∷ []) ok (change_then change)
rest_of (command.Pull to from) ok = channel_then 32 (AfterRest after.Channel) to (from ++ 10 ∷ []) ok.0 (channel_then 10 IsEnd from [] ok.1 refl)
rest_of (command.Graph name) ok = channel_then 10 IsEnd name [] ok refl
rest_of (command.Print name) ok = channel_then 10 IsEnd name [] ok refl
rest_of (command.Log name) ok = channel_then 10 IsEnd name [] ok refl
rest_of command.Channels ok = refl
rest_of command.Journal ok = refl
rest_of command.Quit ok = refl

there : (v : Verb) (more : List ℕ) → Completes (word_of v) more → RestOf (fields_of v) more
there v more h =
    let same = behind_verb v h.0 more h.2 in
    subst (λ (s : List ℕ). RestOf (fields_of v) s) same.1 (subst (λ (u : Verb). RestOf (fields_of u) (behind_of h.0)) same.0 (rest_of h.0 h.1))

made_of : (x : Command) (more : List ℕ) → IsRequest x → more ≡ behind_of x → Completes (word_of (verb_of x)) more
made_of x more ok e = (x, ok, ap (λ (s : List ℕ). word_of (verb_of x) ++ s) e ∙ sym (spelled x))

made : (v : Verb) (more : List ℕ) → RestOf (fields_of v) more → Completes (word_of v) more
made verb.Channels more e = made_of command.Channels more tt e
made verb.Journal more e = made_of command.Journal more tt e
made verb.Quit more e = made_of command.Quit more tt e
made verb.Put more h = made_of (command.Put h.text) more h.small (h.whole ∙ ap (λ (s : List ℕ). s ++ 10 ∷ (h.text ++ 10 ∷ [])) h.number)
made verb.Get more w = let read = change_end more w in made_of (command.Get read.0) more tt read.1
made verb.Inverse more w = let read = change_end more w in made_of (command.Inverse read.0) more tt read.1
made verb.Drop more w = let read = channel_end more w in made_of (command.Drop read.0) more read.1 read.2
made verb.Graph more w = let read = channel_end more w in made_of (command.Graph read.0) more read.1 read.2
made verb.Log more w = let read = channel_end more w in made_of (command.Log read.0) more read.1 read.2
made verb.New more w = let read = channel_end more w in made_of (command.New read.0) more read.1 read.2
made verb.Print more w = let read = channel_end more w in made_of (command.Print read.0) more read.1 read.2
made verb.Fork more w = let read = two_channels more w in made_of (command.Fork read.0 read.1) more read.2 read.3
made verb.Pull more w = let read = two_channels more w in made_of (command.Pull read.0 read.1) more read.2 read.3
made verb.Apply more w = let read = channel_change more w in made_of (command.Apply read.0 read.1) more read.2 read.3
made verb.Unrecord more w = let read = channel_change more w in made_of (command.Unrecord read.0 read.1) more read.2 read.3
made verb.Uproot more w = let read = channel_change more w in made_of (command.Uproot read.0 read.1) more read.2 read.3

pub opened : (v : Verb) → Moves (λ more. Completes (word_of v) more) (fields_of v)
opened v = to_moves (λ more. Completes (word_of v) more) (fields_of v) (starts v) (λ more. (there v more, made v more))

-- ---- each stage may go on to the end

many : (is : ℕ → Bool) (b : ℕ) → is b ≡ true → (n : ℕ) → AllPass is (replicate n b)
many is b has zero = All-nil (λ c. is c ≡ true)
many is b has (suc n) = All-cons (λ c. is c ≡ true) b (replicate n b) has (many is b has n)

-- a word that is filled up
filled_word : (is : ℕ → Bool) (least most end : ℕ) (Behind : List ℕ → Type 0) (b : ℕ) (rest : List ℕ) → is b ≡ true → least ≤ most → Behind rest
    → IsWordThen is least most end Behind (replicate least b ++ end ∷ rest)
filled_word is least most end Behind b rest has few behind = record {
  word = replicate least b;
  rest = rest;
  whole = refl;
  kind = many is b has least;
  enough = omega (arith, length-replicate {A = ℕ} least b);
  few = omega (arith, length-replicate {A = ℕ} least b, few);
  behind = behind;
}

after_end : (then : After) → (rest : List ℕ) × AfterRest then rest
after_end after.End = ([], refl)
after_end after.Channel = (97 ∷ 10 ∷ [], channel_then 10 IsEnd (97 ∷ []) [] a_channel refl)
after_end after.Change = (hex no_name.bytes ++ 10 ∷ [], change_then no_name)

some_bytes : (a rest : List ℕ) (b : ℕ) → 0 < length (a ++ b ∷ rest)
some_bytes a rest b = omega (arith, length-append a (b ∷ rest))

pub may_end : (s : Stage) → IsStage s → (more : List ℕ) × Rest s more × (0 < length more)
may_end (stage.Verb v read) is =
    let x = some_request v in
    let more : List ℕ = drop read (word_of v) ++ behind_of x.0 in
    let whole : take read (word_of v) ++ more ≡ word_of v ++ behind_of x.0 =
    sym (append_assoc (take read (word_of v)) (drop read (word_of v)) (behind_of x.0)) ∙ ap (λ (s : List ℕ). s ++ behind_of x.0) (take-append-drop read (word_of v)) in (
      more,
      (x.0, x.1, whole ∙ ap (λ (u : Verb). word_of u ++ behind_of x.0) (sym x.2) ∙ sym (spelled x.0)),
      omega (arith, length-append (drop read (word_of v)) (behind_of x.0), length-drop read (word_of v), is),
    )
may_end (stage.Channel read then) is =
    let last = after_end then in
    (_, filled_word is_channel_byte (1 - read) (64 - read) (end_before then) (AfterRest then) 97 last.0 refl (omega arith) last.1, some_bytes (replicate (1 - read) 97) last.0 (end_before then))
may_end (stage.Change read) is = (_, filled_word is_lower_hex_digit (64 - read) (64 - read) 10 IsEnd 48 [] refl (omega arith) refl, some_bytes (replicate (64 - read) 48) [] 10)
may_end (stage.Length None) is = (_, record { more = decimal 0; text = []; number = refl; small = omega arith; whole = refl }, some_bytes (decimal 0) (10 ∷ []) 10)
may_end (stage.Length (Some n)) is = (
  _,
  record {
    more = [];
    text = replicate n 0;
    number = append-nil (decimal n) ∙ ap decimal (sym (length-replicate {A = ℕ} n 0));
    small = omega (arith, length-replicate {A = ℕ} n 0, is);
    whole = refl;
  },
  some_bytes [] (replicate n 0 ++ 10 ∷ []) 10,
)
may_end (stage.Text missing) is = (_, filled_word (λ _. true) missing missing 10 IsEnd 0 [] refl (omega arith) refl, some_bytes (replicate missing 0) [] 10)
