-- No reply is a proper front of another, and bytes are those of one list of replies at most.
use Rattle.std.proofs.Common.{◌≡◌, ℕ, ◌<◌, ◌≤◌, ◌^◌, Bool, true, false, not, ◌&&◌, ◌||◌, nat_eq, List, [], ◌∷◌, ◌++◌, length, take, drop, get_or, codes, decimal, All, refl, sym, ◌∙◌, ap, arith, append_assoc, length-append}
use Rattle.std.specs.Prelude.{if◌then◌else◌}
use Rattle.std.specs.Int.{IsInRange}
use Rattle.std.specs.List.{AllPass, join_with_byte}
use Rattle.std.specs.Str.{bytes_eq}
use Rattle.std.proofs.lemmas.Bool.Decides.{nat_tests}
use Rattle.std.proofs.lemmas.Fmt.{decimal_injective, decimal_nonempty, digits_decimal, length-decimal-le}
use Rattle.std.proofs.lemmas.List.{drop_at, take_at}
use Rattle.std.proofs.lemmas.List.Elements.{All-append, All-head, All-tail}
use Rattle.pj_name.specs.declared.name.Name.{Name}
use Rattle.pj_name.specs.Name.{hex, no_name}
use Rattle.pj_name.proofs.Names.{hex-injective, length-hex}
use Rattle.pj_change.specs.declared.point.Point.{Point}
use Rattle.pj_change.specs.Children.{point_text}
use Rattle.pj_scan.specs.Scan.{is_word_byte}
use Rattle.pj_machine.specs.declared.reply.Reply.{Reply}
use Rattle.pj_machine.specs.declared.reply.Reply.TheVariants as reply
use Rattle.pj_machine.specs.declared.reply.Refusal.{Refusal}
use Rattle.pj_machine.specs.declared.reply.Refusal.TheVariants as refusal
use Rattle.pj_machine.specs.declared.reply.Numbered.{Numbered}
use Rattle.pj_machine.specs.declared.reply.Numbered.TheVariants as numbered
use Rattle.pj_wire.specs.Replies.{reason, head_of, tail_of, reply_bytes, written, IsReason, IsReply}
use Rattle.pj_wire.proofs.Numbers.{own}
use Rattle.pj_wire.proofs.OneLine.{AllWords, one_line, one_body, word_at}
use Rattle.pj_wire.proofs.Words.{passes, hex_inside, number_inside}

-- ---- the words of a reason

-- the first word
abbrev cause : Refusal → List ℕ
cause refusal.Channel = codes "channel"
cause refusal.Taken = codes "taken"
cause refusal.Change = codes "change"
cause refusal.Malformed = codes "malformed"
cause refusal.Clash = codes "clash"
cause (refusal.Needs change) = codes "needs"
cause (refusal.Context hunk) = codes "context"
cause refusal.Absent = codes "absent"
cause (refusal.Held change) = codes "held"
cause (refusal.Wide inode) = codes "wide"
cause (refusal.Inverse hunk) = codes "inverse"
cause refusal.FullStore = codes "full"
cause refusal.FullChannels = codes "full"
cause refusal.FullJournal = codes "full"

-- the second one
abbrev details : Refusal → List (List ℕ)
details (refusal.Needs change) = hex change.bytes ∷ []
details (refusal.Context hunk) = decimal hunk ∷ []
details (refusal.Held change) = hex change.bytes ∷ []
details (refusal.Wide inode) = point_text inode ∷ []
details (refusal.Inverse hunk) = decimal hunk ∷ []
details refusal.FullStore = codes "store" ∷ []
details refusal.FullChannels = codes "channels" ∷ []
details refusal.FullJournal = codes "journal" ∷ []
details why = []

-- the change that the reason says
abbrev change_of : Refusal → Name
change_of (refusal.Needs change) = change
change_of (refusal.Held change) = change
change_of (refusal.Wide inode) = inode.change
change_of why = no_name

-- the number that it says
abbrev number_of : Refusal → ℕ
number_of (refusal.Context hunk) = hunk
number_of (refusal.Wide inode) = inode.offset
number_of (refusal.Inverse hunk) = hunk
number_of why = 0

-- ---- from the words of a reason back to its parts

abbrev is_wide : List ℕ → Bool
is_wide w = bytes_eq w (codes "wide")

abbrev has_change : List ℕ → Bool
has_change w = bytes_eq w (codes "needs") || bytes_eq w (codes "held")

abbrev has_number : List ℕ → Bool
has_number w = bytes_eq w (codes "context") || bytes_eq w (codes "inverse")

-- the digits of the change; a point has them before its own point
abbrev change_word : List (List ℕ) → List ℕ
change_word ws = if has_change (word_at 0 ws) then word_at 1 ws else (if is_wide (word_at 0 ws) then take 64 (word_at 1 ws) else hex no_name.bytes)

-- the digits of the number
abbrev number_word : List (List ℕ) → List ℕ
number_word ws = if has_number (word_at 0 ws) then word_at 1 ws else (if is_wide (word_at 0 ws) then drop 65 (word_at 1 ws) else decimal 0)

-- the reason of words, a change and a number
abbrev refused_by : List (List ℕ) → Name → ℕ → Refusal
refused_by ws change number =
    if bytes_eq (word_at 0 ws) (codes "channel") then refusal.Channel else (
    if bytes_eq (word_at 0 ws) (codes "taken") then refusal.Taken else (
    if bytes_eq (word_at 0 ws) (codes "change") then refusal.Change else (
    if bytes_eq (word_at 0 ws) (codes "malformed") then refusal.Malformed else (
    if bytes_eq (word_at 0 ws) (codes "clash") then refusal.Clash else (
    if bytes_eq (word_at 0 ws) (codes "needs") then refusal.Needs change else (
    if bytes_eq (word_at 0 ws) (codes "context") then refusal.Context number else (
    if bytes_eq (word_at 0 ws) (codes "absent") then refusal.Absent else (
    if bytes_eq (word_at 0 ws) (codes "held") then refusal.Held change else (
    if is_wide (word_at 0 ws) then refusal.Wide (record { change = change; offset = number }) else (
    if bytes_eq (word_at 0 ws) (codes "inverse") then refusal.Inverse number else (
    if bytes_eq (word_at 1 ws) (codes "store") then refusal.FullStore else (
    if bytes_eq (word_at 1 ws) (codes "channels") then refusal.FullChannels else
    refusal.FullJournal))))))))))))

abbrev ReasonFacts : Refusal → Type 0
ReasonFacts why =
    (refused_by (cause why ∷ details why) (change_of why) (number_of why) ≡ why)
    × (change_word (cause why ∷ details why) ≡ hex (change_of why).bytes)
    × (number_word (cause why ∷ details why) ≡ decimal (number_of why))

point_change : (p : Point) → take 64 (point_text p) ≡ hex p.change.bytes
point_change p =
    ap (λ (s : List ℕ). take 64 s) (append_assoc (hex p.change.bytes) (46 ∷ []) (decimal p.offset))
    ∙ take_at (hex p.change.bytes) (46 ∷ decimal p.offset) 64 (length-hex p.change)

point_offset : (p : Point) → drop 65 (point_text p) ≡ decimal p.offset
point_offset p =
    drop_at (hex p.change.bytes ++ 46 ∷ []) (decimal p.offset) 65 (omega (arith, length-append (hex p.change.bytes) (46 ∷ []), length-hex p.change))

reason_facts : (why : Refusal) → ReasonFacts why
reason_facts refusal.Channel = (refl, refl, refl)
reason_facts refusal.Taken = (refl, refl, refl)
reason_facts refusal.Change = (refl, refl, refl)
reason_facts refusal.Malformed = (refl, refl, refl)
reason_facts refusal.Clash = (refl, refl, refl)
reason_facts (refusal.Needs change) = (refl, refl, refl)
reason_facts (refusal.Context hunk) = (refl, refl, refl)
reason_facts refusal.Absent = (refl, refl, refl)
reason_facts (refusal.Held change) = (refl, refl, refl)
reason_facts (refusal.Wide inode) = (refl, point_change inode, point_offset inode)
reason_facts (refusal.Inverse hunk) = (refl, refl, refl)
reason_facts refusal.FullStore = (refl, refl, refl)
reason_facts refusal.FullChannels = (refl, refl, refl)
reason_facts refusal.FullJournal = (refl, refl, refl)

reason_words : (why : Refusal) → reason why ≡ join_with_byte 32 (cause why ∷ details why)
reason_words refusal.Channel = refl
reason_words refusal.Taken = refl
reason_words refusal.Change = refl
reason_words refusal.Malformed = refl
reason_words refusal.Clash = refl
reason_words (refusal.Needs change) = refl
reason_words (refusal.Context hunk) = refl
reason_words refusal.Absent = refl
reason_words (refusal.Held change) = refl
reason_words (refusal.Wide inode) = refl
reason_words (refusal.Inverse hunk) = refl
reason_words refusal.FullStore = refl
reason_words refusal.FullChannels = refl
reason_words refusal.FullJournal = refl

point_inside : (p : Point) → p.offset < 2 ^ 64 → AllPass is_word_byte (point_text p)
point_inside p small =
    let IsInside : ℕ → Type 0 = λ b. is_word_byte b ≡ true in
    All-append IsInside (hex p.change.bytes ++ 46 ∷ []) (decimal p.offset)
    (All-append IsInside (hex p.change.bytes) (46 ∷ []) (hex_inside p.change) (passes (codes ".") refl)) (number_inside p.offset small)

reason_inside : (why : Refusal) → IsReason why → AllWords (cause why ∷ details why)
reason_inside refusal.Channel ok = (passes (codes "channel") refl, tt)
reason_inside refusal.Taken ok = (passes (codes "taken") refl, tt)
reason_inside refusal.Change ok = (passes (codes "change") refl, tt)
reason_inside refusal.Malformed ok = (passes (codes "malformed") refl, tt)
reason_inside refusal.Clash ok = (passes (codes "clash") refl, tt)
reason_inside (refusal.Needs change) ok = (passes (codes "needs") refl, (hex_inside change, tt))
reason_inside (refusal.Context hunk) ok = (passes (codes "context") refl, (number_inside hunk ok, tt))
reason_inside refusal.Absent ok = (passes (codes "absent") refl, tt)
reason_inside (refusal.Held change) ok = (passes (codes "held") refl, (hex_inside change, tt))
reason_inside (refusal.Wide inode) ok = (passes (codes "wide") refl, (point_inside inode ok, tt))
reason_inside (refusal.Inverse hunk) ok = (passes (codes "inverse") refl, (number_inside hunk ok, tt))
reason_inside refusal.FullStore ok = (passes (codes "full") refl, (passes (codes "store") refl, tt))
reason_inside refusal.FullChannels ok = (passes (codes "full") refl, (passes (codes "channels") refl, tt))
reason_inside refusal.FullJournal ok = (passes (codes "full") refl, (passes (codes "journal") refl, tt))

reason_small : (why : Refusal) → IsReason why → number_of why < 2 ^ 64
reason_small refusal.Channel ok = omega arith
reason_small refusal.Taken ok = omega arith
reason_small refusal.Change ok = omega arith
reason_small refusal.Malformed ok = omega arith
reason_small refusal.Clash ok = omega arith
reason_small (refusal.Needs change) ok = omega arith
reason_small (refusal.Context hunk) ok = ok
reason_small refusal.Absent ok = omega arith
reason_small (refusal.Held change) ok = omega arith
reason_small (refusal.Wide inode) ok = ok
reason_small (refusal.Inverse hunk) ok = ok
reason_small refusal.FullStore ok = omega arith
reason_small refusal.FullChannels ok = omega arith
reason_small refusal.FullJournal ok = omega arith

-- ---- the words of a reply, and its body

-- the first word
abbrev first_word : Numbered → List ℕ
first_word (numbered.At place (reply.No why)) = codes "no"
first_word (numbered.At place r) = codes "ok"
first_word numbered.NoMemory = codes "no"

-- the other words
abbrev operands : Numbered → List (List ℕ)
operands (numbered.At place reply.Done) = decimal place ∷ []
operands (numbered.At place (reply.Named change)) = decimal place ∷ hex change.bytes ∷ []
operands (numbered.At place reply.Already) = decimal place ∷ codes "already" ∷ []
operands (numbered.At place (reply.AlreadyNamed change)) = decimal place ∷ codes "already" ∷ hex change.bytes ∷ []
operands (numbered.At place (reply.Body body)) = decimal place ∷ decimal (length body) ∷ []
operands (numbered.At place (reply.No why)) = decimal place ∷ cause why ∷ details why
operands numbered.NoMemory = codes "memory" ∷ []

abbrev words_of : Numbered → List (List ℕ)
words_of r = first_word r ∷ operands r

abbrev place_in : Numbered → ℕ
place_in (numbered.At place r) = place
place_in numbered.NoMemory = 0

abbrev change_in : Numbered → Name
change_in (numbered.At place (reply.Named change)) = change
change_in (numbered.At place (reply.AlreadyNamed change)) = change
change_in (numbered.At place (reply.No why)) = change_of why
change_in r = no_name

abbrev number_in : Numbered → ℕ
number_in (numbered.At place (reply.No why)) = number_of why
number_in r = 0

abbrev body_in : Numbered → List ℕ
body_in (numbered.At place (reply.Body body)) = body
body_in r = []

-- ---- from the words of a reply back to its parts

abbrev is_ok : List (List ℕ) → Bool
is_ok ws = bytes_eq (word_at 0 ws) (codes "ok")

-- the name of a change has 64 digits, more than a length
abbrev is_name : List ℕ → Bool
is_name w = nat_eq (length w) 64

-- a length begins with a digit
abbrev is_already : List ℕ → Bool
is_already w = nat_eq (get_or w 0 0) 97

-- behind the place there is a length alone
abbrev is_length : List (List ℕ) → Bool
is_length [] = false
is_length (w ∷ []) = not (is_name w || is_already w)
is_length (w ∷ v ∷ ws) = false

-- behind the place there is nothing
abbrev is_alone : List (List ℕ) → Bool
is_alone [] = true
is_alone (w ∷ ws) = false

abbrev has_body : List (List ℕ) → Bool
has_body ws = is_ok ws && is_length (drop 2 ws)

-- what stands behind the line
abbrev behind : Bool → List ℕ → List ℕ
behind there body = if there then body ++ 10 ∷ [] else []

-- the digits of the place
abbrev place_word : List (List ℕ) → List ℕ
place_word ws = if is_ok ws then word_at 1 ws else (if is_alone (drop 2 ws) then decimal 0 else word_at 1 ws)

-- the digits of the length of the body
abbrev length_word : List (List ℕ) → List ℕ
length_word ws = if has_body ws then word_at 2 ws else decimal 0

-- the digits of the change behind the place
abbrev done_change : List (List ℕ) → List ℕ
done_change [] = hex no_name.bytes
done_change (w ∷ []) = if is_name w then w else hex no_name.bytes
done_change (w ∷ v ∷ ws) = v

abbrev reply_change : List (List ℕ) → List ℕ
reply_change ws = if is_ok ws then done_change (drop 2 ws) else change_word (drop 2 ws)

-- the digits of the number of the reason
abbrev reply_number : List (List ℕ) → List ℕ
reply_number ws = if is_ok ws then decimal 0 else number_word (drop 2 ws)

-- the reply of the words behind the place
abbrev done_by : List (List ℕ) → Name → List ℕ → Reply
done_by [] change body = reply.Done
done_by (w ∷ []) change body = if is_name w then reply.Named change else (if is_already w then reply.Already else reply.Body body)
done_by (w ∷ v ∷ ws) change body = reply.AlreadyNamed change

-- the reply of all words, with its parts
abbrev made_of : List (List ℕ) → ℕ → Name → ℕ → List ℕ → Numbered
made_of ws place change number body =
    if is_ok ws then numbered.At place (done_by (drop 2 ws) change body) else (
    if is_alone (drop 2 ws) then numbered.NoMemory else
    numbered.At place (reply.No (refused_by (drop 2 ws) change number)))

record Facts (r : Numbered) : Type 0 where
  made : made_of (words_of r) (place_in r) (change_in r) (number_in r) (body_in r) ≡ r
  place : place_word (words_of r) ≡ decimal (place_in r)
  change : reply_change (words_of r) ≡ hex (change_in r).bytes
  number : reply_number (words_of r) ≡ decimal (number_in r)
  count : length_word (words_of r) ≡ decimal (length (body_in r))
  body : body_in r ≡ (if has_body (words_of r) then body_in r else [])
  tail : tail_of r ≡ behind (has_body (words_of r)) (body_in r)

name_is : (n : Name) → is_name (hex n.bytes) ≡ true
name_is n = ap (λ k. nat_eq k 64) (length-hex n)

no_name_of_length : (n : ℕ) → n < 2 ^ 64 → is_name (decimal n) ≡ false
no_name_of_length n small = other (length (decimal n)) (length-decimal-le 20 n (omega arith) (omega (arith, small)) small)
  where
    other : (k : ℕ) → k ≤ 20 → nat_eq k 64 ≡ false
    other k few = grind (arith, nat_tests)

no_already : (n : ℕ) → n < 2 ^ 64 → is_already (decimal n) ≡ false
no_already n small = other (get_or (decimal n) 0 0) (digits_decimal own n small 0 (decimal_nonempty n small))
  where
    other : (d : ℕ) → IsInRange 48 57 d → nat_eq d 97 ≡ false
    other d digit = grind (arith, nat_tests)

facts : (r : Numbered) → IsReply r → Facts r
facts (numbered.At place reply.Done) ok = record { made = refl; place = refl; change = refl; number = refl; count = refl; body = refl; tail = refl }
facts (numbered.At place (reply.Named change)) ok =
    let digits : List ℕ = hex change.bytes in
    let named = name_is change in
    record {
      made = λ i. numbered.At place (if named i then reply.Named change else (if is_already digits then reply.Already else reply.Body []));
      place = refl;
      change = λ i. if named i then digits else hex no_name.bytes;
      number = refl;
      count = λ i. if not (named i || is_already digits) then digits else decimal 0;
      body = sym (λ i. if not (named i || is_already digits) then [] else []);
      tail = sym (λ i. behind (not (named i || is_already digits)) []);
    }
facts (numbered.At place reply.Already) ok = record { made = refl; place = refl; change = refl; number = refl; count = refl; body = refl; tail = refl }
facts (numbered.At place (reply.AlreadyNamed change)) ok = record { made = refl; place = refl; change = refl; number = refl; count = refl; body = refl; tail = refl }
facts (numbered.At place (reply.Body body)) ok =
    let digits : List ℕ = decimal (length body) in
    let other = no_name_of_length (length body) ok.1 in
    let new = no_already (length body) ok.1 in
    record {
      made = λ i. numbered.At place (if other i then reply.Named no_name else (if new i then reply.Already else reply.Body body));
      place = refl;
      change = λ i. if other i then digits else hex no_name.bytes;
      number = refl;
      count = λ i. if not (other i || new i) then digits else decimal 0;
      body = sym (λ i. if not (other i || new i) then body else []);
      tail = sym (λ i. behind (not (other i || new i)) body);
    }
facts (numbered.At place (reply.No why)) ok =
    let h = reason_facts why in
    record { made = ap (λ (w : Refusal). numbered.At place (reply.No w)) h.0; place = refl; change = h.1; number = h.2; count = refl; body = refl; tail = refl }
facts numbered.NoMemory ok = record { made = refl; place = refl; change = refl; number = refl; count = refl; body = refl; tail = refl }

-- the words on the line
head_words : (r : Numbered) → head_of r ≡ join_with_byte 32 (words_of r) ++ 10 ∷ []
head_words (numbered.At place reply.Done) = refl
head_words (numbered.At place (reply.Named change)) = refl
head_words (numbered.At place reply.Already) = refl
head_words (numbered.At place (reply.AlreadyNamed change)) = refl
head_words (numbered.At place (reply.Body body)) = refl
head_words (numbered.At place (reply.No why)) = ap (λ (s : List ℕ). codes "no " ++ (decimal place ++ 32 ∷ s) ++ 10 ∷ []) (reason_words why)
head_words numbered.NoMemory = refl

inside : (r : Numbered) → IsReply r → AllWords (words_of r)
inside (numbered.At place reply.Done) ok = (passes (codes "ok") refl, (number_inside place ok, tt))
inside (numbered.At place (reply.Named change)) ok = (passes (codes "ok") refl, (number_inside place ok, (hex_inside change, tt)))
inside (numbered.At place reply.Already) ok = (passes (codes "ok") refl, (number_inside place ok, (passes (codes "already") refl, tt)))
inside (numbered.At place (reply.AlreadyNamed change)) ok = (passes (codes "ok") refl, (number_inside place ok, (passes (codes "already") refl, (hex_inside change, tt))))
inside (numbered.At place (reply.Body body)) ok = (passes (codes "ok") refl, (number_inside place ok.0, (number_inside (length body) ok.1, tt)))
inside (numbered.At place (reply.No why)) ok = (passes (codes "no") refl, (number_inside place ok.0, reason_inside why ok.1))
inside numbered.NoMemory ok = (passes (codes "no") refl, (passes (codes "memory") refl, tt))

record Small (r : Numbered) : Type 0 where
  place : place_in r < 2 ^ 64
  number : number_in r < 2 ^ 64
  count : length (body_in r) < 2 ^ 64

small : (r : Numbered) → IsReply r → Small r
small (numbered.At place reply.Done) ok = record { place = ok; number = omega arith; count = omega arith }
small (numbered.At place (reply.Named change)) ok = record { place = ok; number = omega arith; count = omega arith }
small (numbered.At place reply.Already) ok = record { place = ok; number = omega arith; count = omega arith }
small (numbered.At place (reply.AlreadyNamed change)) ok = record { place = ok; number = omega arith; count = omega arith }
small (numbered.At place (reply.Body body)) ok = record { place = ok.0; number = omega arith; count = ok.1 }
small (numbered.At place (reply.No why)) ok = record { place = ok.0; number = reason_small why ok.1; count = omega arith }
small numbered.NoMemory ok = record { place = omega arith; number = omega arith; count = omega arith }

-- ---- one reply

pub one_reply : (r q : Numbered) (a b : List ℕ) → IsReply r → IsReply q → reply_bytes r ++ a ≡ reply_bytes q ++ b → (r ≡ q) × (a ≡ b)
one_reply r q a b p o e =
    let apart : (r : Numbered) (a : List ℕ) → reply_bytes r ++ a ≡ join_with_byte 32 (words_of r) ++ 10 ∷ (tail_of r ++ a) = λ r a.
    append_assoc (head_of r) (tail_of r) a ∙ ap (λ (s : List ℕ). s ++ (tail_of r ++ a)) (head_words r) ∙ append_assoc (join_with_byte 32 (words_of r)) (10 ∷ []) (tail_of r ++ a) in
    let lines = one_line (first_word r) (first_word q) (operands r) (operands q) (tail_of r ++ a) (tail_of q ++ b) (inside r p) (inside q o) (sym (apart r a) ∙ e ∙ apart q b) in
    let words : words_of r ≡ words_of q = lines.0 in
    let fr = facts r p in
    let fq = facts q o in
    let sr = small r p in
    let sq = small q o in
    let place = decimal_injective (place_in r) (place_in q) sr.place sq.place (sym fr.place ∙ ap place_word words ∙ fq.place) in
    let change = hex-injective (change_in r) (change_in q) (sym fr.change ∙ ap reply_change words ∙ fq.change) in
    let number = decimal_injective (number_in r) (number_in q) sr.number sq.number (sym fr.number ∙ ap reply_number words ∙ fq.number) in
    let count = decimal_injective (length (body_in r)) (length (body_in q)) sr.count sq.count (sym fr.count ∙ ap length_word words ∙ fq.count) in
    let bodies = one_body (has_body (words_of q)) (body_in r) (body_in q) a b count
    (fr.body ∙ ap (λ (ws : List (List ℕ)). if has_body ws then body_in r else []) words) fq.body
    (ap (λ (ws : List (List ℕ)). behind (has_body ws) (body_in r) ++ a) (sym words) ∙ ap (λ (s : List ℕ). s ++ a) (sym fr.tail) ∙ lines.1 ∙ ap (λ (s : List ℕ). s ++ b) fq.tail) in
    (sym fr.made ∙ (λ i. made_of (words i) (place i) (change i) (number i) (bodies.0 i)) ∙ fq.made, bodies.1)

-- ---- replies one after the other

-- no reply is empty
some_bytes : (r : Numbered) (left : List ℕ) → [] ≡ reply_bytes r ++ left → ⊥
some_bytes r left e =
    let count : 0 ≡ length (reply_bytes r ++ left) = ap (λ (s : List ℕ). length s) e in
    omega (arith, count, length-append (reply_bytes r) left, length-append (head_of r) (tail_of r), ap (λ (s : List ℕ). length s) (head_words r), length-append (join_with_byte 32 (words_of r)) (10 ∷ []))

pub read_back : (rs qs : List Numbered) → All IsReply rs → All IsReply qs → written rs ≡ written qs → rs ≡ qs
read_back [] [] p o e = refl
read_back [] (q ∷ qs) p o e = absurd (some_bytes q (written qs) e)
read_back (r ∷ rs) [] p o e = absurd (some_bytes r (written rs) (sym e))
read_back (r ∷ rs) (q ∷ qs) p o e =
    let first = one_reply r q (written rs) (written qs) (All-head IsReply r rs p) (All-head IsReply q qs o) e in
    let more = read_back rs qs (All-tail IsReply r rs p) (All-tail IsReply q qs o) first.1 in
    λ i. first.0 i ∷ more i

pub so_many_read_back : (rs qs : List Numbered) (a b : List ℕ) → All IsReply rs → All IsReply qs → length rs ≡ length qs → written rs ++ a ≡ written qs ++ b → (rs ≡ qs) × (a ≡ b)
so_many_read_back [] [] a b p o count e = (refl, e)
so_many_read_back [] (q ∷ qs) a b p o count e = absurd (omega arith)
so_many_read_back (r ∷ rs) [] a b p o count e = absurd (omega arith)
so_many_read_back (r ∷ rs) (q ∷ qs) a b p o count e =
    let first = one_reply r q (written rs ++ a) (written qs ++ b) (All-head IsReply r rs p) (All-head IsReply q qs o)
    (sym (append_assoc (reply_bytes r) (written rs) a) ∙ e ∙ append_assoc (reply_bytes q) (written qs) b) in
    let more = so_many_read_back rs qs a b (All-tail IsReply r rs p) (All-tail IsReply q qs o) (omega arith) first.1 in
    (λ i. first.0 i ∷ more.0 i, more.1)
