-- What the commands of the scripts do to the channels.
use Rattle.std.proofs.Common.{◌≡◌, ℕ, zero, suc, ◌<◌, ◌+◌, ◌%◌, Bool, true, false, not, ◌&&◌, ◌||◌, List, [], ◌∷◌, ◌++◌, inl, inr, refl, sym, ◌∙◌, ap, subst, arith, append-nil}
use Rattle.std.specs.Prelude.{◌≢◌, ◌⊎◌, All, Contains, nat_eq, if◌then◌else◌}
use Rattle.std.specs.Str.{bytes_eq}
use Rattle.std.specs.Cmp.Lexicographic.{bytes_decides}
use Rattle.std.specs.List.{list_any}
use Rattle.std.proofs.lemmas.Bool.Decides.{eqb_tells}
use Rattle.std.proofs.lemmas.Nat.{mod_below}
use Rattle.std.proofs.lemmas.List.Elements.{All-append, All-cons, All-nil, Contains-append_left, Contains-append_right, Contains-append_cases}
use Rattle.std.proofs.lemmas.List.Folds.{list_any-append}
use Rattle.std.proofs.Math.Bool.{or-false}
use Rattle.pj_name.specs.declared.name.Name.{Name}
use Rattle.pj_name.specs.Name.{name_of, same_name}
use Rattle.pj_change.proofs.EqualNames.{is_same_name}
use Rattle.pj_change.proofs.Members.{any_member, first_member, later_member, uncons, no_member}
use Rattle.pj_machine.specs.declared.channel_name.ChannelName.{ChannelName}
use Rattle.pj_machine.specs.declared.command.Command.{Command}
use Rattle.pj_machine.specs.declared.command.Command.TheVariants as command
use Rattle.pj_gen.specs.Changes.{line_name, zero_text, change_text}
use Rattle.pj_gen.specs.Requests.{main, requests_for, session_requests}
use Rattle.pj_gen.specs.Summary.{line_texts, all_texts}
use Rattle.pj_load.specs.Stands.{IsPlain, stands_after, stands}

-- one of the texts has the name
abbrev pub named_in : List (List ℕ) → Name → Bool
named_in texts name = list_any (λ t. same_name (name_of t) name) texts

named_more : (texts : List (List ℕ)) (text : List ℕ) (name : Name) → named_in (texts ++ text ∷ []) name ≡ (named_in texts name || same_name (name_of text) name)
named_more texts text name = list_any-append (λ t. same_name (name_of t) name) texts (text ∷ []) ∙ ap (λ b. named_in texts name || b) (or-false (same_name (name_of text) name))

-- ---- names of channels

itself : (a : List ℕ) → bytes_eq a a ≡ true
itself a = (bytes_decides a a).1 refl

pub main_apart : (l : ℕ) → bytes_eq main (line_name l) ≡ false
main_apart l = refl

pub lines_apart : (k l : ℕ) → k ≢ l → bytes_eq (line_name k) (line_name l) ≡ false
lines_apart k l apart = go (bytes_eq (line_name k) (line_name l)) refl
  where
    go : (b : Bool) → bytes_eq (line_name k) (line_name l) ≡ b → bytes_eq (line_name k) (line_name l) ≡ false
    go true h = absurd (let same : line_name k ≡ line_name l = (bytes_decides (line_name k) (line_name l)).0 h in let n : 48 + k ≡ 48 + l = cc in apart (omega arith))
    go false h = h

-- ---- commands one after the other

pub stands_append : (channel : ChannelName) (name : Name) (xs ys : List Command) (before : Bool) → stands channel name (xs ++ ys) before ≡ stands channel name ys (stands channel name xs before)
stands_append channel name [] ys before = refl
stands_append channel name (x ∷ xs) ys before = stands_append channel name xs ys (stands_after channel name x before)

-- ---- the commands for a change

-- taken out and applied again
out_and_in : (b m : Bool) → (((b || m) && not m) || m) ≡ (b || m)
out_and_in true true = refl
out_and_in true false = refl
out_and_in false true = refl
out_and_in false false = refl

own_change : (l i : ℕ) (text : List ℕ) (name : Name) (before : Bool) → stands (line_name l) name (requests_for l i text) before ≡ (before || same_name (name_of text) name)
unfolding requests_for
own_change l i text name before = go (nat_eq (i % 15) 0)
  where
    m : Bool
    m = same_name (name_of text) name

    more : Bool → List Command
    more b = if b then command.Unrecord (line_name l) (name_of text) ∷ command.Apply (line_name l) (name_of text) ∷ [] else []

    applied : (b : Bool) → stands_after (line_name l) name (command.Apply (line_name l) (name_of text)) b ≡ (b || m)
    applied b = ap (λ t. if t then b || m else b) (itself (line_name l))

    out : (b : Bool) → stands_after (line_name l) name (command.Unrecord (line_name l) (name_of text)) b ≡ (b && not m)
    out b = ap (λ t. if t then b && not m else b) (itself (line_name l))

    go : (b : Bool) → stands (line_name l) name (more b) (stands_after (line_name l) name (command.Apply (line_name l) (name_of text)) before) ≡ (before || m)
    go true = ap (λ b. stands (line_name l) name (more true) b) (applied before) ∙ ap (λ b. stands_after (line_name l) name (command.Apply (line_name l) (name_of text)) b) (out (before || m))
        ∙ applied ((before || m) && not m) ∙ out_and_in before m
    go false = applied before

other_change : (k l i : ℕ) (text : List ℕ) (name : Name) (before : Bool) → k ≢ l → stands (line_name l) name (requests_for k i text) before ≡ before
unfolding requests_for
other_change k l i text name before apart = go (nat_eq (i % 15) 0)
  where
    m : Bool
    m = same_name (name_of text) name

    more : Bool → List Command
    more b = if b then command.Unrecord (line_name k) (name_of text) ∷ command.Apply (line_name k) (name_of text) ∷ [] else []

    applied : (b : Bool) → stands_after (line_name l) name (command.Apply (line_name k) (name_of text)) b ≡ b
    applied b = ap (λ t. if t then b || m else b) (lines_apart k l apart)

    out : (b : Bool) → stands_after (line_name l) name (command.Unrecord (line_name k) (name_of text)) b ≡ b
    out b = ap (λ t. if t then b && not m else b) (lines_apart k l apart)

    go : (b : Bool) → stands (line_name l) name (more b) (stands_after (line_name l) name (command.Apply (line_name k) (name_of text)) before) ≡ before
    go true = ap (λ b. stands (line_name l) name (more true) b) (applied before) ∙ ap (λ b. stands_after (line_name l) name (command.Apply (line_name k) (name_of text)) b) (out before) ∙ applied before
    go false = applied before

-- ---- the channel of a line

line_none : (number sessions s l : ℕ) (name : Name) (before : Bool) → stands (line_name l) name (session_requests number sessions s 0) before ≡ before
unfolding session_requests
line_none number sessions s l name before = refl

line_first : (number l : ℕ) (name : Name) → named_in (line_texts number l 0) name ≡ same_name (name_of zero_text) name
unfolding line_texts
line_first number l name = or-false (same_name (name_of zero_text) name)

line_more : (number sessions l n : ℕ) (name : Name) (before : Bool)
    → stands (line_name l) name (session_requests number sessions (l % sessions) n) before ≡ named_in (line_texts number l n) name
    → stands (line_name l) name (session_requests number sessions (l % sessions) (suc n)) before ≡ named_in (line_texts number l (suc n)) name
unfolding session_requests line_texts
line_more number sessions l n name before rest = elim (eqb_tells (n % 8) l) [
  | inl own ↦
      let here : nat_eq (n % 8 % sessions) (l % sessions) ≡ true = ap (λ k. nat_eq (k % sessions) (l % sessions)) own.1 ∙ same (l % sessions) in
      let text = change_text number n in
      ap (λ b. stands (line_name l) name (session_requests number sessions (l % sessions) n ++ (if b then requests_for (n % 8) (n + 1) text else [])) before) here
      ∙ stands_append (line_name l) name (session_requests number sessions (l % sessions) n) (requests_for (n % 8) (n + 1) text) before
      ∙ ap (λ b. stands (line_name l) name (requests_for (n % 8) (n + 1) text) b) rest ∙ ap (λ k. stands (line_name l) name (requests_for k (n + 1) text) (named_in (line_texts number l n) name)) own.1
      ∙ own_change l (n + 1) text name (named_in (line_texts number l n) name) ∙ sym (named_more (line_texts number l n) text name)
      ∙ sym (ap (λ b. named_in (line_texts number l n ++ (if b then text ∷ [] else [])) name) own.0)
  | inr other ↦
      let text = change_text number n in
      stands_append (line_name l) name (session_requests number sessions (l % sessions) n) (if nat_eq (n % 8 % sessions) (l % sessions) then requests_for (n % 8) (n + 1) text else []) before
      ∙ nothing text other.1 (nat_eq (n % 8 % sessions) (l % sessions)) (stands (line_name l) name (session_requests number sessions (l % sessions) n) before)
      ∙ rest ∙ sym (ap (λ b. named_in (line_texts number l n ++ (if b then text ∷ [] else [])) name) other.0 ∙ ap (λ t. named_in t name) (append-nil (line_texts number l n)))
]
  where
    same : (k : ℕ) → nat_eq k k ≡ true
    same k = elim (eqb_tells k k) [ inl h ↦ h.0 | inr h ↦ absurd (h.1 refl) ]

    nothing : (text : List ℕ) → n % 8 ≢ l → (b v : Bool) → stands (line_name l) name (if b then requests_for (n % 8) (n + 1) text else []) v ≡ v
    nothing text apart true v = other_change (n % 8) l (n + 1) text name v apart
    nothing text apart false v = refl

-- the channel of a line has the changes of the line after the session that has the line
pub line_stands : (number sessions l n : ℕ) (name : Name) → stands (line_name l) name (session_requests number sessions (l % sessions) n) (same_name (name_of zero_text) name) ≡ named_in (line_texts number l n) name
line_stands number sessions l zero name = line_none number sessions (l % sessions) l name (same_name (name_of zero_text) name) ∙ sym (line_first number l name)
line_stands number sessions l (suc n) name = line_more number sessions l n name (same_name (name_of zero_text) name) (line_stands number sessions l n name)

-- ---- the texts

-- what the texts 0 to n are
pub zero_in : (number n : ℕ) → Contains (all_texts number n) zero_text
unfolding all_texts
zero_in number zero = first_member zero_text []
zero_in number (suc n) = Contains-append_left (all_texts number n) (change_text number n ∷ []) zero_text (zero_in number n)

change_in : (number n k : ℕ) → k < n → Contains (all_texts number n) (change_text number k)
unfolding all_texts
change_in number zero k lt = absurd (omega arith)
change_in number (suc n) k lt = elim (eqb_tells k n) [
  | inl same ↦ subst (λ j. Contains (all_texts number (suc n)) (change_text number j)) (sym same.1) (Contains-append_right (all_texts number n) (change_text number n ∷ []) (change_text number n) (first_member (change_text number n) []))
  | inr other ↦ (let apart = other.1 in Contains-append_left (all_texts number n) (change_text number n ∷ []) (change_text number k) (change_in number n k (omega (arith, apart, lt))))
]

-- each is that of change 0, or of a later one
pub text_cases : (number n : ℕ) (text : List ℕ) → Contains (all_texts number n) text → (zero_text ≡ text) ⊎ ((k : ℕ) × (k < n) × (change_text number k ≡ text))
unfolding all_texts
text_cases number zero text m = elim (uncons zero_text [] text m) [ inl e ↦ inl e | inr n ↦ absurd (no_member text n) ]
text_cases number (suc n) text m = elim (Contains-append_cases (all_texts number n) (change_text number n ∷ []) text m) [
  | inl there ↦ elim (text_cases number n text there) [ inl e ↦ inl e | inr k ↦ (let below = k.1 in inr (k.0, (omega (arith, below)), k.2)) ]
  | inr last ↦ elim (uncons (change_text number n) [] text last) [ inl e ↦ inr (n, (omega arith), e) | inr none ↦ absurd (no_member text none) ]
]

pub line_in : (number l n : ℕ) (text : List ℕ) → Contains (line_texts number l n) text → Contains (all_texts number n) text
unfolding line_texts all_texts
line_in number l zero text m = m
line_in number l (suc n) text m = elim (Contains-append_cases (line_texts number l n) (if nat_eq (n % 8) l then change_text number n ∷ [] else []) text m) [
  | inl there ↦ Contains-append_left (all_texts number n) (change_text number n ∷ []) text (line_in number l n text there)
  | inr last ↦ own (nat_eq (n % 8) l) last
]
  where
    own : (b : Bool) → Contains (if b then change_text number n ∷ [] else []) text → Contains (all_texts number n ++ change_text number n ∷ []) text
    own true last = Contains-append_right (all_texts number n) (change_text number n ∷ []) text last
    own false last = absurd (no_member text last)

-- ---- the commands of a session

module _ (texts : List (List ℕ)) (sessions s : ℕ) where
  -- the channel of a line that the session has
  abbrev pub IsOwnLine : ChannelName → Type 0
  IsOwnLine c = (l : ℕ) × (l < 8) × (l % sessions ≡ s) × (c ≡ line_name l)

  -- a command of the session: it stores one of the texts, or works on the channel of a line that it has, or applies to `main` a change
  -- of one of the texts
  abbrev pub IsOwn : Command → Type 0
  IsOwn (command.Put text) = Contains texts text
  IsOwn (command.Apply c change) = IsOwnLine c ⊎ ((c ≡ main) × (named_in texts change ≡ true))
  IsOwn (command.Unrecord c change) = IsOwnLine c
  IsOwn x = ⊥

  named : (text : List ℕ) → Contains texts text → named_in texts (name_of text) ≡ true
  named text m = any_member (λ t. same_name (name_of t) (name_of text)) texts text m (is_same_name (name_of text) (name_of text) refl)

  own_for : (l i : ℕ) (text : List ℕ) → l < 8 → l % sessions ≡ s → Contains texts text → All IsOwn (requests_for l i text)
  unfolding requests_for
  own_for l i text lt is m =
      let line : IsOwnLine (line_name l) = (l, lt, is, refl) in
      let x = command.Apply (line_name l) (name_of text) in
      let y = command.Apply main (name_of text) in
      All-cons IsOwn (command.Put text) (x ∷ y ∷ again (nat_eq (i % 15) 0)) m (All-cons IsOwn x (y ∷ again (nat_eq (i % 15) 0)) (inl line)
      (All-cons IsOwn y (again (nat_eq (i % 15) 0)) (inr (refl, named text m)) (more line (nat_eq (i % 15) 0))))
    where
      again : Bool → List Command
      again b = if b then command.Unrecord (line_name l) (name_of text) ∷ command.Apply (line_name l) (name_of text) ∷ [] else []

      more : IsOwnLine (line_name l) → (b : Bool) → All IsOwn (again b)
      more line true = All-cons IsOwn (command.Unrecord (line_name l) (name_of text)) (command.Apply (line_name l) (name_of text) ∷ []) line (All-cons IsOwn (command.Apply (line_name l) (name_of text)) [] (inl line) (All-nil IsOwn))
      more line false = All-nil IsOwn

  session_own : (number n : ℕ) → ((k : ℕ) → k < n → Contains texts (change_text number k)) → All IsOwn (session_requests number sessions s n)
  unfolding session_requests
  session_own number zero each = All-nil IsOwn
  session_own number (suc n) each = All-append IsOwn (session_requests number sessions s n) _ (session_own number n (λ k lt. each k (omega arith))) (own (nat_eq (n % 8 % sessions) s) refl)
    where
      own : (b : Bool) → nat_eq (n % 8 % sessions) s ≡ b → All IsOwn (if b then requests_for (n % 8) (n + 1) (change_text number n) else [])
      own true h = own_for (n % 8) (n + 1) (change_text number n) (mod_below n 8 (omega arith)) (elim (eqb_tells (n % 8 % sessions) s) [ inl e ↦ e.1 | inr e ↦ absurd (let no : true ≡ false = sym h ∙ e.0 in cc) ]) (each n (omega arith))
      own false h = All-nil IsOwn

  -- they are plain, and are writes
  pub own_plain : (x : Command) → IsOwn x → IsPlain x
  own_plain (command.Put text) is = tt
  own_plain (command.Apply c change) is = tt
  own_plain (command.Unrecord c change) is = tt
  own_plain (command.Get name) is = absurd is
  own_plain (command.Inverse name) is = absurd is
  own_plain (command.New name) is = absurd is
  own_plain (command.Fork from to) is = absurd is
  own_plain (command.Drop name) is = absurd is
  own_plain (command.Uproot name change) is = absurd is
  own_plain (command.Pull into from) is = absurd is
  own_plain (command.Graph name) is = absurd is
  own_plain (command.Print name) is = absurd is
  own_plain (command.Log name) is = absurd is
  own_plain command.Channels is = absurd is
  own_plain command.Journal is = absurd is
  own_plain command.Quit is = absurd is

  -- the channel of a line that the session does not have stays as it is
  pub other_line : (l : ℕ) (name : Name) (x : Command) (before : Bool) → IsOwn x → l % sessions ≢ s → stands_after (line_name l) name x before ≡ before
  other_line l name (command.Put text) before is apart = refl
  other_line l name (command.Apply c change) before is apart = ap (λ b. if b then before || same_name change name else before) (elim is [
    | inl own ↦ not_it own
    | inr at ↦ ap (λ n. bytes_eq n (line_name l)) at.0 ∙ main_apart l
  ])
    where
      not_it : IsOwnLine c → bytes_eq c (line_name l) ≡ false
      not_it own = ap (λ n. bytes_eq n (line_name l)) own.3 ∙ lines_apart own.0 l (λ e. apart (ap (λ k. k % sessions) (sym e) ∙ own.2))
  other_line l name (command.Unrecord c change) before is apart =
      ap (λ b. if b then before && not (same_name change name) else before) (ap (λ n. bytes_eq n (line_name l)) is.3 ∙ lines_apart is.0 l (λ e. apart (ap (λ k. k % sessions) (sym e) ∙ is.2)))
  other_line l name (command.Get n) before is apart = absurd is
  other_line l name (command.Inverse n) before is apart = absurd is
  other_line l name (command.New n) before is apart = absurd is
  other_line l name (command.Fork from to) before is apart = absurd is
  other_line l name (command.Drop n) before is apart = absurd is
  other_line l name (command.Uproot n change) before is apart = absurd is
  other_line l name (command.Pull into from) before is apart = absurd is
  other_line l name (command.Graph n) before is apart = absurd is
  other_line l name (command.Print n) before is apart = absurd is
  other_line l name (command.Log n) before is apart = absurd is
  other_line l name command.Channels before is apart = absurd is
  other_line l name command.Journal before is apart = absurd is
  other_line l name command.Quit before is apart = absurd is

-- all commands of session s are of it
pub session_commands : (number sessions s n : ℕ) → All (IsOwn (all_texts number n) sessions s) (session_requests number sessions s n)
session_commands number sessions s n = session_own (all_texts number n) sessions s number n (λ k lt. change_in number n k lt)

-- a session that has the line of a change applies it to `main`
pub applied_in : (number sessions n k : ℕ) → k < n → Contains (session_requests number sessions (k % 8 % sessions) n) (command.Apply main (name_of (change_text number k)))
unfolding session_requests requests_for
applied_in number sessions zero k lt = absurd (omega arith)
applied_in number sessions (suc n) k lt = elim (eqb_tells k n) [
  | inl same ↦ (let e : n ≡ k = sym same.1 in Contains-append_right (session_requests number sessions (k % 8 % sessions) n) _ (command.Apply main (name_of (change_text number k))) (here e (nat_eq (n % 8 % sessions) (k % 8 % sessions)) refl))
  | inr other ↦ (let apart = other.1 in Contains-append_left (session_requests number sessions (k % 8 % sessions) n) _ (command.Apply main (name_of (change_text number k))) (applied_in number sessions n k (omega (arith, apart, lt))))
]
  where
    it : Command
    it = command.Apply main (name_of (change_text number n))

    more : List Command
    more = if nat_eq ((n + 1) % 15) 0 then command.Unrecord (line_name (n % 8)) (name_of (change_text number n)) ∷ command.Apply (line_name (n % 8)) (name_of (change_text number n)) ∷ [] else []

    here : n ≡ k → (b : Bool) → nat_eq (n % 8 % sessions) (k % 8 % sessions) ≡ b → Contains (if b then requests_for (n % 8) (n + 1) (change_text number n) else []) (command.Apply main (name_of (change_text number k)))
    here e true h = subst (λ j. Contains (requests_for (n % 8) (n + 1) (change_text number n)) (command.Apply main (name_of (change_text number j)))) e
        (later_member (command.Put (change_text number n)) (command.Apply (line_name (n % 8)) (name_of (change_text number n)) ∷ it ∷ more) it (later_member (command.Apply (line_name (n % 8)) (name_of (change_text number n))) (it ∷ more) it (first_member it more)))
    here e false h = absurd (elim (eqb_tells (n % 8 % sessions) (k % 8 % sessions)) [ inl f ↦ (let no : true ≡ false = sym f.0 ∙ h in cc) | inr f ↦ f.1 (ap (λ j. j % 8 % sessions) e) ])
