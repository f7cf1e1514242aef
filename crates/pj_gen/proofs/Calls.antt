-- The scripts are made of requests.
use Rattle.std.proofs.Common.{◌≡◌, ◌≢◌, refl, sym, ap, ◌∙◌, ℕ, zero, suc, ◌+◌, ◌*◌, ◌/◌, ◌%◌, ◌^◌, ◌<◌, ◌≤◌, Bool, true, false, List, [], ◌∷◌, ◌++◌, Option, Some, None, All, inl, length, length-append, append-nil, arith, rules, lit<}
use Rattle.std.specs.Prelude.{nat_eq, decimal, map, if◌then◌else◌}
use Rattle.std.specs.List.{flat_map}
use Rattle.std.proofs.lemmas.List.Elements.{All-cons, All-nil, All-head, All-tail, All-append}
use Rattle.std.proofs.lemmas.List.Sums.{AllPass-from_list_all}
use Rattle.std.proofs.lemmas.Grind.{flat_map-append}
use Rattle.std.proofs.lemmas.Nat.{mod_below}
use Rattle.std.proofs.lemmas.Fmt.{length-decimal-le}
use Rattle.pj_name.specs.declared.name.Name.{Name}
use Rattle.pj_name.specs.Name.{name_of, name_below}
use Rattle.pj_change.specs.declared.point.Ref.{Ref}
use Rattle.pj_change.specs.declared.point.Ref.TheVariants.{Root, At}
use Rattle.pj_change.specs.declared.hunk.Hunk.{Hunk}
use Rattle.pj_change.specs.declared.hunk.Hunk.TheVariants.{File, Insert, Delete}
use Rattle.pj_change.specs.Text.{reference, references, range, owners, hunk_text, text_of}
use Rattle.pj_change.proofs.LengthLemmas.{length-text_of, length-file, length-insert, length-range}
use Rattle.pj_machine.specs.declared.command.Command.{Command}
use Rattle.pj_machine.specs.declared.command.Command.TheVariants.{Put, Fork, Apply, Unrecord, Print, Quit}
use Rattle.pj_machine.specs.ChannelName.{is_channel_byte, IsChannelName}
use Rattle.pj_wire.specs.Requests.{spelling, spellings, IsCall, IsRequest}
use Rattle.pj_gen.specs.declared.draws.Draws.{Draws}
use Rattle.pj_gen.specs.declared.changes.Insertion.{Insertion}
use Rattle.pj_gen.specs.Draws.{draws_from, number_after}
use Rattle.pj_gen.specs.Changes.{eight, file_name, file_bytes, file_hunks, inode, first_byte, line_name, load_change, zero_text, zero_name, numbered, behind, deletion, insertion, following, insertion_or_following, change_after, file_after, last_after, last_insertion, change_text}
use Rattle.pj_gen.specs.Laws.{IsWhole, ScriptsAreWhole}
use Rattle.pj_gen.specs.Requests.{main, opening_requests, requests_for, session_requests, closing_requests}

-- ---- lengths

-- a number below 2 ^ 32 has at most ten digits
pub number_short : (n : ℕ) → n < 2 ^ 32 → length (decimal n) ≤ 10
number_short n small = length-decimal-le 10 n (omega arith) (omega arith) (omega arith)

reference_short : (owner offset : ℕ) → owner < 2 ^ 32 → offset < 2 ^ 32 → length (reference (At owner offset)) ≤ 21
unfolding reference
reference_short owner offset a b =
    let c = number_short owner a in
    let d = number_short offset b in
    simp length-append (omega arith)

one_reference : (owner offset : ℕ) → owner < 2 ^ 32 → offset < 2 ^ 32 → length (references (At owner offset ∷ [])) ≤ 21
unfolding references
one_reference owner offset a b = reference_short owner offset a b

no_reference : length (references []) ≤ 21
unfolding references
no_reference = omega arith

root_short : length (reference Root) ≤ 21
unfolding reference
root_short = omega arith

-- an insertion of at most 64 bytes, behind one position
insert_short : (owner at up_owner up : ℕ) (downs : List Ref) (bytes : List ℕ) → owner < 2 ^ 32 → at < 2 ^ 32 → up_owner < 2 ^ 32 → up < 2 ^ 32 →
    length (references downs) ≤ 21 → length bytes ≤ 64 → length (hunk_text (Insert (At owner at) (At up_owner up ∷ []) downs bytes)) ≤ 300
insert_short owner at up_owner up downs bytes a b c d few short =
    let size = length-insert (Insert (At owner at) (At up_owner up ∷ []) downs bytes) (At owner at) (At up_owner up ∷ []) downs bytes refl in
    let file = reference_short owner at a b in
    let ups = one_reference up_owner up c d in
    let count = number_short (length bytes) (omega arith) in
    omega arith

-- a change of one hunk, with at most two needs
change_short : (i : ℕ) (needs : List Name) (h : Hunk) → i < 2 ^ 32 → length needs ≤ 2 → length (hunk_text h) ≤ 300 →
    length (text_of (load_change i needs (h ∷ []))) ≤ 1048576
change_short i needs h small few short =
    let size = length-text_of (load_change i needs (h ∷ [])) in
    let one = number_short 1 (omega arith) in
    let number = number_short i small in
    let hunks : length (flat_map hunk_text (h ∷ [])) ≡ length (hunk_text h) = ap (λ (t : List ℕ). length t) (append-nil (hunk_text h)) in
    omega arith

-- ---- the changes

file_bytes_length : (j : ℕ) → length (file_bytes j) ≡ 64
unfolding file_bytes
file_bytes_length j = refl

pub numbered_length : (i : ℕ) → length (numbered i) ≡ 8
unfolding numbered
numbered_length i = refl

delete_short : (start : ℕ) → start < 10000 → length (hunk_text (Delete 1 start (start + 8) (1 ∷ []))) ≤ 300
unfolding range owners
delete_short start low =
    let size = length-range (Delete 1 start (start + 8) (1 ∷ [])) 1 start (start + 8) (1 ∷ []) (inl refl) in
    let one = number_short 1 (omega arith) in
    let from = number_short start (omega arith) in
    let to = number_short (start + 8) (omega arith) in
    let place : length (range 1 start (start + 8)) ≤ 32 = simp length-append (omega arith) in
    omega arith

pub deletion_short : (i : ℕ) (d : Draws) → i < 2 ^ 32 → d.file < 8 → d.place < 64 → length (text_of (deletion i d)) ≤ 1048576
unfolding deletion
deletion_short i d small file place =
    let start = first_byte d.file + 8 * (d.place / 8) in
    change_short i (zero_name ∷ []) (Delete 1 start (start + 8) (1 ∷ [])) small (omega arith) (delete_short start (omega arith))

pub insertion_short : (i : ℕ) (d : Draws) → i < 2 ^ 32 → d.file < 8 → d.place < 64 → length (text_of (insertion i d)) ≤ 1048576
unfolding insertion
insertion_short i d small file place =
    let at = first_byte d.file + d.place in
    let bytes = numbered_length i in
    change_short i (zero_name ∷ []) (Insert (At 1 (inode d.file)) (At 1 at ∷ []) (if nat_eq d.place 63 then [] else At 1 (at + 1) ∷ []) (numbered i)) small (omega arith)
    (insert_short 1 (inode d.file) 1 at (if nat_eq d.place 63 then [] else At 1 (at + 1) ∷ []) (numbered i) (omega arith) (omega arith) (omega arith) (omega arith) (downs (nat_eq d.place 63) at (omega arith)) (omega arith))
  where
    downs : (b : Bool) (at : ℕ) → at < 10000 → length (references (if b then [] else At 1 (at + 1) ∷ [])) ≤ 21
    downs true at low = no_reference
    downs false at low = one_reference 1 (at + 1) (omega arith) (omega arith)

pub following_short : (i : ℕ) (last : Insertion) → i < 2 ^ 32 → last.file < 8 → length (text_of (following i last)) ≤ 1048576
unfolding following
following_short i last small file = by_order (name_below zero_name last.name)
  where
    one : (zero_number last_number : ℕ) → zero_number < 3 → last_number < 3 → length (hunk_text (behind i last zero_number last_number)) ≤ 300
    one z l a b =
        let bytes = numbered_length i in
        insert_short z (inode last.file) l 7 [] (numbered i) (omega arith) (omega arith) (omega arith) (omega arith) no_reference (omega arith)

    by_order : (b : Bool) → length (text_of (if b then load_change i (zero_name ∷ last.name ∷ []) (behind i last 1 2 ∷ []) else load_change i (last.name ∷ zero_name ∷ []) (behind i last 2 1 ∷ []))) ≤ 1048576
    by_order true = change_short i (zero_name ∷ last.name ∷ []) (behind i last 1 2) small (omega arith) (one 1 2 (omega arith) (omega arith))
    by_order false = change_short i (last.name ∷ zero_name ∷ []) (behind i last 2 1) small (omega arith) (one 2 1 (omega arith) (omega arith))

-- the last insertion is into one of the eight files
abbrev pub IsIntoFile : Option Insertion → Type 0
IsIntoFile None = Unit {0}
IsIntoFile (Some last) = last.file < 8

after_short : (last : Option Insertion) (i : ℕ) (d : Draws) → i < 2 ^ 32 → IsIntoFile last → d.file < 8 → d.place < 64 → length (text_of (change_after last i d)) ≤ 1048576
after_short last i d small into file place = by_kind (nat_eq d.kind 0)
  where
    further : (last : Option Insertion) → IsIntoFile last → length (text_of (insertion_or_following last i d)) ≤ 1048576
    further None into = insertion_short i d small file place
    further (Some last) into = by_third (nat_eq d.kind 3)
      where
        by_third : (b : Bool) → length (text_of (if b then following i last else insertion i d)) ≤ 1048576
        by_third true = following_short i last small into
        by_third false = insertion_short i d small file place

    by_kind : (b : Bool) → length (text_of (if b then deletion i d else insertion_or_following last i d)) ≤ 1048576
    by_kind true = deletion_short i d small file place
    by_kind false = further last into

-- ---- every change

file_small : (last : Option Insertion) (d : Draws) (name : Name) (b : Bool) → IsIntoFile last → d.file < 8 →
    IsIntoFile (if b then last else Some (record { name = name; file = file_after last d }))
file_small last d name true into small = into
file_small None d name false into small = small
file_small (Some last) d name false into small = by_third (nat_eq d.kind 3)
  where
    by_third : (b : Bool) → (if b then last.file else d.file) < 8
    by_third true = into
    by_third false = small

pub drawn_file : (x : ℕ) → (draws_from x).file < 8
drawn_file x = mod_below _ 8 (lit< tt)

pub drawn_place : (x : ℕ) → (draws_from x).place < 64
drawn_place x = mod_below _ 64 (lit< tt)

into_more : (before : Option Insertion) (d : Draws) (name : Name) (b : Bool) → IsIntoFile before → d.file < 8 →
    IsIntoFile (if b then last_after before d name else before)
into_more before d name true into small = file_small before d name (nat_eq d.kind 0) into small
into_more before d name false into small = into

pub into_file : (number l n : ℕ) → IsIntoFile (last_insertion number l n)
unfolding last_insertion
into_file number l zero = tt
into_file number l (suc n) =
    let d = draws_from (number_after number n) in
    let before = last_insertion number l n in
    into_more before d (name_of (text_of (change_after before (n + 1) d))) (nat_eq (n % 8) l) (into_file number l n) (drawn_file (number_after number n))

text_short : (number n : ℕ) → n + 1 < 2 ^ 32 → length (change_text number n) ≤ 1048576
unfolding change_text
text_short number n small =
    after_short (last_insertion number (n % 8) n) (n + 1) (draws_from (number_after number n)) small (into_file number (n % 8) n)
    (drawn_file (number_after number n)) (drawn_place (number_after number n))

-- ---- change 0

file_short : (j : ℕ) → j < 8 → length (flat_map hunk_text (file_hunks j)) ≤ 400
file_short j small =
    let file = length-file (File Root (file_name j) false) Root (file_name j) (inl (false, refl)) in
    let root = root_short in
    let at = inode j in
    let bytes = file_bytes_length j in
    let insert = insert_short 0 at 0 at [] (file_bytes j) (omega arith) (omega arith) (omega arith) (omega arith) no_reference (omega arith) in
    let parts = length-append (hunk_text (File Root (file_name j) false)) (hunk_text (Insert (At 0 at) (At 0 at ∷ []) [] (file_bytes j)) ++ []) in
    let nil : length (hunk_text (Insert (At 0 at) (At 0 at ∷ []) [] (file_bytes j)) ++ []) ≡ length (hunk_text (Insert (At 0 at) (At 0 at ∷ []) [] (file_bytes j))) =
    ap (λ (t : List ℕ). length t) (append-nil (hunk_text (Insert (At 0 at) (At 0 at ∷ []) [] (file_bytes j)))) in
    omega arith

files_short : (js : List ℕ) → All (λ j. j < 8) js → length (flat_map hunk_text (flat_map file_hunks js)) ≤ 400 * length js
files_short [] small = omega arith
files_short (j ∷ js) small =
    let first = file_short j (All-head (λ j. j < 8) j js small) in
    let rest = files_short js (All-tail (λ j. j < 8) j js small) in
    let split : length (flat_map hunk_text (file_hunks j ++ flat_map file_hunks js)) ≡ length (flat_map hunk_text (file_hunks j)) + length (flat_map hunk_text (flat_map file_hunks js)) =
    ap (λ (t : List ℕ). length t) (flat_map-append hunk_text (file_hunks j) (flat_map file_hunks js)) ∙ length-append (flat_map hunk_text (file_hunks j)) (flat_map hunk_text (flat_map file_hunks js)) in
    omega arith

eight_small : All (λ j. j < 8) eight
eight_small = search rules

pub zero_short : length zero_text ≤ 1048576
unfolding zero_text
zero_short =
    let size = length-text_of (load_change 0 [] (flat_map file_hunks eight)) in
    let files = files_short eight eight_small in
    let one = number_short 1 (omega arith) in
    let none = number_short 0 (omega arith) in
    omega arith

-- ---- the names of channels

line_byte : (l : ℕ) → l < 8 → is_channel_byte (48 + l) ≡ true
line_byte zero lt = refl
line_byte (suc zero) lt = refl
line_byte (suc (suc zero)) lt = refl
line_byte (suc (suc (suc zero))) lt = refl
line_byte (suc (suc (suc (suc zero)))) lt = refl
line_byte (suc (suc (suc (suc (suc zero))))) lt = refl
line_byte (suc (suc (suc (suc (suc (suc zero)))))) lt = refl
line_byte (suc (suc (suc (suc (suc (suc (suc zero))))))) lt = refl
line_byte (suc (suc (suc (suc (suc (suc (suc (suc l)))))))) lt = absurd (omega arith)

line_channel : (l : ℕ) → l < 8 → IsChannelName (line_name l)
line_channel l lt = record {
  some = omega arith;
  short = omega arith;
  bytes = All-cons (λ b. is_channel_byte b ≡ true) 108 ((48 + l) ∷ []) refl
      (All-cons (λ b. is_channel_byte b ≡ true) (48 + l) [] (line_byte l lt) (All-nil (λ b. is_channel_byte b ≡ true)));
}

main_channel : IsChannelName main
main_channel = record { some = omega arith; short = omega arith; bytes = AllPass-from_list_all is_channel_byte main refl }

-- ---- the requests

one_more : (x : Command) (xs : List Command) → IsRequest x → x ≢ Quit → All IsCall xs → All IsCall (x ∷ xs)
one_more x xs allowed replied rest = All-cons IsCall x xs (record { allowed = allowed; replied = replied }) rest

no_call : All IsCall []
no_call = All-nil IsCall

calls_for : (l i : ℕ) (text : List ℕ) → l < 8 → length text ≤ 1048576 → All IsCall (requests_for l i text)
unfolding requests_for
calls_for l i text lt short =
    let name = name_of text in
    let more = if nat_eq (i % 15) 0 then Unrecord (line_name l) name ∷ Apply (line_name l) name ∷ [] else [] in
    one_more (Put text) (Apply (line_name l) name ∷ Apply main name ∷ more) (omega (arith, short)) (λ h. cc)
    (one_more (Apply (line_name l) name) (Apply main name ∷ more) (line_channel l lt) (λ h. cc)
    (one_more (Apply main name) more main_channel (λ h. cc) (again (nat_eq (i % 15) 0))))
  where
    again : (b : Bool) → All IsCall (if b then Unrecord (line_name l) (name_of text) ∷ Apply (line_name l) (name_of text) ∷ [] else [])
    again true = one_more (Unrecord (line_name l) (name_of text)) (Apply (line_name l) (name_of text) ∷ []) (line_channel l lt) (λ h. cc) (one_more (Apply (line_name l) (name_of text)) [] (line_channel l lt) (λ h. cc) no_call)
    again false = no_call

session_calls : (number sessions s n : ℕ) → n + 1 < 2 ^ 32 → All IsCall (session_requests number sessions s n)
unfolding session_requests
session_calls number sessions s zero small = no_call
session_calls number sessions s (suc n) small =
    All-append IsCall (session_requests number sessions s n) _ (session_calls number sessions s n (omega arith)) (own (nat_eq (n % 8 % sessions) s))
  where
    own : (b : Bool) → All IsCall (if b then requests_for (n % 8) (n + 1) (change_text number n) else [])
    own true = calls_for (n % 8) (n + 1) (change_text number n) (mod_below n 8 (lit< tt)) (text_short number n (omega arith))
    own false = no_call

forks : (ls : List ℕ) → All (λ l. l < 8) ls → All IsCall (map (λ l. Fork main (line_name l)) ls)
forks [] small = no_call
forks (l ∷ ls) small =
    one_more (Fork main (line_name l)) _ (main_channel, line_channel l (All-head (λ l. l < 8) l ls small)) (λ h. cc) (forks ls (All-tail (λ l. l < 8) l ls small))

prints : (ls : List ℕ) → All (λ l. l < 8) ls → All IsCall (map (λ l. Print (line_name l)) ls)
prints [] small = no_call
prints (l ∷ ls) small =
    one_more (Print (line_name l)) _ (line_channel l (All-head (λ l. l < 8) l ls small)) (λ h. cc) (prints ls (All-tail (λ l. l < 8) l ls small))

opening_calls : All IsCall opening_requests
unfolding opening_requests
opening_calls =
    let forked = map (λ l. Fork main (line_name l)) eight in
    one_more (Put zero_text) (Apply main zero_name ∷ forked) (omega (arith, zero_short)) (λ h. cc)
    (one_more (Apply main zero_name) forked main_channel (λ h. cc) (forks eight eight_small))

closing_calls : All IsCall closing_requests
unfolding closing_requests
closing_calls = All-append IsCall (map (λ l. Print (line_name l)) eight) (Print main ∷ []) (prints eight eight_small) (one_more (Print main) [] main_channel (λ h. cc) no_call)

-- ---- the scripts

whole : (xs : List Command) → All IsCall xs → IsWhole xs
whole xs calls = record {
  begins = record { whole = sym (append-nil (spellings xs ++ spelling Quit)); each = calls };
  no_more = λ h. absurd (cc h);
}

pub all_whole : ScriptsAreWhole
all_whole = record {
  prelude_is = whole opening_requests opening_calls;
  sessions_are = λ number sessions s n small. whole (session_requests number sessions s n) (session_calls number sessions s n small);
  closing_is = whole closing_requests closing_calls;
}
