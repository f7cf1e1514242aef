-- The script of the prelude from its pieces.
use Rattle.std.proofs.Common.{◌≡◌, List, ℕ, [], ◌++◌, append_assoc}
use Rattle.std.specs.List.{flat_map}
use Rattle.pj_name.specs.declared.name.Name.{Name}
use Rattle.pj_machine.specs.declared.command.Command.TheVariants.{Put, Apply, Fork, Quit}
use Rattle.pj_wire.specs.Requests.{spelling}
use Rattle.pj_gen.specs.Changes.{eight, line_name, zero_text, zero_name}
use Rattle.pj_gen.specs.Requests.{main, opening_requests, script}

regrouped : (p a f q : List ℕ) → ((p ++ a) ++ f) ++ q ≡ (p ++ (a ++ f)) ++ q
regrouped p a f q = simp append_assoc

opening_pieces : ((spelling (Put zero_text) ++ spelling (Apply main zero_name)) ++ flat_map (λ l. spelling (Fork main (line_name l))) eight) ++ spelling Quit
    ≡ script opening_requests
unfolding opening_requests
opening_pieces =
    regrouped (spelling (Put zero_text)) (spelling (Apply main zero_name)) (flat_map (λ l. spelling (Fork main (line_name l))) eight) (spelling Quit)

pub opened : (text : List ℕ) (name : Name) → text ≡ zero_text → name ≡ zero_name → (o x y z w : List ℕ) →
    o ≡ [] → x ≡ o ++ spelling (Put text) → y ≡ x ++ spelling (Apply main name) → z ≡ y ++ flat_map (λ l. spelling (Fork main (line_name l))) eight
    → w ≡ z ++ spelling Quit → w ≡ script opening_requests
opened text name et en o x y z w eo ex ey ez ew = rw (ew, ez, ey, ex, eo, et, en) opening_pieces
