-- Readings against spellings.
use Rattle.std.proofs.Common.{◌≡◌, ℕ, List, Option, Some, None, Result, Ok, Err, sym, ap, subst, ◌∙◌}
use Rattle.std.specs.Prelude.{IfOk, IfSome, IsSome, ok_or, ◌↔◌}
use Rattle.std.proofs.lemmas.Bool.{false≢true}
use Rattle.std.proofs.lemmas.Option.{same_Some}
use Rattle.pj_change.specs.declared.change.Change.{Change}
use Rattle.pj_change.specs.Text.{Parts}
use Rattle.pj_change.specs.Parts.{parts_of, spelling}
use Rattle.pj_change.specs.Rules.{IsChange}
use Rattle.pj_text.specs.declared.refusal.ReadRefusal.{ReadRefusal}
use Rattle.pj_text.specs.declared.refusal.ReadRefusal.TheVariants.{Malformed, Memory}
use Rattle.pj_text.specs.ChangeOfParts.{IsChangeOfParts, IsReadAs}
use Rattle.pj_text.specs.Reading.{parts_at}
use Rattle.pj_text.proofs.TextLaws.{reading_spells, spelling_reads}
use Rattle.pj_change.proofs.ChangeLemmas.{change_ext}

-- the parts of a change are read from its spelling
pub spelled_reads : (text : List ℕ) (c : Change) → text ≡ spelling c → parts_at text ≡ Some (parts_of c)
spelled_reads text c e = ap parts_at e ∙ spelling_reads (parts_of c) c.keeps

-- the parts that are read spell the text
pub read_spells : (text : List ℕ) (c : Change) → parts_at text ≡ Some (parts_of c) → text ≡ spelling c
read_spells text c e = (reading_spells text).gets (parts_of c) e

pub one_change : (text : List ℕ) (a b : Change) → text ≡ spelling a → text ≡ spelling b → a ≡ b
one_change text a b p q = change_ext a b (same_Some (parts_of a) (parts_of b) (sym (spelled_reads text a p) ∙ spelled_reads text b q))

-- what is drawn is spelled so
pub drawn_spells : (text : List ℕ) (r : Result Change ReadRefusal) → IsChangeOfParts r (parts_at text) → IfOk r (λ c. text ≡ spelling c)
drawn_spells text (Ok c) h = read_spells text c h
drawn_spells text (Err e) h = tt

-- nothing is drawn only from what no change spells
pub undrawn : (text : List ℕ) (r : Result Change ReadRefusal) → IsChangeOfParts r (parts_at text) → r ≡ Err Malformed → (c : Change) → text ≡ spelling c → ⊥
undrawn text (Ok c) h e = absurd cc
undrawn text (Err Malformed) h e = λ c is. h c (spelled_reads text c is)
undrawn text (Err Memory) h e = absurd cc

-- a change is drawn from parts exactly where they keep the rules
pub ruled : (p : Parts) (r : Option Change) → (IsSome r ↔ IsChange p) → IfSome r (λ c. parts_of c ≡ p) → IsChangeOfParts (ok_or r Malformed) (Some p)
ruled p None rules parts = λ c e. let is : IsChange p = subst IsChange (sym (same_Some p (parts_of c) e)) c.keeps in absurd (false≢true (rules.1 is))
ruled p (Some c) rules parts = ap (λ (q : Parts). Some q) (sym parts)

-- the spelling of a change is drawn as this change
pub drawn_again : (text : List ℕ) (r : Result Change ReadRefusal) → IsChangeOfParts r (parts_at text) → (c : Change) → text ≡ spelling c → IsReadAs c r
drawn_again text (Ok d) h c e = one_change text d c (read_spells text d h) e
drawn_again text (Err Malformed) h c e = h c (spelled_reads text c e)
drawn_again text (Err Memory) h c e = tt
