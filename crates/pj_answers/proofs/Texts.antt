-- Whether a text is that of a change is decided.
use Rattle.std.proofs.Common.{◌≡◌, ℕ, ◌+◌, ◌≤◌, ◌^◌, List, length, refl, sym, ◌∙◌, ap, subst, inl, inr, arith, true, not, ◌||◌}
use Rattle.std.specs.Prelude.{◌⊎◌, Option, Some, None, nat_eq, nat_le}
use Rattle.std.specs.List.{list_all, list_any}
use Rattle.pj_name.specs.Name.{name_below, same_name, name_of}
use Rattle.pj_change.specs.declared.change.Change.{Change}
use Rattle.pj_change.specs.declared.change.Record.{Record}
use Rattle.pj_change.specs.declared.limits.TheConstants.{MOST_NEEDS, MOST_KNOWN_NAMES, MOST_HUNKS}
use Rattle.pj_change.specs.Parts.{parts_of, spelling}
use Rattle.pj_change.specs.Rules.{is_line, rising, version_of, are_hunks, each_pair, apart, longest, IsChange}
use Rattle.pj_change.specs.Text.{Parts, text_of}
use Rattle.pj_change.proofs.Decided.{Known, known_as, known_both, known_less, known_test}
use Rattle.pj_text.specs.Reading.{parts_at}
use Rattle.pj_text.proofs.TextLaws.{reading_spells, spelling_reads}

-- whether one number is at most another
pub known_up_to : (m n : ℕ) → Known (m ≤ n)
known_up_to m n = known_as (λ l. omega (arith, l)) (λ l. omega (arith, l)) (known_less m (n + 1))

-- whether parts keep the rules
known_change : (p : Parts) → Known (IsChange p)
known_change p = known_as
    (λ h. record {
      version = h.0.0.0;
      message = h.0.0.1;
      author = h.0.1.0;
      time = h.0.1.1;
      few_needs = h.1.0.0.0;
      few_knows = h.1.0.0.1;
      few_hunks = h.1.0.1.0;
      needs_rise = h.1.0.1.1;
      knows_rise = h.1.1.0.0;
      no_need_known = h.1.1.0.1;
      versions = h.1.1.1.0.0;
      hunks = h.1.1.1.0.1;
      disjoint = h.1.1.1.1.0;
      short = h.1.1.1.1.1;
    })
    (λ c. (
      ((c.version, c.message), (c.author, c.time)),
      (((c.few_needs, c.few_knows), (c.few_hunks, c.needs_rise)), ((c.knows_rise, c.no_need_known), ((c.versions, c.hunks), (c.disjoint, c.short)))),
    ))
    (known_both
    (known_both (known_both (known_test (nat_eq p.version 1 || nat_eq p.version 2) true) (known_test (is_line p.message) true))
    (known_both (known_test (is_line p.author) true) (known_less p.time (2 ^ 32))))
    (known_both
    (known_both (known_both (known_up_to (length p.needs) MOST_NEEDS) (known_up_to (length p.knows) MOST_KNOWN_NAMES))
    (known_both (known_up_to (length p.hunks) MOST_HUNKS) (known_test (rising name_below p.needs) true)))
    (known_both
    (known_both (known_test (rising name_below p.knows) true) (known_test (list_all (λ k. not (list_any (same_name k) p.needs)) p.knows) true))
    (known_both
    (known_both (known_test (list_all (λ h. nat_le (version_of h) p.version) p.hunks) true) (known_test (are_hunks (length p.needs) 0 p.hunks) true))
    (known_both (known_test (each_pair apart p.hunks) true) (known_up_to (length (text_of p)) (longest p.version)))))))

-- the change of parts that keep the rules
change : (p : Parts) → IsChange p → Change
change p keeps = record {
  version = p.version;
  message = p.message;
  author = p.author;
  time = p.time;
  needs = p.needs;
  knows = p.knows;
  hunks = p.hunks;
  keeps = keeps;
}

-- the record of a change with this text
of_text : (text : List ℕ) (p : Parts) → IsChange p → text ≡ text_of p → (r : Record) × (r.text ≡ text)
unfolding change
of_text text p keeps spelled = (record { name = name_of text; text = text; change = change p keeps; spelled = spelled; named = refl }, refl)

-- a record has the text, or no change has
pub known_text : (text : List ℕ) → ((r : Record) × (r.text ≡ text)) ⊎ ((c : Change) → text ≡ spelling c → ⊥)
known_text text = by (parts_at text) refl
  where
    read : (c : Change) → text ≡ spelling c → parts_at text ≡ Some (parts_of c)
    read c e = ap parts_at e ∙ spelling_reads (parts_of c) c.keeps

    ruled : (p : Parts) → parts_at text ≡ Some p → Known (IsChange p) → ((r : Record) × (r.text ≡ text)) ⊎ ((c : Change) → text ≡ spelling c → ⊥)
    ruled p e (inl keeps) = inl (of_text text p keeps ((reading_spells text).gets p e))
    ruled p e (inr n) = inr (λ c f. n (let g : Some (parts_of c) ≡ Some p = sym (read c f)
        ∙ e in let same : parts_of c ≡ p = cc in subst IsChange same c.keeps))

    by : (o : Option Parts) → parts_at text ≡ o → ((r : Record) × (r.text ≡ text)) ⊎ ((c : Change) → text ≡ spelling c → ⊥)
    by None e = inr (λ c f. let g : None ≡ Some (parts_of c) = sym e ∙ read c f in cc)
    by (Some p) e = ruled p e (known_change p)
