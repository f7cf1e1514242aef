-- The rules of a change, put together from their tests.
use Rattle.std.proofs.Common.{◌≡◌, ℕ, ◌+◌, ◌<◌, ◌≤◌, ◌^◌, Bool, true, not, ◌&&◌, ◌||◌, List, [], length, subst, arith, nat_eq, nat_le}
use Rattle.std.specs.Prelude.{flat_map}
use Rattle.std.specs.List.{list_all, list_any}
use Rattle.std.proofs.lemmas.Bool.Decides.{nat_tests}
use Rattle.std.proofs.Props.{props}
use Rattle.pj_name.specs.declared.name.Name.{Name}
use Rattle.pj_name.specs.Name.{name_below, same_name}
use Rattle.pj_change.specs.declared.hunk.Hunk.{Hunk}
use Rattle.pj_change.specs.Text.{hunk_text, text_of, Parts}
use Rattle.pj_change.specs.declared.change.Change.{Change}
use Rattle.pj_change.specs.Parts.{parts, parts_of}
use Rattle.pj_change.specs.Rules.{IsChange, is_line, rising, version_of, are_hunks, each_pair, apart, longest}
use Rattle.pj_change.proofs.LengthLemmas.{length-text_of}

-- a line's length
pub length-line : (bytes : List ℕ) → is_line bytes ≡ true → length bytes ≤ 1000
unfolding is_line
length-line bytes h = grind (arith, nat_tests)

-- the text without hunks, and the hunks
pub length-text_parts : (version : ℕ) (message author : List ℕ) (time : ℕ) (needs knows : List Name) (hunks : List Hunk) →
    length (text_of (parts version message author time needs knows [])) + length (flat_map hunk_text hunks) ≡ length (text_of (parts version message author time needs knows hunks))
length-text_parts version message author time needs knows hunks =
    omega (arith, length-text_of (parts version message author time needs knows []), length-text_of (parts version message author time needs knows hunks))

abbrev lines : Parts → Bool
lines p = (nat_eq p.version 1 || nat_eq p.version 2) && is_line p.message && is_line p.author

abbrev names : Parts → Bool
names p =
    nat_le (length p.needs) 256 && nat_le (length p.knows) 1024 && rising name_below p.needs && rising name_below p.knows
    && list_all (λ k. not (list_any (same_name k) p.needs)) p.knows

abbrev hunks_apart : Parts → Bool
hunks_apart p = nat_le (length p.hunks) 4096 && list_all (λ h. nat_le (version_of h) p.version) p.hunks && each_pair apart p.hunks

-- parts that pass the tests are those of a change
pub change_from : (p : Parts) → lines p ≡ true → names p ≡ true → hunks_apart p ≡ true → p.time < 2 ^ 32 → are_hunks (length p.needs) 0 p.hunks ≡ true → length (text_of p) ≤ longest p.version → IsChange p
change_from p l n h time hunks short = record {
  version = grind (arith, l);
  message = grind (arith, l);
  author = grind (arith, l);
  time = time;
  few_needs = grind (arith, nat_tests, n);
  few_knows = grind (arith, nat_tests, n);
  few_hunks = grind (arith, nat_tests, h);
  needs_rise = grind (arith, n);
  knows_rise = grind (arith, n);
  no_need_known = grind (arith, n);
  versions = grind (arith, h);
  hunks = hunks;
  disjoint = grind (arith, h);
  short = short;
}

-- the rules hold in one way
IsChange-prop : (p : Parts) → IsProp (IsChange p)
IsChange-prop p = hlevel props

abbrev from_parts : (p : Parts) → IsChange p → Change
from_parts p keeps = record { version = p.version; message = p.message; author = p.author; time = p.time; needs = p.needs; knows = p.knows; hunks = p.hunks; keeps = keeps }

-- changes with the same parts are one
pub change_ext : (c d : Change) → parts_of c ≡ parts_of d → c ≡ d
change_ext c d e =
    let P : Parts → Type 0 = λ p. (keeps : IsChange p) → c ≡ from_parts p keeps in
    let same : P (parts_of c) = λ keeps i. from_parts (parts_of c) (IsChange-prop (parts_of c) c.keeps keeps i) in
    subst P e same d.keeps
