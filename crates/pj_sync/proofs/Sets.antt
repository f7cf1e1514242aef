-- Sets of names, and lists without those of one.
use Rattle.std.proofs.Common.{◌≡◌, ◌≢◌, ℕ, ◌+◌, ◌<◌, Bool, true, false, not, cond, List, [], ◌∷◌, ◌++◌, length, get_or, take, refl, sym, ◌∙◌, ap, subst, arith}
use Rattle.std.specs.Prelude.{◌||◌, AllPairs}
use Rattle.std.specs.BTreeSet.{BTreeSet, contains, Updates}
use Rattle.std.proofs.lemmas.List.{get_or-take, get_or_default, length-take-le, take_more}
use Rattle.std.proofs.lemmas.List.Elements.{Contains-get_or, filter-append}
use Rattle.std.proofs.lemmas.List.Folds.{list_any-append}
use Rattle.std.proofs.lemmas.List.Quantifiers.{all_pairs_push}
use Rattle.pj_name.specs.declared.name.Name.{Name}
use Rattle.pj_name.specs.Name.{name_cmp, same_name}
use Rattle.pj_name.specs.Order.{same_names_tie}
use Rattle.pj_change.proofs.EqualNames.{is_same_name, same_name_is}
use Rattle.pj_change.proofs.Members.{any_member, passes}
use Rattle.pj_exchange.specs.Phases.{is_listed, lacked}

-- ---- one name more

-- the names up to one, and that one
name_more : (names : List Name) (i : ℕ) (k : Name) → i < length names → k ≡ get_or names i k → take (i + 1) names ≡ take i names ++ k ∷ []
name_more names i k low is = take_more names i k low ∙ ap (λ n. take i names ++ n ∷ []) (sym is)

-- it is listed, and so are those before
listed_push : (names : List Name) (k q : Name) → is_listed (names ++ k ∷ []) q ≡ cond (same_name k q) true (is_listed names q)
listed_push names k q = list_any-append (λ n. same_name n q) names (k ∷ []) ∙ go (is_listed names q) (same_name k q)
  where
    go : (x b : Bool) → (x || (b || false)) ≡ cond b true x
    go true true = refl
    go true false = refl
    go false true = refl
    go false false = refl

-- a set with one name more has those that are listed up to it
pub set_more : (names : List Name) (i : ℕ) (k : Name) (old new : BTreeSet Name) → i < length names → k ≡ get_or names i k → Updates name_cmp old new k true →
    ((q : Name) → contains name_cmp old q ≡ is_listed (take i names) q) → (q : Name) → contains name_cmp new q ≡ is_listed (take (i + 1) names) q
set_more names i k old new low is updates was q =
    updates.0 q ∙ ap (λ b. cond b true (contains name_cmp old q)) (sym (same_names_tie k q)) ∙ ap (λ x. cond (same_name k q) true x) (was q)
    ∙ sym (ap (λ l. is_listed l q) (name_more names i k low is) ∙ listed_push (take i names) k q)

-- what is lacked up to one name more
pub lacked_more : (mine theirs : List Name) (i : ℕ) (k : Name) → i < length theirs → k ≡ get_or theirs i k →
    lacked mine (take (i + 1) theirs) ≡ lacked mine (take i theirs) ++ cond (is_listed mine k) [] (k ∷ [])
lacked_more mine theirs i k low is =
    ap (λ l. lacked mine l) (name_more theirs i k low is) ∙ filter-append (λ n. not (is_listed mine n)) (take i theirs) (k ∷ [])
    ∙ ap (λ l. lacked mine (take i theirs) ++ l) (go (is_listed mine k))
  where
    go : (b : Bool) → cond (not b) (k ∷ []) [] ≡ cond b [] (k ∷ [])
    go true = refl
    go false = refl

-- ---- names that are distinct

-- a name that is listed before stands twice
pub stands_twice : (names : List Name) (i : ℕ) (k : Name) → i < length names → k ≡ get_or names i k → is_listed (take i names) k ≡ true →
    AllPairs (λ m n. m ≢ n) names → ⊥
stands_twice names i k low is listed distinct =
    let p = passes (λ n. same_name n k) (take i names) listed in
    let m = p.member in
    let size = length-take-le i names (omega arith) in
    let short = m.1 in
    let at : get_or (take i names) m.0 p.it ≡ get_or names m.0 p.it = get_or-take i names m.0 p.it (omega arith) in
    distinct m.0 i p.it (omega arith) low (sym at ∙ m.2 ∙ same_name_is p.it k p.is ∙ is ∙ get_or_default names i k p.it low)

-- one that is not listed before keeps them distinct
pub apart_more : (names : List Name) (i : ℕ) (k : Name) → i < length names → k ≡ get_or names i k → is_listed (take i names) k ≡ false →
    AllPairs (λ m n. m ≢ n) (take i names) → AllPairs (λ m n. m ≢ n) (take (i + 1) names)
apart_more names i k low is new distinct =
    subst (λ l. AllPairs (λ m n. m ≢ n) l) (sym (name_more names i k low is))
    (all_pairs_push (λ m n. m ≢ n) (take i names) k distinct (λ j d short e.
    let listed = any_member (λ n. same_name n k) (take i names) (get_or (take i names) j d) (Contains-get_or (take i names) j d short)
    (is_same_name (get_or (take i names) j d) k e) in
    let both : true ≡ false = sym listed ∙ new in cc both))

-- what an insertion says of a name: it was listed where it was not new
pub was_listed : (added held : Bool) → added ≡ not held → added ≡ false → held ≡ true
was_listed added true is not_new = refl
was_listed added false is not_new = absurd (let k : true ≡ false = sym is ∙ not_new in cc k)

-- and it was new where it was not
pub was_new : (added held : Bool) → added ≡ not held → added ≡ true → held ≡ false
was_new added true is new = absurd (let k : false ≡ true = sym is ∙ new in cc k)
was_new added false is new = refl
