-- The pairings of the names of a namespace are its children.
use Rattle.std.proofs.Common.{◌≡◌, ◌≢◌, Bool, true, false, ◌&&◌, List, refl, sym, ap, ◌∙◌, subst, ◌↔◌, Contains, IsTrue, if◌then◌else◌}
use Rattle.std.specs.Ordering.{is_eq}
use Rattle.std.specs.declared.cmp.Ordering.TheVariants.{Equal}
use Rattle.std.specs.Cmp.{both_ways, Equal-is}
use Rattle.std.proofs.lemmas.Bool.{and_parts, false_from_ne_true}
use Rattle.std.proofs.lemmas.Cmp.{tied_itself}
use Rattle.pj_change.specs.declared.point.Point.{Point}
use Rattle.pj_change.specs.declared.point.Place.{Place}
use Rattle.pj_change.specs.declared.point.Place.TheVariants as placed
use Rattle.pj_change.specs.declared.graph.Status.{Status}
use Rattle.pj_change.specs.declared.graph.Status.TheVariants.{Alive, Dead, Zombie}
use Rattle.pj_change.specs.declared.print.StepWord.{StepWord}
use Rattle.pj_change.specs.declared.print.StepWord.TheVariants as word
use Rattle.pj_change.specs.Positions.{same_point}
use Rattle.pj_change.specs.Graph.{Lists, place_cmp}
use Rattle.pj_change.proofs.Orders.{place_total}
use Rattle.pj_tree.proofs.Naming.{not_dead}
use Rattle.pj_change.specs.Children.{Child, child_cmp}
use Rattle.pj_change.proofs.Members.{passes, any_member}
use Rattle.pj_change.proofs.EqualNames.{same_point_is, same_point_itself, place_tied}
use Rattle.pj_change.proofs.PickedMembers.{image, mapped, passed, kept}
use Rattle.pj_tree.specs.declared.row.NameRow.{NameRow}
use Rattle.pj_tree.specs.declared.pairings.Pairing.{Pairing}
use Rattle.pj_tree.specs.declared.walker.Guide.{Guide}
use Rattle.pj_tree.specs.Rows.{pair_cmp}
use Rattle.pj_tree.specs.RowOrder.{pair_total}
use Rattle.pj_tree.specs.Pairings.{child_of, is_in, pairings_in, children_in, has_word, is_pair, says, says_exec, IsPairing, IsCovered, ArePairings}
use Rattle.pj_tree.specs.Namespace.{Namespace, IsNamed, IsParent, IsSaid, HasName, HasExecName, IsChildBy, IsChild}
use Rattle.pj_tree.specs.Frames.{has_name, has_child, IsGuideOf}
use Rattle.pj_tree.proofs.Ties.{pair_tied, IsSamePair, same_place-is_eq}
use Rattle.pj_tree.proofs.Siblings.{children_sorted}

-- ---- pairs

pairs_are : (q r : NameRow) → is_pair r q ≡ true → IsSamePair q r
pairs_are q r h = pair_tied q r ((Equal-is (pair_cmp q r)).0 h)

are_pairs : (q r : NameRow) → IsSamePair q r → is_pair r q ≡ true
are_pairs q r h =
    let e : pair_cmp (record { parent = q.parent; name = q.name; child = q.child; at = q.at; dir = q.dir; exec = q.exec }) (record { parent = q.parent; name = q.name; child = q.child; at = r.at; dir = r.dir; exec = r.exec }) ≡ Equal = tied_itself pair_total q in
    ap is_eq ((λ i. pair_cmp q (record { parent = sym h.parent i; name = sym h.name i; child = sym h.child i; at = r.at; dir = r.dir; exec = r.exec })) ∙ e)

-- ---- what the names say

-- the status of the names that give a word
abbrev status_of : StepWord → Status
status_of word.Alive = Alive
status_of word.Zombie = Zombie
status_of word.Orphan = Dead
status_of word.Adrift = Dead

word_status : (s : Status) (w : StepWord) → has_word s w ≡ true → s ≡ status_of w
word_status Alive word.Alive h = refl
word_status Alive word.Zombie h = absurd (cc)
word_status Alive word.Orphan h = absurd (cc)
word_status Alive word.Adrift h = absurd (cc)
word_status Dead w h = absurd (cc)
word_status Zombie word.Alive h = absurd (cc)
word_status Zombie word.Zombie h = refl
word_status Zombie word.Orphan h = absurd (cc)
word_status Zombie word.Adrift h = absurd (cc)

module _ (N : Namespace) where
  said_by : (q r : NameRow) (w : StepWord) → Contains N.rows q → is_pair r q ≡ true → has_word (N.status q.at) w ≡ true → IsSaid N r.parent r.name r.child (status_of w) q
  said_by q r w m p h = let s = pairs_are q r p in record { there = m; in_parent = s.parent; of_bytes = s.name; of_child = s.child; of_status = word_status (N.status q.at) w h }

  said_name : (r : NameRow) (w : StepWord) → says N.status N.rows r w ≡ true → HasName N r.parent r.name r.child (status_of w)
  said_name r w h =
      let p = passes (λ q. is_pair r q && has_word (N.status q.at) w) N.rows h in
      let b = and_parts (is_pair r p.it) (has_word (N.status p.it.at) w) p.is in
      (p.it, said_by p.it r w p.member b.0 b.1)

  name_said : (r : NameRow) (w : StepWord) (s : Status) → has_word s w ≡ true → HasName N r.parent r.name r.child s → says N.status N.rows r w ≡ true
  name_said r w s live h =
      let pair : is_pair r h.0 ≡ true = are_pairs h.0 r (record { parent = h.1.in_parent; name = h.1.of_bytes; child = h.1.of_child }) in
      let word_is : has_word (N.status h.0.at) w ≡ true = ap (λ t. has_word t w) h.1.of_status ∙ live in
      any_member (λ q. is_pair r q && has_word (N.status q.at) w) N.rows h.0 h.1.there (λ i. pair i && word_is i)

  exec_name : (r : NameRow) (w : StepWord) → says_exec N.status N.rows r w ≡ true → HasExecName N r.parent r.name r.child (status_of w)
  exec_name r w h =
      let p = passes (λ q. is_pair r q && (has_word (N.status q.at) w && q.exec)) N.rows h in
      let b = and_parts (is_pair r p.it) (has_word (N.status p.it.at) w && p.it.exec) p.is in
      let d = and_parts (has_word (N.status p.it.at) w) p.it.exec b.1 in
      (p.it, said_by p.it r w p.member b.0 d.0, d.1)

  name_exec : (r : NameRow) (w : StepWord) (s : Status) → has_word s w ≡ true → HasExecName N r.parent r.name r.child s → says_exec N.status N.rows r w ≡ true
  name_exec r w s live h =
      let pair : is_pair r h.0 ≡ true = are_pairs h.0 r (record { parent = h.1.in_parent; name = h.1.of_bytes; child = h.1.of_child }) in
      let word_is : has_word (N.status h.0.at) w ≡ true = ap (λ t. has_word t w) h.1.of_status ∙ live in
      any_member (λ q. is_pair r q && (has_word (N.status q.at) w && q.exec)) N.rows h.0 h.1.there (λ i. pair i && (word_is i && h.2 i))

  -- ---- the children

  module _ (pairings : List Pairing) (are : ArePairings N.status N.rows pairings) where
    abbrev chosen : Bool → StepWord
    chosen b = if b then word.Alive else word.Zombie

    -- a pairing is a child of its parent
    pairing_child : (e : Pairing) → IsPairing N.status N.rows e → IsChildBy N e.row.now.parent (child_of e) e.word
    pairing_child e h = by (says N.status N.rows e.row.now word.Alive) refl
      where
        exec_there : (w : StepWord) → e.word ≡ w → e.exec ≡ true → HasExecName N e.row.now.parent e.row.now.name e.row.now.child (status_of w)
        exec_there w f t = exec_name e.row.now w (subst (λ v. says_exec N.status N.rows e.row.now v ≡ true) f (sym h.exec ∙ t))

        exec_back : (w : StepWord) → e.word ≡ w → has_word (status_of w) w ≡ true → HasExecName N e.row.now.parent e.row.now.name e.row.now.child (status_of w) → e.exec ≡ true
        exec_back w f l x = h.exec ∙ subst (λ v. says_exec N.status N.rows e.row.now v ≡ true) (sym f) (name_exec e.row.now w (status_of w) l x)

        name_there : (w : StepWord) → e.word ≡ w → HasName N e.row.now.parent e.row.now.name e.row.now.child (status_of w)
        name_there w f = said_name e.row.now w (subst (λ v. says N.status N.rows e.row.now v ≡ true) f h.said)

        by : (b : Bool) → says N.status N.rows e.row.now word.Alive ≡ b → IsChildBy N e.row.now.parent (child_of e) e.word
        by true g =
            let f : e.word ≡ word.Alive = h.word ∙ ap chosen g in
            subst (IsChildBy N e.row.now.parent (child_of e)) (sym f) (name_there word.Alive f, (exec_there word.Alive f, exec_back word.Alive f refl))
        by false g =
            let f : e.word ≡ word.Zombie = h.word ∙ ap chosen g in
            let none : HasName N e.row.now.parent e.row.now.name e.row.now.child Alive → ⊥ = λ n. (let t = name_said e.row.now word.Alive Alive refl n in let u = sym t ∙ g in cc) in
            subst (IsChildBy N e.row.now.parent (child_of e)) (sym f) (name_there word.Zombie f, none, (exec_there word.Zombie f, exec_back word.Zombie f refl))

    -- a child has a pairing
    covered : (q : NameRow) (s : Status) → Contains N.rows q → N.status q.at ≡ s → (s ≢ Dead) → IsCovered pairings q
    covered q s m e n = are.all q m (λ d. n (sym e ∙ d))

    -- the word and the test of a child are those of the pairing of its pair
    same_word : (parent : Place) (c : Child) (w : StepWord) → IsChildBy N parent c w → (e : Pairing) → IsPairing N.status N.rows e →
        e.row.now.parent ≡ parent → e.row.now.name ≡ c.bytes → e.row.now.child ≡ c.inode → (e.word ≡ w) × (e.exec ≡ c.exec)
    same_word parent c w k e h a b d = by w k
      where
        onto : (s : Status) → HasName N parent c.bytes c.inode s → HasName N e.row.now.parent e.row.now.name e.row.now.child s
        onto s n = (n.0, record { there = n.1.there; in_parent = n.1.in_parent ∙ sym a; of_bytes = n.1.of_bytes ∙ sym b; of_child = n.1.of_child ∙ sym d; of_status = n.1.of_status })

        back : (s : Status) → HasName N e.row.now.parent e.row.now.name e.row.now.child s → HasName N parent c.bytes c.inode s
        back s n = (n.0, record { there = n.1.there; in_parent = n.1.in_parent ∙ a; of_bytes = n.1.of_bytes ∙ b; of_child = n.1.of_child ∙ d; of_status = n.1.of_status })

        exec_same : (v : StepWord) → e.word ≡ v → has_word (status_of v) v ≡ true → IsTrue c.exec ↔ HasExecName N parent c.bytes c.inode (status_of v) → e.exec ≡ c.exec
        exec_same v f l x = both_ways e.exec c.exec
            (λ t. let n = exec_name e.row.now v (subst (λ u. says_exec N.status N.rows e.row.now u ≡ true) f (sym h.exec ∙ t)) in let m = back (status_of v) (n.0, n.1) in x.1 (n.0, m.1, n.2))
            (λ t. let n = x.0 t in let m = onto (status_of v) (n.0, n.1) in h.exec ∙ subst (λ u. says_exec N.status N.rows e.row.now u ≡ true) (sym f) (name_exec e.row.now v (status_of v) l (n.0, m.1, n.2)))

        by : (v : StepWord) → IsChildBy N parent c v → (e.word ≡ v) × (e.exec ≡ c.exec)
        by word.Alive x =
            let f : e.word ≡ word.Alive = h.word ∙ ap chosen (name_said e.row.now word.Alive Alive refl (onto Alive x.0)) in
            (f, exec_same word.Alive f refl x.1)
        by word.Zombie x =
            let g : says N.status N.rows e.row.now word.Alive ≡ false = false_from_ne_true (says N.status N.rows e.row.now word.Alive) (λ t. x.1 (back Alive (said_name e.row.now word.Alive t))) in
            let f : e.word ≡ word.Zombie = h.word ∙ ap chosen g in
            (f, exec_same word.Zombie f refl x.2)
        by word.Orphan x = absurd x
        by word.Adrift x = absurd x

    -- a name that says the pair of a child
    named_by : (parent : Place) (c : Child) (w : StepWord) → IsChildBy N parent c w → (s : Status) × HasName N parent c.bytes c.inode s × (s ≢ Dead)
    named_by parent c word.Alive x = (Alive, x.0, λ e. cc)
    named_by parent c word.Zombie x = (Zombie, x.0, λ e. cc)
    named_by parent c word.Orphan x = absurd x
    named_by parent c word.Adrift x = absurd x

    in_place : (e : Pairing) (parent : Place) → e.row.now.parent ≡ parent → is_in parent e ≡ true
    in_place e parent h = same_place-is_eq e.row.now.parent parent ∙ ap is_eq (subst (λ p. place_cmp e.row.now.parent p ≡ Equal) h (tied_itself place_total e.row.now.parent))

    place_in : (e : Pairing) (parent : Place) → is_in parent e ≡ true → e.row.now.parent ≡ parent
    place_in e parent h = place_tied e.row.now.parent parent ((Equal-is (place_cmp e.row.now.parent parent)).0 (sym (same_place-is_eq e.row.now.parent parent) ∙ h))

    child_is : (e : Pairing) (c : Child) → e.row.now.name ≡ c.bytes → e.row.now.child ≡ c.inode → e.word ≡ c.word → e.exec ≡ c.exec → child_of e ≡ c
    child_is e c a b d x = λ i. record { bytes = a i; inode = b i; word = d i; exec = x i }

    children_are : (parent : Place) → Lists child_cmp (IsChild N parent) (children_in parent pairings)
    children_are parent = record {
      sorted = children_sorted parent pairings are.sorted;
      only = λ c m.
          let g = image child_of (pairings_in parent pairings) c m in
          let f = passed (is_in parent) pairings g.it g.member in
          let by : IsChildBy N parent (child_of g.it) g.it.word = subst (λ p. IsChildBy N p (child_of g.it) g.it.word) (place_in g.it parent f.passes) (pairing_child g.it (are.each g.it f.member)) in
          subst (IsChild N parent) g.is (record { by = by });
      all = λ c k.
          let n = named_by parent c c.word k.by in
          let q = n.1.0 in
          let said = n.1.1 in
          let v = covered q n.0 said.there said.of_status n.2 in
          let e = v.pairing in
          let s = pairs_are e.row.now q v.is in
          let a = s.parent ∙ said.in_parent in
          let b = s.name ∙ said.of_bytes in
          let d = s.child ∙ said.of_child in
          let w = same_word parent c c.word k.by e (are.each e v.there) a b d in
          subst (Contains (children_in parent pairings)) (child_is e c b d w.0 w.1)
          (mapped child_of (pairings_in parent pairings) e (kept (is_in parent) pairings e v.there (in_place e parent a)));
    }

    -- ---- names and parents

    pairing_live : (e : Pairing) → Contains pairings e → (q : NameRow) × Contains N.rows q × (N.status q.at ≢ Dead) × IsSamePair q e.row.now
    pairing_live e m =
        let h = are.each e m in
        let p = passes (λ q. is_pair e.row.now q && has_word (N.status q.at) e.word) N.rows h.said in
        let b = and_parts (is_pair e.row.now p.it) (has_word (N.status p.it.at) e.word) p.is in
        (p.it, p.member, not_dead (N.status p.it.at) e.word b.1, pairs_are p.it e.row.now b.0)

    named_are : (p : Point) → IsNamed N p ↔ (has_name pairings p ≡ true)
    named_are p = (
      (λ n.
          let v = are.all n.row n.there n.live in
          let s = pairs_are v.pairing.row.now n.row v.is in
          let t : same_point p v.pairing.row.now.child ≡ true = subst (λ x. same_point p x ≡ true) (sym (s.child ∙ n.child)) (same_point_itself p) in
          any_member (λ e. same_point p e.row.now.child) pairings v.pairing v.there t),
      λ t.
          let x = passes (λ e. same_point p e.row.now.child) pairings t in
          let q = pairing_live x.it x.member in
          record { row = q.0; there = q.1; child = q.3.child ∙ sym (same_point_is p x.it.row.now.child x.is); live = q.2 },
    )

    parents_are : (p : Point) → IsParent N p ↔ (has_child pairings p ≡ true)
    parents_are p = (
      (λ n.
          let v = are.all n.row n.there n.live in
          let s = pairs_are v.pairing.row.now n.row v.is in
          any_member (is_in (placed.At p)) pairings v.pairing v.there (in_place v.pairing (placed.At p) (s.parent ∙ n.parent))),
      λ t.
          let x = passes (is_in (placed.At p)) pairings t in
          let q = pairing_live x.it x.member in
          record { row = q.0; there = q.1; parent = q.3.parent ∙ place_in x.it (placed.At p) x.is; live = q.2 },
    )

    pub plan_of : (guide : Guide) → guide.pairings.now ≡ pairings → guide.inodes.now ≡ N.inodes → IsGuideOf N guide
    plan_of guide e i = record {
      inodes = i;
      children = λ parent. subst (λ es. Lists child_cmp (IsChild N parent) (children_in parent es)) (sym e) (children_are parent);
      named = λ p. subst (λ es. IsNamed N p ↔ (has_name es p ≡ true)) (sym e) (named_are p);
      parents = λ p. subst (λ es. IsParent N p ↔ (has_child es p ≡ true)) (sym e) (parents_are p);
    }
