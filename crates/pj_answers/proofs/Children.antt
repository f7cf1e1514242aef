-- The children of a parent are finitely many, and have an order.
use Rattle.std.proofs.Common.{◌≡◌, ℕ, List, [], ◌∷◌, refl, sym, ◌∙◌, ap, subst, inl, inr, arith, Bool, true, false}
use Rattle.std.specs.Prelude.{Contains, IsTrue, ◌↔◌}
use Rattle.std.specs.declared.cmp.Ordering.TheVariants.{Equal}
use Rattle.std.specs.Cmp.Lexicographic.{slice_cmp, bytes_decides}
use Rattle.std.specs.Ordering.{is_eq, nat_cmp}
use Rattle.std.proofs.lemmas.Map.Text.{is_eq-slice_cmp}
use Rattle.pj_change.specs.declared.point.Point.{Point}
use Rattle.pj_change.specs.declared.point.Place.{Place}
use Rattle.pj_change.specs.declared.point.Place.TheVariants as placed
use Rattle.pj_change.specs.declared.graph.Status.{Status}
use Rattle.pj_change.specs.declared.graph.Status.TheVariants.{Alive, Zombie}
use Rattle.pj_change.specs.declared.print.StepWord.{StepWord}
use Rattle.pj_change.specs.declared.print.StepWord.TheVariants as word
use Rattle.pj_change.specs.declared.change.Record.{Record}
use Rattle.pj_change.specs.Children.{Naming, IsNaming, Child, IsSaid, HasName, HasExecName, IsChildBy, IsChild, child_cmp}
use Rattle.pj_change.specs.Graph.{Lists, point_cmp}
use Rattle.pj_change.specs.Lawful.{IsLawful}
use Rattle.pj_change.specs.Status.{status_of}
use Rattle.pj_change.proofs.Decided.{Known, known_as, known_both, known_three, known_not, known_some, known_place, known_status, known_test}
use Rattle.pj_change.proofs.EqualNames.{both_tie, point_tied}
use Rattle.pj_change.proofs.Orders.{child_total}
use Rattle.pj_answers.proofs.Finite as finite
use Rattle.pj_answers.proofs.Tests.{known_bytes}
use Rattle.pj_answers.proofs.Namings.{namings, child_inode, HasInode}

-- bytes that the order does not tell apart are equal
bytes_tied : (xs ys : List ℕ) → slice_cmp nat_cmp xs ys ≡ Equal → xs ≡ ys
bytes_tied xs ys h = (bytes_decides xs ys).0 (sym (is_eq-slice_cmp xs ys) ∙ ap is_eq h)

-- whether two things hold in the same cases
known_either_way : {A B : Type 0} → Known A → Known B → Known (A ↔ B)
known_either_way (inl a) (inl b) = inl (λ x. b, λ x. a)
known_either_way (inl a) (inr n) = inr (λ h. n (h.0 a))
known_either_way (inr m) (inl b) = inr (λ h. m (h.1 b))
known_either_way (inr m) (inr n) = inl (λ x. absurd (m x), λ x. absurd (n x))

-- tests that hold in the same cases are one
same_test : (b c : Bool) → (b ≡ true → c ≡ true) → (c ≡ true → b ≡ true) → b ≡ c
same_test true c f g = sym (f refl)
same_test false true f g = g refl
same_test false false f g = refl

module _ (S : List Record) (parent : Place) where
  -- ---- whether a name says a pair

  -- a name says the pair in the parent, and has the status
  abbrev Says : List ℕ → Point → Status → Naming → Type 0
  Says bytes inode status n = ((n.parent ≡ parent) × (n.bytes ≡ bytes)) × ((n.child ≡ placed.At inode) × (status_of S n.at ≡ status))

  -- whether a name says the pair, and has the status
  known_says : (bytes : List ℕ) (inode : Point) (status : Status) (n : Naming) → Known (Says bytes inode status n)
  known_says bytes inode status n =
      known_both (known_both (known_place n.parent parent) (known_bytes n.bytes bytes))
      (known_both (known_place n.child (placed.At inode)) (known_status (status_of S n.at) status))

  -- a name of the set that does
  said : (bytes : List ℕ) (inode : Point) (status : Status) (n : Naming) → IsNaming S n → Says bytes inode status n → IsSaid S parent bytes inode status n
  said bytes inode status n is h = record { is = is; in_parent = h.0.0; of_bytes = h.0.1; of_child = h.1.0; of_status = h.1.1 }

  -- whether a name of this status says the pair
  known_name_said : (bytes : List ℕ) (inode : Point) (status : Status) → Known (HasName S parent bytes inode status)
  known_name_said bytes inode status =
      let ns = namings S in
      known_as (λ h. (h.0, said bytes inode status h.0 (ns.only h.0 h.1) h.2))
      (λ h. (let i = h.1 in (h.0, ns.all h.0 i.is, ((i.in_parent, i.of_bytes), (i.of_child, i.of_status)))))
      (known_some (Says bytes inode status) ns.list (known_says bytes inode status))

  -- whether an executable one does
  known_exec_said : (bytes : List ℕ) (inode : Point) (status : Status) → Known (HasExecName S parent bytes inode status)
  known_exec_said bytes inode status =
      let ns = namings S in
      known_as (λ h. (h.0, said bytes inode status h.0 (ns.only h.0 h.1) h.2.0, h.2.1))
      (λ h. (let i = h.1 in (h.0, ns.all h.0 i.is, (((i.in_parent, i.of_bytes), (i.of_child, i.of_status)), h.2))))
      (known_some (λ n. Says bytes inode status n × (n.exec ≡ true)) ns.list (λ n. known_both (known_says bytes inode status n) (known_test n.exec true)))

  -- ---- whether a pair is a child

  -- whether a pair is a child by this word
  known_child_by : (c : Child) (w : StepWord) → Known (IsChildBy S parent c w)
  known_child_by c word.Alive = known_both (known_name_said c.bytes c.inode Alive)
      (known_either_way (known_test c.exec true) (known_exec_said c.bytes c.inode Alive))
  known_child_by c word.Zombie =
      known_three (known_name_said c.bytes c.inode Zombie) (known_not (known_name_said c.bytes c.inode Alive))
      (known_either_way (known_test c.exec true) (known_exec_said c.bytes c.inode Zombie))
  known_child_by c word.Orphan = inr (λ h. h)
  known_child_by c word.Adrift = inr (λ h. h)

  -- whether it is a child
  known_child : (c : Child) → Known (IsChild S parent c)
  known_child c = known_as (λ h. record { by = h }) (λ h. h.by) (known_child_by c c.word)

  -- ---- all that may be one

  -- the words that a child may have
  words : List StepWord
  words = word.Alive ∷ word.Zombie ∷ []

  -- both answers of a test
  tests : List Bool
  tests = true ∷ false ∷ []

  -- each answer is one of them
  in_tests : (b : Bool) → Contains tests b
  unfolding tests
  in_tests true = (0, omega arith, refl)
  in_tests false = (1, omega arith, refl)

  -- the child of a name at this inode
  child : Naming → Point → StepWord → Bool → Child
  child n inode w exec = record { bytes = n.bytes; inode = inode; word = w; exec = exec }

  -- a child that the name may say
  abbrev IsOf : Naming → Child → Type 0
  IsOf n c = (w : StepWord) × Contains words w × ((exec : Bool) × Contains tests exec × ((p : Point) × (n.child ≡ placed.At p) × (child n p w exec ≡ c)))

  -- the children that a name may say are finitely many
  of_naming : (n : Naming) → finite.Finite (IsOf n)
  of_naming n = finite.some _ words (λ w m. finite.some _ tests (λ exec k. by w exec n.child refl))
    where
      by : (w : StepWord) (exec : Bool) (o : Place) → n.child ≡ o → finite.Finite {X = Child}
          (λ c. (p : Point) × (n.child ≡ placed.At p) × (child n p w exec ≡ c))
      by w exec placed.Root e = finite.none _ (λ c h. (let f : placed.Root ≡ placed.At h.0 = sym e ∙ h.1 in cc))
      by w exec (placed.At q) e = finite.one _ (child n q w exec) (q, e, refl) (λ c h.
          (let f : placed.At q ≡ placed.At h.0 = sym e ∙ h.1 in let g : q ≡ h.0 = cc in ap (λ p. child n p w exec) g ∙ h.2))

  -- a name that says it, and its word
  said_by : (c : Child) (w : StepWord) → IsChildBy S parent c w → (n : Naming) × IsNaming S n ×
      ((n.bytes ≡ c.bytes) × (n.child ≡ placed.At c.inode) × Contains words w)
  unfolding words
  said_by c word.Alive h = (let n = h.0 in let i = n.1 in (n.0, i.is, (i.of_bytes, i.of_child, (0, omega arith, refl))))
  said_by c word.Zombie h = (let n = h.0 in let i = n.1 in (n.0, i.is, (i.of_bytes, i.of_child, (1, omega arith, refl))))
  said_by c word.Orphan h = absurd h
  said_by c word.Adrift h = absurd h

  -- a child is one that a name of the list may say
  of_list : (list : List Naming) → ((n : Naming) → IsNaming S n → Contains list n) → (c : Child) → (n : Naming) × IsNaming S n ×
      ((n.bytes ≡ c.bytes) × (n.child ≡ placed.At c.inode) × Contains words c.word) →
      (n : Naming) × Contains list n × IsOf n c
  unfolding child
  of_list list all c (n, is, (bytes, at, w)) =
      (n, all n is, (c.word, w, (c.exec, in_tests c.exec, (c.inode, at, λ i. record { bytes = bytes i; inode = c.inode; word = c.word; exec = c.exec }))))

  -- the children of the parent are finitely many
  children : finite.Finite (IsChild S parent)
  children =
      let ns = namings S in
      finite.alike (λ c. ((n : Naming) × Contains ns.list n × IsOf n c) × IsChild S parent c) (IsChild S parent) (λ c h. h.1)
      (λ c h. (of_list ns.list ns.all c (said_by c c.word h.by), h))
      (finite.known_ones (λ c. (n : Naming) × Contains ns.list n × IsOf n c) (IsChild S parent) (finite.some IsOf ns.list (λ n m. of_naming n))
      (λ c h. known_child c))

  -- ---- in order

  -- the same pair has one word, and is executable or not
  same_said : (status : Status) (c d : Child) → c.bytes ≡ d.bytes → c.inode ≡ d.inode → HasName S parent c.bytes c.inode status →
      HasName S parent d.bytes d.inode status
  same_said status c d e f h = subst (λ b. HasName S parent b d.inode status) e (subst (λ p. HasName S parent c.bytes p status) f h)

  -- so is an executable name
  same_exec : (status : Status) (c d : Child) → c.bytes ≡ d.bytes → c.inode ≡ d.inode → HasExecName S parent c.bytes c.inode status →
      HasExecName S parent d.bytes d.inode status
  same_exec status c d e f h = subst (λ b. HasExecName S parent b d.inode status) e (subst (λ p. HasExecName S parent c.bytes p status) f h)

  -- two children of one pair and one status are both executable, or neither
  one_exec : (status : Status) (c d : Child) → c.bytes ≡ d.bytes → c.inode ≡ d.inode →
      (IsTrue c.exec ↔ HasExecName S parent c.bytes c.inode status) → (IsTrue d.exec ↔ HasExecName S parent d.bytes d.inode status) → c.exec ≡ d.exec
  one_exec status c d e f a b = same_test c.exec d.exec (λ h. b.1 (same_exec status c d e f (a.0 h))) (λ h. a.1 (same_exec status d c (sym e) (sym f) (b.0 h)))

  -- two children of one pair have one word
  one_word : (c d : Child) → c.bytes ≡ d.bytes → c.inode ≡ d.inode → (v w : StepWord) → IsChildBy S parent c v → IsChildBy S parent d w → (v ≡ w) ×
      (c.exec ≡ d.exec)
  one_word c d e f word.Alive word.Alive a b = (refl, one_exec Alive c d e f a.1 b.1)
  one_word c d e f word.Zombie word.Zombie a b = (refl, one_exec Zombie c d e f a.2 b.2)
  one_word c d e f word.Alive word.Zombie a b = absurd (b.1 (same_said Alive c d e f a.0))
  one_word c d e f word.Zombie word.Alive a b = absurd (a.1 (same_said Alive d c (sym e) (sym f) b.0))
  one_word c d e f word.Alive word.Orphan a b = absurd b
  one_word c d e f word.Alive word.Adrift a b = absurd b
  one_word c d e f word.Zombie word.Orphan a b = absurd b
  one_word c d e f word.Zombie word.Adrift a b = absurd b
  one_word c d e f word.Orphan w a b = absurd a
  one_word c d e f word.Adrift w a b = absurd a

  -- children that the order does not tell apart are equal
  children_tied : (c d : Child) → IsChild S parent c → IsChild S parent d → child_cmp c d ≡ Equal → c ≡ d
  children_tied c d a b tie =
      let t = both_tie (slice_cmp nat_cmp c.bytes d.bytes) (point_cmp c.inode d.inode) tie in
      let bytes = bytes_tied c.bytes d.bytes t.0 in
      let inode = point_tied c.inode d.inode t.1 in
      let w = one_word c d bytes inode c.word d.word a.by b.by in
      λ i. record { bytes = bytes i; inode = inode i; word = w.0 i; exec = w.1 i }

  -- the children in order
  pub child_list : (list : List Child) × Lists child_cmp (IsChild S parent) list
  child_list = finite.listed child_cmp child_total (IsChild S parent) children children_tied

  -- and each is an inode
  pub is_inode : IsLawful S → (c : Child) → IsChild S parent c → HasInode S c.inode
  is_inode lawful c h = (let n = said_by c c.word h.by in child_inode S lawful n.0 n.1 c.inode n.2.1)
