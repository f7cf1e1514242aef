use Rattle.std.proofs.Common.{◌≡◌, ◌<◌, ℕ, ◌↔◌, true, false, length, get_or, subst, arith}
use Rattle.pj_reach.specs.Numbering.{IsNumbering}
use Rattle.pj_reach.specs.Cycles.{HasInnerEdge}
use Rattle.pj_reach.specs.Orders.{IsOrdered}
use Rattle.pj_reach.specs.Closure.{Closure, HasOrder}
use Rattle.pj_reach.proofs.Closing.{strong_classes, numbered_by_least, cyclic_classes, strict_order}
use Rattle.pj_reach.proofs.closure.close.Goals as goal

pub number-requires-clause-few : goal.number-requires-clause-few
number-requires-clause-few c =
    rw c.as_slice.ensures.value (λ v h. let few = c.in_ok-trees.ensures.few v (omega (arith, h, c.in_ok-trees.ensures.tree_len)) in omega (arith, few, c.in_ok-trees.ensures.tree_len))

pub returns-clause-numbers : goal.returns-clause-numbers
returns-clause-numbers c =
    let numbers : IsNumbering c.args.n c.in_ok-trees.trees.tree_of.items c.in_ok-numbering.numbering.class_of.items c.in_ok-numbering.numbering.classes =
    subst (λ n. IsNumbering n c.in_ok-trees.trees.tree_of.items c.in_ok-numbering.numbering.class_of.items c.in_ok-numbering.numbering.classes) c.in_ok-trees.ensures.tree_len (subst (λ ts. IsNumbering (length ts) ts c.in_ok-numbering.numbering.class_of.items c.in_ok-numbering.numbering.classes) c.as_slice.ensures.value c.in_ok-numbering.ensures) in
    rw c.of-reached.ensures (numbered_by_least c.args.n c.args.edges.now c.in_ok-trees.trees.tree_of.items c.in_ok-trees.trees.finished.items c.in_ok-numbering.numbering.class_of.items c.in_ok-numbering.numbering.classes c.in_ok-trees.ensures numbers c.in_ok-cyclic.cyclic.items c.in_ok-before.before c.in_ok-cyclic.ensures.len)

pub returns-clause-cyclic : goal.returns-clause-cyclic
returns-clause-cyclic c =
    let numbers : IsNumbering c.args.n c.in_ok-trees.trees.tree_of.items c.in_ok-numbering.numbering.class_of.items c.in_ok-numbering.numbering.classes =
    subst (λ n. IsNumbering n c.in_ok-trees.trees.tree_of.items c.in_ok-numbering.numbering.class_of.items c.in_ok-numbering.numbering.classes) c.in_ok-trees.ensures.tree_len (subst (λ ts. IsNumbering (length ts) ts c.in_ok-numbering.numbering.class_of.items c.in_ok-numbering.numbering.classes) c.as_slice.ensures.value c.in_ok-numbering.ensures) in
    rw c.of-reached.ensures (cyclic_classes c.args.n c.args.edges.now c.in_ok-trees.trees.tree_of.items c.in_ok-trees.trees.finished.items c.in_ok-numbering.numbering.class_of.items c.in_ok-numbering.numbering.classes c.in_ok-trees.ensures numbers c.in_ok-cyclic.cyclic.items c.in_ok-before.before c.in_ok-cyclic.ensures.len c.requires
    (subst (λ cs. (class : ℕ) → class < c.in_ok-numbering.numbering.classes → (get_or c.in_ok-cyclic.cyclic.items class false ≡ true) ↔ HasInnerEdge c.args.edges.now cs class) c.as_slice-class_of.ensures.value c.in_ok-cyclic.ensures.inner))

pub returns-clause-strict : goal.returns-clause-strict
returns-clause-strict c =
    let numbers : IsNumbering c.args.n c.in_ok-trees.trees.tree_of.items c.in_ok-numbering.numbering.class_of.items c.in_ok-numbering.numbering.classes =
    subst (λ n. IsNumbering n c.in_ok-trees.trees.tree_of.items c.in_ok-numbering.numbering.class_of.items c.in_ok-numbering.numbering.classes) c.in_ok-trees.ensures.tree_len (subst (λ ts. IsNumbering (length ts) ts c.in_ok-numbering.numbering.class_of.items c.in_ok-numbering.numbering.classes) c.as_slice.ensures.value c.in_ok-numbering.ensures) in
    let reached : Closure = record { class_of = c.in_ok-numbering.numbering.class_of.items; cyclic = c.in_ok-cyclic.cyclic.items; before = c.in_ok-before.before } in
    let order : HasOrder c.args.edges.now reached =
    subst (λ cs. IsOrdered (length cs) c.args.edges.now cs c.in_ok-before.before) c.as_slice-class_of.ensures.value c.in_ok-before.ensures.order in
    rw c.of-reached.ensures (strict_order c.args.edges.now reached
    (strong_classes c.args.n c.args.edges.now c.in_ok-trees.trees.tree_of.items c.in_ok-trees.trees.finished.items c.in_ok-numbering.numbering.class_of.items c.in_ok-numbering.numbering.classes c.in_ok-trees.ensures numbers c.in_ok-cyclic.cyclic.items c.in_ok-before.before c.in_ok-cyclic.ensures.len)
    (numbered_by_least c.args.n c.args.edges.now c.in_ok-trees.trees.tree_of.items c.in_ok-trees.trees.finished.items c.in_ok-numbering.numbering.class_of.items c.in_ok-numbering.numbering.classes c.in_ok-trees.ensures numbers c.in_ok-cyclic.cyclic.items c.in_ok-before.before c.in_ok-cyclic.ensures.len)
    order
    (λ x y h. let at = c.size.ensures.inside x y h in (omega (arith, at.0, c.size.ensures.size, c.in_ok-before.ensures.size, c.in_ok-cyclic.ensures.len), omega (arith, at.1, c.size.ensures.size, c.in_ok-before.ensures.size, c.in_ok-cyclic.ensures.len))))
