use Rattle.std.proofs.Common.{◌≤◌, ◌<◌, ◌+◌, ap, inl, inr, arith}
use Rattle.pj_state.proofs.KeptFacts.{store_full, lt_iff}
use Rattle.std.proofs.lemmas.Bool.{le-leb}
use Rattle.pj_state.proofs.state.State.is_store_full.Goals as goal

pub overflow_add-result : goal.overflow_add-result
overflow_add-result c = (let few = c.self.invariant.store.few in let low = c.self.inside.limits.few_bytes in let short = c.requires in omega (arith, few, low, short))

pub returns-then-len-from : goal.returns-then-len-from
returns-then-len-from c = λ s r.
    let many = store_full _ _ _ _ _ c.self.invariant c.args.self.now c.self.view_is s r in
    let same = c.len.ensures.len in
    let limit = c.from.ensures in
    let full : c.from.result ≤ c.len.result = c.if-len-from.true in
    let limits_are = ap (λ k. k.limits.changes) c.self.view_is in
    (λ t. inl (omega (arith, many.count)), λ h. le-leb _ _ full)

pub returns-else-len-from : goal.returns-else-len-from
returns-else-len-from c = λ s r.
    let many = store_full _ _ _ _ _ c.self.invariant c.args.self.now c.self.view_is s r in
    let count = many.count in
    let bytes = many.bytes_are in
    let same = c.len.ensures.len in
    let limit = c.from.ensures in
    let room = c.if-len-from.false in
    let limits_are = ap (λ k. k.limits.changes) c.self.view_is in
    let bytes_limit = ap (λ k. k.limits.bytes) c.self.view_is in (
      λ t. inr (let x = (lt_iff _ _).0 t in omega arith),
      λ h. (lt_iff _ _).1 (elim h [ inl a ↦ absurd (omega arith) | inr b ↦ (let x : c.self.inside.limits.bytes < c.self.inside.store.bytes + c.args.len = omega arith in x) ]),
    )
