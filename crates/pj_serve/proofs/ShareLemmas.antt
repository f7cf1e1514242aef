-- The shares of workers.
use Rattle.std.proofs.Common.{◌≡◌, ℕ, zero, suc, ◌+◌, ◌-◌, ◌*◌, ◌/◌, ◌%◌, ◌<◌, ◌≤◌, nat_lt, Bool, true, false, cond, List, [], ◌∷◌, ◌++◌, length, refl, sym, ◌∙◌, ap, arith, append_assoc}
use Rattle.std.proofs.Math.Nat.{div-add-mod, suc-mul}
use Rattle.pj_serve.specs.Shares.{share, shares_from, shares, total}

-- one share more
pub shares_next : (sessions workers k : ℕ) (items items' all : List ℕ) (x : ℕ) → k < workers → items ++ shares_from sessions workers k (workers - k) ≡ all → items' ≡ items ++ x ∷ [] → x ≡ share sessions workers k
    → items' ++ shares_from sessions workers (k + 1) (workers - (k + 1)) ≡ all
shares_next sessions workers k items items' all x inside before made is =
    let more : workers - k ≡ suc (workers - (k + 1)) = omega (arith, inside) in
    let rest = shares_from sessions workers (k + 1) (workers - (k + 1)) in
    ap (λ l. l ++ rest) made ∙ append_assoc items (x ∷ []) rest ∙ ap (λ y. items ++ y ∷ rest) is
    ∙ sym (ap (λ n. items ++ shares_from sessions workers k n) more) ∙ before

-- the shares from one worker on, where what remains has gone to the first of them
total_from : (sessions workers k c : ℕ) → sessions % workers ≤ k + c → total (shares_from sessions workers k c) ≡ c * (sessions / workers) + (sessions % workers - k)
total_from sessions workers k zero le = grind (arith, le)
total_from sessions workers k (suc c) le =
    let rest = total_from sessions workers (k + 1) c (omega (arith, le)) in
    let product = suc-mul c (sessions / workers) in
    by_test (nat_lt k (sessions % workers)) refl rest product
  where
    by_test : (b : Bool) → b ≡ nat_lt k (sessions % workers) → total (shares_from sessions workers (k + 1) c) ≡ c * (sessions / workers) + (sessions % workers - (k + 1)) → suc c * (sessions / workers) ≡ c * (sessions / workers) + sessions / workers
        → sessions / workers + cond b 1 0 + total (shares_from sessions workers (k + 1) c) ≡ suc c * (sessions / workers) + (sessions % workers - k)
    by_test true is rest product = grind (arith, is, rest, product)
    by_test false is rest product = grind (arith, is, rest, product)

-- all sessions are shared out
pub total_shares : (sessions workers : ℕ) → 0 < workers → total (shares sessions workers) ≡ sessions
total_shares sessions workers some =
    let below : sessions % workers < workers = omega (arith, some) in
    let all = total_from sessions workers 0 workers (omega (arith, below)) in
    let whole = div-add-mod sessions workers in
    omega (arith, all, whole)

pub many_shares : (sessions workers k c : ℕ) → length (shares_from sessions workers k c) ≡ c
many_shares sessions workers k zero = refl
many_shares sessions workers k (suc c) = ap suc (many_shares sessions workers (k + 1) c)
