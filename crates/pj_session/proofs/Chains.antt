-- Chains of answered commands grow.
use Rattle.std.proofs.Common.{◌≡◌, ◌+◌, List, [], ◌∷◌, ◌++◌, length, refl, ap, subst, arith}
use Rattle.pj_machine.specs.declared.command.Command.{Command}
use Rattle.pj_machine.specs.declared.limits.Limits.{Limits}
use Rattle.pj_machine.specs.declared.reply.Numbered.{Numbered}
use Rattle.pj_machine.specs.Call.{PassView}
use Rattle.pj_session.specs.Calls.{Chain, Calls}

module _ {T : Type 0} (Link : T → Command → Numbered → T → Type 0) where
  -- by one link more
  pub chain_push : (before middle after : T) (xs : List Command) (rs : List Numbered) (x : Command) (r : Numbered) → Chain Link before xs rs middle → Link middle x r after → Chain Link before (xs ++ x ∷ []) (rs ++ r ∷ []) after
  chain_push before middle after [] [] x r all one = (after, subst (λ m. Link m x r after) all one, refl)
  chain_push before middle after (y ∷ xs) (q ∷ rs) x r all one = (all.0, all.1, chain_push all.0 middle after xs rs x r all.2 one)
  chain_push before middle after [] (q ∷ rs) x r all one = absurd all
  chain_push before middle after (y ∷ xs) [] x r all one = absurd all

  -- by another chain
  pub chain_append : (before middle after : T) (xs ys : List Command) (rs qs : List Numbered) → Chain Link before xs rs middle → Chain Link middle ys qs after → Chain Link before (xs ++ ys) (rs ++ qs) after
  chain_append before middle after [] ys [] qs p q = subst (λ m. Chain Link m ys qs after) p q
  chain_append before middle after (x ∷ xs) ys (r ∷ rs) qs p q = (p.0, p.1, chain_append p.0 middle after xs ys rs qs p.2 q)
  chain_append before middle after [] ys (r ∷ rs) qs p q = absurd p
  chain_append before middle after (x ∷ xs) ys [] qs p q = absurd p

-- calls are counted
pub calls_count : (limits : Limits) (before after : PassView) (xs : List Command) (rs : List Numbered) → Calls limits before xs rs after → after.calls ≡ before.calls + length xs
calls_count limits before after [] [] p = let same : after.calls ≡ before.calls = ap (λ t. t.calls) p in omega arith
calls_count limits before after (x ∷ xs) (r ∷ rs) p = let one = p.1.calls in let more = calls_count limits p.0 after xs rs p.2 in omega arith
calls_count limits before after [] (r ∷ rs) p = absurd p
calls_count limits before after (x ∷ xs) [] p = absurd p
