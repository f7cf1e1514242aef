-- From what the parts of a staff's life do, what they need of one another.
use Rattle.std.proofs.Common.{◌≡◌, ◌+◌, List, [], ◌∷◌, ◌++◌, length, map, refl, sym, ◌∙◌, ap, arith}
use Rattle.std.proofs.lemmas.List.{length-map}
use Rattle.pj_serve.specs.declared.working.Turn.{Turn}

passes_join : {T : Type 0} (xs ys : List (Turn T)) → map (λ t. t.pass) (xs ++ ys) ≡ map (λ t. t.pass) xs ++ map (λ t. t.pass) ys
passes_join [] ys = refl
passes_join (x ∷ xs) ys = ap (λ l. x.pass ∷ l) (passes_join xs ys)

-- the first pass, those of the workers, and those of their sessions
pub row_is : {T : Type 0} (zero : T) (own rest : List (Turn T)) (first all : List T) → first ≡ zero ∷ map (λ t. t.pass) own → all ≡ first ++ map (λ t. t.pass) rest → all ≡ zero ∷ map (λ t. t.pass) (own ++ rest)
row_is zero own rest first all first_is all_is = all_is ∙ ap (λ l. l ++ map (λ t. t.pass) rest) first_is ∙ ap (λ l. zero ∷ l) (sym (passes_join own rest))

pub row_size : {T : Type 0} (zero : T) (own : List (Turn T)) (first : List T) → first ≡ zero ∷ map (λ t. t.pass) own → length first ≡ 1 + length own
row_size zero own first is = let m = length-map own (λ t. t.pass) in let size = ap (λ (l : List _). length l) is in omega (arith, m, size)
