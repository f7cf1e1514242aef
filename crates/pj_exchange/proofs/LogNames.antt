-- A log is of one list of names.
use Rattle.std.proofs.Common.{◌≡◌, ◌≢◌, ℕ, ◌<◌, List, [], ◌∷◌, ◌++◌, length, get_or, refl, sym, ◌∙◌, ap, arith, append_assoc, length-append}
use Rattle.std.specs.Prelude.{AllPairs}
use Rattle.std.proofs.lemmas.List.{get_or-map, length-map}
use Rattle.pj_name.specs.declared.name.Name.{Name}
use Rattle.pj_name.specs.Name.{hex}
use Rattle.pj_name.proofs.Names.{hex-injective, length-hex}
use Rattle.pj_change.specs.declared.change.Record.{Record}
use Rattle.pj_change.specs.Lawful.{IsLawful}
use Rattle.pj_change.proofs.DistinctRecords.{lawful_distinct}
use Rattle.pj_machine.specs.Listings.{log_text}
use Rattle.pj_scan.proofs.Fronts.{same_fronts}
use Rattle.pj_exchange.proofs.Replies.{names_of}

-- two logs with the same bytes have the same names
pub one_log : (ms ns : List Name) → log_text ms ≡ log_text ns → ms ≡ ns
one_log [] [] e = refl
one_log [] (n ∷ ns) e = absurd (let size : 0 ≡ length (log_text (n ∷ ns)) = ap (λ (l : List ℕ). length l) e in let h = length-append
    (hex n.bytes ++ 10 ∷ []) (log_text ns) in let k = length-append (hex n.bytes) (10 ∷ []) in omega arith)
one_log (m ∷ ms) [] e = absurd (let size : length (log_text (m ∷ ms)) ≡ 0 = ap (λ (l : List ℕ). length l) e in let h = length-append
    (hex m.bytes ++ 10 ∷ []) (log_text ms) in let k = length-append (hex m.bytes) (10 ∷ []) in omega arith)
one_log (m ∷ ms) (n ∷ ns) e =
    let whole : hex m.bytes ++ (10 ∷ [] ++ log_text ms) ≡ hex n.bytes ++ (10 ∷ [] ++ log_text ns) =
    sym (append_assoc (hex m.bytes) (10 ∷ []) (log_text ms)) ∙ e ∙ append_assoc (hex n.bytes) (10 ∷ []) (log_text ns) in
    let same = same_fronts (hex m.bytes) (hex n.bytes) (10 ∷ log_text ms) (10 ∷ log_text ns) whole (length-hex m ∙ sym (length-hex n)) in
    let first = hex-injective m n same.0 in
    let rest : log_text ms ≡ log_text ns = cc (same.1) in
    (λ i. first i ∷ one_log ms ns rest i)

-- the names of a lawful list are distinct
pub distinct_names : (list : List Record) → IsLawful list → AllPairs (λ m n. m ≢ n) (names_of list)
distinct_names list lawful i j d less low e =
    go list refl
  where
    at : (r : Record) (k : ℕ) → k < length list → get_or (names_of list) k d ≡ (get_or list k r).name
    at r k short = get_or-map (λ (q : Record). q.name) list k r d short

    go : (rs : List Record) → list ≡ rs → ⊥
    go [] is = (let empty : length list ≡ 0 = ap (λ (l : List Record). length l) is in let size = length-map list (λ (q : Record). q.name) in omega arith)
    go (r ∷ rs) is =
        let size = length-map list (λ (q : Record). q.name) in
        lawful_distinct list lawful i j r less (omega arith) (sym (at r i (omega arith)) ∙ e ∙ at r j (omega arith))
