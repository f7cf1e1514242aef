-- No hunk is above the last one.
use Rattle.std.proofs.Common.{◌≡◌, ℕ, zero, suc, ◌≤◌, ◌<◌, ◌⊎◌, inl, inr, List, [], ◌∷◌, length, refl, sym, ap, ◌∙◌, arith}
use Rattle.std.specs.Prelude.{replicate, slice_index}
use Rattle.std.specs.Cmp.Lexicographic.{slice_cmp}
use Rattle.std.specs.Ordering.{nat_cmp, ordering_then}
use Rattle.std.specs.declared.cmp.Ordering.{Ordering}
use Rattle.std.specs.declared.cmp.Ordering.TheVariants.{Less, Equal, Greater}
use Rattle.std.proofs.lemmas.Bool.Decides.{nat_tests}
use Rattle.std.proofs.lemmas.Cmp.{tied_itself}
use Rattle.pj_name.specs.declared.name.Name.{Name}
use Rattle.pj_name.specs.Name.{name_cmp}
use Rattle.pj_name.proofs.Names.{name_cmp-total, names_by_bytes}
use Rattle.pj_ranges.specs.declared.range.HunkAt.{HunkAt}
use Rattle.pj_ranges.specs.Units.{hunk_cmp}

-- bytes are below as many bytes of 255, or these
bytes_upto : (n : ℕ) (xs : List ℕ) → length xs ≡ n → ((i : ℕ) → slice_index xs i < 256) → (slice_cmp nat_cmp xs (replicate n 255) ≡ Less) ⊎ (xs ≡ replicate n 255)
bytes_upto zero [] e small = inr refl
bytes_upto zero (x ∷ xs) e small = absurd (omega arith)
bytes_upto (suc n) [] e small = absurd (omega arith)
bytes_upto (suc n) (x ∷ xs) e small = by (nat_cmp x 255) refl (bytes_upto n xs (omega arith) (λ i. small (suc i)))
  where
    by : (o : Ordering) → nat_cmp x 255 ≡ o → (slice_cmp nat_cmp xs (replicate n 255) ≡ Less) ⊎ (xs ≡ replicate n 255)
        → (ordering_then (nat_cmp x 255) (slice_cmp nat_cmp xs (replicate n 255)) ≡ Less) ⊎ (x ∷ xs ≡ 255 ∷ replicate n 255)
    by Less is rest = inl (rw is refl)
    by Greater is rest = absurd (let above : 255 < x = grind (arith, nat_tests) in let low : x < 256 = small 0 in omega arith)
    by Equal is (inl less) = inl (rw is less)
    by Equal is (inr same) = inr (let first : x ≡ 255 = grind (arith, nat_tests) in rw (first, same) refl)

name_upto : (name last : Name) → last.bytes ≡ replicate 32 255 → (name_cmp name last ≡ Less) ⊎ (name ≡ last)
name_upto name last is = by (bytes_upto 32 name.bytes name.whole name.small)
  where
    by : (slice_cmp nat_cmp name.bytes (replicate 32 255) ≡ Less) ⊎ (name.bytes ≡ replicate 32 255) → (name_cmp name last ≡ Less) ⊎ (name ≡ last)
    by (inl less) = inl (rw is less)
    by (inr same) = inr (names_by_bytes name last (same ∙ sym is))

pub hunk_upto : (by last : HunkAt) → last.change.bytes ≡ replicate 32 255 → by.hunk ≤ last.hunk → (hunk_cmp by last ≡ Less) ⊎ (last ≡ by)
hunk_upto at last is h = by (name_upto at.change last.change is) (nat_cmp at.hunk last.hunk) refl
  where
    by : (name_cmp at.change last.change ≡ Less) ⊎ (at.change ≡ last.change) → (o : Ordering) → nat_cmp at.hunk last.hunk ≡ o → (hunk_cmp at last ≡ Less) ⊎ (last ≡ at)
    by (inl less) o f = inl (rw less refl)
    by (inr same) Less f = inl (ap (λ o. ordering_then o (nat_cmp at.hunk last.hunk)) (ap (name_cmp at.change) (sym same) ∙ tied_itself name_cmp-total at.change) ∙ f)
    by (inr same) Equal f = inr (let number : at.hunk ≡ last.hunk = grind (arith, nat_tests) in λ i. record { change = sym same i; hunk = sym number i })
    by (inr same) Greater f = absurd (let above : last.hunk < at.hunk = grind (arith, nat_tests) in omega arith)
