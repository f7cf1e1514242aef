-- One more edge is put into its chain.
use Rattle.std.proofs.Common.{◌≡◌, ◌≢◌, ℕ, ◌+◌, ◌<◌, Option, Some, None, List, [], ◌∷◌, ◌++◌, length, get_or, set, sym, ◌∙◌, ap, subst, inl, inr, arith}
use Rattle.std.proofs.lemmas.Bool.{cases_lt, cases_eq}
use Rattle.std.proofs.lemmas.List.{get_or_append_left, get_or_push, get_or_read, get_or-set_same, get_or-set_other, length-set, length_push}
use Rattle.pj_reach.specs.Links.{source, IsLastLeaving, IsLinked}

-- the first edges are in their chains
pub record Links (size : ℕ) (edges : List (ℕ × ℕ)) (done : ℕ) (last earlier : List (Option ℕ)) : Type 0 where
  pub last_len : length last ≡ size
  pub earlier_len : length earlier ≡ done
  pub last_is : (v : ℕ) → v < size → IsLastLeaving edges v done (get_or last v None)
  pub earlier_is : (e : ℕ) → e < done → IsLastLeaving edges (source edges e) e (get_or earlier e None)

module _ (size : ℕ) (edges : List (ℕ × ℕ)) (done : ℕ) (last earlier : List (Option ℕ)) (so_far : Links size edges done last earlier) where
  -- an edge that leaves another vertex is no link of v
  same_link : (v : ℕ) → v ≢ source edges done → (link : Option ℕ) → IsLastLeaving edges v done link → IsLastLeaving edges v (done + 1) link
  same_link v other None is = record {
    is_one = tt;
    is_last = λ e h from. elim (cases_lt e done) [
      | inl before ↦ is.is_last e before from
      | inr past ↦ absurd (other (sym from ∙ ap (source edges) (let at : e ≡ done = omega arith in at)))
    ];
  }
  same_link v other (Some f) is = record {
    is_one = (omega (arith, is.is_one.0), is.is_one.1);
    is_last = λ e h from. elim (cases_lt e done) [
      | inl before ↦ is.is_last e before from
      | inr past ↦ absurd (other (sym from ∙ ap (source edges) (let at : e ≡ done = omega arith in at)))
    ];
  }

  pub one_more_link : source edges done < size → Links size edges (done + 1) (set last (source edges done) (Some done)) (earlier ++ get_or last (source edges done) None ∷ [])
  one_more_link s_in = record {
    last_len = length-set last (source edges done) (Some done) ∙ so_far.last_len;
    earlier_len = length_push earlier (get_or last (source edges done) None) ∙ ap (λ k. k + 1) so_far.earlier_len;
    last_is = λ v v_in. elim (cases_eq v (source edges done)) [
      | inl same ↦
          let here : get_or (set last (source edges done) (Some done)) v None ≡ Some done =
          ap (λ x. get_or (set last (source edges done) (Some done)) x None) same ∙ get_or-set_same last (source edges done) (Some done) None (omega (arith, s_in, so_far.last_len)) in
          subst (λ (o : Option ℕ). IsLastLeaving edges v (done + 1) o) (sym here) (record { is_one = (omega arith, sym same); is_last = λ e h from. omega (arith, h) })
      | inr other ↦ subst (λ (o : Option ℕ). IsLastLeaving edges v (done + 1) o) (sym (get_or-set_other last (source edges done) v (Some done) None other)) (same_link v other (get_or last v None) (so_far.last_is v v_in))
    ];
    earlier_is = λ e h. elim (cases_lt e done) [
      | inl before ↦ subst (λ (o : Option ℕ). IsLastLeaving edges (source edges e) e o) (sym (get_or_append_left earlier (get_or last (source edges done) None ∷ []) None e (omega (arith, before, so_far.earlier_len)))) (so_far.earlier_is e before)
      | inr past ↦
          let at : done ≡ e = omega arith in
          subst (λ k. IsLastLeaving edges (source edges k) k (get_or (earlier ++ get_or last (source edges done) None ∷ []) k None)) at
          (subst (λ (o : Option ℕ). IsLastLeaving edges (source edges done) done o) (sym (get_or_push earlier (get_or last (source edges done) None) None done so_far.earlier_len)) (so_far.last_is (source edges done) s_in))
    ];
  }

-- the link that is read behind an edge
pub link_read : (size : ℕ) (edges : List (ℕ × ℕ)) (last earlier : List (Option ℕ)) (e : ℕ) (read : Option ℕ) → IsLinked size edges last earlier → e < length edges → read ≡ get_or earlier e read → IsLastLeaving edges (source edges e) e read
link_read size edges last earlier e read linked e_in is =
    subst (λ (o : Option ℕ). IsLastLeaving edges (source edges e) e o) (sym (get_or_read earlier e read (omega (arith, e_in, linked.earlier_len)) is None)) (linked.earlier_is e e_in)
