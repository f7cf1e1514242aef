-- Statuses in small sets, computed. A inserts six bytes into a new file; D and E each delete them; M inserts one between them;
-- R, which knows M, takes the place of D; S revives what D deleted.
use Rattle.std.proofs.Common.{◌≡◌, [], ◌∷◌, false}
use Rattle.pj_name.specs.Name.{same_name}
use Rattle.pj_change.specs.declared.point.Ref.TheVariants.{Root, At}
use Rattle.pj_change.specs.declared.hunk.Hunk.TheVariants.{File, Insert, Delete, Revive}
use Rattle.pj_change.specs.declared.graph.Status.TheVariants.{Alive, Dead, Zombie}
use Rattle.pj_change.specs.declared.change.Record.{Record}
use Rattle.pj_change.specs.Positions.{kind_from}
use Rattle.pj_change.specs.Status.{status_of}
use Rattle.pj_change.proofs.EqualNames.{name_itself}
use Rattle.pj_change.specs.Contested.{opposes}
use Rattle.pj_change.proofs.Statuses.{point}

-- the sample changes, for whichever texts they have
pub record Samples (A D E M R S : Record) : Type 0 where
  a_needs : A.change.needs ≡ []
  a_knows : A.change.knows ≡ []
  a_hunks : A.change.hunks ≡ File Root (97 ∷ []) false ∷ Insert (At 0 1) (At 0 1 ∷ []) [] (111 ∷ 110 ∷ 101 ∷ 10 ∷ 116 ∷ 119 ∷ []) ∷ []
  d_needs : D.change.needs ≡ A.name ∷ []
  d_knows : D.change.knows ≡ []
  d_hunks : D.change.hunks ≡ Delete 1 2 8 (1 ∷ []) ∷ []
  e_needs : E.change.needs ≡ A.name ∷ []
  e_knows : E.change.knows ≡ []
  e_hunks : E.change.hunks ≡ Delete 1 2 8 (1 ∷ []) ∷ []
  m_needs : M.change.needs ≡ A.name ∷ []
  m_knows : M.change.knows ≡ []
  m_hunks : M.change.hunks ≡ Insert (At 1 1) (At 1 3 ∷ []) (At 1 4 ∷ []) (88 ∷ []) ∷ []
  r_needs : R.change.needs ≡ A.name ∷ D.name ∷ []
  r_knows : R.change.knows ≡ M.name ∷ []
  r_hunks : R.change.hunks ≡ Delete 1 2 8 (2 ∷ []) ∷ []
  s_needs : S.change.needs ≡ A.name ∷ D.name ∷ []
  s_knows : S.change.knows ≡ []
  s_hunks : S.change.hunks ≡ Revive 1 2 8 (2 ∷ []) ∷ []
  a_not_d : same_name A.name D.name ≡ false
  a_not_e : same_name A.name E.name ≡ false
  a_not_m : same_name A.name M.name ≡ false
  a_not_r : same_name A.name R.name ≡ false
  a_not_s : same_name A.name S.name ≡ false
  d_not_a : same_name D.name A.name ≡ false
  d_not_m : same_name D.name M.name ≡ false
  d_not_e : same_name D.name E.name ≡ false
  d_not_r : same_name D.name R.name ≡ false
  d_not_s : same_name D.name S.name ≡ false
  e_not_a : same_name E.name A.name ≡ false
  e_not_d : same_name E.name D.name ≡ false
  m_not_a : same_name M.name A.name ≡ false
  m_not_d : same_name M.name D.name ≡ false
  m_not_r : same_name M.name R.name ≡ false
  r_not_a : same_name R.name A.name ≡ false
  r_not_d : same_name R.name D.name ≡ false
  s_not_a : same_name S.name A.name ≡ false
  s_not_d : same_name S.name D.name ≡ false
  s_not_e : same_name S.name E.name ≡ false

module _ (A D E M R S : Record) (is : Samples A D E M R S) where
  -- where D deletes them, the bytes are dead
  pub deleted_first : status_of (A ∷ D ∷ []) (point A.name 2) ≡ Dead
  unfolding status_of kind_from opposes
  deleted_first = simp (is.a_needs, is.a_knows, is.a_hunks, is.d_needs, is.d_knows, is.d_hunks, is.a_not_d, is.d_not_a, name_itself)

  pub deleted_last : status_of (A ∷ D ∷ []) (point A.name 7) ≡ Dead
  unfolding status_of kind_from opposes
  deleted_last = simp (is.a_needs, is.a_knows, is.a_hunks, is.d_needs, is.d_knows, is.d_hunks, is.a_not_d, is.d_not_a, name_itself)

  -- where D and M do not know of each other, they are zombies
  pub contested_first : status_of (A ∷ D ∷ M ∷ []) (point A.name 2) ≡ Zombie
  unfolding status_of kind_from opposes
  contested_first = simp (is.a_needs, is.a_knows, is.a_hunks, is.d_needs, is.d_knows, is.d_hunks, is.m_needs, is.m_knows, is.m_hunks, is.a_not_d, is.a_not_m, is.d_not_a, is.m_not_a, is.m_not_d, name_itself)

  pub contested_last : status_of (A ∷ D ∷ M ∷ []) (point A.name 7) ≡ Zombie
  unfolding status_of kind_from opposes
  contested_last = simp (is.a_needs, is.a_knows, is.a_hunks, is.d_needs, is.d_knows, is.d_hunks, is.m_needs, is.m_knows, is.m_hunks, is.a_not_d, is.a_not_m, is.d_not_a, is.m_not_a, is.m_not_d, name_itself)

  -- what M inserted stays alive
  pub contested_insertion : status_of (A ∷ D ∷ M ∷ []) (point M.name 0) ≡ Alive
  unfolding status_of kind_from opposes
  contested_insertion = simp (is.a_needs, is.a_knows, is.a_hunks, is.d_needs, is.d_knows, is.d_hunks, is.m_needs, is.m_knows, is.m_hunks, is.a_not_d, is.a_not_m, is.d_not_a, is.m_not_a, is.m_not_d, name_itself)

  -- D and E delete them alike
  pub deleted_twice_first : status_of (A ∷ D ∷ E ∷ []) (point A.name 2) ≡ Dead
  unfolding status_of kind_from opposes
  deleted_twice_first = simp (is.a_needs, is.a_knows, is.a_hunks, is.d_needs, is.d_knows, is.d_hunks, is.e_needs, is.e_knows, is.e_hunks, is.a_not_d, is.a_not_e, is.d_not_a, is.d_not_e, is.e_not_a, is.e_not_d, name_itself)

  pub deleted_twice_last : status_of (A ∷ D ∷ E ∷ []) (point A.name 7) ≡ Dead
  unfolding status_of kind_from opposes
  deleted_twice_last = simp (is.a_needs, is.a_knows, is.a_hunks, is.d_needs, is.d_knows, is.d_hunks, is.e_needs, is.e_knows, is.e_hunks, is.a_not_d, is.a_not_e, is.d_not_a, is.d_not_e, is.e_not_a, is.e_not_d, name_itself)

  -- R knows M, and its deletion alone survives
  pub settled_first : status_of (A ∷ D ∷ M ∷ R ∷ []) (point A.name 2) ≡ Dead
  unfolding status_of kind_from opposes
  settled_first = simp (is.a_needs, is.a_knows, is.a_hunks, is.d_needs, is.d_knows, is.d_hunks, is.m_needs, is.m_knows, is.m_hunks, is.r_needs, is.r_knows, is.r_hunks, is.a_not_d, is.a_not_m, is.a_not_r, is.d_not_a, is.d_not_r, is.m_not_a, is.m_not_d, is.m_not_r, is.r_not_a, is.r_not_d, is.d_not_m, name_itself)

  pub settled_last : status_of (A ∷ D ∷ M ∷ R ∷ []) (point A.name 7) ≡ Dead
  unfolding status_of kind_from opposes
  settled_last = simp (is.a_needs, is.a_knows, is.a_hunks, is.d_needs, is.d_knows, is.d_hunks, is.m_needs, is.m_knows, is.m_hunks, is.r_needs, is.r_knows, is.r_hunks, is.a_not_d, is.a_not_m, is.a_not_r, is.d_not_a, is.d_not_r, is.m_not_a, is.m_not_d, is.m_not_r, is.r_not_a, is.r_not_d, is.d_not_m, name_itself)

  -- what M inserted stays alive
  pub settled_insertion : status_of (A ∷ D ∷ M ∷ R ∷ []) (point M.name 0) ≡ Alive
  unfolding status_of kind_from opposes
  settled_insertion = simp (is.a_needs, is.a_knows, is.a_hunks, is.d_needs, is.d_knows, is.d_hunks, is.m_needs, is.m_knows, is.m_hunks, is.r_needs, is.r_knows, is.r_hunks, is.a_not_d, is.a_not_m, is.a_not_r, is.d_not_a, is.d_not_r, is.m_not_a, is.m_not_d, is.m_not_r, is.r_not_a, is.r_not_d, is.d_not_m, name_itself)

  -- S revives them
  pub revived_first : status_of (A ∷ D ∷ S ∷ []) (point A.name 2) ≡ Alive
  unfolding status_of kind_from opposes
  revived_first = simp (is.a_needs, is.a_knows, is.a_hunks, is.d_needs, is.d_knows, is.d_hunks, is.s_needs, is.s_knows, is.s_hunks, is.a_not_d, is.a_not_s, is.d_not_a, is.d_not_s, is.s_not_a, is.s_not_d, name_itself)

  pub revived_last : status_of (A ∷ D ∷ S ∷ []) (point A.name 7) ≡ Alive
  unfolding status_of kind_from opposes
  revived_last = simp (is.a_needs, is.a_knows, is.a_hunks, is.d_needs, is.d_knows, is.d_hunks, is.s_needs, is.s_knows, is.s_hunks, is.a_not_d, is.a_not_s, is.d_not_a, is.d_not_s, is.s_not_a, is.s_not_d, name_itself)

  -- S revives what D deleted, and E deletes it still
  pub half_revived_first : status_of (A ∷ D ∷ E ∷ S ∷ []) (point A.name 2) ≡ Zombie
  unfolding status_of kind_from opposes
  half_revived_first = simp (is.a_needs, is.a_knows, is.a_hunks, is.d_needs, is.d_knows, is.d_hunks, is.e_needs, is.e_knows, is.e_hunks, is.s_needs, is.s_knows, is.s_hunks, is.a_not_d, is.a_not_e, is.a_not_s, is.d_not_a, is.d_not_e, is.d_not_s, is.e_not_a, is.e_not_d, is.s_not_a, is.s_not_d, is.s_not_e, name_itself)

  pub half_revived_last : status_of (A ∷ D ∷ E ∷ S ∷ []) (point A.name 7) ≡ Zombie
  unfolding status_of kind_from opposes
  half_revived_last = simp (is.a_needs, is.a_knows, is.a_hunks, is.d_needs, is.d_knows, is.d_hunks, is.e_needs, is.e_knows, is.e_hunks, is.s_needs, is.s_knows, is.s_hunks, is.a_not_d, is.a_not_e, is.a_not_s, is.d_not_a, is.d_not_e, is.d_not_s, is.e_not_a, is.e_not_d, is.s_not_a, is.s_not_d, is.s_not_e, name_itself)
