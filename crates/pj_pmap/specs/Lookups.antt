-- What a look-up finds, as facts about the pairs.
use Rattle.std.specs.Prelude.{◌≡◌, false, List, [], ◌++◌, Contains, Option}
use Rattle.std.specs.Ordering.{is_lt}
use Rattle.std.specs.declared.cmp.Ordering.{Ordering}
use Rattle.std.specs.declared.cmp.Ordering.TheVariants.{Less}
use Rattle.pj_pmap.specs.Pairs.{first_of}

module _ {K V : Type 0} (cmp : K → K → Ordering) where
  -- the pair is there, not above k, and no other that is not above k is above it
  pub record IsFloor (k : K) (es : List (K × V)) (p : K × V) : Type 0 where
    pub found : Contains es p
    pub low : is_lt (cmp k p.0) ≡ false
    pub last : (q : K × V) → Contains es q → is_lt (cmp k q.0) ≡ false → is_lt (cmp p.0 q.0) ≡ false

  -- the pair is there, above k, and no other that is above k is below it
  pub record IsNext (k : K) (es : List (K × V)) (p : K × V) : Type 0 where
    pub found : Contains es p
    pub above : cmp k p.0 ≡ Less
    pub first : (q : K × V) → Contains es q → cmp k q.0 ≡ Less → is_lt (cmp q.0 p.0) ≡ false

-- a run begins a list, and is empty only where the list is
pub record IsRunOf {P : Type 0} (all run : List P) : Type 0 where
  pub rest : List P
  pub is : all ≡ run ++ rest
  pub some : run ≡ [] → rest ≡ []

-- a run stands in a list, with pairs before it and pairs after it
pub record IsStretch {P : Type 0} (all run : List P) : Type 0 where
  pub before : List P
  pub after : List P
  pub is : all ≡ before ++ (run ++ after)

-- a walk has given the pairs so far, and the next one, if there is one
pub record IsWalked {P : Type 0} (all so_far : List P) (next : Option P) : Type 0 where
  pub rest : List P
  pub is : all ≡ so_far ++ rest
  pub begins : next ≡ first_of rest
