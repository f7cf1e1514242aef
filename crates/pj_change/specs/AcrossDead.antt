-- Paths over things of which some are dead, and what joins the live ones among them.

-- a path of one or more steps leads from u to v
pub data IsPath {X : Type 0} (Step : X → X → Type 0) : X → X → Type 0 where
  one : {u v : X} → Step u v → IsPath Step u v
  more : {u v w : X} → Step u v → IsPath Step v w → IsPath Step u w

-- a path of steps leads from u to v, and what stands between its ends is dead, if anything does
pub data IsAcross {X : Type 0} (Step : X → X → Type 0) (Dead : X → Type 0) : X → X → Type 0 where
  straight : {u v : X} → Step u v → IsAcross Step Dead u v
  over : {u v w : X} → Step u v → Dead v → IsAcross Step Dead v w → IsAcross Step Dead u w

-- a step between two live things
abbrev pub IsAmong : {X : Type 0} → (X → Type 0) → (X → X → Type 0) → X → X → Type 0
IsAmong Live Step u v = Live u × Live v × Step u v
