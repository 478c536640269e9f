-- The weights of a matrix of values, and the class that they give. A matrix has a list of values for each vertex, 0 to k, with
-- one value for each row, 0 to k - 1.
use Rattle.std.specs.Prelude.{◌≡◌, ℕ, ◌+◌, ◌<◌, ◌≤◌, List, [], length, ℤ, pos, ◌*ℤ◌, ◌<ℤ◌, slice_index_or}
use Rattle.grid.specs.Sums.{sum_below}
use Rattle.crossing.specs.declared.classes.Class.{Class}
use Rattle.crossing.specs.declared.classes.Class.TheVariants.{Crossed, Clear, Degenerate}

abbrev pub Matrix : Type 0
Matrix = List (List ℤ)

-- the value of row r at vertex i
abbrev pub value : Matrix → ℕ → ℕ → ℤ
value v i r = slice_index_or (slice_index_or v i []) r (pos 0)

abbrev pub entry : List ℤ → ℕ → ℤ
entry w i = slice_index_or w i (pos 0)

-- the same values at the vertices 0 to k, in the rows 0 to k - 1
abbrev pub Agree : ℕ → Matrix → Matrix → Type 0
Agree k v u = (i r : ℕ) → i ≤ k → r < k → value v i r ≡ value u i r

-- one whole number for each vertex, such that in every row the sum of weight times value is 0
pub record IsWeights (k : ℕ) (v : Matrix) (w : List ℤ) : Type 0 where
  pub long : length w ≡ k + 1
  pub rows : (r : ℕ) → r < k → sum_below (λ i. entry w i *ℤ value v i r) (k + 1) ≡ pos 0

abbrev pub Proportional : ℕ → List ℤ → List ℤ → Type 0
Proportional k w u = (i j : ℕ) → i ≤ k → j ≤ k → entry w i *ℤ entry u j ≡ entry w j *ℤ entry u i

abbrev pub AllProportional : ℕ → Matrix → Type 0
AllProportional k v = (w u : List ℤ) → IsWeights k v w → IsWeights k v u → Proportional k w u

-- all weights are proportional, and some are all above 0
pub record IsCrossed (k : ℕ) (v : Matrix) : Type 0 where
  pub same : AllProportional k v
  pub weights : List ℤ
  pub weigh : IsWeights k v weights
  pub above : (i : ℕ) → i ≤ k → pos 0 <ℤ entry weights i

-- all weights are proportional, and some have an entry above 0 and an entry below 0
pub record IsClear (k : ℕ) (v : Matrix) : Type 0 where
  pub same : AllProportional k v
  pub weights : List ℤ
  pub weigh : IsWeights k v weights
  pub up : ℕ
  pub up_in : up ≤ k
  pub above : pos 0 <ℤ entry weights up
  pub down : ℕ
  pub down_in : down ≤ k
  pub below : entry weights down <ℤ pos 0

-- neither
pub record IsDegenerate (k : ℕ) (v : Matrix) : Type 0 where
  pub not_crossed : IsCrossed k v → ⊥
  pub not_clear : IsClear k v → ⊥

abbrev pub IsClass : Class → ℕ → Matrix → Type 0
IsClass Crossed k v = IsCrossed k v
IsClass Clear k v = IsClear k v
IsClass Degenerate k v = IsDegenerate k v

-- the weights give the class c, and no other
pub record Given (k : ℕ) (v : Matrix) (c : Class) : Type 0 where
  pub is : IsClass c k v
  pub only : (e : Class) → IsClass e k v → e ≡ c
