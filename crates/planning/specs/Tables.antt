-- Lists of numbers by their places, and piece tables as lists.
-- Assumes nothing.
use Rattle.std.specs.Prelude.{ℕ, zero, suc, ◌+◌, ◌*◌, ◌-◌, List, [], ◌∷◌, ◌++◌, length, drop, get_or, replicate}

-- what stands at a place of a list of numbers, 0 past its end
abbrev pub at : List ℕ → ℕ → ℕ
at xs i = get_or xs i 0

-- the list f 0, .., f (n - 1)
unfoldable pub listed : {A : Type 0} → (n : ℕ) → (ℕ → A) → List A
listed zero f = []
listed (suc n) f = f 0 ∷ listed n (λ i. f (suc i))

-- a list made n long with some value, and with zeros
abbrev pub filled : {A : Type 0} → (value : A) → (n : ℕ) → List A → List A
filled value n xs = xs ++ replicate (n - length xs) value

unfoldable pub padded : (n : ℕ) → List ℕ → List ℕ
padded n xs = xs ++ replicate (n - length xs) 0

-- "fills from the front what its plan has, and keeps the others": on numbers the lent list has the plan's own length, so all of it
-- is written
unfoldable pub over_front : {A : Type 0} → (new lent : List A) → List A
over_front new lent = new ++ drop (length new) lent

-- the cell of delivery p and engine i in a table with that many engines: "a row for each delivery"
unfoldable pub cell : (engines p i : ℕ) → ℕ
cell engines p i = p * engines + i

-- the piece of delivery p and engine i in a table of a plan
unfoldable pub piece_in : (engines : ℕ) → List ℕ → (p i : ℕ) → ℕ
piece_in engines table p i = at table (cell engines p i)
