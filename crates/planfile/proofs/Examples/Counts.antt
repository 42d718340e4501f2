-- How many engines and deliveries a file may have, by evaluation: "a 13th engine" is 7, and by document 02, K7, "a 38th is refused by 7 in the
-- file .. 37 are accepted".
-- Assumes nothing.
use Rattle.std.specs.Prelude.{◌≡◌, refl, ℕ, zero, suc, List, [], ◌∷◌, ◌++◌}
use Prim.Native.String.{String}
use Rattle.rfc4180.specs.Text.{ascii}
use Rattle.planfile.proofs.Examples.Evaluation.{Example, printed_all}
use Rattle.planfile.specs.Numerals.{decimal}

-- lines that begin alike, are numbered from 1 to n, and end alike
numbered : (begin end : String) → (n : ℕ) → List ℕ
numbered begin end zero = []
numbered begin end (suc n) = numbered begin end n ++ ascii begin ++ decimal (suc n) ++ ascii end

engines : (n : ℕ) → List ℕ
engines n = numbered "engine,E" ",60,1000\r\n" n

deliveries : (n : ℕ) → List ℕ
deliveries n = numbered "delivery,D" ",1,2\r\n" n

-- a file of record 1 and those records
holding : (records print : List ℕ) → Example
holding records print = record { file = ascii "plan,fixed,60,0\r\n" ++ records; print = print }

pub counts : List Example
unfolding holding engines deliveries numbered ascii decimal
counts =
    -- "Engines number 1 to 12"; 7: 13 engine records
    holding (engines 12) (ascii "found,60,0,0\r\n")
    ∷ holding (engines 13) (ascii "refused,7,14,0\r\n")
    -- 7 before 5 and 6 within a record
    ∷ holding (engines 12 ++ ascii "engine,E1,x,y") (ascii "refused,7,14,0\r\n")
    ∷ holding (engines 1 ++ deliveries 37 ++ ascii "delivery,D1,x,y") (ascii "refused,7,40,0\r\n")
    -- "37 are accepted"
    ∷ holding (engines 1 ++ deliveries 37) (ascii "found,60,0,37\r\n" ++ numbered "piece,D" ",E1,1\r\n" 37)
    -- "a 38th is refused by 7", at its own record, however many follow it
    ∷ holding (engines 1 ++ deliveries 38) (ascii "refused,7,40,0\r\n")
    ∷ holding (engines 1 ++ deliveries 39) (ascii "refused,7,40,0\r\n")
    ∷ holding (engines 1 ++ deliveries 64) (ascii "refused,7,40,0\r\n")
    ∷ holding (engines 1 ++ deliveries 65) (ascii "refused,7,40,0\r\n")
    ∷ []

pub counts-print : printed_all counts ≡ counts
unfolding printed_all counts
counts-print = refl
