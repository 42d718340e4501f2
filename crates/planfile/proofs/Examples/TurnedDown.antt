-- Each row of document 01's table "Turned down" with its example, and cases of its "Order" in which two faults meet, by evaluation. Examples/Counts
-- has row 7, Examples/Calls row 9.
-- Assumes nothing.
use Rattle.std.specs.Prelude.{◌≡◌, refl, List, [], ◌∷◌}
use Rattle.planfile.proofs.Examples.Evaluation.{Example, example, printed_all}

pub turned_down : List Example
unfolding example
turned_down =
    -- 1: a file of 0 bytes
    example "" "refused,1,0,0\r\n"
    -- 2: ended by LF only
    ∷ example "plan,fixed,60,9\n" "refused,2,1,0\r\n"
    -- 3: three fields, two, and five
    ∷ example "plan,fixed,60" "refused,3,1,0\r\n"
    ∷ example "plan,fixed" "refused,3,1,0\r\n"
    ∷ example "plan,fixed,60,9," "refused,3,1,0\r\n"
    -- 4: an engine as record 1
    ∷ example "engine,E1,5,5" "refused,4,1,0\r\n"
    -- 5: a second engine E1
    ∷ example "plan,fixed,60,9\r\nengine,E1,5,5\r\nengine,E1,5,5" "refused,5,3,0\r\n"
    -- 6: a leading zero, and a MODE that is no mode
    ∷ example "plan,fixed,060,9" "refused,6,1,0\r\n"
    ∷ example "plan,fast,60,9" "refused,6,1,0\r\n"
    -- 8: a plan alone
    ∷ example "plan,fixed,60,9" "refused,8,0,0\r\n"
    -- 2 before 3 within a record
    ∷ example "plan,fixed,\"6\"0" "refused,2,1,0\r\n"
    -- 3 before 4 within a record
    ∷ example "engine,E1,5" "refused,3,1,0\r\n"
    -- 4 before 5 and 6 within a record: a plan later, whatever its fields hold
    ∷ example "plan,fixed,60,9\r\nengine,E1,60,1000\r\nplan,x,y,z" "refused,4,3,0\r\n"
    -- 5 before 6 within a record
    ∷ example "plan,fixed,60,9\r\nengine,,x,5" "refused,5,2,0\r\n"
    -- 6 before 2 in a later record: the first faulty record decides
    ∷ example "plan,fixed,60,9\r\nengine,E1,x,5\r\nengine,\"E\"2,5,5" "refused,6,2,0\r\n"
    -- 6 before 8: after the last record 8
    ∷ example "plan,fixed,60,x" "refused,6,1,0\r\n"
    -- a record ends at the first CR LF outside quotes: LF alone ends none
    ∷ example "plan,fixed,60,9\r\nengine,E1,60,5\ndelivery,D,1,1\n" "refused,2,2,0\r\n"
    -- an unclosed quote is 2
    ∷ example "plan,fixed,60,9\r\nengine,E1,60,1000\r\ndelivery,\"D,1,1\r\n" "refused,2,3,0\r\n"
    -- a line break in quotes is sound in a record and wrong in a name
    ∷ example "plan,fixed,60,9\r\nengine,\"E\r\n1\",5,5" "refused,5,2,0\r\n"
    -- .. in a first field, and in a number
    ∷ example "plan,fixed,60,9\r\n\"e\r\nngine\",E1,0,5" "refused,4,2,0\r\n"
    ∷ example "plan,fixed,60,9\r\nengine,E1,\"0\n\",5" "refused,6,2,0\r\n"
    -- a byte outside RFC 4180 is 2, in quotes too
    ∷ example "plan,fixed,60,9\r\nengine,\"E\t\",5,5" "refused,2,2,0\r\n"
    -- an empty field is a field: 6 for a number
    ∷ example "plan,fixed,60," "refused,6,1,0\r\n"
    -- 4 for a first field
    ∷ example "plan,fixed,60,9\r\n,E,5,5" "refused,4,2,0\r\n"
    -- a name is compared by its value
    ∷ example "plan,fixed,60,9\r\nengine,E1,60,1000\r\nengine,\"E1\",5,5" "refused,5,3,0\r\n"
    -- a CR LF at the end ends the last record, a second one an empty record
    ∷ example "plan,fixed,60,9\r\nengine,E1,60,1000\r\n\r\n" "refused,3,3,0\r\n"
    -- a file of CR LF alone is one record of one field
    ∷ example "\r\n" "refused,3,1,0\r\n"
    -- a name of 17 bytes
    ∷ example "plan,fixed,60,9\r\nengine,12345678901234567,5,5" "refused,5,2,0\r\n"
    -- .. and one of 17 quotes
    ∷ example "plan,fixed,60,9\r\nengine,\"\"\"\"\"\"\"\"\"\"\"\"\"\"\"\"\"\"\"\"\"\"\"\"\"\"\"\"\"\"\"\"\"\"\"\",5,5" "refused,5,2,0\r\n"
    -- numbers out of range, also beyond machine words
    ∷ example "plan,fixed,0,9" "refused,6,1,0\r\n"
    ∷ example "plan,fixed,10081,9" "refused,6,1,0\r\n"
    ∷ example "plan,fixed,18446744073709551676,9" "refused,6,1,0\r\n"
    ∷ example "plan,fixed,60,9\r\nengine,E1,5000001,5" "refused,6,2,0\r\n"
    ∷ example "plan,fixed,60,9\r\nengine,E1,60,1000\r\ndelivery,D1,0,1" "refused,6,3,0\r\n"
    ∷ example "plan,fixed,60,9\r\nengine,E1,60,1000\r\ndelivery,D1,5,13" "refused,6,3,0\r\n"
    -- spaces, signs and case
    ∷ example "plan,fixed, 60,9" "refused,6,1,0\r\n"
    ∷ example "plan,fixed,+60,9" "refused,6,1,0\r\n"
    ∷ example "Plan,fixed,60,9" "refused,4,1,0\r\n"
    ∷ []

pub turned_down_print : printed_all turned_down ≡ turned_down
unfolding printed_all turned_down
turned_down_print = refl
