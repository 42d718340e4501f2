-- The printed example of document 01 ("The planner's print"), and further files that are accepted.
-- Assumes nothing.
use Rattle.std.specs.Prelude.{◌≡◌, refl, List, [], ◌∷◌}
use Rattle.planfile.proofs.Examples.Evaluation.{Example, example, printed_all}

pub accepted_files : List Example
unfolding example
accepted_files =
    -- the input and the output, whole, as printed
    example
    "plan,fixed,60,100\r\nengine,E1,3000,1000000000\r\nengine,E2,5000,1000000000\r\ndelivery,D1,5000,2\r\ndelivery,D2,3000,2\r\n"
    "found,60,2,3\r\npiece,D1,E1,3000\r\npiece,D1,E2,2000\r\npiece,D2,E2,3000\r\n"
    -- as `shortest`, 120 minutes; the last record lacks its CR LF; engines and deliveries mixed
    ∷ example
    "plan,shortest,120,100\r\ndelivery,D1,5000,2\r\nengine,E1,3000,1000000000\r\ndelivery,D2,3000,2\r\nengine,E2,5000,1000000000"
    "found,60,2,3\r\npiece,D1,E1,3000\r\npiece,D1,E2,2000\r\npiece,D2,E2,3000\r\n"
    -- "Quoted fields mean what RFC 4180 says, so `\"60\"` is 60."; names with a comma, a quote and a space; an engine and a delivery may share a name
    ∷ example
    "\"plan\",\"fixed\",\"60\",\"0\"\r\nengine,\"a,b\",5,9\r\nengine,\"\"\"\",5,9\r\nengine,\" \",5,9\r\ndelivery,\"a,b\",15,4\r\n"
    "found,60,0,3\r\npiece,\"a,b\",\"a,b\",5\r\npiece,\"a,b\",\"\"\"\",5\r\npiece,\"a,b\", ,5\r\n"
    -- a name of 16 quotes, written in 34 bytes
    ∷ example "plan,fixed,60,9\r\nengine,\"\"\"\"\"\"\"\"\"\"\"\"\"\"\"\"\"\"\"\"\"\"\"\"\"\"\"\"\"\"\"\"\"\",5,9\r\ndelivery,D,5,2"
    "found,60,0,1\r\npiece,D,\"\"\"\"\"\"\"\"\"\"\"\"\"\"\"\"\"\"\"\"\"\"\"\"\"\"\"\"\"\"\"\"\"\",5\r\n"
    -- no deliveries
    ∷ example "plan,shortest,60,0\r\nengine,E1,60,1000" "found,1,0,0\r\n"
    -- none and stopped print one line
    ∷ example "plan,fixed,60,100\r\nengine,E1,5,5\r\ndelivery,D1,6,1\r\n" "none,60,0,0\r\n"
    ∷ example "plan,shortest,60,0\r\nengine,E1,5,5\r\ndelivery,D1,5,1\r\n" "stopped,60,0,0\r\n"
    ∷ []

pub accepted_files_print : printed_all accepted_files ≡ accepted_files
unfolding printed_all accepted_files
accepted_files_print = refl
