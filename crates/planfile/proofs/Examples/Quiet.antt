-- Quiet hours in a file (document 02, K1): records `quiet,ENGINE,FROM,TO`, and each way to be turned down by 10 and 11, by evaluation.
-- Assumes nothing.
use Rattle.std.specs.Prelude.{◌≡◌, refl, List, [], ◌∷◌, ◌++◌}
use Prim.Native.String.{String}
use Rattle.rfc4180.specs.Text.{ascii}
use Rattle.planfile.proofs.Examples.Evaluation.{Example, example, printed_all}

-- a file in which eight spans of engine E1 stand before and behind other records
unfoldable pub behind_eight : (before behind print : String) → Example
unfolding ascii
behind_eight before behind print =
    let rows = ascii "quiet,E1,0,1\r\nquiet,E1,2,3\r\nquiet,E1,4,5\r\nquiet,E1,6,7\r\nquiet,E1,8,9\r\nquiet,E1,10,11\r\nquiet,E1,12,13\r\nquiet,E1,14,15\r\n" in
    record { file = ascii before ++ rows ++ ascii behind; print = ascii print }

pub quiet_files : List Example
unfolding example behind_eight
quiet_files =
    -- minutes 0 to 29 are quiet, 30 to 59 run
    example "plan,fixed,60,9\r\nengine,E1,60,1000\r\nquiet,E1,0,30\r\ndelivery,D,30,1\r\n" "found,60,1,1\r\npiece,D,E1,30\r\n"
    ∷ example "plan,fixed,60,9\r\nengine,E1,60,1000\r\nquiet,E1,0,30\r\ndelivery,D,31,1\r\n" "none,60,0,0\r\n"
    -- behind its engine anywhere, "in any mixture", touching the one before
    ∷ example "plan,fixed,60,9\r\nengine,E1,60,1000\r\ndelivery,D,20,1\r\nquiet,E1,30,60\r\nengine,E2,60,5\r\nquiet,E1,20,30"
    "found,60,1,1\r\npiece,D,E1,20\r\n"
    -- an engine by its value, in quotes or not; a name that holds a comma and a quote
    ∷ example "plan,fixed,60,9\r\nengine,E1,60,1000\r\nquiet,\"E1\",\"0\",\"30\"\r\ndelivery,D,31,1\r\n" "none,60,0,0\r\n"
    ∷ example "plan,fixed,60,9\r\nengine,\"a,\"\"b\",60,1000\r\nquiet,\"a,\"\"b\",30,90\r\ndelivery,D,30,1\r\n" "found,60,1,1\r\npiece,D,\"a,\"\"b\",30\r\n"
    -- an engine wholly quiet is closed; a span beyond MINUTES takes nothing
    ∷ example "plan,fixed,60,9\r\nengine,E1,60,1000\r\nengine,E2,60,1000\r\nquiet,E1,0,10080\r\nquiet,E2,60,10080\r\ndelivery,D,60,1\r\n"
    "found,60,1,1\r\npiece,D,E2,60\r\n"
    -- the shortest time, just behind a span and before it
    ∷ example "plan,shortest,20,9\r\nengine,E1,60,1000\r\nquiet,E1,5,10\r\ndelivery,D,6,1\r\n" "found,11,1,1\r\npiece,D,E1,6\r\n"
    ∷ example "plan,shortest,20,9\r\nengine,E1,60,1000\r\nquiet,E1,5,10\r\ndelivery,D,5,1\r\n" "found,5,1,1\r\npiece,D,E1,5\r\n"
    -- eight spans of one engine and one of another
    ∷ behind_eight "plan,fixed,60,9\r\nengine,E1,60,1000\r\nengine,E2,60,1000\r\n" "quiet,E2,0,1\r\ndelivery,D,53,1\r\n" "found,60,1,1\r\npiece,D,E2,53\r\n"
    -- 10: "the named engine isn't earlier in the file": nowhere, later, a delivery's name
    ∷ example "plan,fixed,60,9\r\nengine,E1,60,1000\r\nquiet,E2,0,5" "refused,10,3,0\r\n"
    ∷ example "plan,fixed,60,9\r\nquiet,E1,0,5\r\nengine,E1,60,1000\r\n" "refused,10,2,0\r\n"
    ∷ example "plan,fixed,60,9\r\nengine,E1,60,1000\r\ndelivery,D,1,1\r\nquiet,D,0,5" "refused,10,4,0\r\n"
    -- "in the place of 5": a name against the name rule is nobody's, and 10 comes before 6
    ∷ example "plan,fixed,60,9\r\nengine,E1,60,1000\r\nquiet,,0,5" "refused,10,3,0\r\n"
    ∷ example "plan,fixed,60,9\r\nengine,E1,60,1000\r\nquiet,12345678901234567,0,5" "refused,10,3,0\r\n"
    ∷ example "plan,fixed,60,9\r\nengine,E1,60,1000\r\nquiet,X,y,5" "refused,10,3,0\r\n"
    -- 6: FROM, TO
    ∷ example "plan,fixed,60,9\r\nengine,E1,60,1000\r\nquiet,E1,x,5" "refused,6,3,0\r\n"
    ∷ example "plan,fixed,60,9\r\nengine,E1,60,1000\r\nquiet,E1,05,6" "refused,6,3,0\r\n"
    ∷ example "plan,fixed,60,9\r\nengine,E1,60,1000\r\nquiet,E1,0,10081" "refused,6,3,0\r\n"
    ∷ example "plan,fixed,60,9\r\nengine,E1,60,1000\r\nquiet,E1,0," "refused,6,3,0\r\n"
    -- 11: "FROM is not below TO"
    ∷ example "plan,fixed,60,9\r\nengine,E1,60,1000\r\nquiet,E1,5,5" "refused,11,3,0\r\n"
    ∷ example "plan,fixed,60,9\r\nengine,E1,60,1000\r\nquiet,E1,10080,10080" "refused,11,3,0\r\n"
    -- "the span overlaps an earlier one of that engine", not the last one alone
    ∷ example "plan,fixed,60,9\r\nengine,E1,60,1000\r\nquiet,E1,0,10\r\nquiet,E1,20,30\r\nquiet,E1,9,12" "refused,11,5,0\r\n"
    -- "or it is the ninth"
    ∷ behind_eight "plan,fixed,60,9\r\nengine,E1,60,1000\r\n" "quiet,E1,100,101" "refused,11,11,0\r\n"
    -- 11 "after all fields", so 6 before it
    ∷ example "plan,fixed,60,9\r\nengine,E1,60,1000\r\nquiet,E1,0,10\r\nquiet,E1,5,x" "refused,6,4,0\r\n"
    -- 4: a quiet record as record 1; 3: three fields
    ∷ example "quiet,E1,0,5\r\nengine,E1,60,1000\r\n" "refused,4,1,0\r\n"
    ∷ example "plan,fixed,60,9\r\nengine,E1,60,1000\r\nquiet,E1,0" "refused,3,3,0\r\n"
    -- the first faulty record decides: 11 before 2 of a later one
    ∷ example "plan,fixed,60,9\r\nengine,E1,60,1000\r\nquiet,E1,5,5\r\nengine,\"E\"2,5,5" "refused,11,3,0\r\n"
    ∷ []

pub quiet_files_print : printed_all quiet_files ≡ quiet_files
unfolding printed_all quiet_files
quiet_files_print = refl
