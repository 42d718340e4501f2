-- What the definitions make of a file, from input bytes to output bytes, by evaluation.
-- Assumes nothing.
use Rattle.std.specs.Prelude.{ℕ, List, map, Result}
use Prim.Native.String.{String}
use Rattle.rfc4180.specs.Fields.{field_values}
use Rattle.rfc4180.specs.Records.{records}
use Rattle.rfc4180.specs.Text.{ascii}
use Rattle.rfc4180.specs.Writer.{written_file}
use Rattle.planning.specs.declared.Answer.{Answer}
use Rattle.planning.specs.declared.Refusal.{Refusal}
use Rattle.planning.proofs.Examples.Evaluation.{evaluated}
use Rattle.planning.specs.Numbers.{within, engines_of}
use Rattle.planning.specs.Quiet.{spans_of, clear, clear_of, fits}
use Rattle.planning.specs.Refusals.{fault_number}
use Rattle.planfile.specs.FileCall.{FileCall, printed, read_call, answer_by, answer_to_file, on_exit, file_table, file_spare, file_output, program_by}
use Rattle.planfile.specs.FileCall.{program_print}
use Rattle.planfile.specs.FilePlan.{unnamed}
use Rattle.planfile.specs.Numerals.{value_behind, all_digits, number_of, decimal_within, decimal}
use Rattle.planfile.specs.Print.{word_of, piece_line, row_lines, piece_lines, lines_of, answer_lines, print_of, refusal_print}
use Rattle.planfile.specs.Reading.{◌>>=◌, fault, require, same, four_of, unless_broken, fields_of, mode_by, read_mode, number_by, read_number, name_bytes}
use Rattle.planfile.specs.Reading.{sound_name, unused, place_of, read_plan, read_item, read_engine, read_span, read_quiet, read_delivery, record_by}
use Rattle.planfile.specs.Reading.{read_record, read_records, read_texts, read_file}

-- a file and what the program prints for it
pub record Example : Type 0 where
  pub file : List ℕ
  pub print : List ℕ

unfoldable pub example : (file print : String) → Example
unfolding ascii
example file print = record { file = ascii file; print = ascii print }

-- each example of a list is what the definitions make of its file
unfoldable pub printed_all : List Example → List Example
unfolding evaluated engines_of spans_of clear clear_of fits field_values records written_file within fault_number printed program_by program_print unnamed
    value_behind all_digits number_of decimal_within decimal word_of piece_line row_lines piece_lines lines_of answer_lines print_of refusal_print
    ◌>>=◌ fault require same four_of unless_broken fields_of mode_by read_mode number_by read_number name_bytes sound_name unused place_of
    read_plan read_item read_engine read_span read_quiet read_delivery record_by read_record read_records read_texts read_file ascii
printed_all examples = map (λ (e : Example). record { file = e.file; print = program_print e.file }) examples

-- a call with a file, what it returns, and what the lent tables and the output then hold
pub record CallExample : Type 0 where
  pub given : FileCall
  pub answer : Result (Answer × ℕ) Refusal
  pub table : List ℕ
  pub spare : List ℕ
  pub output : List ℕ

-- each example of a list is what the definitions make of its call
unfoldable pub called_all : List CallExample → List CallExample
unfolding printed_all read_call answer_by answer_to_file on_exit file_table file_spare file_output
called_all examples =
    map
    (λ (e : CallExample).
    record {
      given = e.given;
      answer = answer_to_file e.given;
      table = file_table e.given;
      spare = file_spare e.given;
      output = file_output e.given;
    })
    examples
