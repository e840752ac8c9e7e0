-- What is printed of an answer. The form is this project's own. The answer of a query of two columns with one row:
--     SELECT 1
--     = x|s
--     - 1|\N
use Rattle.std.specs.Prelude.{ℕ, List, ◌++◌, length, flat_map, codes, decimal}
use Rattle.dw_model.specs.declared.answers.Word.{Word}
use Rattle.dw_model.specs.declared.answers.Word.TheVariants.{Begin, Commit, Rollback, CreateTable, DropTable, LockTable, Insert, Select}
use Rattle.dw_model.specs.declared.answers.Answer.{Answer}
use Rattle.dw_model.specs.declared.answers.Answer.TheVariants.{Rows, Count, Plain}
use Rattle.dw_print.specs.Rows.{names_line, fields_line}

-- the words that the statement begins with
abbrev pub word_text : Word → List ℕ
word_text Begin = codes "BEGIN"
word_text Commit = codes "COMMIT"
word_text Rollback = codes "ROLLBACK"
word_text CreateTable = codes "CREATE TABLE"
word_text DropTable = codes "DROP TABLE"
word_text LockTable = codes "LOCK TABLE"
word_text Insert = codes "INSERT"
word_text Select = codes "SELECT"

-- what is printed of an answer, from its words to the end of its last line; rows are counted, and follow their names
abbrev pub answer_text : Answer → List ℕ
answer_text (Plain word) = word_text word ++ codes "\n"
answer_text (Count word count) = word_text word ++ codes " " ++ decimal count ++ codes "\n"
answer_text (Rows word names rows) =
    word_text word ++ codes " " ++ decimal (length rows) ++ codes "\n" ++ names_line names ++ flat_map fields_line rows
