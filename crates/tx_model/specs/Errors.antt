-- The texts of errors. *TeX: The Program*, part 6.
use Rattle.std.specs.Prelude.{ℕ, ℤ, List, ◌++◌}
use Rattle.std.specs.Fmt.{decimal}
use lib.Chars.{codes}
use Rattle.tx_model.specs.declared.error.Error.{Error}
use Rattle.tx_model.specs.declared.error.Error.TheVariants.{UndefinedControlSequence, InvalidCharacter, TooManyRightBraces, EndedInGroup, NotBuilt}
use Rattle.tx_model.specs.Log.{log_line}

abbrev pub error_text : Error → List ℕ
error_text UndefinedControlSequence = codes "Undefined control sequence."
error_text InvalidCharacter = codes "Text line contains an invalid character."
error_text TooManyRightBraces = codes "Too many }'s."
error_text (EndedInGroup n) = codes "Region ended inside a group at level " ++ decimal n ++ codes "."
error_text NotBuilt = codes "This command is not built yet."

-- the two lines of an error: its text, and the number of its line
abbrev pub error_lines : ℤ → Error → ℕ → List ℕ
error_lines newline_char error number =
    log_line newline_char (codes "! " ++ error_text error) ++ log_line newline_char (codes "l." ++ decimal number)
