-- Why the program ends with status 1, and the error line.
use Rattle.std.specs.Prelude.{ℕ, List, codes, string_bytes}
use Rattle.hex_to_txt_run.specs.declared.failure.Failure.{Failure}
use Rattle.hex_to_txt_run.specs.declared.failure.Failure.TheVariants as held

-- why the program ends with status 1
pub data Reason : Type 0 where
  unknown_words : Reason
  unreadable_input : Reason
  not_hexadecimal : Reason
  not_utf8 : Reason
  not_a_pair : (line : List ℕ) → Reason
  unwritable_output : Reason
  no_memory : Reason

-- the line for standard error
abbrev pub line_of : Reason → List ℕ
line_of unknown_words = codes "usage: hex_to_txt flat|text|diag|closed|undiag [prefix]\n"
line_of unreadable_input = codes "cannot read\n"
line_of not_hexadecimal = codes "not hexadecimal\n"
line_of not_utf8 = codes "not UTF-8\n"
line_of (not_a_pair line) = line
line_of unwritable_output = codes "cannot write\n"
line_of no_memory = codes "out of memory\n"

-- the reason, without where its line is in memory
abbrev pub reason_of : {A : Type 0} → Failure A → Reason
reason_of held.UnknownWords = unknown_words
reason_of held.UnreadableInput = unreadable_input
reason_of held.NotHexadecimal = not_hexadecimal
reason_of held.NotUtf8 = not_utf8
reason_of (held.NotAPair line) = not_a_pair (string_bytes line)
reason_of held.UnwritableOutput = unwritable_output
reason_of held.OutOfMemory = no_memory
