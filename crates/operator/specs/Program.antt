-- What the program reads, and what it prints of its input. Only contracts of functions within the program cite these.
--
-- told        — what a call of a reader or a writer gave, as an answer: the bytes that it moved, or the system's number of its error; 0 where it has none
-- AllCame     — of a reader whose bytes are known: where reading came to an end, the bytes read are the next ones that it had, all or as many as have room
-- lines_after — the lines that are printed once reading has ended so: the report of the bytes that were read, if they are the whole input; else nothing
-- Leads       — a list begins with a text of so many bytes, and is as it was behind it
-- WentOut     — of a writer whose bytes are known: it has all of the lines behind what it had, or, where writing failed, those at their front
use Rattle.std.specs.Prelude.{◌≡◌, List, [], ◌++◌, ℕ, ℤ, pos, ◌<◌, length, take, drop, Option, None, Some, Result, Ok, Err}
use Rattle.std.specs.Option.{unwrap_or}
use Rattle.std.specs.declared.io.Error.{Error}
use Rattle.std.specs.IoError.{raw_os_error}
use Rattle.std.specs.Io.KnownBytes.{Consumes, Appends, IsAtEnd}
use Rattle.report.specs.Report.{written}

abbrev pub told : Result ℕ Error → Result ℕ ℤ
told (Ok n) = Ok n
told (Err error) = Err (unwrap_or (raw_os_error error) (pos 0))

abbrev pub AllCame : Option ℕ → Option (List ℕ) → Option (List ℕ) → List ℕ → Type 0
AllCame (Some n) had left bytes = Consumes had left (take n bytes) × (n < length bytes → IsAtEnd left)
AllCame None had left bytes = Unit {0}

abbrev pub lines_after : Option ℕ → List ℕ → List ℕ → List ℕ
lines_after (Some n) bytes lines = written (take n bytes) lines
lines_after None bytes lines = []

abbrev pub Leads : List ℕ → ℕ → List ℕ → List ℕ → Type 0
Leads text n before after = (after ≡ text ++ drop (length text) before) × (n ≡ length text)

abbrev pub WentOut : {A : Type 0} → Result A Error → Option (List ℕ) → Option (List ℕ) → List ℕ → Type 0
WentOut (Ok done) had has lines = Appends had has lines
WentOut (Err error) had has lines = (n : ℕ) × Appends had has (take n lines)
