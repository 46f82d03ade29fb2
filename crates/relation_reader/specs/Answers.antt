-- What an answer other than Ok says of a text.
use Rattle.std.specs.Prelude.{ℕ, List}
use Rattle.relation_reader.specs.declared.fault.ReaderFault.{ReaderFault}
use Rattle.relation_reader.specs.declared.fault.ReaderFault.TheVariants as answers
use Rattle.relation_reader.specs.Tokens.{IsTokenFault}
use Rattle.relation_reader.specs.Meaning.{FirstFault}

-- want of memory says nothing of the text
abbrev pub IsTokenError : List ℕ → ReaderFault → Type 0
IsTokenError text (answers.Text fault) = IsTokenFault text fault
IsTokenError text answers.NoMemory = Unit {0}

-- so it does of a reading
abbrev pub IsReadError : List ℕ → ℕ → ReaderFault → Type 0
IsReadError text p (answers.Text fault) = FirstFault text p fault
IsReadError text p answers.NoMemory = Unit {0}
