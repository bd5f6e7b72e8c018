-- What an error line says.
use Rattle.std.specs.Prelude.{ℕ, List, ◌++◌, None, unwrap_or, codes}
use Rattle.std.specs.Fmt.{decimal}
use Rattle.script.specs.declared.fault.Wrong.{Wrong}
use Rattle.script.specs.declared.fault.Wrong.TheVariants as wrong
use Rattle.script.specs.declared.fault.ScriptFault.{ScriptFault}
use Rattle.script.specs.declared.fault.PlayFault.{PlayFault}
use Rattle.script.specs.declared.fault.PlayFault.TheVariants as play

-- what is wrong
abbrev pub wrong_words : Wrong → List ℕ
wrong_words wrong.NotUnderstood = codes "not understood"
wrong_words wrong.NoByte = codes "no byte of one or two hexadecimal digits"
wrong_words wrong.NoAddress = codes "no address of one to four hexadecimal digits"
wrong_words wrong.NoNumber = codes "no decimal number in its range"
wrong_words wrong.Twice = codes "a second line of its kind"
wrong_words wrong.OutOfPlace = codes "a board line after the first access"
wrong_words wrong.OutsideRam = codes "a byte outside the RAM"
wrong_words wrong.NoMemory = codes "no memory"

-- the line, which is 0 where no one line is at fault, and what is wrong with it
abbrev pub fault_words : ScriptFault → List ℕ
fault_words f = codes "line " ++ decimal (unwrap_or f.line 0) ++ codes ": " ++ wrong_words f.wrong

-- no memory, through no one line's fault
abbrev pub no_memory : ScriptFault
no_memory = record { line = None; wrong = wrong.NoMemory }

-- why a script is not played to its end
abbrev pub play_words : PlayFault → List ℕ
play_words (play.Script f) = fault_words f
play_words play.NoMemory = codes "no memory"
