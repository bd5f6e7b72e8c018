-- The words that are printed of a cycle's kind and of a loan. Assumes nothing.
use Rattle.std.specs.Prelude.{ℕ, List, codes}
use Rattle.registers.specs.declared.answer.Kind.{Kind}
use Rattle.registers.specs.declared.answer.Kind.TheVariants.{Read, Write, Idle, Release}
use Rattle.registers.specs.declared.row.Loan.{Loan}
use Rattle.registers.specs.declared.row.Loan.TheVariants.{Closed, Master, Released}

abbrev pub kind_word : Kind → List ℕ
kind_word Read = codes "read"
kind_word Write = codes "write"
kind_word Idle = codes "idle"
kind_word Release = codes "release"

abbrev pub loan_word : Loan → List ℕ
loan_word Closed = codes "none"
loan_word Master = codes "master"
loan_word Released = codes "released"
