-- Ready, and a cycle of the master in its three outcomes. Assumes nothing.
use Rattle.std.specs.Prelude.{ℕ, Bool, true, false, cond, ◌||◌, Some, None, Option}
use Rattle.control.specs.declared.fields.Level.{Level}
use Rattle.control.specs.declared.fields.Level.TheVariants as level
use Rattle.control.specs.declared.fields.Mode.{Mode}
use Rattle.control.specs.declared.fields.Mode.TheVariants as mode
use Rattle.control.specs.declared.fields.Space.TheVariants.{Memory}
use Rattle.registers.specs.declared.answer.Answer.{Answer}
use Rattle.registers.specs.declared.answer.Kind.{Kind}
use Rattle.registers.specs.declared.answer.Kind.TheVariants.{Idle, Release}
use Rattle.registers.specs.declared.answer.Mark.{Mark}
use Rattle.registers.specs.declared.answer.Mark.TheVariants.{Unfinished}
use Rattle.registers.specs.declared.answer.Move.{Move}
use Rattle.registers.specs.declared.input.CycleInput.{CycleInput}
use Rattle.registers.specs.declared.latches.Latches.{Latches}
use Rattle.registers.specs.declared.manner.Manner.{Manner}
use Rattle.registers.specs.declared.progress.Progress.{Progress}
use Rattle.registers.specs.declared.row.Loan.{Loan}
use Rattle.registers.specs.declared.row.Loan.TheVariants.{Master, Released}
use Rattle.registers.specs.declared.row.Registers.{Registers}
use Rattle.registers.specs.Bytes.{step, latched}
use Rattle.registers.specs.Contents.{Contents}
use Rattle.registers.specs.Numbers.{finishes, final}
use Rattle.registers.specs.Times.{time_of, timing_of}

abbrev pub same_level : Level → Level → Bool
same_level level.Low level.Low = true
same_level level.Low level.High = false
same_level level.High level.Low = false
same_level level.High level.High = true

-- Ready is active at the programmed level or when forced
abbrev pub is_active : Manner → Bool → Level → Bool
is_active m forced l = same_level l m.ready || forced

-- what a cycle answers, with its T-cycles
abbrev pub timed : Move → ℕ → Answer
timed m t = record { kind = m.kind; space = m.space; address = m.address; byte = m.byte; time = t; mark = m.mark; pulse = m.pulse }

-- the loan after a read or a write with this mark: the channel lets go at an end, at a stop and, in byte mode, after each byte
abbrev pub loan_after : Mode → Mark → Loan
loan_after mode.Byte m = cond (finishes m) Released Master
loan_after mode.Continuous m = cond (final m) Released Master
loan_after mode.Burst m = cond (final m) Released Master

-- with nothing held and Ready inactive the master idles in continuous mode and lets go in the others
abbrev pub pause_kind : Mode → Kind
pause_kind mode.Byte = Release
pause_kind mode.Continuous = Idle
pause_kind mode.Burst = Release

abbrev pub loan_paused : Mode → Loan
loan_paused mode.Byte = Released
loan_paused mode.Continuous = Master
loan_paused mode.Burst = Released

-- idling and letting go answer memory, zeros, no pulse and 1 T-cycle
abbrev pub pause : Kind → Answer
pause k = record { kind = k; space = Memory; address = 0; byte = 0; time = 1; mark = Unfinished; pulse = false }

-- what a cycle answers and leaves
pub record Cycled : Type 0 where
  pub answer : Answer
  pub registers : Registers
  pub contents : Contents

abbrev pub with_progress : Progress → Latches → Loan → Registers → Registers
with_progress k l n r = record { program = r.program; manner = r.manner; progress = k; latches = l; service = r.service; sequence = r.sequence; loan = n }

-- a read or a write
abbrev pub worked : ℕ → Registers → Contents → Cycled
worked waits r c =
    let h = step r.program r.progress c in
    record {
      answer = timed h.move (time_of r.manner.heed (timing_of h.move.kind r.program r.manner) h.move.space waits);
      registers = with_progress h.progress (latched r.program h r.latches) (loan_after r.manner.mode h.move.mark) r;
      contents = h.contents;
    }

-- idling or letting go
abbrev pub paused : Registers → Contents → Cycled
paused r c =
    record {
      answer = pause (pause_kind r.manner.mode);
      registers = with_progress r.progress r.latches (loan_paused r.manner.mode) r;
      contents = c;
    }

-- the master writes its held byte, at any Ready level; else, Ready active, it reads the source; else it pauses
abbrev pub cycled_on : Option ℕ → Bool → ℕ → Registers → Contents → Cycled
cycled_on (Some v) active waits r c = worked waits r c
cycled_on None true waits r c = worked waits r c
cycled_on None false waits r c = paused r c

abbrev pub cycled : Bool → CycleInput → Registers → Contents → Cycled
cycled forced x r c = cycled_on r.progress.held (is_active r.manner forced x.ready) x.waits r c
