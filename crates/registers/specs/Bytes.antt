-- A byte's read and its write: what they answer and do, whatever the mode, the timing, the waits, Ready and the loans. Assumes nothing.
use Rattle.std.specs.Prelude.{ℕ, ◌+◌, ◌-◌, ◌%◌, Bool, true, false, ◌&&◌, ◌||◌, Some, None, Option, ◌==◌, bit_and, bit_xor}
use Rattle.control.specs.declared.fields.Class.{Class}
use Rattle.control.specs.declared.fields.Class.TheVariants.{Transfer, Search, Both}
use Rattle.registers.specs.declared.answer.Kind.TheVariants.{Read, Write}
use Rattle.registers.specs.declared.answer.Mark.{Mark}
use Rattle.registers.specs.declared.answer.Mark.TheVariants as mark
use Rattle.registers.specs.declared.answer.Move.{Move}
use Rattle.registers.specs.declared.latches.Latches.{Latches}
use Rattle.registers.specs.declared.program.Program.{Program}
use Rattle.registers.specs.declared.progress.Progress.{Progress}
use Rattle.registers.specs.Contents.{Contents, byte_at, after_read, after_write}
use Rattle.registers.specs.Numbers.{finishes, ends_block}
use Rattle.registers.specs.Ports.{of_port, source_port, destination_port, source_counter, destination_counter, address_of, moved, loaded_destination}

-- SETTING WHAT A BYTE CHANGES

abbrev pub disabled : Progress → Progress
disabled k = record { a = k.a; b = k.b; count = k.count; held = k.held; compare = k.compare; stopping = k.stopping; enabled = false }

-- the byte to compare is forgotten
abbrev pub forgot : Progress → Progress
forgot k = record { a = k.a; b = k.b; count = k.count; held = k.held; compare = None; stopping = k.stopping; enabled = k.enabled }

-- continue: the count is 0 and the byte to compare is forgotten
abbrev pub continued : Progress → Progress
continued k = record { a = k.a; b = k.b; count = 0; held = k.held; compare = None; stopping = k.stopping; enabled = k.enabled }

-- load: the source's start to its counter, and the destination's unless that port is fixed; then as continue
abbrev pub loaded : Program → Progress → Progress
loaded p k =
    record {
      a = of_port p.source p.a.start (loaded_destination p.a.rule p.a.start k.a);
      b = of_port p.source (loaded_destination p.b.rule p.b.start k.b) p.b.start;
      count = 0;
      held = k.held;
      compare = None;
      stopping = k.stopping;
      enabled = k.enabled;
    }

-- FINISHING A BYTE

-- the mark of a finished byte: whether the block ends with it, whether the channel stops
abbrev pub finished_mark : Bool → Bool → Mark
finished_mark false false = mark.Finished
finished_mark true false = mark.Ended
finished_mark false true = mark.Stopped
finished_mark true true = mark.Both

-- the block ends at count N + 1
abbrev pub is_last : Program → Progress → Bool
is_last p k = k.count == p.length

-- one byte more is finished
abbrev pub counted : Progress → Progress
counted k = record { a = k.a; b = k.b; count = k.count + 1; held = None; compare = k.compare; stopping = false; enabled = k.enabled }

-- ended, stopped, auto restart: an end reloads or disables, a stop disables in either case
unfoldable pub closed : Bool → Bool → Bool → Program → Progress → Progress
closed false false restart p k = k
closed false true restart p k = disabled k
closed true false true p k = loaded p k
closed true true true p k = disabled (loaded p k)
closed true stopped false p k = disabled (forgot k)

abbrev pub finished : Program → Progress → Progress
finished p k = closed (is_last p k) k.stopping p.restart p (counted k)

-- a pulse comes with a finished byte if pulses are on and the count, this byte included, modulo 256 is the pulse byte
abbrev pub pulsed : Program → Progress → Bool
pulsed p k = p.signals.control.pulses && (k.count + 1) % 256 == p.signals.pulse

-- MATCHING, ONE READ LATE

-- a byte matches if it equals the match byte wherever the mask has 0
abbrev pub equal_where_0 : ℕ → ℕ → ℕ → Bool
equal_where_0 mask pattern b = bit_and (bit_xor b pattern) (255 - mask) == 0

-- a read compares the byte to compare, if present
abbrev pub matches : Program → Option ℕ → Bool
matches p None = false
matches p (Some b) = equal_where_0 p.search.mask p.search.pattern b

-- A BYTE'S READ AND WRITE

-- a read or a write: what it answers, whether it found a match, and what it leaves
pub record Step : Type 0 where
  pub move : Move
  pub matched : Bool
  pub progress : Progress
  pub contents : Contents

-- after a read: the source's counter is moved; the byte held, the byte to compare and whether a match stops the channel
abbrev pub taken_in : Program → Option ℕ → Option ℕ → Bool → Progress → Progress
taken_in p held compare stopping k =
    record {
      a = of_port p.source (moved p.a.rule k.a) k.a;
      b = of_port p.source k.b (moved p.b.rule k.b);
      count = k.count;
      held = held;
      compare = compare;
      stopping = stopping;
      enabled = k.enabled;
    }

-- after a write: the destination's counter is moved
abbrev pub put_out : Program → Progress → Progress
put_out p k =
    record {
      a = of_port p.source k.a (moved p.a.rule k.a);
      b = of_port p.source (moved p.b.rule k.b) k.b;
      count = k.count;
      held = k.held;
      compare = k.compare;
      stopping = k.stopping;
      enabled = k.enabled;
    }

-- a transfer holds its byte until it is written, and forgets the byte to compare; a search finishes it at once; both does both
abbrev pub read_step : Class → Program → Progress → Contents → Step
read_step Transfer p k c =
    let s = (source_port p).space in let a = address_of s (source_counter p k) in let v = byte_at s a c in
    record {
      move = record { kind = Read; space = s; address = a; byte = v; mark = mark.Unfinished; pulse = false };
      matched = false;
      progress = taken_in p (Some v) None false k;
      contents = after_read s a c;
    }
read_step Both p k c =
    let s = (source_port p).space in let a = address_of s (source_counter p k) in let v = byte_at s a c in let m = matches p k.compare in
    record {
      move = record { kind = Read; space = s; address = a; byte = v; mark = mark.Unfinished; pulse = false };
      matched = m;
      progress = taken_in p (Some v) (Some v) (p.search.stop && m) k;
      contents = after_read s a c;
    }
read_step Search p k c =
    let s = (source_port p).space in let a = address_of s (source_counter p k) in let v = byte_at s a c in let m = matches p k.compare in
    let k' = taken_in p None (Some v) (p.search.stop && m) k in
    record {
      move = record { kind = Read; space = s; address = a; byte = v; mark = finished_mark (is_last p k') k'.stopping; pulse = pulsed p k' };
      matched = m;
      progress = finished p k';
      contents = after_read s a c;
    }

abbrev pub write_step : Program → ℕ → Progress → Contents → Step
write_step p v k c =
    let s = (destination_port p).space in let a = address_of s (destination_counter p k) in
    record {
      move = record { kind = Write; space = s; address = a; byte = v; mark = finished_mark (is_last p k) k.stopping; pulse = pulsed p k };
      matched = false;
      progress = finished p (put_out p k);
      contents = after_write s a v c;
    }

-- the held byte is written; with none held one is read
abbrev pub step_on : Option ℕ → Program → Progress → Contents → Step
step_on (Some v) p k c = write_step p v k c
step_on None p k c = read_step p.class p k c

abbrev pub step : Program → Progress → Contents → Step
step p k c = step_on k.held p k c

-- a match or end latches its status, and its cause where its interrupt is on: the mark, and whether a match was found
abbrev pub latches_after : Program → Mark → Bool → Latches → Latches
latches_after p m matched l =
    record {
      moved = l.moved || finishes m;
      matched = l.matched || matched;
      ended = l.ended || ends_block m;
      causes = record {
        matched = l.causes.matched || (matched && p.signals.control.on_match);
        ended = l.causes.ended || (ends_block m && p.signals.control.on_end);
      };
    }

abbrev pub latched : Program → Step → Latches → Latches
latched p h l = latches_after p h.move.mark h.matched l
