-- Equal progress and equal contents step alike. Assumes nothing.
use Rattle.std.proofs.Common.{◌≡◌, ℕ, Some, None, Option, arith}
use Rattle.control.specs.declared.fields.Class.{Class}
use Rattle.control.specs.declared.fields.Class.TheVariants.{Search}
use Rattle.registers.specs.declared.program.Program.{Program}
use Rattle.registers.specs.declared.progress.Progress.{Progress}
use Rattle.registers.specs.Bytes.{Step, step, step_on, read_step, closed}
use Rattle.registers.specs.Contents.{Contents, SameContents}
use Rattle.registers.specs.Ports.{address_of, source_port, destination_port, source_counter, destination_counter}
use Rattle.laws.specs.Boards.{InRange}
use Rattle.laws.proofs.Spaces.{Within, byte_same, read_same, write_same}

pub record StepsAlike (p : Program) (h j : Step) : Type 0 where
  pub move : h.move ≡ j.move
  pub matched : h.matched ≡ j.matched
  pub progress : h.progress ≡ j.progress
  pub contents : SameContents h.contents j.contents
  pub in_range : InRange p h.progress

module _ (p : Program) (k : Progress) (c d : Contents) (h : InRange p k) (e : SameContents c d) where
  source_within : Within (source_port p).space (address_of (source_port p).space (source_counter p k))
  source_within = grind arith

  destination_within : Within (destination_port p).space (address_of (destination_port p).space (destination_counter p k))
  destination_within = grind arith

  read_ranged : (g : Class) → InRange p (read_step g p k c).progress
  unfolding closed
  read_ranged Search = grind arith
  read_ranged _ = grind arith

  read_alike : (g : Class) → StepsAlike p (read_step g p k c) (read_step g p k d)
  unfolding closed
  read_alike g =
      let v = byte_same (source_port p).space _ c d source_within e in
      let s = read_same (source_port p).space _ c d source_within e in
      record { move = grind arith; matched = grind arith; progress = grind arith; contents = grind arith; in_range = read_ranged g }

  step_alike_on : (o : Option ℕ) → StepsAlike p (step_on o p k c) (step_on o p k d)
  unfolding closed
  step_alike_on (Some v) = let w = write_same (destination_port p).space _ v c d destination_within e in grind arith
  step_alike_on None = read_alike p.class

pub step_alike : (p : Program) (k l : Progress) (c d : Contents) → InRange p k → k ≡ l → SameContents c d → StepsAlike p (step p k c) (step p l d)
step_alike p k l c d h q e = grind (arith, step_alike_on)
