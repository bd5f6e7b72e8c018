-- What a byte's read or write leaves of the progress. Assumes nothing.
use Rattle.std.proofs.Common.{◌≡◌, ◌≤◌, true, false, None, arith}
use Rattle.control.specs.declared.fields.Class.TheVariants.{Search}
use Rattle.registers.specs.declared.program.Program.{Program}
use Rattle.registers.specs.declared.progress.Progress.{Progress}
use Rattle.registers.specs.Bytes.{Step, closed, step}
use Rattle.registers.specs.Contents.{Contents}
use Rattle.registers.specs.Numbers.{finishes, stops, final}

-- A READ OR A WRITE

pub record Left (p : Program) (h : Step) : Type 0 where
  pub stopping : h.progress.held ≡ None → h.progress.stopping ≡ false
  pub searching : p.class ≡ Search → h.progress.held ≡ None
  pub in_block : h.progress.enabled ≡ true → h.progress.count ≤ p.length
  pub live : final h.move.mark ≡ false → h.progress.enabled ≡ true
  pub empty : finishes h.move.mark ≡ true → h.progress.held ≡ None

pub step_left : (p : Program) (k : Progress) (c : Contents) → k.enabled ≡ true → k.count ≤ p.length → Left p (step p k c)
unfolding closed
step_left p k c on n = grind arith

-- AN END WITHOUT RESTART, AND A STOP, DISABLE

pub step_off : (p : Program) (k : Progress) (c : Contents) → (stops (step p k c).move.mark ≡ false → p.restart ≡ false) → final (step p k c).move.mark ≡ true → (step p k c).progress.enabled ≡ false
unfolding closed
step_off p k c q z = grind arith
