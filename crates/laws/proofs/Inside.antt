-- A read or a write inside a block: where it is, and where it leaves the counters and the count. Assumes nothing.
use Rattle.std.proofs.Common.{◌≡◌, ℕ, ◌+◌, ◌-◌, ◌<◌, ◌≤◌, true, ◌⊎◌, ◌↔◌, Some, None, Option, refl, arith}
use Rattle.control.specs.declared.fields.Class.{Class}
use Rattle.control.specs.declared.fields.Class.TheVariants.{Search}
use Rattle.registers.specs.declared.answer.Kind.TheVariants.{Read, Write}
use Rattle.registers.specs.declared.answer.Move.{Move}
use Rattle.registers.specs.declared.program.Program.{Program}
use Rattle.registers.specs.declared.progress.Progress.{Progress}
use Rattle.registers.specs.declared.row.Registers.{Registers}
use Rattle.registers.specs.Bytes.{Step, step, step_on, read_step, closed}
use Rattle.registers.specs.Contents.{Contents}
use Rattle.registers.specs.Numbers.{finishes, ends_block, final, is_read, is_write}
use Rattle.registers.specs.Ports.{source_port, destination_port, source_counter, destination_counter}
use Rattle.laws.specs.Blocks.{moved_times, AtSource, AtDestination}
use Rattle.laws.specs.Events.{one_more_if}
use Rattle.laws.proofs.Steps.{Left, step_left}

-- how many bytes are held
abbrev size : Option ℕ → ℕ
size None = 0
size (Some v) = 1

-- N − M
abbrev last_of : Registers → ℕ
last_of g = g.program.length - g.progress.count

-- INSIDE THE BLOCK AND PAST IT: r bytes read, w written, i finished since the registers g were found

pub record Inside (g : Registers) (r w i : ℕ) (k : Progress) : Type 0 where
  pub count : k.count ≡ g.progress.count + i
  pub source : source_counter g.program k ≡ moved_times (source_port g.program).rule r (source_counter g.program g.progress)
  pub destination : destination_counter g.program k ≡ moved_times (destination_port g.program).rule w (destination_counter g.program g.progress)
  pub in_block : k.count ≤ g.program.length
  pub all_read : r ≡ i + size k.held
  pub few : w ≤ i
  pub all_written : (g.program.class ≡ Search) ⊎ (w ≡ i)
  pub searching : g.program.class ≡ Search → k.held ≡ None

pub record Past (g : Registers) (r w i : ℕ) (k : Progress) : Type 0 where
  pub reads : last_of g < r
  pub written : (g.program.class ≡ Search) ⊎ (last_of g < w)
  pub finished_all : last_of g < i
  pub searching : g.program.class ≡ Search → k.held ≡ None

-- a move in its place
pub record Placed (g : Registers) (r w i : ℕ) (m : Move) : Type 0 where
  pub reads : m.kind ≡ Read → r ≤ last_of g → AtSource g r m
  pub written : m.kind ≡ Write → w ≤ last_of g → AtDestination g w m
  pub ends : finishes m.mark ≡ true → i ≤ last_of g → (ends_block m.mark ≡ true) ↔ (i ≡ last_of g)

-- the counts after a read or a write
abbrev pub Counted : (Registers → ℕ → ℕ → ℕ → Progress → Type 0) → Registers → ℕ → ℕ → ℕ → Step → Type 0
Counted P g r w i h = P g (one_more_if (is_read h.move.kind) r) (one_more_if (is_write h.move.kind) w) (one_more_if (finishes h.move.mark) i) h.progress

abbrev pub Onward : Registers → ℕ → ℕ → ℕ → Step → Type 0
Onward g r w i h = Counted Inside g r w i h ⊎ (Counted Past g r w i h × (final h.move.mark ≡ true))

module _ (g : Registers) (r w i : ℕ) (k : Progress) (c : Contents) (a : Inside g r w i k) where
  abbrev p : Program
  p = g.program

  read_onward : (x : Class) → p.class ≡ x → k.held ≡ None → Left p (read_step x p k c) → Onward g r w i (read_step x p k c)
  unfolding closed
  read_onward x q e l = grind arith

  step_inside : (o : Option ℕ) → k.held ≡ o → Left p (step_on o p k c) → Placed g r w i (step_on o p k c).move × Onward g r w i (step_on o p k c)
  unfolding closed
  step_inside o e l = (grind arith, grind (arith, read_onward))

pub inside_onward : (g : Registers) (r w i : ℕ) (k : Progress) (c : Contents) → Inside g r w i k → k.enabled ≡ true → Placed g r w i (step g.program k c).move × Onward g r w i (step g.program k c)
inside_onward g r w i k c a on = step_inside g r w i k c a k.held refl (step_left g.program k c on a.in_block)

-- PAST THE BLOCK

pub past_onward : (g : Registers) (r w i : ℕ) (k : Progress) (c : Contents) → Past g r w i k → k.enabled ≡ true → k.count ≤ g.program.length → Placed g r w i (step g.program k c).move × Counted Past g r w i (step g.program k c)
unfolding closed
past_onward g r w i k c a on n = grind arith
