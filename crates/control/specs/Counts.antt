-- How many of the 256 first bytes have a group, and how many of those are refused for their mode.
use Rattle.std.specs.Prelude.{ℕ, zero, suc, ◌+◌, ◌≤◌, Bool, true, false, Ok, Err, Result}
use Rattle.control.specs.declared.first.First.{First}
use Rattle.control.specs.declared.fault.DecodeFault.{DecodeFault}
use Rattle.control.specs.declared.fault.DecodeFault.TheVariants.{NoGroup, BadMode, BadTiming, BadInterruptControl, BadReadMask}
use Rattle.control.specs.declared.tally.Census.{Census}
use Rattle.control.specs.Firsts.{decoded_first}

-- refused for its mode
abbrev pub is_bad_mode : Result First DecodeFault → Bool
is_bad_mode (Ok f) = false
is_bad_mode (Err NoGroup) = false
is_bad_mode (Err BadMode) = true
is_bad_mode (Err BadTiming) = false
is_bad_mode (Err BadInterruptControl) = false
is_bad_mode (Err BadReadMask) = false

-- of a group or a command, the mode allowed or not
abbrev pub is_grouped : Result First DecodeFault → Bool
is_grouped (Ok f) = true
is_grouped (Err e) = is_bad_mode (Err e)

-- neither of a group nor a command
abbrev pub is_ungrouped : Result First DecodeFault → Bool
is_ungrouped (Ok f) = false
is_ungrouped (Err NoGroup) = true
is_ungrouped (Err BadMode) = false
is_ungrouped (Err BadTiming) = false
is_ungrouped (Err BadInterruptControl) = false
is_ungrouped (Err BadReadMask) = false

-- one more, if so
abbrev pub more : Bool → ℕ → ℕ
more true n = n + 1
more false n = n

-- how many of the first bytes below n are answered so
abbrev pub counted : (Result First DecodeFault → Bool) → ℕ → ℕ
counted p zero = 0
counted p (suc n) = more (p (decoded_first n)) (counted p n)

-- the three counts below n
abbrev pub census_below : ℕ → Census
census_below n = record { grouped = counted is_grouped n; bad_mode = counted is_bad_mode n; ungrouped = counted is_ungrouped n }

-- the counts with one more answer
abbrev pub tallied : Census → Result First DecodeFault → Census
tallied c said = record { grouped = more (is_grouped said) c.grouped; bad_mode = more (is_bad_mode said) c.bad_mode; ungrouped = more (is_ungrouped said) c.ungrouped }

-- each of the counts is at most n
abbrev pub Few : Census → ℕ → Type 0
Few c n = (c.grouped ≤ n) × (c.bad_mode ≤ n) × (c.ungrouped ≤ n)
