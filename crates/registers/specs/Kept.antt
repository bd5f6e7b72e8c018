-- What every channel keeps. Assumes nothing.
use Rattle.std.specs.Prelude.{◌≡◌, ◌<◌, ◌≤◌, true, false, ◌⊎◌, List, [], ◌∷◌, None}
use Rattle.control.specs.Followers.{listed}
use Rattle.control.specs.declared.fields.Class.TheVariants.{Search}
use Rattle.control.specs.declared.follower.Follower.{Follower}
use Rattle.control.specs.declared.follower.Follower.TheVariants as follower
use Rattle.registers.specs.declared.progress.Progress.{Progress}
use Rattle.registers.specs.declared.row.Loan.{Loan}
use Rattle.registers.specs.declared.row.Loan.TheVariants.{Closed, Master, Released}
use Rattle.registers.specs.declared.row.Registers.{Registers}

-- a byte is held only by the master of the buses, and the master is enabled
abbrev pub Holds : Loan → Progress → Type 0
Holds Closed k = k.held ≡ None
Holds Released k = k.held ≡ None
Holds Master k = k.enabled ≡ true

-- an enabled channel has a length above 0 and a count of at most the length
pub record InBlock (r : Registers) : Type 0 where
  pub some_length : 0 < r.program.length
  pub count : r.progress.count ≤ r.program.length

-- the followers of WR3: only they can be due while an enabling waits for its group's last byte
abbrev pub OnlySearch : List Follower → Type 0
OnlySearch [] = Unit {0}
OnlySearch (f ∷ fs) = ((f ≡ follower.Mask) ⊎ (f ≡ follower.Match)) × OnlySearch fs

pub record WaitsToEnable (r : Registers) : Type 0 where
  pub disabled : r.progress.enabled ≡ false
  pub followers : OnlySearch (listed r.sequence.due)
  pub block : InBlock r

pub record Kept (r : Registers) : Type 0 where
  pub holds : Holds r.loan r.progress
  -- a stop is pending only with a byte held
  pub stopping : r.progress.held ≡ None → r.progress.stopping ≡ false
  -- a search holds no byte
  pub searching : r.program.class ≡ Search → r.progress.held ≡ None
  pub block : r.progress.enabled ≡ true → InBlock r
  pub enabling : r.sequence.enabling ≡ true → WaitsToEnable r
