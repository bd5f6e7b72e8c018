-- Which followers come after a first byte that may enable. Assumes nothing.
use Rattle.std.proofs.Common.{◌≡◌, ℕ, Bool, cond, eqb, List, [], ◌∷◌, ◌++◌, Some, Ok, Err, Option, Result, refl, arith}
use Rattle.std.proofs.lemmas.Bool.{eqb-true}
use Rattle.control.specs.Firsts.{commands, coded, wr6_of, named, group_of_command, announced, decoded_first, followers_of}
use Rattle.control.specs.Followers.{listed, queued}
use Rattle.control.specs.Numbers.{command_code}
use Rattle.control.specs.declared.fault.DecodeFault.{DecodeFault}
use Rattle.control.specs.declared.first.Command.{Command}
use Rattle.control.specs.declared.first.Command.TheVariants as command
use Rattle.control.specs.declared.first.First.{First}
use Rattle.control.specs.declared.first.First.TheVariants as first
use Rattle.control.specs.declared.follower.Follower.{Follower}
use Rattle.control.specs.declared.follower.Follower.TheVariants.{Mask, Match}
use Rattle.control.specs.declared.follower.Followers.{Followers}
use Rattle.control.specs.declared.follower.Followers.TheVariants.{Zero}
use Rattle.registers.specs.Kept.{OnlySearch}

-- WR3 has only its own followers; the command that enables is 87h and has none
abbrev pub Fitting : ℕ → First → Followers → Type 0
Fitting b (first.Wr3 stop interrupts enable) due = OnlySearch (listed due)
Fitting b (first.Wr6 c) due = c ≡ command.Enable → (b ≡ 0x87) × OnlySearch (listed due)
Fitting b _ due = Unit {0}

abbrev pub FittingResult : ℕ → Result First DecodeFault → Followers → Type 0
FittingResult b (Ok f) due = Fitting b f due
FittingResult b (Err e) due = Unit {0}

wr3_fits : (mask match : Bool) → OnlySearch (listed (queued (cond mask (Mask ∷ []) [] ++ cond match (Match ∷ []) [])))
wr3_fits mask match = grind arith

-- a command has its own code
module _ (b : ℕ) (c : Command) where
  coded_one : (d : Command) (rest : Option Command) (t : Bool) → eqb b (command_code d) ≡ t → (rest ≡ Some c → b ≡ command_code c) → cond t (Some d) rest ≡ Some c → b ≡ command_code c
  coded_one d rest t q h z = grind (arith, eqb-true)

  coded_code : (cs : List Command) → coded b cs ≡ Some c → b ≡ command_code c
  coded_code [] z = cc
  coded_code (d ∷ cs) z = coded_one d (coded b cs) (eqb b (command_code d)) refl (coded_code cs) z

commands_fit : (b : ℕ) (o : Option Command) → coded b commands ≡ o → FittingResult b (named o) (queued (announced (group_of_command o) b))
commands_fit b o e = grind (arith, coded_code)

pub first_fits : (b : ℕ) → FittingResult b (decoded_first b) (queued (followers_of b))
unfolding wr6_of
first_fits b = grind (arith, wr3_fits, commands_fit)

pub none_queued : (fs : List Follower) → queued fs ≡ Zero → fs ≡ []
none_queued [] z = refl
none_queued (f ∷ fs) z = grind arith
