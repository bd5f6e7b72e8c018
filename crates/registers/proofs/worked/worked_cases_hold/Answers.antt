-- Each is computed.
use Rattle.control.specs.Firsts.{wr6_of}
use Rattle.registers.specs.Bytes.{closed}
use Rattle.registers.specs.Calls.{opened, open_did, events, state_at_end, does, events_of, state_after_all, event_on, state_on, run_answer}
use Rattle.registers.specs.Worked.{how_many}
use Rattle.registers.specs.Writes.{wrote, write_did, decoded_did, table_did, table_next}
use Rattle.registers.proofs.worked.worked_cases_hold.Goals as goal

pub returns : goal.returns
unfolding how_many wrote write_did decoded_did table_did table_next opened open_did events state_at_end does events_of state_after_all event_on state_on run_answer closed wr6_of
returns c = assumption
