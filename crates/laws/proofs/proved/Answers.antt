use Rattle.laws.proofs.Writes.{power_on_kept}
use Rattle.laws.proofs.Calls.{moments_have_the_events}
use Rattle.laws.proofs.Whole.{calls_keep, bytes_are_carried, bytes_are_carried_at_each_moment, cycles_make_the_contents}
use Rattle.laws.proofs.Marks.{transfer_reads_are_unfinished}
use Rattle.laws.proofs.Enabled.{enablings_leave_found}
use Rattle.laws.proofs.Enablings.{only_enablings_enable}
use Rattle.laws.proofs.Places.{reads_have_their_places, writes_have_their_places, one_byte_ends_the_block, over_in_time, cycles_are_of_four_kinds}
use Rattle.laws.proofs.Ends.{nothing_follows_an_end, nothing_follows_a_stop}
use Rattle.laws.proofs.Boards.{what_was_found_decides, boards_end_alike}
use Rattle.laws.proofs.proved.Goals as goal

pub returns : goal.returns
returns c =
    record {
      power_on_is_kept = power_on_kept;
      calls_keep = calls_keep;
      moments_have_the_events = moments_have_the_events;
      bytes_are_carried = bytes_are_carried;
      bytes_are_carried_at_each_moment = bytes_are_carried_at_each_moment;
      transfer_reads_are_unfinished = transfer_reads_are_unfinished;
      cycles_make_the_contents = cycles_make_the_contents;
      enablings_leave_found = enablings_leave_found;
      only_enablings_enable = only_enablings_enable;
      reads_have_their_places = reads_have_their_places;
      writes_have_their_places = writes_have_their_places;
      one_byte_ends_the_block = one_byte_ends_the_block;
      nothing_follows_an_end = nothing_follows_an_end;
      nothing_follows_a_stop = nothing_follows_a_stop;
      over_in_time = over_in_time;
      cycles_are_of_four_kinds = cycles_are_of_four_kinds;
      what_was_found_decides = what_was_found_decides;
      boards_end_alike = boards_end_alike;
    }
