-- All the laws, as one record. Assumes nothing.
use Rattle.laws.specs.Moments.{MomentsHaveTheEvents}
use Rattle.laws.specs.Carried.{PowerOnIsKept, CallsKeep, BytesAreCarried, BytesAreCarriedAtEachMoment, TransferReadsAreUnfinished, CyclesMakeTheContents}
use Rattle.laws.specs.Enabling.{EnablingsLeaveFound, OnlyEnablingsEnable}
use Rattle.laws.specs.Blocks.{ReadsHaveTheirPlaces, WritesHaveTheirPlaces, OneByteEndsTheBlock, NothingFollowsAnEnd, NothingFollowsAStop, OverInTime, CyclesAreOfFourKinds}
use Rattle.laws.specs.Boards.{WhatWasFoundDecides, BoardsEndAlike}

pub record Laws : Type 0 where
  pub power_on_is_kept : PowerOnIsKept
  pub calls_keep : CallsKeep
  pub moments_have_the_events : MomentsHaveTheEvents
  pub bytes_are_carried : BytesAreCarried
  pub bytes_are_carried_at_each_moment : BytesAreCarriedAtEachMoment
  pub transfer_reads_are_unfinished : TransferReadsAreUnfinished
  pub cycles_make_the_contents : CyclesMakeTheContents
  pub enablings_leave_found : EnablingsLeaveFound
  pub only_enablings_enable : OnlyEnablingsEnable
  pub reads_have_their_places : ReadsHaveTheirPlaces
  pub writes_have_their_places : WritesHaveTheirPlaces
  pub one_byte_ends_the_block : OneByteEndsTheBlock
  pub nothing_follows_an_end : NothingFollowsAnEnd
  pub nothing_follows_a_stop : NothingFollowsAStop
  pub over_in_time : OverInTime
  pub cycles_are_of_four_kinds : CyclesAreOfFourKinds
  pub what_was_found_decides : WhatWasFoundDecides
  pub boards_end_alike : BoardsEndAlike
