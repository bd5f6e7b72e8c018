-- Worked cases, as facts that the definitions compute. Assumes nothing.
use Rattle.std.specs.Prelude.{◌≡◌, ℕ, zero, suc, ◌+◌, ◌-◌, Bool, true, false, List, [], ◌∷◌, replicate, Ok, Err, Result, ◌==◌, slice_index_or}
use Rattle.control.specs.Numbers.{mode_bits}
use Rattle.control.specs.declared.fields.Level.TheVariants.{Low}
use Rattle.registers.specs.declared.chip.Chip.{Chip}
use Rattle.registers.specs.declared.fault.ChannelFault.{ChannelFault}
use Rattle.registers.specs.declared.input.CycleInput.{CycleInput}
use Rattle.registers.specs.declared.program.Signals.{Signals}
use Rattle.spaces.specs.Ports.{silent}
use Rattle.registers.specs.Bytes.{equal_where_0}
use Rattle.registers.specs.Calls.{State, Call, table_call, open_call, run_call, Event, events, state_at_end, powered}
use Rattle.registers.specs.Chips.{power_on, with_program, with_latches, with_registers}
use Rattle.registers.specs.Contents.{Contents}
use Rattle.registers.specs.Firsts.{with_length, with_signals}
use Rattle.registers.specs.Interrupts.{vector_of}
use Rattle.registers.specs.Numbers.{refusal_number, mark_number}
use Rattle.registers.specs.Writes.{wrote}

abbrev pub flag : Bool → ℕ
flag true = 1
flag false = 0

-- a memory with these bytes from address 0 on, writable everywhere, and ports that nothing serves
abbrev pub holding : List ℕ → Contents
holding l = record { cells = record { byte = λ a. slice_index_or l a 255; writable = λ _. true }; ports = λ _. silent }

-- both counters, the mode, enabled, and the bytes due
abbrev pub shown : State → List ℕ
shown s =
    let r = s.chip.registers in
    r.progress.a ∷ r.progress.b ∷ mode_bits r.manner.mode ∷ flag r.progress.enabled ∷ (r.program.length + 1 - r.progress.count) ∷ []

abbrev pub after_table : List ℕ → List ℕ
after_table bs = shown (state_at_end (table_call bs ∷ []) (powered (holding [])))

-- the sheet's sample program
abbrev pub sample : List ℕ
sample = 0x79 ∷ 0x50 ∷ 0x10 ∷ 0x00 ∷ 0x10 ∷ 0x14 ∷ 0x28 ∷ 0xC5 ∷ 0x05 ∷ 0x8A ∷ 0xCF ∷ 0x05 ∷ 0xCF ∷ 0x87 ∷ []

abbrev pub sample_without_its_first_load : List ℕ
sample_without_its_first_load = 0x79 ∷ 0x50 ∷ 0x10 ∷ 0x00 ∷ 0x10 ∷ 0x14 ∷ 0x28 ∷ 0xC5 ∷ 0x05 ∷ 0x8A ∷ 0x05 ∷ 0xCF ∷ 0x87 ∷ []

-- 0 where a byte is accepted, else the refusal's number
abbrev pub refusal : Result Chip ChannelFault → ℕ
refusal (Ok x) = 0
refusal (Err f) = refusal_number f

abbrev pub with_length_1 : Chip
with_length_1 = with_registers (with_program (with_length 1 power_on.registers.program) power_on.registers) power_on

-- how many of the first n bytes get this refusal
unfoldable pub how_many : ℕ → ℕ → Chip → ℕ
how_many refused zero x = 0
how_many refused (suc n) x = flag (refusal (wrote n x) == refused) + how_many refused n x

abbrev pub at_power_on : ℕ → ℕ
at_power_on b = refusal (wrote b power_on)

abbrev pub ready : CycleInput
ready = record { ready = Low; waits = 0 }

abbrev pub marks : List Event → List ℕ
marks [] = []
marks (e ∷ es) = mark_number e.answer.mark ∷ marks es

-- a search of 11h 22h 33h 44h from address 0 with N = 3 and stop on match, in burst mode
abbrev pub search_calls : ℕ → List Call
search_calls pattern = table_call (0x66 ∷ 3 ∷ 0 ∷ 0x9C ∷ 0 ∷ pattern ∷ 0xC1 ∷ 0xCF ∷ 0x87 ∷ []) ∷ open_call Low ∷ run_call (replicate 6 ready) ∷ []

abbrev pub searched : State
searched = powered (holding (0x11 ∷ 0x22 ∷ 0x33 ∷ 0x44 ∷ []))

abbrev pub search_marks : ℕ → List ℕ
search_marks pattern = marks (events (search_calls pattern) searched)

abbrev pub search_matched : ℕ → Bool
search_matched pattern = (state_at_end (search_calls pattern) searched).chip.registers.latches.matched

-- the vector 40h with the status in it, by the causes latched
abbrev pub vector_at : Bool → Bool → ℕ
vector_at matched ended =
    let r = power_on.registers in
    let s : Signals = record { control = record { on_match = true; on_end = true; pulses = false; status_in_vector = true }; pulse = 0; vector = 0x40 } in
    vector_of (with_latches (record { moved = false; matched = false; ended = false; causes = record { matched = matched; ended = ended } }) (with_program (with_signals s r.program) r))

-- two bytes from address 0 to address 1, both ports incrementing
abbrev pub copied_up : List ℕ
copied_up =
    let s = state_at_end (table_call (0x65 ∷ 1 ∷ 0 ∷ 0xC5 ∷ 1 ∷ 0xCF ∷ 0x87 ∷ []) ∷ open_call Low ∷ run_call (replicate 4 ready) ∷ []) (powered (holding (1 ∷ 2 ∷ 3 ∷ []))) in
    let c = s.contents.cells.byte in
    c 0 ∷ c 1 ∷ c 2 ∷ []

pub record WorkedCases : Type 0 where
  pub sample_program : after_table sample ≡ 0x1050 ∷ 0x0005 ∷ 2 ∷ 1 ∷ 4097 ∷ []
  pub fixed_destination_not_loaded : after_table sample_without_its_first_load ≡ 0x1050 ∷ 0 ∷ 2 ∷ 1 ∷ 4097 ∷ []
  pub first_bytes_accepted : how_many 0 256 with_length_1 ≡ 207
  pub first_bytes_without_group : how_many 2 256 with_length_1 ≡ 41
  pub first_bytes_not_allowed : how_many 3 256 with_length_1 ≡ 8
  pub single_bytes : at_power_on 0xA1 ∷ at_power_on 0xE1 ∷ at_power_on 0x8A ∷ at_power_on 0x8E ∷ at_power_on 0x87 ∷ [] ≡ 0 ∷ 3 ∷ 0 ∷ 2 ∷ 4 ∷ []
  pub masked_match : equal_where_0 0x0F 0x30 0x3A ≡ true
  pub masked_mismatch : equal_where_0 0x0F 0x30 0x4A ≡ false
  pub second_byte_stops_at_the_third_read : search_marks 0x22 ≡ 1 ∷ 1 ∷ 3 ∷ []
  pub third_byte_ends_and_stops : search_marks 0x33 ≡ 1 ∷ 1 ∷ 1 ∷ 4 ∷ []
  pub last_byte_never_found : search_marks 0x44 ≡ 1 ∷ 1 ∷ 1 ∷ 2 ∷ []
  pub last_byte_sets_no_match : search_matched 0x44 ≡ false
  pub vector_of_a_match : vector_at true false ≡ 0x42
  pub vector_of_an_end : vector_at false true ≡ 0x44
  pub vector_of_both : vector_at true true ≡ 0x46
  pub overlapping_copy : copied_up ≡ 1 ∷ 1 ∷ 1 ∷ []
