-- A working file, on which no public promise rests by itself: a message from its tape.
use Rattle.std.specs.Prelude.{◌≡◌, ◌==◌, ◌≤◌, ◌<◌, ◌^◌, ℕ, if◌then◌else◌, List, All, map, length, drop, slice_index}
use Rattle.fl_base.specs.Numbered.{core_id}
use Rattle.fl_monitor.specs.declared.message.MonitorMessage.{MonitorMessage}
use Rattle.fl_monitor.specs.declared.message.MonitorMessage.TheVariants.{OpenCircuit, CircuitOpened, CircuitRefused}
use Rattle.fl_monitor.specs.Intermon.{call_for, tape_for, HasWidths}

abbrev pub opening_on : List ℕ → MonitorMessage
opening_on tape =
    OpenCircuit (record { 0 = slice_index tape 0 }) (slice_index tape 1) (record { 0 = slice_index tape 2 }) (map core_id (drop 4 tape))

abbrev pub opened_on : List ℕ → MonitorMessage
opened_on tape = CircuitOpened (record { 0 = slice_index tape 0 })

abbrev pub refused_on : List ℕ → MonitorMessage
refused_on tape = CircuitRefused (record { 0 = slice_index tape 0 }) (slice_index tape 1)

-- by the message's number
abbrev pub message_on : ℕ → List ℕ → MonitorMessage
message_on number tape =
    if number == 0 then opening_on tape
    else if number == 1 then opened_on tape
    else refused_on tape

-- the numbers of an opening are there, and have their widths: those behind the fourth are its route
pub record IsOpeningTape (tape : List ℕ) : Type 0 where
  pub long : 4 ≤ length tape
  pub few : length tape ≤ 20
  pub circuit : slice_index tape 0 < 2 ^ 16
  pub binding : slice_index tape 1 < 2 ^ 32
  pub service : slice_index tape 2 < 2 ^ 32
  pub route : All (λ n. n < 2 ^ 8) (drop 4 tape)

pub record IsOpenedTape (tape : List ℕ) : Type 0 where
  pub long : 1 ≤ length tape
  pub circuit : slice_index tape 0 < 2 ^ 16

pub record IsRefusedTape (tape : List ℕ) : Type 0 where
  pub long : 2 ≤ length tape
  pub circuit : slice_index tape 0 < 2 ^ 16
  pub reason : slice_index tape 1 < 2 ^ 32

-- a message has this number and this tape
pub record IsTapeOfMessage (number : ℕ) (tape : List ℕ) : Type 0 where
  pub message : MonitorMessage
  pub widths : HasWidths message
  pub number_is : number ≡ (call_for message).msg
  pub tape_is : tape ≡ tape_for message
