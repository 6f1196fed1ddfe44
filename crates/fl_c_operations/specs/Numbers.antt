-- The numbers that cross: those of operations, and those of what they come to.
use Rattle.std.specs.Prelude.{ℕ, ◌==◌, if◌then◌else◌, Option, Some, None, Result, Ok, Err}
use Rattle.fl_link.specs.Faults.{put_number}
use Rattle.fl_endpoint.specs.Faults.{fault_number}
use Rattle.fl_c_operations.specs.declared.operation.Operation.{Operation}
use Rattle.fl_c_operations.specs.declared.operation.Operation.TheVariants.{Put, Take, Peek, Tell, Call, Write, Receive, Read}
use Rattle.fl_c_operations.specs.declared.operation.Operation.TheVariants.{Rule, Busy, Messages, Sizes, Next, Feed}
use Rattle.fl_c_operations.specs.declared.answer.Outcome.{Outcome}
use Rattle.fl_c_operations.specs.declared.answer.Outcome.TheVariants.{Fragment, Acknowledgement, Told, Wrote, NoRoom, Sending}
use Rattle.fl_c_operations.specs.declared.answer.Outcome.TheVariants.{PartTaken, Held, Handled, CallRead, CallTaken, Counted, Sized, Freed}
use Rattle.fl_c_operations.specs.declared.answer.UseFault.{UseFault}
use Rattle.fl_c_operations.specs.declared.answer.UseFault.TheVariants.{NoSuchOperation, WrongRoom, ShortRoom, Unread, OnlyAcknowledges, Link, End}
use Rattle.fl_c_operations.specs.declared.answer.UseFault.TheVariants.{Unwritten, HandledShort, HandledMemory}
use Rattle.fl_c_operations.specs.declared.answer.Answered.{Answered}

-- the operation of this number; 5 frees what a handle leads to, and 16 and 17 are two operations in one
abbrev pub operation_at : ℕ → Option Operation
operation_at n =
    if n == 1 then Some Put
    else (if n == 2 then Some Take
    else (if n == 3 then Some Peek
    else (if n == 4 then Some Tell
    else (if n == 6 then Some Call
    else (if n == 7 then Some Write
    else (if n == 8 then Some Receive
    else (if n == 9 then Some Read
    else (if n == 10 then Some Rule
    else (if n == 11 then Some Busy
    else (if n == 12 then Some Messages
    else (if n == 13 then Some Sizes
    else (if n == 14 then Some Next
    else (if n == 15 then Some Feed else None)))))))))))))

abbrev pub fault_of : UseFault → ℕ
fault_of NoSuchOperation = 101
fault_of WrongRoom = 103
fault_of (ShortRoom wanted) = 103
fault_of Unread = 105
fault_of OnlyAcknowledges = 63
fault_of (Link fault) = put_number fault
fault_of (End fault) = fault_number fault
fault_of (Unwritten fault) = fault_number fault
fault_of (HandledShort wanted) = 103
fault_of HandledMemory = 99

-- how many numbers are wanted, where there are too few
abbrev pub wanted_of : UseFault → ℕ
wanted_of (ShortRoom wanted) = wanted
wanted_of (HandledShort wanted) = wanted
wanted_of fault = 0

-- what was come to before a fault: no fragment of an accepted call is written, or a call was handled
abbrev pub reached_of : UseFault → ℕ
reached_of (Unwritten fault) = 2
reached_of (HandledShort wanted) = 4
reached_of HandledMemory = 4
reached_of fault = 0

-- which of the things that an operation may come to; of a message, how many bytes its longest payload has
abbrev pub what_of : Outcome → ℕ
what_of Fragment = 1
what_of Told = 1
what_of Sending = 1
what_of PartTaken = 1
what_of (Wrote left) = 1
what_of (CallRead count) = 1
what_of Acknowledgement = 2
what_of NoRoom = 2
what_of Held = 3
what_of Handled = 4
what_of (CallTaken count) = 4
what_of (Sized bytes numbers) = bytes
what_of (Freed align size) = align
what_of outcome = 0

-- how many numbers there are to read, or fragments left, or messages, or numbers on the longest tape
abbrev pub count_of : Outcome → ℕ
count_of Fragment = 8
count_of (Wrote left) = left
count_of (CallRead count) = count
count_of (CallTaken count) = count
count_of (Counted count) = count
count_of (Sized bytes numbers) = numbers
count_of (Freed align size) = size
count_of outcome = 0

-- what C is answered
abbrev pub answer_of : Result Outcome UseFault → Answered
answer_of (Ok outcome) = record { fault = 0; what = what_of outcome; count = count_of outcome }
answer_of (Err fault) = record { fault = fault_of fault; what = reached_of fault; count = wanted_of fault }
