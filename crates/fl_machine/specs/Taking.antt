-- Working file: a run of receive code that stands between two bytes of a call.
use Rattle.std.specs.Prelude.{◌≡◌, ◌≢◌, ℕ, suc, ◌+◌, ◌-◌, ◌%◌, ◌^◌, ◌<◌, ◌≤◌, ◌⊎◌, true, false, List, [], ◌∷◌}
use Rattle.std.specs.Prelude.{◌++◌, flat_map, take, drop, length, slice_get, slice_index, slice_index_or}
use Rattle.std.specs.Prelude.{slice_set, Some}
use Rattle.fl_stub.specs.declared.op.Op.{Op}
use Rattle.fl_stub.specs.declared.op.Op.TheVariants.{Back, ReadText}
use Rattle.fl_stub.specs.declared.mark.ByteKind.{ByteKind}
use Rattle.fl_stub.specs.declared.mark.ByteKind.TheVariants.{Length}
use Rattle.fl_machine.specs.declared.cursor.Loop.{Loop}
use Rattle.fl_stub.specs.Frames.{block_of}
use Rattle.fl_stub.specs.Meaning.{Turns, number_bytes}
use Rattle.fl_stub.specs.Given.{bytes_given}
use Rattle.fl_stub.specs.Streams.{Follows, BeginsPayload, IsPayload, LeavesPayloads}
use Rattle.fl_stub.specs.Rests.{TheField, Rest, rest_all, rest_from, steps_left, left_behind, is_taken}
use Rattle.fl_stub.specs.Rests.{taken_field, is_silent}
use Rattle.fl_stub.specs.Rests.{Reaches, LeadsTo, IsPartOfField, IsStance}
use Rattle.fl_machine.specs.declared.intake.ByteField.{ByteField}
use Rattle.fl_machine.specs.declared.intake.RecvCursor.{RecvCursor}
use Rattle.fl_machine.specs.Cursors.{loops_of, no_loop}

-- the bytes of words, little-endian
abbrev pub words_bytes : List ℕ → List ℕ
words_bytes words = flat_map (number_bytes 8) words

-- the numbers taken, and what is known of the next
abbrev pub so_far : List ℕ → RecvCursor → List ℕ
so_far taken c = taken ++ c.value ∷ []

-- its numbers are those from the least on and below the bound, so the bound is one above the last
abbrev pub field_view : ByteField → TheField
field_view f = record { mark = f.mark; width = f.width; least = f.least; bound = f.last + 1; told = f.told }

-- what is left of the code at a place in the payload
abbrev pub rest_of : List Op → RecvCursor → ℕ → Rest
rest_of ops c at = rest_from ops c.place (loops_of c.loops c.depth) at

-- the run stands at a place of the code, in the loops that are open there
abbrev pub IsTaking : List Op → RecvCursor → Type 0
IsTaking ops c = IsStance ops c.place (loops_of c.loops c.depth)

-- no byte, or some bytes of the next field, wait for the others
abbrev pub IsWaiting : Rest → RecvCursor → Type 0
IsWaiting r c = ((c.have ≡ 0) × (c.value ≡ 0)) ⊎ IsPartOfField r c.have c.value

-- the next instruction takes bytes, or is the last
abbrev pub IsAtField : List Op → RecvCursor → Type 0
IsAtField ops c = (op : Op) → slice_get ops c.place ≡ Some op → is_silent op c.phase ≡ false

-- where a run stands after these bytes
pub record IsAt (ops : List Op) (taken : List ℕ) (c : RecvCursor) (bytes : List ℕ) : Type 0 where
  pub done : List ℕ
  pub stance : IsTaking ops c
  pub phase : c.phase % 8 ≡ length done % 8
  pub reach : Reaches (rest_all (block_of ops)) (rest_of ops c (length done)) taken done
  pub waiting : IsWaiting (rest_of ops c (length done)) c
  pub bytes_are : bytes ≡ done ++ number_bytes c.have c.value
  pub quiet : c.have ≢ 0 → IsAtField ops c

-- a run of receive code stands after these bytes, having taken these numbers from them
pub record Stands (ops : List Op) (taken : List ℕ) (c : RecvCursor) (bytes : List ℕ) : Type 0 where
  pub at : IsAt ops taken c bytes
  pub shows : Follows (length bytes) bytes (bytes_given (block_of ops) (so_far taken c))

-- what the words of a fragment come to, behind the bytes where a run stands: the run goes on behind them, and
-- they are some of the first bytes of a payload. Of the numbers taken only the last lie on the tape, behind
-- those before
abbrev pub TakesPart : List Op → List ℕ → RecvCursor → List ℕ → List ℕ → RecvCursor → Type 0
TakesPart ops tape c words after d = (before bytes : List ℕ)
    → Stands ops (before ++ take c.count tape) c bytes
    → Stands ops (before ++ take d.count after) d (bytes ++ words_bytes words)
    × BeginsPayload (block_of ops) (bytes ++ words_bytes words)

-- they are a whole payload, with these numbers
abbrev pub TakesWhole : List Op → List ℕ → RecvCursor → List ℕ → List ℕ → Type 0
TakesWhole ops tape c words taken = (before bytes : List ℕ) → Stands ops (before ++ take c.count tape) c bytes
    → IsPayload (block_of ops) (bytes ++ words_bytes words) (before ++ taken)

-- no payload begins so
abbrev pub TakesWrong : List Op → List ℕ → RecvCursor → List ℕ → ByteKind → Type 0
TakesWrong ops tape c words mark = (before bytes : List ℕ) → Stands ops (before ++ take c.count tape) c bytes
    → LeavesPayloads (block_of ops) (bytes ++ words_bytes words) mark

-- a run stands after some bytes, having taken these numbers, and others are still to be taken
pub record IsFed (ops : List Op) (taken : List ℕ) (c : RecvCursor) (all left : List ℕ) : Type 0 where
  pub prefix : List ℕ
  pub at : IsAt ops taken c prefix
  pub joined : all ≡ prefix ++ left

-- the bytes of a fragment from a place on
abbrev pub bytes_left : List ℕ → ℕ → List ℕ
bytes_left buffer used = drop used (take 56 buffer)

-- a run whose numbers are those taken before and then the first of a tape, with these bytes still to be taken
abbrev pub IsFedBy : List Op → List ℕ → List ℕ → RecvCursor → List ℕ → List ℕ → Type 0
IsFedBy ops before tape c all left = IsFed ops (before ++ take c.count tape) c all left

-- a tape of so many places has room, behind so many numbers, for those of so many bytes: it has room for
-- those of each payload, or for one a byte
abbrev pub HasRoom : List Op → ℕ → ℕ → ℕ → Type 0
HasRoom ops count left places =
    ((t full : List ℕ) → Turns (block_of ops) t full → length t ≤ places) ⊎ (count + left ≤ places)

-- an instruction that takes bytes, and what it takes
pub record HasField (ops : List Op) (c : RecvCursor) (f : ByteField) : Type 0 where
  pub op : Op
  pub there : slice_get ops c.place ≡ Some op
  pub taken : is_taken op ≡ true
  pub view : (at : ℕ) → c.phase % 8 ≡ at % 8 → field_view f ≡ taken_field op at
  pub wide : 0 < f.width

-- past instructions that take no bytes
pub record Passes (ops : List Op) (c d : RecvCursor) : Type 0 where
  pub stance : IsTaking ops d
  pub leads : (at : ℕ) → c.phase % 8 ≡ at % 8 → LeadsTo (rest_of ops c at) (rest_of ops d at)
  pub others : d ≡ record c { place = d.place; loops = d.loops; depth = d.depth }

-- past one of these
pub record PassesOne (ops : List Op) (c d : RecvCursor) : Type 0 where
  pub passes : Passes ops c d
  pub steps : steps_left (rest_of ops c c.phase) ≡ suc (steps_left (rest_of ops d c.phase))

-- past an instruction that has got its bytes
pub record StepsOver (ops : List Op) (c d : RecvCursor) (f : ByteField) (x : ℕ) : Type 0 where
  pub stance : IsTaking ops d
  pub rest : (at : ℕ) → c.phase % 8 ≡ at % 8 → rest_of ops d (at + f.width) ≡ left_behind (rest_of ops c at) x
  pub phase : d.phase % 8 ≡ (c.phase + f.width) % 8
  pub idle : d.have ≡ 0
  pub none : d.value ≡ 0
  pub count : d.count ≡ c.count

-- so many bytes more of a number, which are the first of those that were left
pub record Grows (have value low n : ℕ) (left rest : List ℕ) : Type 0 where
  pub bytes : number_bytes have value ++ left ≡ number_bytes (have + n) low ++ rest
  pub small : low < 256 ^ (have + n)
  pub same : low % 256 ^ have ≡ value

-- each byte from one place up to another is 0
abbrev pub AreZeros : List ℕ → ℕ → ℕ → Type 0
AreZeros buffer from end = (i : ℕ) → from ≤ i → i < end → slice_index buffer i ≡ 0

-- of a fragment's 56 bytes from a place on, the first that isn't 0
pub record FirstSet (buffer : List ℕ) (from : ℕ) : Type 0 where
  pub at : ℕ
  pub from_there : from ≤ at
  pub inside : at < 56
  pub zeros : AreZeros buffer from at
  pub wrong : slice_index buffer at ≢ 0

-- the innermost loop
abbrev pub inner_loop : RecvCursor → Loop
inner_loop c = slice_index_or c.loops (c.depth - 1) no_loop

-- a loop so many turns later
abbrev pub turned : Loop → ℕ → Loop
turned l many = record { start = l.start; turns = l.turns - many }

-- the innermost loop is over one number alone, which is the one to be taken
pub record IsRunOf (ops : List Op) (c : RecvCursor) (f : ByteField) : Type 0 where
  pub deep : 0 < c.depth
  pub idle : c.have ≡ 0
  pub told : f.told ≡ true
  pub no_length : f.mark ≢ Length
  pub start : (inner_loop c).start ≡ c.place
  pub back : slice_get ops (c.place + 1) ≡ Some Back

-- bytes from a least one up to a greatest
abbrev pub AreWithin : ℕ → ℕ → List ℕ → Type 0
AreWithin least last [] = Unit {0}
AreWithin least last (x ∷ bytes) = (x < 256) × (least ≤ x) × (x ≤ last) × AreWithin least last bytes

-- so many bytes further in a loop over one byte
abbrev pub after_bytes : RecvCursor → ℕ → RecvCursor
after_bytes c many = record c {
  loops = slice_set c.loops (c.depth - 1) (turned (inner_loop c) many);
  count = c.count + many;
  phase = (c.phase % 8 + many) % 8;
}

-- in a loop over one number, with so many turns after this one, behind so many numbers, at this place in the
-- payload
abbrev pub run_at : RecvCursor → ℕ → ℕ → ℕ → RecvCursor
run_at c left count phase = record c {
  loops = slice_set c.loops (c.depth - 1) (record { start = (inner_loop c).start; turns = left });
  count = count;
  phase = phase;
}

-- no byte is 0
abbrev pub AreSet : List ℕ → Type 0
AreSet [] = Unit {0}
AreSet (x ∷ bytes) = (0 < x) × AreSet bytes

-- the innermost loop is over one byte of a text alone, which is the one to be taken
pub record IsTextRun (ops : List Op) (c : RecvCursor) : Type 0 where
  pub deep : 0 < c.depth
  pub idle : c.have ≡ 0
  pub start : (inner_loop c).start ≡ c.place
  pub text : slice_get ops c.place ≡ Some ReadText
  pub back : slice_get ops (c.place + 1) ≡ Some Back

-- as many turns later as a fragment has bytes
abbrev pub after_fragment : RecvCursor → RecvCursor
after_fragment c = record c { loops = slice_set c.loops (c.depth - 1) (turned (inner_loop c) 56) }

-- the bytes of a fragment's words are taken, and others follow
abbrev pub PassesText : List Op → RecvCursor → List ℕ → RecvCursor → Type 0
PassesText ops c words d = (taken bytes : List ℕ)
    → Stands ops taken c bytes
    → Stands ops (taken ++ words_bytes words) d (bytes ++ words_bytes words)
    × BeginsPayload (block_of ops) (bytes ++ words_bytes words)
