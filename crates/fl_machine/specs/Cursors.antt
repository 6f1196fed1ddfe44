-- Working file: a cursor as a location of its code and tape.
use Rattle.std.specs.Prelude.{◌≡◌, ℕ, zero, suc, ◌+◌, ◌-◌, ◌%◌, ◌<◌, List, [], ◌∷◌, drop, slice_get, slice_index_or, Option, Some, None}
use Rattle.fl_stub.specs.declared.op.Op.{Op}
use Rattle.fl_stub.specs.declared.op.Op.TheVariants.{Emit, Times, Each, Back}
use Rattle.fl_stub.specs.Locations.{TheLoop, TheEndLocation, bytes_from, IsLocation}
use Rattle.fl_machine.specs.declared.cursor.Loop.{Loop}
use Rattle.fl_machine.specs.declared.cursor.SendCursor.{SendCursor}

abbrev pub loop_of : Loop → TheLoop
loop_of l = record { start = l.start; turns = l.turns }

-- what is read past the end of the stored loops
abbrev pub no_loop : Loop
no_loop = record { start = 0; turns = 0 }

-- the first so many loops, the last of them first
abbrev pub loops_of : List Loop → ℕ → List TheLoop
loops_of loops zero = []
loops_of loops (suc depth) = loop_of (slice_index_or loops depth no_loop) ∷ loops_of loops depth

-- where a run of send code stands: left of the tape are the numbers from the next on
abbrev pub location_of : List ℕ → SendCursor → TheEndLocation
location_of tape c = record {
  place = c.place;
  loops = loops_of c.loops c.depth;
  tape = drop c.next tape;
  at = c.phase;
  value = c.value;
  width = c.width;
}

-- the lowest byte of a number
abbrev pub low_byte : ℕ → ℕ
low_byte n = n % 256

-- how many loops are open inside a loop after an instruction; none at the loop's own end
abbrev pub inside_after : ℕ → Op → Option ℕ
inside_after inside (Times n) = Some (inside + 1)
inside_after inside Each = Some (inside + 1)
inside_after zero Back = None
inside_after (suc inside) Back = Some inside
inside_after inside op = Some inside

-- one byte given, from one location to another
pub record Gives (ops : List Op) (s t : TheEndLocation) (byte : ℕ) : Type 0 where
  pub location : IsLocation ops t
  pub bytes : bytes_from ops s ≡ byte ∷ bytes_from ops t

-- the innermost loop
abbrev pub inner_of : SendCursor → Loop
inner_of c = slice_index_or c.loops (c.depth - 1) no_loop

-- the turns that it makes after this one
abbrev pub turns_of : SendCursor → ℕ
turns_of c = (inner_of c).turns

-- the innermost loop is over one number alone, which is the one to be given
pub record IsRun (ops : List Op) (c : SendCursor) : Type 0 where
  pub deep : 0 < c.depth
  pub back : slice_get ops c.place ≡ Some Back
  pub emit : slice_get ops (inner_of c).start ≡ Some (Emit c.width)
  pub start : c.place ≡ (inner_of c).start + 1
