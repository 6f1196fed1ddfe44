-- Standard input and standard output over a run; public promises rest on this file. Standard output is a buffer, and behind it the writer that gets the bytes.
use Rattle.std.specs.Prelude.{◌≡◌, List, ℕ, Option}
use Rattle.std.specs.Io.Buffered.{writer_contents, writer_inner}
use Rattle.std.specs.Io.KnownBytes.{Appends}
use Rattle.std.specs.declared.io.buffered.BufWriter.{BufWriter}
use Rattle.fl_base.specs.Prefix.{IsPrefix}

-- what was put before and what was put in all, each with what the buffer kept back, and what reached the writer in all;
-- `None` where the writer doesn't tell
pub record Output : Type 0 where
  pub before : Option (List ℕ)
  pub put : Option (List ℕ)
  pub reached : Option (List ℕ)

abbrev pub output_of : {W A : Type 0} → (W → Option (List ℕ)) → BufWriter W A → BufWriter W A → Output
output_of contents old new = record {
  before = writer_contents contents old;
  put = writer_contents contents new;
  reached = contents (writer_inner new);
}

-- a text was put behind what was put before
abbrev pub Puts : Output → List ℕ → Type 0
Puts o text = Appends o.before o.put text

-- a prefix of a text was put
abbrev pub PutsPrefix : Output → List ℕ → Type 0
PutsPrefix o text = (prefix : List ℕ) × IsPrefix prefix text × Puts o prefix

-- a text was put, and all of it reached the writer: the buffer keeps nothing back
abbrev pub Prints : Output → List ℕ → Type 0
Prints o text = Puts o text × Appends o.before o.reached text

-- nothing was put
abbrev pub IsUntouched : Output → Type 0
IsUntouched o = o.put ≡ o.before

-- what standard input held and what is left of it, where it tells, and standard output
pub record Streams : Type 0 where
  pub input : Option (List ℕ)
  pub left : Option (List ℕ)
  pub output : Output

abbrev pub streams_of : {R W A : Type 0} → (R → Option (List ℕ)) → (W → Option (List ℕ)) → R → R → BufWriter W A → BufWriter W A → Streams
streams_of remaining contents input left old new = record {
  input = remaining input;
  left = remaining left;
  output = output_of contents old new;
}

-- nothing was read of standard input
abbrev pub IsUnread : Streams → Type 0
IsUnread io = io.left ≡ io.input
