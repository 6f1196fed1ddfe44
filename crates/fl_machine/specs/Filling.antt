-- Working file: how the bytes of a fragment fill.
use Rattle.std.specs.Prelude.{◌≡◌, ℕ, ◌<◌, ◌≤◌, List, ◌++◌, length, slice_index}
use Rattle.fl_stub.specs.declared.op.Op.{Op}
use Rattle.fl_stub.specs.Meaning.{number_bytes}
use Rattle.fl_stub.specs.Locations.{TheEndLocation, IsLocation, bytes_from}

-- a fragment's bytes are those put into it, zeros after them
pub record Holds (buffer put : List ℕ) : Type 0 where
  pub each : (i : ℕ) → i < 56 → slice_index buffer i ≡ slice_index put i

-- more bytes put behind those that were put, up to a place: those that a location gives, and another location the rest
pub record Puts (ops : List Op) (s t : TheEndLocation) (put buffer : List ℕ) (end : ℕ) : Type 0 where
  pub more : List ℕ
  pub location : IsLocation ops t
  pub bytes : bytes_from ops s ≡ more ++ bytes_from ops t
  pub holds : Holds buffer (put ++ more)
  pub long : length (put ++ more) ≡ end
  pub longer : length put < end
  pub within : end ≤ 56

-- the bytes of a number given, and another location the rest
pub record RunOn (ops : List Op) (s t : TheEndLocation) : Type 0 where
  pub location : IsLocation ops t
  pub bytes : bytes_from ops s ≡ number_bytes s.width s.value ++ bytes_from ops t

-- bytes put, or none, with room for one more
pub record PutsRun (ops : List Op) (s t : TheEndLocation) (put buffer : List ℕ) (end : ℕ) : Type 0 where
  pub more : List ℕ
  pub bytes : bytes_from ops s ≡ more ++ bytes_from ops t
  pub holds : Holds buffer (put ++ more)
  pub long : length (put ++ more) ≡ end
