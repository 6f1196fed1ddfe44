-- What commands do with files. Public promises rest on this file.
use Rattle.std.specs.Prelude.{◌≡◌, Bool, true, false, List, [], ◌∷◌, ◌++◌, ℕ, Option, None, Some, Result, Ok, Err}
use Rattle.std.specs.IoError.{error_kind}
use Rattle.std.specs.declared.io.Error.{Error}
use Rattle.std.specs.declared.io.ErrorKind.{ErrorKind}
use Rattle.flounder_commands.specs.declared.files.FileKind.{FileKind}
use Rattle.flounder_commands.specs.declared.files.FileKind.TheVariants.{Text, TextOrImage, Cores, Script}

-- So many bytes of a file of a kind are read at most: one more than any interface's text, any image (of which none has over 2 ^ 30) and any
-- cores file has.
abbrev pub most_read : FileKind → ℕ
most_read Text = 65537
most_read TextOrImage = 1073741825
most_read Cores = 1048577
most_read Script = 1048577

-- A file, by its path, was read, or its first bytes were where it has more than are read of its kind; or it was written whole; or that
-- failed with an error of some kind.
pub data FileEffect : Type 0 where
  was_read : List ℕ → List ℕ → FileEffect
  was_not_read : List ℕ → ErrorKind → FileEffect
  was_written : List ℕ → List ℕ → FileEffect
  was_not_written : List ℕ → ErrorKind → FileEffect

-- Log entries were done, and a store that tells of its effects told of these. A store may stop telling, as where it has no room to write
-- them down; one that doesn't tell never tells again.
abbrev pub Tells : Option (List FileEffect) → Option (List FileEffect) → List FileEffect → Type 0
Tells None None effects = Unit {0}
Tells None (Some after) effects = ⊥
Tells (Some before) None effects = Unit {0}
Tells (Some before) (Some after) effects = after ≡ before ++ effects

-- one effect was done
abbrev pub Adds : Option (List FileEffect) → Option (List FileEffect) → FileEffect → Type 0
Adds old new effect = Tells old new (effect ∷ [])

-- a file was to be read; its bytes are a view of what came back
abbrev pub reading : {V : Type 0} → (V → List ℕ) → List ℕ → Result V Error → FileEffect
reading view path (Ok v) = was_read path (view v)
reading view path (Err e) = was_not_read path (error_kind e)

-- a file was to be written
abbrev pub writing : {V : Type 0} → List ℕ → List ℕ → Result V Error → FileEffect
writing path bytes (Ok v) = was_written path bytes
writing path bytes (Err e) = was_not_written path (error_kind e)

-- some effects were done, of which a property holds
abbrev pub Does : Option (List FileEffect) → Option (List FileEffect) → (List FileEffect → Type 0) → Type 0
Does old new Property = (effects : List FileEffect) × Tells old new effects × Property effects

-- a effect as a store may write it down: whether it was a read, the path, the bytes, and the error's kind where it failed
abbrev pub effect_of : Bool → List ℕ → List ℕ → Option ErrorKind → FileEffect
effect_of true path bytes None = was_read path bytes
effect_of true path bytes (Some kind) = was_not_read path kind
effect_of false path bytes None = was_written path bytes
effect_of false path bytes (Some kind) = was_not_written path kind
