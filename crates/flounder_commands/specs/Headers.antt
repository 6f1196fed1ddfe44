-- What `header` does with files and standard output. Public promises rest on this file.
use Rattle.std.specs.Prelude.{◌≡◌, ◌⊎◌, ℕ, List, [], ◌∷◌}
use Rattle.flounder_show.specs.Content.{HasHeader}
use Rattle.flounder_commands.specs.Commands.{Unread, NotShown}
use Rattle.flounder_commands.specs.FileEffects.{FileEffect, was_read}
use Rattle.flounder_commands.specs.Streams.{Output, PutsPrefix, Prints, IsUntouched}

-- FILE was read, and the header of its interface was printed, and nothing else
pub record Headed (file : List ℕ) (output : Output) (effects : List FileEffect) (status : ℕ) : Type 0 where
  pub bytes : List ℕ
  pub header : List ℕ
  pub has : HasHeader bytes header
  pub printed : Prints output header
  pub done : effects ≡ was_read file bytes ∷ []
  pub ends : status ≡ 0

-- FILE was read, and of its interface's header a prefix was put, which may be all of it; the rest couldn't be put or written out
pub record HeadedInPart (file : List ℕ) (output : Output) (effects : List FileEffect) (status : ℕ) : Type 0 where
  pub bytes : List ℕ
  pub header : List ℕ
  pub has : HasHeader bytes header
  pub put : PutsPrefix output header
  pub done : effects ≡ was_read file bytes ∷ []
  pub ends : status ≡ 4

-- all that `header FILE` does: it reads FILE alone, and writes standard output alone
abbrev pub Heads : List ℕ → Output → ℕ → List FileEffect → Type 0
Heads file output status effects =
    Headed file output effects status
    ⊎ ((IsUntouched output × Unread file effects status)
    ⊎ (NotShown file output effects status ⊎ HeadedInPart file output effects status))
