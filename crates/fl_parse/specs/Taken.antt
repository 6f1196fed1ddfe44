-- A working file: one more item of a list.
use Rattle.std.specs.Prelude.{◌≡◌, List, [], ◌∷◌, ◌++◌, Ok}
use Rattle.fl_lex.specs.Token.{TheToken}
use Rattle.fl_parse.specs.Reading.{Read}

-- an item was read, and stands behind those before it
pub record Took {A : Type 0} (read : Read A) (before after : List A) (rest : List TheToken) : Type 0 where
  pub item : A
  pub is : read ≡ Ok (item, rest)
  pub more : after ≡ before ++ item ∷ []
